use Rattle.std.proofs.Common.{ℕ, List, [], ◌∷◌, sym, subst}
use Rattle.contractions.specs.Labels.{AreAlike}
use Rattle.contractions.proofs.Labelling.{labelling-connected, labelling-alike}
use Rattle.contractions.proofs.labels.is_connected_without.Goals as goal

pub returns : goal.returns
returns c =
    let removed : List ℕ = c.args.x ∷ c.args.y ∷ c.args.z ∷ [] in
    let labels : List ℕ = c.in_ok-labels.labels.items in (
      λ t. labelling-connected c.args.g.now removed labels c.in_ok-labels.ensures.labelling c.in_ok-labels.ensures.number
          (subst (λ l. AreAlike removed l) c.deref.ensures.value (c.are_alike.ensures.alike t)),
      λ h. c.are_alike.ensures.exact (subst (λ l. AreAlike removed l) (sym c.deref.ensures.value) (labelling-alike c.args.g.now removed labels c.in_ok-labels.ensures.labelling c.in_ok-labels.ensures.number h)),
    )
