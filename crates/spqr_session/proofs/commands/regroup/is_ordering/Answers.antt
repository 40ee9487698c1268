use Rattle.std.proofs.Common.{List, ℕ, IsPermutation, sym, subst, ◌∙◌}
use Rattle.std.proofs.lemmas.Bool.Decides.{Decides-eqb}
use Rattle.std.proofs.lemmas.Slice.Eq.{slice_eq-Decides}
use Rattle.whole_embed.proofs.Orderings.{sorted-ordering, ordering-sorted}
use Rattle.spqr_session.proofs.commands.regroup.is_ordering.Goals as goal

pub returns : goal.returns
returns c =
    let sorted = c.sort_unstable.new.self.items in
    let same = slice_eq-Decides Decides-eqb _ _ _ c.eq.ensures in
    let p : IsPermutation c.args.edges.now sorted = subst (λ (l : List ℕ). IsPermutation l sorted) (c.in_ok-sorted.ensures.items) c.sort_unstable.ensures.permutation in (
      λ t. sorted-ordering c.args.at.now c.args.edges.now sorted p (sym c.as_slice.ensures.value ∙ same.0 t),
      λ q. same.1 (c.as_slice.ensures.value ∙ ordering-sorted c.args.at.now c.args.edges.now sorted c.requires p c.sort_unstable.ensures.sorted q),
    )
