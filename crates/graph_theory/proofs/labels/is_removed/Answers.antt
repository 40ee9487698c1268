use Rattle.std.proofs.Common.{◌≡◌, ℕ, ◌==◌, ◌||◌, List, [], ◌∷◌, refl, ap, ◌∙◌}
use Rattle.std.specs.List.{list_any}
use Rattle.permutations.specs.Members.{is_member}
use Rattle.graph_theory.proofs.labels.is_removed.Goals as goal

any-member : (x : ℕ) (l : List ℕ) → list_any (λ y. y == x) l ≡ is_member x l
any-member x [] = refl
any-member x (y ∷ l) = ap (λ t. (y == x) || t) (any-member x l)

pub returns : goal.returns
returns c = c.contains.ensures.value ∙ any-member c.args.number c.args.removed.now
