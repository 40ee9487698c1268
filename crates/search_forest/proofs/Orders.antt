-- How long the order of the vertices is.
use Rattle.std.proofs.Common.{◌≡◌, ℕ, ◌<◌, ◌≤◌, true, List, length, refl, sym, ◌∙◌, arith}
use Rattle.permutations.specs.Members.{is_member, is_distinct}
use Rattle.permutations.proofs.Count.{count-within, count-all}
use Rattle.permutations.proofs.Arrangements.{count-list}
use Rattle.multigraph.specs.Graph.{Multigraph}
use Rattle.search_forest.specs.Forest.{ForestState}
use Rattle.search_forest.specs.Searching.{IsOver}
use Rattle.search_forest.proofs.Writes.{marked-in}

-- different numbers below n are at most n
pub short : (n : ℕ) (l : List ℕ) → is_distinct l ≡ true → ((x : ℕ) → is_member x l ≡ true → x < n) → length l ≤ n
short n l d w = omega (arith, count-list n (λ x. is_member x l) l d w (λ x h. refl), count-within n (λ x. is_member x l))

-- each vertex has one place in the order of a finished search
pub order-each : (g : Multigraph) (s : ForestState) → IsOver g s → length s.order ≡ g.vertex_count
order-each g s o = omega (
  arith,
  count-list g.vertex_count (λ x. is_member x s.order) s.order o.forest.ordered.distinct (λ v h. omega (arith, marked-in s.visited v (sym (o.forest.ordered.members v) ∙ h), o.forest.places.visited)) (λ x h. refl),
  count-all g.vertex_count (λ x. is_member x s.order) (λ x l. o.forest.ordered.members x ∙ o.visited x l),
)
