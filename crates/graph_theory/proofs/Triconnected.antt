-- At least four vertices, said by a list of them and by their number.
use Rattle.std.proofs.Common.{ℕ, ◌<◌, ◌≤◌, [], ◌∷◌, refl, arith}
use Rattle.std.proofs.lemmas.List.Elements.{All-cons, All-nil}
use Rattle.permutations.proofs.Arrangements.{all-member, count-list}
use Rattle.permutations.proofs.Count.{count-within}
use Rattle.permutations.specs.Members.{is_member}
use Rattle.multigraph.specs.Graph.{Multigraph}
use Rattle.graph_theory.specs.Triconnected.{HasAtLeast, IsVertexOf, IsTriconnected}

-- of n different numbers below m there are no more than m
pub at_least-number : (n m : ℕ) → HasAtLeast n (λ v. v < m) → n ≤ m
at_least-number n m h = omega (
  arith,
  h.enough,
  count-list m (λ x. is_member x h.vertices) h.vertices h.distinct (λ x i. all-member (λ v. v < m) h.vertices x h.are_vertices i) (λ x l. refl),
  count-within m (λ x. is_member x h.vertices),
)

-- a triconnected graph has at least four vertices
pub four-vertices : (g : Multigraph) → IsTriconnected g → 4 ≤ g.vertex_count
four-vertices g t = at_least-number 4 g.vertex_count t.four

-- a graph with four vertices or more has at least these
pub first-four : (g : Multigraph) → 4 ≤ g.vertex_count → HasAtLeast 4 (IsVertexOf g)
first-four g l = record {
  vertices = 0 ∷ 1 ∷ 2 ∷ 3 ∷ [];
  enough = omega arith;
  distinct = refl;
  are_vertices = All-cons P 0 (1 ∷ 2 ∷ 3 ∷ []) (omega (arith, l)) (All-cons P 1 (2 ∷ 3 ∷ []) (omega (arith, l)) (All-cons P 2 (3 ∷ []) (omega (arith, l)) (All-cons P 3 [] (omega (arith, l)) (All-nil P))));
}
  where
    P : ℕ → Type 0
    P v = v < g.vertex_count
