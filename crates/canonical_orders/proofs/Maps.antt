-- Triangulated maps kept as lists.
use Rattle.std.proofs.Common.{◌≡◌, ℕ, ◌<◌, inl, inr, Bool, true, List, [], length, slice_index, refl, sym, ap, ◌∙◌, subst, arith}
use Rattle.std.proofs.lemmas.Bool.{both_ways, cases_lt}
use Rattle.std.proofs.lemmas.List.{nil_from_length}
use Rattle.permutations.specs.Permutation.{iterate}
use Rattle.permutations.specs.Relation.{connected}
use Rattle.permutations.proofs.Iterates.{iterate-below}
use Rattle.dart_maps.specs.Map.{twin}
use Rattle.dart_maps.proofs.Darts.{twin-below}
use Rattle.multigraph.specs.Graph.{edge_count}
use Rattle.multigraph.specs.Marks.{is_marked}
use Rattle.faces.specs.Euler.{tail, dart_count}
use Rattle.triangulations.specs.Listed.{ListedMap}
use Rattle.canonical_orders.specs.State.{IsTriangulatedMap, leads_on}

-- a walk stays among the darts
pub walk-below : (t : ListedMap) → IsTriangulatedMap t → (x : ℕ) → x < dart_count t.graph → (k d : ℕ) → d ≡ iterate (slice_index t.next) k x → d < dart_count t.graph
walk-below t i x l k d e = subst (λ (z : ℕ). z < dart_count t.graph) (sym e) (iterate-below (dart_count t.graph) (slice_index t.next) (slice_index t.previous) i.map.drawn.map k x l)

-- a dart leads to a vertex
pub head-inside : (t : ListedMap) → IsTriangulatedMap t → (d : ℕ) → d < dart_count t.graph → tail t.graph (twin d) < t.graph.vertex_count
head-inside t i d l = i.map.drawn.inside (twin d) (twin-below (edge_count t.graph) d l)

-- whether the dart that the walk has reached leads to a marked vertex
pub leads-at : (t : ListedMap) (on : List Bool) (x d : ℕ) (l : List ℕ) (v : ℕ) (b : Bool) → d ≡ iterate (slice_index t.next) (length l) (slice_index t.next x) → v ≡ tail t.graph (twin d) → is_marked on v ≡ b → leads_on t on x (length l) ≡ b
leads-at t on x d l v b e q s = ap (λ (z : ℕ). is_marked on (tail t.graph (twin z))) (sym e) ∙ ap (is_marked on) (sym q) ∙ s

-- there is a dart
pub some-dart : (t : ListedMap) → IsTriangulatedMap t → 0 < dart_count t.graph
some-dart t i = elim (cases_lt 0 (edge_count t.graph)) [
  | inl l ↦ omega (arith, l)
  | inr l ↦
      let none : t.graph.ends ≡ [] = nil_from_length t.graph.ends (omega (arith, l)) in
      absurd (both_ways (connected [] 0 1) refl (subst (λ (e : List (ℕ × ℕ)). connected e 0 1 ≡ true) none (i.map.connected 0 1 (omega (arith, i.map.three)) (omega (arith, i.map.three)))))
]
