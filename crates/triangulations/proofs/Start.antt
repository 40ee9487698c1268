-- The map of a plane rotation system of a connected simple graph, from which a triangulation is made.
use Rattle.std.proofs.Common.{◌≡◌, ℕ, ◌/◌, ◌<◌, ◌≤◌, ◌⊎◌, inl, inr, ltb, List, [], slice_index, refl, sym, ap, ◌∙◌, subst, arith}
use Rattle.std.proofs.lemmas.Bool.{lt-ltb}
use Rattle.std.proofs.lemmas.List.{append-nil}
use Rattle.permutations.proofs.Permutations.{permutes-ext}
use Rattle.permutations.proofs.Restriction.{restricted-next}
use Rattle.dart_maps.specs.Map.{twin, IsMap}
use Rattle.dart_maps.proofs.Darts.{twin-cases, twin-edge, edge-twin}
use Rattle.multigraph.specs.Graph.{Multigraph, IsGraph, edge_count, ends_of}
use Rattle.graph_theory.specs.Connected.{IsConnected}
use Rattle.graph_theory.specs.Triconnected.{AreParallel, IsSimple}
use Rattle.faces.specs.Euler.{tail, dart_count, IsPlaneSystem}
use Rattle.faces.specs.Maps.{dart_after, dart_before}
use Rattle.faces.proofs.DartLemmas.{dart-edge, tail-end, tail-even, tail-odd}
use Rattle.faces.proofs.MapSteps.{tail-twin, map-permutes}
use Rattle.multigraph.proofs.OtherEnd.{other_end-differs}
use Rattle.drawn_maps.proofs.Systems.{to-drawn}
use Rattle.triangulations.specs.Cutting.{IsFilled}
use Rattle.triangulations.specs.Listed.{ListedMap, IsMapFrom, IsFilledMap}
use Rattle.triangulations.proofs.Cut.{drawn-same}

-- the ends of a dart's edge, in one order or the other
dart-ends : (g : Multigraph) (d : ℕ) → (((ends_of g (d / 2)).0 ≡ tail g d) × ((ends_of g (d / 2)).1 ≡ tail g (twin d))) ⊎ (((ends_of g (d / 2)).0 ≡ tail g (twin d)) × ((ends_of g (d / 2)).1 ≡ tail g d))
dart-ends g d = elim (twin-cases d) [
  | inl w ↦ inl (sym (tail-even g d w.0), ap (λ e. (ends_of g e).1) (sym (twin-edge d)) ∙ sym (tail-odd g (twin d) (λ q. omega (arith, w.0, w.1, q))))
  | inr w ↦ inr (ap (λ e. (ends_of g e).0) (sym (twin-edge d)) ∙ sym (tail-even g (twin d) (omega (arith, w.0, w.1))), sym (tail-odd g d (λ q. omega (arith, w.0, q))))
]

darts-parallel : (g : Multigraph) (c d : ℕ) → tail g c ≡ tail g d → tail g (twin c) ≡ tail g (twin d) → AreParallel g (c / 2) (d / 2)
darts-parallel g c d p q = elim (dart-ends g c) [
  | inl u ↦ elim (dart-ends g d) [ inl w ↦ inl (u.0 ∙ p ∙ sym w.0, u.1 ∙ q ∙ sym w.1) | inr w ↦ inr (u.0 ∙ p ∙ sym w.1, u.1 ∙ q ∙ sym w.0) ]
  | inr u ↦ elim (dart-ends g d) [ inl w ↦ inr (u.0 ∙ q ∙ sym w.1, u.1 ∙ p ∙ sym w.0) | inr w ↦ inl (u.0 ∙ q ∙ sym w.0, u.1 ∙ p ∙ sym w.1) ]
]

-- in a simple graph darts that lead from one vertex to one other are equal
one-dart : (g : Multigraph) → IsGraph g → IsSimple g → (c d : ℕ) → c < dart_count g → d < dart_count g → tail g c ≡ tail g d → tail g (twin c) ≡ tail g (twin d) → c ≡ d
one-dart g ok simple c d l k p q = elim (edge-twin c d (simple (c / 2) (d / 2) (dart-edge g c l) (dart-edge g d k) (darts-parallel g c d p q))) [
  | inl e ↦ e
  | inr e ↦ absurd (other_end-differs g (d / 2) (tail g d) ok (dart-edge g d k) (tail-end g d) (sym (tail-twin g d ok k) ∙ sym (sym p ∙ ap (tail g) e)))
]

-- the map of the rotation system, told by functions that agree with it on the darts: no face has been filled
pub filled-none : (g : Multigraph) (r : List (List ℕ)) → IsGraph g → IsConnected g → 3 ≤ g.vertex_count → IsPlaneSystem g r → IsSimple g → (f b : ℕ → ℕ)
    → ((d : ℕ) → d < dart_count g → f d ≡ dart_after g r d) → ((d : ℕ) → d < dart_count g → b d ≡ dart_before g r d) → IsFilled g r 0 (edge_count g) g f b
filled-none g r ok connected three plane simple f b fs bs = record {
  map = record {
    drawn = drawn-same (edge_count g) g (dart_after g r) (dart_before g r) f b (to-drawn g r ok plane.system plane.plane) fs map;
    graph = ok;
    connected = connected;
    three = three;
    simple = one-dart g ok simple;
  };
  extends = record {
    more = [];
    vertices = refl;
    ends = sym (append-nil g.ends);
    orders = λ d l. restricted-next (dart_count g) (λ x. ltb x (dart_count g)) f b map d l (lt-ltb d (dart_count g) l) (lt-ltb (f d) (dart_count g) (map.forth d l)) ∙ fs d l;
  };
  triangles = λ d l w. elim w [ inl u ↦ absurd (omega (arith, u)) | inr u ↦ absurd (omega (arith, l, u)) ];
}
  where
    map : IsMap (edge_count g) f b
    map = permutes-ext (dart_count g) (dart_after g r) (dart_before g r) f b (map-permutes g r ok plane.system) fs bs

-- the same of the lists
pub start-filled : (g : Multigraph) (r : List (List ℕ)) → IsGraph g → IsConnected g → 3 ≤ g.vertex_count → IsPlaneSystem g r → IsSimple g → (t : ListedMap) → IsMapFrom g r t → IsFilledMap g r 0 t
start-filled g r ok connected three plane simple t from = subst (λ h. IsFilled g r 0 (edge_count h) h (slice_index t.next) (slice_index t.previous)) (sym from.graph)
    (filled-none g r ok connected three plane simple (slice_index t.next) (slice_index t.previous) from.next.entries from.previous.entries)
