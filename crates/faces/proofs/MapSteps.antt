-- The steps of the map of darts of a rotation system: round a vertex, and along a face.
use Rattle.std.proofs.Common.{◌≡◌, ℕ, ◌+◌, ◌/◌, ◌<◌, true, List, inl, inr, sym, ap, ap₂, ◌∙◌, arith}
use Rattle.permutations.specs.Cyclic.{successor, predecessor}
use Rattle.permutations.proofs.Successor.{predecessor-successor, successor-predecessor}
use Rattle.multigraph.specs.Graph.{Multigraph, IsGraph, edge_count, ends_of, is_end, other_end}
use Rattle.multigraph.proofs.OtherEnd.{other_end-of_first, other_end-of_second, end-in}
use Rattle.rotations.specs.Rotation.{order_at, IsRotationSystem}
use Rattle.dart_maps.specs.Map.{twin, face, IsMap}
use Rattle.dart_maps.proofs.Darts.{twin-cases, twin-edge}
use Rattle.faces.specs.Euler.{tail, dart_from, dart_count, face_step}
use Rattle.faces.specs.Maps.{dart_after, dart_before}
use Rattle.faces.proofs.DartLemmas.{dart-edge, tail-end, dart_from-edge, dart_from-below, tail-even, tail-odd, dart_from-tail, dart_from-of_dart, order-distinct, following, preceding, onward}

-- a dart leaves a vertex
pub tail-in : (g : Multigraph) (d : ℕ) → IsGraph g → d < dart_count g → tail g d < g.vertex_count
tail-in g d ok l = end-in g (tail g d) (d / 2) ok (dart-edge g d l) (tail-end g d)

-- the twin of a dart leaves the other end of its edge
pub tail-twin : (g : Multigraph) (d : ℕ) → IsGraph g → d < dart_count g → tail g (twin d) ≡ other_end g (d / 2) (tail g d)
tail-twin g d ok l = elim (twin-cases d) [
  | inl a ↦
      let half : (d + 1) / 2 ≡ d / 2 = omega (arith, a.0) in
      ap (tail g) a.1 ∙ tail-odd g (d + 1) (λ z. omega (arith, a.0, z)) ∙ ap (λ e. (ends_of g e).1) half ∙ sym (other_end-of_first g (d / 2) (tail g d) (sym (tail-even g d a.0)))
  | inr a ↦
      tail-even g (twin d) (omega (arith, a.0, a.1)) ∙ ap (λ e. (ends_of g e).0) (twin-edge d)
      ∙ sym (other_end-of_second g (d / 2) (tail g d) (sym (tail-odd g d (λ z. omega (arith, a.0, z)))) (ok.no_loop (d / 2) (dart-edge g d l)))
]

-- the step along a face of the map is the face step of the rotation system
pub map-face : (g : Multigraph) (r : List (List ℕ)) (d : ℕ) → IsGraph g → d < dart_count g → face (dart_after g r) d ≡ face_step g r d
map-face g r d ok l = ap₂ (onward g r) (tail-twin g d ok l) (twin-edge d)

-- the dart that comes before the dart of e round v
abbrev pub backward : Multigraph → List (List ℕ) → ℕ → ℕ → ℕ
backward g r v e = dart_from g v (predecessor (order_at r v) e)

-- the edge that follows a dart's edge, and the one before, are edges at the same vertex
after_ends : (g : Multigraph) (r : List (List ℕ)) (d : ℕ) → IsGraph g → IsRotationSystem g r → d < dart_count g
    → (successor (order_at r (tail g d)) (d / 2) < edge_count g) × (is_end g (tail g d) (successor (order_at r (tail g d)) (d / 2)) ≡ true)
after_ends g r d ok s l = following g r (tail g d) (d / 2) s (tail-in g d ok l) (dart-edge g d l) (tail-end g d)

before_ends : (g : Multigraph) (r : List (List ℕ)) (d : ℕ) → IsGraph g → IsRotationSystem g r → d < dart_count g
    → (predecessor (order_at r (tail g d)) (d / 2) < edge_count g) × (is_end g (tail g d) (predecessor (order_at r (tail g d)) (d / 2)) ≡ true)
before_ends g r d ok s l = preceding g r (tail g d) (d / 2) s (tail-in g d ok l) (dart-edge g d l) (tail-end g d)

-- the dart that follows leaves the same vertex, by the edge that follows
pub after-tail : (g : Multigraph) (r : List (List ℕ)) (d : ℕ) → IsGraph g → IsRotationSystem g r → d < dart_count g → tail g (dart_after g r d) ≡ tail g d
after-tail g r d ok s l = dart_from-tail g (tail g d) (successor (order_at r (tail g d)) (d / 2)) (after_ends g r d ok s l).1

pub after-edge : (g : Multigraph) (r : List (List ℕ)) (d : ℕ) → dart_after g r d / 2 ≡ successor (order_at r (tail g d)) (d / 2)
after-edge g r d = dart_from-edge g (tail g d) (successor (order_at r (tail g d)) (d / 2))

-- so does the dart before
pub before-tail : (g : Multigraph) (r : List (List ℕ)) (d : ℕ) → IsGraph g → IsRotationSystem g r → d < dart_count g → tail g (dart_before g r d) ≡ tail g d
before-tail g r d ok s l = dart_from-tail g (tail g d) (predecessor (order_at r (tail g d)) (d / 2)) (before_ends g r d ok s l).1

pub before-edge : (g : Multigraph) (r : List (List ℕ)) (d : ℕ) → dart_before g r d / 2 ≡ predecessor (order_at r (tail g d)) (d / 2)
before-edge g r d = dart_from-edge g (tail g d) (predecessor (order_at r (tail g d)) (d / 2))

-- the dart that follows the dart of e at v is that of the next edge
pub after-dart_from : (g : Multigraph) (r : List (List ℕ)) (v e : ℕ) → is_end g v e ≡ true → dart_after g r (dart_from g v e) ≡ dart_from g v (successor (order_at r v) e)
after-dart_from g r v e h = ap₂ (onward g r) (dart_from-tail g v e h) (dart_from-edge g v e)

-- the darts of a rotation system are a map
pub map-permutes : (g : Multigraph) (r : List (List ℕ)) → IsGraph g → IsRotationSystem g r → IsMap (edge_count g) (dart_after g r) (dart_before g r)
map-permutes g r ok s = record {
  forth = λ d l. dart_from-below g (tail g d) (successor (order_at r (tail g d)) (d / 2)) (after_ends g r d ok s l).0;
  back = λ d l. dart_from-below g (tail g d) (predecessor (order_at r (tail g d)) (d / 2)) (before_ends g r d ok s l).0;
  back_forth = λ d l. ap₂ (backward g r) (after-tail g r d ok s l) (after-edge g r d)
      ∙ ap (dart_from g (tail g d)) (predecessor-successor (order_at r (tail g d)) (d / 2) (order-distinct g r (tail g d) s (tail-in g d ok l)))
      ∙ dart_from-of_dart g d ok l;
  forth_back = λ d l. ap₂ (onward g r) (before-tail g r d ok s l) (before-edge g r d)
      ∙ ap (dart_from g (tail g d)) (successor-predecessor (order_at r (tail g d)) (d / 2) (order-distinct g r (tail g d) s (tail-in g d ok l)))
      ∙ dart_from-of_dart g d ok l;
}
