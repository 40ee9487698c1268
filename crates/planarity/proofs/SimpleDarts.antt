-- Darts of a simple graph: the vertices that a dart and its twin leave differ, and tell the dart.
use Rattle.std.proofs.Common.{◌≡◌, ◌≢◌, ℕ, ◌/◌, ◌<◌, ◌⊎◌, inl, inr, sym, ap, ◌∙◌, subst, arith}
use Rattle.multigraph.specs.Graph.{Multigraph, IsGraph, ends_of}
use Rattle.multigraph.proofs.OtherEnd.{other_end-differs}
use Rattle.graph_theory.specs.Triconnected.{AreParallel, IsSimple}
use Rattle.dart_maps.specs.Map.{twin}
use Rattle.dart_maps.proofs.Darts.{twin-cases, twin-twin, twin-edge, edge-twin}
use Rattle.faces.specs.Euler.{tail, dart_count}
use Rattle.faces.proofs.DartLemmas.{dart-edge, tail-end, tail-even, tail-odd}
use Rattle.faces.proofs.MapSteps.{tail-twin}

-- the two ends of a dart's edge are different
pub tail-other : (g : Multigraph) (d : ℕ) → IsGraph g → d < dart_count g → tail g (twin d) ≢ tail g d
tail-other g d ok l q = other_end-differs g (d / 2) (tail g d) ok (dart-edge g d l) (tail-end g d) (sym (tail-twin g d ok l) ∙ q)

-- they are the two ends of the edge, in one order or the other
pub tail-ends : (g : Multigraph) (d : ℕ) → (((ends_of g (d / 2)).0 ≡ tail g d) × ((ends_of g (d / 2)).1 ≡ tail g (twin d))) ⊎ (((ends_of g (d / 2)).0 ≡ tail g (twin d)) × ((ends_of g (d / 2)).1 ≡ tail g d))
tail-ends g d = elim (twin-cases d) [
  | inl w ↦ inl (sym (tail-even g d w.0), ap (λ e. (ends_of g e).1) (sym (twin-edge d)) ∙ sym (tail-odd g (twin d) (λ q. omega (arith, w.0, w.1, q))))
  | inr w ↦ inr (ap (λ e. (ends_of g e).0) (sym (twin-edge d)) ∙ sym (tail-even g (twin d) (omega (arith, w.0, w.1))), sym (tail-odd g d (λ q. omega (arith, w.0, q))))
]

-- darts that lead from one vertex to one other are of parallel edges
pub tails-parallel : (g : Multigraph) (c d : ℕ) → tail g c ≡ tail g d → tail g (twin c) ≡ tail g (twin d) → AreParallel g (c / 2) (d / 2)
tails-parallel g c d p q = elim (tail-ends g c) [
  | inl u ↦ elim (tail-ends g d) [
    | inl w ↦ inl (u.0 ∙ p ∙ sym w.0, u.1 ∙ q ∙ sym w.1)
    | inr w ↦ inr (u.0 ∙ p ∙ sym w.1, u.1 ∙ q ∙ sym w.0)
  ]
  | inr u ↦ elim (tail-ends g d) [
    | inl w ↦ inr (u.0 ∙ q ∙ sym w.1, u.1 ∙ p ∙ sym w.0)
    | inr w ↦ inl (u.0 ∙ q ∙ sym w.0, u.1 ∙ p ∙ sym w.1)
  ]
]

-- in a simple graph such darts are equal
pub simple-dart : (g : Multigraph) → IsGraph g → IsSimple g → (c d : ℕ) → c < dart_count g → d < dart_count g → tail g c ≡ tail g d → tail g (twin c) ≡ tail g (twin d) → c ≡ d
simple-dart g ok simple c d l k p q = elim (edge-twin c d (simple (c / 2) (d / 2) (dart-edge g c l) (dart-edge g d k) (tails-parallel g c d p q))) [
  | inl e ↦ e
  | inr e ↦ absurd (tail-other g d ok k (sym (ap (tail g) e) ∙ p))
]

-- and so are a dart and the twin of one that leads back
pub simple-twin : (g : Multigraph) → IsGraph g → IsSimple g → (c d : ℕ) → c < dart_count g → d < dart_count g → tail g c ≡ tail g (twin d) → tail g (twin c) ≡ tail g d → c ≡ twin d
simple-twin g ok simple c d l k p q = elim (edge-twin c d (simple (c / 2) (d / 2) (dart-edge g c l) (dart-edge g d k) parallel)) [
  | inl e ↦ absurd (tail-other g d ok k (sym p ∙ ap (tail g) e))
  | inr e ↦ e
]
  where
    parallel : AreParallel g (c / 2) (d / 2)
    parallel = subst (AreParallel g (c / 2)) (twin-edge d) (tails-parallel g c (twin d) p (q ∙ ap (tail g) (sym (twin-twin d))))
