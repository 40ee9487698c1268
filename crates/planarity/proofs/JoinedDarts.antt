-- Vertices that are joined have a dart from the one to the other; and which darts are kept when an edge is contracted.
use Rattle.std.proofs.Common.{◌≡◌, ℕ, ◌/◌, ◌<◌, ◌⊎◌, inl, inr, true, false, not, ◌&&◌, ◌==◌, refl, sym, ap, ◌∙◌, subst}
use Rattle.std.proofs.lemmas.Bool.{cases_eq, both_ways, and_parts, and_from, not-true, not_from_false, eq-eqb, eqb-true, ne_eqb, false_from_ne_true, true_from_ne_false}
use Rattle.permutations.specs.Count.{some, least}
use Rattle.permutations.proofs.Search.{some-from, some-witness, least-below, least-passes}
use Rattle.multigraph.specs.Graph.{Multigraph, IsGraph, edge_count, is_end, other_end}
use Rattle.multigraph.proofs.OtherEnd.{other_end-twice}
use Rattle.contractions.specs.Contraction.{are_adjacent, is_kept}
use Rattle.graph_theory.proofs.Ends.{end-cases}
use Rattle.dart_maps.specs.Map.{twin}
use Rattle.dart_maps.proofs.Darts.{twin-twin, twin-below, twin-edge}
use Rattle.faces.specs.Euler.{tail, dart_from, dart_count}
use Rattle.faces.proofs.DartLemmas.{dart-edge, tail-end, dart_from-edge, dart_from-below, dart_from-tail}
use Rattle.faces.proofs.MapSteps.{tail-twin}

-- a dart from u to v
abbrev pub DartFromTo : Multigraph → ℕ → ℕ → Type 0
DartFromTo g u v = (d : ℕ) × (d < dart_count g) × (tail g d ≡ u) × (tail g (twin d) ≡ v)

-- joined vertices have one
pub joined-dart : (g : Multigraph) → IsGraph g → (u v : ℕ) → are_adjacent g u v ≡ true → DartFromTo g u v
joined-dart g ok u v h =
    let w = some-witness (edge_count g) (λ f. is_end g u f && (other_end g f u == v)) h in
    let p = and_parts (is_end g u w.0) (other_end g w.0 u == v) w.2 in (
      dart_from g u w.0,
      dart_from-below g u w.0 w.1,
      dart_from-tail g u w.0 p.0,
      tail-twin g (dart_from g u w.0) ok (dart_from-below g u w.0 w.1) ∙ ap (λ f. other_end g f (tail g (dart_from g u w.0))) (dart_from-edge g u w.0) ∙ ap (other_end g w.0) (dart_from-tail g u w.0 p.0) ∙ eqb-true (other_end g w.0 u) v p.1,
    )

-- and the twin leads back
pub dart-turned : (g : Multigraph) (u v : ℕ) → DartFromTo g u v → DartFromTo g v u
dart-turned g u v w = (twin w.0, twin-below (edge_count g) w.0 w.1, w.3, ap (tail g) (twin-twin w.0) ∙ w.2)

-- and vertices with a dart are joined
pub dart-joined : (g : Multigraph) → IsGraph g → (u v d : ℕ) → d < dart_count g → tail g d ≡ u → tail g (twin d) ≡ v → are_adjacent g u v ≡ true
dart-joined g ok u v d l a b = some-from (edge_count g) (λ f. is_end g u f && (other_end g f u == v)) (d / 2) (dart-edge g d l)
    (and_from (is_end g u (d / 2)) (other_end g (d / 2) u == v) (subst (λ w. is_end g w (d / 2) ≡ true) a (tail-end g d))
    (eq-eqb (other_end g (d / 2) u) v (ap (other_end g (d / 2)) (sym a) ∙ sym (tail-twin g d ok l) ∙ b)))

-- the first dart that leads from u to v
abbrev pub dart_between : Multigraph → ℕ → ℕ → ℕ
dart_between g u v = least (dart_count g) (λ d. (tail g d == u) && (tail g (twin d) == v))

-- it does where there is one
pub between-is : (g : Multigraph) (u v d : ℕ) → d < dart_count g → tail g d ≡ u → tail g (twin d) ≡ v → (dart_between g u v < dart_count g) × (tail g (dart_between g u v) ≡ u) × (tail g (twin (dart_between g u v)) ≡ v)
between-is g u v d l a b =
    let found : some (dart_count g) (λ z. (tail g z == u) && (tail g (twin z) == v)) ≡ true = some-from (dart_count g) (λ z. (tail g z == u) && (tail g (twin z) == v)) d l (and_from (tail g d == u) (tail g (twin d) == v) (eq-eqb (tail g d) u a) (eq-eqb (tail g (twin d)) v b)) in
    let p = and_parts (tail g (dart_between g u v) == u) (tail g (twin (dart_between g u v)) == v) (least-passes (dart_count g) (λ z. (tail g z == u) && (tail g (twin z) == v)) found) in
    (least-below (dart_count g) (λ z. (tail g z == u) && (tail g (twin z) == v)) found, eqb-true (tail g (dart_between g u v)) u p.0, eqb-true (tail g (twin (dart_between g u v))) v p.1)

-- the other end of the edge of a dart that arrives at y is the vertex that the dart leaves
pub other-of : (g : Multigraph) → IsGraph g → (d y : ℕ) → d < dart_count g → tail g (twin d) ≡ y → other_end g (d / 2) y ≡ tail g d
other-of g ok d y l q = ap (other_end g (d / 2)) (sym q ∙ tail-twin g d ok l) ∙ other_end-twice g (d / 2) (tail g d) ok (dart-edge g d l) (tail-end g d)

-- a dart of another edge that neither leaves y nor arrives there is kept
pub kept-away : (g : Multigraph) → IsGraph g → (e x y d : ℕ) → d < dart_count g → (d / 2 ≡ e → ⊥) → (tail g d ≡ y → ⊥) → (tail g (twin d) ≡ y → ⊥) → is_kept g e x y (d / 2) ≡ true
kept-away g ok e x y d l n i j = and_from (not (d / 2 == e)) (not (is_end g y (d / 2) && are_adjacent g x (other_end g (d / 2) y)))
    (not_from_false (d / 2 == e) (ne_eqb (d / 2) e n))
    (not_from_false (is_end g y (d / 2) && are_adjacent g x (other_end g (d / 2) y)) (false_from_ne_true (is_end g y (d / 2) && are_adjacent g x (other_end g (d / 2) y)) (λ t.
    elim (end-cases g (d / 2) (tail g d) y (tail-end g d) (and_parts (is_end g y (d / 2)) (are_adjacent g x (other_end g (d / 2) y)) t).0) [
      | inl q ↦ i (sym q)
      | inr q ↦ j (tail-twin g d ok l ∙ sym q)
    ])))

-- one that arrives at y from a vertex that is not joined with x is kept
pub kept-private : (g : Multigraph) → IsGraph g → (e x y d : ℕ) → d < dart_count g → (d / 2 ≡ e → ⊥) → tail g (twin d) ≡ y → are_adjacent g x (tail g d) ≡ false → is_kept g e x y (d / 2) ≡ true
kept-private g ok e x y d l n q h = and_from (not (d / 2 == e)) (not (is_end g y (d / 2) && are_adjacent g x (other_end g (d / 2) y)))
    (not_from_false (d / 2 == e) (ne_eqb (d / 2) e n))
    (not_from_false (is_end g y (d / 2) && are_adjacent g x (other_end g (d / 2) y)) (false_from_ne_true (is_end g y (d / 2) && are_adjacent g x (other_end g (d / 2) y)) (λ t.
    both_ways (are_adjacent g x (tail g d)) h (subst (λ z. are_adjacent g x z ≡ true) (other-of g ok d y l q) (and_parts (is_end g y (d / 2)) (are_adjacent g x (other_end g (d / 2) y)) t).1))))

-- a dart that is not kept, and not of the contracted edge, is one of an edge from a vertex that is joined with both to y
pub record Dropped (g : Multigraph) (e x y z : ℕ) : Type 0 where
  pub back : ℕ
  pub over : ℕ
  pub back_dart : back < dart_count g
  pub over_dart : over < dart_count g
  pub which : (z ≡ back) ⊎ (z ≡ twin back)
  pub arrives : tail g (twin back) ≡ y
  pub leaves : tail g over ≡ x
  pub meets : tail g (twin over) ≡ tail g back

pub dropped-dart : (g : Multigraph) → IsGraph g → (e x y z : ℕ) → z < dart_count g → (z / 2 ≡ e → ⊥) → is_kept g e x y (z / 2) ≡ false → Dropped g e x y z
dropped-dart g ok e x y z l n h = elim (cases_eq (tail g (twin z)) y) [
  | inl q ↦ let w = joined-dart g ok x (tail g z) (common z l n q h) in
      record { back = z; over = w.0; back_dart = l; over_dart = w.1; which = inl refl; arrives = q; leaves = w.2; meets = w.3 }
  | inr o ↦ elim (cases_eq (tail g z) y) [
    | inl q ↦
        let there : tail g (twin (twin z)) ≡ y = ap (tail g) (twin-twin z) ∙ q in
        let w = joined-dart g ok x (tail g (twin z)) (common (twin z) (twin-below (edge_count g) z l) (λ i. n (sym (twin-edge z) ∙ i)) there (ap (is_kept g e x y) (twin-edge z) ∙ h)) in
        record { back = twin z; over = w.0; back_dart = twin-below (edge_count g) z l; over_dart = w.1; which = inr (sym (twin-twin z)); arrives = there; leaves = w.2; meets = w.3 }
    | inr i ↦ absurd (both_ways (is_kept g e x y (z / 2)) h (kept-away g ok e x y z l n i o))
  ]
]
  where
    common : (d : ℕ) → d < dart_count g → (d / 2 ≡ e → ⊥) → tail g (twin d) ≡ y → is_kept g e x y (d / 2) ≡ false → are_adjacent g x (tail g d) ≡ true
    common d k i q t = true_from_ne_false (are_adjacent g x (tail g d)) (λ u. both_ways (is_kept g e x y (d / 2)) t (kept-private g ok e x y d k i q u))

-- and a dart that arrives at y from a vertex joined with x is not kept
pub dropped-from : (g : Multigraph) → IsGraph g → (e x y d : ℕ) → d < dart_count g → tail g (twin d) ≡ y → are_adjacent g x (tail g d) ≡ true → is_kept g e x y (d / 2) ≡ false
dropped-from g ok e x y d l q h = false_from_ne_true (is_kept g e x y (d / 2)) (λ t. both_ways (is_end g y (d / 2) && are_adjacent g x (other_end g (d / 2) y))
    (not-true (is_end g y (d / 2) && are_adjacent g x (other_end g (d / 2) y)) (and_parts (not (d / 2 == e)) (not (is_end g y (d / 2) && are_adjacent g x (other_end g (d / 2) y))) t).1)
    (and_from (is_end g y (d / 2)) (are_adjacent g x (other_end g (d / 2) y))
    (subst (λ v. is_end g v (d / 2) ≡ true) q (subst (λ f. is_end g (tail g (twin d)) f ≡ true) (twin-edge d) (tail-end g (twin d))))
    (subst (λ v. are_adjacent g x v ≡ true) (sym (other-of g ok d y l q)) h)))
