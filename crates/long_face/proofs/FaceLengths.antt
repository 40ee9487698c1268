-- The lengths of the faces of a rotation system: of each dart, how many darts have its number; and whether one of them is a given number.
use Rattle.std.proofs.Common.{◌≡◌, ℕ, zero, suc, ◌+◌, ◌<◌, ◌==◌, Bool, true, false, inl, inr, List, [], ◌∷◌, length, refl, sym, ap, ◌∙◌, subst, arith, eq-eqb, eqb-true}
use Rattle.std.specs.List.{list_any}
use Rattle.std.proofs.lemmas.Bool.{both_ways, or_left, or_right, or_cases}
use Rattle.permutations.specs.Count.{count}
use Rattle.permutations.proofs.Count.{count-ext, count-positive, last-passing}
use Rattle.multigraph.specs.Graph.{Multigraph, IsGraph, IsWithinLimits}
use Rattle.rotations.specs.Rotation.{IsRotationSystem}
use Rattle.faces.specs.Euler.{dart_count}
use Rattle.faces.specs.Steps.{AreFaceSteps}
use Rattle.skeleton_faces.specs.Faces.{on_one_face, face_length}
use Rattle.face_weights.specs.Numbers.{number_at, NumberFaces}
use Rattle.face_weights.specs.Sums.{weight_in}
use Rattle.long_face.specs.Longest.{HasFace}
use Rattle.long_face.specs.Present.{AreStepsOf}
use Rattle.long_face.proofs.Lengths.{listed-dart, dart-listed}

-- a number of a list
any-at : (x : ℕ) (l : List ℕ) → list_any (λ y. y == x) l ≡ true → (d : ℕ) × (d < length l) × (weight_in l d ≡ x)
any-at x [] t = absurd (both_ways false refl t)
any-at x (y ∷ l) t = elim (or_cases (y == x) (list_any (λ z. z == x) l) t) [
  | inl e ↦ (0, omega arith, eqb-true y x e)
  | inr e ↦ let w = any-at x l e in (suc w.0, omega (arith, w.1), w.2)
]

at-any : (x : ℕ) (l : List ℕ) (d : ℕ) → d < length l → weight_in l d ≡ x → list_any (λ y. y == x) l ≡ true
at-any x [] d m e = absurd (omega (arith, m))
at-any x (y ∷ l) zero m e = or_left (y == x) (list_any (λ z. z == x) l) (eq-eqb y x e)
at-any x (y ∷ l) (suc d) m e = or_right (y == x) (list_any (λ z. z == x) l) (at-any x l d (omega (arith, m)) e)

-- a number that passes, where the count is not zero
counted : (n : ℕ) (p : ℕ → Bool) → 0 < count n p → (x : ℕ) × (x < n) × (p x ≡ true)
counted n p l = let w = last-passing n p (omega (arith, l)) in (w.0, w.1, w.2)

-- how many darts have each number
module _ (g : Multigraph) (r : List (List ℕ)) (ok : IsGraph g) (system : IsRotationSystem g r) (numbers counts : List ℕ) (n : NumberFaces g r numbers) (places : length counts ≡ length numbers)
    (each : (t : ℕ) → t < length numbers → weight_in counts t ≡ count (length numbers) (λ d. t == number_at numbers d)) where
  -- the count of a dart's number is the length of its face
  long : (d : ℕ) → d < dart_count g → weight_in counts (number_at numbers d) ≡ face_length g r d
  long d l = each (number_at numbers d) (subst (λ z. number_at numbers d < z) (sym n.darts) (n.within d l))
      ∙ ap (λ z. count z (λ y. number_at numbers d == number_at numbers y)) n.darts
      ∙ count-ext (dart_count g) (λ y. number_at numbers d == number_at numbers y) (on_one_face g r d) (λ y m. n.same d y l m)

  -- each face has a dart
  some-dart : (d : ℕ) → d < dart_count g → 0 < face_length g r d
  some-dart d l = count-positive (dart_count g) (on_one_face g r d) d l (sym (n.same d d l l) ∙ eq-eqb (number_at numbers d) (number_at numbers d) refl)

  pub has-found : (len : ℕ) → 0 < len → list_any (λ y. y == len) counts ≡ true → HasFace g r len
  has-found len some t =
      let w = any-at len counts t in
      let l : w.0 < length numbers = subst (λ z. w.0 < z) places w.1 in
      let d = counted (length numbers) (λ d. w.0 == number_at numbers d) (omega (arith, some, w.2, each w.0 l)) in
      let m : d.0 < dart_count g = subst (λ z. d.0 < z) n.darts d.1 in
      let is : w.0 ≡ number_at numbers d.0 = eqb-true w.0 (number_at numbers d.0) d.2 in
      subst (HasFace g r) (sym (long d.0 m) ∙ sym (ap (weight_in counts) is) ∙ w.2) (dart-listed g r ok system d.0 m)

  pub has-none : (len : ℕ) → list_any (λ y. y == len) counts ≡ false → HasFace g r len → ⊥
  has-none len f h =
      let w = listed-dart g r ok system len h in
      let l : number_at numbers w.0 < length counts = subst (λ z. number_at numbers w.0 < z) (sym (places ∙ n.darts)) (n.within w.0 w.1) in
      both_ways (list_any (λ y. y == len) counts) f (at-any len counts (number_at numbers w.0) l (long w.0 w.1 ∙ w.2))

  pub none-empty : HasFace g r 0 → ⊥
  none-empty h =
      let w = listed-dart g r ok system 0 h in
      omega (arith, w.2, some-dart w.0 w.1)

-- face steps that were made of the parts of a block are those of its rotation system
pub steps-made : (g g1 g2 : Multigraph) (r r1 : List (List ℕ)) (steps : List ℕ) → IsGraph g1 → IsWithinLimits g1 → g1 ≡ g → IsRotationSystem g r → AreFaceSteps g2 r1 steps → g2 ≡ g → r1 ≡ r → AreStepsOf g r steps
steps-made g g1 g2 r r1 steps graph limits one system each two same = record {
  graph = subst IsGraph one graph;
  limits = subst IsWithinLimits one limits;
  system = system;
  each = subst (λ (z : Multigraph). AreFaceSteps z r steps) two (subst (λ (z : List (List ℕ)). AreFaceSteps g2 z steps) same each);
}
