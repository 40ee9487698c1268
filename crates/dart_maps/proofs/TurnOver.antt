-- Turning over the part of a map that a test tells: its orbits and its faces.
use Rattle.std.proofs.Common.{◌≡◌, ℕ, ◌*◌, ◌<◌, inl, inr, Bool, true, false, cond, refl, sym, ap, ◌∙◌, subst, subst₂}
use Rattle.std.proofs.lemmas.Bool.{cases_Bool}
use Rattle.permutations.specs.Relation.{IsEquivalence}
use Rattle.permutations.specs.Permutation.{Permutes}
use Rattle.permutations.proofs.Relation.{same-tests}
use Rattle.permutations.proofs.Classes.{class_count-ext}
use Rattle.permutations.proofs.Orbits.{orbit-least, orbit-equivalence, orbit-step}
use Rattle.dart_maps.specs.Map.{twin, face, IsMap, same_vertex, same_face, vertex_count, face_count}
use Rattle.dart_maps.proofs.Darts.{twin-twin, twin-below, face-twin}
use Rattle.permutations.proofs.Renaming.{class_count-copy, equivalence-through}
use Rattle.permutations.proofs.TurnedOver.{turned_over, turned-outside, turned-inside, turned-keeps, turned-permutes, turned-orbit}

-- a map each step of which keeps the test, and the test tells whole edges
module _ (m : ℕ) (s r : ℕ → ℕ) (b : IsMap m s r) (t : ℕ → Bool) (keep : (d : ℕ) → d < 2 * m → t (s d) ≡ t d) (whole : (d : ℕ) → d < 2 * m → t (twin d) ≡ t d) where
  -- the twin inside, nothing outside
  unfoldable pub crossed : ℕ → ℕ
  crossed d = cond (t d) (twin d) d

  -- inside
  pub crossed-inside : (d : ℕ) → t d ≡ true → crossed d ≡ twin d
  unfolding crossed
  crossed-inside d h = rw h refl

  -- outside
  pub crossed-outside : (d : ℕ) → t d ≡ false → crossed d ≡ d
  unfolding crossed
  crossed-outside d h = rw h refl

  -- it stays among the darts
  crossed-below : (d : ℕ) → d < 2 * m → crossed d < 2 * m
  crossed-below d l = elim (cases_Bool (t d)) [
    | inl h ↦ subst (λ (z : ℕ). z < 2 * m) (sym (crossed-inside d h)) (twin-below m d l)
    | inr h ↦ subst (λ (z : ℕ). z < 2 * m) (sym (crossed-outside d h)) l
  ]

  -- twice is nothing
  crossed-twice : (d : ℕ) → d < 2 * m → crossed (crossed d) ≡ d
  crossed-twice d l = elim (cases_Bool (t d)) [
    | inl h ↦ ap crossed (crossed-inside d h) ∙ crossed-inside (twin d) (whole d l ∙ h) ∙ twin-twin d
    | inr h ↦ ap crossed (crossed-outside d h) ∙ crossed-outside d h
  ]

  -- so it permutes the darts
  crossed-permutes : Permutes (2 * m) crossed crossed
  crossed-permutes = record { forth = crossed-below; back = crossed-below; back_forth = crossed-twice; forth_back = crossed-twice }

  -- the map turned over
  abbrev over : ℕ → ℕ
  over = turned_over t s r

  -- its inverse
  over-map : IsMap m (turned_over t s r) (turned_over t r s)
  over-map = turned-permutes (2 * m) s r b t keep

  -- a face step of the map turned over, inside
  over-inside : (d : ℕ) → d < 2 * m → t d ≡ true → face over d ≡ r (twin d)
  over-inside d l h = turned-inside t s r (twin d) (whole d l ∙ h)

  -- and outside
  over-outside : (d : ℕ) → d < 2 * m → t d ≡ false → face over d ≡ face s d
  over-outside d l h = turned-outside t s r (twin d) (whole d l ∙ h)

  -- both face steps keep the test
  face-keeps : (d : ℕ) → d < 2 * m → t (face s d) ≡ t d
  face-keeps d l = keep (twin d) (twin-below m d l) ∙ whole d l

  -- the second of them
  over-keeps : (d : ℕ) → d < 2 * m → t (face over d) ≡ t d
  over-keeps d l = turned-keeps (2 * m) s r b t keep (twin d) (twin-below m d l) ∙ whole d l

  -- faces of the map
  plain : IsEquivalence (same_face m s)
  plain = orbit-equivalence (2 * m) (face s)

  -- and of the map turned over
  turned : IsEquivalence (same_face m (turned_over t s r))
  turned = orbit-equivalence (2 * m) (face (turned_over t s r))

  -- one way: a face step of the map turned over
  there : (d : ℕ) → d < 2 * m → same_face m s (crossed d) (crossed (face over d)) ≡ true
  there d l = elim (cases_Bool (t d)) [
    | inl h ↦ subst₂ (λ (u v : ℕ). same_face m s u v ≡ true) (sym (crossed-inside d h)) (sym (crossed-inside (face over d) (over-keeps d l ∙ h)))
        (plain.symmetric (twin (face over d)) (twin d) (subst (λ (z : ℕ). same_face m s (twin (face over d)) z ≡ true) (face-twin s (face over d) ∙ ap s (over-inside d l h) ∙ b.forth_back (twin d) (twin-below m d l)) (orbit-step (2 * m) (face s) (twin (face over d)) (twin-below m (face over d) (over-map.forth (twin d) (twin-below m d l))))))
    | inr h ↦ subst₂ (λ (u v : ℕ). same_face m s u v ≡ true) (sym (crossed-outside d h)) (sym (crossed-outside (face over d) (over-keeps d l ∙ h)))
        (subst (λ (z : ℕ). same_face m s d z ≡ true) (sym (over-outside d l h)) (orbit-step (2 * m) (face s) d l))
  ]

  -- the other way: a face step of the map
  here : (d : ℕ) → d < 2 * m → same_face m (turned_over t s r) (crossed d) (crossed (face s d)) ≡ true
  here d l = elim (cases_Bool (t d)) [
    | inl h ↦ subst₂ (λ (u v : ℕ). same_face m (turned_over t s r) u v ≡ true) (sym (crossed-inside d h)) (sym (crossed-inside (face s d) (face-keeps d l ∙ h)))
        (turned.symmetric (twin (face s d)) (twin d) (subst (λ (z : ℕ). same_face m (turned_over t s r) (twin (face s d)) z ≡ true)
        (over-inside (twin (face s d)) (twin-below m (face s d) (b.forth (twin d) (twin-below m d l))) (whole (face s d) (b.forth (twin d) (twin-below m d l)) ∙ face-keeps d l ∙ h) ∙ ap r (twin-twin (face s d)) ∙ b.back_forth (twin d) (twin-below m d l))
        (orbit-step (2 * m) (face over) (twin (face s d)) (twin-below m (face s d) (b.forth (twin d) (twin-below m d l))))))
    | inr h ↦ subst₂ (λ (u v : ℕ). same_face m (turned_over t s r) u v ≡ true) (sym (crossed-outside d h)) (sym (crossed-outside (face s d) (face-keeps d l ∙ h)))
        (subst (λ (z : ℕ). same_face m (turned_over t s r) d z ≡ true) (over-outside d l h) (orbit-step (2 * m) (face over) d l))
  ]

  -- darts lie on one face of the map turned over where their crossed darts lie on one face of the map
  pub turned-face : (x y : ℕ) → x < 2 * m → y < 2 * m → same_face m (turned_over t s r) x y ≡ same_face m s (crossed x) (crossed y)
  turned-face x y l k = same-tests (same_face m over x y) (same_face m s (crossed x) (crossed y))
      (orbit-least (2 * m) (face over) (λ u v. same_face m s (crossed u) (crossed v)) (equivalence-through (same_face m s) crossed plain) there x y)
      (λ h. subst₂ (λ (u v : ℕ). same_face m (turned_over t s r) u v ≡ true) (crossed-twice x l) (crossed-twice y k)
      (orbit-least (2 * m) (face s) (λ u v. same_face m (turned_over t s r) (crossed u) (crossed v)) (equivalence-through (same_face m (turned_over t s r)) crossed turned) here (crossed x) (crossed y) h))

  -- so the map turned over has as many faces
  pub turned-faces : face_count m (turned_over t s r) ≡ face_count m s
  turned-faces = class_count-copy (2 * m) (same_face m over) (same_face m s) crossed crossed crossed-permutes plain turned-face

  -- and the same vertices
  pub turned-vertices : vertex_count m (turned_over t s r) ≡ vertex_count m s
  turned-vertices = class_count-ext (2 * m) (same_vertex m over) (same_vertex m s) (λ x y l k. turned-orbit (2 * m) s r b t keep x y)
