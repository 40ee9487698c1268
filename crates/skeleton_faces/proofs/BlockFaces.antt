-- The faces of a block are those of the map glued from its skeletons: each has as many darts as the weights of darts on that
-- face add up to, where each dart of an edge of the block weighs one.
use Rattle.std.proofs.Common.{◌≡◌, ℕ, ◌+◌, ◌*◌, ◌<◌, ◌≤◌, inl, inr, Bool, true, false, ◌&&◌, cond, sym, ap, ◌∙◌, subst, arith}
use Rattle.std.proofs.lemmas.Bool.{cases_Bool, and_from, and_parts}
use Rattle.permutations.specs.Count.{count, sum_below}
use Rattle.permutations.proofs.Sums.{sum_below-le, count-sum}
use Rattle.permutations.proofs.Injection.{count-injection}
use Rattle.permutations.proofs.Relation.{same-tests}
use Rattle.permutations.proofs.Orbits.{orbit-equivalence, orbit-step, orbit-least, orbit-test}
use Rattle.permutations.proofs.Renaming.{equivalence-through}
use Rattle.dart_maps.specs.Map.{twin, face, same_face}
use Rattle.dart_maps.specs.Renumbering.{IsRenumbering}
use Rattle.dart_maps.proofs.Darts.{twin-below}
use Rattle.dart_maps.proofs.Renumber.{copied, copied-equivalence, copied-live, copied-dead, copied-says}
use Rattle.skeleton_faces.proofs.FaceSums.{sum_of, face_sum, sum_of-injection}

-- a map within another, the other darts of which may have steps of their own
pub record IsInside (k : ℕ) (inner : ℕ → ℕ) (m : ℕ) (outer : ℕ → ℕ) (live : ℕ → Bool) (into back : ℕ → ℕ) : Type 0 where
  pub whole_edges : (d : ℕ) → d < 2 * m → live (twin d) ≡ live d
  pub others : (d : ℕ) → d < 2 * m → live d ≡ false → live (outer d) ≡ false
  pub darts : (d : ℕ) → d < 2 * k → into d < 2 * m
  pub lives : (d : ℕ) → d < 2 * k → live (into d) ≡ true
  pub darts_back : (d : ℕ) → d < 2 * m → live d ≡ true → back d < 2 * k
  pub into_back : (d : ℕ) → d < 2 * m → live d ≡ true → into (back d) ≡ d
  pub back_into : (d : ℕ) → d < 2 * k → back (into d) ≡ d
  pub twins : (d : ℕ) → d < 2 * k → into (twin d) ≡ twin (into d)
  pub steps : (d : ℕ) → d < 2 * k → into (inner d) ≡ outer (into d)
  pub stay : (d : ℕ) → d < 2 * k → inner d < 2 * k

-- such is a map renumbered
pub renumbered-inside : (k : ℕ) (inner : ℕ → ℕ) (m : ℕ) (outer : ℕ → ℕ) (live : ℕ → Bool) (into back : ℕ → ℕ) → IsRenumbering k inner m outer live into back → ((x : ℕ) → x < 2 * k → inner x < 2 * k) → IsInside k inner m outer live into back
renumbered-inside k inner m outer live into back z stay = record {
  whole_edges = z.whole_edges;
  others = λ d l h. ap live (z.others_alone d l h) ∙ h;
  darts = z.darts;
  lives = z.lives;
  darts_back = z.darts_back;
  into_back = z.into_back;
  back_into = z.back_into;
  twins = z.twins;
  steps = z.steps;
  stay = stay;
}

-- a map within another
module _ (k : ℕ) (inner : ℕ → ℕ) (m : ℕ) (outer : ℕ → ℕ) (live : ℕ → Bool) (into back : ℕ → ℕ) (z : IsInside k inner m outer live into back) where
  -- a step along a face
  face-step : (d : ℕ) → d < 2 * k → into (face inner d) ≡ face outer (into d)
  face-step d l = z.steps (twin d) (twin-below k d l) ∙ ap outer (z.twins d l)

  -- it stays within the map
  face-stay : (d : ℕ) → d < 2 * k → face inner d < 2 * k
  face-stay d l = z.stay (twin d) (twin-below k d l)

  -- the step of a live dart, seen inside
  face-seen : (d : ℕ) → d < 2 * m → live d ≡ true → (live (face outer d) ≡ true) × (back (face outer d) ≡ face inner (back d))
  face-seen d l h =
      let b : back d < 2 * k = z.darts_back d l h in
      let q : face outer d ≡ into (face inner (back d)) = ap (face outer) (sym (z.into_back d l h)) ∙ sym (face-step (back d) b) in
      (ap live q ∙ z.lives (face inner (back d)) (face-stay (back d) b), ap back q ∙ z.back_into (face inner (back d)) (face-stay (back d) b))

  -- that of another leads to another
  face-gone : (d : ℕ) → d < 2 * m → live d ≡ false → live (face outer d) ≡ false
  face-gone d l h = z.others (twin d) (twin-below m d l) (z.whole_edges d l ∙ h)

  -- so the faces of live darts have live darts alone
  pub face-lives : (x y : ℕ) → same_face m outer x y ≡ true → live x ≡ live y
  face-lives = orbit-test (2 * m) (face outer) live (λ d l. elim (cases_Bool (live d)) [ inl h ↦ (face-seen d l h).0 ∙ sym h | inr h ↦ face-gone d l h ∙ sym h ])

  -- darts lie on one face there where they do here
  pub numbered-face : (x y : ℕ) → x < 2 * k → y < 2 * k → same_face k inner x y ≡ same_face m outer (into x) (into y)
  numbered-face x y a c = same-tests (same_face k inner x y) (same_face m outer (into x) (into y)) forth behind
    where
      forth : same_face k inner x y ≡ true → same_face m outer (into x) (into y) ≡ true
      forth t = orbit-least (2 * k) (face inner) (λ u v. same_face m outer (into u) (into v)) (equivalence-through (same_face m outer) into (orbit-equivalence (2 * m) (face outer)))
          (λ d l. subst (λ w. same_face m outer (into d) w ≡ true) (sym (face-step d l)) (orbit-step (2 * m) (face outer) (into d) (z.darts d l))) x y t

      behind : same_face m outer (into x) (into y) ≡ true → same_face k inner x y ≡ true
      behind t =
          let r : same_face k inner (back (into x)) (back (into y)) ≡ true = copied-says live back (same_face k inner) (into x) (into y) (z.lives x a)
          (orbit-least (2 * m) (face outer) (copied live back (same_face k inner)) (copied-equivalence live back (same_face k inner) (orbit-equivalence (2 * k) (face inner)))
          (λ d l. elim (cases_Bool (live d)) [
            | inl w ↦ copied-live live back (same_face k inner) d (face outer d) w (face-seen d l w).0 (subst (λ u. same_face k inner (back d) u ≡ true) (sym (face-seen d l w).1) (orbit-step (2 * k) (face inner) (back d) (z.darts_back d l w)))
            | inr w ↦ copied-dead live back (same_face k inner) d (face outer d) w (face-gone d l w)
          ])
          (into x) (into y) t) in
          subst (λ u. same_face k inner u y ≡ true) (z.back_into x a) (subst (λ u. same_face k inner (back (into x)) u ≡ true) (z.back_into y c) r)

  -- and the sums over a face are those there, where the weights are
  pub inside-sum : (w v : ℕ → ℕ) → ((x : ℕ) → x < 2 * k → w x ≡ v (into x)) → (y : ℕ) → y < 2 * k → face_sum k inner w y ≡ face_sum m outer v (into y)
  inside-sum w v same y l = both
      (sum_of-injection (2 * k) (2 * m) (same_face k inner y) (same_face m outer (into y)) w v into (λ x i t. z.darts x i) (λ x i t. sym (numbered-face y x l i) ∙ t)
      (λ x i t. subst (λ n. w x ≤ n) (same x i) (omega arith)) (λ u x i j s t q. sym (z.back_into u i) ∙ ap back q ∙ z.back_into x j))
      (sum_of-injection (2 * m) (2 * k) (same_face m outer (into y)) (same_face k inner y) v w back (λ x i t. z.darts_back x i (alive x t))
      (λ x i t. numbered-face y (back x) l (z.darts_back x i (alive x t)) ∙ ap (same_face m outer (into y)) (z.into_back x i (alive x t)) ∙ t)
      (λ x i t. subst (λ n. n ≤ w (back x)) (same (back x) (z.darts_back x i (alive x t)) ∙ ap v (z.into_back x i (alive x t))) (omega arith))
      (λ u x i j s t q. sym (z.into_back u i (alive u s)) ∙ ap into q ∙ z.into_back x j (alive x t)))
    where
      alive : (x : ℕ) → same_face m outer (into y) x ≡ true → live x ≡ true
      alive x t = sym (face-lives (into y) x t) ∙ z.lives y l

      both : {a b : ℕ} → a ≤ b → b ≤ a → a ≡ b
      both p q = omega (arith, p, q)

-- a map within another, and weights
module _ (k : ℕ) (inner : ℕ → ℕ) (m : ℕ) (outer : ℕ → ℕ) (live : ℕ → Bool) (into back : ℕ → ℕ) (z : IsInside k inner m outer live into back) (w : ℕ → ℕ)
    (each : (x : ℕ) → x < 2 * m → live x ≡ true → w x ≡ 1) where
  -- a face has no more darts than the weights on it add up to
  pub face-at_most : (y : ℕ) → y < 2 * k → count (2 * k) (same_face k inner y) ≤ face_sum m outer w (into y)
  face-at_most y l = omega (arith, few, counted, less)
    where
      there : ℕ → Bool
      there x = same_face m outer (into y) x && live x

      few : count (2 * k) (same_face k inner y) ≤ count (2 * m) there
      few = count-injection (2 * k) (2 * m) (same_face k inner y) there into (λ x i t. z.darts x i)
          (λ x i t. and_from (same_face m outer (into y) (into x)) (live (into x)) (sym (numbered-face k inner m outer live into back z y x l i) ∙ t) (z.lives x i))
          (λ u v i j s t q. sym (z.back_into u i) ∙ ap back q ∙ z.back_into v j)

      counted : count (2 * m) there ≡ sum_below (2 * m) (λ x. cond (there x) 1 0)
      counted = count-sum (2 * m) there

      less : sum_below (2 * m) (λ x. cond (there x) 1 0) ≤ face_sum m outer w (into y)
      less = sum_below-le (2 * m) (λ x. cond (there x) 1 0) (λ x. cond (same_face m outer (into y) x) (w x) 0) (λ x i. elim (cases_Bool (there x)) [
        | inr n ↦ rw n (omega arith)
        | inl n ↦ let p = and_parts (same_face m outer (into y) x) (live x) n in rw (n, p.0, each x i p.1) (omega arith)
      ])

  -- a face that has all live darts of a set has no fewer than their weights add up to, where others of the set weigh nothing
  pub face-at_least : (s : ℕ → Bool) (y : ℕ) → y < 2 * k → ((x : ℕ) → x < 2 * m → s x ≡ true → live x ≡ true → same_face m outer (into y) x ≡ true) → ((x : ℕ) → x < 2 * m → s x ≡ true → live x ≡ false → w x ≡ 0)
      → sum_of (2 * m) s w ≤ count (2 * k) (same_face k inner y)
  face-at_least s y l on_face nothing = omega (arith, few, counted, less)
    where
      there : ℕ → Bool
      there x = s x && live x

      few : count (2 * m) there ≤ count (2 * k) (same_face k inner y)
      few = count-injection (2 * m) (2 * k) there (same_face k inner y) back
          (λ x i t. z.darts_back x i (and_parts (s x) (live x) t).1)
          (λ x i t. let p = and_parts (s x) (live x) t in numbered-face k inner m outer live into back z y (back x) l (z.darts_back x i p.1)
          ∙ ap (same_face m outer (into y)) (z.into_back x i p.1) ∙ on_face x i p.0 p.1)
          (λ u v i j p q e. sym (z.into_back u i (and_parts (s u) (live u) p).1) ∙ ap into e ∙ z.into_back v j (and_parts (s v) (live v) q).1)

      counted : count (2 * m) there ≡ sum_below (2 * m) (λ x. cond (there x) 1 0)
      counted = count-sum (2 * m) there

      less : sum_of (2 * m) s w ≤ sum_below (2 * m) (λ x. cond (there x) 1 0)
      less = sum_below-le (2 * m) (λ x. cond (s x) (w x) 0) (λ x. cond (there x) 1 0) (λ x i. elim (cases_Bool (s x)) [
        | inr n ↦ rw n (omega arith)
        | inl n ↦ elim (cases_Bool (live x)) [
          | inl v ↦ rw (n, v, each x i v) (omega arith)
          | inr v ↦ rw (n, v, nothing x i n v) (omega arith)
        ]
      ])
