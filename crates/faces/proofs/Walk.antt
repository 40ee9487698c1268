-- The walk that marks one orbit: along the images until a marked number is met.
use Rattle.std.proofs.Common.{◌≡◌, ℕ, zero, suc, ◌+◌, ◌<◌, Bool, true, false, not, ◌||◌, ◌==◌, cond, List, length, get_or, refl, sym, ap, ◌∙◌, inl, inr, add-zero, subst, arith}
use Rattle.std.proofs.lemmas.Bool.{eqb-true, eq-eqb, ne_eqb, cases_eq, cases_lt}
use Rattle.std.proofs.Math.Bool.{or-true, or-false, or_assoc}
use Rattle.std.proofs.lemmas.List.{get_or-set_same, get_or-set_other}
use Rattle.std.proofs.Math.ListN.{set}
use Rattle.std.proofs.lemmas.List.Sums.{sum_by-set}
use Rattle.permutations.specs.Count.{some}
use Rattle.permutations.specs.Permutation.{iterate, reaches}
use Rattle.permutations.proofs.Search.{some-from, some-witness, some-more}
use Rattle.permutations.proofs.Relation.{same-tests}
use Rattle.faces.specs.Marks.{IsPermutationBelow}
use Rattle.multigraph.specs.Marks.{is_marked}
use Rattle.faces.specs.Search.{unmarked_count}
use Rattle.permutations.proofs.Iterates.{iterate-more, reaches-steps}
use Rattle.faces.proofs.Reaching.{steps-below, steps-reach}

-- a mark that was not there: one place fewer is unmarked
pub unmarked-less : (marks : List Bool) (x : ℕ) → x < length marks → is_marked marks x ≡ false → unmarked_count (set marks x true) + 1 ≡ unmarked_count marks
unmarked-less marks x l e =
    let h : unmarked_count (set marks x true) + cond (not (get_or marks x false)) 1 0 ≡ unmarked_count marks + 0 = sum_by-set (λ b. cond (not b) 1 0) marks x true false l in
    let g : unmarked_count (set marks x true) + 1 ≡ unmarked_count marks + 0 = subst (λ b. unmarked_count (set marks x true) + cond (not b) 1 0 ≡ unmarked_count marks + 0) e h in
    omega arith

-- marks after one more
pub marked-set : (marks : List Bool) (x y : ℕ) → x < length marks → is_marked (set marks x true) y ≡ (is_marked marks y || (x == y))
marked-set marks x y l = elim (cases_eq x y) [
  | inl e ↦
      let same : is_marked (set marks x true) y ≡ true = subst (λ z. is_marked (set marks x true) z ≡ true) e (get_or-set_same marks x true false l) in
      let test : (x == y) ≡ true = eq-eqb x y e in
      same ∙ sym (ap (λ b. is_marked marks y || b) test ∙ or-true (is_marked marks y))
  | inr e ↦
      let other : is_marked (set marks x true) y ≡ is_marked marks y = get_or-set_other marks x y true false (λ h. e (sym h)) in
      let test : (x == y) ≡ false = ne_eqb x y e in
      other ∙ sym (ap (λ b. is_marked marks y || b) test ∙ or-false (is_marked marks y))
]

-- the walk so far: how many steps it took and where they lead, and the marks that it made
pub record Walked (f : ℕ → ℕ) (before now : List Bool) (start place : ℕ) : Type 0 where
  pub steps : ℕ
  pub leads : iterate f steps start ≡ place
  pub marks : (x : ℕ) → is_marked now x ≡ (is_marked before x || some steps (λ k. iterate f k start == x))
  pub rest : unmarked_count now + steps ≡ unmarked_count before

-- before the first step
abbrev pub walked-none : (f : ℕ → ℕ) (before : List Bool) (start : ℕ) → Walked f before before start start
walked-none f before start = record {
  steps = 0;
  leads = refl;
  marks = λ x. sym (or-false (is_marked before x));
  rest = add-zero (unmarked_count before);
}

-- the marks after one step more, from the place where the walk is
pub walked-marks : (f : ℕ → ℕ) (before now : List Bool) (start place : ℕ) (w : Walked f before now start place) → place < length now → (x : ℕ) → is_marked (set now place true) x ≡ (is_marked before x || some (w.steps + 1) (λ k. iterate f k start == x))
walked-marks f before now start place w l x =
    marked-set now place x l
    ∙ ap (λ z. is_marked now x || (z == x)) (sym w.leads)
    ∙ ap (λ b. b || (iterate f w.steps start == x)) (w.marks x)
    ∙ or_assoc (is_marked before x) (some w.steps (λ k. iterate f k start == x)) (iterate f w.steps start == x)
    ∙ ap (λ b. is_marked before x || b) (sym (some-more w.steps (λ k. iterate f k start == x)))

-- and how many places are left
pub walked-rest : (f : ℕ → ℕ) (before now : List Bool) (start place : ℕ) (w : Walked f before now start place) → place < length now → is_marked now place ≡ false → unmarked_count (set now place true) + (w.steps + 1) ≡ unmarked_count before
walked-rest f before now start place w l e = omega (arith, unmarked-less now place l e, w.rest)

-- one step more, from a place that is not marked
abbrev pub walked-more : (f : ℕ → ℕ) (before now : List Bool) (start place : ℕ) → Walked f before now start place → place < length now → is_marked now place ≡ false → Walked f before (set now place true) start (f place)
walked-more f before now start place w l e = record {
  steps = w.steps + 1;
  leads = iterate-more f w.steps start ∙ ap f w.leads;
  marks = walked-marks f before now start place w l;
  rest = walked-rest f before now start place w l e;
}

-- a step back and forth keeps what is marked, so any number of steps does
pub whole-steps : (n : ℕ) (f : ℕ → ℕ) → IsPermutationBelow n f → (marks : List Bool) → ((x : ℕ) → x < n → is_marked marks (f x) ≡ is_marked marks x) → (k x : ℕ) → x < n → is_marked marks (iterate f k x) ≡ is_marked marks x
whole-steps n f p marks whole zero x l = refl
whole-steps n f p marks whole (suc k) x l = whole (iterate f k x) (steps-below n f p k x l) ∙ whole-steps n f p marks whole k x l

-- once a walk is back among its first steps, each step leads to one of these
pub steps-again : (f : ℕ → ℕ) (start s j : ℕ) → j < s → iterate f j start ≡ iterate f s start → (k : ℕ) → (i : ℕ) × (i < s) × (iterate f i start ≡ iterate f k start)
steps-again f start s j l e zero = (0, omega arith, refl)
steps-again f start s j l e (suc k) =
    let w : (i : ℕ) × (i < s) × (iterate f i start ≡ iterate f k start) = steps-again f start s j l e k in
    let next : iterate f (suc w.0) start ≡ iterate f (suc k) start = ap f w.2 in
    elim (cases_lt (suc w.0) s) [
      | inl m ↦ (suc w.0, m, next)
      | inr m ↦
          let below : w.0 < s = w.1 in
          let last : suc w.0 ≡ s = omega arith in
          (j, l, e ∙ sym (ap (λ i. iterate f i start) last) ∙ next)
    ]

-- then the first steps lead to the whole orbit
pub steps-orbit : (n : ℕ) (f : ℕ → ℕ) → IsPermutationBelow n f → (start s j : ℕ) → start < n → j < s → iterate f j start ≡ iterate f s start → (x : ℕ) → some s (λ k. iterate f k start == x) ≡ reaches n f start x
steps-orbit n f p start s j l m e x = same-tests (some s (λ k. iterate f k start == x)) (reaches n f start x) forth back
  where
    forth : some s (λ k. iterate f k start == x) ≡ true → reaches n f start x ≡ true
    forth t =
        let w : (k : ℕ) × (k < s) × ((iterate f k start == x) ≡ true) = some-witness s (λ k. iterate f k start == x) t in
        steps-reach n f p w.0 start x l (eqb-true (iterate f w.0 start) x w.2)

    back : reaches n f start x ≡ true → some s (λ k. iterate f k start == x) ≡ true
    back t =
        let w : (k : ℕ) × (k < n) × (iterate f k start ≡ x) = reaches-steps n f start x t in
        let v : (i : ℕ) × (i < s) × (iterate f i start ≡ iterate f w.0 start) = steps-again f start s j m e w.0 in
        some-from s (λ k. iterate f k start == x) v.0 v.1 (eq-eqb (iterate f v.0 start) x (v.2 ∙ w.2))

-- at a marked place the walk is back among its first steps
pub walked-back : (n : ℕ) (f : ℕ → ℕ) → IsPermutationBelow n f → (before now : List Bool) (start place : ℕ) (w : Walked f before now start place) → start < n
    → ((x : ℕ) → x < n → is_marked before (f x) ≡ is_marked before x) → is_marked before start ≡ false → is_marked now place ≡ true
    → (j : ℕ) × (j < w.steps) × (iterate f j start ≡ iterate f w.steps start)
walked-back n f p before now start place w l whole fresh met =
    let old : is_marked before place ≡ false = sym (ap (is_marked before) w.leads) ∙ whole-steps n f p before whole w.steps start l ∙ fresh in
    let again : some w.steps (λ k. iterate f k start == place) ≡ true = sym (ap (λ b. b || some w.steps (λ k. iterate f k start == place)) old) ∙ sym (w.marks place) ∙ met in
    let v : (k : ℕ) × (k < w.steps) × ((iterate f k start == place) ≡ true) = some-witness w.steps (λ k. iterate f k start == place) again in
    (v.0, v.1, eqb-true (iterate f v.0 start) place v.2 ∙ sym w.leads)

-- then just the orbit of the start is marked anew
pub walked-all : (n : ℕ) (f : ℕ → ℕ) → IsPermutationBelow n f → (before now : List Bool) (start place : ℕ) → Walked f before now start place → start < n
    → ((x : ℕ) → x < n → is_marked before (f x) ≡ is_marked before x) → is_marked before start ≡ false → is_marked now place ≡ true
    → (x : ℕ) → is_marked now x ≡ (is_marked before x || reaches n f start x)
walked-all n f p before now start place w l whole fresh met x =
    let v : (j : ℕ) × (j < w.steps) × (iterate f j start ≡ iterate f w.steps start) = walked-back n f p before now start place w l whole fresh met in
    w.marks x ∙ ap (λ b. is_marked before x || b) (steps-orbit n f p start w.steps v.0 l v.1 v.2 x)
