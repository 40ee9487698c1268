-- The walk that lists one orbit: it comes back to its start first, after as many steps as the orbit is long.
use Rattle.std.proofs.Common.{◌≡◌, ℕ, ◌+◌, ◌-◌, ◌<◌, ◌≤◌, Bool, true, false, not, ◌||◌, ◌==◌, List, [], ◌∷◌, ◌++◌, length, inl, inr, refl, sym, ap, ap₂, ◌∙◌, arith, add-one}
use Rattle.std.proofs.lemmas.Bool.{eq-eqb, ne_eqb, cases_eq, both_ways}
use Rattle.std.proofs.Math.Bool.{or-true}
use Rattle.std.proofs.Math.ListN.{set}
use Rattle.std.proofs.lemmas.List.Sums.{count_by-le-length}
use Rattle.permutations.specs.Count.{some}
use Rattle.permutations.specs.Permutation.{iterate}
use Rattle.permutations.proofs.Search.{some-from, least-is}
use Rattle.permutations.proofs.Iterates.{iterate-between}
use Rattle.multigraph.specs.Graph.{Multigraph}
use Rattle.faces.specs.Marks.{IsPermutationBelow}
use Rattle.multigraph.specs.Marks.{is_marked}
use Rattle.permutations.specs.Ring.{orbit_length}
use Rattle.faces.specs.Trace.{pair_of, pairs_along}
use Rattle.faces.proofs.Walk.{Walked, walked-none, walked-more, walked-back}

-- the walk so far, the pairs that it passed, and that it was not back at its start
pub record Traced (g : Multigraph) (f : ℕ → ℕ) (before now : List Bool) (start place : ℕ) (pairs : List (ℕ × ℕ)) : Type 0 where
  pub walked : Walked f before now start place
  pub listed : pairs ≡ pairs_along g f start walked.steps
  pub apart : (i : ℕ) → 0 < i → i < walked.steps → iterate f i start ≡ start → ⊥

-- before the first step
pub traced-none : (g : Multigraph) (f : ℕ → ℕ) (before : List Bool) (start : ℕ) → Traced g f before before start start []
traced-none g f before start = record {
  walked = walked-none f before start;
  listed = refl;
  apart = λ i l m e. absurd (omega arith);
}

-- one pair more
pub along-more : (g : Multigraph) (f : ℕ → ℕ) (d k : ℕ) → pairs_along g f d (k + 1) ≡ pairs_along g f d k ++ pair_of g (iterate f k d) ∷ []
along-more g f d k = rw add-one refl

-- one step more, from a place that is not marked
pub traced-more : (g : Multigraph) (f : ℕ → ℕ) (before now : List Bool) (start place : ℕ) (pairs : List (ℕ × ℕ)) → Traced g f before now start place pairs → place < length now → is_marked now place ≡ false
    → Traced g f before (set now place true) start (f place) (pairs ++ pair_of g place ∷ [])
traced-more g f before now start place pairs t l e = record {
  walked = walked-more f before now start place t.walked l e;
  listed = ap₂ (λ ps d. ps ++ pair_of g d ∷ []) t.listed (sym t.walked.leads) ∙ sym (along-more g f start t.walked.steps);
  apart = λ i k m. apart i k m;
}
  where
    begun : 0 < t.walked.steps → is_marked now start ≡ true
    begun k =
        let there : some t.walked.steps (λ j. iterate f j start == start) ≡ true = some-from t.walked.steps (λ j. iterate f j start == start) 0 k (eq-eqb start start refl) in
        t.walked.marks start ∙ ap (λ b. is_marked before start || b) there ∙ or-true (is_marked before start)

    apart : (i : ℕ) → 0 < i → i < t.walked.steps + 1 → iterate f i start ≡ start → ⊥
    apart i k m h = elim (cases_eq i t.walked.steps) [
      | inl s ↦
          let back : place ≡ start = sym t.walked.leads ∙ sym (ap (λ j. iterate f j start) s) ∙ h in
          let some_step : 0 < t.walked.steps = omega arith in
          both_ways (is_marked now place) e (ap (is_marked now) back ∙ begun some_step)
      | inr n ↦
          let below : i < t.walked.steps = omega arith in
          t.apart i k below h
    ]

-- the fewest steps back are the orbit's length
pub orbit_length-is : (n : ℕ) (f : ℕ → ℕ) (d k : ℕ) → k < n → iterate f (k + 1) d ≡ d → ((i : ℕ) → 0 < i → i < k + 1 → iterate f i d ≡ d → ⊥) → orbit_length n f d ≡ k + 1
orbit_length-is n f d k l e apart =
    ap (λ j. j + 1) (least-is n (λ j. iterate f (j + 1) d == d) k l (eq-eqb (iterate f (k + 1) d) d e) (λ j m. ne_eqb (iterate f (j + 1) d) d (apart (j + 1) (omega arith) (omega arith))))

-- at a marked place: the walk has passed just the orbit of its start
pub traced-all : (n : ℕ) (g : Multigraph) (f : ℕ → ℕ) → IsPermutationBelow n f → (before now : List Bool) (start place : ℕ) (pairs : List (ℕ × ℕ)) → Traced g f before now start place pairs → length before ≡ n → start < n
    → ((x : ℕ) → x < n → is_marked before (f x) ≡ is_marked before x) → is_marked before start ≡ false → is_marked now place ≡ true
    → pairs ≡ pairs_along g f start (orbit_length n f start)
traced-all n g f p before now start place pairs t short l whole fresh met =
    let v : (j : ℕ) × (j < t.walked.steps) × (iterate f j start ≡ iterate f t.walked.steps start) = walked-back n f p before now start place t.walked l whole fresh met in
    let few : t.walked.steps ≤ n = omega (arith, count_by-le-length not before, t.walked.rest, short) in
    t.listed ∙ ap (pairs_along g f start) (sym (long v few))
  where
    home : (j : ℕ) → j < t.walked.steps → iterate f (t.walked.steps - j) start ≡ start → t.walked.steps ≤ n → orbit_length n f start ≡ t.walked.steps
    home j below turn few = elim (cases_eq j 0) [
      | inl z ↦
          let whole_way : t.walked.steps - j ≡ (t.walked.steps - 1) + 1 = omega arith in
          let all : (t.walked.steps - 1) + 1 ≡ t.walked.steps = omega arith in
          orbit_length-is n f start (t.walked.steps - 1) (omega arith) (sym (ap (λ k. iterate f k start) whole_way) ∙ turn) (λ i k m. t.apart i k (omega arith)) ∙ all
      | inr nz ↦ absurd (t.apart (t.walked.steps - j) (omega arith) (omega arith) turn)
    ]

    long : (j : ℕ) × (j < t.walked.steps) × (iterate f j start ≡ iterate f t.walked.steps start) → t.walked.steps ≤ n → orbit_length n f start ≡ t.walked.steps
    long v few =
        let below : v.0 < t.walked.steps = v.1 in
        let gap : t.walked.steps ≡ v.0 + (t.walked.steps - v.0) = omega arith in
        let turn : iterate f (t.walked.steps - v.0) start ≡ start = iterate-between n f p.0 p.1 start l v.0 (t.walked.steps - v.0) (v.2 ∙ ap (λ k. iterate f k start) gap) in
        home v.0 below turn few
