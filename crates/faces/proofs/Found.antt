-- Going up the numbers, with a mark on each that a smaller one is related to: those met unmarked lead their classes.
use Rattle.std.proofs.Common.{◌≡◌, ℕ, ◌+◌, ◌<◌, ◌≤◌, Bool, true, false, not, ◌||◌, List, sym, ap, ◌∙◌, inl, inr, arith}
use Rattle.std.proofs.Math.Bool.{or-false}
use Rattle.std.proofs.lemmas.Bool.{cases_Bool}
use Rattle.permutations.specs.Count.{count, some}
use Rattle.permutations.specs.Relation.{leads}
use Rattle.permutations.proofs.Search.{some-from, some-witness, some-more}
use Rattle.permutations.proofs.Count.{count-yes, count-no, count-within}
use Rattle.multigraph.specs.Marks.{is_marked}

-- the numbers below d are done: what is related to them is marked, and those that lead are counted
pub record FoundBelow (r : ℕ → ℕ → Bool) (d : ℕ) (marks : List Bool) (classes : ℕ) : Type 0 where
  pub marked : (x : ℕ) → is_marked marks x ≡ some d (λ y. r y x)
  pub counted : classes ≡ count d (leads r)

-- a marked number adds nothing
pub found-skip : (r : ℕ → ℕ → Bool) (d : ℕ) (marks : List Bool) (classes : ℕ) → ((y x : ℕ) → y < d → r y d ≡ true → r d x ≡ true → r y x ≡ true)
    → FoundBelow r d marks classes → is_marked marks d ≡ true → FoundBelow r (d + 1) marks classes
found-skip r d marks classes through m e = record {
  marked = λ x. m.marked x ∙ sym (some-more d (λ y. r y x) ∙ within x);
  counted = m.counted ∙ sym (count-no d (leads r) (ap not (sym (m.marked d) ∙ e)));
}
  where
    earlier : (x : ℕ) → r d x ≡ true → some d (λ y. r y x) ≡ true
    earlier x t =
        let w : (y : ℕ) × (y < d) × (r y d ≡ true) = some-witness d (λ y. r y d) (sym (m.marked d) ∙ e) in
        some-from d (λ y. r y x) w.0 w.1 (through w.0 x w.1 w.2 t)

    within : (x : ℕ) → (some d (λ y. r y x) || r d x) ≡ some d (λ y. r y x)
    within x = elim (cases_Bool (r d x)) [
      | inl t ↦ ap (λ b. b || r d x) (earlier x t) ∙ sym (earlier x t)
      | inr t ↦ ap (λ b. some d (λ y. r y x) || b) t ∙ or-false (some d (λ y. r y x))
    ]

-- an unmarked number leads a class, which is marked now
pub found-more : (r : ℕ → ℕ → Bool) (d : ℕ) (before now : List Bool) (classes : ℕ) → FoundBelow r d before classes → is_marked before d ≡ false
    → ((x : ℕ) → is_marked now x ≡ (is_marked before x || r d x)) → FoundBelow r (d + 1) now (classes + 1)
found-more r d before now classes m e h = record {
  marked = λ x. h x ∙ ap (λ b. b || r d x) (m.marked x) ∙ sym (some-more d (λ y. r y x));
  counted = ap (λ k. k + 1) m.counted ∙ sym (count-yes d (leads r) (ap not (sym (m.marked d) ∙ e)));
}

-- so far there are at most as many classes as numbers
pub found-few : (r : ℕ → ℕ → Bool) (d : ℕ) (marks : List Bool) (classes : ℕ) → FoundBelow r d marks classes → classes ≤ d
found-few r d marks classes m = omega (arith, m.counted, count-within d (leads r))
