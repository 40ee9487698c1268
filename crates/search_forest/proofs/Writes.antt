-- Reading a list of numbers or marks after one of them was written.
use Rattle.std.proofs.Common.{◌≡◌, ◌≢◌, ℕ, ◌<◌, ◌⊎◌, inl, inr, Bool, true, false, List, length, get_or, set, sym, ap, ◌∙◌}
use Rattle.std.proofs.lemmas.Bool.{cases_eq, cases_lt, true≢false}
use Rattle.std.proofs.lemmas.List.{get_or-set_same, get_or-set_other, get_or_past}
use Rattle.multigraph.specs.Marks.{is_marked}

-- the number that was written
pub number-same : (l : List ℕ) (i x : ℕ) → i < length l → get_or (set l i x) i 0 ≡ x
number-same l i x h = get_or-set_same l i x 0 h

-- another number
pub number-other : (l : List ℕ) (i j x : ℕ) → j ≢ i → get_or (set l i x) j 0 ≡ get_or l j 0
number-other l i j x h = get_or-set_other l i j x 0 h

-- the mark that was set
pub marked-same : (l : List Bool) (i : ℕ) → i < length l → is_marked (set l i true) i ≡ true
marked-same l i h = get_or-set_same l i true false h

-- another mark
pub marked-other : (l : List Bool) (i j : ℕ) → j ≢ i → is_marked (set l i true) j ≡ is_marked l j
marked-other l i j h = get_or-set_other l i j true false h

-- a mark that is there after one was set is this one, or was there before
pub marked-cases : (l : List Bool) (i j : ℕ) → is_marked (set l i true) j ≡ true → (j ≡ i) ⊎ (is_marked l j ≡ true)
marked-cases l i j h = elim (cases_eq j i) [ inl e ↦ inl e | inr n ↦ inr (sym (marked-other l i j n) ∙ h) ]

-- a mark that was there stays
pub marked-kept : (l : List Bool) (i j : ℕ) → i < length l → is_marked l j ≡ true → is_marked (set l i true) j ≡ true
marked-kept l i j w h = elim (cases_eq j i) [ inl e ↦ ap (is_marked (set l i true)) e ∙ marked-same l i w | inr n ↦ marked-other l i j n ∙ h ]

-- a mark that is there has a place
pub marked-in : (l : List Bool) (i : ℕ) → is_marked l i ≡ true → i < length l
marked-in l i h = elim (cases_lt i (length l)) [ inl a ↦ a | inr b ↦ absurd (true≢false (sym h ∙ get_or_past l i false b)) ]

-- two places with different marks are different
pub marks-differ : (l : List Bool) (i j : ℕ) → is_marked l i ≡ true → is_marked l j ≡ false → i ≢ j
marks-differ l i j a b e = true≢false (sym a ∙ (ap (is_marked l) e ∙ b))
