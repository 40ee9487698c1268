-- Counting and searching among the numbers below a bound, with tests.
use Rattle.std.specs.Prelude.{ℕ, zero, suc, ◌+◌, Bool, false, cond, ◌||◌}

-- how many numbers below n pass the test
abbrev pub count : ℕ → (ℕ → Bool) → ℕ
count zero p = 0
count (suc n) p = cond (p n) (count n p + 1) (count n p)

-- whether some number below n passes the test
abbrev pub some : ℕ → (ℕ → Bool) → Bool
some zero p = false
some (suc n) p = some n p || p n

-- the least number below n that passes the test, and n where none does
abbrev pub least : ℕ → (ℕ → Bool) → ℕ
least zero p = 0
least (suc n) p = cond (some n p) (least n p) (cond (p n) n (n + 1))

-- the sum of f over the numbers below n
abbrev pub sum_below : ℕ → (ℕ → ℕ) → ℕ
sum_below zero f = 0
sum_below (suc n) f = sum_below n f + f n
