-- Exchanging what follows two numbers, and what is left of a permutation when some numbers are taken out.
use Rattle.std.specs.Prelude.{ℕ, zero, suc, Bool, ◌==◌, if◌then◌else◌}
use Rattle.permutations.specs.Count.{least}
use Rattle.permutations.specs.Permutation.{iterate}

-- p and q change places, all else stays
unfoldable pub swapped : ℕ → ℕ → ℕ → ℕ
swapped p q x = (if x == p then q else (if x == q then p else x))

-- f with what follows p and what follows q exchanged
unfoldable pub exchange : ℕ → ℕ → (ℕ → ℕ) → ℕ → ℕ
exchange p q f x = f (swapped p q x)

-- f with d taken out: what came to d continues to what followed d, and d is left alone
unfoldable pub unlink : ℕ → (ℕ → ℕ) → ℕ → ℕ
unlink d f x = (if x == d then d else (if f x == d then f d else f x))

-- f with the numbers below k that fail the test taken out, one after the other
abbrev pub taken_out : (ℕ → Bool) → ℕ → (ℕ → ℕ) → ℕ → ℕ
taken_out keep zero f = f
taken_out keep (suc k) f = (if keep k then taken_out keep k f else unlink k (taken_out keep k f))

-- f on the numbers below n that pass the test: each goes to the next of them along f, and the others are alone
unfoldable pub restricted : ℕ → (ℕ → Bool) → (ℕ → ℕ) → ℕ → ℕ
restricted n keep f x = (if keep x then iterate f (suc (least n (λ k. keep (iterate f (suc k) x)))) x else x)
