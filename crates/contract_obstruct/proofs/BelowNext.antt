-- What holds below k and of k holds below k + 1.
use Rattle.std.proofs.Common.{ℕ, ◌+◌, ◌<◌, inl, inr, subst, arith}
use Rattle.std.proofs.lemmas.Bool.{cases_eq}

pub below-next : (P : ℕ → Type 0) (k : ℕ) → ((d : ℕ) → d < k → P d) → P k → (d : ℕ) → d < k + 1 → P d
below-next P k h p d l = elim (cases_eq k d) [ inl e ↦ subst P e p | inr n ↦ h d (omega arith) ]
