-- Two properties of the members of a cyclic order: the members with the one are consecutive, or both alternate.
use Rattle.std.specs.Prelude.{◌≡◌, ℕ, ◌≤◌, Bool, true, false, List, [], ◌∷◌, ◌++◌, length}
use Rattle.permutations.specs.Members.{is_member}
use Rattle.permutations.specs.Cyclic.{IsTurn}

-- the members that pass p are one run, of at least two, and those inside it fail q
pub record StandTogether (p q : ℕ → Bool) (l : List ℕ) : Type 0 where
  pub first : ℕ
  pub middle : List ℕ
  pub last : ℕ
  pub others : List ℕ
  pub around : IsTurn l ((first ∷ middle ++ last ∷ []) ++ others)
  pub filled : 1 ≤ length others
  pub first_passes : p first ≡ true
  pub last_passes : p last ≡ true
  pub inside : (z : ℕ) → is_member z middle ≡ true → (p z ≡ true) × (q z ≡ false)
  pub outside : (z : ℕ) → is_member z others ≡ true → p z ≡ false

-- four members follow each other in the cyclic order: one that passes p, one that passes q, one that passes p, and one that fails p
pub record Alternates (p q : ℕ → Bool) (l : List ℕ) : Type 0 where
  pub a : ℕ
  pub b : ℕ
  pub c : ℕ
  pub d : ℕ
  pub behind_a : List ℕ
  pub behind_b : List ℕ
  pub behind_c : List ℕ
  pub behind_d : List ℕ
  pub around : IsTurn l ((a ∷ behind_a) ++ ((b ∷ behind_b) ++ ((c ∷ behind_c) ++ (d ∷ behind_d))))
  pub first_passes : p a ≡ true
  pub second_passes : q b ≡ true
  pub third_passes : p c ≡ true
  pub fourth_fails : p d ≡ false
