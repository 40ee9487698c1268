-- Lists of which each member is smaller than all before it, and how many members are smaller than a number.
use Rattle.std.specs.Prelude.{◌≡◌, ℕ, zero, suc, Bool, true, nat_lt, List, [], ◌∷◌, count_by}

-- x is at place i of the list
abbrev pub At : {X : Type 0} → List X → ℕ → X → Type 0
At [] i x = ⊥
At (y ∷ l) zero x = y ≡ x
At (y ∷ l) (suc i) x = At l i x

-- x comes before each member of the list, by a test
abbrev pub Above : {X : Type 0} → (X → X → Bool) → X → List X → Type 0
Above {X} before x l = (i : ℕ) (y : X) → At l i y → before x y ≡ true

-- each member comes before all later ones
abbrev pub Ascends : {X : Type 0} → (X → X → Bool) → List X → Type 0
Ascends before [] = Unit {0}
Ascends before (x ∷ l) = Above before x l × Ascends before l

-- each member is greater than all later ones
abbrev pub Falls : List ℕ → Type 0
Falls l = Ascends (λ x y. nat_lt y x) l

-- the number of members smaller than x
abbrev pub smaller : ℕ → List ℕ → ℕ
smaller x l = count_by (λ y. nat_lt y x) l
