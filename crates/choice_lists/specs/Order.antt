-- Orders given by tests, lists that increase by them, places in lists, and the lexicographic order.
use Rattle.std.specs.Prelude.{◌≡◌, ℕ, ◌<◌, ◌↔◌, Bool, true, false, ◌&&◌, ◌||◌, ◌==◌, nat_lt, if◌then◌else◌, List, [], ◌∷◌, ◌++◌, length, slice_index_or, AllPairs, Contains}

-- a strict linear order: never both ways, transitive, and one of three: before, after or equal
pub record IsLinear {X : Type 0} (before : X → X → Bool) : Type 0 where
  pub apart : (x y : X) → before x y ≡ true → before y x ≡ false
  pub transitive : (x y z : X) → before x y ≡ true → before y z ≡ true → before x z ≡ true
  pub one_of_three : (x y : X) → before x y ≡ false → before y x ≡ false → x ≡ y

-- strictly increasing: each member comes before all later ones
abbrev pub IsRising : {X : Type 0} → (X → X → Bool) → List X → Type 0
IsRising before l = AllPairs (λ x y. before x y ≡ true) l

-- strictly decreasing: each member comes after all later ones
abbrev pub IsFalling : {X : Type 0} → (X → X → Bool) → List X → Type 0
IsFalling before l = AllPairs (λ x y. before y x ≡ true) l

-- x is at place i of the list
abbrev pub IsAt : {X : Type 0} → List X → ℕ → X → Type 0
IsAt l i x = (i < length l) × (slice_index_or l i x ≡ x)

-- the list goes up through the values that are wanted and has no others: there is one such list
pub record Lists {X : Type 0} (before : X → X → Bool) (Wanted : X → Type 0) (l : List X) : Type 0 where
  pub rises : IsRising before l
  pub exactly : (x : X) → Contains l x ↔ Wanted x

-- the lists agree up to a place, and there the first list has the lesser member
pub record IsLessWhereTheyDiffer {X : Type 0} (before : X → X → Bool) (xs ys : List X) : Type 0 where
  pub common : List X
  pub x : X
  pub y : X
  pub xs_rest : List X
  pub ys_rest : List X
  pub first : xs ≡ common ++ x ∷ xs_rest
  pub second : ys ≡ common ++ y ∷ ys_rest
  pub lesser : before x y ≡ true

-- the lexicographic order of lists: the first member that differs decides, and a list comes before those that it begins
abbrev pub lexicographic : {X : Type 0} → (X → X → Bool) → List X → List X → Bool
lexicographic before [] [] = false
lexicographic before [] (y ∷ ys) = true
lexicographic before (x ∷ xs) [] = false
lexicographic before (x ∷ xs) (y ∷ ys) = (if before x y then true else (if before y x then false else lexicographic before xs ys))

-- the lexicographic order of lists of numbers: the first number that differs decides, and a list comes before those that it
-- begins
abbrev pub is_before : List ℕ → List ℕ → Bool
is_before [] [] = false
is_before [] (y ∷ ys) = true
is_before (x ∷ xs) [] = false
is_before (x ∷ xs) (y ∷ ys) = nat_lt x y || ((x == y) && is_before xs ys)

-- the order of vectors, which are lists of choices: the first choice that differs decides
abbrev pub vector_before : List (List ℕ) → List (List ℕ) → Bool
vector_before v w = lexicographic is_before v w
