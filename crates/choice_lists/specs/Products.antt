-- Products of lists of choices: all vectors, their order, their ranks, and the vector that follows.
use Rattle.std.specs.Prelude.{◌≡◌, ℕ, ◌+◌, ◌*◌, List, [], ◌∷◌, ◌++◌, map, Contains}
use Rattle.std.specs.List.{AllZip}
use Rattle.choice_lists.specs.Order.{IsAt}
use Rattle.choice_lists.specs.Arrangements.{branched}

-- all lists that have one member of each list, the first place most significant
abbrev pub product : {X : Type 0} → List (List X) → List (List X)
product [] = [] ∷ []
product (c ∷ cs) = branched (map (λ x. (x, product cs)) c)

-- a selection has one member of each list
abbrev pub IsSelection : {X : Type 0} → List (List X) → List X → Type 0
IsSelection cs v = AllZip Contains cs v

-- the product of numbers
abbrev pub product_of : List ℕ → ℕ
product_of [] = 1
product_of (r ∷ rs) = r * product_of rs

-- the places of the members of a vector, each in its own list
abbrev pub AreDigits : {X : Type 0} → List (List X) → List X → List ℕ → Type 0
AreDigits [] [] [] = Unit {0}
AreDigits (c ∷ cs) (x ∷ v) (d ∷ ds) = IsAt c d x × AreDigits cs v ds
AreDigits cs v ds = ⊥

-- x is the first of the list
pub record IsFirst {X : Type 0} (l : List X) (x : X) : Type 0 where
  pub others : List X
  pub is : l ≡ x ∷ others

-- x is the last of the list
pub record IsLast {X : Type 0} (l : List X) (x : X) : Type 0 where
  pub others : List X
  pub is : l ≡ others ++ x ∷ []

-- each member is the first of its list
abbrev pub AreFirsts : {X : Type 0} → List (List X) → List X → Type 0
AreFirsts cs v = AllZip IsFirst cs v

-- each member is the last of its list
abbrev pub AreLasts : {X : Type 0} → List (List X) → List X → Type 0
AreLasts cs v = AllZip IsLast cs v

-- the next vector: all places after x are at their last choice and go to their first, and x goes to the next one
pub record IsNextVector {X : Type 0} (cs : List (List X)) (v w : List X) : Type 0 where
  pub ahead : List (List X)
  pub here : List X
  pub behind : List (List X)
  pub lists : cs ≡ ahead ++ here ∷ behind
  pub front : List X
  pub chosen : IsSelection ahead front
  pub place : ℕ
  pub x : X
  pub y : X
  pub at_x : IsAt here place x
  pub at_y : IsAt here (place + 1) y
  pub lasts : List X
  pub firsts : List X
  pub all_last : AreLasts behind lasts
  pub all_first : AreFirsts behind firsts
  pub before : v ≡ front ++ x ∷ lasts
  pub after : w ≡ front ++ y ∷ firsts
