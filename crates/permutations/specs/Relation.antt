-- Equivalences of numbers as tests, the equivalence that a list of links generates, and counting its classes.
use Rattle.std.specs.Prelude.{◌≡◌, ℕ, ◌+◌, Bool, true, not, ◌&&◌, ◌||◌, ◌==◌, List, [], ◌∷◌}
use Rattle.permutations.specs.Count.{count, some, least}

-- an equivalence of all numbers
pub record IsEquivalence (r : ℕ → ℕ → Bool) : Type 0 where
  pub reflexive : (x : ℕ) → r x x ≡ true
  pub symmetric : (x y : ℕ) → r x y ≡ true → r y x ≡ true
  pub transitive : (x y z : ℕ) → r x y ≡ true → r y z ≡ true → r x z ≡ true

-- the relation r with the classes of p and q made one
abbrev pub join : (ℕ → ℕ → Bool) → ℕ → ℕ → ℕ → ℕ → Bool
join r p q x y = r x y || ((r x p && r q y) || (r x q && r p y))

-- the least equivalence in which the two numbers of each link are related
abbrev pub connected : List (ℕ × ℕ) → ℕ → ℕ → Bool
connected [] x y = x == y
connected (link ∷ links) x y = join (connected links) link.0 link.1 x y

-- a number leads its class: no smaller one is related to it
abbrev pub leads : (ℕ → ℕ → Bool) → ℕ → Bool
leads r x = not (some x (λ y. r y x))

-- how many classes meet the numbers below n
abbrev pub class_count : ℕ → (ℕ → ℕ → Bool) → ℕ
class_count n r = count n (leads r)

-- the least number of x's class
abbrev pub leader : (ℕ → ℕ → Bool) → ℕ → ℕ
leader r x = least (x + 1) (λ y. r y x)

-- among the members of d a number leads its class: it is one, and no smaller one is related to it
abbrev pub leads_in : (ℕ → Bool) → (ℕ → ℕ → Bool) → ℕ → Bool
leads_in d r x = d x && not (some x (λ y. d y && r y x))

-- how many classes meet the members of d below n
abbrev pub class_count_in : ℕ → (ℕ → Bool) → (ℕ → ℕ → Bool) → ℕ
class_count_in n d r = count n (leads_in d r)

-- how many numbers below n that pass t are in x's class
abbrev pub class_size : ℕ → (ℕ → Bool) → (ℕ → ℕ → Bool) → ℕ → ℕ
class_size n t r x = count n (λ y. t y && r x y)
