-- Permutations of the numbers below n, each with its inverse, and their orbits.
use Rattle.std.specs.Prelude.{◌≡◌, ℕ, zero, suc, ◌<◌, Bool, ◌==◌, List, [], ◌∷◌}
use Rattle.permutations.specs.Count.{some}
use Rattle.permutations.specs.Relation.{connected, class_count}

-- f permutes the numbers below n, and g is its inverse there
pub record Permutes (n : ℕ) (f g : ℕ → ℕ) : Type 0 where
  pub forth : (x : ℕ) → x < n → f x < n
  pub back : (x : ℕ) → x < n → g x < n
  pub back_forth : (x : ℕ) → x < n → g (f x) ≡ x
  pub forth_back : (x : ℕ) → x < n → f (g x) ≡ x

-- f applied k times
abbrev pub iterate : (ℕ → ℕ) → ℕ → ℕ → ℕ
iterate f zero x = x
iterate f (suc k) x = f (iterate f k x)

-- fewer than n steps of f lead from x to y
abbrev pub reaches : ℕ → (ℕ → ℕ) → ℕ → ℕ → Bool
reaches n f x y = some n (λ k. iterate f k x == y)

-- the links from each number below n to its image
abbrev pub orbit_links : ℕ → (ℕ → ℕ) → List (ℕ × ℕ)
orbit_links zero f = []
orbit_links (suc n) f = (n, f n) ∷ orbit_links n f

-- x and y are in one orbit of f
abbrev pub same_orbit : ℕ → (ℕ → ℕ) → ℕ → ℕ → Bool
same_orbit n f = connected (orbit_links n f)

-- how many orbits f has on the numbers below n
abbrev pub orbit_count : ℕ → (ℕ → ℕ) → ℕ
orbit_count n f = class_count n (same_orbit n f)
