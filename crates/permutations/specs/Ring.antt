-- The orbit of a permutation as a list, in the order of its steps, and a walk around the darts of a vertex.
use Rattle.std.specs.Prelude.{ℕ, zero, suc, ◌+◌, ◌/◌, ◌==◌, List, [], ◌∷◌, slice_index}
use Rattle.permutations.specs.Count.{least}
use Rattle.permutations.specs.Permutation.{iterate}

-- x and its images, k numbers in all
abbrev pub images : (ℕ → ℕ) → ℕ → ℕ → List ℕ
images f zero x = []
images f (suc k) x = x ∷ images f k (f x)

-- after how many steps of f, at most n, x comes back
abbrev pub orbit_length : ℕ → (ℕ → ℕ) → ℕ → ℕ
orbit_length n f x = least n (λ k. iterate f (k + 1) x == x) + 1

-- the orbit of x as a cyclic order, written from x on
abbrev pub ring : ℕ → (ℕ → ℕ) → ℕ → List ℕ
ring n f x = images f (orbit_length n f x) x

-- the edges of k darts, from d on, each dart the one that the list has at the dart before it. Dart d is one of the two of edge d / 2
abbrev pub turns : List ℕ → ℕ → ℕ → List ℕ
turns next d zero = []
turns next d (suc k) = (d / 2) ∷ turns next (slice_index next d) k
