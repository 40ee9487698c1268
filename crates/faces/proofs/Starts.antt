-- The starts of orbits: going up the numbers, one is unmarked exactly where it begins its orbit.
use Rattle.std.proofs.Common.{◌≡◌, ℕ, ◌<◌, ◌≤◌, Bool, true, not, List, sym, ap, ◌∙◌, arith}
use Rattle.permutations.specs.Count.{count}
use Rattle.permutations.specs.Relation.{leads}
use Rattle.permutations.specs.Permutation.{reaches}
use Rattle.permutations.proofs.Search.{some-ext}
use Rattle.permutations.proofs.Count.{count-ext}
use Rattle.faces.specs.Euler.{begins_orbit}
use Rattle.faces.specs.Marks.{IsPermutationBelow}
use Rattle.multigraph.specs.Marks.{is_marked}
use Rattle.faces.proofs.Reaching.{reaches-sides, reaches-through, reaches-image, reaches-ext}
use Rattle.faces.proofs.Found.{FoundBelow}

-- a number's image is marked exactly where it is
pub starts-whole : (n : ℕ) (f : ℕ → ℕ) → IsPermutationBelow n f → (d : ℕ) (marks : List Bool) (orbits : ℕ) → FoundBelow (reaches n f) d marks orbits → d ≤ n → (x : ℕ) → x < n → is_marked marks (f x) ≡ is_marked marks x
starts-whole n f p d marks orbits m l x k =
    m.marked (f x) ∙ some-ext d (λ y. reaches n f y (f x)) (λ y. reaches n f y x) (λ y h. reaches-image n f p y x (omega arith) k) ∙ sym (m.marked x)

-- what a smaller number reaches along with d, it reaches by way of d
pub starts-through : (n : ℕ) (f : ℕ → ℕ) → IsPermutationBelow n f → (d : ℕ) → d < n → (y x : ℕ) → y < d → reaches n f y d ≡ true → reaches n f d x ≡ true → reaches n f y x ≡ true
starts-through n f p d l y x k = reaches-through n f p y d x (omega arith)

-- a number that leads its class begins its orbit
pub starts-lead : (n : ℕ) (f : ℕ → ℕ) → IsPermutationBelow n f → count n (leads (reaches n f)) ≡ count n (begins_orbit n f)
starts-lead n f p = count-ext n (leads (reaches n f)) (begins_orbit n f) (λ d l. ap not (some-ext d (λ y. reaches n f y d) (λ y. reaches n f d y) (λ y h. reaches-sides n f p y d (omega arith) l)))

-- two functions that agree below n have the same starts
pub begins-ext : (n : ℕ) (f h : ℕ → ℕ) → ((x : ℕ) → x < n → f x ≡ h x) → IsPermutationBelow n f → (x : ℕ) → x < n → begins_orbit n f x ≡ begins_orbit n h x
begins-ext n f h e p x l = ap not (some-ext x (λ y. reaches n f x y) (λ y. reaches n h x y) (λ y k. reaches-ext n f h e p x y l))

-- and as many
pub starts-ext : (n : ℕ) (f h : ℕ → ℕ) → ((x : ℕ) → x < n → f x ≡ h x) → IsPermutationBelow n f → count n (begins_orbit n f) ≡ count n (begins_orbit n h)
starts-ext n f h e p = count-ext n (begins_orbit n f) (begins_orbit n h) (begins-ext n f h e p)
