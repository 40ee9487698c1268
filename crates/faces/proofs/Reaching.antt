-- What the steps of a permutation reach: an equivalence, that of its orbits.
use Rattle.std.proofs.Common.{◌≡◌, ℕ, ◌<◌, true, ◌==◌, refl, sym, ap, ◌∙◌, subst}
use Rattle.permutations.specs.Permutation.{iterate, reaches, same_orbit}
use Rattle.permutations.proofs.Search.{some-ext}
use Rattle.permutations.proofs.Relation.{same-tests}
use Rattle.permutations.proofs.Iterates.{iterate-below, iterate-ext, iterate-orbit, reaches-steps, orbit-reaches}
use Rattle.permutations.proofs.Orbits.{orbit-equivalence}
use Rattle.faces.specs.Marks.{IsPermutationBelow}

-- steps stay below n
pub steps-below : (n : ℕ) (f : ℕ → ℕ) → IsPermutationBelow n f → (k x : ℕ) → x < n → iterate f k x < n
steps-below n f p k x l = iterate-below n f p.0 p.1 k x l

-- what any number of steps leads to, fewer than n lead to
pub steps-reach : (n : ℕ) (f : ℕ → ℕ) → IsPermutationBelow n f → (k x y : ℕ) → x < n → iterate f k x ≡ y → reaches n f x y ≡ true
steps-reach n f p k x y l e = subst (λ z. reaches n f x z ≡ true) e (sym (orbit-reaches n f p.0 p.1 x (iterate f k x) l) ∙ iterate-orbit n f p.0 p.1 k x l)

-- what is reached from a number below n is below n
pub reaches-below : (n : ℕ) (f : ℕ → ℕ) → IsPermutationBelow n f → (x y : ℕ) → x < n → reaches n f x y ≡ true → y < n
reaches-below n f p x y l t =
    let w : (k : ℕ) × (k < n) × (iterate f k x ≡ y) = reaches-steps n f x y t in
    subst (λ z. z < n) w.2 (steps-below n f p w.0 x l)

-- what y reaches, x reaches too where it reaches y
pub reaches-through : (n : ℕ) (f : ℕ → ℕ) → IsPermutationBelow n f → (x y z : ℕ) → x < n → reaches n f x y ≡ true → reaches n f y z ≡ true → reaches n f x z ≡ true
reaches-through n f p x y z l s t =
    let one : same_orbit n f x y ≡ true = orbit-reaches n f p.0 p.1 x y l ∙ s in
    let two : same_orbit n f y z ≡ true = orbit-reaches n f p.0 p.1 y z (reaches-below n f p x y l s) ∙ t in
    sym (orbit-reaches n f p.0 p.1 x z l) ∙ (orbit-equivalence n f).transitive x y z one two

-- where x reaches y, y reaches x
pub reaches-back : (n : ℕ) (f : ℕ → ℕ) → IsPermutationBelow n f → (x y : ℕ) → x < n → reaches n f x y ≡ true → reaches n f y x ≡ true
reaches-back n f p x y l t =
    let one : same_orbit n f x y ≡ true = orbit-reaches n f p.0 p.1 x y l ∙ t in
    sym (orbit-reaches n f p.0 p.1 y x (reaches-below n f p x y l t)) ∙ (orbit-equivalence n f).symmetric x y one

-- either way at once
pub reaches-sides : (n : ℕ) (f : ℕ → ℕ) → IsPermutationBelow n f → (x y : ℕ) → x < n → y < n → reaches n f x y ≡ reaches n f y x
reaches-sides n f p x y l m = same-tests (reaches n f x y) (reaches n f y x) (reaches-back n f p x y l) (reaches-back n f p y x m)

-- a number is reached exactly where its image is
pub reaches-image : (n : ℕ) (f : ℕ → ℕ) → IsPermutationBelow n f → (x y : ℕ) → x < n → y < n → reaches n f x (f y) ≡ reaches n f x y
reaches-image n f p x y l m =
    let on : reaches n f y (f y) ≡ true = steps-reach n f p 1 y (f y) m refl in
    same-tests (reaches n f x (f y)) (reaches n f x y)
    (λ t. reaches-through n f p x (f y) y l t (reaches-back n f p y (f y) m on))
    (λ t. reaches-through n f p x y (f y) l t on)

-- two functions that agree below n reach the same numbers
pub reaches-ext : (n : ℕ) (f h : ℕ → ℕ) → ((x : ℕ) → x < n → f x ≡ h x) → IsPermutationBelow n f → (x y : ℕ) → x < n → reaches n f x y ≡ reaches n h x y
reaches-ext n f h e p x y l = some-ext n (λ k. iterate f k x == y) (λ k. iterate h k x == y) (λ k m. ap (λ z. z == y) (iterate-ext n f h p.1.forth e k x l).0)
