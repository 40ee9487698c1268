-- A permutation renamed by another, and counts that a renaming keeps.
use Rattle.std.proofs.Common.{◌≡◌, ℕ, ◌<◌, Bool, true, refl, sym, ◌∙◌, subst}
use Rattle.permutations.specs.Relation.{IsEquivalence, class_count}
use Rattle.permutations.specs.Permutation.{Permutes, same_orbit, orbit_count}
use Rattle.permutations.proofs.Relation.{same-tests}
use Rattle.permutations.proofs.Classes.{class_count_in-all, classes-transfer}
use Rattle.permutations.proofs.Orbits.{orbit-equivalence, orbit-step, orbit-least}

-- a relation and its copy under a permutation have equally many classes
pub class_count-copy : (n : ℕ) (r s : ℕ → ℕ → Bool) (h k : ℕ → ℕ) → Permutes n h k → IsEquivalence s → ((x y : ℕ) → x < n → y < n → r x y ≡ s (h x) (h y)) → class_count n r ≡ class_count n s
class_count-copy n r s h k b e c = sym (class_count_in-all n (λ x. true) r (λ x l. refl)) ∙ classes-transfer n n (λ x. true) (λ x. true) r s h e
    (λ x l t. b.forth x l) (λ x l t. refl) (λ x y l m t u. c x y l m)
    (λ y l t. (k y, b.back y l, refl, subst (λ (z : ℕ). s z y ≡ true) (sym (b.forth_back y l)) (e.reflexive y)))
    ∙ class_count_in-all n (λ x. true) s (λ x l. refl)

-- an equivalence seen through a function is one
pub equivalence-through : (s : ℕ → ℕ → Bool) (h : ℕ → ℕ) → IsEquivalence s → IsEquivalence (λ x y. s (h x) (h y))
equivalence-through s h e = record {
  reflexive = λ x. e.reflexive (h x);
  symmetric = λ x y t. e.symmetric (h x) (h y) t;
  transitive = λ x y z t u. e.transitive (h x) (h y) (h z) t u;
}

-- renamed numbers are in one orbit of the renamed permutation exactly where they were in one orbit
pub renamed-orbit : (n : ℕ) (f g h k : ℕ → ℕ) → Permutes n f g → Permutes n h k → (x y : ℕ) → x < n → y < n → same_orbit n f x y ≡ same_orbit n (λ z. h (f (k z))) (h x) (h y)
renamed-orbit n f g h k b c x y l m = same-tests (same_orbit n f x y) (same_orbit n r (h x) (h y)) (there x y)
    (λ t. subst (λ (w : ℕ). same_orbit n f x w ≡ true) (c.back_forth y m) (subst (λ (w : ℕ). same_orbit n f w (k (h y)) ≡ true) (c.back_forth x l) (back (h x) (h y) t)))
  where
    r : ℕ → ℕ
    r z = h (f (k z))

    there : (u v : ℕ) → same_orbit n f u v ≡ true → same_orbit n r (h u) (h v) ≡ true
    there = orbit-least n f (λ u v. same_orbit n r (h u) (h v)) (equivalence-through (same_orbit n r) h (orbit-equivalence n r))
        (λ z i. subst (λ (w : ℕ). same_orbit n r (h z) (h (f w)) ≡ true) (c.back_forth z i) (orbit-step n r (h z) (c.forth z i)))

    back : (u v : ℕ) → same_orbit n r u v ≡ true → same_orbit n f (k u) (k v) ≡ true
    back = orbit-least n r (λ u v. same_orbit n f (k u) (k v)) (equivalence-through (same_orbit n f) k (orbit-equivalence n f))
        (λ z i. subst (λ (w : ℕ). same_orbit n f (k z) w ≡ true) (sym (c.back_forth (f (k z)) (b.forth (k z) (c.back z i)))) (orbit-step n f (k z) (c.back z i)))

-- a permutation and its renamed copy have equally many orbits
pub renamed-count : (n : ℕ) (f g h k : ℕ → ℕ) → Permutes n f g → Permutes n h k → orbit_count n (λ z. h (f (k z))) ≡ orbit_count n f
renamed-count n f g h k b c = sym (class_count-copy n (same_orbit n f) (same_orbit n (λ z. h (f (k z)))) h k c (orbit-equivalence n (λ z. h (f (k z)))) (renamed-orbit n f g h k b c))
