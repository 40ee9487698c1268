-- Orbits of a permutation: the relation that its links generate.
use Rattle.std.proofs.Common.{◌≡◌, ℕ, zero, suc, ◌<◌, ◌≤◌, inl, inr, Bool, true, cond, not, ◌&&◌, ◌||◌, ◌==◌, ltb, sym, subst, arith}
use Rattle.std.proofs.lemmas.Bool.{cases_Bool, cases_eq}
use Rattle.std.proofs.lemmas.Bool.Decides.{eqb_tells, nat_tests}
use Rattle.permutations.specs.Relation.{IsEquivalence}
use Rattle.permutations.specs.Permutation.{Permutes, orbit_links, same_orbit, orbit_count}
use Rattle.permutations.proofs.Relation.{join-old, join-link, join-least, connected-equivalence, same-tests}
use Rattle.permutations.proofs.Classes.{class_count-ext}
use Rattle.permutations.proofs.Permutations.{kept-back, permutes-inverse}

-- being in one orbit is an equivalence
pub orbit-equivalence : (n : ℕ) (f : ℕ → ℕ) → IsEquivalence (same_orbit n f)
orbit-equivalence n f = connected-equivalence (orbit_links n f)

-- a number and its image are in one orbit
pub orbit-step : (n : ℕ) (f : ℕ → ℕ) (x : ℕ) → x < n → same_orbit n f x (f x) ≡ true
orbit-step zero f x l = absurd (omega arith)
orbit-step (suc n) f x l = elim (cases_eq x n) [
  | inl e ↦ rw e (join-link (same_orbit n f) n (f n) (orbit-equivalence n f))
  | inr a ↦ join-old (same_orbit n f) n (f n) x (f x) (orbit-step n f x (omega arith))
]

-- the relation of orbits is the least equivalence that contains the steps
pub orbit-least : (n : ℕ) (f : ℕ → ℕ) (s : ℕ → ℕ → Bool) → IsEquivalence s → ((z : ℕ) → z < n → s z (f z) ≡ true) → (x y : ℕ) → same_orbit n f x y ≡ true → s x y ≡ true
orbit-least zero f s e h x y t = subst (λ (z : ℕ). s x z ≡ true) (grind (arith, eqb_tells)) (e.reflexive x)
orbit-least (suc n) f s e h x y t = join-least (same_orbit n f) s n (f n) e (orbit-least n f s e (λ z l. h z (omega arith))) (h n (omega arith)) x y t

-- agreeing in a test is an equivalence
pub test-equivalence : (a : ℕ → Bool) → IsEquivalence (λ x y. cond (a x) (a y) (not (a y)))
test-equivalence a = record {
  reflexive = λ x. grind (arith, cases_Bool (a x));
  symmetric = λ x y h. grind (arith, cases_Bool (a x), cases_Bool (a y));
  transitive = λ x y z h k. grind (arith, cases_Bool (a x), cases_Bool (a y), cases_Bool (a z));
}

-- agreeing in a test, as it is written below
pub test-agrees : (x y : Bool) → x ≡ y → cond y x (not x) ≡ true
test-agrees x y e = grind (arith, cases_Bool x, cases_Bool y)

-- and back
pub agrees-test : (x y : Bool) → cond x y (not y) ≡ true → x ≡ y
agrees-test x y e = grind (arith, cases_Bool x, cases_Bool y)

-- a test that each step leaves as it is has one value on each orbit
pub orbit-test : (n : ℕ) (f : ℕ → ℕ) (a : ℕ → Bool) → ((z : ℕ) → z < n → a (f z) ≡ a z) → (x y : ℕ) → same_orbit n f x y ≡ true → a x ≡ a y
orbit-test n f a h x y t = agrees-test (a x) (a y) (orbit-least n f (λ u v. cond (a u) (a v) (not (a v))) (test-equivalence a) (λ z l. test-agrees (a (f z)) (a z) (h z l)) x y t)

-- a test that a permutation carries into itself has one value on each orbit
pub orbit-kept : (n : ℕ) (f g : ℕ → ℕ) → Permutes n f g → (a : ℕ → Bool) → ((z : ℕ) → z < n → a z ≡ true → a (f z) ≡ true) → (x y : ℕ) → same_orbit n f x y ≡ true → a x ≡ a y
orbit-kept n f g b a h x y t = orbit-test n f a (kept-back n f g b a h) x y t

-- functions that agree below n have the same orbits
pub orbit-ext : (n : ℕ) (f h : ℕ → ℕ) → ((x : ℕ) → x < n → f x ≡ h x) → (x y : ℕ) → same_orbit n f x y ≡ same_orbit n h x y
orbit-ext n f h s x y = same-tests (same_orbit n f x y) (same_orbit n h x y)
    (orbit-least n f (same_orbit n h) (orbit-equivalence n h) (λ z l. subst (λ (w : ℕ). same_orbit n h z w ≡ true) (sym (s z l)) (orbit-step n h z l)) x y)
    (orbit-least n h (same_orbit n f) (orbit-equivalence n f) (λ z l. subst (λ (w : ℕ). same_orbit n f z w ≡ true) (s z l) (orbit-step n f z l)) x y)

-- being equal or both below n is an equivalence
pub outside-equivalence : (n : ℕ) → IsEquivalence (λ u v. (u == v) || (ltb u n && ltb v n))
outside-equivalence n = record {
  reflexive = λ x. grind (arith, eqb_tells);
  symmetric = λ x y h. grind (arith, nat_tests);
  transitive = λ x y z h k. grind (arith, nat_tests);
}

-- numbers below n are related by it
pub outside-below : (n u v : ℕ) → u < n → v < n → ((u == v) || (ltb u n && ltb v n)) ≡ true
outside-below n u v l k = grind (arith, nat_tests)

-- a number that is not below n is related by it to itself alone
pub outside : (n u v : ℕ) → n ≤ u → ((u == v) || (ltb u n && ltb v n)) ≡ true → u ≡ v
outside n u v l h = grind (arith, nat_tests)

-- out of range each number is alone
pub orbit-outside : (n : ℕ) (f : ℕ → ℕ) → ((x : ℕ) → x < n → f x < n) → (x y : ℕ) → n ≤ x → same_orbit n f x y ≡ true → x ≡ y
orbit-outside n f h x y l t = outside n x y l (orbit-least n f (λ u v. (u == v) || (ltb u n && ltb v n)) (outside-equivalence n) (λ z k. outside-below n z (f z) k (h z k)) x y t)

-- functions that agree below n have equally many orbits
pub orbit-count-ext : (n : ℕ) (f h : ℕ → ℕ) → ((x : ℕ) → x < n → f x ≡ h x) → orbit_count n f ≡ orbit_count n h
orbit-count-ext n f h s = class_count-ext n (same_orbit n f) (same_orbit n h) (λ x y l k. orbit-ext n f h s x y)

-- the inverse has the same orbits
pub orbit-inverse : (n : ℕ) (f g : ℕ → ℕ) → Permutes n f g → (x y : ℕ) → same_orbit n g x y ≡ same_orbit n f x y
orbit-inverse n f g b x y = same-tests (same_orbit n g x y) (same_orbit n f x y) (there n f g b x y) (there n g f (permutes-inverse n f g b) x y)
  where
    there : (n : ℕ) (f g : ℕ → ℕ) → Permutes n f g → (x y : ℕ) → same_orbit n g x y ≡ true → same_orbit n f x y ≡ true
    there n f g b = orbit-least n g (same_orbit n f) (orbit-equivalence n f)
        (λ z l. (orbit-equivalence n f).symmetric (g z) z (subst (λ (w : ℕ). same_orbit n f (g z) w ≡ true) (b.forth_back z l) (orbit-step n f (g z) (b.back z l))))

-- the inverse has equally many orbits
pub orbit-count-inverse : (n : ℕ) (f g : ℕ → ℕ) → Permutes n f g → orbit_count n g ≡ orbit_count n f
orbit-count-inverse n f g b = class_count-ext n (same_orbit n g) (same_orbit n f) (λ x y l k. orbit-inverse n f g b x y)
