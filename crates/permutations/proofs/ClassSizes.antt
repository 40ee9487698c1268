-- Counting members class by class: the sum over classes, and classes of at least or exactly k members.
use Rattle.std.proofs.Common.{◌≡◌, ℕ, ◌*◌, ◌<◌, ◌≤◌, inl, inr, Bool, true, cond, ◌&&◌, ◌==◌, refl, sym, ap, ◌∙◌, subst, arith}
use Rattle.std.proofs.lemmas.Bool.{cases_Bool, and_parts, and_from, eq-eqb, eqb-true, cond-true, cond-false}
use Rattle.permutations.specs.Count.{count, sum_below}
use Rattle.permutations.specs.Relation.{IsEquivalence, leads, leader, class_count, class_size}
use Rattle.permutations.proofs.Count.{count-ext, count-single, count-none}
use Rattle.permutations.proofs.Relation.{same-tests}
use Rattle.permutations.proofs.Leaders.{leader-related, leader-le, leader-leads, leads-leader, leader-same}
use Rattle.permutations.proofs.Sums.{sum_below-ext, sum_below-same, sum_below-times, count-exchange, count-sum}

-- related numbers have classes of one size
pub class_size-same : (n : ℕ) (t : ℕ → Bool) (r : ℕ → ℕ → Bool) (x y : ℕ) → IsEquivalence r → r x y ≡ true → class_size n t r x ≡ class_size n t r y
class_size-same n t r x y e h = count-ext n (λ z. t z && r x z) (λ z. t z && r y z) (λ z l. ap (λ (b : Bool). t z && b) (same-tests (r x z) (r y z) (e.transitive y x z (e.symmetric x y h)) (e.transitive x y z h)))

-- each member has exactly one leader
one-leader : (n : ℕ) (r : ℕ → ℕ → Bool) (y : ℕ) → IsEquivalence r → y < n → count n (λ x. leads r x && r x y) ≡ 1
one-leader n r y e l =
    count-ext n (λ x. leads r x && r x y) (λ x. x == leader r y) (λ x k. same-tests (leads r x && r x y) (x == leader r y)
    (λ h. let w = and_parts (leads r x) (r x y) h in eq-eqb x (leader r y) (sym (leads-leader r x e w.0) ∙ leader-same r x y e w.1))
    (λ h. let d : leader r y ≡ x = sym (eqb-true x (leader r y) h) in and_from (leads r x) (r x y) (subst (λ (z : ℕ). leads r z ≡ true) d (leader-leads r y e)) (subst (λ (z : ℕ). r z y ≡ true) d (leader-related r y e))))
    ∙ count-single n (leader r y) (omega (arith, leader-le r y e))

-- the sizes of all classes add up to the number of members
pub class-sum : (n : ℕ) (t : ℕ → Bool) (r : ℕ → ℕ → Bool) → IsEquivalence r → sum_below n (λ x. cond (leads r x) (class_size n t r x) 0) ≡ count n t
class-sum n t r e =
    sum_below-ext n (λ x. cond (leads r x) (class_size n t r x) 0) (λ x. count n (table x)) row
    ∙ count-exchange n n table
    ∙ sum_below-ext n (λ y. count n (λ x. table x y)) (λ y. cond (t y) 1 0) column
    ∙ sym (count-sum n t)
  where
    table : ℕ → ℕ → Bool
    table x y = t y && (leads r x && r x y)

    row : (x : ℕ) → x < n → cond (leads r x) (class_size n t r x) 0 ≡ count n (table x)
    row x l = elim (cases_Bool (leads r x)) [
      | inl h ↦ rw (h) (count-ext n (λ y. t y && r x y) (table x) (λ y k. rw h refl))
      | inr h ↦ rw (h) (sym (count-none n (table x) (λ y k. rw h (grind (arith, cases_Bool (t y))))))
    ]

    column : (y : ℕ) → y < n → count n (λ x. table x y) ≡ cond (t y) 1 0
    column y l = elim (cases_Bool (t y)) [
      | inl h ↦ count-ext n (λ x. table x y) (λ x. leads r x && r x y) (λ x k. rw h refl) ∙ one-leader n r y e l ∙ sym (cond-true (t y) 1 0 h)
      | inr h ↦ count-none n (λ x. table x y) (λ x k. rw h refl) ∙ sym (cond-false (t y) 1 0 h)
    ]

-- term by term
least-terms : (n : ℕ) (t : ℕ → Bool) (r : ℕ → ℕ → Bool) (k : ℕ) → ((x : ℕ) → x < n → leads r x ≡ true → k ≤ class_size n t r x) → (x : ℕ) → x < n → cond (leads r x) k 0 ≤ cond (leads r x) (class_size n t r x) 0
least-terms n t r k h x l = elim (cases_Bool (leads r x)) [ inl y ↦ rw y (h x l y) | inr y ↦ rw y (omega arith) ]

-- where each class has at least k members, and there are no more than k for each, each class has exactly k
pub class-exact-size : (n : ℕ) (t : ℕ → Bool) (r : ℕ → ℕ → Bool) (k : ℕ) → IsEquivalence r → ((x : ℕ) → x < n → leads r x ≡ true → k ≤ class_size n t r x) → count n t ≤ k * class_count n r → (x : ℕ) → x < n → class_size n t r x ≡ k
class-exact-size n t r k e h c x l =
    sym (class_size-same n t r (leader r x) x e (leader-related r x e))
    ∙ sym (cond-true (leads r a) (class_size n t r a) 0 (leader-leads r x e))
    ∙ sym (sum_below-same n (λ z. cond (leads r z) k 0) (λ z. cond (leads r z) (class_size n t r z) 0) (least-terms n t r k h)
    (omega (arith, class-sum n t r e, sum_below-times n (leads r) k)) a (omega (arith, leader-le r x e)))
    ∙ cond-true (leads r a) k 0 (leader-leads r x e)
  where
    a : ℕ
    a = leader r x
