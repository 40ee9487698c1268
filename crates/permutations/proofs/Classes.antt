-- How many classes an equivalence has: one link more, finer relations, closed parts, renumbering.
use Rattle.std.proofs.Common.{◌≡◌, ℕ, ◌+◌, ◌<◌, ◌≤◌, ◌⊎◌, inl, inr, Bool, true, false, not, ◌&&◌, ◌==◌, sym, ap, ◌∙◌, subst, arith}
use Rattle.std.proofs.lemmas.Bool.{cases_Bool, cases_order, both_ways, false_from_ne_true, and_parts, and_from, eq-eqb, ne_eqb, not_from_false}
use Rattle.permutations.specs.Count.{some, least}
use Rattle.permutations.specs.Relation.{IsEquivalence, join, leads, leader, leads_in, class_count, class_count_in}
use Rattle.permutations.proofs.Search.{some-from, least-passes, least-below, least-before}
use Rattle.permutations.proofs.Count.{count-ext, count-remove, count-subset, count-same, count-split}
use Rattle.permutations.proofs.Injection.{count-injections}
use Rattle.permutations.proofs.Relation.{same-tests, join-old, join-across, join-cases, join-trivial}
use Rattle.permutations.proofs.Leaders.{leads-before, leads-from, leads-once, leader-related, leader-le, leader-least, leader-leads, leads-leader, leader-same, same-leader, leads-ext, leads_in-member, leads_in-before, leads_in-from, leads_in-once}

-- relations that agree below n have the same number of classes
pub class_count-ext : (n : ℕ) (r s : ℕ → ℕ → Bool) → ((x y : ℕ) → x < n → y < n → r x y ≡ s x y) → class_count n r ≡ class_count n s
class_count-ext n r s h = count-ext n (leads r) (leads s) (λ x l. leads-ext r s x (λ y k. h y x (omega arith) l))

-- a link between related numbers leaves the number of classes
pub add-link-related : (n : ℕ) (r : ℕ → ℕ → Bool) (p q : ℕ) → IsEquivalence r → r p q ≡ true → class_count n (join r p q) ≡ class_count n r
add-link-related n r p q e h = class_count-ext n (join r p q) r (λ x y l k. join-trivial r p q e h x y)

-- the join does not know which end of the link comes first
pub join-swap : (r : ℕ → ℕ → Bool) (p q x y : ℕ) → join r p q x y ≡ join r q p x y
join-swap r p q x y = grind (arith, cases_Bool (r x y), cases_Bool (r x p), cases_Bool (r q y), cases_Bool (r x q), cases_Bool (r p y))

-- where the leader of p is below that of q, the leaders after the link are those before but the leader of q
leads-join : (r : ℕ → ℕ → Bool) (p q x : ℕ) → IsEquivalence r → leader r p < leader r q → leads (join r p q) x ≡ (leads r x && not (x == leader r q))
leads-join r p q x e l = same-tests (leads (join r p q) x) (leads r x && not (x == leader r q)) forth back
  where
    a : ℕ
    a = leader r p

    b : ℕ
    b = leader r q

    linked : join r p q a b ≡ true
    linked = join-across r p q a b (leader-related r p e) (e.symmetric b q (leader-related r q e))

    forth : leads (join r p q) x ≡ true → (leads r x && not (x == b)) ≡ true
    forth h = and_from (leads r x) (not (x == b))
        (leads-from r x (λ y k. false_from_ne_true (r y x) (λ t. both_ways (join r p q y x) (leads-before (join r p q) x y h k) (join-old r p q y x t))))
        (not_from_false (x == b) (ne_eqb x b (λ d. both_ways (join r p q a x) (leads-before (join r p q) x a h (omega arith)) (subst (λ (z : ℕ). join r p q a z ≡ true) (sym d) linked))))

    back : (leads r x && not (x == b)) ≡ true → leads (join r p q) x ≡ true
    back h = leads-from (join r p q) x (λ y k. false_from_ne_true (join r p q y x) (λ t. clash y k (join-cases r p q y x t)))
      where
        led : leads r x ≡ true
        led = (and_parts (leads r x) (not (x == b)) h).0

        other : x ≡ b → ⊥
        other d = both_ways (not (x == b)) (ap not (eq-eqb x b d)) (and_parts (leads r x) (not (x == b)) h).1

        clash : (y : ℕ) → y < x → (r y x ≡ true) ⊎ ((r y p ≡ true) × (r q x ≡ true)) ⊎ ((r y q ≡ true) × (r p x ≡ true)) → ⊥
        clash y k c = elim c [
          | inl t ↦ both_ways (r y x) (leads-before r x y led k) t
          | inr d ↦ elim d [
            | inl t ↦ other (sym (leads-leader r x e led) ∙ sym (leader-same r q x e t.1))
            | inr t ↦
                let i : leader r p ≡ x = leader-same r p x e t.1 ∙ leads-leader r x e led in
                let j : leader r q ≤ y = leader-least r q y t.0 in
                omega arith
          ]
        ]

-- a link between two classes makes one class of them
pub add-link : (n : ℕ) (r : ℕ → ℕ → Bool) (p q : ℕ) → IsEquivalence r → p < n → q < n → r p q ≡ false → class_count n (join r p q) + 1 ≡ class_count n r
add-link n r p q e l k h = elim (cases_order (leader r p) (leader r q)) [
  | inl d ↦ absurd (both_ways (r p q) h (same-leader r p q e d))
  | inr o ↦ elim o [
    | inl w ↦ below r p q e k w
    | inr w ↦ sym (ap (λ (c : ℕ). c + 1) (class_count-ext n (join r q p) (join r p q) (λ x y _ _. join-swap r q p x y))) ∙ below r q p e l w
  ]
]
  where
    below : (r : ℕ → ℕ → Bool) (p q : ℕ) → IsEquivalence r → q < n → leader r p < leader r q → class_count n (join r p q) + 1 ≡ class_count n r
    below r p q e k w = omega (
      arith,
      count-ext n (leads (join r p q)) (λ x. leads r x && not (x == leader r q)) (λ x _. leads-join r p q x e w),
      count-remove n (leads r) (leader r q) (omega (arith, leader-le r q e)) (leader-leads r q e),
    )

-- a leader leads in a finer relation too
pub leads-finer : (r s : ℕ → ℕ → Bool) → ((x y : ℕ) → r x y ≡ true → s x y ≡ true) → (x : ℕ) → leads s x ≡ true → leads r x ≡ true
leads-finer r s h x k = leads-from r x (λ y l. false_from_ne_true (r y x) (λ t. both_ways (s y x) (leads-before s x y k l) (h y x t)))

-- a finer relation has at least as many classes
pub class_count-finer : (n : ℕ) (r s : ℕ → ℕ → Bool) → ((x y : ℕ) → r x y ≡ true → s x y ≡ true) → class_count n s ≤ class_count n r
class_count-finer n r s h = count-subset n (leads s) (leads r) (λ x l k. leads-finer r s h x k)

-- a finer equivalence with no more classes is the same below n
pub class_count-same : (n : ℕ) (r s : ℕ → ℕ → Bool) → IsEquivalence r → IsEquivalence s → ((x y : ℕ) → r x y ≡ true → s x y ≡ true) → class_count n r ≤ class_count n s → (x y : ℕ) → x < n → y < n → s x y ≡ r x y
class_count-same n r s e d h c x y l k = same-tests (s x y) (r x y) forth (h x y)
  where
    led : (z : ℕ) → z < n → leads s (leader r z) ≡ true
    led z w = count-same n (leads s) (leads r) (λ x _. leads-finer r s h x) c (leader r z) (omega (arith, leader-le r z e)) ∙ leader-leads r z e

    forth : s x y ≡ true → r x y ≡ true
    forth t = same-leader r x y e (leads-once s (leader r x) (leader r y) d (led x l) (led y k)
        (d.transitive (leader r x) x (leader r y) (h (leader r x) x (leader-related r x e)) (d.transitive x y (leader r y) t (d.symmetric (leader r y) y (h (leader r y) y (leader-related r y e))))))

-- where the relation respects d, what leads among the members of d is what leads and is one
leads_in-closed : (d : ℕ → Bool) (r : ℕ → ℕ → Bool) → ((x y : ℕ) → r x y ≡ true → d x ≡ d y) → (x : ℕ) → (leads r x && d x) ≡ leads_in d r x
leads_in-closed d r h x = same-tests (leads r x && d x) (leads_in d r x)
    (λ t. let w = and_parts (leads r x) (d x) t in leads_in-from d r x w.1 (λ y l _. leads-before r x y w.0 l))
    (λ t. let m : d x ≡ true = leads_in-member d r x t in and_from (leads r x) (d x)
    (leads-from r x (λ y l. false_from_ne_true (r y x) (λ k. both_ways (r y x) (leads_in-before d r x y t l (h y x k ∙ m)) k))) m)

-- where the relation respects d, its classes are those of the members of d and those of the others
pub class_count-closed : (n : ℕ) (d : ℕ → Bool) (r : ℕ → ℕ → Bool) → ((x y : ℕ) → r x y ≡ true → d x ≡ d y) → class_count n r ≡ class_count_in n d r + class_count_in n (λ x. not (d x)) r
class_count-closed n d r h = omega (
  arith,
  count-split n (leads r) d,
  count-ext n (λ x. leads r x && d x) (leads_in d r) (λ x _. leads_in-closed d r h x),
  count-ext n (λ x. leads r x && not (d x)) (leads_in (λ x. not (d x)) r) (λ x _. leads_in-closed (λ x. not (d x)) r (λ y z k. ap not (h y z k)) x),
)

-- classes among the members of d depend on d and r below n alone
pub class_count_in-ext : (n : ℕ) (d e : ℕ → Bool) (r s : ℕ → ℕ → Bool) → ((x : ℕ) → x < n → d x ≡ e x) → ((x y : ℕ) → x < n → y < n → d x ≡ true → d y ≡ true → r x y ≡ s x y) → class_count_in n d r ≡ class_count_in n e s
class_count_in-ext n d e r s h k = count-ext n (leads_in d r) (leads_in e s) (λ x l. same-tests (leads_in d r x) (leads_in e s x)
    (λ t. let m : d x ≡ true = leads_in-member d r x t in leads_in-from e s x (sym (h x l) ∙ m)
    (λ y w u. let v : d y ≡ true = h y (omega arith) ∙ u in sym (k y x (omega arith) l v m) ∙ leads_in-before d r x y t w v))
    (λ t. let m : d x ≡ true = h x l ∙ leads_in-member e s x t in leads_in-from d r x m
    (λ y w v. k y x (omega arith) l v m ∙ leads_in-before e s x y t w (sym (h y (omega arith)) ∙ v))))

-- where all numbers below n are members, the classes among them are all
pub class_count_in-all : (n : ℕ) (d : ℕ → Bool) (r : ℕ → ℕ → Bool) → ((x : ℕ) → x < n → d x ≡ true) → class_count_in n d r ≡ class_count n r
class_count_in-all n d r h = count-ext n (leads_in d r) (leads r) (λ x l. same-tests (leads_in d r x) (leads r x)
    (λ t. leads-from r x (λ y w. leads_in-before d r x y t w (h y (omega arith))))
    (λ t. leads_in-from d r x (h x l) (λ y w _. leads-before r x y t w)))

-- renumbering: f carries the members of d into those of e, keeps the relation both ways, and meets each class there; then both have the same number of classes
pub classes-transfer : (n m : ℕ) (d e : ℕ → Bool) (r s : ℕ → ℕ → Bool) (f : ℕ → ℕ) → IsEquivalence s
    → ((x : ℕ) → x < n → d x ≡ true → f x < m)
    → ((x : ℕ) → x < n → d x ≡ true → e (f x) ≡ true)
    → ((x y : ℕ) → x < n → y < n → d x ≡ true → d y ≡ true → r x y ≡ s (f x) (f y))
    → ((y : ℕ) → y < m → e y ≡ true → (x : ℕ) × (x < n) × (d x ≡ true) × (s (f x) y ≡ true))
    → class_count_in n d r ≡ class_count_in m e s
classes-transfer n m d e r s f q below into keeps onto = count-injections n m (leads_in d r) (leads_in e s) there here
    (λ x l t. least-below m (image x) (image-some x l (leads_in-member d r x t)))
    (λ x l t. there-leads x l (leads_in-member d r x t))
    (λ x y l k t u c. there-once x y l k t u c)
    (λ y l t. least-below n (origin y) (origin-some y l (leads_in-member e s y t)))
    (λ y l t. here-leads y l (leads_in-member e s y t))
    (λ x y l k t u c. here-once x y l k t u c)
  where
    image : ℕ → ℕ → Bool
    image x y = e y && s (f x) y

    origin : ℕ → ℕ → Bool
    origin y x = d x && s (f x) y

    there : ℕ → ℕ
    there x = least m (image x)

    here : ℕ → ℕ
    here y = least n (origin y)

    image-some : (x : ℕ) → x < n → d x ≡ true → some m (image x) ≡ true
    image-some x l t = some-from m (image x) (f x) (below x l t) (and_from (e (f x)) (s (f x) (f x)) (into x l t) (q.reflexive (f x)))

    origin-some : (y : ℕ) → y < m → e y ≡ true → some n (origin y) ≡ true
    origin-some y l t = let w = onto y l t in some-from n (origin y) w.0 w.1 (and_from (d w.0) (s (f w.0) y) w.2 w.3)

    there-is : (x : ℕ) → x < n → d x ≡ true → (e (there x) ≡ true) × (s (f x) (there x) ≡ true)
    there-is x l t = and_parts (e (there x)) (s (f x) (there x)) (least-passes m (image x) (image-some x l t))

    here-is : (y : ℕ) → y < m → e y ≡ true → (d (here y) ≡ true) × (s (f (here y)) y ≡ true)
    here-is y l t = and_parts (d (here y)) (s (f (here y)) y) (least-passes n (origin y) (origin-some y l t))

    there-leads : (x : ℕ) → x < n → d x ≡ true → leads_in e s (there x) ≡ true
    there-leads x l t = leads_in-from e s (there x) (there-is x l t).0 (λ y k u. false_from_ne_true (s y (there x)) (λ c.
        both_ways (image x y) (least-before m (image x) y k)
        (and_from (e y) (s (f x) y) u (q.transitive (f x) (there x) y (there-is x l t).1 (q.symmetric y (there x) c)))))

    here-leads : (y : ℕ) → y < m → e y ≡ true → leads_in d r (here y) ≡ true
    here-leads y l t = leads_in-from d r (here y) (here-is y l t).0 (λ x k u. false_from_ne_true (r x (here y)) (λ c.
        let h : here y < n = least-below n (origin y) (origin-some y l t) in
        both_ways (origin y x) (least-before n (origin y) x k)
        (and_from (d x) (s (f x) y) u (q.transitive (f x) (f (here y)) y (sym (keeps x (here y) (omega arith) h u (here-is y l t).0) ∙ c) (here-is y l t).1))))

    there-once : (x y : ℕ) → x < n → y < n → leads_in d r x ≡ true → leads_in d r y ≡ true → there x ≡ there y → x ≡ y
    there-once x y l k t u c =
        let a : d x ≡ true = leads_in-member d r x t in
        let b : d y ≡ true = leads_in-member d r y u in
        let j : s (f x) (f y) ≡ true = q.transitive (f x) (there x) (f y) (there-is x l a).1 (q.symmetric (f y) (there x) (subst (λ (z : ℕ). s (f y) z ≡ true) (sym c) (there-is y k b).1)) in
        leads_in-once d r x y t u (keeps x y l k a b ∙ j) (keeps y x k l b a ∙ q.symmetric (f x) (f y) j)

    here-once : (x y : ℕ) → x < m → y < m → leads_in e s x ≡ true → leads_in e s y ≡ true → here x ≡ here y → x ≡ y
    here-once x y l k t u c =
        let a : s (f (here x)) x ≡ true = (here-is x l (leads_in-member e s x t)).1 in
        let b : s (f (here y)) y ≡ true = (here-is y k (leads_in-member e s y u)).1 in
        let j : s x y ≡ true = q.transitive x (f (here x)) y (q.symmetric (f (here x)) x a) (subst (λ (z : ℕ). s (f z) y ≡ true) (sym c) b) in
        leads_in-once e s x y t u j (q.symmetric x y j)
