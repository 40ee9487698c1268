-- The least number of each class, which leads it.
use Rattle.std.proofs.Common.{◌≡◌, ℕ, ◌+◌, ◌<◌, ◌≤◌, inl, inr, Bool, true, false, not, ◌&&◌, sym, ap, subst, arith}
use Rattle.std.proofs.lemmas.Bool.{cases_Bool, cases_order, both_ways, false_from_ne_true, and_parts, and_from, not-true, not_from_false, not_from_true}
use Rattle.permutations.specs.Count.{some}
use Rattle.permutations.specs.Relation.{IsEquivalence, leads, leader, leads_in}
use Rattle.permutations.proofs.Search.{some-from, some-none, none-some, some-ext, least-passes, least-first}

-- a leader has no smaller number in its class
pub leads-before : (r : ℕ → ℕ → Bool) (x y : ℕ) → leads r x ≡ true → y < x → r y x ≡ false
leads-before r x y h l = some-none x (λ z. r z x) (not-true (some x (λ z. r z x)) h) y l

-- a number with no smaller one in its class leads
pub leads-from : (r : ℕ → ℕ → Bool) (x : ℕ) → ((y : ℕ) → y < x → r y x ≡ false) → leads r x ≡ true
leads-from r x h = not_from_false (some x (λ z. r z x)) (none-some x (λ z. r z x) h)

-- a number with a smaller one in its class does not lead
pub not-leads : (r : ℕ → ℕ → Bool) (x y : ℕ) → y < x → r y x ≡ true → leads r x ≡ false
not-leads r x y l h = not_from_true (some x (λ z. r z x)) (some-from x (λ z. r z x) y l h)

-- two leaders of one class are equal
pub leads-once : (r : ℕ → ℕ → Bool) (x y : ℕ) → IsEquivalence r → leads r x ≡ true → leads r y ≡ true → r x y ≡ true → x ≡ y
leads-once r x y e h k c = elim (cases_order x y) [
  | inl d ↦ d
  | inr o ↦ elim o [ inl l ↦ absurd (both_ways (r x y) (leads-before r y x k l) c) | inr l ↦ absurd (both_ways (r y x) (leads-before r x y h l) (e.symmetric x y c)) ]
]

-- the leader of x's class is in it
pub leader-related : (r : ℕ → ℕ → Bool) (x : ℕ) → IsEquivalence r → r (leader r x) x ≡ true
leader-related r x e = least-passes (x + 1) (λ y. r y x) (some-from (x + 1) (λ y. r y x) x (omega arith) (e.reflexive x))

-- the leader of x's class is no greater than x
pub leader-le : (r : ℕ → ℕ → Bool) (x : ℕ) → IsEquivalence r → leader r x ≤ x
leader-le r x e = least-first (x + 1) (λ y. r y x) x (e.reflexive x)

-- the leader of x's class is no greater than any number of it
pub leader-least : (r : ℕ → ℕ → Bool) (x y : ℕ) → r y x ≡ true → leader r x ≤ y
leader-least r x y h = least-first (x + 1) (λ z. r z x) y h

-- the leader of a class leads
pub leader-leads : (r : ℕ → ℕ → Bool) (x : ℕ) → IsEquivalence r → leads r (leader r x) ≡ true
leader-leads r x e = leads-from r (leader r x) (λ y l. false_from_ne_true (r y (leader r x)) (λ h. absurd (omega (arith, leader-least r x y (e.transitive y (leader r x) x h (leader-related r x e))))))

-- a number that leads is the leader of its class
pub leads-leader : (r : ℕ → ℕ → Bool) (x : ℕ) → IsEquivalence r → leads r x ≡ true → leader r x ≡ x
leads-leader r x e h = leads-once r (leader r x) x e (leader-leads r x e) h (leader-related r x e)

-- related numbers have one leader
pub leader-same : (r : ℕ → ℕ → Bool) (x y : ℕ) → IsEquivalence r → r x y ≡ true → leader r x ≡ leader r y
leader-same r x y e h = leads-once r (leader r x) (leader r y) e (leader-leads r x e) (leader-leads r y e)
    (e.transitive (leader r x) y (leader r y) (e.transitive (leader r x) x y (leader-related r x e) h) (e.symmetric (leader r y) y (leader-related r y e)))

-- numbers with one leader are related
pub same-leader : (r : ℕ → ℕ → Bool) (x y : ℕ) → IsEquivalence r → leader r x ≡ leader r y → r x y ≡ true
same-leader r x y e d = e.transitive x (leader r x) y (e.symmetric (leader r x) x (leader-related r x e)) (subst (λ (z : ℕ). r z y ≡ true) (sym d) (leader-related r y e))

-- relations that agree have the same leaders
pub leads-ext : (r s : ℕ → ℕ → Bool) (x : ℕ) → ((y : ℕ) → y < x → r y x ≡ s y x) → leads r x ≡ leads s x
leads-ext r s x h = ap not (some-ext x (λ y. r y x) (λ y. s y x) h)

-- what leads among the members of d is one of them
pub leads_in-member : (d : ℕ → Bool) (r : ℕ → ℕ → Bool) (x : ℕ) → leads_in d r x ≡ true → d x ≡ true
leads_in-member d r x h = (and_parts (d x) (not (some x (λ y. d y && r y x))) h).0

-- what leads among the members of d has no smaller one of them in its class
pub leads_in-before : (d : ℕ → Bool) (r : ℕ → ℕ → Bool) (x y : ℕ) → leads_in d r x ≡ true → y < x → d y ≡ true → r y x ≡ false
leads_in-before d r x y h l k =
    let n : some x (λ z. d z && r z x) ≡ false = not-true (some x (λ z. d z && r z x)) (and_parts (d x) (not (some x (λ z. d z && r z x))) h).1 in
    let f : (d y && r y x) ≡ false = some-none x (λ z. d z && r z x) n y l in
    grind arith

-- a member of d with no smaller one in its class leads among them
pub leads_in-from : (d : ℕ → Bool) (r : ℕ → ℕ → Bool) (x : ℕ) → d x ≡ true → ((y : ℕ) → y < x → d y ≡ true → r y x ≡ false) → leads_in d r x ≡ true
leads_in-from d r x h k = and_from (d x) (not (some x (λ z. d z && r z x))) h (not_from_false (some x (λ z. d z && r z x)) (none-some x (λ z. d z && r z x) (λ y l. grind (arith, k y l, cases_Bool (d y)))))

-- two leaders among the members of d that are related are equal
pub leads_in-once : (d : ℕ → Bool) (r : ℕ → ℕ → Bool) (x y : ℕ) → leads_in d r x ≡ true → leads_in d r y ≡ true → r x y ≡ true → r y x ≡ true → x ≡ y
leads_in-once d r x y h k a b = elim (cases_order x y) [
  | inl e ↦ e
  | inr o ↦ elim o [
    | inl l ↦ absurd (both_ways (r x y) (leads_in-before d r y x k l (leads_in-member d r x h)) a)
    | inr l ↦ absurd (both_ways (r y x) (leads_in-before d r x y h l (leads_in-member d r y k)) b)
  ]
]
