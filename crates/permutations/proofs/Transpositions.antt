-- What an exchange does to the orbits: it joins two or splits one.
use Rattle.std.proofs.Common.{◌≡◌, ℕ, suc, ◌+◌, ◌-◌, ◌<◌, inl, inr, Bool, true, false, ◌&&◌, ◌==◌, refl, sym, ap, ◌∙◌, subst, arith, eqb-true, eq-eqb}
use Rattle.std.proofs.lemmas.Bool.{eqb-false, cases_eq, both_ways, false_from_ne_true, true_from_ne_false, and_from, and_parts}
use Rattle.permutations.specs.Count.{some, least}
use Rattle.permutations.specs.Relation.{IsEquivalence, join}
use Rattle.permutations.specs.Permutation.{Permutes, same_orbit, iterate, orbit_count}
use Rattle.permutations.specs.Exchange.{swapped, exchange}
use Rattle.permutations.proofs.Search.{some-from, some-witness, least-passes, least-before}
use Rattle.permutations.proofs.Relation.{join-equivalence, join-old, join-link, join-least, same-tests}
use Rattle.permutations.proofs.Classes.{class_count-ext, add-link}
use Rattle.permutations.proofs.Permutations.{exchange-permutes, exchange-left, exchange-right, exchange-other, exchange-cases, exchange-twice}
use Rattle.permutations.proofs.Orbits.{orbit-equivalence, orbit-step, orbit-kept, orbit-least}
use Rattle.permutations.proofs.Iterates.{orbit-reaches, iterate-sum}

-- the orbits after an exchange lie within the old ones with those of p and q joined
pub exchange-within : (n : ℕ) (f g : ℕ → ℕ) → Permutes n f g → (p q : ℕ) → p < n → q < n → (x y : ℕ) → same_orbit n (exchange p q f) x y ≡ true → join (same_orbit n f) p q x y ≡ true
exchange-within n f g b p q l m = orbit-least n (exchange p q f) (join (same_orbit n f) p q) j (λ z k. elim (exchange-cases p q f z) [
  | inl h ↦ rw (h.1, h.0) (j.transitive p q (f q) c (old q (f q) (orbit-step n f q m)))
  | inr r ↦ elim r [
    | inl h ↦ rw (h.1, h.0) (j.transitive q p (f p) (j.symmetric p q c) (old p (f p) (orbit-step n f p l)))
    | inr h ↦ rw (h.2) (old z (f z) (orbit-step n f z k))
  ]
])
  where
    e : IsEquivalence (same_orbit n f)
    e = orbit-equivalence n f

    j : IsEquivalence (join (same_orbit n f) p q)
    j = join-equivalence (same_orbit n f) p q e

    c : join (same_orbit n f) p q p q ≡ true
    c = join-link (same_orbit n f) p q e

    old : (x y : ℕ) → same_orbit n f x y ≡ true → join (same_orbit n f) p q x y ≡ true
    old = join-old (same_orbit n f) p q

-- after an exchange at p and q in different orbits the two are in one orbit
pub exchange-joins : (n : ℕ) (f g : ℕ → ℕ) → Permutes n f g → (p q : ℕ) → p < n → q < n → same_orbit n f p q ≡ false → same_orbit n (exchange p q f) p q ≡ true
exchange-joins n f g b p q l m d = true_from_ne_false (same_orbit n (exchange p q f) p q) (λ u. both_ways (same_orbit n (exchange p q f) p q) u (reached u))
  where
    h : ℕ → ℕ
    h = exchange p q f

    c : Permutes n h (λ x. swapped p q (g x))
    c = exchange-permutes n p q f g l m b

    e : IsEquivalence (same_orbit n f)
    e = orbit-equivalence n f

    k : IsEquivalence (same_orbit n h)
    k = orbit-equivalence n h

    both : ℕ → Bool
    both x = same_orbit n h p x && same_orbit n f q x

    kept : same_orbit n h p q ≡ false → (z : ℕ) → z < n → both z ≡ true → both (f z) ≡ true
    kept u z a t = let w = and_parts (same_orbit n h p z) (same_orbit n f q z) t in
        let o : h z ≡ f z = exchange-other p q f z (λ i. both_ways (same_orbit n f p q) d (e.symmetric q p (subst (λ (v : ℕ). same_orbit n f q v ≡ true) i w.1))) (λ i. both_ways (same_orbit n h p q) u (subst (λ (v : ℕ). same_orbit n h p v ≡ true) i w.0)) in
        and_from (same_orbit n h p (f z)) (same_orbit n f q (f z))
        (k.transitive p z (f z) w.0 (subst (λ (v : ℕ). same_orbit n h z v ≡ true) o (orbit-step n h z a)))
        (e.transitive q z (f z) w.1 (orbit-step n f z a))

    reached : same_orbit n h p q ≡ false → same_orbit n h p q ≡ true
    reached u = let s : both (f q) ≡ true = and_from (same_orbit n h p (f q)) (same_orbit n f q (f q)) (subst (λ (v : ℕ). same_orbit n h p v ≡ true) (exchange-left p q f) (orbit-step n h p l)) (orbit-step n f q m) in
        let t : both q ≡ true = orbit-kept n f g b both (kept u) q (f q) (orbit-step n f q m) ∙ s in
        (and_parts (same_orbit n h p q) (same_orbit n f q q) t).0

-- an exchange at p and q in different orbits joins the two, and leaves all others
pub exchange-join : (n : ℕ) (f g : ℕ → ℕ) → Permutes n f g → (p q : ℕ) → p < n → q < n → same_orbit n f p q ≡ false → (x y : ℕ) → same_orbit n (exchange p q f) x y ≡ join (same_orbit n f) p q x y
exchange-join n f g b p q l m d x y = same-tests (same_orbit n h x y) (join (same_orbit n f) p q x y)
    (exchange-within n f g b p q l m x y)
    (join-least (same_orbit n f) (same_orbit n h) p q k (orbit-least n f (same_orbit n h) k step) c x y)
  where
    h : ℕ → ℕ
    h = exchange p q f

    k : IsEquivalence (same_orbit n h)
    k = orbit-equivalence n h

    c : same_orbit n h p q ≡ true
    c = exchange-joins n f g b p q l m d

    step : (z : ℕ) → z < n → same_orbit n h z (f z) ≡ true
    step z a = elim (exchange-cases p q f z) [
      | inl i ↦ rw (i.0) (k.transitive p q (f p) c (subst (λ (v : ℕ). same_orbit n h q v ≡ true) (exchange-right p q f) (orbit-step n h q m)))
      | inr r ↦ elim r [
        | inl i ↦ rw (i.0) (k.transitive q p (f q) (k.symmetric p q c) (subst (λ (v : ℕ). same_orbit n h p v ≡ true) (exchange-left p q f) (orbit-step n h p l)))
        | inr i ↦ subst (λ (v : ℕ). same_orbit n h z v ≡ true) (i.2) (orbit-step n h z a)
      ]
    ]

-- after an exchange at two different numbers of one orbit they are in different orbits
pub exchange-splits : (n : ℕ) (f g : ℕ → ℕ) → Permutes n f g → (p q : ℕ) → p < n → q < n → (p ≡ q → ⊥) → same_orbit n f p q ≡ true → same_orbit n (exchange p q f) p q ≡ false
exchange-splits n f g b p q l m d t = false_from_ne_true (same_orbit n h p q) (λ u. both_ways (arc p) out (orbit-kept n h (λ x. swapped p q (g x)) c arc kept p q u ∙ inside))
  where
    h : ℕ → ℕ
    h = exchange p q f

    c : Permutes n h (λ x. swapped p q (g x))
    c = exchange-permutes n p q f g l m b

    hit : ℕ → Bool
    hit k = iterate f k p == q

    found : some n hit ≡ true
    found = sym (orbit-reaches n f g b p q l) ∙ t

    a : ℕ
    a = least n hit

    at : iterate f a p ≡ q
    at = eqb-true (iterate f a p) q (least-passes n hit found)

    before : (k : ℕ) → k < a → iterate f k p ≡ q → ⊥
    before k i = eqb-false (iterate f k p) q (least-before n hit k i)

    positive : 0 < a
    positive = elim (cases_eq a 0) [ inl z ↦ absurd (d (subst (λ (k : ℕ). iterate f k p ≡ q) z at)) | inr z ↦ omega arith ]

    arc : ℕ → Bool
    arc y = some a (λ i. iterate f (suc i) p == y)

    inside : arc q ≡ true
    inside = let e : suc (a - 1) ≡ a = omega (arith, positive) in some-from a (λ i. iterate f (suc i) p == q) (a - 1) (omega (arith, positive)) (eq-eqb (iterate f (suc (a - 1)) p) q (ap (λ (k : ℕ). iterate f k p) e ∙ at))

    away : (i : ℕ) → i < a → iterate f (suc i) p ≡ p → ⊥
    away i k e = let s : (a - suc i) + suc i ≡ a = omega arith in before (a - suc i) (omega arith) (sym (ap (iterate f (a - suc i)) e) ∙ sym (iterate-sum f (a - suc i) (suc i) p) ∙ ap (λ (k : ℕ). iterate f k p) s ∙ at)

    out : arc p ≡ false
    out = false_from_ne_true (arc p) (λ u. let w = some-witness a (λ i. iterate f (suc i) p == p) u in away w.0 w.1 (eqb-true (iterate f (suc (w.0)) p) p w.2))

    kept : (z : ℕ) → z < n → arc z ≡ true → arc (h z) ≡ true
    kept z k u = let w = some-witness a (λ i. iterate f (suc i) p == z) u in
        let e : iterate f (suc (w.0)) p ≡ z = eqb-true (iterate f (suc (w.0)) p) z w.2 in
        elim (cases_eq (suc (w.0)) a) [
          | inl v ↦ let zq : z ≡ q = sym e ∙ ap (λ (k : ℕ). iterate f k p) v ∙ at in
              let hz : h z ≡ f p = ap h zq ∙ exchange-right p q f in
              subst (λ (y : ℕ). arc y ≡ true) (sym hz) (some-from a (λ i. iterate f (suc i) p == f p) 0 positive (eq-eqb (f p) (f p) refl))
          | inr v ↦ let hz : h z ≡ f z = exchange-other p q f z (λ i. away w.0 w.1 (e ∙ i)) (λ i. before (suc (w.0)) (omega (arith, w.1)) (e ∙ i)) in
              subst (λ (y : ℕ). arc y ≡ true) (sym hz) (some-from a (λ i. iterate f (suc i) p == f z) (suc (w.0)) (omega (arith, w.1)) (eq-eqb (f (iterate f (suc (w.0)) p)) (f z) (ap f e)))
        ]

-- an exchange at two different numbers of one orbit splits it: joined again the two parts are what was
pub exchange-split : (n : ℕ) (f g : ℕ → ℕ) → Permutes n f g → (p q : ℕ) → p < n → q < n → (p ≡ q → ⊥) → same_orbit n f p q ≡ true → (x y : ℕ) → same_orbit n f x y ≡ join (same_orbit n (exchange p q f)) p q x y
exchange-split n f g b p q l m d t x y = sym (ap (λ (k : ℕ → ℕ). same_orbit n k x y) (exchange-twice p q f)) ∙ exchange-join n (exchange p q f) (λ z. swapped p q (g z)) (exchange-permutes n p q f g l m b) p q l m (exchange-splits n f g b p q l m d t) x y

-- an exchange at numbers of different orbits makes one orbit fewer
pub exchange-count-join : (n : ℕ) (f g : ℕ → ℕ) → Permutes n f g → (p q : ℕ) → p < n → q < n → same_orbit n f p q ≡ false → orbit_count n (exchange p q f) + 1 ≡ orbit_count n f
exchange-count-join n f g b p q l m d = ap (λ (k : ℕ). k + 1) (class_count-ext n (same_orbit n (exchange p q f)) (join (same_orbit n f) p q) (λ x y i j. exchange-join n f g b p q l m d x y)) ∙ add-link n (same_orbit n f) p q (orbit-equivalence n f) l m d

-- an exchange at two different numbers of one orbit makes one orbit more
pub exchange-count-split : (n : ℕ) (f g : ℕ → ℕ) → Permutes n f g → (p q : ℕ) → p < n → q < n → (p ≡ q → ⊥) → same_orbit n f p q ≡ true → orbit_count n (exchange p q f) ≡ orbit_count n f + 1
exchange-count-split n f g b p q l m d t = omega (arith, c, e)
  where
    c : orbit_count n (exchange p q (exchange p q f)) + 1 ≡ orbit_count n (exchange p q f)
    c = exchange-count-join n (exchange p q f) (λ z. swapped p q (g z)) (exchange-permutes n p q f g l m b) p q l m (exchange-splits n f g b p q l m d t)

    e : orbit_count n (exchange p q (exchange p q f)) ≡ orbit_count n f
    e = ap (orbit_count n) (exchange-twice p q f)
