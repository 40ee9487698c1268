-- The lists of the places of each block's number are the blocks.
use Rattle.std.proofs.Common.{◌≡◌, ◌≢◌, ℕ, zero, suc, ◌+◌, ◌-◌, ◌<◌, ◌≤◌, ◌⊎◌, inl, inr, Bool, true, false, ◌==◌, List, [], length, filter, get_or, refl, sym, ap, ◌∙◌, subst, arith, Contains, add-one}
use Rattle.std.proofs.lemmas.Bool.{cases_Bool, cases_eq, cases_lt, both_ways, eq-eqb, eqb-true}
use Rattle.std.proofs.lemmas.List.{get_or_default}
use Rattle.permutations.specs.Count.{count}
use Rattle.permutations.specs.Relation.{leads, leader}
use Rattle.permutations.specs.Members.{is_member}
use Rattle.permutations.proofs.Count.{count-yes, count-no}
use Rattle.permutations.proofs.Leaders.{leads-before, leader-related, leader-le, leader-leads}
use Rattle.permutations.proofs.Arrangements.{contains-from_member, member-from_contains}
use Rattle.multigraph.specs.Graph.{Multigraph, edge_count, numbers_below, IsWithinLimits}
use Rattle.multigraph.proofs.Below.{filter_below-has, filter_below-only, filter_below-rises}
use Rattle.blocks.specs.Numbering.{same_label}
use Rattle.blocks.specs.Blocks.{AreBlocks}
use Rattle.multigraph.specs.Buckets.{ArePlaces}
use Rattle.blocks.specs.Finding.{AreBlockNumbers}
use Rattle.blocks.proofs.Numbered.{same-equivalence}

-- one more number adds at most one
count-step : (n : ℕ) (p : ℕ → Bool) → ((p n ≡ true) × (count (n + 1) p ≡ count n p + 1)) ⊎ ((p n ≡ false) × (count (n + 1) p ≡ count n p))
count-step n p = elim (cases_Bool (p n)) [ inl t ↦ inl (t, count-yes n p t) | inr f ↦ inr (f, count-no n p f) ]

-- each count below the whole one is that below a number that passes
count-attained : (n : ℕ) (p : ℕ → Bool) (b : ℕ) → b < count n p → (i : ℕ) × (i < n) × (p i ≡ true) × (count i p ≡ b)
count-attained zero p b l = absurd (omega arith)
count-attained (suc n) p b l = elim (count-step n p) [
  | inl t ↦ elim (cases_lt b (count n p)) [ inl m ↦ later (count-attained n p b m) | inr m ↦ (n, omega arith, t.0, omega (arith, l', t.1)) ]
  | inr f ↦ later (count-attained n p b (omega (arith, l', f.1)))
]
  where
    l' : b < count (n + 1) p
    l' = subst (λ (z : ℕ). b < count z p) (sym (add-one n)) l

    later : (i : ℕ) × (i < n) × (p i ≡ true) × (count i p ≡ b) → (i : ℕ) × (i < suc n) × (p i ≡ true) × (count i p ≡ b)
    later r = (r.0, omega (arith, r.1), r.2, r.3)

-- more numbers, no smaller count
count-rises : (d n : ℕ) (p : ℕ → Bool) → count n p ≤ count (n + d) p
count-rises zero n p = let e : n + 0 ≡ n = omega arith in omega (arith, ap (λ (z : ℕ). count z p) e)
count-rises (suc d) n p =
    let e : n + suc d ≡ (n + d) + 1 = omega arith in
    let same : count (n + suc d) p ≡ count ((n + d) + 1) p = ap (λ (z : ℕ). count z p) e in
    elim (count-step (n + d) p) [
      | inl t ↦ omega (arith, count-rises d n p, t.1, same)
      | inr f ↦ omega (arith, count-rises d n p, f.1, same)
    ]

-- the count below a number that passes is smaller than that beyond it
count-below : (n : ℕ) (p : ℕ → Bool) (i : ℕ) → i < n → p i ≡ true → count i p < count n p
count-below n p i l t = from (n - (i + 1)) (omega arith)
  where
    from : (d : ℕ) → (i + 1) + d ≡ n → count i p < count n p
    from d e = omega (arith, count-yes i p t, count-rises d (i + 1) p, ap (λ (z : ℕ). count z p) e)

-- the number of each edge is below the number of blocks
pub number-in : (g : Multigraph) (numbers : List ℕ) (total : ℕ) → AreBlockNumbers g numbers total → (e : ℕ) → e < length numbers → get_or numbers e 0 < total
number-in g numbers total n e l =
    let r = same_label n.labels in
    let q = same-equivalence n.labels in
    let k : leader r e ≤ e = leader-le r e q in
    let t : leads r (leader r e) ≡ true = leader-leads r e q in
    let m : leader r e < length n.labels = omega (arith, l, n.numbering.places) in
    let s : get_or numbers (leader r e) 0 ≡ get_or numbers e 0 = n.numbering.same (leader r e) e m (omega (arith, l, n.numbering.places)) (eqb-true (get_or n.labels (leader r e) 0) (get_or n.labels e 0) (leader-related r e q)) in
    omega (arith, s, n.numbering.first (leader r e) m t, count-below (length n.labels) (leads r) (leader r e) m t, n.counted)

-- the lists of places are the blocks
pub collected : (g : Multigraph) (numbers : List ℕ) (total : ℕ) (lists : List (List ℕ)) → AreBlockNumbers g numbers total → ArePlaces numbers (length numbers) total lists → AreBlocks g lists
collected g numbers total lists n p = record {
  rising = λ b l i j lt m. subst (λ (z : List ℕ). get_or z i 0 < get_or z j 0) (sym (at b l)) (filter_below-rises (test b) m' i j 0 lt (subst (λ (z : List ℕ). j < length z) (at b l) m));
  not_empty = λ b l. let w = leader-member b l in omega (arith, w.1);
  by_least = λ b c lt l. leaders-rise b c lt (omega arith) l;
  edges = λ b e l m. omega (arith, (member b e l m).0, places);
  each = λ e l. (get_or numbers e 0, numbers-in e l, has e (get_or numbers e 0) (numbers-in e l) l refl);
  same = λ b c e f l k x y. (
    λ q. (n.same e f (omega (arith, (member b e l x).0, places)) (omega (arith, (member c f k y).0, places))).0
        (n.numbering.different e f (omega (arith, (member b e l x).0, n.numbering.places)) (omega (arith, (member c f k y).0, n.numbering.places)) ((member b e l x).1 ∙ (q ∙ sym (member c f k y).1))),
    λ s. sym (member b e l x).1 ∙ (n.numbering.same e f (omega (arith, (member b e l x).0, n.numbering.places)) (omega (arith, (member c f k y).0, n.numbering.places))
        ((n.same e f (omega (arith, (member b e l x).0, places)) (omega (arith, (member c f k y).0, places))).1 s) ∙ (member c f k y).1),
  );
}
  where
    m' : ℕ
    m' = length numbers

    places : length numbers ≡ edge_count g
    places = n.numbering.places ∙ n.labelled

    test : ℕ → ℕ → Bool
    test b e = get_or numbers e 0 == b

    lead : ℕ → Bool
    lead e = leads (same_label n.labels) e

    at : (b : ℕ) → b < length lists → get_or lists b [] ≡ filter (λ e. get_or numbers e 0 == b) (numbers_below (length numbers))
    at b l = p.places b (omega (arith, l, p.counted))

    -- the members of list b are the places with number b
    member : (b e : ℕ) → b < length lists → is_member e (get_or lists b []) ≡ true → (e < length numbers) × (get_or numbers e 0 ≡ b)
    member b e l x =
        let w = filter_below-only (test b) (length numbers) e (contains-from_member (filter (test b) (numbers_below (length numbers))) e (subst (λ (z : List ℕ). is_member e z ≡ true) (at b l) x)) in
        (w.0, eqb-true (get_or numbers e 0) b w.1)

    contained : (e b : ℕ) → b < length lists → e < length numbers → get_or numbers e 0 ≡ b → Contains (get_or lists b []) e
    contained e b l m q = subst (λ (z : List ℕ). Contains z e) (sym (at b l)) (filter_below-has (test b) (length numbers) e m (eq-eqb (get_or numbers e 0) b q))

    has : (e b : ℕ) → b < length lists → e < edge_count g → get_or numbers e 0 ≡ b → is_member e (get_or lists b []) ≡ true
    has e b l m q = member-from_contains (get_or lists b []) e (contained e b l (omega (arith, m, places)) q)

    -- every number is below the total
    numbers-in : (e : ℕ) → e < edge_count g → get_or numbers e 0 < length lists
    numbers-in e l = omega (arith, number-in g numbers total n e (omega (arith, l, places)), p.counted)

    -- the least edge of block b
    least : (b : ℕ) → b < length lists → (i : ℕ) × (i < length n.labels) × (leads (same_label n.labels) i ≡ true) × (count i (leads (same_label n.labels)) ≡ b)
    least b l = count-attained (length n.labels) (leads (same_label n.labels)) b (omega (arith, l, p.counted, n.counted))

    least-number : (b : ℕ) → (l : b < length lists) → get_or numbers (least b l).0 0 ≡ b
    least-number b l = let w = least b l in n.numbering.first w.0 w.1 w.2 ∙ w.3

    leader-member : (b : ℕ) → (l : b < length lists) → (k : ℕ) × (k < length (get_or lists b [])) × (get_or (get_or lists b []) k (least b l).0 ≡ (least b l).0)
    leader-member b l = contained (least b l).0 b l (omega (arith, (least b l).1, n.numbering.places)) (least-number b l)

    -- the first edge of list b is the least edge of its class
    first-least : (b : ℕ) → (l : b < length lists) → get_or (get_or lists b []) 0 0 ≡ (least b l).0
    first-least b l = omega (arith, low, high (cases_eq w.0 0))
      where
        w : (k : ℕ) × (k < length (get_or lists b [])) × (get_or (get_or lists b []) k (least b l).0 ≡ (least b l).0)
        w = leader-member b l

        there : get_or (get_or lists b []) w.0 0 ≡ (least b l).0
        there = get_or_default (get_or lists b []) w.0 0 (least b l).0 w.1 ∙ w.2

        f : ℕ
        f = get_or (get_or lists b []) 0 0

        f-member : (f < length numbers) × (get_or numbers f 0 ≡ b)
        f-member = member b f l (member-from_contains (get_or lists b []) f (0, omega (arith, w.1), get_or_default (get_or lists b []) 0 f 0 (omega (arith, w.1))))

        low : (least b l).0 ≤ f
        low = elim (cases_lt f (least b l).0) [
          | inl a ↦ absurd (both_ways (same_label n.labels f (least b l).0) (leads-before (same_label n.labels) (least b l).0 f (least b l).2 a)
              (eq-eqb (get_or n.labels f 0) (get_or n.labels (least b l).0 0) (n.numbering.different f (least b l).0 (omega (arith, f-member.0, n.numbering.places)) (least b l).1 (f-member.1 ∙ sym (least-number b l)))))
          | inr c ↦ c
        ]

        high : (w.0 ≡ 0) ⊎ (w.0 ≢ 0) → f ≤ (least b l).0
        high cases = elim cases [
          | inl z ↦ omega (arith, there, ap (λ (k : ℕ). get_or (get_or lists b []) k 0) z)
          | inr z ↦ omega (arith, there, subst (λ (q : List ℕ). get_or q 0 0 < get_or q w.0 0) (sym (at b l)) (filter_below-rises (test b) (length numbers) 0 w.0 0 (omega arith) (subst (λ (q : List ℕ). w.0 < length q) (at b l) w.1)))
        ]

    leaders-rise : (b c : ℕ) → b < c → (l : b < length lists) → (k : c < length lists) → get_or (get_or lists b []) 0 0 < get_or (get_or lists c []) 0 0
    leaders-rise b c lt l k = elim (cases_lt (least b l).0 (least c k).0) [
      | inl a ↦ omega (arith, a, first-least b l, first-least c k)
      | inr a ↦ absurd (omega (arith, (least b l).3, (least c k).3, count-rises ((least b l).0 - (least c k).0) (least c k).0 (leads (same_label n.labels)), ap (λ (z : ℕ). count z (leads (same_label n.labels))) (back a)))
    ]
      where
        back : (least c k).0 ≤ (least b l).0 → (least c k).0 + ((least b l).0 - (least c k).0) ≡ (least b l).0
        back h = omega arith

-- there are as many numbers as edges, and few enough to count
pub numbers-few : (g : Multigraph) → IsWithinLimits g → (numbers : List ℕ) (total : ℕ) → AreBlockNumbers g numbers total → length numbers < 4294967296
numbers-few g limits numbers total n = omega (arith, n.numbering.places, n.labelled, limits.few_edges)
