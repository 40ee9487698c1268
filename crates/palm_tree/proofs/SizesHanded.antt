-- The sizes, while vertices hand theirs on to their parents.
use Rattle.std.proofs.Common.{◌≡◌, ◌≢◌, ℕ, ◌+◌, ◌<◌, ◌≤◌, inl, inr, Bool, true, false, cond, ◌&&◌, ◌==◌, ltb, List, [], ◌∷◌, length, drop, get_or, set, replicate, refl, sym, ap, ◌∙◌, subst, arith, length-set}
use Rattle.std.proofs.lemmas.Bool.{cases_Bool, cases_eq, eq-eqb, eqb-true, true≢false, false_from_ne_true}
use Rattle.std.proofs.lemmas.List.{get_or-replicate, length-replicate}
use Rattle.permutations.specs.Count.{sum_below}
use Rattle.permutations.specs.Members.{is_member}
use Rattle.permutations.proofs.Members.{member-head}
use Rattle.permutations.proofs.Sums.{sum_below-ext, sum_below-le, sum_below-zero, sum_below-const}
use Rattle.multigraph.specs.Graph.{Multigraph, IsGraph, IsWithinLimits}
use Rattle.search_forest.specs.Forest.{ForestState}
use Rattle.search_forest.specs.Searching.{IsOver}
use Rattle.palm_tree.specs.Growing.{is_child, size_among, AreSizesSoFar}
use Rattle.search_forest.proofs.Writes.{number-same, number-other}
use Rattle.search_forest.proofs.Grown.{parent-in, parent-depth, order-in, order-from, order-once, parent-before}
use Rattle.palm_tree.proofs.Totals.{sum-change, sum-two, cond-yes, cond-no}

-- a child is deep
pub child-deep : (s : ForestState) (q c : ℕ) → is_child s q c ≡ true → (0 < get_or s.depth c 0) × (get_or s.parent c 0 ≡ q)
child-deep s q c h = (grind (arith, h), eqb-true (get_or s.parent c 0) q (grind (arith, h)))

-- a vertex that is no root is a child of its parent
pub deep-child : (s : ForestState) (c : ℕ) → 0 < get_or s.depth c 0 → is_child s (get_or s.parent c 0) c ≡ true
deep-child s c d = grind (arith, d, eq-eqb (get_or s.parent c 0) (get_or s.parent c 0) refl)

-- and of no other vertex
pub child-of_other : (s : ForestState) (q c : ℕ) → get_or s.parent c 0 ≢ q → is_child s q c ≡ false
child-of_other s q c n = false_from_ne_true (is_child s q c) (λ h. n (child-deep s q c h).1)

-- both tests
pub both : (a b : Bool) → a ≡ true → b ≡ true → (a && b) ≡ true
both a b h k = grind (arith, h, k)

pub first-no : (a b : Bool) → a ≡ false → (a && b) ≡ false
first-no a b h = grind (arith, h)

pub second-no : (a b : Bool) → b ≡ false → (a && b) ≡ false
second-no a b h = grind (arith, h, cases_Bool a)

pub first-of_both : (a b : Bool) → (a && b) ≡ true → a ≡ true
first-of_both a b h = grind (arith, h)

pub second-of_both : (a b : Bool) → (a && b) ≡ true → b ≡ true
second-of_both a b h = grind (arith, h)

-- a member of a list with one more in front
pub member-cons : (x c : ℕ) (l : List ℕ) → c ≢ x → is_member c (x ∷ l) ≡ is_member c l
member-cons x c l n = grind (arith, false_from_ne_true (x == c) (λ h. n (sym (eqb-true x c h))))

-- sizes that agree on the members have one sum over them
pub among-ext : (g : Multigraph) (s : ForestState) (size size' members : List ℕ) (q : ℕ) → ((c : ℕ) → is_member c members ≡ true → get_or size' c 0 ≡ get_or size c 0) → (c : ℕ) → cond (is_member c members && is_child s q c) (get_or size c 0) 0 ≡ cond (is_member c members && is_child s q c) (get_or size' c 0) 0
among-ext g s size size' members q e c = elim (cases_Bool (is_member c members)) [
  | inl t ↦ ap (λ (z : ℕ). cond (is_member c members && is_child s q c) z 0) (sym (e c t))
  | inr f ↦ let n = first-no (is_member c members) (is_child s q c) f in cond-no (is_member c members && is_child s q c) (get_or size c 0) 0 n ∙ sym (cond-no (is_member c members && is_child s q c) (get_or size' c 0) 0 n)
]

-- where more are members, the sum is no less
pub among-more : (g : Multigraph) (s : ForestState) (size few many : List ℕ) (q : ℕ) → ((c : ℕ) → c < g.vertex_count → is_member c few ≡ true → is_member c many ≡ true) → size_among g s size few q ≤ size_among g s size many q
among-more g s size few many q h = sum_below-le g.vertex_count (λ c. cond (is_member c few && is_child s q c) (get_or size c 0) 0) (λ c. cond (is_member c many && is_child s q c) (get_or size c 0) 0) term
  where
    term : (c : ℕ) → c < g.vertex_count → cond (is_member c few && is_child s q c) (get_or size c 0) 0 ≤ cond (is_member c many && is_child s q c) (get_or size c 0) 0
    term c l = elim (cases_Bool (is_member c few && is_child s q c)) [
      | inl t ↦ omega (arith, cond-yes (is_member c few && is_child s q c) (get_or size c 0) 0 t, cond-yes (is_member c many && is_child s q c) (get_or size c 0) 0 (both (is_member c many) (is_child s q c) (h c l (first-of_both (is_member c few) (is_child s q c) t)) (second-of_both (is_member c few) (is_child s q c) t)))
      | inr f ↦ omega (arith, cond-no (is_member c few && is_child s q c) (get_or size c 0) 0 f)
    ]

-- where v comes to the members, the sum grows by its size at its parent, and nowhere else
pub among-grows : (g : Multigraph) (s : ForestState) (size size' old new : List ℕ) (v : ℕ) → v < g.vertex_count → 0 < get_or s.depth v 0
    → is_member v old ≡ false → is_member v new ≡ true → ((c : ℕ) → c ≢ v → is_member c new ≡ is_member c old) → ((c : ℕ) → is_member c new ≡ true → get_or size' c 0 ≡ get_or size c 0)
    → (size_among g s size' new (get_or s.parent v 0) ≡ size_among g s size old (get_or s.parent v 0) + get_or size v 0) × ((q : ℕ) → q ≢ get_or s.parent v 0 → size_among g s size' new q ≡ size_among g s size old q)
among-grows g s size size' old new v l d out here same e = (at-parent, elsewhere)
  where
    term : (q c : ℕ) → c ≢ v → cond (is_member c old && is_child s q c) (get_or size c 0) 0 ≡ cond (is_member c new && is_child s q c) (get_or size' c 0) 0
    term q c n = ap (λ (b : Bool). cond (b && is_child s q c) (get_or size c 0) 0) (sym (same c n)) ∙ among-ext g s size size' new q e c

    change : (q : ℕ) → size_among g s size' new q + cond (is_member v old && is_child s q v) (get_or size v 0) 0 ≡ size_among g s size old q + cond (is_member v new && is_child s q v) (get_or size' v 0) 0
    change q = sum-change g.vertex_count (λ c. cond (is_member c old && is_child s q c) (get_or size c 0) 0) (λ c. cond (is_member c new && is_child s q c) (get_or size' c 0) 0) v l (λ c m n. term q c n)

    before : (q : ℕ) → cond (is_member v old && is_child s q v) (get_or size v 0) 0 ≡ 0
    before q = cond-no (is_member v old && is_child s q v) (get_or size v 0) 0 (first-no (is_member v old) (is_child s q v) out)

    at-parent : size_among g s size' new (get_or s.parent v 0) ≡ size_among g s size old (get_or s.parent v 0) + get_or size v 0
    at-parent =
        let p = get_or s.parent v 0 in
        omega (arith, change p, before p, cond-yes (is_member v new && is_child s p v) (get_or size' v 0) 0 (both (is_member v new) (is_child s p v) here (deep-child s v d)), e v here)

    elsewhere : (q : ℕ) → q ≢ get_or s.parent v 0 → size_among g s size' new q ≡ size_among g s size old q
    elsewhere q n =
        omega (arith, change q, before q, cond-no (is_member v new && is_child s q v) (get_or size' v 0) 0 (second-no (is_member v new) (is_child s q v) (child-of_other s q v (λ r. n (sym r)))))

module _ (g : Multigraph) (gg : IsGraph g) (s : ForestState) (o : IsOver g s) where
  -- before any vertex has handed its size on
  pub start-sizes : (size : List ℕ) → size ≡ replicate g.vertex_count 1 → AreSizesSoFar g s size []
  start-sizes size e = record {
    places = ap (length {A = ℕ}) e ∙ length-replicate g.vertex_count 1;
    sum = λ q l. omega (arith, one q l, sum_below-zero g.vertex_count);
    total = sum_below-ext g.vertex_count (λ c. get_or size c 0) (λ c. 1) one ∙ omega (arith, sum_below-const g.vertex_count 1);
    few = λ q l. omega (arith, one q l);
  }
    where
      one : (q : ℕ) → q < g.vertex_count → get_or size q 0 ≡ 1
      one q l = ap (λ (z : List ℕ). get_or z q 0) e ∙ get_or-replicate g.vertex_count q 1 0 l

  -- the root has no parent to hand its size on to
  pub root-size : (size : List ℕ) (i : ℕ) → i < length s.order → AreSizesSoFar g s size (drop (i + 1) s.order) → get_or s.depth (get_or s.order i 0) 0 ≡ 0 → AreSizesSoFar g s size (drop i s.order)
  root-size size i l a z = record {
    places = a.places;
    sum = λ q m. a.sum q m ∙ ap (λ (n : ℕ). 1 + n) (sum_below-ext g.vertex_count (λ c. cond (is_member c (drop (i + 1) s.order) && is_child s q c) (get_or size c 0) 0) (λ c. cond (is_member c (drop i s.order) && is_child s q c) (get_or size c 0) 0) (λ c k. term q c));
    total = sum_below-ext g.vertex_count (λ c. cond (is_member c (drop i s.order) && ltb 0 (get_or s.depth c 0)) 0 (get_or size c 0)) (λ c. cond (is_member c (drop (i + 1) s.order) && ltb 0 (get_or s.depth c 0)) 0 (get_or size c 0)) (λ c k. other c) ∙ a.total;
    few = a.few;
  }
    where
      v : ℕ
      v = get_or s.order i 0

      shallow : (c : ℕ) → c ≡ v → ltb 0 (get_or s.depth c 0) ≡ false
      shallow c e = let y : get_or s.depth c 0 ≡ 0 = ap (λ (x : ℕ). get_or s.depth x 0) e ∙ z in grind (arith, y)

      members : (c : ℕ) → c ≢ v → is_member c (drop i s.order) ≡ is_member c (drop (i + 1) s.order)
      members c n = ap (is_member c) (order-from g gg s o i l) ∙ member-cons v c (drop (i + 1) s.order) n

      term : (q c : ℕ) → cond (is_member c (drop (i + 1) s.order) && is_child s q c) (get_or size c 0) 0 ≡ cond (is_member c (drop i s.order) && is_child s q c) (get_or size c 0) 0
      term q c = elim (cases_eq c v) [
        | inl e ↦
            let n : is_child s q c ≡ false = first-no (ltb 0 (get_or s.depth c 0)) (get_or s.parent c 0 == q) (shallow c e) in
            cond-no (is_member c (drop (i + 1) s.order) && is_child s q c) (get_or size c 0) 0 (second-no (is_member c (drop (i + 1) s.order)) (is_child s q c) n) ∙ sym (cond-no (is_member c (drop i s.order) && is_child s q c) (get_or size c 0) 0 (second-no (is_member c (drop i s.order)) (is_child s q c) n))
        | inr n ↦ ap (λ (b : Bool). cond (b && is_child s q c) (get_or size c 0) 0) (sym (members c n))
      ]

      other : (c : ℕ) → cond (is_member c (drop i s.order) && ltb 0 (get_or s.depth c 0)) 0 (get_or size c 0) ≡ cond (is_member c (drop (i + 1) s.order) && ltb 0 (get_or s.depth c 0)) 0 (get_or size c 0)
      other c = elim (cases_eq c v) [
        | inl e ↦
            let n = shallow c e in
            cond-no (is_member c (drop i s.order) && ltb 0 (get_or s.depth c 0)) 0 (get_or size c 0) (second-no (is_member c (drop i s.order)) (ltb 0 (get_or s.depth c 0)) n) ∙ sym (cond-no (is_member c (drop (i + 1) s.order) && ltb 0 (get_or s.depth c 0)) 0 (get_or size c 0) (second-no (is_member c (drop (i + 1) s.order)) (ltb 0 (get_or s.depth c 0)) n))
        | inr n ↦ ap (λ (b : Bool). cond (b && ltb 0 (get_or s.depth c 0)) 0 (get_or size c 0)) (members c n)
      ]

  module _ (size : List ℕ) (i : ℕ) (l : i < length s.order) (a : AreSizesSoFar g s size (drop (i + 1) s.order)) (d : 0 < get_or s.depth (get_or s.order i 0) 0) where
    v : ℕ
    v = get_or s.order i 0

    p : ℕ
    p = get_or s.parent v 0

    size' : List ℕ
    size' = set size p (get_or size p 0 + get_or size v 0)

    vl : v < g.vertex_count
    unfolding v
    vl = order-in g gg s o i l

    pl : p < g.vertex_count
    unfolding v p
    pl = parent-in g gg s o v vl d

    differs : p ≢ v
    unfolding v p
    differs e = absurd (omega (arith, parent-depth g gg s o v vl d, ap (λ (z : ℕ). get_or s.depth z 0) e))

    deep : ltb 0 (get_or s.depth v 0) ≡ true
    unfolding v
    deep = grind (arith, d)

    members : (c : ℕ) → c ≢ v → is_member c (drop i s.order) ≡ is_member c (drop (i + 1) s.order)
    unfolding v
    members c n = ap (is_member c) (order-from g gg s o i l) ∙ member-cons v c (drop (i + 1) s.order) n

    here : is_member v (drop i s.order) ≡ true
    unfolding v
    here = ap (is_member v) (order-from g gg s o i l) ∙ member-head v (drop (i + 1) s.order)

    out : is_member v (drop (i + 1) s.order) ≡ false
    unfolding v
    out = order-once g gg s o i l

    parent-out : is_member p (drop i s.order) ≡ false
    unfolding v p
    parent-out = parent-before g gg s o i l d

    size-other : (c : ℕ) → c ≢ p → get_or size' c 0 ≡ get_or size c 0
    unfolding size'
    size-other c n = number-other size p c (get_or size p 0 + get_or size v 0) n

    size-here : get_or size' p 0 ≡ get_or size p 0 + get_or size v 0
    unfolding size'
    size-here = number-same size p (get_or size p 0 + get_or size v 0) (omega (arith, pl, a.places))

    h : ℕ → ℕ
    h c = cond (is_member c (drop (i + 1) s.order) && ltb 0 (get_or s.depth c 0)) 0 (get_or size c 0)

    h-v : h v ≡ get_or size v 0
    unfolding h
    h-v = cond-no (is_member v (drop (i + 1) s.order) && ltb 0 (get_or s.depth v 0)) 0 (get_or size v 0) (first-no (is_member v (drop (i + 1) s.order)) (ltb 0 (get_or s.depth v 0)) out)

    h-p : h p ≡ get_or size p 0
    unfolding h
    h-p = cond-no (is_member p (drop (i + 1) s.order) && ltb 0 (get_or s.depth p 0)) 0 (get_or size p 0) (first-no (is_member p (drop (i + 1) s.order)) (ltb 0 (get_or s.depth p 0)) (sym (members p differs) ∙ parent-out))

    -- the two sizes can be added
    pub two-fit : get_or size (get_or s.parent (get_or s.order i 0) 0) 0 + get_or size (get_or s.order i 0) 0 ≤ g.vertex_count
    unfolding v p h
    two-fit = omega (arith, sum-two g.vertex_count h p v pl vl differs, h-v, h-p, a.total)

    h' : ℕ → ℕ
    h' c = cond (is_member c (drop i s.order) && ltb 0 (get_or s.depth c 0)) 0 (get_or size' c 0)

    mid : ℕ → ℕ
    mid c = cond (c == v) 0 (h c)

    mid-v : mid v ≡ 0
    unfolding mid
    mid-v = cond-yes (v == v) 0 (h v) (eq-eqb v v refl)

    mid-other : (c : ℕ) → c ≢ v → h c ≡ mid c
    unfolding mid
    mid-other c n = sym (cond-no (c == v) 0 (h c) (false_from_ne_true (c == v) (λ t. n (eqb-true c v t))))

    h'-v : h' v ≡ 0
    unfolding h'
    h'-v = cond-yes (is_member v (drop i s.order) && ltb 0 (get_or s.depth v 0)) 0 (get_or size' v 0) (both (is_member v (drop i s.order)) (ltb 0 (get_or s.depth v 0)) here deep)

    h'-p : h' p ≡ get_or size p 0 + get_or size v 0
    unfolding h'
    h'-p = cond-no (is_member p (drop i s.order) && ltb 0 (get_or s.depth p 0)) 0 (get_or size' p 0) (first-no (is_member p (drop i s.order)) (ltb 0 (get_or s.depth p 0)) parent-out) ∙ size-here

    h'-other : (c : ℕ) → c ≢ p → mid c ≡ h' c
    unfolding h h'
    h'-other c n = elim (cases_eq c v) [
      | inl e ↦ ap mid e ∙ (mid-v ∙ (sym h'-v ∙ ap h' (sym e)))
      | inr m ↦ sym (mid-other c m) ∙ (ap (λ (b : Bool). cond (b && ltb 0 (get_or s.depth c 0)) 0 (get_or size c 0)) (sym (members c m)) ∙ ap (λ (x : ℕ). cond (is_member c (drop i s.order) && ltb 0 (get_or s.depth c 0)) 0 x) (sym (size-other c n)))
    ]

    total-kept : sum_below g.vertex_count h' ≡ g.vertex_count
    unfolding h
    total-kept =
        omega (arith, sum-change g.vertex_count h mid v vl (λ c m n. mid-other c n), sum-change g.vertex_count mid h' p pl (λ c m n. h'-other c n), mid-v, h-v, h-p, mid-other p differs, h'-p, a.total)

    grows : (size_among g s size' (drop i s.order) p ≡ size_among g s size (drop (i + 1) s.order) p + get_or size v 0) × ((q : ℕ) → q ≢ p → size_among g s size' (drop i s.order) q ≡ size_among g s size (drop (i + 1) s.order) q)
    unfolding v p
    grows = among-grows g s size size' (drop (i + 1) s.order) (drop i s.order) v vl d out here members
        (λ c m. size-other c (λ e. true≢false (sym m ∙ (ap (λ (z : ℕ). is_member z (drop i s.order)) e ∙ parent-out))))

    -- the vertex has handed its size on
    pub size-handed : AreSizesSoFar g s (set size (get_or s.parent (get_or s.order i 0) 0) (get_or size (get_or s.parent (get_or s.order i 0) 0) 0 + get_or size (get_or s.order i 0) 0)) (drop i s.order)
    unfolding v p size' h'
    size-handed = record {
      places = length-set size p (get_or size p 0 + get_or size v 0) ∙ a.places;
      sum = λ q m. elim (cases_eq q p) [
        | inl e ↦ subst (λ (z : ℕ). get_or size' z 0 ≡ 1 + size_among g s size' (drop i s.order) z) (sym e) (omega (arith, size-here, a.sum p pl, grows.0))
        | inr n ↦ omega (arith, size-other q n, a.sum q m, grows.1 q n)
      ];
      total = total-kept;
      few = λ q m. elim (cases_eq q p) [
        | inl e ↦ subst (λ (z : ℕ). get_or size' z 0 ≤ g.vertex_count) (sym e) (omega (arith, size-here, two-fit))
        | inr n ↦ omega (arith, size-other q n, a.few q m)
      ];
    }

  -- the step as the code has it
  pub size-returns : (size new : List ℕ) (i v p : ℕ) → i < length s.order → AreSizesSoFar g s size (drop (i + 1) s.order) → v ≡ get_or s.order i 0 → 0 < get_or s.depth v 0 → p ≡ get_or s.parent v 0 → new ≡ set size p (get_or size p 0 + get_or size v 0) → AreSizesSoFar g s new (drop i s.order)
  size-returns size new i v p l a ev d ep en =
      let ep' : p ≡ get_or s.parent (get_or s.order i 0) 0 = ep ∙ ap (λ (z : ℕ). get_or s.parent z 0) ev in
      subst (λ (z : List ℕ). AreSizesSoFar g s z (drop i s.order)) (sym (en ∙ (λ j. set size (ep' j) (get_or size (ep' j) 0 + get_or size (ev j) 0))))
      (size-handed size i l a (subst (λ (z : ℕ). 0 < get_or s.depth z 0) ev d))

  -- the sizes can be added
  pub size-fits : IsWithinLimits g → (size : List ℕ) (i v p : ℕ) → i < length s.order → AreSizesSoFar g s size (drop (i + 1) s.order) → v ≡ get_or s.order i 0 → 0 < get_or s.depth v 0 → p ≡ get_or s.parent v 0 → (p < length size) × (v < length size) × (get_or size p 0 + get_or size v 0 < 4294967296)
  size-fits limits size i v p l a ev d ep =
      let ep' : p ≡ get_or s.parent (get_or s.order i 0) 0 = ep ∙ ap (λ (z : ℕ). get_or s.parent z 0) ev in
      let vl : v < g.vertex_count = omega (arith, ev, order-in g gg s o i l) in
      let pl : p < g.vertex_count = omega (arith, ep, parent-in g gg s o v vl d) in
      let two = two-fit size i l a (subst (λ (z : ℕ). 0 < get_or s.depth z 0) ev d) in
      (omega (arith, pl, a.places), omega (arith, vl, a.places), omega (arith, two, ap (λ (z : ℕ). get_or size z 0) ep', ap (λ (z : ℕ). get_or size z 0) ev, limits.few_vertices))
