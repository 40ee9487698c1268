-- The places of children behind their parents, one child after another.
use Rattle.std.proofs.Common.{◌≡◌, ◌≢◌, ℕ, ◌+◌, ◌<◌, ◌≤◌, ◌⊎◌, inl, inr, Bool, true, false, cond, ◌&&◌, List, [], ◌∷◌, ◌++◌, length, take, drop, get_or, set, replicate, refl, sym, ap, ◌∙◌, subst, arith, length-set}
use Rattle.std.proofs.lemmas.Bool.{cases_eq, cases_lt, true≢false, false_from_ne_true}
use Rattle.std.proofs.lemmas.List.{get_or-replicate, length-replicate, take_more, drop_more, take-append-drop, get_or_past}
use Rattle.permutations.specs.Members.{is_member, is_distinct}
use Rattle.permutations.proofs.Members.{member-head, member-cases, member-append_left, member-append_right, member-append_cases, distinct-append_apart}
use Rattle.permutations.proofs.Arrangements.{member-at}
use Rattle.permutations.proofs.Sums.{sum_below-ext, sum_below-zero}
use Rattle.permutations.proofs.Relation.{same-tests}
use Rattle.multigraph.specs.Graph.{Multigraph, IsGraph, IsWithinLimits}
use Rattle.search_forest.specs.Forest.{ForestState}
use Rattle.search_forest.specs.Searching.{IsOver}
use Rattle.palm_tree.specs.Growing.{is_child, size_among, AreSizes, AreChildren, AreOffsetsSoFar, AreOffsets}
use Rattle.search_forest.proofs.Writes.{number-same, number-other}
use Rattle.search_forest.proofs.Grown.{parent-in, order-member}
use Rattle.palm_tree.proofs.Orders.{before-push, before-first, before-second}
use Rattle.palm_tree.proofs.SizesHanded.{among-grows, among-more, both, second-of_both, child-deep}

module _ (g : Multigraph) (gg : IsGraph g) (s : ForestState) (o : IsOver g s) (size : List ℕ) (z : AreSizes g s size) where
  -- before any child has its place
  pub start-offsets : (offset filled : List ℕ) → offset ≡ replicate g.vertex_count 0 → filled ≡ replicate g.vertex_count 0 → AreOffsetsSoFar g s size [] offset filled
  start-offsets offset filled e f = record {
    offset_places = ap (length {A = ℕ}) e ∙ length-replicate g.vertex_count 0;
    filled_places = ap (length {A = ℕ}) f ∙ length-replicate g.vertex_count 0;
    sum = λ q l. none q ∙ sym (sum_below-zero g.vertex_count);
    fits = λ c h. absurd (true≢false (sym h));
    covers = λ q x l m. absurd (omega (arith, none q));
    follow = λ c d b h. absurd b;
  }
    where
      none : (q : ℕ) → get_or filled q 0 ≡ 0
      none q = ap (λ (l : List ℕ). get_or l q 0) f ∙ elim (cases_lt q g.vertex_count) [
        | inl a ↦ get_or-replicate g.vertex_count q 0 0 a
        | inr b ↦ get_or_past (replicate g.vertex_count 0) q 0 (omega (arith, length-replicate {A = ℕ} g.vertex_count 0))
      ]

  module _ (given offset filled : List ℕ) (c : ℕ) (a : AreOffsetsSoFar g s size given offset filled) (cl : c < g.vertex_count) (d : 0 < get_or s.depth c 0) (out : is_member c given ≡ false) (within : (u : ℕ) → is_member u given ≡ true → u < g.vertex_count) where
    p : ℕ
    p = get_or s.parent c 0

    offset' : List ℕ
    offset' = set offset c (get_or filled p 0)

    filled' : List ℕ
    filled' = set filled p (get_or filled p 0 + get_or size c 0)

    pl : p < g.vertex_count
    unfolding p
    pl = parent-in g gg s o c cl d

    offset-here : get_or offset' c 0 ≡ get_or filled p 0
    unfolding offset'
    offset-here = number-same offset c (get_or filled p 0) (omega (arith, cl, a.offset_places))

    given-differs : (u : ℕ) → is_member u given ≡ true → u ≢ c
    given-differs u h e = true≢false (sym h ∙ (ap (λ (x : ℕ). is_member x given) e ∙ out))

    offset-given : (u : ℕ) → is_member u given ≡ true → get_or offset' u 0 ≡ get_or offset u 0
    unfolding offset'
    offset-given u h = number-other offset c u (get_or filled p 0) (given-differs u h)

    filled-here : get_or filled' p 0 ≡ get_or filled p 0 + get_or size c 0
    unfolding filled'
    filled-here = number-same filled p (get_or filled p 0 + get_or size c 0) (omega (arith, pl, a.filled_places))

    filled-other : (q : ℕ) → q ≢ p → get_or filled' q 0 ≡ get_or filled q 0
    unfolding filled'
    filled-other q n = number-other filled p q (get_or filled p 0 + get_or size c 0) n

    filled-more : (q : ℕ) → get_or filled q 0 ≤ get_or filled' q 0
    filled-more q = elim (cases_eq q p) [
      | inl e ↦ subst (λ (x : ℕ). get_or filled x 0 ≤ get_or filled' x 0) (sym e) (omega (arith, filled-here))
      | inr n ↦ omega (arith, filled-other q n)
    ]

    cases : (u : ℕ) → is_member u (given ++ c ∷ []) ≡ true → (is_member u given ≡ true) ⊎ (c ≡ u)
    cases u h = elim (member-append_cases u given (c ∷ []) h) [
      | inl m ↦ inl m
      | inr m ↦ elim (member-cases u c [] m) [ inl e ↦ inr e | inr n ↦ absurd (true≢false (sym n)) ]
    ]

    same : (u : ℕ) → u ≢ c → is_member u (given ++ c ∷ []) ≡ is_member u given
    same u n = same-tests (is_member u (given ++ c ∷ [])) (is_member u given) (λ h. elim (cases u h) [ inl m ↦ m | inr e ↦ absurd (n (sym e)) ]) (λ h. member-append_left u given (c ∷ []) h)

    here : is_member c (given ++ c ∷ []) ≡ true
    here = member-append_right c given (c ∷ []) (member-head c [])

    grows : (size_among g s size (given ++ c ∷ []) p ≡ size_among g s size given p + get_or size c 0) × ((q : ℕ) → q ≢ p → size_among g s size (given ++ c ∷ []) q ≡ size_among g s size given q)
    unfolding p
    grows = among-grows g s size size given (given ++ c ∷ []) c cl d out here same (λ u h. refl)

    -- what is filled fits below the size of the parent
    pub place-fits : get_or filled (get_or s.parent c 0) 0 + get_or size c 0 + 1 ≤ get_or size (get_or s.parent c 0) 0
    unfolding p
    place-fits =
        omega (arith, a.sum p pl, grows.0, z.sum p pl, among-more g s size (given ++ c ∷ []) s.order p (λ u l h. order-member g gg s o u l))

    -- the child has its place
    pub place-given : AreOffsetsSoFar g s size (given ++ c ∷ []) (set offset c (get_or filled (get_or s.parent c 0) 0)) (set filled (get_or s.parent c 0) (get_or filled (get_or s.parent c 0) 0 + get_or size c 0))
    unfolding p offset' filled'
    place-given = record {
      offset_places = length-set offset c (get_or filled p 0) ∙ a.offset_places;
      filled_places = length-set filled p (get_or filled p 0 + get_or size c 0) ∙ a.filled_places;
      sum = λ q l. elim (cases_eq q p) [
        | inl e ↦ subst (λ (x : ℕ). get_or filled' x 0 ≡ size_among g s size (given ++ c ∷ []) x) (sym e) (omega (arith, filled-here, grows.0, a.sum p pl))
        | inr n ↦ omega (arith, filled-other q n, grows.1 q n, a.sum q l)
      ];
      fits = λ u h. elim (cases u h) [
        | inl m ↦ omega (arith, offset-given u m, a.fits u m, filled-more (get_or s.parent u 0))
        | inr e ↦ subst (λ (x : ℕ). get_or offset' x 0 + get_or size x 0 ≤ get_or filled' (get_or s.parent x 0) 0) e (omega (arith, offset-here, filled-here))
      ];
      covers = λ q x l m. elim (cases_lt x (get_or filled q 0)) [
        | inl b ↦ old q x (a.covers q x l b)
        | inr b ↦ elim (cases_eq q p) [
          | inl e ↦
              let f = ap (λ (y : ℕ). get_or filled y 0) e in
              let f' = ap (λ (y : ℕ). get_or filled' y 0) e in
              (c, here, sym e, omega (arith, offset-here, b, f), omega (arith, offset-here, filled-here, m, f', f))
          | inr n ↦ absurd (omega (arith, filled-other q n))
        ]
      ];
      follow = λ u w b e. elim (before-push given c u w b) [
        | inl k ↦ omega (arith, offset-given u (before-first given u w k), offset-given w (before-second given u w k), a.follow u w k e)
        | inr k ↦
            let f = ap (λ (y : ℕ). get_or filled y 0) (e ∙ ap (λ (y : ℕ). get_or s.parent y 0) (sym k.1)) in
            omega (arith, offset-given u k.0, a.fits u k.0, f, offset-here, ap (λ (y : ℕ). get_or offset' y 0) (sym k.1))
      ];
    }
      where
        old : (q x : ℕ) → (u : ℕ) × (is_member u given ≡ true) × (get_or s.parent u 0 ≡ q) × (get_or offset u 0 ≤ x) × (x < get_or offset u 0 + get_or size u 0) → (u : ℕ) × (is_member u (given ++ c ∷ []) ≡ true) × (get_or s.parent u 0 ≡ q) × (get_or offset' u 0 ≤ x) × (x < get_or offset' u 0 + get_or size u 0)
        old q x w = (w.0, member-append_left w.0 given (c ∷ []) w.1, w.2, omega (arith, offset-given w.0 w.1, w.3), omega (arith, offset-given w.0 w.1, w.4))

  module _ (children : List ℕ) (k : AreChildren g s children) where
    taken-out : (i : ℕ) → i < length children → is_member (get_or children i 0) (take i children) ≡ false
    taken-out i l =
        let d : is_distinct (take i children ++ drop i children) ≡ true = subst (λ (x : List ℕ). is_distinct x ≡ true) (sym (take-append-drop i children)) k.distinct in
        false_from_ne_true (is_member (get_or children i 0) (take i children)) (λ h. true≢false (sym (behind i l) ∙ distinct-append_apart (take i children) (drop i children) d (get_or children i 0) h))
      where
        behind : (i : ℕ) → i < length children → is_member (get_or children i 0) (drop i children) ≡ true
        behind i l = ap (is_member (get_or children i 0)) (drop_more children i 0 l) ∙ member-head (get_or children i 0) (drop (i + 1) children)

    taken-in : (i u : ℕ) → is_member u (take i children) ≡ true → u < g.vertex_count
    taken-in i u h = (k.within u (subst (λ (x : List ℕ). is_member u x ≡ true) (take-append-drop i children) (member-append_left u (take i children) (drop i children) h))).0

    -- the step as the code has it
    pub place-returns : (i c : ℕ) (offset filled offset' filled' : List ℕ) → i < length children → c ≡ get_or children i 0 → AreOffsetsSoFar g s size (take i children) offset filled
        → offset' ≡ set offset c (get_or filled (get_or s.parent c 0) 0) → filled' ≡ set filled (get_or s.parent c 0) (get_or filled (get_or s.parent c 0) 0 + get_or size c 0) → AreOffsetsSoFar g s size (take (i + 1) children) offset' filled'
    place-returns i c offset filled offset' filled' l e a eo ef =
        let w = k.within c (subst (λ (x : ℕ). is_member x children ≡ true) (sym e) (member-at children i 0 l)) in
        let out : is_member c (take i children) ≡ false = subst (λ (x : ℕ). is_member x (take i children) ≡ false) (sym e) (taken-out i l) in
        let t : take i children ++ c ∷ [] ≡ take (i + 1) children = ap (λ (x : ℕ). take i children ++ x ∷ []) e ∙ sym (take_more children i 0 l) in
        subst (λ (x : List ℕ). AreOffsetsSoFar g s size x offset' filled') t
        (subst (λ (x : List ℕ). AreOffsetsSoFar g s size (take i children ++ c ∷ []) x filled') (sym eo)
        (subst (λ (x : List ℕ). AreOffsetsSoFar g s size (take i children ++ c ∷ []) (set offset c (get_or filled (get_or s.parent c 0) 0)) x) (sym ef)
        (place-given (take i children) offset filled c a w.0 w.1 out (taken-in i))))

    -- a child and its parent have places, and what is filled can be added to
    pub place-can : IsWithinLimits g → (i c : ℕ) (offset filled : List ℕ) → i < length children → c ≡ get_or children i 0 → AreOffsetsSoFar g s size (take i children) offset filled
        → (c < g.vertex_count) × (get_or s.parent c 0 < g.vertex_count) × (get_or filled (get_or s.parent c 0) 0 + get_or size c 0 < 4294967296)
    place-can limits i c offset filled l e a =
        let w = k.within c (subst (λ (x : ℕ). is_member x children ≡ true) (sym e) (member-at children i 0 l)) in
        let out : is_member c (take i children) ≡ false = subst (λ (x : ℕ). is_member x (take i children) ≡ false) (sym e) (taken-out i l) in
        let pl = parent-in g gg s o c w.0 w.1 in
        (w.0, pl, omega (arith, place-fits (take i children) offset filled c a w.0 w.1 out (taken-in i), z.few (get_or s.parent c 0) pl, limits.few_vertices))

    -- all children have their places
    pub offsets-over : (given offset filled : List ℕ) → given ≡ children → AreOffsetsSoFar g s size given offset filled → AreOffsets g s size children offset
    offsets-over given offset filled e b = subst (λ (x : List ℕ). AreOffsetsSoFar g s size x offset filled → AreOffsets g s size children offset) (sym e) over b
      where
        all : (q : ℕ) → size_among g s size children q ≡ size_among g s size s.order q
        all q = sum_below-ext g.vertex_count (λ c. cond (is_member c children && is_child s q c) (get_or size c 0) 0) (λ c. cond (is_member c s.order && is_child s q c) (get_or size c 0) 0)
            (λ c l. ap (λ (b : Bool). cond b (get_or size c 0) 0) (same-tests (is_member c children && is_child s q c) (is_member c s.order && is_child s q c)
            (λ h. both (is_member c s.order) (is_child s q c) (order-member g gg s o c l) (second-of_both (is_member c children) (is_child s q c) h))
            (λ h. let t = second-of_both (is_member c s.order) (is_child s q c) h in both (is_member c children) (is_child s q c) (k.each c l (child-deep s q c t).0) t)))

        over : AreOffsetsSoFar g s size children offset filled → AreOffsets g s size children offset
        over a = record {
          places = a.offset_places;
          room = λ c l d. let pl = parent-in g gg s o c l d in omega (arith, a.fits c (k.each c l d), a.sum (get_or s.parent c 0) pl, all (get_or s.parent c 0), z.sum (get_or s.parent c 0) pl);
          covers = λ q x l m. a.covers q x l (omega (arith, a.sum q l, all q, z.sum q l, m));
          follow = a.follow;
        }
