-- Lists in which each edge is an option of those before it: what they have of each block, and that they are the arrangements.
use Rattle.std.proofs.Common.{◌≡◌, ◌≢◌, ℕ, ◌<◌, inl, inr, true, false, ◌==◌, nat_lt, List, [], ◌∷◌, ◌++◌, length, IsPermutation, refl, sym, ap, ◌∙◌, subst, arith, append_assoc, append-nil}
use Rattle.std.proofs.lemmas.Bool.{cases_Bool, cases_eq, both_ways, and_parts, and_from, or_parts, eq-eqb, ne_eqb, eqb-true, true≢false, false_from_ne_true}
use Rattle.std.proofs.lemmas.List.Elements.{filter-append}
use Rattle.permutations.specs.Members.{is_member, is_distinct}
use Rattle.permutations.specs.Cyclic.{first_or, successor, from_least, IsTurn}
use Rattle.permutations.proofs.Members.{member-head, member-tail, member-cases, member-append_left, member-append_right, member-append_cases, distinct-append_apart, CutAt, cut_at}
use Rattle.permutations.proofs.Filter.{filter-yes, filter-no, filter-none, filter-member, member-filter_parts, no_member-filter}
use Rattle.permutations.proofs.Arrangements.{permutation-member, permutation-distinct, permutation-from_members}
use Rattle.permutations.proofs.Successor.{successor-member}
use Rattle.permutations.proofs.Turned.{turned-head, turned-turn, IsTurn-refl, IsTurn-sym, IsTurn-member, IsTurn-distinct, IsTurn-successor}
use Rattle.permutations.proofs.NormalForm.{from_least-same, same-from_least}
use Rattle.permutations.proofs.Chains.{successor-next}
use Rattle.permutations.proofs.Runs.{last-of}
use Rattle.permutations.proofs.Relation.{same-tests}
use Rattle.choice_lists.proofs.Places.{ascends-from}
use Rattle.choice_lists.proofs.Smaller.{ascends-distinct}
use Rattle.arrangements.specs.Arranged.{of_block, keeps, cross, AreOrders, IsArrangement}
use Rattle.arrangements.specs.Options.{follower, is_opened, is_option, IsBuilt}
use Rattle.arrangements.proofs.Lists.{equal-same, same-equal, no-longer, members-back, missing, distinct-more, member-more, comes-next}
use Rattle.arrangements.proofs.Changes.{of_either, either-left, Interleaved, cross-interleaved, four-cross}
use Rattle.arrangements.proofs.Waiting.{opened-edge, unopened, Top, top-waits, top-after, top-exists, option-cases, option-opens, option-follows, built-cut, cut-built, built-front}

-- an edge of the block comes after the others of it
pub of_block-more : (block : ℕ → ℕ) (b : ℕ) (p : List ℕ) (e : ℕ) → block e ≡ b → of_block block b (p ++ e ∷ []) ≡ of_block block b p ++ e ∷ []
of_block-more block b p e q = filter-append (λ x. block x == b) p (e ∷ []) ∙ ap (λ (z : List ℕ). of_block block b p ++ z) (filter-yes (λ x. block x == b) e [] (eq-eqb (block e) b q))

-- another edge changes nothing
pub of_block-other : (block : ℕ → ℕ) (b : ℕ) (p : List ℕ) (e : ℕ) → block e ≢ b → of_block block b (p ++ e ∷ []) ≡ of_block block b p
of_block-other block b p e n =
    filter-append (λ x. block x == b) p (e ∷ []) ∙ ap (λ (z : List ℕ). of_block block b p ++ z) (filter-no (λ x. block x == b) e [] (ne_eqb (block e) b n)) ∙ append-nil (of_block block b p)

-- an edge of the block in the list
pub of_block-has : (block : ℕ → ℕ) (b : ℕ) (l : List ℕ) (x : ℕ) → is_member x l ≡ true → block x ≡ b → is_member x (of_block block b l) ≡ true
of_block-has block b l x m e = filter-member (λ z. block z == b) l x m (eq-eqb (block x) b e)

-- one of them is in the list and of the block
pub of_block-parts : (block : ℕ → ℕ) (b : ℕ) (l : List ℕ) (x : ℕ) → is_member x (of_block block b l) ≡ true → (is_member x l ≡ true) × (block x ≡ b)
of_block-parts block b l x m = let p = member-filter_parts (λ z. block z == b) l x m in (p.0, eqb-true (block x) b p.1)

-- a list with a member is not empty
filled : (l : List ℕ) (x : ℕ) → is_member x l ≡ true → 0 < length l
filled [] x h = absurd (true≢false (sym h))
filled (y ∷ l) x h = omega arith

module _ (block : ℕ → ℕ) (order : ℕ → List ℕ) (edges : List ℕ) (o : AreOrders block order edges) where
  -- the follower of each edge
  abbrev f : ℕ → ℕ
  f = follower block order

  -- no edge twice
  pub edges-once : is_distinct edges ≡ true
  edges-once = ascends-distinct edges (ascends-from nat_lt edges o.rise)

  -- an edge is in the order of its block
  own : (e : ℕ) → is_member e edges ≡ true → is_member e (order (block e)) ≡ true
  own e h = o.members e e h ∙ and_from (is_member e edges) (block e == block e) h (eq-eqb (block e) (block e) refl)

  -- what is in the order of a block is an edge of it
  pub order-parts : (e x : ℕ) → is_member e edges ≡ true → is_member x (order (block e)) ≡ true → (is_member x edges ≡ true) × (block x ≡ block e)
  order-parts e x h m = let p = and_parts (is_member x edges) (block x == block e) (sym (o.members e x h) ∙ m) in (p.0, eqb-true (block x) (block e) p.1)

  -- an edge of its block is in the order
  pub order-has : (e x : ℕ) → is_member e edges ≡ true → is_member x edges ≡ true → block x ≡ block e → is_member x (order (block e)) ≡ true
  order-has e x h m q = o.members e x h ∙ and_from (is_member x edges) (block x == block e) m (eq-eqb (block x) (block e) q)

  -- the follower is an edge of the same block
  pub follow-parts : (e : ℕ) → is_member e edges ≡ true → (is_member (follower block order e) edges ≡ true) × (block (follower block order e) ≡ block e)
  follow-parts e h = order-parts e (f e) h (successor-member (order (block e)) e (own e h))

  -- what is known of a prefix: edges, none twice; and of each block a piece of its cyclic order
  pub record Facts (p : List ℕ) : Type 0 where
    pub members : (x : ℕ) → is_member x p ≡ true → is_member x edges ≡ true
    pub once : is_distinct p ≡ true
    pub run : (x : ℕ) → is_member x edges ≡ true → (rest : List ℕ) × IsTurn (order (block x)) (of_block block (block x) p ++ rest)

  -- of the empty one
  facts-start : Facts []
  facts-start = record { members = λ x m. absurd (true≢false (sym m)); once = refl; run = λ x m. (order (block x), IsTurn-refl (order (block x))) }

  -- an option is an edge, is not in the prefix, and goes on with the piece of its block
  pub new-edge : (p : List ℕ) (e : ℕ) → Facts p → is_option block f edges p e ≡ true
      → (is_member e edges ≡ true) × (is_member e p ≡ false) × ((rest : List ℕ) × IsTurn (order (block e)) (of_block block (block e) (p ++ e ∷ []) ++ rest))
  new-edge p e k h = elim (option-cases block f edges p e h) [
    | inl a ↦
        let r = turned-head (order (block e)) e (own e a.0) in
        let none : of_block block (block e) p ≡ [] = filter-none (λ x. block x == block e) p (λ x m. ne_eqb (block x) (block e) (unopened block p (block e) x a.1 m)) in
        let whole : of_block block (block e) (p ++ e ∷ []) ≡ e ∷ [] = of_block-more block (block e) p e refl ∙ ap (λ (z : List ℕ). z ++ e ∷ []) none in (
          a.0,
          false_from_ne_true (is_member e p) (λ m. unopened block p (block e) e a.1 m refl),
          (r.0, subst (λ (z : List ℕ). IsTurn (order (block e)) (z ++ r.0)) (sym whole) (subst (IsTurn (order (block e))) r.1 (turned-turn (order (block e)) e))),
        )
    | inr w ↦ next w.0 w.1 w.2
  ]
    where
      next : (t : ℕ) → Top f p t → f t ≡ e → (is_member e edges ≡ true) × (is_member e p ≡ false) × ((rest : List ℕ) × IsTurn (order (block e)) (of_block block (block e) (p ++ e ∷ []) ++ rest))
      next t w q = (me, ne, (c.0, subst (IsTurn (order (block e))) path r.1))
        where
          tw : (is_member t p ≡ true) × (is_member (f t) p ≡ false)
          tw = top-waits f p t w

          fb : (is_member (f t) edges ≡ true) × (block (f t) ≡ block t)
          fb = follow-parts t (k.members t tw.0)

          me : is_member e edges ≡ true
          me = subst (λ (z : ℕ). is_member z edges ≡ true) q fb.0

          ne : is_member e p ≡ false
          ne = subst (λ (z : ℕ). is_member z p ≡ false) q tw.1

          be : block t ≡ block e
          be = sym fb.1 ∙ ap block q

          ob : List ℕ
          ob = of_block block (block e) p

          r : (rest : List ℕ) × IsTurn (order (block e)) (ob ++ rest)
          r = k.run e me

          s : successor (ob ++ r.0) t ≡ e
          s = IsTurn-successor (order (block e)) (ob ++ r.0) t r.1 (o.distinct e me) ∙ ap (λ (b : ℕ). successor (order b) t) (sym be) ∙ q

          c : (rest : List ℕ) × (r.0 ≡ e ∷ rest)
          c = comes-next ob r.0 t e (IsTurn-distinct (order (block e)) (ob ++ r.0) r.1 (o.distinct e me)) (of_block-has block (block e) p t tw.0 be) s (no_member-filter (λ x. block x == block e) p e ne)

          path : ob ++ r.0 ≡ of_block block (block e) (p ++ e ∷ []) ++ c.0
          path = ap (λ (z : List ℕ). ob ++ z) c.1 ∙ sym (append_assoc ob (e ∷ []) c.0) ∙ ap (λ (z : List ℕ). z ++ c.0) (sym (of_block-more block (block e) p e refl))

  -- one option more
  facts-more : (p : List ℕ) (e : ℕ) → Facts p → is_option block f edges p e ≡ true → Facts (p ++ e ∷ [])
  facts-more p e k h = record {
    members = λ x m. elim (member-more p e x m) [ inl a ↦ k.members x a | inr q ↦ subst (λ (z : ℕ). is_member z edges ≡ true) q n.0 ];
    once = distinct-more p e k.once n.1;
    run = λ x m. elim (cases_eq (block e) (block x)) [
      | inl q ↦ subst (λ (b : ℕ). (rest : List ℕ) × IsTurn (order b) (of_block block b (p ++ e ∷ []) ++ rest)) q n.2
      | inr d ↦ let r = k.run x m in (r.0, subst (λ (z : List ℕ). IsTurn (order (block x)) (z ++ r.0)) (sym (of_block-other block (block x) p e d)) r.1)
    ];
  }
    where
      n : (is_member e edges ≡ true) × (is_member e p ≡ false) × ((rest : List ℕ) × IsTurn (order (block e)) (of_block block (block e) (p ++ e ∷ []) ++ rest))
      n = new-edge p e k h

  -- and a list of options more
  facts-go : (p q : List ℕ) → Facts p → IsBuilt block f edges (p ++ q) → Facts (p ++ q)
  facts-go p [] k h = subst Facts (sym (append-nil p)) k
  facts-go p (e ∷ q) k h = subst Facts (append_assoc p (e ∷ []) q)
      (facts-go (p ++ e ∷ []) q (facts-more p e k (built-cut block f edges p e q h)) (subst (IsBuilt block f edges) (sym (append_assoc p (e ∷ []) q)) h))

  -- so they are known of each built list
  pub facts : (p : List ℕ) → IsBuilt block (follower block order) edges p → Facts p
  facts p h = facts-go [] p facts-start h

  -- where an edge of a block is missing in the prefix, the follower of its last edge there is not in it
  unfinished : (p : List ℕ) → Facts p → (y w : ℕ) → is_member y edges ≡ true → is_member w edges ≡ true → is_member w p ≡ false → block w ≡ block y
      → (c : List ℕ) (u : ℕ) → of_block block (block y) p ≡ c ++ u ∷ [] → is_member (f u) p ≡ false
  unfinished p k y w my mw nw q c u s = at r.0 r.1
    where
      ob : List ℕ
      ob = of_block block (block y) p

      r : (rest : List ℕ) × IsTurn (order (block y)) (ob ++ rest)
      r = k.run y my

      bu : block u ≡ block y
      bu = (of_block-parts block (block y) p u (subst (λ (z : List ℕ). is_member u z ≡ true) (sym s) (member-append_right u c (u ∷ []) (member-head u [])))).1

      at : (rest : List ℕ) → IsTurn (order (block y)) (ob ++ rest) → is_member (f u) p ≡ false
      at [] t =
          let m : is_member w (ob ++ []) ≡ true = IsTurn-member (order (block y)) (ob ++ []) w t ∙ order-has y w my mw q in
          absurd (both_ways (is_member w p) nw (of_block-parts block (block y) p w (subst (λ (z : List ℕ). is_member w z ≡ true) (append-nil ob) m)).0)
      at (z ∷ rest) t = subst (λ (v : ℕ). is_member v p ≡ false) (sym next) out
        where
          d : is_distinct (ob ++ z ∷ rest) ≡ true
          d = IsTurn-distinct (order (block y)) (ob ++ z ∷ rest) t (o.distinct y my)

          whole : ob ++ z ∷ rest ≡ c ++ u ∷ z ∷ rest
          whole = ap (λ (v : List ℕ). v ++ z ∷ rest) s ∙ append_assoc c (u ∷ []) (z ∷ rest)

          next : f u ≡ z
          next =
              ap (λ (b : ℕ). successor (order b) u) bu
              ∙ sym (IsTurn-successor (order (block y)) (ob ++ z ∷ rest) u t (o.distinct y my))
              ∙ ap (λ (v : List ℕ). successor v u) whole
              ∙ successor-next c u z rest (subst (λ (v : List ℕ). is_distinct v ≡ true) whole d)

          out : is_member z p ≡ false
          out = false_from_ne_true (is_member z p) (λ m.
              let i : is_member z (order (block y)) ≡ true = sym (IsTurn-member (order (block y)) (ob ++ z ∷ rest) z t) ∙ member-append_right z ob (z ∷ rest) (member-head z rest) in
              both_ways (is_member z (z ∷ rest)) (distinct-append_apart ob (z ∷ rest) d z (of_block-has block (block y) p z m (order-parts y z my i).1)) (member-head z rest))

  -- while edges are missing some edge may come
  pub option-exists : (l : List ℕ) → IsBuilt block (follower block order) edges l → length l < length edges → (e : ℕ) × (is_option block (follower block order) edges l e ≡ true)
  option-exists l h short = elim (missing edges l) [
    | inr all ↦ absurd (omega (arith, short, no-longer edges l edges-once all))
    | inl w ↦ elim (cases_Bool (is_opened block (block w.0) l)) [
      | inr n ↦ (w.0, option-opens block f edges l w.0 w.1 n)
      | inl y ↦ opened w.0 w.1 w.2 (opened-edge block l (block w.0) y)
    ]
  ]
    where
      k : Facts l
      k = facts l h

      opened : (w : ℕ) → is_member w edges ≡ true → is_member w l ≡ false → ((x : ℕ) × (is_member x l ≡ true) × (block x ≡ block w)) → (e : ℕ) × (is_option block f edges l e ≡ true)
      opened w mw nw x =
          let u = last-of (of_block block (block w) l) (filled (of_block block (block w) l) x.0 (of_block-has block (block w) l x.0 x.1 x.2)) in
          let v = (of_block-parts block (block w) l u.1 (subst (λ (z : List ℕ). is_member u.1 z ≡ true) (sym u.2) (member-append_right u.1 u.0 (u.1 ∷ []) (member-head u.1 [])))).0 in
          let t = top-exists f l u.1 v (unfinished l k w w mw mw nw refl u.0 u.1 u.2) in
          (f t.0, option-follows block f edges l t.0 (f t.0) t.1 refl)

  module _ (l : List ℕ) (h : IsBuilt block f edges l) (long : length l ≡ length edges) where
    k : Facts l
    k = facts l h

    -- all edges are there
    pub built-all : IsPermutation edges l
    built-all = permutation-from_members edges l edges-once k.once (λ z. same-tests (is_member z edges) (is_member z l) (members-back l edges k.once k.members (omega (arith, long)) z) (k.members z))

    -- each block keeps its cyclic order
    pub built-keeps : (x : ℕ) → is_member x edges ≡ true → keeps block order (block x) l ≡ true
    built-keeps x m = equal-same (from_least ob) (from_least (order (block x))) (sym (from_least-same (order (block x)) ob (at (k.run x m).0 (k.run x m).1) (o.distinct x m)))
      where
        ob : List ℕ
        ob = of_block block (block x) l

        at : (rest : List ℕ) → IsTurn (order (block x)) (ob ++ rest) → IsTurn (order (block x)) ob
        at [] t = subst (IsTurn (order (block x))) (append-nil ob) t
        at (z ∷ rest) t =
            let d : is_distinct (ob ++ z ∷ rest) ≡ true = IsTurn-distinct (order (block x)) (ob ++ z ∷ rest) t (o.distinct x m) in
            let i : is_member z (order (block x)) ≡ true = sym (IsTurn-member (order (block x)) (ob ++ z ∷ rest) z t) ∙ member-append_right z ob (z ∷ rest) (member-head z rest) in
            let p = order-parts x z m i in
            let there : is_member z l ≡ true = members-back l edges k.once k.members (omega (arith, long)) z p.0 in
            absurd (both_ways (is_member z (z ∷ rest)) (distinct-append_apart ob (z ∷ rest) d z (of_block-has block (block x) l z there p.1)) (member-head z rest))

    -- no two blocks alternate
    no-interleaved : (b c : ℕ) → Interleaved block b c l → ⊥
    no-interleaved b c i = elim (option-cases block f edges p i.z (built-cut block f edges p i.z i.back hb)) [
      | inl a ↦ unopened block p (block i.z) i.x a.1 (member-append_right i.x i.front (i.x ∷ (i.near ++ i.y ∷ i.middle)) (member-head i.x (i.near ++ i.y ∷ i.middle))) (i.of_x ∙ sym i.of_z)
      | inr w ↦ top w.0 w.1 w.2
    ]
      where
        p : List ℕ
        p = i.front ++ i.x ∷ (i.near ++ i.y ∷ i.middle)

        a : List ℕ
        a = i.front ++ i.x ∷ i.near

        split : p ++ i.z ∷ i.back ≡ i.front ++ i.x ∷ (i.near ++ i.y ∷ (i.middle ++ i.z ∷ i.back))
        split = append_assoc i.front (i.x ∷ (i.near ++ i.y ∷ i.middle)) (i.z ∷ i.back) ∙ ap (λ (z : List ℕ). i.front ++ i.x ∷ z) (append_assoc i.near (i.y ∷ i.middle) (i.z ∷ i.back))

        whole : l ≡ p ++ i.z ∷ i.back
        whole = i.is ∙ sym split

        hb : IsBuilt block f edges (p ++ i.z ∷ i.back)
        hb = subst (IsBuilt block f edges) whole h

        kp : Facts p
        kp = facts p (built-front block f edges p (i.z ∷ i.back) hb)

        before_y : a ++ i.y ∷ i.middle ≡ p
        before_y = append_assoc i.front (i.x ∷ i.near) (i.y ∷ i.middle)

        my : is_member i.y p ≡ true
        my = subst (λ (z : List ℕ). is_member i.y z ≡ true) before_y (member-append_right i.y a (i.y ∷ i.middle) (member-head i.y i.middle))

        once : is_distinct (p ++ i.z ∷ i.back) ≡ true
        once = subst (λ (z : List ℕ). is_distinct z ≡ true) whole k.once

        mw : is_member i.w l ≡ true
        mw = subst (λ (z : List ℕ). is_member i.w z ≡ true) (sym whole) (member-append_right i.w p (i.z ∷ i.back) (member-tail i.w i.z i.back i.later))

        nw : is_member i.w p ≡ false
        nw = false_from_ne_true (is_member i.w p) (λ m. both_ways (is_member i.w (i.z ∷ i.back)) (distinct-append_apart p (i.z ∷ i.back) once i.w m) (member-tail i.w i.z i.back i.later))

        last : of_block block (block i.y) p ≡ of_block block (block i.y) a ++ i.y ∷ []
        last =
            ap (of_block block (block i.y)) (sym before_y)
            ∙ filter-append (λ x. block x == block i.y) a (i.y ∷ i.middle)
            ∙ ap (λ (z : List ℕ). of_block block (block i.y) a ++ z) (filter-yes (λ x. block x == block i.y) i.y i.middle (eq-eqb (block i.y) (block i.y) refl)
            ∙ ap (λ (z : List ℕ). i.y ∷ z) (filter-none (λ x. block x == block i.y) i.middle (λ x m. subst (λ (v : ℕ). (block x == v) ≡ false) (sym i.of_y) (or_parts (block x == b) (block x == c) (i.free x m)).1)))

        out : is_member (f i.y) p ≡ false
        out = unfinished p kp i.y i.w (kp.members i.y my) (k.members i.w mw) nw (i.of_w ∙ sym i.of_y) (of_block block (block i.y) a) i.y last

        top : (t : ℕ) → Top f p t → f t ≡ i.z → ⊥
        top t w q = elim (member-cases t i.y i.middle (top-after f a i.y i.middle t (subst (λ (z : List ℕ). Top f z t) (sym before_y) w) (subst (λ (z : List ℕ). is_member (f i.y) z ≡ false) (sym before_y) out))) [
          | inl e ↦ i.differ (sym bt ∙ ap block (sym e) ∙ i.of_y)
          | inr m ↦ both_ways (of_either block b c t) (i.free t m) (either-left block b c t bt)
        ]
          where
            bt : block t ≡ b
            bt = sym (follow-parts t (kp.members t (top-waits f p t w).0)).1 ∙ ap block q ∙ i.of_z

    -- so none cross
    pub built-apart : (b c : ℕ) → cross block b c l ≡ false
    built-apart b c = false_from_ne_true (cross block b c l) (λ t. elim (cross-interleaved block b c l t) [ inl i ↦ no-interleaved b c i | inr i ↦ no-interleaved c b i ])

  -- a built list of all edges from the least on is an arrangement
  pub built-arrangement : (l : List ℕ) → IsBuilt block (follower block order) edges l → length l ≡ length edges → first_or 0 l ≡ first_or 0 edges → IsArrangement block order edges l
  built-arrangement l h long first = record {
    all = built-all l h long;
    least_first = first;
    kept = λ e m. built-keeps l h long e ((facts l h).members e m);
    apart = built-apart l h long;
  }

  -- in an arrangement an edge of a block that is opened is the follower of the last edge that is waiting
  opened-option : (l : List ℕ) → IsArrangement block order edges l → (p : List ℕ) (e : ℕ) (q : List ℕ) → l ≡ p ++ e ∷ q → is_opened block (block e) p ≡ true → is_option block f edges p e ≡ true
  opened-option l a p e q s h = at (top-exists f p x mx (subst (λ (z : ℕ). is_member z p ≡ false) (sym fx) ne))
    where
      b : ℕ
      b = block e

      once : is_distinct (p ++ e ∷ q) ≡ true
      once = subst (λ (z : List ℕ). is_distinct z ≡ true) s (permutation-distinct edges l a.all edges-once)

      among : (z : ℕ) → is_member z (p ++ e ∷ q) ≡ true → is_member z edges ≡ true
      among z m = sym (permutation-member edges l z a.all) ∙ ap (is_member z) s ∙ m

      back : (z : ℕ) → is_member z edges ≡ true → is_member z (p ++ e ∷ q) ≡ true
      back z m = sym (ap (is_member z) s) ∙ permutation-member edges l z a.all ∙ m

      me : is_member e edges ≡ true
      me = among e (member-append_right e p (e ∷ q) (member-head e q))

      ne : is_member e p ≡ false
      ne = false_from_ne_true (is_member e p) (λ m. both_ways (is_member e (e ∷ q)) (distinct-append_apart p (e ∷ q) once e m) (member-head e q))

      ob : List ℕ
      ob = of_block block b p

      oq : List ℕ
      oq = of_block block b q

      whole : of_block block b l ≡ ob ++ e ∷ oq
      whole = ap (of_block block b) s ∙ filter-append (λ x. block x == b) p (e ∷ q) ∙ ap (λ (z : List ℕ). ob ++ z) (filter-yes (λ x. block x == b) e q (eq-eqb (block e) b refl))

      turn : IsTurn (order b) (ob ++ e ∷ oq)
      turn = subst (IsTurn (order b)) whole (IsTurn-sym (of_block block b l) (order b) (same-from_least (of_block block b l) (order b)
          (same-equal (from_least (of_block block b l)) (from_least (order b)) (a.kept e (permutation-member edges l e a.all ∙ me)))))

      piece : is_distinct (ob ++ e ∷ oq) ≡ true
      piece = IsTurn-distinct (order b) (ob ++ e ∷ oq) turn (o.distinct e me)

      w : (x : ℕ) × (is_member x p ≡ true) × (block x ≡ b)
      w = opened-edge block p b h

      u : (c : List ℕ) × (x : ℕ) × (ob ≡ c ++ x ∷ [])
      u = last-of ob (filled ob w.0 (of_block-has block b p w.0 w.1 w.2))

      x : ℕ
      x = u.1

      px : (is_member x p ≡ true) × (block x ≡ b)
      px = of_block-parts block b p x (subst (λ (z : List ℕ). is_member x z ≡ true) (sym u.2) (member-append_right x u.0 (x ∷ []) (member-head x [])))

      mx : is_member x p ≡ true
      mx = px.0

      moved : ob ++ e ∷ oq ≡ u.0 ++ x ∷ e ∷ oq
      moved = ap (λ (z : List ℕ). z ++ e ∷ oq) u.2 ∙ append_assoc u.0 (x ∷ []) (e ∷ oq)

      -- the follower of an edge of this block
      follows : (z : ℕ) → block z ≡ b → f z ≡ successor (ob ++ e ∷ oq) z
      follows z q = ap (λ (v : ℕ). successor (order v) z) q ∙ sym (IsTurn-successor (order b) (ob ++ e ∷ oq) z turn (o.distinct e me))

      fx : f x ≡ e
      fx = follows x px.1 ∙ ap (λ (z : List ℕ). successor z x) moved ∙ successor-next u.0 x e oq (subst (λ (z : List ℕ). is_distinct z ≡ true) moved piece)

      at : ((t : ℕ) × Top f p t) → is_option block f edges p e ≡ true
      at t = elim (cases_eq (block t.0) b) [
        | inl q ↦
            let out : is_member (f t.0) ob ≡ false = no_member-filter (λ z. block z == b) p (f t.0) tw.1 in
            let c = comes-next ob (e ∷ oq) t.0 (f t.0) piece (of_block-has block b p t.0 tw.0 q) (sym (follows t.0 q)) out in
            let r : e ∷ oq ≡ f t.0 ∷ c.0 = c.1 in
            let same : f t.0 ≡ e = cc in
            option-follows block f edges p t.0 e t.1 same
        | inr n ↦ absurd (crossing n (cut_at x p mx))
      ]
        where
          tw : (is_member t.0 p ≡ true) × (is_member (f t.0) p ≡ false)
          tw = top-waits f p t.0 t.1

          fp : (is_member (f t.0) edges ≡ true) × (block (f t.0) ≡ block t.0)
          fp = follow-parts t.0 (among t.0 (member-append_left t.0 p (e ∷ q) tw.0))

          crossing : block t.0 ≢ b → CutAt x p → ⊥
          crossing n c = both_ways (cross block b (block t.0) l) (a.apart b (block t.0)) (subst (λ (z : List ℕ). cross block b (block t.0) z ≡ true) (sym all)
              (four-cross block b (block t.0) c.front x d.front t.0 d.back e g.front (f t.0) g.back px.1 refl refl fp.1 (λ k. n (sym k))))
            where
              behind : is_member t.0 c.back ≡ true
              behind = elim (member-cases t.0 x c.back (top-after f c.front x c.back t.0 (subst (λ (z : List ℕ). Top f z t.0) c.is t.1) (subst (λ (z : List ℕ). is_member (f x) z ≡ false) c.is (subst (λ (z : ℕ). is_member z p ≡ false) (sym fx) ne)))) [
                | inl k ↦ absurd (n (ap block (sym k) ∙ px.1))
                | inr m ↦ m
              ]

              d : CutAt t.0 c.back
              d = cut_at t.0 c.back behind

              later : is_member (f t.0) q ≡ true
              later = elim (member-append_cases (f t.0) p (e ∷ q) (back (f t.0) fp.0)) [
                | inl m ↦ absurd (both_ways (is_member (f t.0) p) tw.1 m)
                | inr m ↦ elim (member-cases (f t.0) e q m) [ inl k ↦ absurd (n (sym fp.1 ∙ ap block (sym k))) | inr r ↦ r ]
              ]

              g : CutAt (f t.0) q
              g = cut_at (f t.0) q later

              all : l ≡ c.front ++ x ∷ (d.front ++ t.0 ∷ (d.back ++ e ∷ (g.front ++ f t.0 ∷ g.back)))
              all =
                  s ∙ ap (λ (z : List ℕ). z ++ e ∷ q) (c.is ∙ ap (λ (z : List ℕ). c.front ++ x ∷ z) d.is)
                  ∙ append_assoc c.front (x ∷ (d.front ++ t.0 ∷ d.back)) (e ∷ q)
                  ∙ ap (λ (z : List ℕ). c.front ++ x ∷ z) (append_assoc d.front (t.0 ∷ d.back) (e ∷ q))
                  ∙ ap (λ (z : List ℕ). c.front ++ x ∷ (d.front ++ t.0 ∷ (d.back ++ e ∷ z))) g.is

  -- an arrangement is a built list
  pub arrangement-built : (l : List ℕ) → IsArrangement block order edges l → IsBuilt block (follower block order) edges l
  arrangement-built l a = cut-built block f edges l (λ p e q s. elim (cases_Bool (is_opened block (block e) p)) [
    | inl h ↦ opened-option l a p e q s h
    | inr n ↦ option-opens block f edges p e (sym (permutation-member edges l e a.all) ∙ ap (is_member e) s ∙ member-append_right e p (e ∷ q) (member-head e q)) n
  ])
