-- The sides that are split off when the search is back at a vertex: a triangle, what lies behind a cut, all that belongs to the
-- last entry.
use Rattle.std.proofs.Common.{◌≡◌, ◌≢◌, ℕ, ◌+◌, ◌-◌, ◌<◌, ◌≤◌, ◌⊎◌, inl, inr, Bool, true, false, not, nat_lt, ◌&&◌, List, [], ◌∷◌, ◌++◌, length, refl, sym, ap, ◌∙◌, subst, arith, Contains}
use Rattle.std.proofs.lemmas.Bool.{cases_Bool, cases_lt, cases_eq, both_ways, lt-ltb, le-ltb, false_from_ne_true, not_from_false}
use Rattle.std.proofs.lemmas.List.{length-append}
use Rattle.pair_split.specs.Family.{Entry, has_end, off_side, touches, IsSeparation}
use Rattle.pair_split.proofs.Elements.{two-pass}
use Rattle.pair_split.proofs.Degrees.{tight-degree}
use Rattle.pair_split.proofs.Sides.{touching-entry, separation-from, exactly_two, one-from_entry, length-sides}
use Rattle.split_comp.specs.declared.items.StackEntry.{StackEntry}
use Rattle.split_comp.specs.declared.items.StackCut.{StackCut}
use Rattle.split_comp.specs.Stack.{item, entry, family, owner, IsTreeAt, IsStack, IsBad, IsReturned}
use Rattle.split_comp.specs.Cuts.{no_cut, cut, IsBefore, IsFirstBelow, IsSoundAt, AreSoundAt, AreCompleteAt}
use Rattle.split_comp.specs.Sides.{is_frond_to, IsCutOff, all_items, but_frond, IsLeast, HasNoTriangle}
use Rattle.split_comp.proofs.Entries.{item-ends, up-end, low-end, stack-contains, rest-contains, family-cases, place-of}
use Rattle.split_comp.proofs.Renewed.{frond-parts}
use Rattle.split_comp.proofs.LeastUp.{touching-tree}
use Rattle.split_comp.proofs.Lying.{owner-end, owner-tree, frond-owner, start-at, darts-apart, dart-over}
use Rattle.split_comp.proofs.Stretch.{side_at, side-place, side-rest, side-two, IsShared, shared-from, common-at}
use Rattle.split_comp.proofs.Parallel.{dart-shared, parallel-not}
use Rattle.split_comp.proofs.Complete.{v-w, s-h, low-v, start-s, met-inside, rest-not, bad-v, bad-whole, bad-below, bad-cut}
use Rattle.split_comp.proofs.Noted.{chain-rises, cut-push}

-- what belongs to a dart has an upper end on the path, or a vertex between in common with entries behind
pub dart-alone : (last : ℕ → ℕ) (done v : ℕ) (stack : List StackEntry) (rest : List Entry) → IsStack last done v stack rest → (r : ℕ) → r < length stack → ((j : ℕ) → (item stack r).start ≤ j → j ≤ r → v < (item stack j).up)
    → ((z p i : ℕ) → v < z → z < owner (item stack r) → IsTreeAt stack z p → r < p → (item stack r).start ≤ i → i ≤ r → has_end z (entry (item stack i)) ≡ true → ⊥) → ⊥
dart-alone last done v stack rest s r m ups none =
    let e = touching-entry rest v s.left.own in
    (exactly_two (family stack rest) (side_at stack test) (owner (item stack r)) (owner (item stack r)) s.left.is_tight
    (one-from_entry (family stack rest) (side_at stack test) (record { entry = entry (item stack r); within = stack-contains stack rest r m; side = side-place stack rest s.left.is_family test r m ∙ yes r (start-at last done v stack rest s r m) (omega arith) }))
    (one-from_entry (family stack rest) (λ n. not (side_at stack test n)) (record { entry = e.0; within = rest-contains stack rest e.0 e.1; side = not_from_false (side_at stack test e.0.name) (off e.0 e.1) }))
    (λ z c. inl (only z (shared-from stack rest (side_at stack test) off z c)))).0 refl
  where
    test : ℕ → Bool
    test k = not (nat_lt k (item stack r).start) && not (nat_lt r k)

    yes : (k : ℕ) → (item stack r).start ≤ k → k ≤ r → test k ≡ true
    yes k a b = rw (le-ltb k (item stack r).start a, le-ltb r k b) refl

    off : (x : Entry) → Contains rest x → side_at stack test x.name ≡ false
    off = side-rest stack rest s.left.is_family test

    parts : (k : ℕ) → test k ≡ true → ((item stack r).start ≤ k) × (k ≤ r)
    parts k c = elim (cases_lt k (item stack r).start) [
      | inl a ↦ absurd (both_ways (test k) (rw (lt-ltb k (item stack r).start a) refl) c)
      | inr a ↦ elim (cases_lt r k) [ inr b ↦ (a, b) | inl b ↦ absurd (both_ways (test k) (rw (le-ltb k (item stack r).start a, lt-ltb r k b) refl) c) ]
    ]

    outside : (k : ℕ) → test k ≡ false → (k < (item stack r).start) ⊎ (r < k)
    outside k c = elim (cases_lt k (item stack r).start) [
      | inl a ↦ inl a
      | inr a ↦ elim (cases_lt r k) [ inl b ↦ inr b | inr b ↦ absurd (both_ways (test k) c (yes k a b)) ]
    ]

    only : (z : ℕ) → IsShared stack rest (side_at stack test) z → z ≡ owner (item stack r)
    only z c =
        let i = parts c.place (sym (side-place stack rest s.left.is_family test c.place c.within) ∙ c.on) in
        let g : v < z = elim (item-ends z (item stack c.place) c.end) [ inl q ↦ omega (arith, q, ups c.place i.0 i.1) | inr q ↦ omega (arith, q, ups c.place i.0 i.1, (s.laid.rises c.place c.within).0) ] in
        elim c.other [
          | inr w ↦ let p = s.ended.held c.place z c.within c.end g in absurd (both_ways (touches rest z) (s.left.free z (omega (arith, s.laid.finished p.0 p.1.within p.1.tree, p.1.low))) w)
          | inl j ↦ elim (dart-shared last done v stack rest s r z c.place j.0 m g i.0 i.1 j.1 (outside j.0 (sym (side-place stack rest s.left.is_family test j.0 j.1) ∙ j.2)) c.end j.3) [
            | inl e ↦ e
            | inr k ↦ absurd (none z k.1.0 c.place g k.0 k.1.1 k.1.2 i.0 i.1 c.end)
          ]
        ]

module _ (last : ℕ → ℕ) (done v s h : ℕ) (stack : List StackEntry) (rest : List Entry) (back : IsReturned last done v s h stack rest) where
  abbrev w : ℕ
  w = (item stack h).low

  stands : IsStack last done v stack rest
  stands = back.stands

  h-in : h < length stack
  h-in = omega (arith, back.size)

  -- a tree edge is no frond
  tree-goes : (b i : ℕ) → (item stack i).tree ≡ true → but_frond v b (item stack i) ≡ true
  tree-goes b i t = rw t refl

  -- a side without upper ends above v leaves two entries, where v is not the root
  two-above : (z : ℕ) × (z < v) × (touches rest z ≡ true) → (side : ℕ → Bool) → ((y : Entry) → Contains rest y → side y.name ≡ false) → ((i : ℕ) → i < length stack → side (item stack i).name ≡ true → v ≤ (item stack i).up) → 2 ≤ length (off_side side (family stack rest))
  two-above z side off ups =
      let e = touching-entry rest z.0 z.2 in
      let d = tight-degree (family stack rest) stands.left.is_family stands.left.is_tight two e.0 z.0 (rest-contains stack rest e.0 e.1) e.2 in
      two-pass (λ (y : Entry). not (side y.name)) e.0 d.entry (family stack rest) (λ k. d.other (sym (ap (λ (y : Entry). y.name) k))) (rest-contains stack rest e.0 e.1) d.within (not_from_false (side e.0.name) (off e.0 e.1)) (not_from_false (side d.entry.name) (other d.entry d.within d.end))
    where
      two : 2 ≤ length (family stack rest)
      two = omega (
        arith,
        length-sides (family stack rest) (λ n. side_at stack (λ k. true) n),
        side-two stack rest stands.left.is_family (side_at stack (λ k. true)) s h (s-h last done v s h stack rest back) h-in
            (side-place stack rest stands.left.is_family (λ k. true) s (omega (arith, s-h last done v s h stack rest back, h-in))) (side-place stack rest stands.left.is_family (λ k. true) h h-in),
      )

      other : (y : Entry) → Contains (family stack rest) y → has_end z.0 y ≡ true → side y.name ≡ false
      other y c k = elim (family-cases stack rest y c) [
        | inr r ↦ off y r
        | inl p ↦ ap (λ (q : Entry). side q.name) p.2 ∙ false_from_ne_true (side (item stack p.0).name) (λ t. not-below p.0 p.1 (ups p.0 p.1 t) (subst (λ (q : Entry). has_end z.0 q ≡ true) p.2 k))
      ]
        where
          not-below : (i : ℕ) → i < length stack → v ≤ (item stack i).up → has_end z.0 (entry (item stack i)) ≡ true → ⊥
          not-below i l a e = elim (item-ends z.0 (item stack i) e) [ inl m ↦ omega (arith, m, a, z.1) | inr m ↦ omega (arith, m, a, z.1, (stands.laid.rises i l).0) ]

  module _ (k : ℕ) (k-h : k + 1 ≡ h) (tree-k : (item stack k).tree ≡ true) (alone : IsBefore stack k w → ⊥) where
    k-in : k < length stack
    k-in = omega (arith, k-h, h-in)

    s-k : (item stack h).start ≤ k
    s-k = omega (arith, back.start, s-h last done v s h stack rest back, k-h)

    pub triangle-up : (item stack k).up ≡ w
    triangle-up =
        let r = dart-over last done v stack rest stands h k h-in back.tree s-k (omega (arith, k-h)) in
        owner-tree (item stack k) w (ap (λ (i : ℕ). owner (item stack i)) (omega (arith, r.within, r.to, k-h)) ∙ r.owned) tree-k

    pub triangle-start : (item stack k).start ≡ s
    triangle-start = elim (cases_lt s (item stack k).start) [
      | inr a ↦ omega (arith, a, start-s last done v s h stack rest back k (omega (arith, s-k, back.start)) (omega (arith, k-h)))
      | inl a ↦
          let r = dart-over last done v stack rest stands h s h-in back.tree (omega (arith, back.start)) (s-h last done v s h stack rest back) in
          let n : r.dart < k = elim (cases_eq r.dart k) [ inl e ↦ absurd (omega (arith, r.from, a, ap (λ (i : ℕ). (item stack i).start) e)) | inr e ↦ omega (arith, e, r.within, k-h) ] in
          absurd (alone (record { place = r.dart; within = n; end = subst (λ (z : ℕ). has_end z (entry (item stack r.dart)) ≡ true) r.owned (owner-end (item stack r.dart)) }))
    ]

    -- the places of the side
    places : (side : ℕ → Bool) → IsCutOff all_items stack rest k side → (i : ℕ) → i < length stack → side (item stack i).name ≡ true → (i ≡ k) ⊎ (i ≡ h)
    places side c i l t = elim (cases_lt i k) [
      | inl a ↦ absurd (both_ways (side (item stack i).name) (c.before i a l) t)
      | inr a ↦ elim (cases_eq i k) [ inl e ↦ inl e | inr e ↦ inr (omega (arith, a, e, l, back.size, k-h)) ]
    ]

    pub triangle-ups : (side : ℕ → Bool) → IsCutOff all_items stack rest k side → (i : ℕ) → i < length stack → side (item stack i).name ≡ true → v ≤ (item stack i).up
    triangle-ups side c i l t = elim (places side c i l t) [
      | inl e ↦ omega (arith, ap (λ (j : ℕ). (item stack j).up) e, triangle-up, v-w last done v s h stack rest back)
      | inr e ↦ omega (arith, ap (λ (j : ℕ). (item stack j).up) e, back.up)
    ]

    pub triangle-separates : (z : ℕ) × (z < v) × (touches rest z ≡ true) → (side : ℕ → Bool) → IsCutOff all_items stack rest k side → IsSeparation (family stack rest) side v (item stack k).low
    triangle-separates z side c = separation-from (family stack rest) side v (item stack k).low stands.left.is_tight
        (side-two stack rest stands.left.is_family side k h (omega (arith, k-h)) h-in (c.from k (omega arith) k-in) (c.from h (omega (arith, k-h)) h-in))
        (two-above z side c.off (triangle-ups side c))
        (λ x m. only x (shared-from stack rest side c.off x m))
      where
        -- w is met by these two alone
        w-alone : (x : ℕ) → x ≡ w → IsShared stack rest side x → ⊥
        w-alone x e m = elim m.other [
          | inr r ↦ rest-not last done v s h stack rest back x m.place (omega (arith, e, v-w last done v s h stack rest back)) m.within m.end r
          | inl j ↦ elim (cases_lt j.0 k) [
            | inl a ↦ alone (record { place = j.0; within = a; end = subst (λ (y : ℕ). has_end y (entry (item stack j.0)) ≡ true) e j.3 })
            | inr a ↦ both_ways (side (item stack j.0).name) j.2 (c.from j.0 a j.1)
          ]
        ]

        only : (x : ℕ) → IsShared stack rest side x → (x ≡ v) ⊎ (x ≡ (item stack k).low)
        only x m = elim (places side c m.place m.within m.on) [
          | inl e ↦ elim (item-ends x (item stack k) (subst (λ (i : ℕ). has_end x (entry (item stack i)) ≡ true) e m.end)) [ inl y ↦ absurd (w-alone x (y ∙ triangle-up) m) | inr y ↦ inr y ]
          | inr e ↦ elim (item-ends x (item stack h) (subst (λ (i : ℕ). has_end x (entry (item stack i)) ≡ true) e m.end)) [ inl y ↦ inl (y ∙ back.up) | inr y ↦ absurd (w-alone x y m) ]
        ]

    pub triangle-least : (side : ℕ → Bool) → IsCutOff all_items stack rest k side → IsLeast stack rest side
    triangle-least side c t p q b i l on = elim (places side c i l on) [
      | inr e ↦ ap (λ (j : ℕ). t (item stack j).name) e ∙ back.topped t p q b
      | inl e ↦ ap (λ (j : ℕ). t (item stack j).name) e ∙ (elim (cases_Bool (t (item stack k).name)) [
        | inl y ↦ y
        | inr n ↦
            let x = bad-v last done v s h stack rest back t p q b in
            let common = common-at stack rest t w h k h-in k-in (back.topped t p q b) n (low-end w (item stack h) refl) (up-end w (item stack k) (sym triangle-up)) in
            absurd (elim (x.1.separates.no_other w common) [
              | inl y ↦ omega (arith, y, v-w last done v s h stack rest back)
              | inr y ↦ (bad-below last done v s h stack rest back t x.0 x.1 (omega (arith, y, v-w last done v s h stack rest back))).0 (sym y)
            ])
      ])
    ]

    pub triangle-frond : 4 ≤ length (family stack rest) → (i : ℕ) → i < k → is_frond_to v (item stack k).low (item stack i) ≡ true → i + 1 ≡ k
    triangle-frond four i l f = elim (cases_eq (i + 1) k) [
      | inl e ↦ e
      | inr n ↦
          let p = frond-parts v (item stack k).low (item stack i) f in
          let t = touching-tree last done v stack rest stands (item stack k).low k i (record { within = k-in; tree = tree-k; low = refl }) (omega (arith, l, k-in)) (low-end (item stack k).low (item stack i) (sym p.2)) in
          let r = dart-over last done v stack rest stands k (k - 1) k-in tree-k (omega (arith, t.0, l, n)) (omega (arith, l)) in
          absurd (dart-alone last done v stack rest stands r.dart (omega (arith, r.within, k-in))
          (λ j a d. omega (arith, p.1, back.sorted.frond_rises i r.dart j four (omega (arith, r.to, l, n)) (omega (arith, r.within, k-h)) (frond-owner (item stack i) p.0 ∙ (p.2 ∙ sym r.owned)) p.0 (omega (arith, p.1)) a d))
          (λ z q j a d tr m e g x. elim (cases_eq q k) [
            | inl y ↦ omega (arith, d, r.owned, tr.low, ap (λ (o : ℕ). (item stack o).low) y)
            | inr y ↦ alone (record { place = j; within = omega (arith, g, r.within); end = subst (λ (o : ℕ). has_end o (entry (item stack j)) ≡ true) (sym tr.low ∙ ap (λ (o : ℕ). (item stack o).low) (top-place q (omega (arith, m, r.to)) y tr.within)) x })
          ]))
    ]
      where
        top-place : (q : ℕ) → k ≤ q → q ≢ k → q < length stack → q ≡ h
        top-place q a n b = omega (arith, a, n, b, back.size, k-h)

  -- what lies behind a cut
  module _ (c : StackCut) (sound : IsSoundAt s v w stack c) (up : c.up ≡ v) (other : c.low ≢ w) where
    abbrev b : ℕ
    b = c.low

    pub ups-behind : (i : ℕ) → c.start ≤ i → i < length stack → v ≤ (item stack i).up
    ups-behind i a l = omega (arith, up, sound.least.least i a l)

    tree-b : IsTreeAt stack b sound.below.place
    tree-b = sound.below.tree_at

    -- the dart that starts there lies in front of the tree edge
    dart-behind : (c.start ≤ sound.starts.place) × (sound.starts.place ≤ sound.below.place)
    dart-behind = (
      omega (arith, sound.starts.starts, start-at last done v stack rest stands sound.starts.place sound.starts.within),
      (touching-tree last done v stack rest stands b sound.below.place sound.starts.place tree-b sound.starts.within (subst (λ (z : ℕ). has_end z (entry (item stack sound.starts.place)) ≡ true) sound.starts.owned (owner-end (item stack sound.starts.place)))).1,
    )

    below-h : sound.below.place < h
    below-h = elim (cases_eq sound.below.place h) [
      | inl e ↦ absurd (other (sym tree-b.low ∙ ap (λ (i : ℕ). (item stack i).low) e))
      | inr e ↦ omega (arith, e, tree-b.within, back.size)
    ]

    side-ups : (side : ℕ → Bool) → IsCutOff (but_frond v b) stack rest c.start side → (i : ℕ) → i < length stack → side (item stack i).name ≡ true → v ≤ (item stack i).up
    side-ups side k i l t = elim (cases_lt i c.start) [ inl a ↦ absurd (both_ways (side (item stack i).name) (k.before i a l) t) | inr a ↦ ups-behind i a l ]

    pub pair-separates : (z : ℕ) × (z < v) × (touches rest z ≡ true) → (side : ℕ → Bool) → IsCutOff (but_frond v b) stack rest c.start side → IsSeparation (family stack rest) side v b
    pair-separates z side k = separation-from (family stack rest) side v b stands.left.is_tight
        (side-two stack rest stands.left.is_family side sound.below.place h below-h h-in (k.from sound.below.place (omega (arith, dart-behind)) tree-b.within ∙ tree-goes b sound.below.place tree-b.tree)
        (k.from h (omega (arith, dart-behind, below-h)) h-in ∙ tree-goes b h back.tree))
        (two-above z side k.off (side-ups side k))
        (λ x m. only x (shared-from stack rest side k.off x m))
      where
        only : (x : ℕ) → IsShared stack rest side x → (x ≡ v) ⊎ (x ≡ b)
        only x m =
            let i : c.start ≤ m.place = elim (cases_lt m.place c.start) [ inr a ↦ a | inl a ↦ absurd (both_ways (side (item stack m.place).name) (k.before m.place a m.within) m.on) ] in
            let up-v = ups-behind m.place i m.within in
            elim (cases_lt v x) [
              | inr d ↦ inl (elim (item-ends x (item stack m.place) m.end) [ inl e ↦ omega (arith, e, d, up-v) | inr e ↦ absurd (omega (arith, e, d, up-v, (stands.laid.rises m.place m.within).0)) ])
              | inl d ↦ inr (elim m.other [
                | inr q ↦ absurd (rest-not last done v s h stack rest back x m.place d m.within m.end q)
                | inl j ↦ elim (cases_lt j.0 c.start) [
                  | inl a ↦ sound.across x d (record { low = j.0; low_within = a; low_end = j.3; high = m.place; high_from = i; high_within = m.within; high_end = m.end })
                  | inr a ↦
                      let f = frond-parts v b (item stack j.0) (twice (is_frond_to v b (item stack j.0)) (sym (k.from j.0 a j.1) ∙ j.2)) in
                      elim (item-ends x (item stack j.0) j.3) [ inl e ↦ absurd (omega (arith, e, f.1, d)) | inr e ↦ e ∙ f.2 ]
                ]
              ])
            ]
          where
            twice : (t : Bool) → not t ≡ false → t ≡ true
            twice t e = elim (cases_Bool t) [ inl y ↦ y | inr n ↦ absurd (both_ways (not t) e (not_from_false t n)) ]

    -- a frond to v from another vertex of a cut before this one lies before it
    frond-before : (d : StackCut) → IsFirstBelow stack s d.low → b ≤ d.low → d.low ≢ b → (i : ℕ) → c.start ≤ i → i < length stack → is_frond_to v d.low (item stack i) ≡ true → ⊥
    frond-before d below m n i a l f =
        let p = frond-parts v d.low (item stack i) f in
        let t = touching-tree last done v stack rest stands d.low below.place i below.tree_at l (low-end d.low (item stack i) (sym p.2)) in
        elim (cases_lt below.place sound.below.place) [
          | inl e ↦ inner below.place below.tree_at.within below.starts (omega (arith, a, t.1)) e
          | inr e ↦ elim (cases_eq below.place sound.below.place) [
            | inl y ↦ n (sym below.tree_at.low ∙ (ap (λ (o : ℕ). (item stack o).low) y ∙ tree-b.low))
            | inr y ↦ omega (
              arith,
              n,
              m,
              tree-b.low,
              below.tree_at.low,
              (stands.laid.inside below.place sound.below.place below.tree_at.within below.tree_at.tree
                  (omega (arith, below.starts, sound.from, dart-behind)) (omega (arith, e))).0,
            )
          ]
        ]
      where
        inner : (q : ℕ) → q < length stack → (item stack q).start ≡ s → c.start ≤ q → q < sound.below.place → ⊥
        inner q q-in q-start past e =
            let o = dart-over last done v stack rest stands sound.below.place q tree-b.within tree-b.tree (omega (arith, sound.below.starts, sound.from, past)) e in
            let o-in : o.dart < length stack = omega (arith, o.within, tree-b.within) in
            let o-start : (item stack o.dart).start ≤ s = elim (cases_eq o.dart q) [
              | inl y ↦ omega (arith, q-start, ap (λ (j : ℕ). (item stack j).start) y)
              | inr y ↦ elim (cases_Bool (item stack o.dart).tree) [
                | inl tr ↦ omega (arith, q-start, stands.laid.laminar o.dart q o-in tr o.from (omega (arith, o.to, y)))
                | inr fr ↦ absurd (omega (arith, stands.laid.frond_start o.dart o-in fr, o.from, o.to, y))
              ]
            ] in
            let own : owner (item stack o.dart) ≡ owner (item stack sound.starts.place) = o.owned ∙ (tree-b.low ∙ sym sound.starts.owned) in
            elim (cases_lt o.dart sound.starts.place) [
              | inl y ↦ omega (arith, darts-apart last done v stack rest stands o.dart sound.starts.place y sound.starts.within own, sound.starts.starts, past, o.to)
              | inr y ↦ elim (cases_eq o.dart sound.starts.place) [
                | inl x ↦ omega (arith, o-start, ap (λ (j : ℕ). (item stack j).start) x, sound.starts.starts, sound.from)
                | inr x ↦ omega (arith, darts-apart last done v stack rest stands sound.starts.place o.dart (omega (arith, y, x)) o-in (sym own), o-start, sound.from, dart-behind)
              ]
            ]

    -- where it is the last of the cuts, each bad side holds it
    pub pair-least : (cuts : List StackCut) → AreSoundAt s v w stack (cuts ++ c ∷ []) → AreCompleteAt s v w stack (cuts ++ c ∷ []) → HasNoTriangle stack h w → (side : ℕ → Bool) → IsCutOff (but_frond v b) stack rest c.start side → IsLeast stack rest side
    pair-least cuts sounds complete triangle side k t p q bad i l on =
        let x = bad-v last done v s h stack rest back t p q bad in
        elim (cases_lt x.0 v) [
          | inl g ↦ (bad-whole last done v s h stack rest back t x.0 x.1 g).0 i (omega (arith, sound.from, from)) (omega (arith, l, back.size))
          | inr g ↦
              let f = bad-cut last done v s h stack rest back t x.0 x.1 (omega (arith, g, x.1.separates.differ)) triangle in
              let e = place-of (cuts ++ c ∷ []) (record { start = f.place; up = v; low = f.vertex }) no_cut (complete f.place v f.vertex f.wanted f.below (omega arith) (λ y z. f.other z)) in
              f.on i (before f.place f.vertex e) l (false_from_ne_true (is_frond_to v f.vertex (item stack i)) (λ m. not-frond f.place f.vertex f.below e m))
        ]
      where
        from : c.start ≤ i
        from = elim (cases_lt i c.start) [ inr a ↦ a | inl a ↦ absurd (both_ways (side (item stack i).name) (k.before i a l) on) ]

        last-place : (n : ℕ) → n < length (cuts ++ c ∷ []) → (n < length cuts) ⊎ (n ≡ length cuts)
        last-place n m = elim (cases_lt n (length cuts)) [ inl a ↦ inl a | inr a ↦ inr (omega (arith, a, m, length-append cuts (c ∷ []))) ]

        at-last : cut (cuts ++ c ∷ []) (length cuts) ≡ c
        at-last = cut-push cuts c (length cuts) refl

        rises : (n : ℕ) → n < length cuts → ((cut (cuts ++ c ∷ []) n).start < c.start) × (c.low ≤ (cut (cuts ++ c ∷ []) n).low)
        rises n m =
            let a = chain-rises stack (cuts ++ c ∷ []) sounds.chain n (length cuts) m (omega (arith, length-append cuts (c ∷ []))) in
            (omega (arith, a.0, ap (λ (y : StackCut). y.start) at-last), omega (arith, a.2, ap (λ (y : StackCut). y.low) at-last))

        before : (t' b' : ℕ) → (n : ℕ) × (n < length (cuts ++ c ∷ [])) × (cut (cuts ++ c ∷ []) n ≡ record { start = t'; up = v; low = b' }) → t' ≤ i
        before t' b' e = elim (last-place e.0 e.1) [
          | inl m ↦ omega (arith, from, (rises e.0 m).0, ap (λ (y : StackCut). y.start) e.2)
          | inr m ↦ omega (arith, from, ap (λ (y : StackCut). y.start) (sym e.2 ∙ (ap (cut (cuts ++ c ∷ [])) m ∙ at-last)))
        ]

        not-frond : (t' b' : ℕ) → IsFirstBelow stack s b' → (n : ℕ) × (n < length (cuts ++ c ∷ [])) × (cut (cuts ++ c ∷ []) n ≡ record { start = t'; up = v; low = b' }) → is_frond_to v b' (item stack i) ≡ true → ⊥
        not-frond t' b' below e m = elim (cases_eq b' b) [
          | inl y ↦ both_ways (side (item stack i).name) (k.from i from l ∙ not-frond-at (is_frond_to v b (item stack i)) (subst (λ (z : ℕ). is_frond_to v z (item stack i) ≡ true) y m)) on
          | inr y ↦ elim (last-place e.0 e.1) [
            | inl z ↦ frond-before (record { start = t'; up = v; low = b' }) below (omega (arith, (rises e.0 z).1, ap (λ (a : StackCut). a.low) e.2)) y i from l m
            | inr z ↦ y (sym (ap (λ (a : StackCut). a.low) e.2) ∙ ap (λ (a : StackCut). a.low) (ap (cut (cuts ++ c ∷ [])) z ∙ at-last))
          ]
        ]
          where
            not-frond-at : (a : Bool) → a ≡ true → not a ≡ false
            not-frond-at a e = rw e refl

    -- where the frond from the lower vertex to v may be: behind the cut, or right before it
    pub pair-frond : 4 ≤ length (family stack rest) → (i : ℕ) → i < c.start → is_frond_to v b (item stack i) ≡ true → i + 1 ≡ c.start
    pair-frond four i l f = elim (cases_eq (i + 1) c.start) [
      | inl e ↦ e
      | inr n ↦
          let p = frond-parts v b (item stack i) f in
          let t = touching-tree last done v stack rest stands b sound.below.place i tree-b (omega (arith, l, sound.within)) (low-end b (item stack i) (sym p.2)) in
          let o = dart-over last done v stack rest stands sound.below.place (c.start - 1) tree-b.within tree-b.tree (omega (arith, t.0, l, n)) (omega (arith, l, dart-behind)) in
          let own : owner (item stack o.dart) ≡ owner (item stack sound.starts.place) = o.owned ∙ (tree-b.low ∙ sym sound.starts.owned) in
          let at : o.dart + 1 ≡ c.start = elim (cases_lt o.dart sound.starts.place) [
            | inl y ↦ omega (arith, darts-apart last done v stack rest stands o.dart sound.starts.place y sound.starts.within own, sound.starts.starts, o.to, l)
            | inr y ↦ absurd (elim (cases_eq o.dart sound.starts.place) [
              | inl x ↦ omega (arith, o.from, ap (λ (j : ℕ). (item stack j).start) x, sound.starts.starts, l)
              | inr x ↦ omega (arith, darts-apart last done v stack rest stands sound.starts.place o.dart (omega (arith, y, x)) (omega (arith, o.within, tree-b.within)) (sym own), o.from, dart-behind, l)
            ])
          ] in
          absurd (dart-alone last done v stack rest stands o.dart (omega (arith, o.within, tree-b.within))
          (λ j a d. omega (arith, p.1, back.sorted.frond_rises i o.dart j four (omega (arith, at, l, n)) (omega (arith, o.within, below-h)) (frond-owner (item stack i) p.0 ∙ (p.2 ∙ sym (o.owned ∙ tree-b.low))) p.0 (omega (arith, p.1)) a d))
          (λ z q j a d tr m e g x. omega (
            arith,
            d,
            o.owned,
            tree-b.low,
            sound.across z a
                (record { low = j; low_within = omega (arith, g, at); low_end = x; high = q; high_from = omega (arith, m, at); high_within = tr.within; high_end = low-end z (item stack q) (sym tr.low) }),
          )))
    ]

  -- two fronds from one vertex to v are not both in the stack
  pub fronds-once : (b i j : ℕ) → i < j → j < h → is_frond_to v b (item stack i) ≡ true → is_frond_to v b (item stack j) ≡ true → ⊥
  fronds-once b i j l m f g =
      let p = frond-parts v b (item stack i) f in
      let q = frond-parts v b (item stack j) g in
      parallel-not last done v h stack rest stands back.size back.topped i j l m (p.1 ∙ sym q.1) (p.2 ∙ sym q.2)

  -- without triangle and without a cut whose upper end is v, each bad side holds all that belongs to the last entry
  pub none-left : (cuts : List StackCut) → AreCompleteAt s v w stack cuts → HasNoTriangle stack h w → ((k : ℕ) → k < length cuts → (cut cuts k).up ≡ v → ⊥) → (side : ℕ → Bool) (p q : ℕ) → IsBad stack rest side p q
      → (i : ℕ) → s ≤ i → i ≤ h → side (item stack i).name ≡ true
  none-left cuts complete triangle none side p q bad =
      let x = bad-v last done v s h stack rest back side p q bad in
      elim (cases_lt x.0 v) [
        | inl g ↦ (bad-whole last done v s h stack rest back side x.0 x.1 g).0
        | inr g ↦
            let f = bad-cut last done v s h stack rest back side x.0 x.1 (omega (arith, g, x.1.separates.differ)) triangle in
            let e = place-of cuts (record { start = f.place; up = v; low = f.vertex }) no_cut (complete f.place v f.vertex f.wanted f.below (omega arith) (λ y z. f.other z)) in
            absurd (none e.0 e.1 (ap (λ (y : StackCut). y.up) e.2))
      ]

  -- so where there is a bad side, all upper ends above v from s on are one vertex
  pub none-whole : (cuts : List StackCut) → AreCompleteAt s v w stack cuts → HasNoTriangle stack h w → ((k : ℕ) → k < length cuts → (cut cuts k).up ≡ v → ⊥) → (side : ℕ → Bool) (p q : ℕ) → IsBad stack rest side p q
      → (x : ℕ) × ((i : ℕ) → s ≤ i → i ≤ h → (item stack i).up < v → (item stack i).up ≡ x)
  none-whole cuts complete triangle none side p q bad =
      let x = bad-v last done v s h stack rest back side p q bad in
      elim (cases_lt x.0 v) [
        | inl g ↦ (x.0, (bad-whole last done v s h stack rest back side x.0 x.1 g).1)
        | inr g ↦
            let f = bad-cut last done v s h stack rest back side x.0 x.1 (omega (arith, g, x.1.separates.differ)) triangle in
            let e = place-of cuts (record { start = f.place; up = v; low = f.vertex }) no_cut (complete f.place v f.vertex f.wanted f.below (omega arith) (λ y z. f.other z)) in
            absurd (none e.0 e.1 (ap (λ (y : StackCut). y.up) e.2))
      ]

  -- all that belongs to the last entry
  pub side-separates : (r : ℕ) → ((i : ℕ) → s ≤ i → i ≤ h → (item stack i).up < v → (item stack i).up ≡ r) → (side : ℕ → Bool) → IsCutOff all_items stack rest s side → 2 ≤ length (off_side side (family stack rest)) → IsSeparation (family stack rest) side r v
  side-separates r ups side c two = separation-from (family stack rest) side r v stands.left.is_tight
      (side-two stack rest stands.left.is_family side s h (s-h last done v s h stack rest back) h-in (c.from s (omega arith) (omega (arith, s-h last done v s h stack rest back, h-in))) (c.from h (omega (arith, s-h last done v s h stack rest back)) h-in))
      two (λ x m. only x (shared-from stack rest side c.off x m))
    where
      only : (x : ℕ) → IsShared stack rest side x → (x ≡ r) ⊎ (x ≡ v)
      only x m =
          let a : s ≤ m.place = elim (cases_lt m.place s) [ inr y ↦ y | inl y ↦ absurd (both_ways (side (item stack m.place).name) (c.before m.place y m.within) m.on) ] in
          let d : m.place ≤ h = omega (arith, m.within, back.size) in
          elim (cases_lt v x) [
            | inl g ↦ absurd (elim m.other [
              | inr q ↦ rest-not last done v s h stack rest back x m.place g m.within m.end q
              | inl j ↦ both_ways (side (item stack j.0).name) j.2 (c.from j.0 (met-inside last done v s h stack rest back x m.place j.0 g a d m.end j.1 j.3) j.1)
            ])
            | inr g ↦ elim (cases_eq x v) [
              | inl e ↦ inr e
              | inr e ↦ inl (elim (item-ends x (item stack m.place) m.end) [
                | inl y ↦ y ∙ ups m.place a d (omega (arith, y, g, e))
                | inr y ↦ absurd (omega (arith, y, g, low-v last done v s h stack rest back m.place a d, v-w last done v s h stack rest back))
              ])
            ]
          ]
