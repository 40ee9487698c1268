-- Bad sides when the search is back at a vertex (Hopcroft and Tarjan 1973): all that belongs to the last entry, or a cut, or a
-- triangle.
use Rattle.std.proofs.Common.{◌≡◌, ◌≢◌, ℕ, zero, suc, ◌+◌, ◌-◌, ◌<◌, ◌≤◌, ◌⊎◌, inl, inr, Bool, true, false, not, nat_lt, ◌&&◌, ◌||◌, ◌==◌, List, length, refl, sym, ap, ◌∙◌, subst, arith, Contains}
use Rattle.std.proofs.lemmas.Bool.{cases_Bool, cases_lt, cases_eq, both_ways, and_parts, or_cases, or_left, or_right, eq-eqb, eqb-true, lt-ltb, le-ltb, false_from_ne_true, not_from_false, not-true}
use Rattle.permutations.specs.Count.{some}
use Rattle.permutations.proofs.Search.{some-witness, some-from}
use Rattle.pair_split.specs.Family.{Entry, has_end, touches, is_common, IsSeparation}
use Rattle.pair_split.proofs.Sides.{touching-entry, separation-from, one-from_entry}
use Rattle.split_comp.specs.declared.items.StackEntry.{StackEntry}
use Rattle.split_comp.specs.Stack.{item, entry, family, owner, IsTreeAt, IsStack, IsBad, IsReturned}
use Rattle.split_comp.specs.Cuts.{IsLeastUp, IsBefore, IsFirstBelow, IsWanted}
use Rattle.split_comp.specs.Sides.{is_frond_to, HasNoTriangle}
use Rattle.split_comp.proofs.Entries.{item-ends, up-end, low-end, stack-contains, rest-contains}
use Rattle.split_comp.proofs.Renewed.{frond-parts}
use Rattle.split_comp.proofs.LeastUp.{least-in, touching-tree}
use Rattle.split_comp.proofs.Lying.{owner-end, owner-tree, owner-frond, tree-owner, same-tree, start-at, owner-near, held-owner, owner-in, darts-apart, dart-over, same-side, constant-below}
use Rattle.split_comp.proofs.Stretch.{side_at, side-place, side-rest, side-two, side-off_two, IsShared, shared-from, stretch-not, common-at, common-rest}
use Rattle.split_comp.proofs.Parallel.{top-pair, top-ends, dart-shared}

-- the two common vertices change places
pub separation-swap : (entries : List Entry) (s : ℕ → Bool) (p q : ℕ) → IsSeparation entries s p q → IsSeparation entries s q p
separation-swap entries s p q c = record {
  differ = λ e. c.differ (sym e);
  first_common = c.second_common;
  second_common = c.first_common;
  no_other = λ x h. elim (c.no_other x h) [ inl e ↦ inr e | inr e ↦ inl e ];
  two_inside = c.two_inside;
  two_outside = c.two_outside;
}

module _ (last : ℕ → ℕ) (done v s h : ℕ) (stack : List StackEntry) (rest : List Entry) (back : IsReturned last done v s h stack rest) where
  abbrev w : ℕ
  w = (item stack h).low

  stands : IsStack last done v stack rest
  stands = back.stands

  h-in : h < length stack
  h-in = omega (arith, back.size)

  pub top-tree : IsTreeAt stack w h
  top-tree = record { within = h-in; tree = back.tree; low = refl }

  w-done : done ≤ w
  w-done = stands.laid.finished h h-in back.tree

  pub v-w : v < w
  v-w = omega (arith, w-done, stands.left.ahead)

  pub s-h : s < h
  s-h = omega (arith, stands.laid.tree_start h h-in back.tree, back.start)

  -- the entries from s on have lower ends behind v
  pub low-v : (i : ℕ) → s ≤ i → i ≤ h → w ≤ (item stack i).low
  low-v i a b = (stands.laid.inside h i h-in back.tree (omega (arith, a, back.start)) b).0

  -- tree edges from s on start at s or later
  pub start-s : (i : ℕ) → s ≤ i → i ≤ h → s ≤ (item stack i).start
  start-s i a b = elim (cases_eq i h) [
    | inl e ↦ omega (arith, ap (λ (k : ℕ). (item stack k).start) e, back.start)
    | inr n ↦ omega (arith, back.start, stands.laid.laminar h i h-in back.tree (omega (arith, a, back.start)) (omega (arith, b, n)))
  ]

  -- a vertex behind v that is met from s on is met there alone, and has its tree edge there
  pub met-tree : (z i : ℕ) → v < z → s ≤ i → i ≤ h → has_end z (entry (item stack i)) ≡ true → (p : ℕ) × IsTreeAt stack z p × (s ≤ (item stack p).start) × ((item stack p).start ≤ i) × (i ≤ p) × (p ≤ h)
  met-tree z i g a b e =
      let p = stands.ended.held i z (omega (arith, b, back.size)) e g in
      let c = touching-tree last done v stack rest stands z p.0 i p.1 (omega (arith, b, back.size)) e in
      (p.0, p.1, start-s p.0 (omega (arith, a, c.1)) (omega (arith, p.1.within, back.size)), c.0, c.1, omega (arith, p.1.within, back.size))

  pub met-inside : (z i j : ℕ) → v < z → s ≤ i → i ≤ h → has_end z (entry (item stack i)) ≡ true → j < length stack → has_end z (entry (item stack j)) ≡ true → s ≤ j
  met-inside z i j g a b e l f =
      let p = met-tree z i g a b e in
      omega (arith, p.2, (touching-tree last done v stack rest stands z p.0 j p.1 l f).0)

  -- the rest does not touch what is met behind v
  pub rest-not : (z i : ℕ) → v < z → i < length stack → has_end z (entry (item stack i)) ≡ true → touches rest z ≡ true → ⊥
  rest-not z i g l e t = let p = stands.ended.held i z l e g in both_ways (touches rest z) (stands.left.free z (omega (arith, stands.laid.finished p.0 p.1.within p.1.tree, p.1.low))) t

  -- some entry from s on has an upper end above v
  pub seg-up : (i : ℕ) × (s ≤ i) × (i ≤ h) × ((item stack i).up < v)
  seg-up =
      let e = touching-entry rest v stands.left.own in
      let t = stands.left.is_tight (side_at stack test)
      (one-from_entry (family stack rest) (side_at stack test) (record { entry = entry (item stack h); within = stack-contains stack rest h h-in; side = side-place stack rest stands.left.is_family test h h-in ∙ yes h (omega (arith, s-h)) (omega arith) }))
      (one-from_entry (family stack rest) (λ n. not (side_at stack test n)) (record { entry = e.0; within = rest-contains stack rest e.0 e.1; side = not_from_false (side_at stack test e.0.name) (off e.0 e.1) })) in
      elim (cases_eq t.0 v) [
        | inr n ↦ found t.0 n (shared-from stack rest (side_at stack test) off t.0 t.3)
        | inl k ↦ found t.1 (λ m. t.2 (k ∙ sym m)) (shared-from stack rest (side_at stack test) off t.1 t.4)
      ]
    where
      test : ℕ → Bool
      test k = not (nat_lt k s) && not (nat_lt h k)

      yes : (k : ℕ) → s ≤ k → k ≤ h → test k ≡ true
      yes k a b = rw (le-ltb k s a, le-ltb h k b) refl

      parts : (k : ℕ) → test k ≡ true → (s ≤ k) × (k ≤ h)
      parts k c = elim (cases_lt k s) [
        | inl a ↦ absurd (both_ways (test k) (rw (lt-ltb k s a) refl) c)
        | inr a ↦ elim (cases_lt h k) [ inr b ↦ (a, b) | inl b ↦ absurd (both_ways (test k) (rw (le-ltb k s a, lt-ltb h k b) refl) c) ]
      ]

      off : (x : Entry) → Contains rest x → side_at stack test x.name ≡ false
      off = side-rest stack rest stands.left.is_family test

      found : (z : ℕ) → z ≢ v → IsShared stack rest (side_at stack test) z → (i : ℕ) × (s ≤ i) × (i ≤ h) × ((item stack i).up < v)
      found z n c =
          let i = parts c.place (sym (side-place stack rest stands.left.is_family test c.place c.within) ∙ c.on) in
          elim (cases_lt v z) [
            | inl g ↦ absurd (elim c.other [
              | inr r ↦ rest-not z c.place g c.within c.end r
              | inl j ↦ both_ways (test j.0) (sym (side-place stack rest stands.left.is_family test j.0 j.1) ∙ j.2) (yes j.0 (met-inside z c.place j.0 g i.0 i.1 c.end j.1 j.3) (omega (arith, j.1, back.size)))
            ])
            | inr g ↦ (c.place, i.0, i.1, elim (item-ends z (item stack c.place) c.end) [ inl e ↦ omega (arith, e, g, n) | inr e ↦ absurd (omega (arith, e, g, low-v c.place i.0 i.1, v-w)) ])
          ]

  -- a bad side: v is common
  pub bad-v : (side : ℕ → Bool) (p q : ℕ) → IsBad stack rest side p q → (x : ℕ) × IsBad stack rest side v x
  bad-v side p q b =
      let on = back.topped side p q b in
      elim (b.separates.no_other v (common-rest stack rest side b.stacked v h h-in on (up-end v (item stack h) (sym back.up)) stands.left.own)) [
        | inl e ↦ (q, record { separates = subst (λ (k : ℕ). IsSeparation (family stack rest) side k q) (sym e) b.separates; stacked = b.stacked })
        | inr e ↦ (p, record { separates = subst (λ (k : ℕ). IsSeparation (family stack rest) side k p) (sym e) (separation-swap (family stack rest) side p q b.separates); stacked = b.stacked })
      ]

  module _ (side : ℕ → Bool) (x : ℕ) (b : IsBad stack rest side v x) where
    on-top : side (item stack h).name ≡ true
    on-top = back.topped side v x b

    -- a common vertex is v or x
    pub not-common : (z : ℕ) → z ≢ v → z ≢ x → is_common (family stack rest) side z ≡ false
    not-common z m n = false_from_ne_true (is_common (family stack rest) side z) (λ c. elim (b.separates.no_other z c) [ inl e ↦ m e | inr e ↦ n e ])

    -- an upper end above v of an entry on the side is x
    pub up-is : (i : ℕ) → i < length stack → side (item stack i).name ≡ true → (item stack i).up < v → (item stack i).up ≡ x
    up-is i l t g = elim (b.separates.no_other (item stack i).up (common-rest stack rest side b.stacked (item stack i).up i l t (up-end (item stack i).up (item stack i) refl) (stands.left.on_path i (item stack i).up l (up-end (item stack i).up (item stack i) refl) (omega (arith, g))))) [
      | inl e ↦ absurd (omega (arith, e, g))
      | inr e ↦ e
    ]

    -- where no vertex with a tree edge from s on is x, the side has all from s on
    all-from : ((r : ℕ) → s ≤ r → r ≤ h → (item stack r).tree ≡ true → (item stack r).low ≢ x) → (i : ℕ) → s ≤ i → i ≤ h → side (item stack i).name ≡ true
    all-from n i a c = constant-below last done v stack rest stands side h h-in back.tree
        (λ r d e t. not-common (item stack r).low (λ k. omega (arith, k, low-v r (omega (arith, d, back.start)) e, v-w)) (n r (omega (arith, d, back.start)) e t)) i (omega (arith, a, back.start)) c ∙ on-top

    pub bad-whole : x < v → ((i : ℕ) → s ≤ i → i ≤ h → side (item stack i).name ≡ true) × ((i : ℕ) → s ≤ i → i ≤ h → (item stack i).up < v → (item stack i).up ≡ x)
    bad-whole g =
        let all = all-from (λ r a c t k. omega (arith, k, g, low-v r a c, v-w)) in
        (all, λ i a c u. up-is i (omega (arith, c, back.size)) (all i a c) u)

    pub bad-below : v < x → (x ≢ w) × ((p : ℕ) × IsTreeAt stack x p × (s ≤ (item stack p).start) × (p < h))
    bad-below g = (not-w, elim (cases_Bool (some (h + 1) test)) [ inl t ↦ found (some-witness (h + 1) test t) | inr f ↦ absurd (none f) ])
      where
        test : ℕ → Bool
        test r = not (nat_lt r s) && ((item stack r).tree && ((item stack r).low == x))

        -- the ends of the last entry
        not-w : x ≢ w
        not-w k =
            let into : (z : ℕ) → has_end z (entry (item stack h)) ≡ true → (z ≡ v) ⊎ (z ≡ x) = λ z e. elim (item-ends z (item stack h) e) [ inl m ↦ inl (m ∙ back.up) | inr m ↦ inr (m ∙ sym k) ] in
            let o = top-pair last done v h stack rest stands back.size back.topped side v x b into (top-ends last done v h stack rest stands back.size back.topped v x into) in
            elim (cases_Bool (item stack o.other).tree) [
              | inr f ↦ back.no_frond o.other o.within f o.low (o.up ∙ back.up)
              | inl t ↦ omega (arith, o.within, same-tree last done v stack rest stands w o.other h (record { within = omega (arith, o.within, back.size); tree = t; low = o.low }) top-tree)
            ]

        found : (r : ℕ) × (r < h + 1) × (test r ≡ true) → (p : ℕ) × IsTreeAt stack x p × (s ≤ (item stack p).start) × (p < h)
        found r =
            let a = and_parts (not (nat_lt r.0 s)) ((item stack r.0).tree && ((item stack r.0).low == x)) r.2 in
            let c = and_parts (item stack r.0).tree ((item stack r.0).low == x) a.1 in
            let l : (item stack r.0).low ≡ x = eqb-true (item stack r.0).low x c.1 in
            let from : s ≤ r.0 = elim (cases_lt r.0 s) [ inr m ↦ m | inl m ↦ absurd (both_ways (nat_lt r.0 s) (not-true (nat_lt r.0 s) a.0) (lt-ltb r.0 s m)) ] in
            (r.0, record { within = omega (arith, r.1, back.size); tree = c.0; low = l }, start-s r.0 from (omega (arith, r.1)), elim (cases_eq r.0 h) [ inl e ↦ absurd (not-w (sym l ∙ ap (λ (k : ℕ). (item stack k).low) e)) | inr n ↦ omega (arith, n, r.1) ])

        none : some (h + 1) test ≡ false → ⊥
        none f =
            let all = all-from (λ r a c t k. both_ways (some (h + 1) test) f (some-from (h + 1) test r (omega (arith, c)) (rw (le-ltb r s a, t, eq-eqb (item stack r).low x k) refl))) in
            let u = seg-up in
            omega (arith, g, u.3, up-is u.0 (omega (arith, u.2, back.size)) (all u.0 u.1 u.2) u.3)

    -- the other common vertex has its tree edge at place c
    module _ (g : v < x) (c : ℕ) (tree-c : IsTreeAt stack x c) (from-c : s ≤ (item stack c).start) (c-h : c < h) where
      n-w : x ≢ w
      n-w k = omega (arith, c-h, same-tree last done v stack rest stands w c h (record { within = tree-c.within; tree = tree-c.tree; low = tree-c.low ∙ k }) top-tree)

      s-c : s ≤ c
      s-c = omega (arith, from-c, stands.laid.tree_start c tree-c.within tree-c.tree)

      -- all entries from s on that are not below x are on the side
      outer : (fuel q : ℕ) → s ≤ q → q ≤ h → (q < (item stack c).start) ⊎ (c ≤ q) → h < q + fuel → side (item stack q).name ≡ true
      outer zero q a d o f = absurd (omega (arith, d, f))
      outer (suc fuel) q a d o f = elim (cases_eq q h) [
        | inl e ↦ ap (λ (k : ℕ). side (item stack k).name) e ∙ on-top
        | inr n ↦
            let l : q < length stack = omega (arith, d, back.size) in
            let near : w ≤ owner (item stack q) = owner-near last done v stack rest stands h q (owner (item stack q)) h-in back.tree (omega (arith, a, back.start)) (omega (arith, d, n)) refl in
            let r = held-owner last done v stack rest stands q l (omega (arith, near, v-w)) in
            let r-h : r.0 ≤ h = owner-in last done v stack rest stands h q r.0 h-in back.tree (omega (arith, a, back.start)) (omega (arith, d, n)) r.1 in
            let u-x : owner (item stack q) ≢ x = λ k. inner q o r.2 r.3 (same-tree last done v stack rest stands x r.0 c (record { within = r.1.within; tree = r.1.tree; low = r.1.low ∙ k }) tree-c) in
            same-side last done v stack rest stands side (owner (item stack q)) q r.0 l r.1.within (owner-end (item stack q)) (low-end (owner (item stack q)) (item stack r.0) (sym r.1.low))
            (not-common (owner (item stack q)) (λ k. omega (arith, k, near, v-w)) u-x)
            ∙ outer fuel r.0 (omega (arith, a, r.3)) r-h (past r.0 r.1 r.2 r.3 o) (omega (arith, f, r.3))
      ]
        where
          inner : (q : ℕ) → (q < (item stack c).start) ⊎ (c ≤ q) → {r : ℕ} → (item stack r).start ≤ q → q < r → r ≡ c → ⊥
          inner q o {r} a d e = elim o [ inl k ↦ omega (arith, k, a, ap (λ (j : ℕ). (item stack j).start) e) | inr k ↦ omega (arith, k, d, e) ]

          past : (r : ℕ) → IsTreeAt stack (owner (item stack q)) r → (item stack r).start ≤ q → q < r → (q < (item stack c).start) ⊎ (c ≤ q) → (r < (item stack c).start) ⊎ (c ≤ r)
          past r t y z o = elim o [
            | inr k ↦ inr (omega (arith, k, z))
            | inl k ↦ elim (cases_lt r (item stack c).start) [
              | inl m ↦ inl m
              | inr m ↦ elim (cases_lt r c) [
                | inr e ↦ inr e
                | inl e ↦ absurd (omega (arith, k, y, stands.laid.laminar c r tree-c.within tree-c.tree m e))
              ]
            ]
          ]

      pub outside-on : (q : ℕ) → s ≤ q → q ≤ h → (q < (item stack c).start) ⊎ (c ≤ q) → side (item stack q).name ≡ true
      outside-on q a d o = outer (suc h) q a d o (omega arith)

      -- a vertex between v and x that is met from s on has an entry on the side
      between-on : (z i : ℕ) → v < z → z < x → s ≤ i → i ≤ h → has_end z (entry (item stack i)) ≡ true → (p : ℕ) × (p < length stack) × (side (item stack p).name ≡ true) × (has_end z (entry (item stack p)) ≡ true)
      between-on z i a d e f k =
          let p = met-tree z i a e f k in (
            p.0,
            p.1.within,
            outside-on p.0 (omega (arith, e, p.4)) p.5 (elim (cases_lt p.0 (item stack c).start) [
              | inl m ↦ inl m
              | inr m ↦ elim (cases_lt p.0 c) [ inr q ↦ inr q | inl q ↦ absurd (omega (arith, p.1.low, d, tree-c.low, (stands.laid.inside c p.0 tree-c.within tree-c.tree m (omega (arith, q))).0)) ]
            ]),
            low-end z (item stack p.0) (sym p.1.low),
          )

      -- so an entry off the side does not meet it
      between-off : (z i : ℕ) → v < z → z < x → s ≤ i → i ≤ h → has_end z (entry (item stack i)) ≡ true → side (item stack i).name ≡ false → ⊥
      between-off z i a d e f k o =
          let p = between-on z i a d e f k in
          both_ways (is_common (family stack rest) side z) (not-common z (λ m. omega (arith, m, a)) (λ m. omega (arith, m, d))) (common-at stack rest side z p.0 i p.1 (omega (arith, f, back.size)) p.2 o p.3 k)

      -- an entry on the side has no upper end above v
      pub on-up : (i : ℕ) → i < length stack → side (item stack i).name ≡ true → v ≤ (item stack i).up
      on-up i l t = elim (cases_lt (item stack i).up v) [ inr k ↦ k | inl k ↦ absurd (omega (arith, k, g, up-is i l t k)) ]

      -- what belongs to a dart of x is on the side, or off it, as the dart
      seg-same : (r i : ℕ) → owner (item stack r) ≡ x → r < c → (item stack r).start ≤ i → i ≤ r → side (item stack i).name ≡ side (item stack r).name
      seg-same r i o l a d = elim (cases_Bool (item stack r).tree) [
        | inr f ↦ ap (λ (k : ℕ). side (item stack k).name) (omega (arith, d, a, stands.laid.frond_start r (omega (arith, l, tree-c.within)) f))
        | inl t ↦ constant-below last done v stack rest stands side r (omega (arith, l, tree-c.within)) t
            (λ q e f k. let m = (stands.laid.inside r q (omega (arith, l, tree-c.within)) t e f).0 in let n = (stands.laid.rises r (omega (arith, l, tree-c.within))).0 in
            not-common (item stack q).low (λ z. omega (arith, z, m, n, owner-tree (item stack r) x o t, g)) (λ z. omega (arith, z, m, n, owner-tree (item stack r) x o t))) i a d
      ]

      -- the dart is on the side, or the frond from x to v
      abbrev good : ℕ → Bool
      good r = side (item stack r).name || is_frond_to v x (item stack r)

      good-up : (r i : ℕ) → owner (item stack r) ≡ x → r < c → good r ≡ true → (item stack r).start ≤ i → i ≤ r → v ≤ (item stack i).up
      good-up r i o l t a d = elim (or_cases (side (item stack r).name) (is_frond_to v x (item stack r)) t) [
        | inl e ↦ on-up i (omega (arith, d, l, tree-c.within)) (seg-same r i o l a d ∙ e)
        | inr e ↦
            let p = frond-parts v x (item stack r) e in
            let k : i ≡ r = omega (arith, d, a, stands.laid.frond_start r (omega (arith, l, tree-c.within)) p.0) in
            omega (arith, ap (λ (j : ℕ). (item stack j).up) k, p.1)
      ]

      -- another dart has an upper end above v
      bad-up : (r : ℕ) → owner (item stack r) ≡ x → s ≤ (item stack r).start → r < c → good r ≡ false → (i : ℕ) × ((item stack r).start ≤ i) × (i ≤ r) × ((item stack i).up < v)
      bad-up r o from l n =
          let r-in : r < length stack = omega (arith, l, tree-c.within) in
          let at = start-at last done v stack rest stands r r-in in
          let m = least-in stack (item stack r).start (suc r) (omega (arith, at)) in
          elim (cases_lt m.0 v) [
            | inl k ↦ (m.1.place, m.1.from, omega (arith, m.1.within), omega (arith, m.1.attained, k))
            | inr k ↦ absurd (none r o from l r-in at (false-left n) (λ i a d. omega (arith, k, m.1.least i a (omega (arith, d)))) (false-right n))
          ]
        where
          false-left : good r ≡ false → side (item stack r).name ≡ false
          false-left n = false_from_ne_true (side (item stack r).name) (λ t. both_ways (good r) n (or_left (side (item stack r).name) (is_frond_to v x (item stack r)) t))

          false-right : good r ≡ false → is_frond_to v x (item stack r) ≡ false
          false-right n = false_from_ne_true (is_frond_to v x (item stack r)) (λ t. both_ways (good r) n (or_right (side (item stack r).name) (is_frond_to v x (item stack r)) t))

          none : (r : ℕ) → owner (item stack r) ≡ x → s ≤ (item stack r).start → r < c → r < length stack → (item stack r).start ≤ r → side (item stack r).name ≡ false → ((i : ℕ) → (item stack r).start ≤ i → i ≤ r → v ≤ (item stack i).up) → is_frond_to v x (item stack r) ≡ false → ⊥
          none r o from l r-in at off ups nf = elim (cases_Bool (item stack r).tree) [
            | inr f ↦
                let lo = owner-frond (item stack r) x o f in
                elim (cases_eq (item stack r).up v) [
                  | inl e ↦ both_ways (is_frond_to v x (item stack r)) nf (rw (f, eq-eqb (item stack r).up v e, eq-eqb (item stack r).low x lo) refl)
                  | inr e ↦ between-off (item stack r).up r (omega (arith, e, ups r at (omega arith))) (omega (arith, lo, (stands.laid.rises r r-in).0)) (omega (arith, from, at)) (omega (arith, l, c-h)) (up-end (item stack r).up (item stack r) refl) off
                ]
            | inl t ↦ stretch-not last done v h stack rest stands h-in back.topped test test-top (item stack r).start r (stands.laid.tree_start r r-in t) r-in (yes (item stack r).start (omega arith) at) (yes r at (omega arith)) v x only
          ]
            where
              test : ℕ → Bool
              test k = not (nat_lt k (item stack r).start) && not (nat_lt r k)

              yes : (k : ℕ) → (item stack r).start ≤ k → k ≤ r → test k ≡ true
              yes k a d = rw (le-ltb k (item stack r).start a, le-ltb r k d) refl

              test-top : test h ≡ false
              test-top = rw (le-ltb h (item stack r).start (omega (arith, at, l, c-h)), lt-ltb r h (omega (arith, l, c-h))) refl

              parts : (k : ℕ) → test k ≡ true → ((item stack r).start ≤ k) × (k ≤ r)
              parts k m = elim (cases_lt k (item stack r).start) [
                | inl a ↦ absurd (both_ways (test k) (rw (lt-ltb k (item stack r).start a) refl) m)
                | inr a ↦ elim (cases_lt r k) [ inr d ↦ (a, d) | inl d ↦ absurd (both_ways (test k) (rw (le-ltb k (item stack r).start a, lt-ltb r k d) refl) m) ]
              ]

              out : (k : ℕ) → test k ≡ false → (k < (item stack r).start) ⊎ (r < k)
              out k m = elim (cases_lt k (item stack r).start) [
                | inl a ↦ inl a
                | inr a ↦ elim (cases_lt r k) [ inl d ↦ inr d | inr d ↦ absurd (both_ways (test k) m (yes k a d)) ]
              ]

              only : (z : ℕ) → IsShared stack rest (side_at stack test) z → (z ≡ v) ⊎ (z ≡ x)
              only z m =
                  let i = parts m.place (sym (side-place stack rest stands.left.is_family test m.place m.within) ∙ m.on) in
                  let low : v < (item stack m.place).low = omega (arith, low-v m.place (omega (arith, from, i.0)) (omega (arith, i.1, l, c-h)), v-w) in
                  elim (cases_lt v z) [
                    | inr d ↦ inl (elim (item-ends z (item stack m.place) m.end) [ inl e ↦ omega (arith, d, e, ups m.place i.0 i.1) | inr e ↦ absurd (omega (arith, e, low, d)) ])
                    | inl d ↦ elim m.other [
                      | inr q ↦ absurd (rest-not z m.place d m.within m.end q)
                      | inl j ↦ elim (dart-shared last done v stack rest stands r z m.place j.0 r-in d i.0 i.1 j.1 (out j.0 (sym (side-place stack rest stands.left.is_family test j.0 j.1) ∙ j.2)) m.end j.3) [
                        | inl e ↦ inr (e ∙ o)
                        | inr e ↦ absurd (between-off z m.place d (omega (arith, e.0, o)) (omega (arith, from, i.0)) (omega (arith, i.1, l, c-h)) m.end (seg-same r m.place o l i.0 i.1 ∙ off))
                      ]
                    ]
                  ]

      -- the entries below x start at s
      starts-at : (fuel d : ℕ) → d ≤ h → c ≤ d → (item stack d).tree ≡ true → (item stack d).start ≡ (item stack c).start → h < d + fuel → (item stack c).start ≡ s
      starts-at zero d l a t e f = absurd (omega (arith, l, f))
      starts-at (suc fuel) d l a t e f = elim (cases_eq d h) [
        | inl k ↦ sym e ∙ (ap (λ (i : ℕ). (item stack i).start) k ∙ back.start)
        | inr n ↦
            let d-in : d < length stack = omega (arith, l, back.size) in
            let d-less : d < h = omega (arith, l, n) in
            let s-d : (item stack h).start ≤ d = omega (arith, back.start, s-c, a) in
            let near : w ≤ owner (item stack d) = owner-near last done v stack rest stands h d (owner (item stack d)) h-in back.tree s-d d-less refl in
            let q = held-owner last done v stack rest stands d d-in (omega (arith, near, v-w)) in
            let q-h : q.0 ≤ h = owner-in last done v stack rest stands h d q.0 h-in back.tree s-d d-less q.1 in
            starts-at fuel q.0 q-h (omega (arith, a, q.3)) q.1.tree (same-start d d-in d-less a e q.0 q.1 q.2 q.3 q-h ∙ e) (omega (arith, f, q.3))
      ]
        where
          same-start : (d : ℕ) → d < length stack → d < h → c ≤ d → (item stack d).start ≡ (item stack c).start → (q : ℕ) → IsTreeAt stack (owner (item stack d)) q → (item stack q).start ≤ d → d < q → q ≤ h → (item stack q).start ≡ (item stack d).start
          same-start d d-in d-less a e q tq y z q-h = elim (cases_lt (item stack q).start (item stack d).start) [
            | inr k ↦ elim (cases_Bool (item stack d).tree) [
              | inl td ↦ omega (arith, k, lam td)
              | inr fd ↦ absurd (omega (arith, stands.laid.frond_start d d-in fd, e, a, stands.laid.tree_start c tree-c.within tree-c.tree))
            ]
            | inl k ↦ absurd (lower k)
          ]
            where
              lam : (item stack d).tree ≡ true → (item stack q).start ≤ (item stack d).start
              lam td = stands.laid.laminar q d tq.within tq.tree y z

              s-q : s ≤ (item stack q).start
              s-q = start-s q (omega (arith, s-c, a, z)) q-h

              -- a dart of the same vertex before it would be on the side, without an upper end above v
              lower : (item stack q).start < (item stack d).start → ⊥
              lower k =
                  let r = dart-over last done v stack rest stands q ((item stack d).start - 1) tq.within tq.tree (omega (arith, k)) (omega (arith, k, start-at last done v stack rest stands d d-in, z)) in
                  let same : owner (item stack r.dart) ≡ owner (item stack d) = r.owned ∙ tq.low in
                  let r-d : r.dart < d = elim (cases_lt r.dart d) [
                    | inl m ↦ m
                    | inr m ↦ absurd (elim (cases_eq r.dart d) [
                      | inl i ↦ omega (arith, r.from, k, ap (λ (j : ℕ). (item stack j).start) i)
                      | inr i ↦ omega (arith, r.from, k, start-at last done v stack rest stands d d-in, darts-apart last done v stack rest stands d r.dart (omega (arith, m, i)) (omega (arith, r.within, tq.within)) (sym same))
                    ])
                  ] in
                  let r-c : r.dart < (item stack c).start = omega (arith, e, darts-apart last done v stack rest stands r.dart d r-d d-in same) in
                  let r-in : r.dart < length stack = omega (arith, r-d, d-in) in
                  let s-r : s ≤ (item stack r.dart).start = start-s r.dart (omega (arith, s-q, k, r.to)) (omega (arith, r-d, d-less)) in
                  let u = seg-up in
                  let u-off : (side (item stack u.0).name ≡ true) → ⊥ = λ t. omega (arith, u.3, on-up u.0 (omega (arith, u.2, back.size)) t) in
                  let u-from : (item stack c).start ≤ u.0 = elim (cases_lt u.0 (item stack c).start) [ inr m ↦ m | inl m ↦ absurd (u-off (outside-on u.0 u.1 u.2 (inl m))) ] in
                  let u-to : u.0 < c = elim (cases_lt u.0 c) [ inl m ↦ m | inr m ↦ absurd (u-off (outside-on u.0 u.1 u.2 (inr m))) ] in
                  let i = back.sorted.reach_rises r.dart d u.0 r-d d-less same (omega (arith, e, u-from)) (omega (arith, u-to, a)) (omega (arith, u.3)) in
                  omega (arith, i.3, u.3, on-up i.0 (omega (arith, i.2, r-in)) (outside-on i.0 (omega (arith, s-r, i.1)) (omega (arith, i.2, r-d, d-less)) (inl (omega (arith, i.2, r-c)))))

      pub start-is : (item stack c).start ≡ s
      start-is = starts-at (suc h) c (omega (arith, c-h)) (omega arith) tree-c.tree refl (omega arith)

      -- the answer: a cut that is wanted
      pub record IsCutThere : Type 0 where
        pub place : ℕ
        pub vertex : ℕ
        pub wanted : IsWanted s stack place v vertex
        pub below : IsFirstBelow stack s vertex
        pub other : vertex ≢ w
        pub on : (i : ℕ) → place ≤ i → i < length stack → is_frond_to v vertex (item stack i) ≡ false → side (item stack i).name ≡ true

      -- from the first dart of x that is on the side, or the frond from x to v
      cut-from : (r : ℕ) → r < c → owner (item stack r) ≡ x → s ≤ (item stack r).start → good r ≡ true → ((q : ℕ) → q < r → owner (item stack q) ≡ x → s ≤ (item stack q).start → good q ≡ false) → IsCutThere
      cut-from r l o from t first = record {
        place = (item stack r).start;
        vertex = x;
        wanted = record { from = late; starts = record { place = r; within = r-in; owned = o; starts = refl }; least = leasts; free = free };
        below = record { place = c; tree_at = tree-c; starts = start-is };
        other = n-w;
        on = on-from;
      }
        where
          r-in : r < length stack
          r-in = omega (arith, l, tree-c.within)

          start-r : (item stack r).start ≤ r
          start-r = start-at last done v stack rest stands r r-in

          -- a later dart of x is on the side, or the frond
          later : (q : ℕ) → r < q → q < c → owner (item stack q) ≡ x → s ≤ (item stack q).start → good q ≡ true
          later q a d k m = elim (cases_Bool (good q)) [
            | inl e ↦ e
            | inr e ↦
                let u = bad-up q k m d e in
                let i = back.sorted.reach_rises r q u.0 a (omega (arith, d, c-h)) (o ∙ sym k) u.1 u.2 (omega (arith, u.3)) in
                absurd (omega (arith, i.3, u.3, good-up r i.0 o l t i.1 i.2))
          ]

          on-from : (i : ℕ) → (item stack r).start ≤ i → i < length stack → is_frond_to v x (item stack i) ≡ false → side (item stack i).name ≡ true
          on-from i a d nf = elim (cases_lt i c) [
            | inr e ↦ outside-on i (omega (arith, from, a)) (omega (arith, d, back.size)) (inr e)
            | inl e ↦
                let q = dart-over last done v stack rest stands c i tree-c.within tree-c.tree (omega (arith, start-is, from, a)) e in
                let q-own : owner (item stack q.dart) ≡ x = q.owned ∙ tree-c.low in
                let q-from : s ≤ (item stack q.dart).start = start-s q.dart (omega (arith, from, a, q.to)) (omega (arith, q.within, c-h)) in
                let q-good : good q.dart ≡ true = elim (cases_eq q.dart r) [
                  | inl k ↦ subst (λ (j : ℕ). good j ≡ true) (sym k) t
                  | inr k ↦ elim (cases_lt r q.dart) [
                    | inl m ↦ later q.dart m q.within q-own q-from
                    | inr m ↦ absurd (omega (arith, q.to, a, darts-apart last done v stack rest stands q.dart r (omega (arith, m, k)) r-in (q-own ∙ sym o)))
                  ]
                ] in
                elim (or_cases (side (item stack q.dart).name) (is_frond_to v x (item stack q.dart)) q-good) [
                  | inl m ↦ seg-same q.dart i q-own q.within q.from q.to ∙ m
                  | inr m ↦
                      let p = frond-parts v x (item stack q.dart) m in
                      let same : i ≡ q.dart = omega (arith, q.from, q.to, stands.laid.frond_start q.dart (omega (arith, q.within, tree-c.within)) p.0) in
                      absurd (both_ways (is_frond_to v x (item stack i)) nf (subst (λ (j : ℕ). is_frond_to v x (item stack j) ≡ true) (sym same) m))
                ]
          ]

          leasts : IsLeastUp stack (item stack r).start v
          leasts = record {
            least = λ i a d. elim (cases_Bool (is_frond_to v x (item stack i))) [
              | inl e ↦ omega (arith, (frond-parts v x (item stack i) e).1)
              | inr e ↦ on-up i d (on-from i a d e)
            ];
            place = h;
            from = omega (arith, start-r, l, c-h);
            within = h-in;
            attained = back.up;
          }

          -- an earlier dart is off the side
          early : (i : ℕ) → s ≤ i → i < (item stack r).start → side (item stack i).name ≡ false
          early i a d =
              let q = dart-over last done v stack rest stands c i tree-c.within tree-c.tree (omega (arith, start-is, a)) (omega (arith, d, start-r, l)) in
              let q-own : owner (item stack q.dart) ≡ x = q.owned ∙ tree-c.low in
              let q-from : s ≤ (item stack q.dart).start = start-s q.dart (omega (arith, a, q.to)) (omega (arith, q.within, c-h)) in
              let q-r : q.dart < r = elim (cases_lt q.dart r) [
                | inl m ↦ m
                | inr m ↦ absurd (elim (cases_eq q.dart r) [
                  | inl k ↦ omega (arith, q.from, d, ap (λ (j : ℕ). (item stack j).start) k)
                  | inr k ↦ omega (arith, q.from, d, start-r, darts-apart last done v stack rest stands r q.dart (omega (arith, m, k)) (omega (arith, q.within, tree-c.within)) (o ∙ sym q-own))
                ])
              ] in
              seg-same q.dart i q-own q.within q.from q.to ∙ false_from_ne_true (side (item stack q.dart).name) (λ m. both_ways (good q.dart) (first q.dart q-r q-own q-from) (or_left (side (item stack q.dart).name) (is_frond_to v x (item stack q.dart)) m))

          late : s < (item stack r).start
          late = elim (cases_lt s (item stack r).start) [
            | inl a ↦ a
            | inr a ↦
                let u = seg-up in
                absurd (elim (cases_Bool (is_frond_to v x (item stack u.0))) [
                  | inl e ↦ omega (arith, u.3, (frond-parts v x (item stack u.0) e).1)
                  | inr e ↦ omega (arith, u.3, on-up u.0 (omega (arith, u.2, back.size)) (on-from u.0 (omega (arith, a, u.1)) (omega (arith, u.2, back.size)) e))
                ])
          ]

          free : (y : ℕ) → v < y → y < x → IsBefore stack (item stack r).start y → ⊥
          free y a d m = elim (cases_lt m.place s) [
            | inr e ↦ between-off y m.place a d e (omega (arith, m.within, start-r, l, c-h)) m.end (early m.place e m.within)
            | inl e ↦
                let m-in : m.place < length stack = omega (arith, e, s-h, back.size) in
                let p = stands.ended.held m.place y m-in m.end a in
                let q = touching-tree last done v stack rest stands y p.0 m.place p.1 m-in m.end in
                elim (cases_lt p.0 s) [
                  | inr k ↦ omega (arith, q.0, e, start-s p.0 k (omega (arith, p.1.within, back.size)))
                  | inl k ↦ elim (stands.laid.outside h p.0 h-in back.tree p.1.within (inl (omega (arith, k, back.start)))) [
                    | inl i ↦ omega (arith, i, back.behind p.0 k p.1.tree)
                    | inr i ↦ omega (arith, i, p.1.low, d, x-last)
                  ]
                ]
          ]
            where
              x-last : x < last w
              x-last = subst (λ (k : ℕ). k < last w) tree-c.low (stands.laid.inside h c h-in back.tree (omega (arith, back.start, s-c)) (omega (arith, c-h))).1

      -- the first dart of x that is on the side, or the frond from x to v
      first-good : (n : ℕ) → n ≤ c → ((r : ℕ) × (r < n) × (owner (item stack r) ≡ x) × (s ≤ (item stack r).start) × (good r ≡ true) × ((q : ℕ) → q < r → owner (item stack q) ≡ x → s ≤ (item stack q).start → good q ≡ false))
          ⊎ ((q : ℕ) → q < n → owner (item stack q) ≡ x → s ≤ (item stack q).start → good q ≡ false)
      first-good zero l = inr (λ q a. absurd (omega (arith, a)))
      first-good (suc n) l = elim (first-good n (omega (arith, l))) [
        | inl r ↦ inl (r.0, omega (arith, r.1), r.2, r.3, r.4, r.5)
        | inr none ↦ elim (cases_Bool ((owner (item stack n) == x) && (not (nat_lt (item stack n).start s) && good n))) [
          | inl t ↦
              let a = and_parts (owner (item stack n) == x) (not (nat_lt (item stack n).start s) && good n) t in
              let d = and_parts (not (nat_lt (item stack n).start s)) (good n) a.1 in
              inl (n, omega arith, eqb-true (owner (item stack n)) x a.0, from-lt (item stack n).start s d.0, d.1, none)
          | inr f ↦ inr (λ q a o m. elim (cases_eq q n) [
            | inr k ↦ none q (omega (arith, a, k)) o m
            | inl k ↦ false_from_ne_true (good q) (λ t. both_ways ((owner (item stack n) == x) && (not (nat_lt (item stack n).start s) && good n)) f
                (subst (λ (j : ℕ). ((owner (item stack j) == x) && (not (nat_lt (item stack j).start s) && good j)) ≡ true) k (rw (eq-eqb (owner (item stack q)) x o, le-ltb (item stack q).start s m, t) refl)))
          ])
        ]
      ]
        where
          from-lt : (a d : ℕ) → not (nat_lt a d) ≡ true → d ≤ a
          from-lt a d t = elim (cases_lt a d) [ inr m ↦ m | inl m ↦ absurd (both_ways (nat_lt a d) (not-true (nat_lt a d) t) (lt-ltb a d m)) ]

      -- where there is such a dart, there is a cut that is wanted
      pub cut-good : (r : ℕ) → r < c → owner (item stack r) ≡ x → s ≤ (item stack r).start → good r ≡ true → IsCutThere
      cut-good r l o m t = elim (first-good c (omega arith)) [
        | inl q ↦ cut-from q.0 q.1 q.2 q.3 q.4 q.5
        | inr none ↦ absurd (both_ways (good r) (none r l o m) t)
      ]

      -- else nothing below x is on the side
      pub none-good : ((q : ℕ) → q < c → owner (item stack q) ≡ x → s ≤ (item stack q).start → good q ≡ false) → (i : ℕ) → s ≤ i → i < c → side (item stack i).name ≡ false
      none-good none i a d =
          let q = dart-over last done v stack rest stands c i tree-c.within tree-c.tree (omega (arith, start-is, a)) d in
          let q-own : owner (item stack q.dart) ≡ x = q.owned ∙ tree-c.low in
          let q-from : s ≤ (item stack q.dart).start = start-s q.dart (omega (arith, a, q.to)) (omega (arith, q.within, c-h)) in
          seg-same q.dart i q-own q.within q.from q.to ∙ false_from_ne_true (side (item stack q.dart).name) (λ m. both_ways (good q.dart) (none q.dart q.within q-own q-from) (or_left (side (item stack q.dart).name) (is_frond_to v x (item stack q.dart)) m))

      pub good-search : ((r : ℕ) × (r < c) × (owner (item stack r) ≡ x) × (s ≤ (item stack r).start) × (good r ≡ true)) ⊎ ((q : ℕ) → q < c → owner (item stack q) ≡ x → s ≤ (item stack q).start → good q ≡ false)
      good-search = elim (first-good c (omega arith)) [ inl r ↦ inl (r.0, r.1, r.2, r.3, r.4) | inr none ↦ inr none ]

  -- a bad side with a vertex below: a cut that is wanted, or a triangle
  pub record IsCutFound (side : ℕ → Bool) : Type 0 where
    pub place : ℕ
    pub vertex : ℕ
    pub wanted : IsWanted s stack place v vertex
    pub below : IsFirstBelow stack s vertex
    pub other : vertex ≢ w
    pub on : (i : ℕ) → place ≤ i → i < length stack → is_frond_to v vertex (item stack i) ≡ false → side (item stack i).name ≡ true

  found-cut : (side : ℕ → Bool) (x : ℕ) (b : IsBad stack rest side v x) (g : v < x) (c : ℕ) (t : IsTreeAt stack x c) (f : s ≤ (item stack c).start) (l : c < h) → IsCutThere side x b g c t f l → IsCutFound side
  found-cut side x b g c t f l k = record { place = k.place; vertex = k.vertex; wanted = k.wanted; below = k.below; other = k.other; on = k.on }

  -- nothing below x is on the side
  module _ (side : ℕ → Bool) (x : ℕ) (b : IsBad stack rest side v x) (g : v < x) (c : ℕ) (tree-c : IsTreeAt stack x c) (from-c : s ≤ (item stack c).start) (c-h : c < h) (off : (i : ℕ) → s ≤ i → i < c → side (item stack i).name ≡ false) where
    abbrev u : ℕ
    u = (item stack c).up

    s-c' : s ≤ c
    s-c' = omega (arith, from-c, stands.laid.tree_start c tree-c.within tree-c.tree)

    on-c : (i : ℕ) → c ≤ i → i ≤ h → side (item stack i).name ≡ true
    on-c i a d = outside-on side x b g c tree-c from-c c-h i (omega (arith, s-c', a)) d (inr a)

    u-less : u < x
    u-less = omega (arith, (stands.laid.rises c tree-c.within).0, tree-c.low)

    near-u : w ≤ u
    near-u = omega (arith, tree-owner (item stack c) tree-c.tree, owner-near last done v stack rest stands h c (owner (item stack c)) h-in back.tree (omega (arith, back.start, s-c')) c-h refl)

    u-v : v < u
    u-v = omega (arith, near-u, v-w)

    -- u is met below c by no entry from s on
    u-not : (i : ℕ) → s ≤ i → i < c → has_end u (entry (item stack i)) ≡ true → ⊥
    u-not i a d e = both_ways (is_common (family stack rest) side u) (not-common side x b u (λ k. omega (arith, k, u-v)) (λ k. omega (arith, k, u-less)))
        (common-at stack rest side u c i tree-c.within (omega (arith, d, tree-c.within)) (on-c c (omega arith) (omega (arith, c-h))) (off i a d) (up-end u (item stack c) refl) e)

    -- the tree edge of u
    pub upper : (d : ℕ) × IsTreeAt stack u d × (c < d) × (d ≤ h)
    upper =
        let q = held-owner last done v stack rest stands c tree-c.within (omega (arith, tree-owner (item stack c) tree-c.tree, u-v)) in
        let o : owner (item stack c) ≡ u = tree-owner (item stack c) tree-c.tree in
        (q.0, subst (λ (k : ℕ). IsTreeAt stack k q.0) o q.1, q.3, owner-in last done v stack rest stands h c q.0 h-in back.tree (omega (arith, back.start, s-c')) c-h q.1)

    -- entries from s on that meet x end at c
    x-to : (i : ℕ) → i < length stack → has_end x (entry (item stack i)) ≡ true → i ≤ c
    x-to i l e = (touching-tree last done v stack rest stands x c i tree-c l e).1

    -- another dart of u behind c, where u has its tree edge in front of the last entry: a bad side with the vertex u
    module _ (d : ℕ) (tree-d : IsTreeAt stack u d) (c-d : c < d) where
      abbrev test : ℕ → Bool
      test k = nat_lt c k

      behind-bad : d < h → IsBad stack rest (side_at stack test) v u
      behind-bad d-h = record {
        separates = separation-swap (family stack rest) (side_at stack test) u v (separation-from (family stack rest) (side_at stack test) u v stands.left.is_tight
            (side-two stack rest stands.left.is_family (side_at stack test) d h d-h h-in (on d c-d tree-d.within) (on h c-h h-in))
            (side-off_two stack rest stands.left.is_family (side_at stack test) c e.0 tree-c.within (side-place stack rest stands.left.is_family test c tree-c.within ∙ le-ltb c c (omega arith)) e.1 (off-rest e.0 e.1))
            (λ z k. only z (shared-from stack rest (side_at stack test) off-rest z k)));
        stacked = off-rest;
      }
        where
          e : (y : Entry) × Contains rest y × (has_end v y ≡ true)
          e = touching-entry rest v stands.left.own

          on : (i : ℕ) → c < i → i < length stack → side_at stack test (item stack i).name ≡ true
          on i a l = side-place stack rest stands.left.is_family test i l ∙ lt-ltb c i a

          off-rest : (y : Entry) → Contains rest y → side_at stack test y.name ≡ false
          off-rest = side-rest stack rest stands.left.is_family test

          past : (i : ℕ) → i < length stack → side_at stack test (item stack i).name ≡ true → c < i
          past i l t = elim (cases_lt c i) [ inl m ↦ m | inr m ↦ absurd (both_ways (test i) (le-ltb c i m) (sym (side-place stack rest stands.left.is_family test i l) ∙ t)) ]

          not-past : (i : ℕ) → i < length stack → side_at stack test (item stack i).name ≡ false → i ≤ c
          not-past i l t = elim (cases_lt c i) [ inr m ↦ m | inl m ↦ absurd (both_ways (test i) (sym (side-place stack rest stands.left.is_family test i l) ∙ t) (lt-ltb c i m)) ]

          only : (z : ℕ) → IsShared stack rest (side_at stack test) z → (z ≡ u) ⊎ (z ≡ v)
          only z m =
              let a = past m.place m.within m.on in
              let side-on = on-c m.place (omega (arith, a)) (omega (arith, m.within, back.size)) in
              elim (cases_lt v z) [
                | inr d ↦ inr (elim (item-ends z (item stack m.place) m.end) [
                  | inl e ↦ omega (arith, d, e, on-up side x b g c tree-c from-c c-h m.place m.within side-on)
                  | inr e ↦ absurd (omega (arith, e, d, low-v m.place (omega (arith, s-c', a)) (omega (arith, m.within, back.size)), v-w))
                ])
                | inl d ↦ elim m.other [
                  | inr q ↦ absurd (rest-not z m.place d m.within m.end q)
                  | inl j ↦
                      let j-c = not-past j.0 j.1 j.2 in
                      let s-j = met-inside z m.place j.0 d (omega (arith, s-c', a)) (omega (arith, m.within, back.size)) m.end j.1 j.3 in
                      let z-x : z ≢ x = λ k. omega (arith, a, x-to m.place m.within (subst (λ (i : ℕ). has_end i (entry (item stack m.place)) ≡ true) k m.end)) in
                      elim (cases_eq j.0 c) [
                        | inl k ↦ elim (item-ends z (item stack c) (subst (λ (i : ℕ). has_end z (entry (item stack i)) ≡ true) k j.3)) [ inl f ↦ inl f | inr f ↦ absurd (z-x (f ∙ tree-c.low)) ]
                        | inr k ↦ absurd (both_ways (is_common (family stack rest) side z) (not-common side x b z (λ i. omega (arith, i, d)) z-x)
                            (common-at stack rest side z m.place j.0 m.within j.1 side-on (off j.0 s-j (omega (arith, j-c, k))) m.end j.3))
                      ]
                ]
              ]

      -- the side behind c is on the old one
      behind-on : (i : ℕ) → s ≤ i → i < length stack → side_at stack test (item stack i).name ≡ true → side (item stack i).name ≡ true
      behind-on i a l t = elim (cases_lt c i) [
        | inl m ↦ on-c i (omega (arith, m)) (omega (arith, l, back.size))
        | inr m ↦ absurd (both_ways (test i) (le-ltb c i m) (sym (side-place stack rest stands.left.is_family test i l) ∙ t))
      ]

      -- so there is a cut
      pub behind-cut : d < h → c + 1 < d → IsCutFound side
      behind-cut d-h more =
          let s-start : s ≤ (item stack d).start = start-s d (omega (arith, s-c', c-d)) (omega (arith, d-h)) in
          let r = dart-over last done v stack rest stands d (c + 1) tree-d.within tree-d.tree (omega (arith, up-start)) more in
          let k = cut-good (side_at stack test) u (behind-bad d-h) u-v d tree-d s-start d-h r.dart r.within (r.owned ∙ tree-d.low) (start-s r.dart (omega (arith, s-c', r.to)) (omega (arith, r.within, d-h)))
          (or_left (side_at stack test (item stack r.dart).name) (is_frond_to v u (item stack r.dart)) (side-place stack rest stands.left.is_family test r.dart (omega (arith, r.within, tree-d.within)) ∙ lt-ltb c r.dart (omega (arith, r.to)))) in
          record {
            place = k.place;
            vertex = k.vertex;
            wanted = k.wanted;
            below = k.below;
            other = k.other;
            on = λ i a l n. behind-on i (omega (arith, k.wanted.from, a)) l (k.on i a l n);
          }
        where
          up-start : (item stack d).start ≤ c
          up-start = (touching-tree last done v stack rest stands u d c tree-d tree-c.within (up-end u (item stack c) refl)).0

      -- no other dart of u behind c, and u is not the lower end of the last entry: two entries alone at u
      pub chain-not : d < h → d ≡ c + 1 → ⊥
      chain-not d-h e = stretch-not last done v h stack rest stands h-in back.topped pair pair-top c d c-d tree-d.within (or_left (c == c) (c == d) (eq-eqb c c refl)) (or_right (d == c) (d == d) (eq-eqb d d refl)) x (item stack d).up only
        where
          pair : ℕ → Bool
          pair k = (k == c) || (k == d)

          pair-top : pair h ≡ false
          pair-top = false_from_ne_true (pair h) (λ k. elim (or_cases (h == c) (h == d) k) [ inl m ↦ omega (arith, eqb-true h c m, c-h) | inr m ↦ omega (arith, eqb-true h d m, d-h) ])

          u-here : (j : ℕ) → j < length stack → pair j ≡ false → has_end u (entry (item stack j)) ≡ true → ⊥
          u-here j l n k =
              let t = touching-tree last done v stack rest stands u d j tree-d l k in
              let s-start : s ≤ (item stack d).start = start-s d (omega (arith, s-c', c-d)) (omega (arith, d-h)) in
              elim (cases_lt j c) [
                | inl m ↦ u-not j (omega (arith, s-start, t.0)) m k
                | inr m ↦ elim (cases_eq j c) [
                  | inl i ↦ both_ways (pair j) n (or_left (j == c) (j == d) (eq-eqb j c i))
                  | inr i ↦ both_ways (pair j) n (or_right (j == c) (j == d) (eq-eqb j d (omega (arith, t.1, m, i, e))))
                ]
              ]

          only : (z : ℕ) → IsShared stack rest (side_at stack pair) z → (z ≡ x) ⊎ (z ≡ (item stack d).up)
          only z m =
              let not-u : z ≢ u = λ k. elim m.other [
                | inr q ↦ rest-not z m.place (omega (arith, k, u-v)) m.within m.end q
                | inl j ↦ u-here j.0 j.1 (sym (side-place stack rest stands.left.is_family pair j.0 j.1) ∙ j.2) (subst (λ (i : ℕ). has_end i (entry (item stack j.0)) ≡ true) k j.3)
              ] in
              elim (or_cases (m.place == c) (m.place == d) (sym (side-place stack rest stands.left.is_family pair m.place m.within) ∙ m.on)) [
                | inl k ↦ elim (item-ends z (item stack c) (subst (λ (i : ℕ). has_end z (entry (item stack i)) ≡ true) (eqb-true m.place c k) m.end)) [ inl f ↦ absurd (not-u f) | inr f ↦ inl (f ∙ tree-c.low) ]
                | inr k ↦ elim (item-ends z (item stack d) (subst (λ (i : ℕ). has_end z (entry (item stack i)) ≡ true) (eqb-true m.place d k) m.end)) [ inl f ↦ inr f | inr f ↦ absurd (not-u (f ∙ tree-d.low)) ]
              ]

      -- another dart behind c of the lower end of the last entry: there is none
      pub top-not : d ≡ h → c + 1 < h → ⊥
      top-not e more =
          let r = dart-over last done v stack rest stands h (c + 1) h-in back.tree (omega (arith, back.start, s-c')) more in
          alone r.dart r.within r.owned r.to
        where
          alone : (r : ℕ) → r < h → owner (item stack r) ≡ w → c + 1 ≤ r → ⊥
          alone r r-h o past = elim (cases_Bool (item stack r).tree) [
            | inr f ↦
                let lo = owner-frond (item stack r) w o f in
                let up-v = on-up side x b g c tree-c from-c c-h r r-in (on-c r (omega (arith, past)) (omega (arith, r-h))) in
                elim (cases_eq (item stack r).up v) [
                  | inl k ↦ back.no_frond r r-h f lo k
                  | inr k ↦
                      let p = met-tree (item stack r).up r (omega (arith, up-v, k)) (omega (arith, s-c', past)) (omega (arith, r-h)) (up-end (item stack r).up (item stack r) refl) in
                      omega (arith, (stands.laid.rises r r-in).0, lo, p.1.low, low-v p.0 (omega (arith, s-c', past, p.4)) p.5)
                ]
            | inl t ↦ stretch-not last done v h stack rest stands h-in back.topped seg seg-top (item stack r).start r (stands.laid.tree_start r r-in t) r-in (yes (item stack r).start (omega arith) at) (yes r at (omega arith)) v w only
          ]
            where
              r-in : r < length stack
              r-in = omega (arith, r-h, h-in)

              at : (item stack r).start ≤ r
              at = start-at last done v stack rest stands r r-in

              -- it starts behind c, which is a dart of the same vertex
              start-r : c < (item stack r).start
              start-r = darts-apart last done v stack rest stands c r (omega (arith, past)) r-in (tree-owner (item stack c) tree-c.tree ∙ (sym tree-d.low ∙ (ap (λ (k : ℕ). (item stack k).low) e ∙ sym o)))

              seg : ℕ → Bool
              seg k = not (nat_lt k (item stack r).start) && not (nat_lt r k)

              yes : (k : ℕ) → (item stack r).start ≤ k → k ≤ r → seg k ≡ true
              yes k a d = rw (le-ltb k (item stack r).start a, le-ltb r k d) refl

              seg-top : seg h ≡ false
              seg-top = rw (le-ltb h (item stack r).start (omega (arith, at, r-h)), lt-ltb r h r-h) refl

              parts : (k : ℕ) → seg k ≡ true → ((item stack r).start ≤ k) × (k ≤ r)
              parts k m = elim (cases_lt k (item stack r).start) [
                | inl a ↦ absurd (both_ways (seg k) (rw (lt-ltb k (item stack r).start a) refl) m)
                | inr a ↦ elim (cases_lt r k) [ inr d ↦ (a, d) | inl d ↦ absurd (both_ways (seg k) (rw (le-ltb k (item stack r).start a, lt-ltb r k d) refl) m) ]
              ]

              out : (k : ℕ) → seg k ≡ false → (k < (item stack r).start) ⊎ (r < k)
              out k m = elim (cases_lt k (item stack r).start) [
                | inl a ↦ inl a
                | inr a ↦ elim (cases_lt r k) [ inl d ↦ inr d | inr d ↦ absurd (both_ways (seg k) m (yes k a d)) ]
              ]

              only : (z : ℕ) → IsShared stack rest (side_at stack seg) z → (z ≡ v) ⊎ (z ≡ w)
              only z m =
                  let i = parts m.place (sym (side-place stack rest stands.left.is_family seg m.place m.within) ∙ m.on) in
                  let s-i : s ≤ m.place = omega (arith, s-c', start-r, i.0) in
                  let i-h : m.place ≤ h = omega (arith, i.1, r-h) in
                  elim (cases_lt v z) [
                    | inr d ↦ inl (elim (item-ends z (item stack m.place) m.end) [
                      | inl e ↦ omega (arith, d, e, on-up side x b g c tree-c from-c c-h m.place m.within (on-c m.place (omega (arith, start-r, i.0)) i-h))
                      | inr e ↦ absurd (omega (arith, e, d, low-v m.place s-i i-h, v-w))
                    ])
                    | inl d ↦ elim m.other [
                      | inr q ↦ absurd (rest-not z m.place d m.within m.end q)
                      | inl j ↦ elim (dart-shared last done v stack rest stands r z m.place j.0 r-in d i.0 i.1 j.1 (out j.0 (sym (side-place stack rest stands.left.is_family seg j.0 j.1) ∙ j.2)) m.end j.3) [
                        | inl e ↦ inr (e ∙ o)
                        | inr e ↦ absurd (omega (arith, e.0, o, e.1.1.low, low-v e.1.0 (omega (arith, s-i, i.1, e.1.2)) (omega (arith, e.1.1.within, back.size))))
                      ]
                    ]
                  ]

    pub none-cut : HasNoTriangle stack h w → IsCutFound side
    none-cut triangle =
        let d = upper in
        elim (cases_eq d.0 h) [
          | inr n ↦ elim (cases_eq d.0 (c + 1)) [
            | inl e ↦ absurd (chain-not d.0 d.1 d.2 (omega (arith, d.3, n)) e)
            | inr m ↦ behind-cut d.0 d.1 d.2 (omega (arith, d.3, n)) (omega (arith, d.2, m))
          ]
          | inl e ↦ elim (cases_eq (c + 1) h) [
            | inr m ↦ absurd (top-not d.0 d.1 d.2 e (omega (arith, c-h, m)))
            | inl m ↦
                let k = triangle c m tree-c.tree in
                let same : w ≡ u = sym (ap (λ (i : ℕ). (item stack i).low) e) ∙ d.1.low in
                let from = touching-tree last done v stack rest stands w h k.place top-tree (omega (arith, k.within, tree-c.within)) k.end in
                absurd (u-not k.place (omega (arith, from.0, back.start)) k.within (subst (λ (i : ℕ). has_end i (entry (item stack k.place)) ≡ true) same k.end))
          ]
        ]

  -- a bad side whose other vertex is below: a cut that is wanted, where there is no triangle
  pub bad-cut : (side : ℕ → Bool) (x : ℕ) → IsBad stack rest side v x → v < x → HasNoTriangle stack h w → IsCutFound side
  bad-cut side x b g triangle =
      let t = bad-below side x b g in
      elim (good-search side x b g t.1.0 t.1.1 t.1.2 t.1.3) [
        | inl r ↦ found-cut side x b g t.1.0 t.1.1 t.1.2 t.1.3 (cut-good side x b g t.1.0 t.1.1 t.1.2 t.1.3 r.0 r.1 r.2 r.3 r.4)
        | inr none ↦ none-cut side x b g t.1.0 t.1.1 t.1.2 t.1.3 (none-good side x b g t.1.0 t.1.1 t.1.2 t.1.3 none) triangle
      ]
