-- The cuts when the search returns to a vertex, splits off components there, and goes on.
use Rattle.std.proofs.Common.{◌≡◌, ◌≢◌, ℕ, ◌+◌, ◌<◌, ◌≤◌, ◌⊎◌, inl, inr, Bool, true, false, not, nat_lt, ◌&&◌, List, [], ◌∷◌, ◌++◌, length, refl, sym, ap, ◌∙◌, subst, arith, Contains}
use Rattle.std.proofs.lemmas.Bool.{cases_Bool, cases_lt, cases_eq, both_ways, lt-ltb, le-ltb}
use Rattle.std.proofs.lemmas.List.{length-append}
use Rattle.std.proofs.lemmas.List.Elements.{Contains-append_cases, Contains-push_cases}
use Rattle.pair_split.specs.Family.{Entry, has_end, touches}
use Rattle.split_comp.specs.declared.items.StackEntry.{StackEntry}
use Rattle.split_comp.specs.declared.items.StackCut.{StackCut}
use Rattle.split_comp.specs.Stack.{item, entry, owner, IsTreeAt, IsStack, IsTopped, IsReturned}
use Rattle.split_comp.specs.Cuts.{no_cut, cut, IsLeastUp, IsAcross, IsBefore, IsFirstBelow, IsSoundCut, AreSound, IsWanted, AreComplete, IsSoundAt, AreSoundAt, AreCompleteAt}
use Rattle.split_comp.specs.Frames.{AreFrames}
use Rattle.split_comp.proofs.Entries.{item-ends, up-end, low-end, place-of}
use Rattle.split_comp.proofs.LeastUp.{least-in, least-same, touching-tree}
use Rattle.split_comp.proofs.Lying.{owner-end, owner-tree, owner-frond, owner-near, same-tree, start-at}
use Rattle.split_comp.proofs.Stretch.{side_at, side-place, IsShared, stretch-not}
use Rattle.split_comp.proofs.Noted.{chain-front, IsFront, front-start, front-below, below-front, front-before, cut-left}
use Rattle.split_comp.proofs.Renewed.{frond-parts, IsRenewed, place-cases, across, low-now, up-now, stack-new}

-- a dart of b that starts at u: no vertex below b is met on both sides of u
pub start-shared : (last : ℕ → ℕ) (done v : ℕ) (stack : List StackEntry) (rest : List Entry) → IsStack last done v stack rest → (r b u z i j : ℕ) → r < length stack → owner (item stack r) ≡ b → (item stack r).start ≡ u → v < z → b < z → u ≤ i → i < length stack → j < u
    → has_end z (entry (item stack i)) ≡ true → has_end z (entry (item stack j)) ≡ true → ⊥
start-shared last done v stack rest s r b u z i j r-in o e g k a l d x y =
    let p = s.ended.held i z l x g in
    let w = touching-tree last done v stack rest s z p.0 i p.1 l x in
    let y-in = touching-tree last done v stack rest s z p.0 j p.1 (omega (arith, d, a, l)) y in
    let u-le : u ≤ r = omega (arith, e, start-at last done v stack rest s r r-in) in
    elim (cases_lt r p.0) [
      | inl q ↦ omega (arith, owner-near last done v stack rest s p.0 r b p.1.within p.1.tree (omega (arith, y-in.0, d, u-le)) q o, p.1.low, k)
      | inr q ↦ elim (cases_eq p.0 r) [
        | inl f ↦ omega (arith, y-in.0, d, e, ap (λ (n : ℕ). (item stack n).start) f)
        | inr f ↦ elim (cases_Bool (item stack r).tree) [
          | inl t ↦ omega (arith, y-in.0, d, s.laid.laminar r p.0 r-in t (omega (arith, e, a, w.1)) (omega (arith, q, f)), e)
          | inr t ↦ omega (arith, s.laid.frond_start r r-in t, e, a, w.1, q, f)
        ]
      ]
    ]

-- the tree edge from v to w is pushed, and w is finished
module _ (last : ℕ → ℕ) (v w s h : ℕ) (old stack : List StackEntry) (rest : List Entry) (stands : IsStack last w v stack rest) (f : IsFront old stack h) (size : length stack ≡ h + 1) (tree : (item stack h).tree ≡ true) (up : (item stack h).up ≡ v) (low : (item stack h).low ≡ w) (start : (item stack h).start ≡ s) where
  up-at : (i : ℕ) → h ≤ i → i < length stack → (item stack i).up ≡ v
  up-at i a l = let e : i ≡ h = omega (arith, a, l, size) in ap (λ (n : ℕ). (item stack n).up) e ∙ up

  at-h : (i : ℕ) → h ≤ i → i < length stack → i ≡ h
  at-h i a l = omega (arith, a, l, size)

  -- an end behind v is w or behind it
  past-w : (z i : ℕ) → i < length stack → v < z → has_end z (entry (item stack i)) ≡ true → w ≤ z
  past-w z i l g e = let p = stands.ended.held i z l e g in omega (arith, stands.laid.finished p.0 p.1.within p.1.tree, p.1.low)

  -- an upper end above w is not behind v
  up-v : (i : ℕ) → i < length stack → (item stack i).up < w → (item stack i).up ≤ v
  up-v i l g = elim (cases_lt v (item stack i).up) [ inr a ↦ a | inl a ↦ absurd (omega (arith, g, past-w (item stack i).up i l a (up-end (item stack i).up (item stack i) refl))) ]

  top-below : IsFirstBelow stack s w
  top-below = record { place = h; tree_at = record { within = omega (arith, size); tree = tree; low = low }; starts = start }

  cut-back : (c : StackCut) → IsSoundCut s w old c → IsSoundAt s v w stack c
  cut-back c x = record {
    from = x.from;
    within = omega (arith, x.within, f.size, size);
    starts = front-start old stack h f c.low c.start x.starts;
    below = elim x.below [ inl e ↦ subst (IsFirstBelow stack s) (sym e) top-below | inr e ↦ front-below old stack h f s c.low e ];
    least = record {
      least = λ i a l. elim (cases_lt i h) [
        | inl g ↦ omega (arith, x.least.least i a (omega (arith, g, f.size)), ap (λ (y : StackEntry). y.up) (f.same i g))
        | inr g ↦ omega (arith, up-at i g l, c-v)
      ];
      place = x.least.place;
      from = x.least.from;
      within = omega (arith, x.least.within, f.size, size);
      attained = at-place;
    };
    up = c-v;
    across = crossing;
  }
    where
      at-place : (item stack x.least.place).up ≡ c.up
      at-place = ap (λ (y : StackEntry). y.up) (sym (f.same x.least.place (omega (arith, x.least.within, f.size)))) ∙ x.least.attained

      c-v : c.up ≤ v
      c-v = omega (arith, up-v x.least.place (omega (arith, x.least.within, f.size, size)) (omega (arith, at-place, x.up)), at-place)

      -- an entry in front that ends at w
      at-w : (z j : ℕ) → z ≡ w → j < c.start → has_end z (entry (item stack j)) ≡ true → z ≡ c.low
      at-w z j e l k = elim (cases_eq c.low w) [
        | inl q ↦ e ∙ sym q
        | inr q ↦ absurd (x.own q (record { place = j; within = l; end = subst (λ (y : StackEntry). has_end w (entry y) ≡ true) (sym (f.same j (omega (arith, l, x.within, f.size)))) (subst (λ (n : ℕ). has_end n (entry (item stack j)) ≡ true) e k) }))
      ]

      crossing : (z : ℕ) → v < z → IsAcross stack c.start z → z ≡ c.low
      crossing z g a = elim (cases_eq z w) [
        | inl e ↦ at-w z a.low e a.low_within a.low_end
        | inr n ↦ elim (cases_lt a.high h) [
          | inr k ↦ elim (item-ends z (item stack h) (subst (λ (i : ℕ). has_end z (entry (item stack i)) ≡ true) (at-h a.high k a.high_within) a.high_end)) [ inl e ↦ absurd (omega (arith, e, up, g)) | inr e ↦ absurd (n (e ∙ low)) ]
          | inl k ↦
              let l-in : a.low < h = omega (arith, a.low_within, x.within, f.size) in
              x.across z (omega (arith, n, past-w z a.low (omega (arith, l-in, size)) g a.low_end)) (record {
                low = a.low;
                low_within = a.low_within;
                low_end = subst (λ (y : StackEntry). has_end z (entry y) ≡ true) (sym (f.same a.low l-in)) a.low_end;
                high = a.high;
                high_from = a.high_from;
                high_within = omega (arith, k, f.size);
                high_end = subst (λ (y : StackEntry). has_end z (entry y) ≡ true) (sym (f.same a.high k)) a.high_end;
              })
        ]
      ]

  pub return-sound : (cuts : List StackCut) → AreSound s w old cuts → AreSoundAt s v w stack cuts
  return-sound cuts x = record {
    each = λ k l n. cut-back (cut cuts k) (x.each k l);
    up_within = λ k l. (cut-back (cut cuts k) (x.each k l)).up;
    chain = record {
      starts_rise = x.chain.starts_rise;
      ups_rise = x.chain.ups_rise;
      lows_fall = x.chain.lows_fall;
      met = λ k l. let m = x.chain.met k l in (m.0, m.1, m.2, omega (arith, m.3, f.size, size), ap (λ (y : StackEntry). y.up) (sym (f.same m.0 (omega (arith, m.3, f.size)))) ∙ m.4);
    };
  }

  -- where all upper ends from the start of a dart of b on are w or below: a side without the top
  return-not : IsTopped stack rest h → (t b r p : ℕ) → r < h → owner (item stack r) ≡ b → (item stack r).start ≡ t → IsTreeAt stack b p → p < h → v < b → ((y : ℕ) → v < y → y < b → IsBefore stack t y → ⊥) → ((i : ℕ) → t ≤ i → i < h → w ≤ (item stack i).up) → ⊥
  return-not topped t b r p r-h o e tree-p p-h b-v free ups =
      stretch-not last w v h stack rest stands (omega (arith, size)) topped test test-top r p r-p (omega (arith, p-h, size)) (yes r t-r r-h) (yes p (omega (arith, t-r, r-p)) p-h) b w only
    where
      r-in : r < length stack
      r-in = omega (arith, r-h, size)

      t-r : t ≤ r
      t-r = omega (arith, e, start-at last w v stack rest stands r r-in)

      r-p : r < p
      r-p =
          let k = touching-tree last w v stack rest stands b p r tree-p r-in (subst (λ (z : ℕ). has_end z (entry (item stack r)) ≡ true) o (owner-end (item stack r))) in
          elim (cases_eq r p) [
            | inl q ↦ absurd (omega (arith, owner-tree (item stack r) b o (subst (λ (z : ℕ). (item stack z).tree ≡ true) (sym q) tree-p.tree), ap (λ (z : ℕ). (item stack z).low) q, tree-p.low, (stands.laid.rises r r-in).0))
            | inr q ↦ omega (arith, k.1, q)
          ]

      test : ℕ → Bool
      test k = not (nat_lt k t) && nat_lt k h

      yes : (k : ℕ) → t ≤ k → k < h → test k ≡ true
      yes k a d = rw (le-ltb k t a, lt-ltb k h d) refl

      test-top : test h ≡ false
      test-top = rw (le-ltb h t (omega (arith, t-r, r-h)), le-ltb h h (omega arith)) refl

      parts : (k : ℕ) → test k ≡ true → (t ≤ k) × (k < h)
      parts k m = elim (cases_lt k t) [
        | inl a ↦ absurd (both_ways (test k) (rw (lt-ltb k t a) refl) m)
        | inr a ↦ elim (cases_lt k h) [ inl d ↦ (a, d) | inr d ↦ absurd (both_ways (test k) (rw (le-ltb k t a, le-ltb k h d) refl) m) ]
      ]

      out : (k : ℕ) → k < length stack → test k ≡ false → (k < t) ⊎ (k ≡ h)
      out k l m = elim (cases_lt k t) [
        | inl a ↦ inl a
        | inr a ↦ elim (cases_lt k h) [ inl d ↦ absurd (both_ways (test k) m (yes k a d)) | inr d ↦ inr (omega (arith, d, l, size)) ]
      ]

      only : (z : ℕ) → IsShared stack rest (side_at stack test) z → (z ≡ b) ⊎ (z ≡ w)
      only z m =
          let i = parts m.place (sym (side-place stack rest stands.left.is_family test m.place m.within) ∙ m.on) in
          let g : w ≤ z = elim (item-ends z (item stack m.place) m.end) [ inl q ↦ omega (arith, q, ups m.place i.0 i.1) | inr q ↦ omega (arith, q, ups m.place i.0 i.1, (stands.laid.rises m.place m.within).0) ] in
          elim m.other [
            | inr q ↦ absurd (both_ways (touches rest z) (stands.left.free z g) q)
            | inl j ↦ elim (out j.0 j.1 (sym (side-place stack rest stands.left.is_family test j.0 j.1) ∙ j.2)) [
              | inr q ↦ elim (item-ends z (item stack h) (subst (λ (n : ℕ). has_end z (entry (item stack n)) ≡ true) q j.3)) [ inl k ↦ absurd (omega (arith, k, up, g, stands.left.ahead)) | inr k ↦ inr (k ∙ low) ]
              | inl q ↦ elim (cases_eq z b) [
                | inl k ↦ inl k
                | inr k ↦ elim (cases_lt z b) [
                  | inl d ↦ absurd (free z (omega (arith, g, stands.left.ahead)) d (record { place = j.0; within = q; end = j.3 }))
                  | inr d ↦ absurd (start-shared last w v stack rest stands r b t z m.place j.0 r-in o e (omega (arith, g, stands.left.ahead)) (omega (arith, d, k)) i.0 m.within q m.end j.3)
                ]
              ]
            ]
          ]

  pub return-complete : IsTopped stack rest h → (cuts : List StackCut) → AreComplete s w old cuts → AreCompleteAt s v w stack cuts
  return-complete topped cuts complete = λ t a b wanted below le not-stale. answer t a b wanted below le not-stale
    where
      b-v : (b : ℕ) → IsFirstBelow stack s b → v < b
      b-v b x = omega (arith, stands.laid.finished x.place x.tree_at.within x.tree_at.tree, x.tree_at.low, stands.left.ahead)

      answer : (t a b : ℕ) → IsWanted s stack t a b → IsFirstBelow stack s b → a ≤ v → (a ≡ v → b ≡ w → ⊥) → Contains cuts (record { start = t; up = a; low = b })
      answer t a b x below le not-stale =
          let l = least-in stack t h (omega (arith, t-r, r-h)) in
          elim (cases_lt l.0 w) [
            | inl g ↦
                let l-v : l.0 ≤ v = omega (arith, l.1.attained, up-v l.1.place (omega (arith, l.1.within, size)) (omega (arith, g, l.1.attained))) in
                let same : a ≡ l.0 = least-same stack t a l.0 x.least (record { least = λ i m n. elim (cases_lt i h) [ inl k ↦ l.1.least i m k | inr k ↦ omega (arith, up-at i k n, l-v) ]; place = l.1.place; from = l.1.from; within = omega (arith, l.1.within, size); attained = l.1.attained }) in
                subst (λ (k : ℕ). Contains cuts (record { start = t; up = k; low = b })) (sym same) (complete t l.0 b (record {
                  from = x.from;
                  starts = let e = sym (f.same r r-h) in record { place = r; within = omega (arith, r-h, f.size); owned = subst (λ (y : StackEntry). owner y ≡ b) e x.starts.owned; starts = subst (λ (y : StackEntry). y.start ≡ t) e x.starts.starts };
                  least = record { least = λ i m n. omega (arith, l.1.least i m (omega (arith, n, f.size)), ap (λ (y : StackEntry). y.up) (f.same i (omega (arith, n, f.size)))); place = l.1.place; from = l.1.from; within = omega (arith, l.1.within, f.size); attained = ap (λ (y : StackEntry). y.up) (f.same l.1.place l.1.within) ∙ l.1.attained };
                  free = λ y c d m. x.free y (omega (arith, c, same)) d (front-before old stack h f t y (omega (arith, t-r, r-h)) m);
                }) old-below g)
            | inr g ↦
                let same : a ≡ v = least-same stack t a v x.least (record { least = λ i m n. elim (cases_lt i h) [ inl k ↦ omega (arith, l.1.least i m k, g, stands.left.ahead) | inr k ↦ omega (arith, up-at i k n) ]; place = h; from = omega (arith, t-r, r-h); within = omega (arith, size); attained = up }) in
                elim (cases_eq below.place h) [
                  | inl k ↦ absurd (not-stale same (sym below.tree_at.low ∙ (ap (λ (q : ℕ). (item stack q).low) k ∙ low)))
                  | inr k ↦ absurd (return-not topped t b r below.place r-h x.starts.owned x.starts.starts below.tree_at (omega (arith, k, below.tree_at.within, size)) (b-v b below) (λ y c d m. x.free y (omega (arith, c, same)) d m) (λ i m n. omega (arith, l.1.least i m n, g)))
                ]
          ]
        where
          r : ℕ
          r = x.starts.place

          r-h : x.starts.place < h
          r-h = elim (cases_eq x.starts.place h) [
            | inl k ↦ absurd (omega (arith, b-v b below, owner-tree (item stack x.starts.place) b x.starts.owned (subst (λ (q : ℕ). (item stack q).tree ≡ true) (sym k) tree), ap (λ (q : ℕ). (item stack q).up) k, up))
            | inr k ↦ omega (arith, k, x.starts.within, size)
          ]

          t-r : t ≤ x.starts.place
          t-r = omega (arith, x.starts.starts, start-at last w v stack rest stands x.starts.place x.starts.within)

          old-below : (b ≡ w) ⊎ IsFirstBelow old s b
          old-below = elim (cases_lt below.place h) [
            | inl k ↦ inr (below-front old stack h f s b below k)
            | inr k ↦ inl (sym below.tree_at.low ∙ (ap (λ (q : ℕ). (item stack q).low) (at-h below.place k below.tree_at.within) ∙ low))
          ]

-- the last cut is dropped
pub drop-sound : (s v w : ℕ) (stack : List StackEntry) (cuts : List StackCut) (c : StackCut) → AreSoundAt s v w stack (cuts ++ c ∷ []) → AreSoundAt s v w stack cuts
drop-sound s v w stack cuts c x = record {
  each = λ k l n. subst (IsSoundAt s v w stack) (at k l) (x.each k (more k l) (λ e g. n (ap (λ (y : StackCut). y.up) (sym (at k l)) ∙ e) (ap (λ (y : StackCut). y.low) (sym (at k l)) ∙ g)));
  up_within = λ k l. omega (arith, x.up_within k (more k l), ap (λ (y : StackCut). y.up) (at k l));
  chain = chain-front stack cuts (c ∷ []) x.chain;
}
  where
    more : (k : ℕ) → k < length cuts → k < length (cuts ++ c ∷ [])
    more k l = omega (arith, l, length-append cuts (c ∷ []))

    at : (k : ℕ) → k < length cuts → cut (cuts ++ c ∷ []) k ≡ cut cuts k
    at k l = cut-left cuts (c ∷ []) k l

pub stale-complete : (s v w : ℕ) (stack : List StackEntry) (cuts : List StackCut) (c : StackCut) → c.up ≡ v → c.low ≡ w → AreCompleteAt s v w stack (cuts ++ c ∷ []) → AreCompleteAt s v w stack cuts
stale-complete s v w stack cuts c e g x = λ t a b y below le n. elim (Contains-push_cases cuts c (record { start = t; up = a; low = b }) (x t a b y below le n)) [
  | inl k ↦ k
  | inr k ↦ absurd (n (ap (λ (q : StackCut). q.up) (sym k) ∙ e) (ap (λ (q : StackCut). q.low) (sym k) ∙ g))
]

-- the search goes on at v, with its first dart on top: cuts before which v is met are dropped
module _ (last : ℕ → ℕ) (done v s h : ℕ) (stack : List StackEntry) (rest : List Entry) (kept popped : List StackCut) (back : IsReturned last done v s h stack rest) where
  abbrev w : ℕ
  w = (item stack h).low

  pub kill-sound : AreSoundAt s v w stack (kept ++ popped) → ((k : ℕ) → k < length (kept ++ popped) → (cut (kept ++ popped) k).up ≡ v → ⊥) → ((k : ℕ) → k < length kept → IsBefore stack (cut kept k).start v → ⊥) → AreSound s v stack kept
  kill-sound x none own = record {
    each = λ k l.
        let more : k < length (kept ++ popped) = omega (arith, l, length-append kept popped) in
        let y : IsSoundAt s v w stack (cut kept k) = subst (IsSoundAt s v w stack) (cut-left kept popped k l) (x.each k more (λ e g. none k more e)) in
        record {
          from = y.from;
          within = y.within;
          starts = y.starts;
          below = inr y.below;
          least = y.least;
          up = less k l more y.up;
          across = y.across;
          own = λ n b. own k l b;
        };
    chain = chain-front stack kept popped x.chain;
  }
    where
      less : (k : ℕ) → (l : k < length kept) → k < length (kept ++ popped) → (cut kept k).up ≤ v → (cut kept k).up < v
      less k l more a = elim (cases_eq (cut kept k).up v) [ inl e ↦ absurd (none k more (ap (λ (q : StackCut). q.up) (cut-left kept popped k l) ∙ e)) | inr n ↦ omega (arith, a, n) ]

  pub kill-complete : (start : ℕ → ℕ) → v ≢ 0 → AreFrames last v start stack → start v ≡ s → AreCompleteAt s v w stack (kept ++ popped) → ((k : ℕ) → k < length popped → IsBefore stack (cut popped k).start v) → AreComplete s v stack kept
  kill-complete start n f e x behind = λ t a b y below less. elim below [
    | inl q ↦ absurd (none t y.starts.place y.starts.within y.from (y.starts.owned ∙ q) y.starts.starts)
    | inr q ↦ elim (Contains-append_cases kept popped (record { start = t; up = a; low = b }) (x t a b y q (omega (arith, less)) (λ i k. omega (arith, i, less)))) [
      | inl k ↦ k
      | inr k ↦
          let p = place-of popped (record { start = t; up = a; low = b }) no_cut k in
          absurd (y.free v less (omega (arith, back.stands.laid.finished q.place q.tree_at.within q.tree_at.tree, q.tree_at.low, back.stands.left.ahead)) (subst (λ (i : ℕ). IsBefore stack i v) (ap (λ (c : StackCut). c.start) p.2) (behind p.0 p.1)))
    ]
  ]
    where
      -- the first dart of v is the only one
      none : (t r : ℕ) → r < length stack → s < t → owner (item stack r) ≡ v → (item stack r).start ≡ t → ⊥
      none t r l a o g =
          let low : (v ≤ (item stack r).low) × ((item stack r).low < last v) = elim (cases_Bool (item stack r).tree) [
            | inl k ↦ let u = owner-tree (item stack r) v o k in (omega (arith, u, (back.stands.laid.rises r l).0), subst (λ (z : ℕ). (item stack r).low < last z) u (back.stands.laid.rises r l).1)
            | inr k ↦ let u = owner-frond (item stack r) v o k in (omega (arith, u), omega (arith, u, back.stands.above v))
          ] in
          elim (cases_lt r s) [
            | inl k ↦ elim (f.before v r n (omega arith, back.stands.above v) (omega (arith, k, e))) [ inl i ↦ omega (arith, i, low.0) | inr i ↦ omega (arith, i, low.1) ]
            | inr k ↦ elim (cases_eq r h) [
              | inl i ↦ omega (arith, a, g, ap (λ (z : ℕ). (item stack z).start) i, back.start)
              | inr i ↦
                  let d = owner-near last done v stack rest back.stands h r v (omega (arith, back.size)) back.tree (omega (arith, k, back.start)) (omega (arith, l, back.size, i)) o in
                  omega (arith, d, back.stands.laid.finished h (omega (arith, back.size)) back.tree, back.stands.left.ahead)
            ]
          ]

-- a side on top is replaced by a tree edge from v to b
module _ (last : ℕ → ℕ) (done v k j h : ℕ) (keeps : StackEntry → Bool) (side : ℕ → Bool) (x : StackEntry) (old new : List StackEntry) (rest : List Entry) (r : IsRenewed last done v k j keeps side x old new rest) (x-up : x.up ≡ v) (x-tree : x.tree ≡ true)
    (size : length old ≡ h + 1) (top-tree : (item old h).tree ≡ true) (top-up : (item old h).up ≡ v) (ups : (o : ℕ) → k ≤ o → o < length old → v ≤ (item old o).up) where
  abbrev wl : ℕ
  wl = (item old h).low

  abbrev b : ℕ
  b = x.low

  k-j : k ≤ j
  k-j = elim r.few [ inl e ↦ omega (arith, e) | inr e ↦ omega (arith, e) ]

  -- the old tree edge of b
  old-b : (p : ℕ) × IsTreeAt old b p × (k ≤ p) × ((item old p).start ≡ x.start)
  old-b = elim r.shape [ inl s ↦ (s.1.0, s.1.1, s.1.2, s.1.3) | inr s ↦ absurd (both_ways x.tree s.0 x-tree) ]

  new-top : IsTreeAt new b j
  new-top = record { within = omega (arith, r.size); tree = ap (λ (y : StackEntry). y.tree) r.top ∙ x-tree; low = ap (λ (y : StackEntry). y.low) r.top }

  pub replaced-cut : (s : ℕ) → x.start ≡ s → (c : StackCut) → c.start < k → ((o : ℕ) → o < length old → owner (item old o) ≡ c.low → (item old o).start ≡ c.start → o < k) → IsSoundAt s v wl old c → IsSoundAt s v b new c
  replaced-cut s start c less darts y = record {
    from = y.from;
    within = omega (arith, less, k-j, r.size);
    starts = let e = sym (r.same y.starts.place r-k) in record { place = y.starts.place; within = omega (arith, r-k, k-j, r.size); owned = subst (λ (i : StackEntry). owner i ≡ c.low) e y.starts.owned; starts = subst (λ (i : StackEntry). i.start ≡ c.start) e y.starts.starts };
    below = below;
    least = least;
    up = y.up;
    across = crossing;
  }
    where
      r-k : y.starts.place < k
      r-k = darts y.starts.place y.starts.within y.starts.owned y.starts.starts

      c-v : v < c.low
      c-v = omega (arith, r.stands.laid.finished y.below.place y.below.tree_at.within y.below.tree_at.tree, y.below.tree_at.low, r.stands.left.ahead)

      below : IsFirstBelow new s c.low
      below = elim (cases_lt y.below.place k) [
        | inl a ↦ let e = sym (r.same y.below.place a) in record { place = y.below.place; tree_at = record { within = omega (arith, a, k-j, r.size); tree = subst (λ (i : StackEntry). i.tree ≡ true) e y.below.tree_at.tree; low = subst (λ (i : StackEntry). i.low ≡ c.low) e y.below.tree_at.low }; starts = subst (λ (i : StackEntry). i.start ≡ s) e y.below.starts }
        | inr a ↦
            let z = across last done v k j keeps side x old new rest r y.starts.place y.below.place c.low r-k a y.below.tree_at.within (r.trees (item old y.below.place) y.below.tree_at.tree)
            (subst (λ (q : ℕ). has_end q (entry (item old y.starts.place)) ≡ true) y.starts.owned (owner-end (item old y.starts.place))) (low-end c.low (item old y.below.place) (sym y.below.tree_at.low)) in
            elim z [
              | inl e ↦ absurd (omega (arith, e, x-up, c-v))
              | inr e ↦ record { place = j; tree_at = subst (λ (q : ℕ). IsTreeAt new q j) (sym e) new-top; starts = ap (λ (i : StackEntry). i.start) r.top ∙ start }
            ]
      ]

      least : IsLeastUp new c.start c.up
      least = elim (cases_lt y.least.place k) [
        | inl a ↦ record { least = low; place = y.least.place; from = y.least.from; within = omega (arith, a, k-j, r.size); attained = ap (λ (i : StackEntry). i.up) (r.same y.least.place a) ∙ y.least.attained }
        | inr a ↦ record { least = low; place = j; from = omega (arith, less, k-j); within = omega (arith, r.size); attained = ap (λ (i : StackEntry). i.up) r.top ∙ (x-up ∙ omega (arith, y.up, y.least.attained, ups y.least.place a y.least.within)) }
      ]
        where
          low : (i : ℕ) → c.start ≤ i → i < length new → c.up ≤ (item new i).up
          low i m n = elim (cases_lt i k) [
            | inl a ↦ omega (arith, y.least.least i m (omega (arith, a, r.within)), ap (λ (q : StackEntry). q.up) (r.same i a))
            | inr a ↦ omega (arith, up-now last done v k j keeps side x old new rest r i a n, x-up, y.up)
          ]

      crossing : (z : ℕ) → v < z → IsAcross new c.start z → z ≡ c.low
      crossing z g a =
          let l-k : a.low < k = omega (arith, a.low_within, less) in
          let l-end = subst (λ (i : StackEntry). has_end z (entry i) ≡ true) (r.same a.low l-k) a.low_end in
          elim (cases_lt a.high k) [
            | inl m ↦ y.across z g (record { low = a.low; low_within = a.low_within; low_end = l-end; high = a.high; high_from = a.high_from; high_within = omega (arith, m, r.within); high_end = subst (λ (i : StackEntry). has_end z (entry i) ≡ true) (r.same a.high m) a.high_end })
            | inr m ↦
                let p = old-b in
                let e : z ≡ b = elim (item-ends z (item new a.high) a.high_end) [
                  | inl q ↦ absurd (omega (arith, q, up-now last done v k j keeps side x old new rest r a.high m a.high_within, x-up, g))
                  | inr q ↦ q ∙ low-now last done v k j keeps side x old new rest r a.high m a.high_within
                ] in
                y.across z g (record { low = a.low; low_within = a.low_within; low_end = l-end; high = p.0; high_from = omega (arith, p.2, less); high_within = p.1.within; high_end = low-end z (item old p.0) (e ∙ sym p.1.low) })
          ]

  pub replaced-sound : (s : ℕ) → x.start ≡ s → (cuts : List StackCut) → ((c : ℕ) → c < length cuts → (cut cuts c).start ≤ k) → ((c : ℕ) → c < length cuts → (cut cuts c).start ≡ k → ((cut cuts c).up ≡ v) × ((cut cuts c).low ≡ b))
      → ((c : ℕ) → c < length cuts → (cut cuts c).up ≡ v → (cut cuts c).low ≡ wl → b ≡ wl)
      → ((c o : ℕ) → c < length cuts → (cut cuts c).start < k → o < length old → owner (item old o) ≡ (cut cuts c).low → (item old o).start ≡ (cut cuts c).start → o < k)
      → AreSoundAt s v wl old cuts → AreSoundAt s v b new cuts
  replaced-sound s start cuts within at-k stale darts y = record {
    each = λ c l n.
        let less : (cut cuts c).start < k = elim (cases_eq (cut cuts c).start k) [ inl e ↦ absurd (n (at-k c l e).0 (at-k c l e).1) | inr m ↦ omega (arith, m, within c l) ] in
        replaced-cut s start (cut cuts c) less (λ o m p q. darts c o l less m p q) (y.each c l (λ e g. n e (g ∙ sym (stale c l e g))));
    up_within = y.up_within;
    chain = record {
      starts_rise = y.chain.starts_rise;
      ups_rise = y.chain.ups_rise;
      lows_fall = y.chain.lows_fall;
      met = λ c l. let m = y.chain.met c l in let i-k : m.0 < k = omega (arith, m.2, within (c + 1) l) in (m.0, m.1, m.2, omega (arith, i-k, k-j, r.size), ap (λ (i : StackEntry). i.up) (r.same m.0 i-k) ∙ m.4);
    };
  }

  pub replaced-complete : (s : ℕ) → x.start ≡ s → (cuts more : List StackCut) → ((c : StackCut) → Contains more c → Contains cuts c ⊎ (k ≤ c.start)) → AreCompleteAt s v wl old more → AreCompleteAt s v b new cuts
  replaced-complete s start cuts more sub y = λ t a b' wanted below le n. answer t a b' wanted below le n
    where
      answer : (t a b' : ℕ) → IsWanted s new t a b' → IsFirstBelow new s b' → a ≤ v → (a ≡ v → b' ≡ b → ⊥) → Contains cuts (record { start = t; up = a; low = b' })
      answer t a b' wanted below le n = elim (place-cases last done v k j keeps side x old new rest r wanted.starts.place wanted.starts.within) [
        | inr o ↦ absurd (elim o [
          | inl m ↦
              let q = low-now last done v k j keeps side x old new rest r wanted.starts.place m.0 wanted.starts.within in
              let frond : (item new wanted.starts.place).tree ≡ false = (frond-parts x.up x.low (item new wanted.starts.place) (r.mid wanted.starts.place m.0 m.1).0).0 in
              let tk : t ≡ k = sym wanted.starts.starts ∙ (r.mid wanted.starts.place m.0 m.1).1 in
              n (omega (arith, le, wanted.least.attained, up-now last done v k j keeps side x old new rest r wanted.least.place (omega (arith, wanted.least.from, tk)) wanted.least.within, x-up)) (sym (owner-frond (item new wanted.starts.place) b' wanted.starts.owned frond) ∙ q)
          | inr e ↦
              let tr : (item new wanted.starts.place).tree ≡ true = ap (λ (i : ℕ). (item new i).tree) e ∙ new-top.tree in
              omega (arith, b'-v below, owner-tree (item new wanted.starts.place) b' wanted.starts.owned tr, ap (λ (i : ℕ). (item new i).up) e, ap (λ (i : StackEntry). i.up) r.top, x-up)
        ])
        | inl r-k ↦ elim (sub (record { start = t; up = a; low = b' }) (y t a b' (was r-k) (was-below below) le (λ e g. not-stale below e g))) [
          | inl c ↦ c
          | inr c ↦ absurd (omega (arith, c, t-r, r-k))
        ]
      ]
        where
          stands-new : IsStack last done v new rest
          stands-new = stack-new last done v k j keeps side x old new rest r

          t-r : t ≤ wanted.starts.place
          t-r = omega (arith, wanted.starts.starts, start-at last done v new rest stands-new wanted.starts.place wanted.starts.within)

          b'-v : IsFirstBelow new s b' → v < b'
          b'-v q = omega (arith, stands-new.laid.finished q.place q.tree_at.within q.tree_at.tree, q.tree_at.low, r.stands.left.ahead)

          was : wanted.starts.place < k → IsWanted s old t a b'
          was r-k = record {
            from = wanted.from;
            starts = let e = r.same wanted.starts.place r-k in record { place = wanted.starts.place; within = omega (arith, r-k, r.within); owned = subst (λ (i : StackEntry). owner i ≡ b') e wanted.starts.owned; starts = subst (λ (i : StackEntry). i.start ≡ t) e wanted.starts.starts };
            least = least;
            free = λ z c d m. wanted.free z c d (record { place = m.place; within = m.within; end = subst (λ (i : StackEntry). has_end z (entry i) ≡ true) (sym (r.same m.place (omega (arith, m.within, t-r, r-k)))) m.end });
          }
            where
              low : (i : ℕ) → t ≤ i → i < length old → a ≤ (item old i).up
              low i m l = elim (cases_lt i k) [
                | inl c ↦ omega (arith, wanted.least.least i m (omega (arith, c, k-j, r.size)), ap (λ (q : StackEntry). q.up) (r.same i c))
                | inr c ↦ omega (arith, le, ups i c l)
              ]

              least : IsLeastUp old t a
              least = elim (cases_lt wanted.least.place k) [
                | inl c ↦ record { least = low; place = wanted.least.place; from = wanted.least.from; within = omega (arith, c, r.within); attained = ap (λ (q : StackEntry). q.up) (sym (r.same wanted.least.place c)) ∙ wanted.least.attained }
                | inr c ↦ record { least = low; place = h; from = omega (arith, t-r, r-k, r.within, size); within = omega (arith, size); attained = omega (arith, top-up, x-up, up-now last done v k j keeps side x old new rest r wanted.least.place c wanted.least.within, wanted.least.attained) }
              ]

          -- the place of a tree edge now
          tree-place : (q : IsFirstBelow new s b') → (q.place < k) ⊎ (b' ≡ b)
          tree-place q = elim (cases_lt q.place k) [
            | inl m ↦ inl m
            | inr m ↦ inr (sym q.tree_at.low ∙ low-now last done v k j keeps side x old new rest r q.place m q.tree_at.within)
          ]

          was-below : IsFirstBelow new s b' → IsFirstBelow old s b'
          was-below q = elim (tree-place q) [
            | inl m ↦ let e = r.same q.place m in record { place = q.place; tree_at = record { within = omega (arith, m, r.within); tree = subst (λ (i : StackEntry). i.tree ≡ true) e q.tree_at.tree; low = subst (λ (i : StackEntry). i.low ≡ b') e q.tree_at.low }; starts = subst (λ (i : StackEntry). i.start ≡ s) e q.starts }
            | inr m ↦ let p = old-b in record { place = p.0; tree_at = subst (λ (z : ℕ). IsTreeAt old z p.0) (sym m) p.1; starts = p.3 ∙ start }
          ]

          not-stale : IsFirstBelow new s b' → a ≡ v → b' ≡ wl → ⊥
          not-stale q e g = elim (tree-place q) [
            | inr m ↦ n e m
            | inl m ↦
                let f = r.same q.place m in
                let same = same-tree last done v old rest r.stands wl q.place h (record { within = omega (arith, m, r.within); tree = subst (λ (i : StackEntry). i.tree ≡ true) f q.tree_at.tree; low = subst (λ (i : StackEntry). i.low ≡ b') f q.tree_at.low ∙ g }) (record { within = omega (arith, size); tree = top-tree; low = refl }) in
                omega (arith, same, m, r.within, size)
          ]
