-- The pass has returned from a vertex, and a side on top of the stack is replaced by a tree edge: it is as before, with fewer entries.
use Rattle.std.proofs.Common.{◌≡◌, ◌≢◌, ℕ, ◌+◌, ◌<◌, ◌≤◌, ◌⊎◌, inl, inr, Bool, true, false, List, length, take, drop, sym, ap, ◌∙◌, subst, arith}
use Rattle.std.proofs.lemmas.Bool.{cases_Bool, cases_lt, cases_eq, both_ways}
use Rattle.multigraph.specs.Graph.{Multigraph}
use Rattle.pair_split.specs.Family.{Entry}
use Rattle.pair_split.specs.declared.splitting.Finished.{Finished}
use Rattle.split_comp.specs.declared.items.StackEntry.{StackEntry}
use Rattle.split_comp.specs.declared.items.StackCut.{StackCut}
use Rattle.split_comp.specs.Stack.{item, family, owner, IsTreeAt, IsStack, IsSorted, IsReturned, AreFirst}
use Rattle.split_comp.specs.Palm.{tree_dart, tree_degree, tree_parent, IsFrondTo}
use Rattle.split_comp.specs.Walk.{IsOnPath}
use Rattle.split_comp.specs.Cuts.{cut, AreSoundAt, AreCompleteAt}
use Rattle.split_comp.specs.Sides.{is_frond_to, IsLeast}
use Rattle.split_comp.specs.Pass.{NumberedTree, IsNumbered, PassState, IsHeld, at_place, IsRaised, IsBack}
use Rattle.split_comp.proofs.Renewed.{IsRenewed, frond-parts, low-now, up-now, stack-new}
use Rattle.split_comp.proofs.RenewedPath.{frames-new, reached-new}
use Rattle.split_comp.proofs.Lying.{frond-owner}
use Rattle.split_comp.proofs.LeastSides.{split_off-topped}
use Rattle.split_comp.proofs.Alike.{alike-take}
use Rattle.split_comp.proofs.Fronted.{below-kept}

-- no frond is parallel to the last entry
pub back-returned : (g : Multigraph) (t : NumberedTree) (w : ℕ) (s : PassState) (b : IsBack g t w s) → IsReturned b.raised.palm.last s.done s.at (at_place s.start w) b.raised.height s.items b.raised.rest
back-returned g t w s b = let a = b.raised.atop in record { stands = a.stands; size = a.size; tree = a.tree; up = a.up; start = a.start; sorted = a.sorted; topped = a.topped; behind = a.behind; no_frond = b.no_frond }

module _ (g : Multigraph) (t : NumberedTree) (numbered : IsNumbered g t) (w : ℕ) (s : PassState) (b : IsRaised g t w s) where
  abbrev last : ℕ → ℕ
  last = b.palm.last

  pub h-in : b.height < length s.items
  h-in = omega (arith, b.atop.size)

  -- w lies below v
  pub w-below : (s.at < w) × (w < last s.at)
  w-below =
      let n : w ≢ 0 = λ e. omega (arith, e, b.from, b.walk.current) in
      let p = b.palm.parent_less w b.inside n in
      (omega (arith, p.0, b.parent), subst (λ (k : ℕ). w < last k) b.parent p.1)

  -- entries from the start of w on lie below the vertices of the path
  pub below-path : (z i : ℕ) → z ≢ 0 → IsOnPath last s.at z → at_place s.start w ≤ i → i < length s.items → at_place s.start z ≤ i
  below-path z i n p a l = elim (cases_lt i (at_place s.start z)) [
    | inr k ↦ k
    | inl k ↦
        let c = b.child_within i a l in
        let d = b.palm.nested z s.at p.0 p.1 in
        let e = b.palm.nested s.at w (omega (arith, w-below.0)) w-below.1 in
        absurd (elim (b.frames.before z i n p k) [ inl q ↦ omega (arith, q, c.0, w-below.0, p.0) | inr q ↦ omega (arith, q, c.1, d, e) ])
  ]

  module _ (k j : ℕ) (keeps : StackEntry → Bool) (side : ℕ → Bool) (x : StackEntry) (items : List StackEntry) (first : List ℕ) (total : ℕ) (parts : List Finished) (cuts : List StackCut)
      (r : IsRenewed last s.done s.at k j keeps side x s.items items b.rest) (least : IsLeast s.items b.rest side) (x-tree : x.tree ≡ true) (x-up : x.up ≡ s.at) (x-start : x.start ≡ at_place s.start w)
      (ups : (o : ℕ) → k ≤ o → o < length s.items → s.at ≤ (item s.items o).up) where
    abbrev now : PassState
    now = record s { items = items; first = first; total = total; parts = parts; cuts = cuts }

    k-j : k ≤ j
    k-j = elim r.few [ inl e ↦ omega (arith, e) | inr e ↦ omega (arith, e) ]

    s-k : at_place s.start w < k
    s-k = elim r.shape [ inl e ↦ omega (arith, e.1.4, x-start) | inr e ↦ absurd (both_ways x.tree e.0 x-tree) ]

    k-h : k ≤ b.height
    k-h = omega (arith, r.within, b.atop.size)

    old-low : (p : ℕ) × IsTreeAt s.items x.low p × (k ≤ p)
    old-low = elim r.shape [ inl e ↦ (e.1.0, e.1.1, e.1.2) | inr e ↦ absurd (both_ways x.tree e.0 x-tree) ]

    low-v : s.at < x.low
    low-v = let p = old-low in omega (arith, b.atop.stands.laid.finished p.0 p.1.within p.1.tree, p.1.low, b.walk.current)

    -- a place in front of the last one: in front of the side, or the frond that stays
    mid-owner : (q : ℕ) → k ≤ q → q < j → owner (item items q) ≡ x.low
    mid-owner q a l = frond-owner (item items q) (frond-parts x.up x.low (item items q) (r.mid q a l).0).0 ∙ (frond-parts x.up x.low (item items q) (r.mid q a l).0).2

    front-owner : (q : ℕ) → q < j → owner (item items q) ≡ s.at → q < k
    front-owner q l o = elim (cases_lt q k) [ inl a ↦ a | inr a ↦ absurd (omega (arith, low-v, o, mid-owner q a l)) ]

    starts : (z : ℕ) → z ≢ 0 → IsOnPath last s.at z → at_place s.start z ≤ k
    starts z n p = below-path z k n p (omega (arith, s-k)) (omega (arith, r.within))

    fewer-lengths : IsHeld g t.vertex now b.rest → total ≤ s.total → length (family items b.rest) ≤ length (family s.items b.rest)
    fewer-lengths held le = omega (arith, le, held.total, b.held.total)

    sorted-now : length (family items b.rest) ≤ length (family s.items b.rest) → IsSorted s.at j items b.rest
    sorted-now fewer = record {
      reach_rises = λ u q i l m e a d c. elim (cases_lt q k) [
        | inl q-k ↦
            let w' = b.atop.sorted.reach_rises u q i l (omega (arith, q-k, k-h)) (ow u (omega (arith, l, q-k)) ∙ (e ∙ sym (ow q q-k))) (subst (λ (y : StackEntry). y.start ≤ i) (r.same q q-k) a) d (subst (λ (y : StackEntry). y.up ≤ s.at) (r.same i (omega (arith, d, q-k))) c) in
            (w'.0, subst (λ (y : StackEntry). y.start ≤ w'.0) (sym (r.same u (omega (arith, l, q-k)))) w'.1, w'.2, omega (arith, w'.3, up-same w'.0 (omega (arith, w'.2, l, q-k)), up-same i (omega (arith, d, q-k))))
        | inr q-k ↦ at-mid u q i l m q-k e a d
      ];
      frond_rises = λ u q i four l m e f c a d. elim (cases_lt q k) [
        | inl q-k ↦ omega (
          arith,
          up-same u (omega (arith, l, q-k)),
          up-same i (omega (arith, d, q-k)),
          b.atop.sorted.frond_rises u q i (omega (arith, four, fewer)) l (omega (arith, q-k, k-h)) (ow u (omega (arith, l, q-k)) ∙ (e ∙ sym (ow q q-k)))
              (subst (λ (y : StackEntry). y.tree ≡ false) (r.same u (omega (arith, l, q-k))) f) (subst (λ (y : StackEntry). y.up ≤ s.at) (r.same u (omega (arith, l, q-k))) c) (subst (λ (y : StackEntry). y.start ≤ i) (r.same q q-k) a) d,
        )
        | inr q-k ↦
            let o = r.mid_old q q-k m in
            let z = old-mid q q-k m in
            let u-k : u < k = mid-front u q l m q-k in
            let i-q : i ≡ q = omega (arith, d, a, (r.mid q q-k m).1, q-k, m, few-j) in
            omega (
              arith,
              up-same u u-k,
              ap (λ (y : ℕ). (item items y).up) i-q,
              ap (λ (y : Entry). y.first) o.3,
              b.atop.sorted.frond_rises u o.0 o.0 (omega (arith, four, fewer)) (omega (arith, u-k, o.1)) z.0 (ow u u-k ∙ (e ∙ z.1))
                  (subst (λ (y : StackEntry). y.tree ≡ false) (r.same u u-k) f) (subst (λ (y : StackEntry). y.up ≤ s.at) (r.same u u-k) c) z.2 (omega arith),
            )
      ];
    }
      where
        few-j : j ≤ k + 1
        few-j = elim r.few [ inl e ↦ omega (arith, e) | inr e ↦ omega (arith, e) ]

        ow : (i : ℕ) → i < k → owner (item s.items i) ≡ owner (item items i)
        ow i l = ap (λ (y : StackEntry). owner y) (sym (r.same i l))

        up-same : (i : ℕ) → i < k → (item items i).up ≡ (item s.items i).up
        up-same i l = ap (λ (y : StackEntry). y.up) (r.same i l)

        mid-front : (u q : ℕ) → u < q → q < j → k ≤ q → u < k
        mid-front u q l m a = omega (arith, l, m, a, few-j)

        -- the frond that stays, as it was
        old-mid : (q : ℕ) → (a : k ≤ q) → (l : q < j) → ((r.mid_old q a l).0 < b.height) × (owner (item items q) ≡ owner (item s.items (r.mid_old q a l).0)) × ((item s.items (r.mid_old q a l).0).start ≤ (r.mid_old q a l).0)
        old-mid q a l =
            let o = r.mid_old q a l in
            let frond : (item s.items o.0).tree ≡ false = elim (cases_Bool (item s.items o.0).tree) [ inr f ↦ f | inl f ↦ absurd (both_ways (keeps (item s.items o.0)) o.4 (r.trees (item s.items o.0) f)) ] in
            let low : (item s.items o.0).low ≡ (item items q).low = ap (λ (y : Entry). y.second) o.3 in (
              elim (cases_eq o.0 b.height) [
                | inl e ↦ absurd (both_ways (item s.items o.0).tree frond (ap (λ (y : ℕ). (item s.items y).tree) e ∙ b.atop.tree))
                | inr n ↦ omega (arith, n, o.2, b.atop.size)
              ],
              frond-owner (item items q) (frond-parts x.up x.low (item items q) (r.mid q a l).0).0 ∙ (sym low ∙ sym (frond-owner (item s.items o.0) frond)),
              omega (arith, b.atop.stands.laid.frond_start o.0 o.2 frond),
            )

        at-mid : (u q i : ℕ) → u < q → q < j → k ≤ q → owner (item items u) ≡ owner (item items q) → (item items q).start ≤ i → i ≤ q → (y : ℕ) × ((item items u).start ≤ y) × (y ≤ u) × ((item items y).up ≤ (item items i).up)
        at-mid u q i l m a e c d =
            let o = r.mid_old q a m in
            let z = old-mid q a m in
            let u-k : u < k = mid-front u q l m a in
            let i-q : i ≡ q = omega (arith, d, c, (r.mid q a m).1, a, m, few-j) in
            let up-q : (item items i).up ≡ (item s.items o.0).up = ap (λ (y : ℕ). (item items y).up) i-q ∙ sym (ap (λ (y : Entry). y.first) o.3) in
            let up-v : (item items q).up ≡ s.at = (frond-parts x.up x.low (item items q) (r.mid q a m).0).1 ∙ x-up in
            let w' = b.atop.sorted.reach_rises u o.0 o.0 (omega (arith, u-k, o.1)) z.0 (ow u u-k ∙ (e ∙ z.1)) z.2 (omega arith) (omega (arith, up-v, ap (λ (y : Entry). y.first) o.3)) in
            (w'.0, subst (λ (y : StackEntry). y.start ≤ w'.0) (sym (r.same u u-k)) w'.1, w'.2, omega (arith, w'.3, up-same w'.0 (omega (arith, w'.2, u-k)), up-q))

    -- the pass is where it was
    pub raised-now : (held : IsHeld g t.vertex now b.rest) → total ≤ s.total → AreFirst g.vertex_count s.done first items → ((i : ℕ) → 4 ≤ total → i < j → is_frond_to s.at (item items j).low (item items i) ≡ true → i + 1 ≡ j)
        → ((y : ℕ) → y ≢ 0 → IsOnPath last w y → take (at_place s.base y) cuts ≡ take (at_place s.base y) s.cuts) → ((y : ℕ) → y ≢ 0 → IsOnPath last w y → at_place s.base y ≤ length cuts)
        → AreSoundAt (at_place s.start w) s.at x.low items (drop (at_place s.base w) cuts) → AreCompleteAt (at_place s.start w) s.at x.low items (drop (at_place s.base w) cuts)
        → ((c : ℕ) → c < length (drop (at_place s.base w) cuts) → s.at < (cut (drop (at_place s.base w) cuts) c).low)
        → IsRaised g t w now
    raised-now held le firsts fronds cuts-same cuts-within sound complete lows = record {
      cut_lows = lows;
      palm = b.palm;
      rest = b.rest;
      places = record { start = b.places.start; base = b.places.base; gone = b.places.gone };
      walk = b.walk;
      from = b.from;
      parent = b.parent;
      inside = b.inside;
      not_root = b.not_root;
      left = b.left;
      held = held;
      height = j;
      atop = record {
        stands = stands-now;
        size = r.size;
        tree = ap (λ (y : StackEntry). y.tree) r.top ∙ x-tree;
        up = ap (λ (y : StackEntry). y.up) r.top ∙ x-up;
        start = ap (λ (y : StackEntry). y.start) r.top ∙ x-start;
        sorted = sorted-now fewer;
        topped = split_off-topped last s.done s.at k j keeps side x s.items items b.rest r least;
        behind = behind;
      };
      fronds = fronds;
      frames = frames-new last s.done s.at k j keeps side x s.items items b.rest r (at_place s.start) (λ q z n p. omega (arith, x-up, p.0)) b.frames starts;
      child_start = b.child_start;
      place = b.place;
      last_gone = b.last_gone;
      place_in = b.place_in;
      last_tree = b.last_tree;
      last_far = b.last_far;
      child_within = λ i a l. elim (cases_lt i k) [
        | inl c ↦ subst (λ (y : StackEntry). (w ≤ y.low) × (y.low < last w)) (sym (r.same i c)) (b.child_within i a (omega (arith, c, r.within)))
        | inr c ↦ let p = old-low in subst (λ (y : ℕ). (w ≤ y) × (y < last w)) (p.1.low ∙ sym (low-now last s.done s.at k j keeps side x s.items items b.rest r i c l)) (b.child_within p.0 (omega (arith, s-k, p.2)) p.1.within)
      ];
      child_to = λ i a l u. elim (cases_lt i k) [
        | inl c ↦ subst (λ (y : StackEntry). IsFrondTo (tree_degree t.palm t.vertex) (tree_dart g t.palm t.vertex) last w y.up) (sym (r.same i c)) (b.child_to i a (omega (arith, c, r.within)) (subst (λ (y : StackEntry). y.up < s.at) (r.same i c) u))
        | inr c ↦ absurd (omega (arith, u, up-now last s.done s.at k j keeps side x s.items items b.rest r i c l, x-up))
      ];
      child_met = λ y f u.
          let i = b.child_met y f u in
          elim (cases_lt i.0 k) [
            | inl c ↦ (i.0, i.1, omega (arith, c, k-j, r.size), ap (λ (q : StackEntry). q.up) (r.same i.0 c) ∙ i.3)
            | inr c ↦ absurd (omega (arith, ups i.0 c i.2, i.3, u))
          ];
      reached = reached-new last s.done s.at k j keeps side x s.items items b.rest r (tree_dart g t.palm t.vertex) (at_place s.gone) (at_place s.start) b.frames starts b.reached;
      first = firsts;
      ahead = record {
        reach_ahead = λ u q i z p l o a d.
            let q-k = path-front u q p l o in
            let w' = b.ahead.reach_ahead u q i z p (omega (arith, q-k, k-h)) (ow q q-k ∙ o) a d in
            (w'.0, subst (λ (y : StackEntry). y.start ≤ w'.0) (sym (r.same q q-k)) w'.1, w'.2, omega (arith, w'.3, ap (λ (y : StackEntry). y.up) (r.same w'.0 (omega (arith, w'.2, q-k)))));
        frond_ahead = λ u q i four z p l o f a d.
            let q-k = path-front u q p l o in
            subst (λ (y : StackEntry). (y.up < (tree_dart g t.palm t.vertex u i).reach) ⊎ ((y.up ≡ (tree_dart g t.palm t.vertex u i).reach) × (1 ≤ (tree_dart g t.palm t.vertex u i).class))) (sym (r.same q q-k))
            (b.ahead.frond_ahead u q i (omega (arith, four, fewer)) z p (omega (arith, q-k, k-h)) (ow q q-k ∙ o) (subst (λ (y : StackEntry). y.tree ≡ false) (r.same q q-k) f) a d);
      };
      ahead_last = λ q l o.
          let q-k = front-owner q l o in
          let w' = b.ahead_last q (omega (arith, q-k, k-h)) (ow q q-k ∙ o) in
          (w'.0, subst (λ (y : StackEntry). y.start ≤ w'.0) (sym (r.same q q-k)) w'.1, w'.2, omega (arith, w'.3, ap (λ (y : StackEntry). y.up) (r.same w'.0 (omega (arith, w'.2, q-k)))));
      frond_last = λ q four l o f.
          let q-k = front-owner q l o in
          subst (λ (y : StackEntry). (y.up < (tree_dart g t.palm t.vertex s.at b.place).reach) ⊎ ((y.up ≡ (tree_dart g t.palm t.vertex s.at b.place).reach) × (1 ≤ (tree_dart g t.palm t.vertex s.at b.place).class))) (sym (r.same q q-k))
          (b.frond_last q (omega (arith, four, fewer)) (omega (arith, q-k, k-h)) (ow q q-k ∙ o) (subst (λ (y : StackEntry). y.tree ≡ false) (r.same q q-k) f));
      below = below-kept last (tree_parent t.palm t.vertex) w (at_place s.start) (at_place s.base) s.items items s.cuts cuts b.below
          (λ y z p. alike-take items s.items (at_place s.start y) (omega (arith, start-w y z p, s-k, k-j, r.size)) (omega (arith, start-w y z p, s-k, r.within)) (λ i l. r.same i (omega (arith, l, start-w y z p, s-k)))) cuts-same cuts-within;
      sound = subst (λ (y : ℕ). AreSoundAt (at_place s.start w) s.at y items (drop (at_place s.base w) cuts)) (sym (ap (λ (y : StackEntry). y.low) r.top)) sound;
      complete = subst (λ (y : ℕ). AreCompleteAt (at_place s.start w) s.at y items (drop (at_place s.base w) cuts)) (sym (ap (λ (y : StackEntry). y.low) r.top)) complete;
    }
      where
        fewer : length (family items b.rest) ≤ length (family s.items b.rest)
        fewer = fewer-lengths held le

        stands-now : IsStack last s.done s.at items b.rest
        stands-now = stack-new last s.done s.at k j keeps side x s.items items b.rest r

        ow : (i : ℕ) → i < k → owner (item s.items i) ≡ owner (item items i)
        ow i l = ap (λ (y : StackEntry). owner y) (sym (r.same i l))

        path-front : (u q : ℕ) → IsOnPath last s.at u → q < j → owner (item items q) ≡ u → q < k
        path-front u q p l o = elim (cases_lt q k) [ inl a ↦ a | inr a ↦ absurd (omega (arith, low-v, o, mid-owner q a l, p.0)) ]

        start-w : (y : ℕ) → y ≢ 0 → IsOnPath last w y → at_place s.start y ≤ at_place s.start w
        start-w y z p = elim (cases_eq y w) [
          | inl e ↦ omega (arith, ap (at_place s.start) e)
          | inr e ↦
              let a = b.palm.ancestors w y b.inside (omega (arith, p.0, e)) p.1 in
              below-path y (at_place s.start w) z (omega (arith, a.0, b.parent), subst (λ (q : ℕ). q < last y) b.parent a.1) (omega arith) (omega (arith, s-k, r.within))
        ]

        behind : (i : ℕ) → i < at_place s.start w → (item items i).tree ≡ true → (item items j).low < (item items i).low
        behind i l f =
            let i-k : i < k = omega (arith, l, s-k) in
            let old-tree : (item s.items i).tree ≡ true = subst (λ (y : StackEntry). y.tree ≡ true) (r.same i i-k) f in
            let p = old-low in
            let in-top = b.atop.stands.laid.inside b.height p.0 h-in b.atop.tree (omega (arith, b.atop.start, s-k, p.2)) (omega (arith, p.1.within, b.atop.size)) in
            let c = b.atop.behind i l old-tree in
            elim (b.atop.stands.laid.outside b.height i h-in b.atop.tree (omega (arith, i-k, r.within)) (inl (omega (arith, l, b.atop.start)))) [
              | inl q ↦ absurd (omega (arith, q, c))
              | inr q ↦ omega (arith, q, in-top.1, p.1.low, ap (λ (y : StackEntry). y.low) r.top, ap (λ (y : StackEntry). y.low) (r.same i i-k))
            ]
