-- A frond was pushed: it is joined with the one below, or noted, and the pass goes on.
use Rattle.std.proofs.Common.{◌≡◌, ◌≢◌, ℕ, zero, suc, ◌+◌, ◌-◌, ◌<◌, ◌≤◌, ◌⊎◌, inl, inr, Bool, true, false, not, nat_lt, ◌&&◌, List, [], ◌∷◌, ◌++◌, length, map, take, drop, slice_index, refl, sym, ap, ◌∙◌, subst, arith}
use Rattle.std.proofs.lemmas.Bool.{cases_lt, cases_eq, both_ways, eq-eqb}
use Rattle.std.proofs.lemmas.List.{length-append, length-take-le, take-append-le, drop-append-le, length-drop, get_or-drop, length-map}
use Rattle.multigraph.specs.Graph.{Multigraph, edge_count}
use Rattle.pair_split.specs.Family.{Entry, IsSeparation}
use Rattle.split_comp.specs.declared.items.StackEntry.{StackEntry}
use Rattle.split_comp.specs.declared.items.StackCut.{StackCut}
use Rattle.split_comp.specs.declared.items.Dart.{Dart}
use Rattle.split_comp.specs.Stack.{item, entry, family, owner, IsStack, IsSorted, IsClean}
use Rattle.split_comp.specs.Palm.{tree_dart, tree_degree, tree_parent, IsPalm}
use Rattle.split_comp.specs.Walk.{IsOnPath, IsWalk}
use Rattle.split_comp.specs.Cuts.{cut, IsLeastUp, AreSound, AreComplete}
use Rattle.split_comp.specs.Frames.{AreAhead, AreCutsBelow}
use Rattle.split_comp.specs.Sides.{IsCutOff, all_items, IsLeast}
use Rattle.split_comp.specs.Noting.{IsNoted}
use Rattle.split_comp.specs.Pass.{NumberedTree, IsNumbered, PassState, at_place, IsPass, IsFronted, IsParallel, IsSplitOff, CanSplitOff, joined_item, top_item, pushed, next_name, lowered}
use Rattle.split_comp.proofs.Entries.{stack-contains, item-front, item-last, item-take, length-push}
use Rattle.split_comp.proofs.Stretch.{side_at}
use Rattle.split_comp.proofs.Renewed.{IsRenewed, frond-parts, stack-new, left-within, within-left, family-new}
use Rattle.split_comp.proofs.RenewedPath.{frames-new, reached-new, first-new}
use Rattle.split_comp.proofs.Parallel.{few-clean, frond-clean, parallel-not, parallel-least, parallel-separates, last-frond}
use Rattle.split_comp.proofs.Walk.{next-on-path}
use Rattle.split_comp.proofs.Lying.{start-at, owner-frond, frond-owner}
use Rattle.split_comp.proofs.LeastSides.{split_off-topped}
use Rattle.split_comp.proofs.Held.{can-split_off, held-split_off, item-name}
use Rattle.split_comp.proofs.Alike.{IsAlike, alike-take, alike-sound, alike-complete}
use Rattle.split_comp.proofs.Noted.{IsFront, cut-left, chain-rises, note-sound-new, note-sound-old, note-complete-new, note-complete-old}
use Rattle.split_comp.proofs.Firsts.{cut-off, lowered-length, pushed-at, pushed-here, IsAlikeTo, sorted-to, ahead-to, alike-whole}

-- the cuts of vertices further up the path do not change, where the stack and the cuts stay in front of them
pub below-kept : (last parent : ℕ → ℕ) (v : ℕ) (start base : ℕ → ℕ) (old new : List StackEntry) (cuts now : List StackCut) → AreCutsBelow last parent v start base old cuts → ((y : ℕ) → y ≢ 0 → IsOnPath last v y → take (start y) new ≡ take (start y) old) → ((y : ℕ) → y ≢ 0 → IsOnPath last v y → take (base y) now ≡ take (base y) cuts)
    → ((y : ℕ) → y ≢ 0 → IsOnPath last v y → base y ≤ length now) → AreCutsBelow last parent v start base new now
below-kept last parent v start base old new cuts now b items c within = record {
  base_within = within;
  base_rises = b.base_rises;
  sound_below = λ y z m p. subst (λ (l : List StackEntry). AreSound (start (parent y)) (parent y) l (drop (base (parent y)) (take (base y) now))) (sym (items y z p)) (subst (λ (l : List StackCut). AreSound (start (parent y)) (parent y) (take (start y) old) (drop (base (parent y)) l)) (sym (c y z p)) (b.sound_below y z m p));
  complete_below = λ y z m p. subst (λ (l : List StackEntry). AreComplete (start (parent y)) (parent y) l (drop (base (parent y)) (take (base y) now))) (sym (items y z p)) (subst (λ (l : List StackCut). AreComplete (start (parent y)) (parent y) (take (start y) old) (drop (base (parent y)) l)) (sym (c y z p)) (b.complete_below y z m p));
}

-- bases rise along the path
pub base-up : (n m : ℕ) (parent degree : ℕ → ℕ) (dart : ℕ → ℕ → Dart) (palm : IsPalm n m parent degree dart) (v done : ℕ) (gone : ℕ → ℕ) → IsWalk n palm.last parent degree dart v done gone → (base : ℕ → ℕ)
    → ((y : ℕ) → y ≢ 0 → parent y ≢ 0 → IsOnPath palm.last v y → base (parent y) ≤ base y) → (fuel y : ℕ) → y ≢ 0 → IsOnPath palm.last v y → v < y + fuel → base y ≤ base v
base-up n m parent degree dart palm v done gone walk base rises zero y z p l = absurd (omega (arith, l, p.0))
base-up n m parent degree dart palm v done gone walk base rises (suc fuel) y z p l = elim (cases_eq y v) [
  | inl e ↦ omega (arith, ap base e)
  | inr e ↦
      let x = next-on-path n m parent degree dart palm v done gone walk y (omega (arith, e, p.0)) p in
      let up : base y ≤ base x.0 = subst (λ (k : ℕ). base k ≤ base x.0) x.3 (rises x.0 x.1 (λ k. z (sym x.3 ∙ k)) x.2) in
      let less : y < x.0 = omega (arith, x.3, (palm.parent_less x.0 (omega (arith, x.2.0, walk.current, walk.within)) x.1).0) in
      omega (arith, up, base-up n m parent degree dart palm v done gone walk base rises fuel x.0 x.1 x.2 (omega (arith, l, less)))
]

module _ (g : Multigraph) (t : NumberedTree) (numbered : IsNumbered g t) (s : PassState) (f : IsFronted g t s) where
  abbrev h : ℕ
  h = f.height

  abbrev v : ℕ
  v = s.at

  abbrev last : ℕ → ℕ
  last = f.palm.last

  h-in : f.height < length s.items
  h-in = omega (arith, f.size)

  -- starts of the path are not behind the last entry
  start-h : (z : ℕ) → z ≢ 0 → IsOnPath last s.at z → (i : ℕ) → i < length s.items → (item s.items i).low ≡ s.at → at_place s.start z ≤ i
  start-h z n p i l e = elim (cases_lt i (at_place s.start z)) [
    | inr a ↦ a
    | inl a ↦ absurd (elim (f.frames.before z i n p a) [ inl k ↦ omega (arith, k, e, p.0) | inr k ↦ omega (arith, k, e, p.1) ])
  ]

  -- the entry below the last one, where it is parallel
  module _ (par : IsParallel s) where
    abbrev k : ℕ
    k = length s.items - 2

    k-h : k + 1 ≡ f.height
    k-h = omega (arith, f.size, par.two)

    top-is : item s.items (length s.items - 1) ≡ item s.items f.height
    top-is = ap (item s.items) (omega (arith, f.size))

    up-same : (item s.items k).up ≡ (item s.items f.height).up
    up-same = par.up ∙ ap (λ (x : StackEntry). x.up) top-is

    low-same : (item s.items k).low ≡ (item s.items f.height).low
    low-same = par.low ∙ ap (λ (x : StackEntry). x.low) top-is

    four : 4 ≤ length (family s.items f.rest)
    four = omega (arith, par.four, f.held.total)

    abbrev side : ℕ → Bool
    side = side_at s.items (λ i. not (nat_lt i (length s.items - 2)) && true)

    off : IsCutOff all_items s.items f.rest k side
    off = cut-off all_items s.items f.rest k f.stands.left.is_family

    sep : IsSeparation (family s.items f.rest) side (top_item s).up (top_item s).low
    sep = subst (λ (x : StackEntry). IsSeparation (family s.items f.rest) side x.up x.low) (sym top-is) (parallel-separates last s.done v h s.items f.rest f.stands f.size f.topped k k-h up-same low-same four side off)

    -- each bad side holds both
    least : IsLeast s.items f.rest side
    least u p q b i l on = elim (cases_lt i k) [
      | inl a ↦ absurd (both_ways (side (item s.items i).name) (off.before i a l) on)
      | inr a ↦ elim (cases_eq i k) [
        | inl e ↦ ap (λ (j : ℕ). u (item s.items j).name) e ∙ parallel-least last s.done v h s.items f.rest f.stands f.size f.topped k k-h up-same low-same u p q b
        | inr n ↦ let e : i ≡ f.height = omega (arith, a, n, l, f.size, k-h) in ap (λ (j : ℕ). u (item s.items j).name) e ∙ f.topped u p q b
      ]
    ]

    ends : ((top_item s).up < g.vertex_count) × ((top_item s).low < g.vertex_count)
    ends = let e = f.held.ends (entry (item s.items (length s.items - 1))) (stack-contains s.items f.rest (length s.items - 1) (omega (arith, f.size))) in (e.0, e.1)

    pub fronted-can : CanSplitOff g t.vertex (λ x. true) (length s.items - 2) (top_item s).up (top_item s).low s
    fronted-can = can-split_off g t numbered s f.rest f.held f.stands.left.is_family all_items k (top_item s).up (top_item s).low side off sep ends.0 ends.1 least (omega (arith, f.size))

    -- the two are joined
    module _ (mid : PassState) (e : IsSplitOff g t.vertex (λ x. true) (length s.items - 2) (top_item s).up (top_item s).low s mid) where
      abbrev x : StackEntry
      x = joined_item g s

      -- the state afterwards
      abbrev now : PassState
      now = pushed (record s {
        items = take (length s.items - 2) s.items;
        total = s.total + 1 - length e.edges;
        parts = s.parts ++ record { kind = e.kind; own = record { name = next_name g s; first = slice_index t.vertex (top_item s).up; second = slice_index t.vertex (top_item s).low }; edges = e.edges } ∷ [];
      }) x

      frond : x.tree ≡ false
      frond = ap (λ (y : StackEntry). y.tree) top-is ∙ f.frond

      x-low : x.low ≡ s.at
      x-low = ap (λ (y : StackEntry). y.low) top-is ∙ f.low

      x-start : x.start ≡ k
      x-start = rw frond refl

      front-length : length (take k s.items) ≡ k
      front-length = length-take-le k s.items (omega (arith, f.size))

      now-same : (i : ℕ) → i < k → item now.items i ≡ item s.items i
      now-same i l = item-front (take k s.items) x i (omega (arith, l, front-length)) ∙ item-take s.items k i l

      now-top : item now.items k ≡ x
      now-top = item-last (take k s.items) x k (sym front-length)

      renewed : IsRenewed last s.done s.at k k all_items side x s.items now.items f.rest
      renewed = record {
        stands = f.stands;
        within = omega (arith, k-h, f.size);
        size = length-push (take k s.items) x ∙ ap (λ (n : ℕ). n + 1) front-length;
        few = inl refl;
        same = now-same;
        top = now-top;
        mid = λ i a b. absurd (omega (arith, a, b));
        mid_old = λ i a b. absurd (omega (arith, a, b));
        mid_new = λ o a b c. absurd (both_ways true c refl);
        cut = off;
        separates = sep;
        rises = f.stands.laid.rises (length s.items - 1) (omega (arith, f.size));
        fresh = λ y c q. omega (arith, q, item-name g t numbered s f.rest f.held f.stands.left.is_family y c);
        up_path = (omega (arith, (f.stands.laid.rises f.height h-in).0, f.low, ap (λ (y : StackEntry). y.up) top-is), path);
        trees = λ y q. refl;
        shape = inr (frond, x-low, x-start);
      }
        where
          path : s.at < last (top_item s).up
          path = subst (λ (y : ℕ). y < last (top_item s).up) x-low (f.stands.laid.rises (length s.items - 1) (omega (arith, f.size))).1

      abbrev stands-now : IsStack last s.done s.at now.items f.rest
      stands-now = stack-new last s.done s.at k k all_items side x s.items now.items f.rest renewed

      starts : (z : ℕ) → z ≢ 0 → IsOnPath last s.at z → at_place s.start z ≤ k
      starts z n p = start-h z n p k (omega (arith, f.size, k-h)) (low-same ∙ f.low)

      -- the new entry is as the one that was there
      alike : IsAlikeTo f.height s.items now.items
      alike = record { up = λ i l. at i l (λ (y : StackEntry). y.up) up-x; low = λ i l. at i l (λ (y : StackEntry). y.low) low-x; tree = λ i l. tree-at i l; start = λ i l. at i l (λ (y : StackEntry). y.start) start-x }
        where
          k-in : k < length s.items
          k-in = omega (arith, k-h, f.size)

          up-x : (item s.items k).up ≡ x.up
          up-x = par.up

          low-x : (item s.items k).low ≡ x.low
          low-x = par.low

          start-x : (item s.items k).start ≡ x.start
          start-x = f.stands.laid.frond_start k k-in par.frond ∙ sym x-start

          at : (i : ℕ) → i < f.height → (p : StackEntry → ℕ) → p (item s.items k) ≡ p x → p (item s.items i) ≡ p (item now.items i)
          at i l p q = elim (cases_lt i k) [
            | inl a ↦ ap p (sym (now-same i a))
            | inr a ↦ let e : i ≡ k = omega (arith, a, l, k-h) in ap (λ (j : ℕ). p (item s.items j)) e ∙ (q ∙ sym (ap p (ap (item now.items) e ∙ now-top)))
          ]

          tree-at : (i : ℕ) → i < f.height → (item s.items i).tree ≡ (item now.items i).tree
          tree-at i l = elim (cases_lt i k) [
            | inl a ↦ ap (λ (y : StackEntry). y.tree) (sym (now-same i a))
            | inr a ↦ let e : i ≡ k = omega (arith, a, l, k-h) in ap (λ (j : ℕ). (item s.items j).tree) e ∙ (par.frond ∙ (sym frond ∙ sym (ap (λ (y : StackEntry). y.tree) (ap (item now.items) e ∙ now-top))))
          ]

      now-size : length now.items ≡ f.height
      now-size = renewed.size ∙ k-h

      fewer : length (family now.items f.rest) ≤ length (family s.items f.rest)
      fewer = omega (arith, length-append (List-map now.items) f.rest, length-append (List-map s.items) f.rest, length-map now.items entry, length-map s.items entry, now-size, f.size)
        where
          List-map : List StackEntry → List Entry
          List-map l = map entry l

      joined-clean : IsClean now.items f.rest
      joined-clean = frond-clean last s.done s.at k now.items f.rest stands-now renewed.size (split_off-topped last s.done s.at k k all_items side x s.items now.items f.rest renewed least) (ap (λ (y : StackEntry). y.tree) now-top ∙ frond) (ap (λ (y : StackEntry). y.low) now-top ∙ x-low)
          (λ i l p.
          let q = frond-parts (item now.items k).up s.at (item now.items i) p in
          let same = now-same i l in
          parallel-not last s.done v h s.items f.rest f.stands f.size f.topped i k l (omega (arith, k-h))
          (ap (λ (y : StackEntry). y.up) (sym same) ∙ (q.1 ∙ (ap (λ (y : StackEntry). y.up) now-top ∙ sym par.up)))
          (ap (λ (y : StackEntry). y.low) (sym same) ∙ (q.2 ∙ (sym x-low ∙ sym par.low))))

      alike-old : length (take f.height s.items) ≡ f.height
      alike-old = length-take-le f.height s.items (omega (arith, f.size))

      pub joined-pass : IsPass g t now
      joined-pass = record {
        palm = f.palm;
        rest = f.rest;
        places = record { start = f.places.start; base = f.places.base; gone = f.places.gone };
        walk = f.walk;
        going = λ z. absurd (f.not_root z);
        left = f.left;
        held = held-split_off g t numbered s f.rest f.held f.stands.left.is_family all_items k (top_item s).up (top_item s).low side off sep ends.0 ends.1 mid now x e (sym (ap (λ (p : PassState). p.parts) e.now)) (sym (ap (λ (p : PassState). p.total) e.now)) refl refl refl
            (family-new last s.done s.at k k all_items side x s.items now.items f.rest renewed) (left-within last s.done s.at k k all_items side x s.items now.items f.rest renewed) (within-left last s.done s.at k k all_items side x s.items now.items f.rest renewed);
        stands = stands-now;
        frames = frames-new last s.done s.at k k all_items side x s.items now.items f.rest renewed (at_place s.start) (λ q. absurd (both_ways x.tree frond q)) f.frames starts;
        reached = reached-new last s.done s.at k k all_items side x s.items now.items f.rest renewed (tree_dart g t.palm t.vertex) (at_place s.gone) (at_place s.start) f.frames starts f.reached;
        first = first-new last s.done s.at k k all_items side x s.items now.items f.rest renewed g.vertex_count s.first now.first f.first
            (lowered-length (lowered s.first x.up (length (take k s.items))) x.low (length (take k s.items)) ∙ (lowered-length s.first x.up (length (take k s.items)) ∙ f.first.places))
            (λ z. elim (pushed-at s.first x.up x.low (length (take k s.items)) z (omega (arith, ends.0, f.first.places)) (omega (arith, ends.1, f.first.places))) [
              | inl q ↦ inl q
              | inr q ↦ inr (omega (arith, q.0, front-length), omega (arith, q.0, front-length), omega (arith, q.0, q.1), q.2)
            ])
            (λ z i a b q. omega (arith, pushed-here s.first x.up x.low (length (take k s.items)) z (omega (arith, ends.0, f.first.places)) (omega (arith, ends.1, f.first.places)) q, front-length, a));
        sorted = subst (λ (n : ℕ). IsSorted s.at n now.items f.rest) (sym now-size) (sorted-to f.height s.items now.items alike s.at f.rest f.rest fewer f.sorted);
        ahead = subst (λ (n : ℕ). AreAhead last (tree_degree t.palm t.vertex) (tree_dart g t.palm t.vertex) (at_place s.gone) s.at n now.items f.rest) (sym now-size)
            (ahead-to f.height s.items now.items alike last (tree_degree t.palm t.vertex) (tree_dart g t.palm t.vertex) (at_place s.gone) (at_place s.gone) s.at f.rest f.rest fewer (λ u. omega arith) f.ahead);
        clean = joined-clean;
        cuts = record {
          below = below-kept last (tree_parent t.palm t.vertex) s.at (at_place s.start) (at_place s.base) s.items now.items s.cuts s.cuts f.below
              (λ y z p. alike-take now.items s.items (at_place s.start y) (omega (arith, starts y z p, now-size, k-h)) (omega (arith, starts y z p, k-h, f.size)) (λ i l. now-same i (omega (arith, l, starts y z p)))) (λ y z p. refl) f.below.base_within;
          sound = λ z. alike-sound (take f.height s.items) now.items whole (at_place s.start s.at) s.at (drop (at_place s.base s.at) s.cuts) f.sound;
          complete = λ z. alike-complete (take f.height s.items) now.items whole (at_place s.start s.at) s.at (drop (at_place s.base s.at) s.cuts) f.complete;
        };
      }
        where
          whole : IsAlike (take f.height s.items) now.items
          whole = alike-whole f.height (take f.height s.items) now.items alike-old now-size (record {
            up = λ i l. ap (λ (y : StackEntry). y.up) (item-take s.items f.height i l) ∙ alike.up i l;
            low = λ i l. ap (λ (y : StackEntry). y.low) (item-take s.items f.height i l) ∙ alike.low i l;
            tree = λ i l. ap (λ (y : StackEntry). y.tree) (item-take s.items f.height i l) ∙ alike.tree i l;
            start = λ i l. ap (λ (y : StackEntry). y.start) (item-take s.items f.height i l) ∙ alike.start i l;
          })

  -- the last entry alone
  top-frond : (j : ℕ) → (item s.items f.height).start ≤ j → j ≤ f.height → j ≡ f.height
  top-frond j a b = omega (arith, a, b, f.stands.laid.frond_start f.height h-in f.frond)

  sorted-now : (IsParallel s → ⊥) → IsSorted s.at (length s.items) s.items f.rest
  sorted-now none = record {
    reach_rises = λ r q j l m e a b d. elim (cases_lt q f.height) [
      | inl k ↦ f.sorted.reach_rises r q j l k e a b d
      | inr k ↦
          let q-h : q ≡ f.height = omega (arith, k, m, f.size) in
          let j-h = top-frond j (omega (arith, a, ap (λ (i : ℕ). (item s.items i).start) q-h)) (omega (arith, b, q-h)) in
          let w = f.reach_last r (omega (arith, l, q-h)) (e ∙ (ap (λ (i : ℕ). owner (item s.items i)) q-h ∙ (frond-owner (item s.items f.height) f.frond ∙ f.low))) in
          (w.0, w.1, w.2, omega (arith, w.3, ap (λ (i : ℕ). (item s.items i).up) j-h))
    ];
    frond_rises = λ r q j four l m e u d a b. elim (cases_lt q f.height) [
      | inl k ↦ f.sorted.frond_rises r q j four l k e u d a b
      | inr k ↦
          let q-h : q ≡ f.height = omega (arith, k, m, f.size) in
          let r-h : r < f.height = omega (arith, l, q-h) in
          let j-h = top-frond j (omega (arith, a, ap (λ (i : ℕ). (item s.items i).start) q-h)) (omega (arith, b, q-h)) in
          let o : owner (item s.items r) ≡ s.at = e ∙ (ap (λ (i : ℕ). owner (item s.items i)) q-h ∙ (frond-owner (item s.items f.height) f.frond ∙ f.low)) in
          let le = f.frond_last r four r-h o u in
          elim (cases_eq (item s.items r).up (item s.items f.height).up) [
            | inr n ↦ omega (arith, le, n, ap (λ (i : ℕ). (item s.items i).up) j-h)
            | inl n ↦ absurd (none (parallel r four r-h u n (owner-frond (item s.items r) s.at o u)))
          ]
    ];
  }
    where
      -- a parallel frond lies below the last entry
      parallel : (r : ℕ) → 4 ≤ length (family s.items f.rest) → r < f.height → (item s.items r).tree ≡ false → (item s.items r).up ≡ (item s.items f.height).up → (item s.items r).low ≡ s.at → IsParallel s
      parallel r four l u e lo =
          let at = last-frond last s.done s.at f.height (at_place s.start) s.items f.rest f.stands f.not_root f.frames f.size f.sorted four f.frond f.low r l
          (rw (u, eq-eqb (item s.items r).up (item s.items f.height).up e, eq-eqb (item s.items r).low s.at lo) refl) f.reach_last in
          let k : length s.items - 2 ≡ r = omega (arith, at, f.size) in
          let h' : length s.items - 1 ≡ f.height = omega (arith, f.size) in
          record {
            two = omega (arith, at, f.size);
            four = omega (arith, four, f.held.total);
            frond = ap (λ (i : ℕ). (item s.items i).tree) k ∙ u;
            up = ap (λ (i : ℕ). (item s.items i).up) k ∙ (e ∙ ap (λ (i : ℕ). (item s.items i).up) (sym h'));
            low = ap (λ (i : ℕ). (item s.items i).low) k ∙ (lo ∙ (sym f.low ∙ ap (λ (i : ℕ). (item s.items i).low) (sym h')));
          }

  clean-now : (IsParallel s → ⊥) → IsClean s.items f.rest
  clean-now none = elim (cases_lt (length (family s.items f.rest)) 4) [
    | inl l ↦ few-clean s.items f.rest (omega (arith, l))
    | inr l ↦ frond-clean last s.done s.at f.height s.items f.rest f.stands f.size f.topped f.frond f.low (λ i k p.
        let q = frond-parts (item s.items f.height).up s.at (item s.items i) p in
        omega (
          arith,
          q.1,
          (sorted-now none).frond_rises i f.height f.height l k h-in (frond-owner (item s.items i) q.0 ∙ (q.2 ∙ (sym f.low ∙ sym (frond-owner (item s.items f.height) f.frond)))) q.0
              (omega (arith, q.1, (f.stands.laid.rises f.height h-in).0, f.low)) (omega (arith, f.stands.laid.frond_start f.height h-in f.frond)) (omega arith),
        ))
  ]

  ahead-now : AreAhead last (tree_degree t.palm t.vertex) (tree_dart g t.palm t.vertex) (at_place s.gone) s.at (length s.items) s.items f.rest
  ahead-now = record {
    reach_ahead = λ u r k z p l e a b. elim (cases_lt r f.height) [
      | inl d ↦ f.ahead.reach_ahead u r k z p d e a b
      | inr d ↦
          let r-h : r ≡ f.height = omega (arith, d, l, f.size) in
          let u-v : u ≡ s.at = sym e ∙ (ap (λ (i : ℕ). owner (item s.items i)) r-h ∙ (frond-owner (item s.items f.height) f.frond ∙ f.low)) in
          (r, start-le r l, omega arith, reach u k u-v a b (ap (λ (i : ℕ). (item s.items i).up) r-h))
    ];
    frond_ahead = λ u r k four z p l e d a b. elim (cases_lt r f.height) [
      | inl q ↦ f.ahead.frond_ahead u r k four z p q e d a b
      | inr q ↦
          let r-h : r ≡ f.height = omega (arith, q, l, f.size) in
          let u-v : u ≡ s.at = sym e ∙ (ap (λ (i : ℕ). owner (item s.items i)) r-h ∙ (frond-owner (item s.items f.height) f.frond ∙ f.low)) in
          subst (λ (i : ℕ × ℕ). ((item s.items i.0).up < (tree_dart g t.palm t.vertex i.1 k).reach) ⊎ (((item s.items i.0).up ≡ (tree_dart g t.palm t.vertex i.1 k).reach) × (1 ≤ (tree_dart g t.palm t.vertex i.1 k).class))) (λ i. (sym r-h i, sym u-v i))
          (f.next k (omega (arith, a, ap (at_place s.gone) u-v)) (omega (arith, b, ap (tree_degree t.palm t.vertex) u-v)))
    ];
  }
    where
      start-le : (r : ℕ) → r < length s.items → (item s.items r).start ≤ r
      start-le r l = start-at last s.done s.at s.items f.rest f.stands r l

      reach : (u k : ℕ) → u ≡ s.at → at_place s.gone u ≤ k → k < tree_degree t.palm t.vertex u → {a : ℕ} → a ≡ (item s.items f.height).up → a ≤ (tree_dart g t.palm t.vertex u k).reach
      reach u k e a b q =
          let r-same = ap (λ (y : ℕ). (tree_dart g t.palm t.vertex y k).reach) e in
          elim (f.next k (omega (arith, a, ap (at_place s.gone) e)) (omega (arith, b, ap (tree_degree t.palm t.vertex) e))) [
            | inl d ↦ omega (arith, d, q, r-same)
            | inr d ↦ omega (arith, d.0, q, r-same)
          ]

  -- the pass goes on with these cuts
  noted-pass : (IsParallel s → ⊥) → (cuts : List StackCut) → AreCutsBelow last (tree_parent t.palm t.vertex) s.at (at_place s.start) (at_place s.base) s.items cuts
      → AreSound (at_place s.start s.at) s.at s.items (drop (at_place s.base s.at) cuts) → AreComplete (at_place s.start s.at) s.at s.items (drop (at_place s.base s.at) cuts) → IsPass g t (record s { cuts = cuts })
  noted-pass none cuts below sound complete = record {
    palm = f.palm;
    rest = f.rest;
    places = record { start = f.places.start; base = f.places.base; gone = f.places.gone };
    walk = f.walk;
    going = λ z. absurd (f.not_root z);
    left = f.left;
    held = record { total = f.held.total; state = f.held.state; few = f.held.few; entries = f.held.entries; three = f.held.three; ends = f.held.ends };
    stands = f.stands;
    frames = f.frames;
    reached = f.reached;
    first = f.first;
    sorted = sorted-now none;
    ahead = ahead-now;
    clean = clean-now none;
    cuts = record { below = below; sound = λ z. sound; complete = λ z. complete };
  }

  front : IsFront (take f.height s.items) s.items f.height
  front = record { size = length-take-le f.height s.items (omega (arith, f.size)); within = omega (arith, f.size); same = λ i l. item-take s.items f.height i l }

  -- it is the first dart: nothing is noted
  pub first-pass : (IsParallel s → ⊥) → f.height ≤ at_place s.start s.at → IsPass g t s
  first-pass none l = noted-pass none s.cuts f.below
      (record { each = λ k m. absurd (no-cut k m); chain = record { starts_rise = λ k m. absurd (no-cut k (omega (arith, m))); ups_rise = λ k m. absurd (no-cut k (omega (arith, m))); lows_fall = λ k m. absurd (no-cut k (omega (arith, m))); met = λ k m. absurd (no-cut k (omega (arith, m))) } })
      (λ u a b w q less. absurd (wanted u w.starts.place w.from w.starts.within w.starts.starts))
    where
      no-cut : (k : ℕ) → k < length (drop (at_place s.base s.at) s.cuts) → ⊥
      no-cut k m = let c = f.sound.each k m in omega (arith, c.from, c.within, front.size, l)

      wanted : (u r : ℕ) → at_place s.start s.at < u → r < length s.items → (item s.items r).start ≡ u → ⊥
      wanted u r a b e = omega (arith, a, l, e, start-at last s.done s.at s.items f.rest f.stands r b, b, f.size, at-height)
        where
          at-height : (item s.items r).start ≤ r
          at-height = start-at last s.done s.at s.items f.rest f.stands r b

  -- a further dart: it is noted
  module _ (none : IsParallel s → ⊥) (late : at_place s.start s.at < f.height) (now : List StackCut) (n : IsNoted (at_place s.base s.at) (record { start = f.height; up = (item s.items f.height).up; low = s.at }) s.cuts now) where
    abbrev base : ℕ
    base = at_place s.base s.at

    l : ℕ
    l = (item s.items f.height).up

    top-least : IsLeastUp s.items f.height (item s.items f.height).up
    top-least = record { least = λ i a b. omega (arith, ap (λ (j : ℕ). (item s.items j).up) (same i a b)); place = f.height; from = omega arith; within = h-in; attained = refl }
      where
        same : (i : ℕ) → f.height ≤ i → i < length s.items → i ≡ f.height
        same i a b = omega (arith, a, b, f.size)

    split : drop base s.cuts ≡ drop base n.kept ++ n.taken.popped
    split = ap (drop base) n.taken.parts ∙ drop-append-le base n.kept n.taken.popped n.taken.from

    now-drop : drop base now ≡ drop base n.kept ++ n.answer ∷ []
    now-drop = ap (drop base) n.parts ∙ drop-append-le base n.kept (n.answer ∷ []) n.taken.from

    old-sound : AreSound (at_place s.start s.at) s.at (take f.height s.items) (drop base n.kept ++ n.taken.popped)
    old-sound = subst (AreSound (at_place s.start s.at) s.at (take f.height s.items)) split f.sound

    old-complete : AreComplete (at_place s.start s.at) s.at (take f.height s.items) (drop base n.kept ++ n.taken.popped)
    old-complete = subst (AreComplete (at_place s.start s.at) s.at (take f.height s.items)) split f.complete

    kept-length : length (drop base n.kept) + base ≡ length n.kept
    kept-length = omega (arith, length-drop base n.kept, n.taken.from)

    lower : (k : ℕ) → k < length (drop base n.kept) → (cut (drop base n.kept) k).up ≤ (item s.items f.height).up
    lower k m = elim n.taken.stops [
      | inl e ↦ absurd (omega (arith, m, kept-length, e))
      | inr e ↦
          let last-k = length (drop base n.kept) - 1 in
          let at : cut (drop base n.kept) (length (drop base n.kept) - 1) ≡ cut n.kept (length n.kept - 1) = get_or-drop base n.kept (length (drop base n.kept) - 1) _ ∙ ap (cut n.kept) (omega (arith, kept-length, m)) in
          elim (cases_eq k (length (drop base n.kept) - 1)) [
            | inl q ↦ omega (arith, ap (λ (j : ℕ). (cut (drop base n.kept) j).up) q, ap (λ (c : StackCut). c.up) at, e)
            | inr q ↦
                let c = chain-rises (take f.height s.items) (drop base n.kept ++ n.taken.popped) old-sound.chain k (length (drop base n.kept) - 1) (omega (arith, m, q)) (omega (arith, m, length-append (drop base n.kept) n.taken.popped)) in
                omega (arith, c.1, ap (λ (c : StackCut). c.up) (cut-left (drop base n.kept) n.taken.popped k m), ap (λ (c : StackCut). c.up) (cut-left (drop base n.kept) n.taken.popped (length (drop base n.kept) - 1) (omega (arith, m))), ap (λ (c : StackCut). c.up) at, e)
          ]
    ]

    up-less : (item s.items f.height).up < s.at
    up-less = omega (arith, (f.stands.laid.rises f.height h-in).0, f.low)

    owned : owner (item s.items f.height) ≡ s.at
    owned = frond-owner (item s.items f.height) f.frond ∙ f.low

    top-start : (item s.items f.height).start ≡ f.height
    top-start = f.stands.laid.frond_start f.height h-in f.frond

    list-cases : (p : List StackCut) → (p ≡ []) ⊎ ((c : StackCut) × (more : List StackCut) × (p ≡ c ∷ more))
    list-cases [] = inl refl
    list-cases (c ∷ more) = inr (c, more, refl)

    sound-now : AreSound (at_place s.start s.at) s.at s.items (drop base now)
    sound-now = subst (AreSound (at_place s.start s.at) s.at s.items) (sym now-drop) (elim (list-cases n.taken.popped) [
      | inl e ↦ subst (λ (c : StackCut). AreSound (at_place s.start s.at) s.at s.items (drop base n.kept ++ c ∷ [])) (sym (n.taken.none e))
          (note-sound-new last s.done s.at (at_place s.start s.at) f.height (item s.items f.height).up f.height (take f.height s.items) s.items f.rest (drop base n.kept) n.taken.popped f.stands front late f.size owned top-start (omega arith) top-least up-less old-sound lower n.taken.lower e)
      | inr e ↦ subst (λ (c : StackCut). AreSound (at_place s.start s.at) s.at s.items (drop base n.kept ++ c ∷ [])) (sym (n.taken.some e.0 e.1 e.2))
          (note-sound-old last s.done s.at (at_place s.start s.at) f.height (item s.items f.height).up f.height (take f.height s.items) s.items f.rest (drop base n.kept) n.taken.popped f.stands front late f.size owned top-start (omega arith) top-least up-less old-sound lower n.taken.lower e.0 e.1 e.2)
    ])

    complete-now : AreComplete (at_place s.start s.at) s.at s.items (drop base now)
    complete-now = subst (AreComplete (at_place s.start s.at) s.at s.items) (sym now-drop) (elim (list-cases n.taken.popped) [
      | inl e ↦ subst (λ (c : StackCut). AreComplete (at_place s.start s.at) s.at s.items (drop base n.kept ++ c ∷ [])) (sym (n.taken.none e))
          (note-complete-new last s.done s.at (at_place s.start s.at) f.height (item s.items f.height).up f.height (take f.height s.items) s.items f.rest (drop base n.kept) n.taken.popped f.stands front late f.size owned top-start (omega arith) top-least up-less old-sound lower n.taken.lower f.topped old-complete e)
      | inr e ↦ subst (λ (c : StackCut). AreComplete (at_place s.start s.at) s.at s.items (drop base n.kept ++ c ∷ [])) (sym (n.taken.some e.0 e.1 e.2))
          (note-complete-old last s.done s.at (at_place s.start s.at) f.height (item s.items f.height).up f.height (take f.height s.items) s.items f.rest (drop base n.kept) n.taken.popped f.stands front late f.size owned top-start (omega arith) top-least up-less old-sound lower n.taken.lower f.topped old-complete e.0 e.1 e.2)
    ])

    pub later-pass : IsPass g t (record s { cuts = now })
    later-pass = noted-pass none now (below-kept last (tree_parent t.palm t.vertex) s.at (at_place s.start) (at_place s.base) s.items s.items s.cuts now f.below (λ y z p. refl)
        (λ y z p. ap (take (at_place s.base y)) n.parts ∙ (take-append-le (at_place s.base y) n.kept (n.answer ∷ []) (base-le y z p) ∙ (sym (take-append-le (at_place s.base y) n.kept n.taken.popped (base-le y z p)) ∙ ap (take (at_place s.base y)) (sym n.taken.parts))))
        (λ y z p. omega (arith, base-le y z p, ap length n.parts, length-append n.kept (n.answer ∷ [])))) sound-now complete-now
      where
        base-le : (y : ℕ) → y ≢ 0 → IsOnPath last s.at y → at_place s.base y ≤ length n.kept
        base-le y z p = omega (arith, base-up g.vertex_count (edge_count g) (tree_parent t.palm t.vertex) (tree_degree t.palm t.vertex) (tree_dart g t.palm t.vertex) f.palm s.at s.done (at_place s.gone) f.walk (at_place s.base) f.below.base_rises (suc s.at) y z p (omega arith), n.taken.from)
