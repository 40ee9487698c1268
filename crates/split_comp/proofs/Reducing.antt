-- The pass has returned: cuts of no more use are dropped, triangles and pairs are split off.
use Rattle.std.proofs.Common.{◌≡◌, ◌≢◌, ℕ, suc, ◌+◌, ◌-◌, ◌<◌, ◌≤◌, inl, inr, Bool, true, false, not, nat_lt, ◌&&◌, List, [], ◌∷◌, ◌++◌, length, take, drop, slice_index, slice_index_or, refl, sym, ap, ◌∙◌, subst, arith}
use Rattle.std.proofs.lemmas.Bool.{cases_eq, both_ways}
use Rattle.std.proofs.lemmas.List.{length-append, length-take-le, length-drop, take_more, take_all, take-take, drop-append-le, get_or-drop}
use Rattle.multigraph.specs.Graph.{Multigraph, edge_count}
use Rattle.pair_split.specs.Family.{IsSeparation}
use Rattle.split_comp.specs.declared.items.StackEntry.{StackEntry}
use Rattle.split_comp.specs.declared.items.StackCut.{StackCut}
use Rattle.split_comp.specs.Stack.{item, entry, family, owner, IsStack, IsReturned}
use Rattle.split_comp.specs.Palm.{tree_dart, tree_degree, tree_parent}
use Rattle.split_comp.specs.Walk.{IsOnPath}
use Rattle.split_comp.specs.Cuts.{no_cut, cut, IsBefore, IsSoundAt, AreSoundAt, AreCompleteAt}
use Rattle.split_comp.specs.Sides.{is_frond_to, IsCutOff, all_items, IsLeast}
use Rattle.split_comp.specs.Pass.{joined_item, NumberedTree, IsNumbered, PassState, IsHeld, at_place, IsRaised, IsBack, CanJoin, IsJoined, IsSplitOff, CanSplitOff, IsTriangle, IsStale, top_item, below_item, new_tree, pushed, cuts_dropped, next_name, lowered}
use Rattle.split_comp.proofs.Entries.{stack-contains, item-front, item-last, item-take, length-push}
use Rattle.split_comp.proofs.Stretch.{side_at}
use Rattle.split_comp.proofs.Renewed.{IsRenewed, left-within, within-left, family-new}
use Rattle.split_comp.proofs.RenewedPath.{first-new}
use Rattle.split_comp.proofs.Lying.{start-at, owner-tree}
use Rattle.split_comp.proofs.SplitSides.{triangle-start, triangle-ups, triangle-separates, triangle-least, triangle-frond}
use Rattle.split_comp.proofs.Held.{can-split_off, held-split_off, split_off-two, item-name}
use Rattle.split_comp.proofs.Returning.{drop-sound, stale-complete, replaced-sound, replaced-complete}
use Rattle.split_comp.proofs.Noted.{chain-rises, cut-left}
use Rattle.split_comp.proofs.Firsts.{cut-off, lowered-length, pushed-at, pushed-here}
use Rattle.split_comp.proofs.Fronted.{below-kept, base-up}
use Rattle.split_comp.proofs.Raising.{back-returned, w-below, raised-now}
use Rattle.split_comp.proofs.Joining.{above, raised-can, joined-back, unjoined-back}

-- the last element apart
pub split-last : {X : Type 0} (xs : List X) (d : X) → 1 ≤ length xs → xs ≡ take (length xs - 1) xs ++ slice_index_or xs (length xs - 1) d ∷ []
split-last xs d l = sym (take_all (length xs - 1 + 1) xs (omega (arith, l))) ∙ take_more xs (length xs - 1) d (omega (arith, l))

-- bases of the path to w are not behind that of w
module _ (g : Multigraph) (t : NumberedTree) (w : ℕ) (s : PassState) (b : IsRaised g t w s) where
  abbrev last : ℕ → ℕ
  last = b.palm.last

  w-not : w ≢ 0
  w-not e = omega (arith, e, b.from, b.walk.current)

  -- the path to v is on the path to w
  pub up-path : (y : ℕ) → IsOnPath last s.at y → IsOnPath last w y
  up-path y p =
      let q = b.palm.parent_less w b.inside w-not in
      (omega (arith, p.0, q.0, b.parent), omega (arith, b.palm.nested y s.at p.0 p.1, subst (λ (k : ℕ). w < last k) b.parent q.1))

  w-path : IsOnPath last w w
  w-path = (omega arith, b.palm.above w)

  pub base-w : (y : ℕ) → y ≢ 0 → IsOnPath last w y → at_place s.base y ≤ at_place s.base w
  base-w y z p = elim (cases_eq y w) [
    | inl e ↦ omega (arith, ap (at_place s.base) e)
    | inr e ↦
        let a = b.palm.ancestors w y b.inside (omega (arith, p.0, e)) p.1 in
        let on : IsOnPath last s.at y = (omega (arith, a.0, b.parent), subst (λ (k : ℕ). k < last y) b.parent a.1) in
        let up = base-up g.vertex_count (edge_count g) (tree_parent t.palm t.vertex) (tree_degree t.palm t.vertex) (tree_dart g t.palm t.vertex) b.palm s.at s.done (at_place s.gone) b.walk (at_place s.base)
        (λ q m n o. b.below.base_rises q m n (up-path q o)) (suc s.at) y z on (omega arith) in
        omega (arith, up, subst (λ (k : ℕ). at_place s.base k ≤ at_place s.base w) b.parent (b.below.base_rises w w-not (λ q. b.not_root (sym b.parent ∙ q)) w-path))
  ]

  -- the last cut apart
  module _ (some : at_place s.base w < length s.cuts) where
    abbrev fewer : List StackCut
    fewer = take (length s.cuts - 1) s.cuts

    abbrev c : StackCut
    c = cut s.cuts (length s.cuts - 1)

    pub fewer-length : length (take (length s.cuts - 1) s.cuts) ≡ length s.cuts - 1
    fewer-length = length-take-le (length s.cuts - 1) s.cuts (omega arith)

    pub cuts-apart : drop (at_place s.base w) s.cuts ≡ drop (at_place s.base w) (take (length s.cuts - 1) s.cuts) ++ cut s.cuts (length s.cuts - 1) ∷ []
    cuts-apart = ap (drop (at_place s.base w)) (split-last s.cuts no_cut (omega (arith, some))) ∙ drop-append-le (at_place s.base w) fewer (c ∷ []) (omega (arith, fewer-length, some))

    pub fewer-same : (y : ℕ) → y ≢ 0 → IsOnPath last w y → take (at_place s.base y) (take (length s.cuts - 1) s.cuts) ≡ take (at_place s.base y) s.cuts
    fewer-same y z p = take-take (at_place s.base y) (length s.cuts - 1) s.cuts (omega (arith, base-w y z p, some))

    pub fewer-within : (y : ℕ) → y ≢ 0 → IsOnPath last w y → at_place s.base y ≤ length (take (length s.cuts - 1) s.cuts)
    fewer-within y z p = omega (arith, base-w y z p, some, fewer-length)

    pub fewer-lows : (i : ℕ) → i < length (drop (at_place s.base w) (take (length s.cuts - 1) s.cuts)) → s.at < (cut (drop (at_place s.base w) (take (length s.cuts - 1) s.cuts)) i).low
    fewer-lows i l = omega (
      arith,
      ap (λ (y : StackCut). y.low) (ap (λ (k : List StackCut). cut k i) cuts-apart ∙ cut-left (drop (at_place s.base w) fewer) (c ∷ []) i l),
      b.cut_lows i (omega (arith, ap length cuts-apart, length-append (drop (at_place s.base w) fewer) (c ∷ []), l)),
    )

-- a cut of no more use is dropped
pub stale-back : (g : Multigraph) (t : NumberedTree) (w : ℕ) (s : PassState) → IsBack g t w s → IsStale s.at (at_place s.base w) s → IsBack g t w (cuts_dropped s (length s.cuts - 1))
stale-back g t w s b stale = record { raised = raised; no_frond = b.no_frond }
  where
    r : IsRaised g t w s
    r = b.raised

    top : (top_item s).low ≡ (item s.items b.raised.height).low
    top = ap (λ (k : ℕ). (item s.items k).low) (omega (arith, b.raised.atop.size))

    sound-apart : AreSoundAt (at_place s.start w) s.at (item s.items b.raised.height).low s.items (drop (at_place s.base w) (take (length s.cuts - 1) s.cuts) ++ cut s.cuts (length s.cuts - 1) ∷ [])
    sound-apart = subst (AreSoundAt (at_place s.start w) s.at (item s.items b.raised.height).low s.items) (cuts-apart g t w s b.raised stale.some) b.raised.sound

    complete-apart : AreCompleteAt (at_place s.start w) s.at (item s.items b.raised.height).low s.items (drop (at_place s.base w) (take (length s.cuts - 1) s.cuts) ++ cut s.cuts (length s.cuts - 1) ∷ [])
    complete-apart = subst (AreCompleteAt (at_place s.start w) s.at (item s.items b.raised.height).low s.items) (cuts-apart g t w s b.raised stale.some) b.raised.complete

    raised : IsRaised g t w (cuts_dropped s (length s.cuts - 1))
    raised = record {
      palm = b.raised.palm;
      rest = b.raised.rest;
      places = record { start = b.raised.places.start; base = b.raised.places.base; gone = b.raised.places.gone };
      walk = b.raised.walk;
      from = b.raised.from;
      parent = b.raised.parent;
      inside = b.raised.inside;
      not_root = b.raised.not_root;
      left = b.raised.left;
      held = record { total = b.raised.held.total; state = b.raised.held.state; few = b.raised.held.few; entries = b.raised.held.entries; three = b.raised.held.three; ends = b.raised.held.ends };
      height = b.raised.height;
      atop = b.raised.atop;
      fronds = b.raised.fronds;
      frames = b.raised.frames;
      child_start = b.raised.child_start;
      place = b.raised.place;
      last_gone = b.raised.last_gone;
      place_in = b.raised.place_in;
      last_tree = b.raised.last_tree;
      last_far = b.raised.last_far;
      child_within = b.raised.child_within;
      child_to = b.raised.child_to;
      child_met = b.raised.child_met;
      reached = b.raised.reached;
      first = b.raised.first;
      ahead = b.raised.ahead;
      ahead_last = b.raised.ahead_last;
      frond_last = b.raised.frond_last;
      below = below-kept b.raised.palm.last (tree_parent t.palm t.vertex) w (at_place s.start) (at_place s.base) s.items s.items s.cuts (take (length s.cuts - 1) s.cuts) b.raised.below (λ y z p. refl) (fewer-same g t w s b.raised stale.some) (fewer-within g t w s b.raised stale.some);
      sound = drop-sound (at_place s.start w) s.at (item s.items b.raised.height).low s.items (drop (at_place s.base w) (take (length s.cuts - 1) s.cuts)) (cut s.cuts (length s.cuts - 1)) sound-apart;
      complete = stale-complete (at_place s.start w) s.at (item s.items b.raised.height).low s.items (drop (at_place s.base w) (take (length s.cuts - 1) s.cuts)) (cut s.cuts (length s.cuts - 1)) stale.up (stale.low ∙ top) complete-apart;
      cut_lows = fewer-lows g t w s b.raised stale.some;
    }

-- a tree edge was pushed, and joined or not
pub added-can : (g : Multigraph) (t : NumberedTree) → IsNumbered g t → (w : ℕ) (s : PassState) → IsRaised g t w s → CanJoin g t.vertex s
added-can g t numbered w s b par = raised-can g t numbered w s b par

pub added-back : (g : Multigraph) (t : NumberedTree) → IsNumbered g t → (w : ℕ) (s new : PassState) (b : IsRaised g t w s) → ((c : ℕ) → c < length (drop (at_place s.base w) s.cuts) → (cut (drop (at_place s.base w) s.cuts) c).start < b.height)
    → (joined : Bool) → IsJoined g t.vertex s new joined → IsBack g t w new
added-back g t numbered w s new b starts true j =
    subst (IsBack g t w) (sym (j.1.2 ∙ ap (λ (m : PassState). pushed m (joined_item g s)) j.1.1.now)) (joined-back g t numbered w s b j.0 starts j.1.0 j.1.1)
added-back g t numbered w s new b starts false j = subst (IsBack g t w) (sym j.0) (unjoined-back g t numbered w s b j.1)

module _ (g : Multigraph) (t : NumberedTree) (numbered : IsNumbered g t) (w : ℕ) (s : PassState) (b : IsBack g t w s) where
  abbrev h : ℕ
  h = b.raised.height

  abbrev back : IsReturned b.raised.palm.last s.done s.at (at_place s.start w) b.raised.height s.items b.raised.rest
  back = back-returned g t w s b

  stands : IsStack b.raised.palm.last s.done s.at s.items b.raised.rest
  stands = b.raised.atop.stands

  h-here : b.raised.height < length s.items
  h-here = omega (arith, b.raised.atop.size)

  top-low : (top_item s).low ≡ (item s.items b.raised.height).low
  top-low = ap (λ (k : ℕ). (item s.items k).low) (omega (arith, b.raised.atop.size))

  abbrev cuts : List StackCut
  cuts = drop (at_place s.base w) s.cuts

  -- where the last cut is of use, all are
  none-stale : (IsStale s.at (at_place s.base w) s → ⊥) → (c : ℕ) → c < length (drop (at_place s.base w) s.cuts) → (cut (drop (at_place s.base w) s.cuts) c).up ≡ s.at → (cut (drop (at_place s.base w) s.cuts) c).low ≡ (item s.items b.raised.height).low → ⊥
  none-stale n c l u o = elim (cases_eq (c + 1) (length cuts)) [
    | inl e ↦ n (record { some = some; up = sym (at-last c e) ∙ u'; low = sym (at-last' c e) ∙ (o ∙ sym top-low) })
    | inr e ↦
        let z = length cuts - 1 in
        let d = chain-rises s.items cuts b.raised.sound.chain c (length cuts - 1) (omega (arith, l, e)) (omega (arith, l)) in
        let up-z : (cut cuts (length cuts - 1)).up ≡ s.at = omega (arith, d.1, u, b.raised.sound.up_within (length cuts - 1) (omega (arith, l))) in
        last-not (omega (arith, l)) up-z (omega (arith, d.2, o))
  ]
    where
      some : at_place s.base w < length s.cuts
      some = omega (arith, l, length-drop (at_place s.base w) s.cuts)

      u' : (cut (drop (at_place s.base w) s.cuts) c).up ≡ s.at
      u' = u

      place : (i : ℕ) → i + 1 ≡ length (drop (at_place s.base w) s.cuts) → cut (drop (at_place s.base w) s.cuts) i ≡ cut s.cuts (length s.cuts - 1)
      place i e = get_or-drop (at_place s.base w) s.cuts i no_cut ∙ ap (cut s.cuts) (omega (arith, e, length-drop (at_place s.base w) s.cuts, some))

      at-last : (i : ℕ) → i + 1 ≡ length (drop (at_place s.base w) s.cuts) → (cut (drop (at_place s.base w) s.cuts) i).up ≡ (cut s.cuts (length s.cuts - 1)).up
      at-last i e = ap (λ (y : StackCut). y.up) (place i e)

      at-last' : (i : ℕ) → i + 1 ≡ length (drop (at_place s.base w) s.cuts) → (cut (drop (at_place s.base w) s.cuts) i).low ≡ (cut s.cuts (length s.cuts - 1)).low
      at-last' i e = ap (λ (y : StackCut). y.low) (place i e)

      last-not : 1 ≤ length (drop (at_place s.base w) s.cuts) → (cut (drop (at_place s.base w) s.cuts) (length (drop (at_place s.base w) s.cuts) - 1)).up ≡ s.at → (cut (drop (at_place s.base w) s.cuts) (length (drop (at_place s.base w) s.cuts) - 1)).low ≤ (item s.items b.raised.height).low → ⊥
      last-not some-cut up-z low-z = elim (cases_eq (cut cuts (length cuts - 1)).low (item s.items b.raised.height).low) [
        | inl q ↦ n (record { some = some; up = sym (at-last (length cuts - 1) (omega (arith, some-cut))) ∙ up-z; low = sym (at-last' (length cuts - 1) (omega (arith, some-cut))) ∙ (q ∙ sym top-low) })
        | inr q ↦
            let y = b.raised.sound.each (length cuts - 1) (omega (arith, some-cut)) (λ i d. q d) in
            let in-top = stands.laid.inside b.raised.height y.below.place h-here b.raised.atop.tree (omega (arith, b.raised.atop.start, y.below.starts, start-at b.raised.palm.last s.done s.at s.items b.raised.rest stands y.below.place y.below.tree_at.within)) (omega (arith, y.below.tree_at.within, b.raised.atop.size)) in
            omega (arith, in-top.0, y.below.tree_at.low, low-z, q)
      ]

  -- all cuts that are of use start in front of the last entry
  cut-front : (IsStale s.at (at_place s.base w) s → ⊥) → (c : ℕ) → (l : c < length (drop (at_place s.base w) s.cuts)) → IsSoundAt (at_place s.start w) s.at (item s.items b.raised.height).low s.items (cut (drop (at_place s.base w) s.cuts) c)
  cut-front n c l = b.raised.sound.each c l (λ u o. none-stale n c l u o)

  -- a dart of the lower vertex of a cut is not the last entry
  not-top : (c o : ℕ) → c < length (drop (at_place s.base w) s.cuts) → o < length s.items → owner (item s.items o) ≡ (cut (drop (at_place s.base w) s.cuts) c).low → o < b.raised.height
  not-top c o l m p = elim (cases_eq o b.raised.height) [
    | inr q ↦ omega (arith, q, m, b.raised.atop.size)
    | inl q ↦ absurd (omega (arith, b.raised.cut_lows c l, owner-tree (item s.items o) (cut cuts c).low p (ap (λ (i : ℕ). (item s.items i).tree) q ∙ b.raised.atop.tree), ap (λ (i : ℕ). (item s.items i).up) q, b.raised.atop.up))
  ]

  -- a triangle
  module _ (tri : IsTriangle s) (fresh : IsStale s.at (at_place s.base w) s → ⊥) where
    abbrev k : ℕ
    k = length s.items - 2

    two : 2 ≤ length s.items
    two = omega (arith, b.raised.atop.size, stands.laid.tree_start b.raised.height h-here b.raised.atop.tree)

    k-h : k + 1 ≡ b.raised.height
    k-h = omega (arith, b.raised.atop.size, two)

    k-in : k < length s.items
    k-in = omega (arith, two)

    alone : IsBefore s.items k (item s.items b.raised.height).low → ⊥
    alone m = omega (arith, m.within, b.raised.first.least m.place (item s.items b.raised.height).low (omega (arith, m.within)) m.end, tri.first, ap (slice_index s.first) top-low)

    abbrev side : ℕ → Bool
    side = side_at s.items (λ i. not (nat_lt i (length s.items - 2)) && true)

    off : IsCutOff all_items s.items b.raised.rest k side
    off = cut-off all_items s.items b.raised.rest k stands.left.is_family

    sep : IsSeparation (family s.items b.raised.rest) side s.at (below_item s).low
    sep = triangle-separates b.raised.palm.last s.done s.at (at_place s.start w) h s.items b.raised.rest back k k-h tri.tree alone (above g t numbered w s b.raised) side off

    least : IsLeast s.items b.raised.rest side
    least = triangle-least b.raised.palm.last s.done s.at (at_place s.start w) h s.items b.raised.rest back k k-h tri.tree alone side off

    v-in : s.at < g.vertex_count
    v-in = omega (arith, b.raised.walk.current, b.raised.walk.within)

    low-in : (below_item s).low < g.vertex_count
    low-in = (b.raised.held.ends (entry (item s.items k)) (stack-contains s.items b.raised.rest k k-in)).1

    pub triangle-can : CanSplitOff g t.vertex (λ x. true) (length s.items - 2) s.at (below_item s).low s
    triangle-can = can-split_off g t numbered s b.raised.rest b.raised.held stands.left.is_family all_items k s.at (below_item s).low side off sep v-in low-in least (omega (arith, two))

    module _ (mid : PassState) (e : IsSplitOff g t.vertex (λ x. true) (length s.items - 2) s.at (below_item s).low s mid) where
      abbrev x : StackEntry
      x = new_tree (next_name g s) s.at (below_item s).low (below_item s).start

      abbrev now : PassState
      now = pushed (record s {
        items = take (length s.items - 2) s.items;
        total = s.total + 1 - length e.edges;
        parts = s.parts ++ record { kind = e.kind; own = record { name = next_name g s; first = slice_index t.vertex s.at; second = slice_index t.vertex (below_item s).low }; edges = e.edges } ∷ [];
      }) x

      front-length : length (take k s.items) ≡ k
      front-length = length-take-le k s.items (omega (arith, two))

      now-same : (i : ℕ) → i < k → item now.items i ≡ item s.items i
      now-same i l = item-front (take k s.items) x i (omega (arith, l, front-length)) ∙ item-take s.items k i l

      now-top : item now.items k ≡ x
      now-top = item-last (take k s.items) x k (sym front-length)

      start-x : x.start ≡ at_place s.start w
      start-x = triangle-start b.raised.palm.last s.done s.at (at_place s.start w) h s.items b.raised.rest back k k-h tri.tree alone

      rises-x : (s.at < (below_item s).low) × ((below_item s).low < b.raised.palm.last s.at)
      rises-x =
          let c = b.raised.child_within k (omega (arith, start-x, stands.laid.tree_start k k-in tri.tree)) k-in in
          let p = w-below g t numbered w s b.raised in
          (omega (arith, c.0, p.0), omega (arith, c.1, b.raised.palm.nested s.at w (omega (arith, p.0)) p.1))

      renewed : IsRenewed b.raised.palm.last s.done s.at k k all_items side x s.items now.items b.raised.rest
      renewed = record {
        stands = stands;
        within = k-in;
        size = length-push (take k s.items) x ∙ ap (λ (n : ℕ). n + 1) front-length;
        few = inl refl;
        same = now-same;
        top = now-top;
        mid = λ i a d. absurd (omega (arith, a, d));
        mid_old = λ i a d. absurd (omega (arith, a, d));
        mid_new = λ o a d c. absurd (both_ways true c refl);
        cut = off;
        separates = sep;
        rises = rises-x;
        fresh = λ y c q. omega (arith, q, item-name g t numbered s b.raised.rest b.raised.held stands.left.is_family y c);
        up_path = (omega arith, stands.above s.at);
        trees = λ y q. refl;
        shape = inl (refl, (k, record { within = k-in; tree = tri.tree; low = refl }, omega arith, refl, stands.laid.tree_start k k-in tri.tree));
      }

      ups : (o : ℕ) → k ≤ o → o < length s.items → s.at ≤ (item s.items o).up
      ups o a l = triangle-ups b.raised.palm.last s.done s.at (at_place s.start w) h s.items b.raised.rest back k k-h tri.tree alone side off o l (off.from o a l)

      starts : (c : ℕ) → c < length (drop (at_place s.base w) s.cuts) → (cut (drop (at_place s.base w) s.cuts) c).start < k
      starts c l =
          let y = cut-front fresh c l in
          let m = not-top c y.starts.place l y.starts.within y.starts.owned in
          elim (cases_eq y.starts.place k) [
            | inr q ↦ omega (arith, m, q, k-h, y.starts.starts, start-at b.raised.palm.last s.done s.at s.items b.raised.rest stands y.starts.place y.starts.within)
            | inl q ↦ absurd (omega (arith, y.from, y.starts.starts, ap (λ (i : ℕ). (item s.items i).start) q, start-x))
          ]

      darts-front : (c o : ℕ) → c < length (drop (at_place s.base w) s.cuts) → (cut (drop (at_place s.base w) s.cuts) c).start < k → o < length s.items → owner (item s.items o) ≡ (cut (drop (at_place s.base w) s.cuts) c).low → (item s.items o).start ≡ (cut (drop (at_place s.base w) s.cuts) c).start → o < k
      darts-front c o l less m p q = elim (cases_eq o k) [
        | inr z ↦ omega (arith, z, not-top c o l m p, k-h)
        | inl z ↦ absurd (omega (arith, (cut-front fresh c l).from, q, ap (λ (i : ℕ). (item s.items i).start) z, start-x))
      ]

      held-now : IsHeld g t.vertex now b.raised.rest
      held-now = held-split_off g t numbered s b.raised.rest b.raised.held stands.left.is_family all_items k s.at (below_item s).low side off sep v-in low-in mid now x e (sym (ap (λ (p : PassState). p.parts) e.now)) (sym (ap (λ (p : PassState). p.total) e.now)) refl refl refl
          (family-new b.raised.palm.last s.done s.at k k all_items side x s.items now.items b.raised.rest renewed) (left-within b.raised.palm.last s.done s.at k k all_items side x s.items now.items b.raised.rest renewed) (within-left b.raised.palm.last s.done s.at k k all_items side x s.items now.items b.raised.rest renewed)

      -- a frond from the new lower end is the entry below
      fronds : (i : ℕ) → 4 ≤ now.total → i < k → is_frond_to s.at (item now.items k).low (item now.items i) ≡ true → i + 1 ≡ k
      fronds i four l p = triangle-frond b.raised.palm.last s.done s.at (at_place s.start w) h s.items b.raised.rest back k k-h tri.tree alone
          (omega (arith, four, split_off-two g t numbered s b.raised.rest b.raised.held stands.left.is_family all_items k s.at (below_item s).low side off sep v-in low-in mid e, b.raised.held.total)) i l
          (subst (λ (y : StackEntry). is_frond_to s.at (below_item s).low y ≡ true) (now-same i l) (subst (λ (y : StackEntry). is_frond_to s.at y.low (item now.items i) ≡ true) now-top p))

      pub triangle-raised : IsRaised g t w now
      triangle-raised = raised-now g t numbered w s b.raised k k all_items side x now.items now.first now.total now.parts s.cuts renewed least refl refl start-x ups held-now
          (omega (arith, split_off-two g t numbered s b.raised.rest b.raised.held stands.left.is_family all_items k s.at (below_item s).low side off sep v-in low-in mid e))
          (first-new b.raised.palm.last s.done s.at k k all_items side x s.items now.items b.raised.rest renewed g.vertex_count s.first now.first b.raised.first
          (lowered-length (lowered s.first x.up (length (take k s.items))) x.low (length (take k s.items)) ∙ (lowered-length s.first x.up (length (take k s.items)) ∙ b.raised.first.places))
          (λ z. elim (pushed-at s.first x.up x.low (length (take k s.items)) z (omega (arith, v-in, b.raised.first.places)) (omega (arith, low-in, b.raised.first.places))) [
            | inl q ↦ inl q
            | inr q ↦ inr (omega (arith, q.0, front-length), omega (arith, q.0, front-length), omega (arith, q.0, q.1), q.2)
          ])
          (λ z i a d q. omega (arith, pushed-here s.first x.up x.low (length (take k s.items)) z (omega (arith, v-in, b.raised.first.places)) (omega (arith, low-in, b.raised.first.places)) q, front-length, a)))
          fronds (λ y z p. refl) b.raised.below.base_within
          (replaced-sound b.raised.palm.last s.done s.at k k h all_items side x s.items now.items b.raised.rest renewed refl refl b.raised.atop.size b.raised.atop.tree b.raised.atop.up ups (at_place s.start w) start-x cuts (λ c l. omega (arith, starts c l)) (λ c l q. absurd (omega (arith, q, starts c l)))
          (λ c l u d. absurd (none-stale fresh c l u d)) darts-front b.raised.sound)
          (replaced-complete b.raised.palm.last s.done s.at k k h all_items side x s.items now.items b.raised.rest renewed refl refl b.raised.atop.size b.raised.atop.tree b.raised.atop.up ups (at_place s.start w) start-x cuts cuts (λ c d. inl d) b.raised.complete)
          b.raised.cut_lows

      pub triangle-starts : (c : ℕ) → c < length (drop (at_place s.base w) s.cuts) → (cut (drop (at_place s.base w) s.cuts) c).start < triangle-raised.height
      triangle-starts c l = omega (arith, starts c l, triangle-raised.atop.size, renewed.size)
