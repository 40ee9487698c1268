-- A dart to a child is finished: all below the child is split off, or the dart is noted, or cuts are dropped.
use Rattle.std.proofs.Common.{◌≡◌, ◌≢◌, ℕ, suc, ◌+◌, ◌-◌, ◌<◌, ◌≤◌, ◌⊎◌, inl, inr, Bool, true, not, nat_lt, ◌&&◌, List, [], ◌∷◌, ◌++◌, length, map, filter, take, drop, slice_index, refl, sym, ap, ◌∙◌, subst, arith}
use Rattle.std.proofs.lemmas.Bool.{cases_lt, cases_eq, both_ways}
use Rattle.std.proofs.lemmas.List.{length-append, length-map, length-take-le, length-drop, take-take, take-append-le, drop-append-le, get_or-drop}
use Rattle.multigraph.specs.Graph.{Multigraph, edge_count}
use Rattle.pair_split.specs.Family.{Entry, on_side, IsSeparation}
use Rattle.pair_split.proofs.Elements.{length-weaker, element-some}
use Rattle.pair_split.proofs.Sides.{length-sides, touching-entry}
use Rattle.split_comp.specs.declared.items.StackEntry.{StackEntry}
use Rattle.split_comp.specs.declared.items.StackCut.{StackCut}
use Rattle.split_comp.specs.declared.items.Dart.{Dart}
use Rattle.split_comp.specs.Stack.{item, entry, family, owner, IsStack, IsSorted, IsClean, IsReturned}
use Rattle.split_comp.specs.Palm.{tree_dart, tree_degree, tree_parent, IsFrondTo}
use Rattle.split_comp.specs.Walk.{IsOnPath}
use Rattle.split_comp.specs.Cuts.{no_cut, cut, IsLeastUp, IsBefore, AreSound, AreComplete, AreSoundAt, AreCompleteAt}
use Rattle.split_comp.specs.Frames.{AreAhead, AreCutsBelow}
use Rattle.split_comp.specs.Sides.{IsCutOff, all_items, IsLeast}
use Rattle.split_comp.specs.Noting.{IsNoted, IsDropped}
use Rattle.split_comp.specs.Pass.{NumberedTree, IsNumbered, PassState, IsHeld, at_place, IsPass, IsBack, IsFronted, IsSplitOff, CanSplitOff, IsTriangle, new_frond, pushed, cuts_dropped, next_name, lowered}
use Rattle.split_comp.proofs.Entries.{up-end, item-front, item-last, item-take, length-push, family-cases}
use Rattle.split_comp.proofs.Stretch.{side_at, cut-is}
use Rattle.split_comp.proofs.Renewed.{IsRenewed, stack-new, left-within, within-left, family-new}
use Rattle.split_comp.proofs.RenewedPath.{frames-new, reached-new, first-new}
use Rattle.split_comp.proofs.Lying.{tree-owner, darts-apart}
use Rattle.split_comp.proofs.SplitSides.{none-left, none-whole, side-separates}
use Rattle.split_comp.proofs.LeastSides.{split_off-topped}
use Rattle.split_comp.proofs.Held.{can-split_off, held-split_off, split_off-two, item-name}
use Rattle.split_comp.proofs.Alike.{alike-take}
use Rattle.split_comp.proofs.Noted.{IsFront, cut-left, cut-right, chain-rises, note-sound-new, note-sound-old, note-complete-new, note-complete-old}
use Rattle.split_comp.proofs.Returning.{kill-sound, kill-complete}
use Rattle.split_comp.proofs.Firsts.{cut-off, lowered-length, pushed-at, pushed-here, sorted-to, ahead-to, same-alike}
use Rattle.split_comp.proofs.Fronted.{below-kept, base-up}
use Rattle.split_comp.proofs.Raising.{back-returned, below-path}
use Rattle.split_comp.proofs.Reducing.{base-w, up-path}
use Rattle.split_comp.proofs.Pairing.{no-triangle}

filter-all : {X : Type 0} (l : List X) → length (filter (λ x. true) l) ≡ length l
filter-all [] = refl
filter-all (x ∷ l) = omega (arith, filter-all l)

module _ (g : Multigraph) (t : NumberedTree) (numbered : IsNumbered g t) (w : ℕ) (s : PassState) (b : IsBack g t w s) (no-tri : IsTriangle s → ⊥) (last-cut : at_place s.base w < length s.cuts → (cut s.cuts (length s.cuts - 1)).up ≡ s.at → ⊥) where
  abbrev h : ℕ
  h = b.raised.height

  abbrev last : ℕ → ℕ
  last = b.raised.palm.last

  abbrev back : IsReturned b.raised.palm.last s.done s.at (at_place s.start w) b.raised.height s.items b.raised.rest
  back = back-returned g t w s b

  stands : IsStack b.raised.palm.last s.done s.at s.items b.raised.rest
  stands = b.raised.atop.stands

  h-here : b.raised.height < length s.items
  h-here = omega (arith, b.raised.atop.size)

  abbrev start : ℕ
  start = at_place s.start w

  abbrev cuts : List StackCut
  cuts = drop (at_place s.base w) s.cuts

  abbrev dart : Dart
  dart = tree_dart g t.palm t.vertex s.at b.raised.place

  v-in : s.at < g.vertex_count
  v-in = omega (arith, b.raised.walk.current, b.raised.walk.within)

  s-h : start < b.raised.height
  s-h = omega (arith, b.raised.atop.start, stands.laid.tree_start b.raised.height h-here b.raised.atop.tree)

  -- no cut has the vertex as its upper end
  none : (k : ℕ) → k < length (drop (at_place s.base w) s.cuts) → (cut (drop (at_place s.base w) s.cuts) k).up ≡ s.at → ⊥
  none k l u =
      let some : at_place s.base w < length s.cuts = omega (arith, l, length-drop (at_place s.base w) s.cuts) in
      let e : cut cuts (length cuts - 1) ≡ cut s.cuts (length s.cuts - 1) = get_or-drop (at_place s.base w) s.cuts (length cuts - 1) no_cut ∙ ap (cut s.cuts) (omega (arith, length-drop (at_place s.base w) s.cuts, some)) in
      last-cut some (sym (ap (λ (y : StackCut). y.up) e) ∙ (elim (cases_eq k (length cuts - 1)) [
        | inl q ↦ sym (ap (λ (i : ℕ). (cut cuts i).up) q) ∙ u
        | inr q ↦ let d = chain-rises s.items cuts b.raised.sound.chain k (length cuts - 1) (omega (arith, l, q)) (omega (arith, l)) in omega (arith, d.1, u, b.raised.sound.up_within (length cuts - 1) (omega (arith, l)))
      ]))

  -- what the dart reaches is the least upper end
  reach-less : dart.reach < s.at
  reach-less = (b.raised.palm.reached s.at b.raised.place v-in b.raised.not_root b.raised.place_in b.raised.last_tree).0

  frond-from : (y : ℕ) → IsFrondTo (tree_degree t.palm t.vertex) (tree_dart g t.palm t.vertex) last w y → IsFrondTo (tree_degree t.palm t.vertex) (tree_dart g t.palm t.vertex) last dart.far y
  frond-from y f = subst (λ (z : ℕ). IsFrondTo (tree_degree t.palm t.vertex) (tree_dart g t.palm t.vertex) last z y) (sym b.raised.last_far) f

  reach-met : (i : ℕ) × (start ≤ i) × (i < length s.items) × ((item s.items i).up ≡ dart.reach)
  reach-met =
      let f = (b.raised.palm.reached s.at b.raised.place v-in b.raised.not_root b.raised.place_in b.raised.last_tree).1 in
      b.raised.child_met dart.reach (subst (λ (z : ℕ). IsFrondTo (tree_degree t.palm t.vertex) (tree_dart g t.palm t.vertex) last z dart.reach) b.raised.last_far f) reach-less

  reach-least : (i : ℕ) → start ≤ i → i < length s.items → dart.reach ≤ (item s.items i).up
  reach-least i a l = elim (cases_lt (item s.items i).up s.at) [
    | inr k ↦ omega (arith, k, reach-less)
    | inl k ↦ b.raised.palm.least s.at b.raised.place (item s.items i).up v-in b.raised.place_in b.raised.last_tree (frond-from (item s.items i).up (b.raised.child_to i a l k))
  ]

  next-darts : (k : ℕ) → at_place s.gone s.at ≤ k → k < tree_degree t.palm t.vertex s.at → (dart.reach < (tree_dart g t.palm t.vertex s.at k).reach) ⊎ ((dart.reach ≡ (tree_dart g t.palm t.vertex s.at k).reach) × (dart.class ≤ (tree_dart g t.palm t.vertex s.at k).class))
  next-darts k a l = b.raised.palm.in_order s.at b.raised.place k v-in (omega (arith, a, b.raised.last_gone)) l

  -- all that belongs to the last entry, as a side
  abbrev side : ℕ → Bool
  side = side_at s.items (λ i. not (nat_lt i (at_place s.start w)) && true)

  off : IsCutOff all_items s.items b.raised.rest start side
  off = cut-off all_items s.items b.raised.rest start stands.left.is_family

  side-length : length (on_side side (family s.items b.raised.rest)) + start ≡ length s.items
  side-length = omega (arith, ap length (cut-is all_items s.items b.raised.rest start side off), length-map (filter all_items (drop start s.items)) entry, filter-all (drop start s.items), length-drop start s.items, s-h, h-here)

  least : IsLeast s.items b.raised.rest side
  least u p q d i l on = elim (cases_lt i start) [
    | inl a ↦ absurd (both_ways (side (item s.items i).name) (off.before i a l) on)
    | inr a ↦ none-left last s.done s.at start h s.items b.raised.rest back cuts b.raised.complete (no-triangle g t numbered w s b no-tri) none u p q d i a (omega (arith, l, b.raised.atop.size))
  ]

  rest-some : 1 ≤ length b.raised.rest
  rest-some = let e = touching-entry b.raised.rest s.at stands.left.own in element-some e.0 b.raised.rest e.1

  family-length : length (family s.items b.raised.rest) ≡ length s.items + length b.raised.rest
  family-length = length-append (entries s.items) b.raised.rest ∙ ap (λ (n : ℕ). n + length b.raised.rest) (length-map s.items entry)
    where
      entries : List StackEntry → List Entry
      entries l = map entry l

  -- the cuts of the path to the vertex, without those of w
  abbrev dropped : PassState
  dropped = cuts_dropped s (at_place s.base w)

  w-not : w ≢ 0
  w-not e = omega (arith, e, b.raised.from, b.raised.walk.current)

  w-path : IsOnPath last w w
  w-path = (omega arith, b.raised.palm.above w)

  pub base-within : at_place s.base w ≤ length s.cuts
  base-within = b.raised.below.base_within w w-not w-path

  parent-not : tree_parent t.palm t.vertex w ≢ 0
  parent-not e = b.raised.not_root (sym b.raised.parent ∙ e)

  pub base-rises : at_place s.base s.at ≤ at_place s.base w
  base-rises = subst (λ (y : ℕ). at_place s.base y ≤ at_place s.base w) b.raised.parent (b.raised.below.base_rises w w-not parent-not w-path)

  old-sound : AreSound (at_place s.start s.at) s.at (take start s.items) (drop (at_place s.base s.at) (take (at_place s.base w) s.cuts))
  old-sound = subst (λ (y : ℕ). AreSound (at_place s.start y) y (take start s.items) (drop (at_place s.base y) (take (at_place s.base w) s.cuts))) b.raised.parent (b.raised.below.sound_below w w-not parent-not w-path)

  old-complete : AreComplete (at_place s.start s.at) s.at (take start s.items) (drop (at_place s.base s.at) (take (at_place s.base w) s.cuts))
  old-complete = subst (λ (y : ℕ). AreComplete (at_place s.start y) y (take start s.items) (drop (at_place s.base y) (take (at_place s.base w) s.cuts))) b.raised.parent (b.raised.below.complete_below w w-not parent-not w-path)

  -- what lies further up the path, for stacks and cuts that agree in front
  below-now : (items : List StackEntry) (now : List StackCut) → ((y : ℕ) → y ≢ 0 → IsOnPath last s.at y → take (at_place s.start y) items ≡ take (at_place s.start y) s.items) → ((y : ℕ) → y ≢ 0 → IsOnPath last s.at y → take (at_place s.base y) now ≡ take (at_place s.base y) s.cuts)
      → at_place s.base s.at ≤ length now → AreCutsBelow last (tree_parent t.palm t.vertex) s.at (at_place s.start) (at_place s.base) items now
  below-now items now a c within = below-kept last (tree_parent t.palm t.vertex) s.at (at_place s.start) (at_place s.base) s.items items s.cuts now
      (record {
        base_within = λ y z p. b.raised.below.base_within y z (up-path g t w s b.raised y p);
        base_rises = λ y z m p. b.raised.below.base_rises y z m (up-path g t w s b.raised y p);
        sound_below = λ y z m p. b.raised.below.sound_below y z m (up-path g t w s b.raised y p);
        complete_below = λ y z m p. b.raised.below.complete_below y z m (up-path g t w s b.raised y p);
      }) a c (λ y z p. omega (arith, base-v y z p, within))
    where
      base-v : (y : ℕ) → y ≢ 0 → IsOnPath last s.at y → at_place s.base y ≤ at_place s.base s.at
      base-v y z p = base-up g.vertex_count (edge_count g) (tree_parent t.palm t.vertex) (tree_degree t.palm t.vertex) (tree_dart g t.palm t.vertex) b.raised.palm s.at s.done (at_place s.gone) b.raised.walk (at_place s.base)
          (λ q m n o. b.raised.below.base_rises q m n (up-path g t w s b.raised q o)) (suc s.at) y z p (omega arith)

  -- (a) all below the child is a side of a 2-separation
  module _ (class-two : dart.class ≡ 2) (two : length s.items - start + 2 ≤ s.total) where
    sep : IsSeparation (family s.items b.raised.rest) side dart.reach s.at
    sep = side-separates last s.done s.at start h s.items b.raised.rest back dart.reach (λ i a c u. b.raised.palm.only_one s.at b.raised.place (item s.items i).up v-in b.raised.place_in b.raised.last_tree class-two
        (frond-from (item s.items i).up (b.raised.child_to i a (omega (arith, c, b.raised.atop.size)) u)) u) side off (omega (arith, length-sides (family s.items b.raised.rest) side, side-length, two, b.raised.held.total, s-h, h-here))

    reach-in : dart.reach < g.vertex_count
    reach-in = omega (arith, reach-less, v-in)

    held-dropped : IsHeld g t.vertex dropped b.raised.rest
    held-dropped = record { total = b.raised.held.total; state = b.raised.held.state; few = b.raised.held.few; entries = b.raised.held.entries; three = b.raised.held.three; ends = b.raised.held.ends }

    pub child-can : CanSplitOff g t.vertex (λ x. true) start dart.reach s.at dropped
    child-can = can-split_off g t numbered dropped b.raised.rest held-dropped stands.left.is_family all_items start dart.reach s.at side off sep reach-in v-in least (omega (arith, s-h, h-here))

    module _ (mid : PassState) (e : IsSplitOff g t.vertex (λ x. true) start dart.reach s.at dropped mid) where
      abbrev split_off : PassState
      split_off = record dropped {
        items = take start s.items;
        total = s.total + 1 - length e.edges;
        parts = s.parts ++ record { kind = e.kind; own = record { name = next_name g s; first = slice_index t.vertex dart.reach; second = slice_index t.vertex s.at }; edges = e.edges } ∷ [];
      }

      abbrev x : StackEntry
      x = new_frond (next_name g s) s.at dart.reach split_off

      abbrev now : PassState
      now = pushed split_off x

      front-length : length (take start s.items) ≡ start
      front-length = length-take-le start s.items (omega (arith, s-h, h-here))

      path-reach : s.at < last dart.reach
      path-reach = let i = reach-met in subst (λ (y : ℕ). s.at < last y) i.3 (stands.ended.on_path i.0 (item s.items i.0).up i.2 (up-end (item s.items i.0).up (item s.items i.0) refl) (omega (arith, i.3, reach-less)))

      renewed : IsRenewed last s.done s.at start start all_items side x s.items now.items b.raised.rest
      renewed = record {
        stands = stands;
        within = omega (arith, s-h, h-here);
        size = length-push (take start s.items) x ∙ ap (λ (n : ℕ). n + 1) front-length;
        few = inl refl;
        same = λ i l. item-front (take start s.items) x i (omega (arith, l, front-length)) ∙ item-take s.items start i l;
        top = item-last (take start s.items) x start (sym front-length);
        mid = λ i a d. absurd (omega (arith, a, d));
        mid_old = λ i a d. absurd (omega (arith, a, d));
        mid_new = λ o a d c. absurd (both_ways true c refl);
        cut = off;
        separates = sep;
        rises = (reach-less, path-reach);
        fresh = λ y c q. omega (arith, q, item-name g t numbered s b.raised.rest b.raised.held stands.left.is_family y c);
        up_path = (omega (arith, reach-less), path-reach);
        trees = λ y q. refl;
        shape = inr (refl, refl, front-length);
      }

      abbrev stands-now : IsStack last s.done s.at now.items b.raised.rest
      stands-now = stack-new last s.done s.at start start all_items side x s.items now.items b.raised.rest renewed

      starts : (z : ℕ) → z ≢ 0 → IsOnPath last s.at z → at_place s.start z ≤ start
      starts z n p = below-path g t numbered w s b.raised z start n p (omega arith) (omega (arith, s-h, h-here))

      held-now : IsHeld g t.vertex now b.raised.rest
      held-now = held-split_off g t numbered dropped b.raised.rest held-dropped stands.left.is_family all_items start dart.reach s.at side off sep reach-in v-in mid now x e (sym (ap (λ (p : PassState). p.parts) e.now)) (sym (ap (λ (p : PassState). p.total) e.now)) refl refl refl
          (family-new last s.done s.at start start all_items side x s.items now.items b.raised.rest renewed) (left-within last s.done s.at start start all_items side x s.items now.items b.raised.rest renewed) (within-left last s.done s.at start start all_items side x s.items now.items b.raised.rest renewed)

      fewer : length (family now.items b.raised.rest) ≤ length (family s.items b.raised.rest)
      fewer = omega (arith, held-now.total, b.raised.held.total, split_off-two g t numbered dropped b.raised.rest held-dropped stands.left.is_family all_items start dart.reach s.at side off sep reach-in v-in mid e)

      top-up : (item now.items start).up ≡ dart.reach
      top-up = ap (λ (y : StackEntry). y.up) renewed.top

      front-same : (i : ℕ) → i < start → item s.items i ≡ item now.items i
      front-same i l = sym (renewed.same i l)

      pub child-fronted : IsFronted g t now
      child-fronted = record {
        palm = b.raised.palm;
        rest = b.raised.rest;
        places = record { start = b.raised.places.start; base = b.raised.places.base; gone = b.raised.places.gone };
        walk = b.raised.walk;
        not_root = b.raised.not_root;
        left = b.raised.left;
        held = held-now;
        height = start;
        size = renewed.size;
        frond = ap (λ (y : StackEntry). y.tree) renewed.top;
        low = ap (λ (y : StackEntry). y.low) renewed.top;
        stands = stands-now;
        topped = split_off-topped last s.done s.at start start all_items side x s.items now.items b.raised.rest renewed least;
        frames = frames-new last s.done s.at start start all_items side x s.items now.items b.raised.rest renewed (at_place s.start) (λ q. absurd (both_ways x.tree refl q)) b.raised.frames starts;
        reached = reached-new last s.done s.at start start all_items side x s.items now.items b.raised.rest renewed (tree_dart g t.palm t.vertex) (at_place s.gone) (at_place s.start) b.raised.frames starts b.raised.reached;
        first = first-new last s.done s.at start start all_items side x s.items now.items b.raised.rest renewed g.vertex_count s.first now.first b.raised.first
            (lowered-length (lowered s.first x.up (length (take start s.items))) x.low (length (take start s.items)) ∙ (lowered-length s.first x.up (length (take start s.items)) ∙ b.raised.first.places))
            (λ z. elim (pushed-at s.first x.up x.low (length (take start s.items)) z (omega (arith, reach-in, b.raised.first.places)) (omega (arith, v-in, b.raised.first.places))) [
              | inl q ↦ inl q
              | inr q ↦ inr (omega (arith, q.0, front-length), omega (arith, q.0, front-length), omega (arith, q.0, q.1), q.2)
            ])
            (λ z i a d q. omega (arith, pushed-here s.first x.up x.low (length (take start s.items)) z (omega (arith, reach-in, b.raised.first.places)) (omega (arith, v-in, b.raised.first.places)) q, front-length, a));
        sorted = sorted-to start s.items now.items (same-alike start s.items now.items front-same) s.at b.raised.rest b.raised.rest fewer
            (record { reach_rises = λ u q j l m. b.raised.atop.sorted.reach_rises u q j l (omega (arith, m, s-h)); frond_rises = λ u q j four l m. b.raised.atop.sorted.frond_rises u q j four l (omega (arith, m, s-h)) });
        ahead = ahead-to start s.items now.items (same-alike start s.items now.items front-same) last (tree_degree t.palm t.vertex) (tree_dart g t.palm t.vertex) (at_place s.gone) (at_place s.gone) s.at b.raised.rest b.raised.rest fewer (λ u. omega arith)
            (record { reach_ahead = λ u q k z p l. b.raised.ahead.reach_ahead u q k z p (omega (arith, l, s-h)); frond_ahead = λ u q k four z p l. b.raised.ahead.frond_ahead u q k four z p (omega (arith, l, s-h)) });
        reach_last = λ q l o.
            let i = b.raised.ahead_last q (omega (arith, l, s-h)) (ap (λ (y : StackEntry). owner y) (front-same q l) ∙ o) in
            (i.0, omega (arith, i.1, ap (λ (y : StackEntry). y.start) (front-same q l)), i.2, omega (arith, i.3, top-up, ap (λ (y : StackEntry). y.up) (front-same i.0 (omega (arith, i.2, l)))));
        frond_last = λ q four l o f. elim (b.raised.frond_last q (omega (arith, four, fewer)) (omega (arith, l, s-h)) (ap (λ (y : StackEntry). owner y) (front-same q l) ∙ o) (ap (λ (y : StackEntry). y.tree) (front-same q l) ∙ f)) [
          | inl k ↦ omega (arith, k, top-up, ap (λ (y : StackEntry). y.up) (front-same q l))
          | inr k ↦ omega (arith, k.0, top-up, ap (λ (y : StackEntry). y.up) (front-same q l))
        ];
        next = λ k a l. elim (next-darts k a l) [ inl q ↦ inl (omega (arith, q, top-up)) | inr q ↦ inr (omega (arith, q.0, top-up), omega (arith, q.1, class-two)) ];
        starts = b.raised.child_start;
        below = below-now now.items (take (at_place s.base w) s.cuts) (λ y z p. alike-take now.items s.items (at_place s.start y) (omega (arith, starts y z p, renewed.size)) (omega (arith, starts y z p, s-h, h-here)) (λ i l. renewed.same i (omega (arith, l, starts y z p))))
            (λ y z p. take-take (at_place s.base y) (at_place s.base w) s.cuts (base-w g t w s b.raised y z (up-path g t w s b.raised y p))) (omega (arith, base-rises, length-take-le (at_place s.base w) s.cuts base-within));
        sound = subst (λ (l : List StackEntry). AreSound (at_place s.start s.at) s.at l (drop (at_place s.base s.at) (take (at_place s.base w) s.cuts))) front-items old-sound;
        complete = subst (λ (l : List StackEntry). AreComplete (at_place s.start s.at) s.at l (drop (at_place s.base s.at) (take (at_place s.base w) s.cuts))) front-items old-complete;
      }
        where
          front-items : take start s.items ≡ take start now.items
          front-items = alike-take s.items now.items start (omega (arith, s-h, h-here)) (omega (arith, renewed.size)) front-same

  -- (b), (c): nothing is split off
  module _ (kept : (dart.class ≡ 2) → s.total < length s.items - start + 2) where
    class-cases : (dart.class ≡ 0) ⊎ (dart.class ≡ 2)
    class-cases = b.raised.palm.tree_class s.at b.raised.place v-in b.raised.place_in b.raised.last_tree

    -- with all but one entry below the child, nothing lies in front
    start-zero : dart.class ≡ 2 → start ≡ 0
    start-zero q = omega (arith, kept q, b.raised.held.total, family-length, rest-some, s-h, h-here)

    sorted-all : IsSorted s.at (length s.items) s.items b.raised.rest
    sorted-all = record {
      reach_rises = λ u q j l m e a d c. elim (cases_lt q b.raised.height) [
        | inl k ↦ b.raised.atop.sorted.reach_rises u q j l k e a d c
        | inr k ↦
            let q-h : q ≡ b.raised.height = omega (arith, k, m, b.raised.atop.size) in
            let i = b.raised.ahead_last u (omega (arith, l, q-h)) (e ∙ (ap (λ (n : ℕ). owner (item s.items n)) q-h ∙ (tree-owner (item s.items b.raised.height) b.raised.atop.tree ∙ b.raised.atop.up))) in
            (i.0, i.1, i.2, omega (arith, i.3, reach-least j (omega (arith, a, ap (λ (n : ℕ). (item s.items n).start) q-h, b.raised.atop.start)) (omega (arith, d, m))))
      ];
      frond_rises = λ u q j four l m e f c a d. elim (cases_lt q b.raised.height) [
        | inl k ↦ b.raised.atop.sorted.frond_rises u q j four l k e f c a d
        | inr k ↦
            let q-h : q ≡ b.raised.height = omega (arith, k, m, b.raised.atop.size) in
            let u-h : u < b.raised.height = omega (arith, l, q-h) in
            let o : owner (item s.items u) ≡ s.at = e ∙ (ap (λ (n : ℕ). owner (item s.items n)) q-h ∙ (tree-owner (item s.items b.raised.height) b.raised.atop.tree ∙ b.raised.atop.up)) in
            let low = reach-least j (omega (arith, a, ap (λ (n : ℕ). (item s.items n).start) q-h, b.raised.atop.start)) (omega (arith, d, m)) in
            elim class-cases [
              | inl z ↦ elim (b.raised.frond_last u four u-h o f) [ inl n ↦ omega (arith, n, low) | inr n ↦ absurd (omega (arith, n.1, z)) ]
              | inr z ↦ absurd (omega (arith, start-zero z, b.raised.atop.start, darts-apart last s.done s.at s.items b.raised.rest stands u b.raised.height u-h h-here (o ∙ sym (tree-owner (item s.items b.raised.height) b.raised.atop.tree ∙ b.raised.atop.up))))
            ]
      ];
    }

    ahead-all : AreAhead last (tree_degree t.palm t.vertex) (tree_dart g t.palm t.vertex) (at_place s.gone) s.at (length s.items) s.items b.raised.rest
    ahead-all = record {
      reach_ahead = λ u q k z p l e a d. elim (cases_lt q b.raised.height) [
        | inl c ↦ b.raised.ahead.reach_ahead u q k z p c e a d
        | inr c ↦
            let q-h : q ≡ b.raised.height = omega (arith, c, l, b.raised.atop.size) in
            let u-v : u ≡ s.at = sym e ∙ (ap (λ (n : ℕ). owner (item s.items n)) q-h ∙ (tree-owner (item s.items b.raised.height) b.raised.atop.tree ∙ b.raised.atop.up)) in
            let i = reach-met in
            (i.0, omega (arith, i.1, ap (λ (n : ℕ). (item s.items n).start) q-h, b.raised.atop.start), omega (arith, i.2, q-h, b.raised.atop.size), omega (arith, i.3, further u k u-v a d))
      ];
      frond_ahead = λ u q k four z p l e f a d. elim (cases_lt q b.raised.height) [
        | inl c ↦ b.raised.ahead.frond_ahead u q k four z p c e f a d
        | inr c ↦ let q-h : q ≡ b.raised.height = omega (arith, c, l, b.raised.atop.size) in absurd (both_ways (item s.items q).tree f (ap (λ (n : ℕ). (item s.items n).tree) q-h ∙ b.raised.atop.tree))
      ];
    }
      where
        further : (u k : ℕ) → u ≡ s.at → at_place s.gone u ≤ k → k < tree_degree t.palm t.vertex u → dart.reach ≤ (tree_dart g t.palm t.vertex u k).reach
        further u k e a d =
            let same = ap (λ (y : ℕ). (tree_dart g t.palm t.vertex y k).reach) e in
            elim (next-darts k (omega (arith, a, ap (at_place s.gone) e)) (omega (arith, d, ap (tree_degree t.palm t.vertex) e))) [ inl q ↦ omega (arith, q, same) | inr q ↦ omega (arith, q.0, same) ]

    clean-all : IsClean s.items b.raised.rest
    clean-all u p q d = elim class-cases [
      | inl z ↦
          let f = none-whole last s.done s.at start h s.items b.raised.rest back cuts b.raised.complete (no-triangle g t numbered w s b no-tri) none u p q d in
          let y = b.raised.palm.another s.at b.raised.place v-in b.raised.not_root b.raised.place_in b.raised.last_tree z in
          let one = reach-met in
          let two = b.raised.child_met y.0 (subst (λ (n : ℕ). IsFrondTo (tree_degree t.palm t.vertex) (tree_dart g t.palm t.vertex) last n y.0) b.raised.last_far y.1) y.3 in
          omega (arith, f.1 one.0 one.1 (omega (arith, one.2, b.raised.atop.size)) (omega (arith, one.3, reach-less)), f.1 two.0 two.1 (omega (arith, two.2, b.raised.atop.size)) (omega (arith, two.3, y.3)), one.3, two.3, y.2)
      | inr z ↦
          let more : length (on_side side (family s.items b.raised.rest)) ≤ length (on_side u (family s.items b.raised.rest)) = length-weaker (λ (y : Entry). side y.name) (λ (y : Entry). u y.name) (family s.items b.raised.rest) (λ y c on. elim (family-cases s.items b.raised.rest y c) [
            | inl i ↦ ap (λ (k : Entry). u k.name) i.2 ∙ least u p q d i.0 i.1 (ap (λ (k : Entry). side k.name) (sym i.2) ∙ on)
            | inr i ↦ absurd (both_ways (side y.name) (off.off y i) on)
          ]) in
          omega (arith, more, d.separates.two_outside, length-sides (family s.items b.raised.rest) u, side-length, kept z, b.raised.held.total, s-h, h-here)
    ]

    pass-on : (now : List StackCut) → AreCutsBelow last (tree_parent t.palm t.vertex) s.at (at_place s.start) (at_place s.base) s.items now → AreSound (at_place s.start s.at) s.at s.items (drop (at_place s.base s.at) now)
        → AreComplete (at_place s.start s.at) s.at s.items (drop (at_place s.base s.at) now) → IsPass g t (record s { cuts = now })
    pass-on more below sound complete = record {
      palm = b.raised.palm;
      rest = b.raised.rest;
      places = record { start = b.raised.places.start; base = b.raised.places.base; gone = b.raised.places.gone };
      walk = b.raised.walk;
      going = λ z. absurd (b.raised.not_root z);
      left = b.raised.left;
      held = record { total = b.raised.held.total; state = b.raised.held.state; few = b.raised.held.few; entries = b.raised.held.entries; three = b.raised.held.three; ends = b.raised.held.ends };
      stands = stands;
      frames = b.raised.frames;
      reached = b.raised.reached;
      first = b.raised.first;
      sorted = sorted-all;
      ahead = ahead-all;
      clean = clean-all;
      cuts = record { below = below; sound = λ z. sound; complete = λ z. complete };
    }

    -- (b) a further dart is noted
    module _ (late : at_place s.start s.at < start) (now : List StackCut) (n : IsNoted (at_place s.base s.at) (record { start = start; up = dart.reach; low = s.at }) (take (at_place s.base w) s.cuts) now) where
      abbrev base : ℕ
      base = at_place s.base s.at

      front : IsFront (take start s.items) s.items start
      front = record { size = length-take-le start s.items (omega (arith, s-h, h-here)); within = omega (arith, s-h, h-here); same = λ i l. item-take s.items start i l }

      split : drop base (take (at_place s.base w) s.cuts) ≡ drop base n.kept ++ n.taken.popped
      split = ap (drop base) n.taken.parts ∙ drop-append-le base n.kept n.taken.popped n.taken.from

      now-drop : drop base now ≡ drop base n.kept ++ n.answer ∷ []
      now-drop = ap (drop base) n.parts ∙ drop-append-le base n.kept (n.answer ∷ []) n.taken.from

      sound-old : AreSound (at_place s.start s.at) s.at (take start s.items) (drop base n.kept ++ n.taken.popped)
      sound-old = subst (AreSound (at_place s.start s.at) s.at (take start s.items)) split old-sound

      complete-old : AreComplete (at_place s.start s.at) s.at (take start s.items) (drop base n.kept ++ n.taken.popped)
      complete-old = subst (AreComplete (at_place s.start s.at) s.at (take start s.items)) split old-complete

      kept-length : length (drop base n.kept) + base ≡ length n.kept
      kept-length = omega (arith, length-drop base n.kept, n.taken.from)

      lower : (k : ℕ) → k < length (drop base n.kept) → (cut (drop base n.kept) k).up ≤ dart.reach
      lower k m = elim n.taken.stops [
        | inl e ↦ absurd (omega (arith, m, kept-length, e))
        | inr e ↦
            let at : cut (drop base n.kept) (length (drop base n.kept) - 1) ≡ cut n.kept (length n.kept - 1) = get_or-drop base n.kept (length (drop base n.kept) - 1) no_cut ∙ ap (cut n.kept) (omega (arith, kept-length, m)) in
            elim (cases_eq k (length (drop base n.kept) - 1)) [
              | inl q ↦ omega (arith, ap (λ (j : ℕ). (cut (drop base n.kept) j).up) q, ap (λ (c : StackCut). c.up) at, e)
              | inr q ↦
                  let c = chain-rises (take start s.items) (drop base n.kept ++ n.taken.popped) sound-old.chain k (length (drop base n.kept) - 1) (omega (arith, m, q)) (omega (arith, m, length-append (drop base n.kept) n.taken.popped)) in
                  omega (arith, c.1, ap (λ (c : StackCut). c.up) (cut-left (drop base n.kept) n.taken.popped k m), ap (λ (c : StackCut). c.up) (cut-left (drop base n.kept) n.taken.popped (length (drop base n.kept) - 1) (omega (arith, m))), ap (λ (c : StackCut). c.up) at, e)
            ]
      ]

      reach-up : IsLeastUp s.items start dart.reach
      reach-up = let i = reach-met in record { least = reach-least; place = i.0; from = i.1; within = i.2; attained = i.3 }

      owned : owner (item s.items b.raised.height) ≡ s.at
      owned = tree-owner (item s.items b.raised.height) b.raised.atop.tree ∙ b.raised.atop.up

      list-cases : (p : List StackCut) → (p ≡ []) ⊎ ((c : StackCut) × (more : List StackCut) × (p ≡ c ∷ more))
      list-cases [] = inl refl
      list-cases (c ∷ more) = inr (c, more, refl)

      sound-now : AreSound (at_place s.start s.at) s.at s.items (drop base now)
      sound-now = subst (AreSound (at_place s.start s.at) s.at s.items) (sym now-drop) (elim (list-cases n.taken.popped) [
        | inl e ↦ subst (λ (c : StackCut). AreSound (at_place s.start s.at) s.at s.items (drop base n.kept ++ c ∷ [])) (sym (n.taken.none e))
            (note-sound-new last s.done s.at (at_place s.start s.at) start dart.reach h (take start s.items) s.items b.raised.rest (drop base n.kept) n.taken.popped stands front late b.raised.atop.size owned b.raised.atop.start (omega (arith, s-h)) reach-up reach-less sound-old lower n.taken.lower e)
        | inr e ↦ subst (λ (c : StackCut). AreSound (at_place s.start s.at) s.at s.items (drop base n.kept ++ c ∷ [])) (sym (n.taken.some e.0 e.1 e.2))
            (note-sound-old last s.done s.at (at_place s.start s.at) start dart.reach h (take start s.items) s.items b.raised.rest (drop base n.kept) n.taken.popped stands front late b.raised.atop.size owned b.raised.atop.start (omega (arith, s-h)) reach-up reach-less sound-old lower n.taken.lower e.0 e.1 e.2)
      ])

      complete-now : AreComplete (at_place s.start s.at) s.at s.items (drop base now)
      complete-now = subst (AreComplete (at_place s.start s.at) s.at s.items) (sym now-drop) (elim (list-cases n.taken.popped) [
        | inl e ↦ subst (λ (c : StackCut). AreComplete (at_place s.start s.at) s.at s.items (drop base n.kept ++ c ∷ [])) (sym (n.taken.none e))
            (note-complete-new last s.done s.at (at_place s.start s.at) start dart.reach h (take start s.items) s.items b.raised.rest (drop base n.kept) n.taken.popped stands front late b.raised.atop.size owned b.raised.atop.start (omega (arith, s-h)) reach-up reach-less sound-old lower n.taken.lower b.raised.atop.topped complete-old e)
        | inr e ↦ subst (λ (c : StackCut). AreComplete (at_place s.start s.at) s.at s.items (drop base n.kept ++ c ∷ [])) (sym (n.taken.some e.0 e.1 e.2))
            (note-complete-old last s.done s.at (at_place s.start s.at) start dart.reach h (take start s.items) s.items b.raised.rest (drop base n.kept) n.taken.popped stands front late b.raised.atop.size owned b.raised.atop.start (omega (arith, s-h)) reach-up reach-less sound-old lower n.taken.lower b.raised.atop.topped complete-old e.0 e.1 e.2)
      ])

      pub noted-pass : IsPass g t (record s { cuts = now })
      noted-pass = pass-on now (below-now s.items now (λ y z p. refl)
          (λ y z p. ap (take (at_place s.base y)) n.parts ∙ (take-append-le (at_place s.base y) n.kept (n.answer ∷ []) (base-le y z p) ∙ (sym (take-append-le (at_place s.base y) n.kept n.taken.popped (base-le y z p)) ∙ (ap (take (at_place s.base y)) (sym n.taken.parts)
          ∙ take-take (at_place s.base y) (at_place s.base w) s.cuts (base-w g t w s b.raised y z (up-path g t w s b.raised y p))))))
          (omega (arith, n.taken.from, ap length n.parts, length-append n.kept (n.answer ∷ [])))) sound-now complete-now
        where
          base-le : (y : ℕ) → y ≢ 0 → IsOnPath last s.at y → at_place s.base y ≤ length n.kept
          base-le y z p = omega (
            arith,
            base-up g.vertex_count (edge_count g) (tree_parent t.palm t.vertex) (tree_degree t.palm t.vertex) (tree_dart g t.palm t.vertex) b.raised.palm s.at s.done (at_place s.gone) b.raised.walk (at_place s.base)
                (λ q m i o. b.raised.below.base_rises q m i (up-path g t w s b.raised q o)) (suc s.at) y z p (omega arith),
            n.taken.from,
          )

    -- (c) the first dart: cuts before which the vertex is met are dropped
    module _ (first-dart : start ≤ at_place s.start s.at) (now : List StackCut) (d : IsDropped (at_place s.base w) (slice_index s.first s.at) s.cuts now) where
      start-same : at_place s.start s.at ≡ start
      start-same = omega (arith, first-dart, b.raised.child_start)

      -- the vertex had no cuts
      base-same : at_place s.base s.at ≡ at_place s.base w
      base-same = elim (cases_lt (at_place s.base s.at) (at_place s.base w)) [
        | inr a ↦ omega (arith, a, base-rises)
        | inl a ↦ let c = old-sound.each 0 (omega (arith, a, length-drop (at_place s.base s.at) (take (at_place s.base w) s.cuts), length-take-le (at_place s.base w) s.cuts base-within)) in
            absurd (omega (arith, c.from, c.within, length-take-le start s.items (omega (arith, s-h, h-here)), start-same))
      ]

      split-c : drop (at_place s.base w) s.cuts ≡ drop (at_place s.base w) now ++ d.popped
      split-c = ap (drop (at_place s.base w)) d.parts ∙ drop-append-le (at_place s.base w) now d.popped d.from

      sounds : AreSoundAt start s.at (item s.items b.raised.height).low s.items (drop (at_place s.base w) now ++ d.popped)
      sounds = subst (AreSoundAt start s.at (item s.items b.raised.height).low s.items) split-c b.raised.sound

      first-met : (k : ℕ) → k < length d.popped → IsBefore s.items (cut d.popped k).start s.at
      first-met k l = elim (b.raised.first.attained s.at v-in (inl (omega (arith, b.raised.walk.current)))) [
        | inl e ↦ absurd (omega (arith, e, d.behind k l, start-in, few))
        | inr e ↦ record { place = slice_index s.first s.at; within = d.behind k l; end = e.1 }
      ]
        where
          place : ℕ
          place = length (drop (at_place s.base w) now) + k

          at : cut (drop (at_place s.base w) now ++ d.popped) (length (drop (at_place s.base w) now) + k) ≡ cut d.popped k
          at = cut-right (drop (at_place s.base w) now) d.popped k

          start-in : (cut d.popped k).start < length s.items
          start-in = omega (arith, (sounds.each (length (drop (at_place s.base w) now) + k) (omega (arith, l, length-append (drop (at_place s.base w) now) d.popped)) (λ u o. none-here u)).within, ap (λ (y : StackCut). y.start) at)
            where
              none-here : (cut (drop (at_place s.base w) now ++ d.popped) (length (drop (at_place s.base w) now) + k)).up ≡ s.at → ⊥
              none-here u = none (length (drop (at_place s.base w) now) + k) (omega (arith, l, ap length split-c, length-append (drop (at_place s.base w) now) d.popped)) (ap (λ (c : List StackCut). (cut c (length (drop (at_place s.base w) now) + k)).up) split-c ∙ u)

          few : length s.items < 4294967295
          few = omega (arith, b.raised.held.few, b.raised.held.total, family-length, numbered.limits.few_edges)

      not-met : (k : ℕ) → k < length (drop (at_place s.base w) now) → IsBefore s.items (cut (drop (at_place s.base w) now) k).start s.at → ⊥
      not-met k l m =
          let first-le = b.raised.first.least m.place s.at (omega (arith, m.within, kept-in)) m.end in
          elim d.stops [
            | inl e ↦ omega (arith, l, e, length-drop (at_place s.base w) now)
            | inr e ↦ omega (arith, m.within, first-le, e, kept-le)
          ]
        where
          some : 1 ≤ length (drop (at_place s.base w) now)
          some = omega (arith, l)

          end-at : cut (drop (at_place s.base w) now) (length (drop (at_place s.base w) now) - 1) ≡ cut now (length now - 1)
          end-at = get_or-drop (at_place s.base w) now (length (drop (at_place s.base w) now) - 1) no_cut ∙ ap (cut now) (omega (arith, length-drop (at_place s.base w) now, l))

          at : cut (drop (at_place s.base w) now ++ d.popped) k ≡ cut (drop (at_place s.base w) now) k
          at = cut-left (drop (at_place s.base w) now) d.popped k l

          kept-le : (cut (drop (at_place s.base w) now) k).start ≤ (cut now (length now - 1)).start
          kept-le = elim (cases_eq k (length (drop (at_place s.base w) now) - 1)) [
            | inl q ↦ omega (arith, ap (λ (i : ℕ). (cut (drop (at_place s.base w) now) i).start) q, ap (λ (c : StackCut). c.start) end-at)
            | inr q ↦
                let c = chain-rises s.items (drop (at_place s.base w) now ++ d.popped) sounds.chain k (length (drop (at_place s.base w) now) - 1) (omega (arith, l, q)) (omega (arith, l, length-append (drop (at_place s.base w) now) d.popped)) in
                omega (arith, c.0, ap (λ (y : StackCut). y.start) at, ap (λ (y : StackCut). y.start) (cut-left (drop (at_place s.base w) now) d.popped (length (drop (at_place s.base w) now) - 1) (omega (arith, l))), ap (λ (y : StackCut). y.start) end-at)
          ]

          kept-in : (cut (drop (at_place s.base w) now) k).start < length s.items
          kept-in = omega (arith, (sounds.each k (omega (arith, l, length-append (drop (at_place s.base w) now) d.popped)) (λ u o. none-here u)).within, ap (λ (y : StackCut). y.start) at)
            where
              none-here : (cut (drop (at_place s.base w) now ++ d.popped) k).up ≡ s.at → ⊥
              none-here u = none k (omega (arith, l, ap length split-c, length-append (drop (at_place s.base w) now) d.popped)) (ap (λ (c : List StackCut). (cut c k).up) split-c ∙ u)

      pub killed-pass : IsPass g t (record s { cuts = now })
      killed-pass = pass-on now (below-now s.items now (λ y z p. refl)
          (λ y z p. sym (take-append-le (at_place s.base y) now d.popped (base-le y z p)) ∙ ap (take (at_place s.base y)) (sym d.parts)) (omega (arith, base-rises, d.from)))
          (subst (λ (y : ℕ). AreSound (at_place s.start s.at) s.at s.items (drop y now)) (sym base-same) (subst (λ (y : ℕ). AreSound y s.at s.items (drop (at_place s.base w) now)) (sym start-same)
          (kill-sound last s.done s.at start h s.items b.raised.rest (drop (at_place s.base w) now) d.popped back sounds (λ k l u. none k (omega (arith, l, ap length split-c)) (ap (λ (c : List StackCut). (cut c k).up) split-c ∙ u)) not-met)))
          (subst (λ (y : ℕ). AreComplete (at_place s.start s.at) s.at s.items (drop y now)) (sym base-same) (subst (λ (y : ℕ). AreComplete y s.at s.items (drop (at_place s.base w) now)) (sym start-same)
          (kill-complete last s.done s.at start h s.items b.raised.rest (drop (at_place s.base w) now) d.popped back (at_place s.start) b.raised.not_root b.raised.frames start-same
          (subst (AreCompleteAt start s.at (item s.items b.raised.height).low s.items) split-c b.raised.complete) first-met)))
        where
          base-le : (y : ℕ) → y ≢ 0 → IsOnPath last s.at y → at_place s.base y ≤ length now
          base-le y z p = omega (arith, base-w g t w s b.raised y z (up-path g t w s b.raised y p), d.from)
