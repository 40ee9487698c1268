-- The pass has returned: what lies behind the last cut is split off, where its upper end is the vertex.
use Rattle.std.proofs.Common.{◌≡◌, ◌≢◌, ℕ, ◌+◌, ◌-◌, ◌<◌, ◌≤◌, ◌⊎◌, inl, inr, Bool, true, false, not, nat_lt, ◌&&◌, None, Some, List, [], ◌∷◌, ◌++◌, length, map, take, drop, slice_index, refl, sym, ap, ◌∙◌, subst, arith, Contains}
use Rattle.std.proofs.lemmas.Bool.{cases_Bool, cases_lt, cases_eq, both_ways, not_from_false, eq-eqb}
use Rattle.std.proofs.lemmas.List.{length-append, length-map, length-take-le, length-drop, get_or-drop}
use Rattle.std.proofs.lemmas.List.Elements.{Contains-push_cases}
use Rattle.multigraph.specs.Graph.{Multigraph}
use Rattle.pair_split.specs.Family.{Entry, has_end, IsSeparation}
use Rattle.split_comp.specs.declared.items.StackEntry.{StackEntry}
use Rattle.split_comp.specs.declared.items.StackCut.{StackCut}
use Rattle.split_comp.specs.Stack.{no_item, item, entry, family, owner, IsTreeAt, IsStack, IsReturned, AreFirst}
use Rattle.split_comp.specs.Cuts.{cut, IsSoundAt, AreSoundAt, AreCompleteAt}
use Rattle.split_comp.specs.Sides.{is_frond_to, IsCutOff, but_frond, IsLeast, HasNoTriangle}
use Rattle.split_comp.specs.Pass.{NumberedTree, IsNumbered, PassState, IsHeld, at_place, IsRaised, IsBack, IsSplitOff, CanSplitOff, IsTriangle, IsStale, IsFrondFound, top_item, new_tree, pushed, cuts_dropped, next_name, lowered, goes}
use Rattle.split_comp.proofs.Entries.{low-end, stack-contains, item-front, item-last, item-take, length-push}
use Rattle.split_comp.proofs.Stretch.{side_at}
use Rattle.split_comp.proofs.Renewed.{IsRenewed, frond-parts, left-within, within-left, family-new}
use Rattle.split_comp.proofs.RenewedPath.{first-new}
use Rattle.split_comp.proofs.Lying.{start-at, owner-end, dart-over, darts-apart}
use Rattle.split_comp.proofs.LeastUp.{touching-tree}
use Rattle.split_comp.proofs.SplitSides.{ups-behind, pair-separates, pair-least, pair-frond, fronds-once}
use Rattle.split_comp.proofs.Held.{can-split_off, held-split_off, split_off-two, item-name}
use Rattle.split_comp.proofs.Returning.{drop-sound, replaced-sound, replaced-complete}
use Rattle.split_comp.proofs.Noted.{chain-rises, cut-left, cut-push}
use Rattle.split_comp.proofs.Firsts.{cut-off, lowered-length, pushed-at, pushed-here}
use Rattle.split_comp.proofs.Raising.{back-returned, w-below, raised-now}
use Rattle.split_comp.proofs.Joining.{above}
use Rattle.split_comp.proofs.Reducing.{cuts-apart, fewer-same, fewer-within, fewer-lows}

module _ (g : Multigraph) (t : NumberedTree) (numbered : IsNumbered g t) (w : ℕ) (s : PassState) (b : IsBack g t w s) where
  abbrev h : ℕ
  h = b.raised.height

  abbrev back : IsReturned b.raised.palm.last s.done s.at (at_place s.start w) b.raised.height s.items b.raised.rest
  back = back-returned g t w s b

  stands : IsStack b.raised.palm.last s.done s.at s.items b.raised.rest
  stands = b.raised.atop.stands

  h-here : b.raised.height < length s.items
  h-here = omega (arith, b.raised.atop.size)

  h-few : b.raised.height < 4294967295
  h-few = omega (arith, b.raised.held.few, b.raised.held.total, length-append (entries s.items) b.raised.rest, length-map s.items entry, h-here, numbered.limits.few_edges)
    where
      entries : List StackEntry → List Entry
      entries l = map entry l

  top-low : (top_item s).low ≡ (item s.items b.raised.height).low
  top-low = ap (λ (k : ℕ). (item s.items k).low) (omega (arith, b.raised.atop.size))

  -- where the test for a triangle fails, there is none
  pub no-triangle : (IsTriangle s → ⊥) → HasNoTriangle s.items b.raised.height (item s.items b.raised.height).low
  no-triangle n k k-h tree = elim (b.raised.first.attained wt wt-in (inr (b.raised.height, record { within = h-here; tree = b.raised.atop.tree; low = refl }))) [
    | inl e ↦ absurd (omega (arith, e, at-h, h-few))
    | inr f ↦ elim (cases_lt (slice_index s.first wt) k) [
      | inl a ↦ record { place = slice_index s.first wt; within = a; end = f.1 }
      | inr a ↦
          let r = dart-over b.raised.palm.last s.done s.at s.items b.raised.rest stands b.raised.height k h-here b.raised.atop.tree (omega (arith, stands.laid.tree_start b.raised.height h-here b.raised.atop.tree, k-h)) (omega (arith, k-h)) in
          let r-k : r.dart ≡ k = omega (arith, r.within, r.to, k-h) in
          let le = b.raised.first.least r.dart wt (omega (arith, r.within, h-here)) (subst (λ (z : ℕ). has_end z (entry (item s.items r.dart)) ≡ true) r.owned (owner-end (item s.items r.dart))) in
          let k-is : length s.items - 2 ≡ k = omega (arith, k-h, b.raised.atop.size) in
          absurd (n (record { tree = ap (λ (i : ℕ). (item s.items i).tree) k-is ∙ tree; first = ap (slice_index s.first) top-low ∙ omega (arith, le, a, r-k, k-is) }))
    ]
  ]
    where
      wt : ℕ
      wt = (item s.items b.raised.height).low

      wt-in : (item s.items b.raised.height).low < g.vertex_count
      wt-in = (b.raised.held.ends (entry (item s.items b.raised.height)) (stack-contains s.items b.raised.rest b.raised.height h-here)).1

      at-h : slice_index s.first (item s.items b.raised.height).low ≤ b.raised.height
      at-h = b.raised.first.least b.raised.height (item s.items b.raised.height).low h-here (low-end (item s.items b.raised.height).low (item s.items b.raised.height) refl)

  module _ (fresh : IsStale s.at (at_place s.base w) s → ⊥) (none : IsTriangle s → ⊥) (some : at_place s.base w < length s.cuts) (c-up : (cut s.cuts (length s.cuts - 1)).up ≡ s.at) where
    abbrev c : StackCut
    c = cut s.cuts (length s.cuts - 1)

    abbrev fewer : List StackCut
    fewer = take (length s.cuts - 1) s.cuts

    abbrev front : List StackCut
    front = drop (at_place s.base w) (take (length s.cuts - 1) s.cuts)

    abbrev start : ℕ
    start = at_place s.start w

    sounds : AreSoundAt start s.at (item s.items b.raised.height).low s.items (drop (at_place s.base w) (take (length s.cuts - 1) s.cuts) ++ cut s.cuts (length s.cuts - 1) ∷ [])
    sounds = subst (AreSoundAt start s.at (item s.items b.raised.height).low s.items) (cuts-apart g t w s b.raised some) b.raised.sound

    completes : AreCompleteAt start s.at (item s.items b.raised.height).low s.items (drop (at_place s.base w) (take (length s.cuts - 1) s.cuts) ++ cut s.cuts (length s.cuts - 1) ∷ [])
    completes = subst (AreCompleteAt start s.at (item s.items b.raised.height).low s.items) (cuts-apart g t w s b.raised some) b.raised.complete

    other : c.low ≢ (item s.items b.raised.height).low
    other q = fresh (record { some = some; up = c-up; low = q ∙ sym top-low })

    at-last : cut (front ++ c ∷ []) (length front) ≡ c
    at-last = cut-push front c (length front) refl

    sound : IsSoundAt start s.at (item s.items b.raised.height).low s.items c
    sound = subst (IsSoundAt start s.at (item s.items b.raised.height).low s.items) at-last (sounds.each (length front) (omega (arith, length-append front (c ∷ []))) (λ u o. other (sym (ap (λ (y : StackCut). y.low) at-last) ∙ o)))

    abbrev k : ℕ
    k = c.start

    k-in : k < length s.items
    k-in = sound.within

    abbrev side : ℕ → Bool
    side = side_at s.items (λ i. not (nat_lt i (cut s.cuts (length s.cuts - 1)).start) && goes (Some (s.at, (cut s.cuts (length s.cuts - 1)).low)) (item s.items i))

    off : IsCutOff (but_frond s.at c.low) s.items b.raised.rest k side
    off = cut-off (but_frond s.at c.low) s.items b.raised.rest k stands.left.is_family

    sep : IsSeparation (family s.items b.raised.rest) side s.at c.low
    sep = pair-separates b.raised.palm.last s.done s.at start h s.items b.raised.rest back c sound c-up other (above g t numbered w s b.raised) side off

    least : IsLeast s.items b.raised.rest side
    least = pair-least b.raised.palm.last s.done s.at start h s.items b.raised.rest back c sound c-up other front sounds completes (no-triangle none) side off

    v-in : s.at < g.vertex_count
    v-in = omega (arith, b.raised.walk.current, b.raised.walk.within)

    tree-b : IsTreeAt s.items c.low sound.below.place
    tree-b = sound.below.tree_at

    low-in : c.low < g.vertex_count
    low-in = omega (arith, (b.raised.held.ends (entry (item s.items sound.below.place)) (stack-contains s.items b.raised.rest sound.below.place tree-b.within)).1, tree-b.low)

    -- the state without the last cut
    abbrev dropped : PassState
    dropped = cuts_dropped s (length s.cuts - 1)

    held-dropped : IsHeld g t.vertex dropped b.raised.rest
    held-dropped = record { total = b.raised.held.total; state = b.raised.held.state; few = b.raised.held.few; entries = b.raised.held.entries; three = b.raised.held.three; ends = b.raised.held.ends }

    pub pair-can : CanSplitOff g t.vertex (goes (Some (s.at, c.low))) k s.at c.low dropped
    pair-can = can-split_off g t numbered dropped b.raised.rest held-dropped stands.left.is_family (but_frond s.at c.low) k s.at c.low side off sep v-in low-in least (omega (arith, k-in))

    module _ (mid : PassState) (e : IsSplitOff g t.vertex (goes (Some (s.at, c.low))) k s.at c.low dropped mid) where
      abbrev x : StackEntry
      x = new_tree (next_name g s) s.at c.low start

      two : 2 ≤ length e.edges
      two = split_off-two g t numbered dropped b.raised.rest held-dropped stands.left.is_family (but_frond s.at c.low) k s.at c.low side off sep v-in low-in mid e

      -- a state with these entries and first places
      abbrev after : List StackEntry → List ℕ → PassState
      after items first = record dropped {
        items = items;
        first = first;
        total = s.total + 1 - length e.edges;
        parts = s.parts ++ record { kind = e.kind; own = record { name = next_name g s; first = slice_index t.vertex s.at; second = slice_index t.vertex c.low }; edges = e.edges } ∷ [];
      }

      ups : (o : ℕ) → k ≤ o → o < length s.items → s.at ≤ (item s.items o).up
      ups o a l = ups-behind b.raised.palm.last s.done s.at start h s.items b.raised.rest back c sound c-up other o a l

      rises-x : (s.at < c.low) × (c.low < b.raised.palm.last s.at)
      rises-x =
          let q = b.raised.child_within sound.below.place (omega (arith, sound.below.starts, start-at b.raised.palm.last s.done s.at s.items b.raised.rest stands sound.below.place tree-b.within)) tree-b.within in
          let p = w-below g t numbered w s b.raised in
          (omega (arith, q.0, p.0, tree-b.low), omega (arith, q.1, tree-b.low, b.raised.palm.nested s.at w (omega (arith, p.0)) p.1))

      -- the dart that starts at the cut, and the tree edge behind it
      behind : (k ≤ sound.starts.place) × (sound.starts.place ≤ sound.below.place)
      behind = (
        omega (arith, sound.starts.starts, start-at b.raised.palm.last s.done s.at s.items b.raised.rest stands sound.starts.place sound.starts.within),
        (touching-tree b.raised.palm.last s.done s.at s.items b.raised.rest stands c.low sound.below.place sound.starts.place tree-b sound.starts.within (subst (λ (z : ℕ). has_end z (entry (item s.items sound.starts.place)) ≡ true) sound.starts.owned (owner-end (item s.items sound.starts.place)))).1,
      )

      -- the other cuts lie in front
      front-cut : (i : ℕ) → i < length front → cut (front ++ c ∷ []) i ≡ cut front i
      front-cut i l = cut-left front (c ∷ []) i l

      front-rises : (i : ℕ) → i < length front → ((cut front i).start < k) × (c.low ≤ (cut front i).low) × ((cut front i).up ≤ s.at)
      front-rises i l =
          let d = chain-rises s.items (front ++ c ∷ []) sounds.chain i (length front) l (omega (arith, length-append front (c ∷ []))) in (
            omega (arith, d.0, ap (λ (y : StackCut). y.start) (front-cut i l), ap (λ (y : StackCut). y.start) at-last),
            omega (arith, d.2, ap (λ (y : StackCut). y.low) (front-cut i l), ap (λ (y : StackCut). y.low) at-last),
            omega (arith, d.1, ap (λ (y : StackCut). y.up) (front-cut i l), ap (λ (y : StackCut). y.up) at-last, c-up),
          )

      front-stale : (i : ℕ) → i < length front → (cut front i).up ≡ s.at → (cut front i).low ≡ (item s.items b.raised.height).low → ⊥
      front-stale i l u o =
          let below-top = stands.laid.inside b.raised.height sound.below.place h-here b.raised.atop.tree (omega (arith, b.raised.atop.start, sound.from, behind)) (omega (arith, tree-b.within, b.raised.atop.size)) in
          omega (arith, other-less, (front-rises i l).1, o, below-top.0, tree-b.low)
        where
          other-less : (item s.items b.raised.height).low ≢ c.low
          other-less q = other (sym q)

      front-sound : (i : ℕ) → i < length front → IsSoundAt start s.at (item s.items b.raised.height).low s.items (cut front i)
      front-sound i l = subst (IsSoundAt start s.at (item s.items b.raised.height).low s.items) (front-cut i l) (sounds.each i (omega (arith, l, length-append front (c ∷ []))) (λ u o. front-stale i l (sym (ap (λ (y : StackCut). y.up) (front-cut i l)) ∙ u) (sym (ap (λ (y : StackCut). y.low) (front-cut i l)) ∙ o)))

      darts-front : (i o : ℕ) → i < length front → (cut front i).start < k → o < length s.items → owner (item s.items o) ≡ (cut front i).low → (item s.items o).start ≡ (cut front i).start → o < k
      darts-front i o l less m p q = elim (cases_eq (cut front i).low c.low) [
        | inl z ↦ same-vertex (p ∙ (z ∙ sym sound.starts.owned))
        | inr z ↦ other-vertex z
      ]
        where
          y : IsSoundAt start s.at (item s.items b.raised.height).low s.items (cut front i)
          y = front-sound i l

          same-vertex : owner (item s.items o) ≡ owner (item s.items sound.starts.place) → o < k
          same-vertex d = elim (cases_lt o sound.starts.place) [
            | inl a ↦ omega (arith, darts-apart b.raised.palm.last s.done s.at s.items b.raised.rest stands o sound.starts.place a sound.starts.within d, sound.starts.starts)
            | inr a ↦ elim (cases_eq o sound.starts.place) [
              | inl e' ↦ absurd (omega (arith, less, q, ap (λ (j : ℕ). (item s.items j).start) e', sound.starts.starts))
              | inr e' ↦ absurd (omega (arith, less, q, behind, darts-apart b.raised.palm.last s.done s.at s.items b.raised.rest stands sound.starts.place o (omega (arith, a, e')) m (sym d)))
            ]
          ]

          -- a deeper vertex: it lies below the first dart of the vertex of the cut
          other-vertex : (cut front i).low ≢ c.low → o < k
          other-vertex z =
              let o-below = touching-tree b.raised.palm.last s.done s.at s.items b.raised.rest stands (cut front i).low y.below.place o y.below.tree_at m (subst (λ (j : ℕ). has_end j (entry (item s.items o)) ≡ true) p (owner-end (item s.items o))) in
              elim (cases_lt y.below.place k) [
                | inl a ↦ omega (arith, a, o-below.1)
                | inr a ↦ absurd (deep a (deeper (front-rises i l).1 z))
              ]
            where
              deeper : c.low ≤ (cut front i).low → (cut front i).low ≢ c.low → c.low < (cut front i).low
              deeper a d = omega (arith, a, d)

              deep : k ≤ y.below.place → c.low < (cut front i).low → ⊥
              deep a d = elim (cases_lt y.below.place sound.below.place) [
                | inr f ↦ elim (cases_eq y.below.place sound.below.place) [
                  | inl j ↦ omega (arith, d, y.below.tree_at.low, tree-b.low, ap (λ (n : ℕ). (item s.items n).low) j)
                  | inr j ↦ omega (arith, d, y.below.tree_at.low, tree-b.low, (stands.laid.inside y.below.place sound.below.place y.below.tree_at.within y.below.tree_at.tree (omega (arith, y.below.starts, sound.from, behind)) (omega (arith, f, j))).0)
                ]
                | inl f ↦
                    let n = dart-over b.raised.palm.last s.done s.at s.items b.raised.rest stands sound.below.place y.below.place tree-b.within tree-b.tree (omega (arith, sound.below.starts, sound.from, a)) f in
                    let n-in : n.dart < length s.items = omega (arith, n.within, tree-b.within) in
                    let n-start : (item s.items n.dart).start ≤ start = elim (cases_eq n.dart y.below.place) [
                      | inl j ↦ omega (arith, ap (λ (j : ℕ). (item s.items j).start) j, y.below.starts)
                      | inr j ↦ elim (cases_Bool (item s.items n.dart).tree) [
                        | inl tr ↦ omega (arith, y.below.starts, stands.laid.laminar n.dart y.below.place n-in tr n.from (omega (arith, n.to, j)))
                        | inr fr ↦ absurd (omega (arith, stands.laid.frond_start n.dart n-in fr, n.from, n.to, j))
                      ]
                    ] in
                    let own : owner (item s.items n.dart) ≡ owner (item s.items sound.starts.place) = n.owned ∙ (tree-b.low ∙ sym sound.starts.owned) in
                    elim (cases_lt n.dart sound.starts.place) [
                      | inl j ↦ omega (arith, darts-apart b.raised.palm.last s.done s.at s.items b.raised.rest stands n.dart sound.starts.place j sound.starts.within own, sound.starts.starts, n.to, a)
                      | inr j ↦ elim (cases_eq n.dart sound.starts.place) [
                        | inl q' ↦ omega (arith, n-start, ap (λ (j : ℕ). (item s.items j).start) q', sound.starts.starts, sound.from)
                        | inr q' ↦ omega (arith, n-start, sound.from, behind, darts-apart b.raised.palm.last s.done s.at s.items b.raised.rest stands sound.starts.place n.dart (omega (arith, j, q')) n-in (sym own))
                      ]
                    ]
              ]

      module _ (j : ℕ) (items : List StackEntry) (first : List ℕ) (renewed : IsRenewed b.raised.palm.last s.done s.at k j (but_frond s.at c.low) side x s.items items b.raised.rest)
          (firsts : AreFirst g.vertex_count s.done first items) (fronds : (i : ℕ) → 4 ≤ s.total → i < j → is_frond_to s.at (item items j).low (item items i) ≡ true → i + 1 ≡ j) where
        held-now : IsHeld g t.vertex (after items first) b.raised.rest
        held-now = held-split_off g t numbered dropped b.raised.rest held-dropped stands.left.is_family (but_frond s.at c.low) k s.at c.low side off sep v-in low-in mid (after items first) x e (sym (ap (λ (p : PassState). p.parts) e.now)) (sym (ap (λ (p : PassState). p.total) e.now)) refl refl refl
            (family-new b.raised.palm.last s.done s.at k j (but_frond s.at c.low) side x s.items items b.raised.rest renewed) (left-within b.raised.palm.last s.done s.at k j (but_frond s.at c.low) side x s.items items b.raised.rest renewed) (within-left b.raised.palm.last s.done s.at k j (but_frond s.at c.low) side x s.items items b.raised.rest renewed)

        pub pair-raised : IsRaised g t w (after items first)
        pair-raised = raised-now g t numbered w s b.raised k j (but_frond s.at c.low) side x items first (s.total + 1 - length e.edges)
            (s.parts ++ record { kind = e.kind; own = record { name = next_name g s; first = slice_index t.vertex s.at; second = slice_index t.vertex c.low }; edges = e.edges } ∷ []) fewer renewed least refl refl refl ups held-now (omega (arith, two)) firsts
            (λ i four l p. fronds i (omega (arith, four, two)) l p) (fewer-same g t w s b.raised some) (fewer-within g t w s b.raised some)
            (replaced-sound b.raised.palm.last s.done s.at k j h (but_frond s.at c.low) side x s.items items b.raised.rest renewed refl refl b.raised.atop.size b.raised.atop.tree b.raised.atop.up ups start refl front
            (λ i l. omega (arith, (front-rises i l).0)) (λ i l q. absurd (omega (arith, q, (front-rises i l).0))) (λ i l u o. absurd (front-stale i l u o)) darts-front
            (drop-sound start s.at (item s.items b.raised.height).low s.items front c sounds))
            (replaced-complete b.raised.palm.last s.done s.at k j h (but_frond s.at c.low) side x s.items items b.raised.rest renewed refl refl b.raised.atop.size b.raised.atop.tree b.raised.atop.up ups start refl front (front ++ c ∷ [])
            (λ d m. elim (Contains-push_cases front c d m) [ inl q ↦ inl q | inr q ↦ inr (omega (arith, ap (λ (y : StackCut). y.start) q)) ]) completes)
            (fewer-lows g t w s b.raised some)

      shape-x : ((x.tree ≡ true) × ((p : ℕ) × IsTreeAt s.items x.low p × (k ≤ p) × ((item s.items p).start ≡ x.start) × (x.start < k))) ⊎ ((x.tree ≡ false) × (x.low ≡ s.at) × (x.start ≡ k))
      shape-x = inl (refl, (sound.below.place, tree-b, omega (arith, behind), sound.below.starts, sound.from))

      fresh-x : (y : Entry) → Contains (family s.items b.raised.rest) y → y.name ≢ x.name
      fresh-x y d q = omega (arith, q, item-name g t numbered s b.raised.rest b.raised.held stands.left.is_family y d)

      front-length : length (take k s.items) ≡ k
      front-length = length-take-le k s.items (omega (arith, k-in))

      trees-go : (y : StackEntry) → y.tree ≡ true → but_frond s.at c.low y ≡ true
      trees-go y q = rw q refl

      -- no frond stays apart
      module _ (found : IsFrondFound s.at c.low (drop k s.items) None) where
        abbrev now : PassState
        now = pushed (after (take k s.items) s.first) x

        off-frond : (o : ℕ) → k ≤ o → o < length s.items → is_frond_to s.at c.low (item s.items o) ≡ false
        off-frond o a l = subst (λ (y : StackEntry). is_frond_to s.at c.low y ≡ false) (get_or-drop k s.items (o - k) no_item ∙ ap (item s.items) (omega (arith, a))) (found (o - k) (omega (arith, a, l, length-drop k s.items)))

        alone-renewed : IsRenewed b.raised.palm.last s.done s.at k k (but_frond s.at c.low) side x s.items now.items b.raised.rest
        alone-renewed = record {
          stands = stands;
          within = k-in;
          size = length-push (take k s.items) x ∙ ap (λ (n : ℕ). n + 1) front-length;
          few = inl refl;
          same = λ i l. item-front (take k s.items) x i (omega (arith, l, front-length)) ∙ item-take s.items k i l;
          top = item-last (take k s.items) x k (sym front-length);
          mid = λ i a d. absurd (omega (arith, a, d));
          mid_old = λ i a d. absurd (omega (arith, a, d));
          mid_new = λ o a l f. absurd (both_ways (but_frond s.at c.low (item s.items o)) f (not_from_false (is_frond_to s.at c.low (item s.items o)) (off-frond o a l)));
          cut = off;
          separates = sep;
          rises = rises-x;
          fresh = fresh-x;
          up_path = (omega arith, stands.above s.at);
          trees = trees-go;
          shape = shape-x;
        }

        alone-first : AreFirst g.vertex_count s.done now.first now.items
        alone-first = first-new b.raised.palm.last s.done s.at k k (but_frond s.at c.low) side x s.items now.items b.raised.rest alone-renewed g.vertex_count s.first now.first b.raised.first
            (lowered-length (lowered s.first x.up (length (take k s.items))) x.low (length (take k s.items)) ∙ (lowered-length s.first x.up (length (take k s.items)) ∙ b.raised.first.places))
            (λ z. elim (pushed-at s.first x.up x.low (length (take k s.items)) z (omega (arith, v-in, b.raised.first.places)) (omega (arith, low-in, b.raised.first.places))) [
              | inl q ↦ inl q
              | inr q ↦ inr (omega (arith, q.0, front-length), omega (arith, q.0, front-length), omega (arith, q.0, q.1), q.2)
            ])
            (λ z i a d q. omega (arith, pushed-here s.first x.up x.low (length (take k s.items)) z (omega (arith, v-in, b.raised.first.places)) (omega (arith, low-in, b.raised.first.places)) q, front-length, a))

        alone-fronds : (i : ℕ) → 4 ≤ s.total → i < k → is_frond_to s.at (item now.items k).low (item now.items i) ≡ true → i + 1 ≡ k
        alone-fronds i four l p = pair-frond b.raised.palm.last s.done s.at start h s.items b.raised.rest back c sound c-up other (omega (arith, four, b.raised.held.total)) i l
            (subst (λ (y : StackEntry). is_frond_to s.at c.low y ≡ true) (alone-renewed.same i l) (subst (λ (y : StackEntry). is_frond_to s.at y.low (item now.items i) ≡ true) alone-renewed.top p))

        pub alone-raised : IsRaised g t w (pushed (after (take k s.items) s.first) x)
        alone-raised = pair-raised k now.items now.first alone-renewed alone-first alone-fronds

        pub alone-starts : (i : ℕ) → i < length (drop (at_place s.base w) (take (length s.cuts - 1) s.cuts)) → (cut (drop (at_place s.base w) (take (length s.cuts - 1) s.cuts)) i).start < alone-raised.height
        alone-starts i l = omega (arith, (front-rises i l).0, alone-raised.atop.size, alone-renewed.size)

      -- a frond stays apart
      module _ (name : ℕ) (found : IsFrondFound s.at c.low (drop k s.items) (Some name)) where
        abbrev f : StackEntry
        f = record { name = name; up = s.at; low = c.low; tree = false; start = k }

        abbrev one : PassState
        one = pushed (after (take k s.items) s.first) f

        abbrev both : PassState
        both = pushed one x

        -- where it was
        abbrev o : ℕ
        o = k + found.0

        o-in : o < length s.items
        o-in = omega (arith, found.1, length-drop k s.items)

        o-frond : is_frond_to s.at c.low (item s.items o) ≡ true
        o-frond = subst (λ (y : StackEntry). is_frond_to s.at c.low y ≡ true) (get_or-drop k s.items found.0 no_item) found.2

        o-parts : ((item s.items o).tree ≡ false) × ((item s.items o).up ≡ s.at) × ((item s.items o).low ≡ c.low)
        o-parts = frond-parts s.at c.low (item s.items o) o-frond

        o-name : name ≡ (item s.items o).name
        o-name = found.3 ∙ ap (λ (y : StackEntry). y.name) (get_or-drop k s.items found.0 no_item)

        o-entry : entry (item s.items o) ≡ entry f
        o-entry = λ i. record { name = sym o-name i; first = o-parts.1 i; second = o-parts.2 i }

        o-h : o < b.raised.height
        o-h = elim (cases_eq o b.raised.height) [
          | inl q ↦ absurd (both_ways (item s.items o).tree o-parts.0 (ap (λ (i : ℕ). (item s.items i).tree) q ∙ b.raised.atop.tree))
          | inr q ↦ omega (arith, q, o-in, b.raised.atop.size)
        ]

        -- there is no other
        only : (i : ℕ) → i < length s.items → is_frond_to s.at c.low (item s.items i) ≡ true → i ≡ o
        only i l p = elim (cases_eq i o) [
          | inl q ↦ q
          | inr q ↦
              let i-h : i < b.raised.height = elim (cases_eq i b.raised.height) [
                | inl d ↦ absurd (both_ways (item s.items i).tree (frond-parts s.at c.low (item s.items i) p).0 (ap (λ (j : ℕ). (item s.items j).tree) d ∙ b.raised.atop.tree))
                | inr d ↦ omega (arith, d, l, b.raised.atop.size)
              ] in
              absurd (elim (cases_lt i o) [
                | inl d ↦ fronds-once b.raised.palm.last s.done s.at start h s.items b.raised.rest back c.low i o d o-h p o-frond
                | inr d ↦ fronds-once b.raised.palm.last s.done s.at start h s.items b.raised.rest back c.low o i (omega (arith, d, q)) i-h o-frond p
              ])
        ]

        one-length : length (take k s.items ++ f ∷ []) ≡ k + 1
        one-length = length-push (take k s.items) f ∙ ap (λ (n : ℕ). n + 1) front-length

        both-same : (i : ℕ) → i < k → item both.items i ≡ item s.items i
        both-same i l = item-front (take k s.items ++ f ∷ []) x i (omega (arith, l, one-length)) ∙ (item-front (take k s.items) f i (omega (arith, l, front-length)) ∙ item-take s.items k i l)

        both-mid : (i : ℕ) → k ≤ i → i < k + 1 → item both.items i ≡ f
        both-mid i a l = item-front (take k s.items ++ f ∷ []) x i (omega (arith, l, one-length)) ∙ item-last (take k s.items) f i (omega (arith, a, l, front-length))

        both-renewed : IsRenewed b.raised.palm.last s.done s.at k (k + 1) (but_frond s.at c.low) side x s.items both.items b.raised.rest
        both-renewed = record {
          stands = stands;
          within = k-in;
          size = length-push (take k s.items ++ f ∷ []) x ∙ ap (λ (n : ℕ). n + 1) one-length;
          few = inr refl;
          same = both-same;
          top = item-last (take k s.items ++ f ∷ []) x (k + 1) (sym one-length);
          mid = λ i a d. (subst (λ (y : StackEntry). is_frond_to s.at c.low y ≡ true) (sym (both-mid i a d)) frond-f, ap (λ (y : StackEntry). y.start) (both-mid i a d), refl);
          mid_old = λ i a d. (o, omega arith, o-in, o-entry ∙ ap entry (sym (both-mid i a d)), goes-not (is_frond_to s.at c.low (item s.items o)) o-frond);
          mid_new = λ i a l q.
              let same = only i l (goes-back (is_frond_to s.at c.low (item s.items i)) q) in
              (k, omega arith, omega arith, ap (λ (z : ℕ). entry (item s.items z)) same ∙ (o-entry ∙ ap entry (sym (both-mid k (omega arith) (omega arith)))));
          cut = off;
          separates = sep;
          rises = rises-x;
          fresh = fresh-x;
          up_path = (omega arith, stands.above s.at);
          trees = trees-go;
          shape = inl (refl, (sound.below.place, tree-b, omega (arith, behind), sound.below.starts, sound.from));
        }
          where
            frond-f : is_frond_to s.at c.low f ≡ true
            frond-f = rw (eq-eqb s.at s.at refl, eq-eqb c.low c.low refl) refl

            goes-not : (a : Bool) → a ≡ true → not a ≡ false
            goes-not a q = rw q refl

            goes-back : (a : Bool) → not a ≡ false → a ≡ true
            goes-back a q = elim (cases_Bool a) [ inl y ↦ y | inr y ↦ absurd (both_ways (not a) q (not_from_false a y)) ]

        one-first : length one.first ≡ g.vertex_count
        one-first = lowered-length (lowered s.first s.at (length (take k s.items))) c.low (length (take k s.items)) ∙ (lowered-length s.first s.at (length (take k s.items)) ∙ b.raised.first.places)

        here : (z : ℕ) → (z ≡ s.at) ⊎ (z ≡ c.low) → slice_index one.first z ≤ k
        here z q = omega (arith, pushed-here s.first s.at c.low (length (take k s.items)) z (omega (arith, v-in, b.raised.first.places)) (omega (arith, low-in, b.raised.first.places)) q, front-length)

        two-at : (z : ℕ) → (slice_index both.first z ≡ slice_index one.first z)
        two-at z = elim (pushed-at one.first s.at c.low (length (take k s.items ++ f ∷ [])) z (omega (arith, v-in, one-first)) (omega (arith, low-in, one-first))) [
          | inl q ↦ q
          | inr q ↦ absurd (omega (arith, q.1, here z q.2, one-length))
        ]

        both-first : AreFirst g.vertex_count s.done both.first both.items
        both-first = first-new b.raised.palm.last s.done s.at k (k + 1) (but_frond s.at c.low) side x s.items both.items b.raised.rest both-renewed g.vertex_count s.first both.first b.raised.first
            (lowered-length (lowered one.first s.at (length (take k s.items ++ f ∷ []))) c.low (length (take k s.items ++ f ∷ [])) ∙ (lowered-length one.first s.at (length (take k s.items ++ f ∷ [])) ∙ one-first))
            (λ z. elim (pushed-at s.first s.at c.low (length (take k s.items)) z (omega (arith, v-in, b.raised.first.places)) (omega (arith, low-in, b.raised.first.places))) [
              | inl q ↦ inl (two-at z ∙ q)
              | inr q ↦ inr (omega (arith, two-at z, q.0, front-length), omega (arith, two-at z, q.0, front-length), omega (arith, two-at z, q.0, q.1), q.2)
            ])
            (λ z i a d q. omega (arith, two-at z, here z q, a))

        both-fronds : (i : ℕ) → 4 ≤ s.total → i < k + 1 → is_frond_to s.at (item both.items (k + 1)).low (item both.items i) ≡ true → i + 1 ≡ k + 1
        both-fronds i four l p = elim (cases_lt i k) [
          | inr a ↦ omega (arith, a, l)
          | inl a ↦ absurd (omega (arith, a, only i (omega (arith, a, k-in)) (subst (λ (y : StackEntry). is_frond_to s.at c.low y ≡ true) (both-same i a) (subst (λ (y : StackEntry). is_frond_to s.at y.low (item both.items i) ≡ true) both-renewed.top p))))
        ]

        pub both-raised : IsRaised g t w (pushed (pushed (after (take k s.items) s.first) (record { name = name; up = s.at; low = c.low; tree = false; start = k })) x)
        both-raised = pair-raised (k + 1) both.items both.first both-renewed both-first both-fronds

        pub both-starts : (i : ℕ) → i < length (drop (at_place s.base w) (take (length s.cuts - 1) s.cuts)) → (cut (drop (at_place s.base w) (take (length s.cuts - 1) s.cuts)) i).start < both-raised.height
        both-starts i l = omega (arith, (front-rises i l).0, both-raised.atop.size, both-renewed.size)
