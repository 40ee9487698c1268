-- The pass has returned: a frond parallel to the last entry is joined with it.
use Rattle.std.proofs.Common.{◌≡◌, ◌≢◌, ℕ, ◌+◌, ◌-◌, ◌<◌, ◌≤◌, inl, inr, Bool, true, false, not, nat_lt, ◌&&◌, ◌||◌, ◌==◌, List, [], ◌∷◌, ◌++◌, length, take, drop, slice_index, refl, sym, ap, ◌∙◌, subst, arith, Contains}
use Rattle.std.proofs.lemmas.Bool.{cases_lt, cases_eq, both_ways, or_cases, or_left, or_right, eq-eqb, eqb-true, not_from_false, false_from_ne_true}
use Rattle.std.proofs.lemmas.List.{length-take-le}
use Rattle.multigraph.specs.Graph.{Multigraph, edge_count}
use Rattle.pair_split.specs.Family.{Entry, has_end, touches, IsSeparation}
use Rattle.pair_split.proofs.Elements.{two-pass}
use Rattle.pair_split.proofs.Degrees.{tight-degree}
use Rattle.pair_split.proofs.Sides.{touching-entry, length-sides}
use Rattle.split_comp.specs.declared.items.StackEntry.{StackEntry}
use Rattle.split_comp.specs.declared.items.StackCut.{StackCut}
use Rattle.split_comp.specs.declared.items.Dart.{Dart}
use Rattle.split_comp.specs.Stack.{item, entry, family, owner, IsStack}
use Rattle.split_comp.specs.Palm.{tree_dart, tree_degree, tree_parent, IsFrondTo, IsPalm}
use Rattle.split_comp.specs.Walk.{IsWalk}
use Rattle.split_comp.specs.Cuts.{cut, IsSoundAt}
use Rattle.split_comp.specs.Sides.{is_frond_to, IsCutOff, all_items, IsLeast}
use Rattle.split_comp.specs.Pass.{NumberedTree, IsNumbered, PassState, IsHeld, at_place, IsRaised, IsBack, IsParallel, IsSplitOff, CanSplitOff, joined_item, top_item, pushed, next_name, lowered}
use Rattle.split_comp.proofs.Entries.{item-ends, stack-contains, rest-contains, family-cases, item-front, item-last, item-take, length-push}
use Rattle.split_comp.proofs.Stretch.{side_at, side-place, side-rest, side-two}
use Rattle.split_comp.proofs.Renewed.{IsRenewed, frond-parts, left-within, within-left, family-new}
use Rattle.split_comp.proofs.RenewedPath.{first-new}
use Rattle.split_comp.proofs.Parallel.{parallel-not, parallel-least, parallel-separates}
use Rattle.split_comp.proofs.Lying.{start-at, owner-tree, owner-frond}
use Rattle.split_comp.proofs.Held.{can-split_off, held-split_off, split_off-two, item-name}
use Rattle.split_comp.proofs.Walk.{next-on-path, left-on_path}
use Rattle.split_comp.proofs.Returning.{replaced-sound, replaced-complete}
use Rattle.split_comp.proofs.Firsts.{cut-off, lowered-length, pushed-at, pushed-here}
use Rattle.split_comp.proofs.Raising.{raised-now}

-- where the search is not at the root, a dart of the root is left
pub root-going : (n m : ℕ) (parent degree : ℕ → ℕ) (dart : ℕ → ℕ → Dart) (palm : IsPalm n m parent degree dart) (v done : ℕ) (gone : ℕ → ℕ) → IsWalk n palm.last parent degree dart v done gone → v ≢ 0 → gone 0 < degree 0
root-going n m parent degree dart palm v done gone walk z =
    let x = next-on-path n m parent degree dart palm v done gone walk 0 (omega (arith, z)) (omega arith, omega (arith, walk.current, walk.within, palm.root)) in
    subst (λ (y : ℕ). gone y < degree y) x.3 (walk.under_way x.0 x.1 x.2).0

-- two entries of the stack without upper ends above v leave two more, where the rest touches a vertex above v
pub four-there : (last : ℕ → ℕ) (done v : ℕ) (stack : List StackEntry) (rest : List Entry) → IsStack last done v stack rest → (z : ℕ) × (z < v) × (touches rest z ≡ true) → (i j : ℕ) → i < j → j < length stack → v ≤ (item stack i).up → v ≤ (item stack j).up → 4 ≤ length (family stack rest)
four-there last done v stack rest s z i j l m a c =
    let f = s.left.is_family in
    let e = touching-entry rest z.0 z.2 in
    let two = side-two stack rest f side i j l m (side-place stack rest f test i (omega (arith, l, m)) ∙ or_left (i == i) (i == j) (eq-eqb i i refl)) (side-place stack rest f test j m ∙ or_right (j == i) (j == j) (eq-eqb j j refl)) in
    let d = tight-degree (family stack rest) f s.left.is_tight (omega (arith, two, length-sides (family stack rest) side)) e.0 z.0 (rest-contains stack rest e.0 e.1) e.2 in
    let off = two-pass (λ (y : Entry). not (side y.name)) e.0 d.entry (family stack rest) (λ k. d.other (sym (ap (λ (y : Entry). y.name) k))) (rest-contains stack rest e.0 e.1) d.within (not_from_false (side e.0.name) (side-rest stack rest f test e.0 e.1)) (not_from_false (side d.entry.name) (other d.entry d.within d.end)) in
    omega (arith, two, off, length-sides (family stack rest) side)
  where
    test : ℕ → Bool
    test k = (k == i) || (k == j)

    side : ℕ → Bool
    side name = side_at stack test name

    other : (y : Entry) → Contains (family stack rest) y → has_end z.0 y ≡ true → side_at stack test y.name ≡ false
    other y d k = elim (family-cases stack rest y d) [
      | inr r ↦ side-rest stack rest s.left.is_family test y r
      | inl p ↦ ap (λ (q : Entry). side_at stack test q.name) p.2 ∙ (side-place stack rest s.left.is_family test p.0 p.1 ∙ false_from_ne_true (test p.0) (λ o. elim (or_cases (p.0 == i) (p.0 == j) o) [
        | inl q ↦ not-at i (omega (arith, l, m)) a (subst (λ (n : ℕ). has_end z.0 (entry (item stack n)) ≡ true) (eqb-true p.0 i q) (subst (λ (q : Entry). has_end z.0 q ≡ true) p.2 k))
        | inr q ↦ not-at j m c (subst (λ (n : ℕ). has_end z.0 (entry (item stack n)) ≡ true) (eqb-true p.0 j q) (subst (λ (q : Entry). has_end z.0 q ≡ true) p.2 k))
      ]))
    ]
      where
        not-at : (n : ℕ) → n < length stack → v ≤ (item stack n).up → has_end z.0 (entry (item stack n)) ≡ true → ⊥
        not-at n o u h = elim (item-ends z.0 (item stack n) h) [ inl q ↦ omega (arith, q, u, z.1) | inr q ↦ omega (arith, q, u, z.1, (s.laid.rises n o).0) ]

module _ (g : Multigraph) (t : NumberedTree) (numbered : IsNumbered g t) (w : ℕ) (s : PassState) (b : IsRaised g t w s) where
  abbrev last : ℕ → ℕ
  last = b.palm.last

  abbrev h : ℕ
  h = b.height

  stands : IsStack last s.done s.at s.items b.rest
  stands = b.atop.stands

  h-here : b.height < length s.items
  h-here = omega (arith, b.atop.size)

  -- the rest touches the parent of the vertex
  pub above : (z : ℕ) × (z < s.at) × (touches b.rest z ≡ true)
  above =
      let v-in : s.at < g.vertex_count = omega (arith, b.walk.current, b.walk.within) in
      let p = b.palm.parent_less s.at v-in b.not_root in (
        tree_parent t.palm t.vertex s.at,
        p.0,
        left-on_path g.vertex_count (edge_count g) (tree_parent t.palm t.vertex) (tree_degree t.palm t.vertex) (tree_dart g t.palm t.vertex) b.palm s.at s.done (at_place s.gone) b.walk b.rest b.left
            (root-going g.vertex_count (edge_count g) (tree_parent t.palm t.vertex) (tree_degree t.palm t.vertex) (tree_dart g t.palm t.vertex) b.palm s.at s.done (at_place s.gone) b.walk b.not_root) (tree_parent t.palm t.vertex s.at) (omega (arith, p.0), p.1),
      )

  -- some entry from the start of w on has an upper end above the vertex
  pub child-up : (i : ℕ) × (at_place s.start w ≤ i) × (i < length s.items) × ((item s.items i).up < s.at)
  child-up =
      let r = b.palm.reached s.at b.place (omega (arith, b.walk.current, b.walk.within)) b.not_root b.place_in b.last_tree in
      let i = b.child_met (tree_dart g t.palm t.vertex s.at b.place).reach (subst (λ (y : ℕ). IsFrondTo (tree_degree t.palm t.vertex) (tree_dart g t.palm t.vertex) last y (tree_dart g t.palm t.vertex s.at b.place).reach) b.last_far r.1) r.0 in
      (i.0, i.1, i.2, omega (arith, i.3, r.0))

  top-is : item s.items (length s.items - 1) ≡ item s.items b.height
  top-is = ap (item s.items) (omega (arith, b.atop.size))

  module _ (par : IsParallel s) where
    abbrev k : ℕ
    k = length s.items - 2

    k-h : k + 1 ≡ b.height
    k-h = omega (arith, b.atop.size, par.two)

    k-in : k < length s.items
    k-in = omega (arith, k-h, b.atop.size)

    up-same : (item s.items k).up ≡ (item s.items b.height).up
    up-same = par.up ∙ ap (λ (x : StackEntry). x.up) top-is

    low-same : (item s.items k).low ≡ (item s.items b.height).low
    low-same = par.low ∙ ap (λ (x : StackEntry). x.low) top-is

    abbrev side : ℕ → Bool
    side = side_at s.items (λ i. not (nat_lt i (length s.items - 2)) && true)

    off : IsCutOff all_items s.items b.rest k side
    off = cut-off all_items s.items b.rest k stands.left.is_family

    sep : IsSeparation (family s.items b.rest) side (top_item s).up (top_item s).low
    sep = subst (λ (x : StackEntry). IsSeparation (family s.items b.rest) side x.up x.low) (sym top-is) (parallel-separates last s.done s.at h s.items b.rest stands b.atop.size b.atop.topped k k-h up-same low-same (omega (arith, par.four, b.held.total)) side off)

    least : IsLeast s.items b.rest side
    least u p q d i l on = elim (cases_lt i k) [
      | inl a ↦ absurd (both_ways (side (item s.items i).name) (off.before i a l) on)
      | inr a ↦ elim (cases_eq i k) [
        | inl e ↦ ap (λ (j : ℕ). u (item s.items j).name) e ∙ parallel-least last s.done s.at h s.items b.rest stands b.atop.size b.atop.topped k k-h up-same low-same u p q d
        | inr n ↦ let e : i ≡ b.height = omega (arith, a, n, l, b.atop.size, k-h) in ap (λ (j : ℕ). u (item s.items j).name) e ∙ b.atop.topped u p q d
      ]
    ]

    ends : ((top_item s).up < g.vertex_count) × ((top_item s).low < g.vertex_count)
    ends = let e = b.held.ends (entry (item s.items (length s.items - 1))) (stack-contains s.items b.rest (length s.items - 1) (omega (arith, b.atop.size))) in (e.0, e.1)

    pub raised-can : CanSplitOff g t.vertex (λ x. true) (length s.items - 2) (top_item s).up (top_item s).low s
    raised-can = can-split_off g t numbered s b.rest b.held stands.left.is_family all_items k (top_item s).up (top_item s).low side off sep ends.0 ends.1 least (omega (arith, b.atop.size))

    module _ (starts : (c : ℕ) → c < length (drop (at_place s.base w) s.cuts) → (cut (drop (at_place s.base w) s.cuts) c).start < b.height) (mid : PassState) (e : IsSplitOff g t.vertex (λ x. true) (length s.items - 2) (top_item s).up (top_item s).low s mid) where
      abbrev x : StackEntry
      x = joined_item g s

      abbrev now : PassState
      now = pushed (record s {
        items = take (length s.items - 2) s.items;
        total = s.total + 1 - length e.edges;
        parts = s.parts ++ record { kind = e.kind; own = record { name = next_name g s; first = slice_index t.vertex (top_item s).up; second = slice_index t.vertex (top_item s).low }; edges = e.edges } ∷ [];
      }) x

      tree-x : x.tree ≡ true
      tree-x = ap (λ (y : StackEntry). y.tree) top-is ∙ b.atop.tree

      x-up : x.up ≡ s.at
      x-up = ap (λ (y : StackEntry). y.up) top-is ∙ b.atop.up

      x-low : x.low ≡ (item s.items b.height).low
      x-low = ap (λ (y : StackEntry). y.low) top-is

      x-start : x.start ≡ at_place s.start w
      x-start = rw tree-x (ap (λ (y : StackEntry). y.start) top-is ∙ b.atop.start)

      front-length : length (take k s.items) ≡ k
      front-length = length-take-le k s.items (omega (arith, b.atop.size))

      now-same : (i : ℕ) → i < k → item now.items i ≡ item s.items i
      now-same i l = item-front (take k s.items) x i (omega (arith, l, front-length)) ∙ item-take s.items k i l

      now-top : item now.items k ≡ x
      now-top = item-last (take k s.items) x k (sym front-length)

      -- the frond is not all that belongs to the last entry
      start-k : at_place s.start w < k
      start-k = elim (cases_lt (at_place s.start w) k) [
        | inl a ↦ a
        | inr a ↦ absurd (alone (omega (arith, a, b.atop.start, stands.laid.tree_start b.height h-here b.atop.tree, k-h)))
      ]
        where
          -- some entry there leads above the vertex
          alone : at_place s.start w ≡ k → ⊥
          alone q =
              let c = child-up in
              elim (cases_eq c.0 k) [
                | inl z ↦ omega (arith, c.3, ap (λ (y : ℕ). (item s.items y).up) z, up-same, b.atop.up)
                | inr z ↦ let e-h : c.0 ≡ b.height = omega (arith, c.1, c.2, q, z, k-h, b.atop.size) in omega (arith, c.3, ap (λ (y : ℕ). (item s.items y).up) e-h, b.atop.up)
              ]

      renewed : IsRenewed last s.done s.at k k all_items side x s.items now.items b.rest
      renewed = record {
        stands = stands;
        within = k-in;
        size = length-push (take k s.items) x ∙ ap (λ (n : ℕ). n + 1) front-length;
        few = inl refl;
        same = now-same;
        top = now-top;
        mid = λ i a d. absurd (omega (arith, a, d));
        mid_old = λ i a d. absurd (omega (arith, a, d));
        mid_new = λ o a d c. absurd (both_ways true c refl);
        cut = off;
        separates = sep;
        rises = stands.laid.rises (length s.items - 1) (omega (arith, b.atop.size));
        fresh = λ y c q. omega (arith, q, item-name g t numbered s b.rest b.held stands.left.is_family y c);
        up_path = (omega (arith, x-up), subst (λ (y : ℕ). s.at < last y) (sym x-up) (stands.above s.at));
        trees = λ y q. refl;
        shape = inl (tree-x, (b.height, record { within = h-here; tree = b.atop.tree; low = sym x-low }, omega (arith, k-h), b.atop.start ∙ sym x-start, omega (arith, start-k, x-start)));
      }

      -- entries that go have no upper end above the vertex
      ups : (o : ℕ) → k ≤ o → o < length s.items → s.at ≤ (item s.items o).up
      ups o a l = elim (cases_eq o k) [
        | inl z ↦ omega (arith, ap (λ (y : ℕ). (item s.items y).up) z, up-same, b.atop.up)
        | inr z ↦ let e-h : o ≡ b.height = omega (arith, a, l, z, k-h, b.atop.size) in omega (arith, ap (λ (y : ℕ). (item s.items y).up) e-h, b.atop.up)
      ]

      abbrev cuts : List StackCut
      cuts = drop (at_place s.base w) s.cuts

      -- a cut at the frond is one of the last entry
      at-frond : (c : ℕ) → c < length (drop (at_place s.base w) s.cuts) → (cut (drop (at_place s.base w) s.cuts) c).start ≡ k → ((cut (drop (at_place s.base w) s.cuts) c).up ≡ s.at) × ((cut (drop (at_place s.base w) s.cuts) c).low ≡ x.low)
      at-frond c l q = elim (cases_eq (cut cuts c).up s.at) [
        | inl u ↦ elim (cases_eq (cut cuts c).low (item s.items b.height).low) [
          | inl z ↦ (u, z ∙ sym x-low)
          | inr z ↦ from (b.sound.each c l (λ i d. z d))
        ]
        | inr u ↦ from (b.sound.each c l (λ i d. u i))
      ]
        where
          from : IsSoundAt (at_place s.start w) s.at (item s.items b.height).low s.items (cut cuts c) → ((cut cuts c).up ≡ s.at) × ((cut cuts c).low ≡ x.low)
          from y =
              let r-k : y.starts.place ≡ k = elim (cases_eq y.starts.place b.height) [
                | inr n ↦ omega (arith, n, y.starts.within, b.atop.size, k-h, q, y.starts.starts, start-at last s.done s.at s.items b.rest stands y.starts.place y.starts.within)
                | inl n ↦ absurd (omega (arith, b.cut_lows c l, owner-tree (item s.items y.starts.place) (cut cuts c).low y.starts.owned (ap (λ (i : ℕ). (item s.items i).tree) n ∙ b.atop.tree), ap (λ (i : ℕ). (item s.items i).up) n, b.atop.up))
              ] in (
                omega (arith, y.up, y.least.attained, ups y.least.place (omega (arith, y.least.from, q)) y.least.within),
                sym (owner-frond (item s.items y.starts.place) (cut cuts c).low y.starts.owned (ap (λ (i : ℕ). (item s.items i).tree) r-k ∙ par.frond)) ∙ (ap (λ (i : ℕ). (item s.items i).low) r-k ∙ par.low),
              )

      darts-front : (c o : ℕ) → c < length (drop (at_place s.base w) s.cuts) → (cut (drop (at_place s.base w) s.cuts) c).start < k → o < length s.items → owner (item s.items o) ≡ (cut (drop (at_place s.base w) s.cuts) c).low → (item s.items o).start ≡ (cut (drop (at_place s.base w) s.cuts) c).start → o < k
      darts-front c o l less m p q = elim (cases_lt o k) [
        | inl a ↦ a
        | inr a ↦ absurd (elim (cases_eq o k) [
          | inl z ↦ omega (arith, less, q, ap (λ (i : ℕ). (item s.items i).start) z, stands.laid.frond_start k k-in par.frond)
          | inr z ↦
              let o-h : o ≡ b.height = omega (arith, a, z, m, k-h, b.atop.size) in
              omega (arith, b.cut_lows c l, owner-tree (item s.items o) (cut cuts c).low p (ap (λ (i : ℕ). (item s.items i).tree) o-h ∙ b.atop.tree), ap (λ (i : ℕ). (item s.items i).up) o-h, b.atop.up)
        ])
      ]

      held-now : IsHeld g t.vertex now b.rest
      held-now = held-split_off g t numbered s b.rest b.held stands.left.is_family all_items k (top_item s).up (top_item s).low side off sep ends.0 ends.1 mid now x e (sym (ap (λ (p : PassState). p.parts) e.now)) (sym (ap (λ (p : PassState). p.total) e.now)) refl refl refl
          (family-new last s.done s.at k k all_items side x s.items now.items b.rest renewed) (left-within last s.done s.at k k all_items side x s.items now.items b.rest renewed) (within-left last s.done s.at k k all_items side x s.items now.items b.rest renewed)

      raised-joined : IsRaised g t w now
      raised-joined = raised-now g t numbered w s b k k all_items side x now.items now.first now.total now.parts s.cuts renewed least tree-x x-up x-start ups held-now
          (omega (arith, edges-some))
          (first-new last s.done s.at k k all_items side x s.items now.items b.rest renewed g.vertex_count s.first now.first b.first
          (lowered-length (lowered s.first x.up (length (take k s.items))) x.low (length (take k s.items)) ∙ (lowered-length s.first x.up (length (take k s.items)) ∙ b.first.places))
          (λ z. elim (pushed-at s.first x.up x.low (length (take k s.items)) z (omega (arith, ends.0, b.first.places)) (omega (arith, ends.1, b.first.places))) [
            | inl q ↦ inl q
            | inr q ↦ inr (omega (arith, q.0, front-length), omega (arith, q.0, front-length), omega (arith, q.0, q.1), q.2)
          ])
          (λ z i a d q. omega (arith, pushed-here s.first x.up x.low (length (take k s.items)) z (omega (arith, ends.0, b.first.places)) (omega (arith, ends.1, b.first.places)) q, front-length, a)))
          (λ i four l p. absurd (none i l p))
          (λ y z p. refl) b.below.base_within
          (replaced-sound last s.done s.at k k h all_items side x s.items now.items b.rest renewed x-up tree-x b.atop.size b.atop.tree b.atop.up ups (at_place s.start w) x-start cuts (λ c l. omega (arith, starts c l, k-h)) at-frond (λ c l u d. x-low) darts-front b.sound)
          (replaced-complete last s.done s.at k k h all_items side x s.items now.items b.rest renewed x-up tree-x b.atop.size b.atop.tree b.atop.up ups (at_place s.start w) x-start cuts cuts (λ c d. inl d) b.complete)
          b.cut_lows
        where
          edges-some : s.total + 1 - length e.edges ≤ s.total
          edges-some = omega (arith, split_off-two g t numbered s b.rest b.held stands.left.is_family all_items k (top_item s).up (top_item s).low side off sep ends.0 ends.1 mid e)

          none : (i : ℕ) → i < k → is_frond_to s.at (item now.items k).low (item now.items i) ≡ true → ⊥
          none i l p =
              let q = frond-parts s.at (item now.items k).low (item now.items i) p in
              let same = now-same i l in
              parallel-not last s.done s.at h s.items b.rest stands b.atop.size b.atop.topped i k l (omega (arith, k-h))
              (ap (λ (y : StackEntry). y.up) (sym same) ∙ (q.1 ∙ (sym b.atop.up ∙ sym up-same)))
              (ap (λ (y : StackEntry). y.low) (sym same) ∙ (q.2 ∙ (ap (λ (y : StackEntry). y.low) now-top ∙ sym par.low)))

      height-now : raised-joined.height ≡ k
      height-now = omega (arith, raised-joined.atop.size, renewed.size)

      pub joined-back : IsBack g t w now
      joined-back = record {
        raised = raised-joined;
        no_frond = λ i l f lo u.
            let i-k : i < k = omega (arith, l, height-now) in
            parallel-not last s.done s.at h s.items b.rest stands b.atop.size b.atop.topped i k i-k (omega (arith, k-h))
            (ap (λ (y : StackEntry). y.up) (sym (now-same i i-k)) ∙ (u ∙ (sym b.atop.up ∙ sym up-same)))
            (ap (λ (y : StackEntry). y.low) (sym (now-same i i-k)) ∙ (lo ∙ (ap (λ (j : ℕ). (item now.items j).low) height-now ∙ (ap (λ (y : StackEntry). y.low) now-top ∙ sym par.low))));
      }

  -- where nothing is joined, no frond is parallel
  pub unjoined-back : (IsParallel s → ⊥) → IsBack g t w s
  unjoined-back none = record {
    raised = b;
    no_frond = λ i l f lo u.
        let four = four-there last s.done s.at s.items b.rest stands above i b.height l h-here (omega (arith, u)) (omega (arith, b.atop.up)) in
        let at = b.fronds i (omega (arith, four, b.held.total)) l (rw (f, eq-eqb (item s.items i).up s.at u, eq-eqb (item s.items i).low (item s.items b.height).low lo) refl) in
        let k : length s.items - 2 ≡ i = omega (arith, at, b.atop.size) in
        none (record {
          two = omega (arith, at, b.atop.size);
          four = omega (arith, four, b.held.total);
          frond = ap (λ (j : ℕ). (item s.items j).tree) k ∙ f;
          up = ap (λ (j : ℕ). (item s.items j).up) k ∙ (u ∙ (sym b.atop.up ∙ ap (λ (y : StackEntry). y.up) (sym top-is)));
          low = ap (λ (j : ℕ). (item s.items j).low) k ∙ (lo ∙ ap (λ (y : StackEntry). y.low) (sym top-is));
        });
  }
