-- The pass goes down along a tree edge.
use Rattle.std.proofs.Common.{◌≡◌, ◌≢◌, ℕ, ◌<◌, ◌≤◌, ◌⊎◌, inl, inr, true, List, length, take, drop, refl, sym, ap, ◌∙◌, subst, arith, get_or-set_same, get_or-set_other, take_all}
use Rattle.std.proofs.lemmas.Bool.{cases_lt, cases_eq}
use Rattle.std.proofs.lemmas.List.{length-set, length-drop}
use Rattle.multigraph.specs.Graph.{Multigraph, edge_count}
use Rattle.pair_split.specs.Family.{has_end, touches}
use Rattle.split_comp.specs.declared.items.StackEntry.{StackEntry}
use Rattle.split_comp.specs.declared.items.StackCut.{StackCut}
use Rattle.split_comp.specs.declared.items.Dart.{Dart}
use Rattle.split_comp.specs.Stack.{item, entry, owner, IsStack, IsSorted}
use Rattle.split_comp.specs.Palm.{tree_dart, tree_degree, tree_parent, IsPalm}
use Rattle.split_comp.specs.Walk.{IsOnPath, IsWalk}
use Rattle.split_comp.specs.Cuts.{AreSound, AreComplete}
use Rattle.split_comp.specs.Frames.{AreFrames, AreReached, AreAhead, AreCutsBelow, IsGoneTo}
use Rattle.split_comp.specs.Pass.{NumberedTree, PassState, at_place, IsPass, gone_down}
use Rattle.split_comp.proofs.Entries.{up-end, low-end}
use Rattle.split_comp.proofs.Lying.{owner-end, start-at}
use Rattle.split_comp.proofs.Walk.{walk-down, left-on_path}

-- no cuts are sound, and complete where the vertex has no entries
pub sound-none : (s x : ℕ) (stack : List StackEntry) (cuts : List StackCut) → length cuts ≡ 0 → AreSound s x stack cuts
sound-none s x stack cuts e = record {
  each = λ k l. absurd (omega (arith, l, e));
  chain = record { starts_rise = λ k l. absurd (omega (arith, l, e)); ups_rise = λ k l. absurd (omega (arith, l, e)); lows_fall = λ k l. absurd (omega (arith, l, e)); met = λ k l. absurd (omega (arith, l, e)) };
}

-- all below a vertex to which the search has just come is not finished
pub fresh-last : (n m : ℕ) (parent degree : ℕ → ℕ) (dart : ℕ → ℕ → Dart) (palm : IsPalm n m parent degree dart) (w done : ℕ) (gone : ℕ → ℕ) → IsWalk n palm.last parent degree dart w done gone → gone w ≡ 0 → palm.last w ≤ done
fresh-last n m parent degree dart palm w done gone walk none = elim (cases_lt done (palm.last w)) [
  | inr a ↦ a
  | inl a ↦
      let d-in : done < n = omega (arith, a, palm.within w (omega (arith, walk.current, walk.within))) in
      let up = palm.parent_less done d-in (λ e. omega (arith, e, walk.current)) in
      let over = palm.ancestors done w d-in walk.current a in
      let u-in : parent done < n = omega (arith, up.0, d-in) in
      let c = palm.child (parent done) done u-in up.0 up.1 in
      let far = palm.tree_far (parent done) c.0 u-in c.1 c.2 in
      absurd (elim (cases_lt (dart (parent done) c.0).far done) [
        | inl k ↦ omega (arith, far.1, (palm.ancestors done (dart (parent done) c.0).far d-in k c.4).0)
        | inr k ↦
            let zero-gone : gone (parent done) ≡ 0 = elim (cases_eq (parent done) w) [ inl e ↦ ap gone e ∙ none | inr e ↦ walk.fresh (parent done) up.0 (λ p. omega (arith, p.0, over.0, e)) ] in
            omega (arith, k, walk.tree_left (parent done) c.0 u-in c.1 c.2 (omega (arith, zero-gone)))
      ])
]

module _ (g : Multigraph) (t : NumberedTree) (s : PassState) (p : IsPass g t s) (more : at_place s.gone s.at < tree_degree t.palm t.vertex s.at) (tree : (tree_dart g t.palm t.vertex s.at (at_place s.gone s.at)).tree ≡ true) where
  abbrev dart : ℕ → ℕ → Dart
  dart = tree_dart g t.palm t.vertex

  abbrev w : ℕ
  w = (dart s.at (at_place s.gone s.at)).far

  abbrev last : ℕ → ℕ
  last = p.palm.last

  abbrev now : PassState
  now = gone_down s w

  v-in : s.at < g.vertex_count
  v-in = omega (arith, p.walk.current, p.walk.within)

  far : (w < g.vertex_count) × (s.at < w) × (w < last s.at) × (tree_parent t.palm t.vertex w ≡ s.at)
  far = p.palm.tree_far s.at (at_place s.gone s.at) v-in more tree

  w-walk : IsWalk g.vertex_count last (tree_parent t.palm t.vertex) (tree_degree t.palm t.vertex) dart w s.done (at_place s.gone)
  w-walk = walk-down g.vertex_count (edge_count g) (tree_parent t.palm t.vertex) (tree_degree t.palm t.vertex) dart p.palm s.at s.done (at_place s.gone) p.walk more tree

  fresh : (u : ℕ) → w ≤ u → u < s.done → at_place s.gone u ≡ 0
  fresh u a b = p.walk.fresh u b (λ q. omega (arith, q.0, a, far.1))

  last-done : last w ≤ s.done
  last-done = fresh-last g.vertex_count (edge_count g) (tree_parent t.palm t.vertex) (tree_degree t.palm t.vertex) dart p.palm w s.done (at_place s.gone) w-walk (fresh w (omega arith) w-walk.current)

  -- ends of entries are on the path to v, or finished
  ends : (i z : ℕ) → i < length s.items → has_end z (entry (item s.items i)) ≡ true → (z ≤ s.at) ⊎ (s.done ≤ z)
  ends i z l h = elim (cases_lt s.at z) [
    | inr a ↦ inl a
    | inl a ↦ let e = p.stands.ended.held i z l h a in inr (omega (arith, p.stands.laid.finished e.0 e.1.within e.1.tree, e.1.low))
  ]

  ends-v : (i z : ℕ) → i < length s.items → has_end z (entry (item s.items i)) ≡ true → z ≤ w → z ≤ s.at
  ends-v i z l h b = elim (ends i z l h) [ inl a ↦ a | inr a ↦ absurd (omega (arith, a, b, w-walk.current)) ]

  path-cases : (x : ℕ) → IsOnPath last w x → (x ≡ w) ⊎ ((x ≢ w) × IsOnPath last s.at x)
  path-cases x q = elim (cases_eq x w) [
    | inl e ↦ inl e
    | inr e ↦ let a = p.palm.ancestors w x far.0 (omega (arith, q.0, e)) q.1 in inr (e, (omega (arith, a.0, far.3), subst (λ (y : ℕ). y < last x) far.3 a.1))
  ]

  start-w : at_place now.start w ≡ length s.items
  start-w = get_or-set_same s.start w (length s.items) 0 (omega (arith, p.places.start, far.0))

  start-x : (x : ℕ) → x ≢ w → at_place now.start x ≡ at_place s.start x
  start-x x n = get_or-set_other s.start w x (length s.items) 0 n

  base-w : at_place now.base w ≡ length s.cuts
  base-w = get_or-set_same s.base w (length s.cuts) 0 (omega (arith, p.places.base, far.0))

  base-x : (x : ℕ) → x ≢ w → at_place now.base x ≡ at_place s.base x
  base-x x n = get_or-set_other s.base w x (length s.cuts) 0 n

  stands : IsStack last s.done w s.items p.rest
  stands = record {
    above = p.stands.above;
    nested = p.stands.nested;
    laid = p.stands.laid;
    ended = record {
      held = λ i z l h a. p.stands.ended.held i z l h (omega (arith, a, far.1));
      on_path = λ i z l h b. let c = ends-v i z l h b in omega (arith, far.2, p.palm.nested z s.at c (p.stands.ended.on_path i z l h c));
    };
    left = record {
      is_family = p.stands.left.is_family;
      is_tight = p.stands.left.is_tight;
      ahead = w-walk.current;
      free = p.stands.left.free;
      on_path = λ i z l h b. p.stands.left.on_path i z l h (ends-v i z l h b);
      own = touched;
    };
  }
    where
      root-left : at_place s.gone 0 < tree_degree t.palm t.vertex 0
      root-left = elim (cases_eq s.at 0) [
        | inl e ↦ p.going e
        | inr n ↦ let r = p.walk.under_way (root-child n).0 (root-child n).1 (root-child n).2 in subst (λ (y : ℕ). at_place s.gone y < tree_degree t.palm t.vertex y) (root-child n).3 r.0
      ]
        where
          root-child : s.at ≢ 0 → (x : ℕ) × (x ≢ 0) × IsOnPath last s.at x × (tree_parent t.palm t.vertex x ≡ 0)
          root-child n =
              let root-in : 0 < g.vertex_count = omega (arith, v-in) in
              let c = p.palm.child 0 s.at root-in (omega (arith, n)) (omega (arith, p.palm.root, v-in)) in
              let f = p.palm.tree_far 0 c.0 root-in c.1 c.2 in
              ((dart 0 c.0).far, omega (arith, f.1), (c.3, c.4), f.3)

      touched : touches p.rest w ≡ true
      touched = left-on_path g.vertex_count (edge_count g) (tree_parent t.palm t.vertex) (tree_degree t.palm t.vertex) dart p.palm w s.done (at_place s.gone) w-walk p.rest p.left root-left w (omega arith, p.palm.above w)

  frames : AreFrames last w (at_place now.start) s.items
  frames = record {
    within = λ x n q. elim (path-cases x q) [
      | inl e ↦ omega (arith, ap (at_place now.start) e, start-w)
      | inr e ↦ omega (arith, start-x x e.0, p.frames.within x n e.1)
    ];
    from = λ x i n q a l. elim (path-cases x q) [
      | inl e ↦ absurd (omega (arith, ap (at_place now.start) e, start-w, a, l))
      | inr e ↦ p.frames.from x i n e.1 (omega (arith, start-x x e.0, a)) l
    ];
    before = λ x i n q a. elim (path-cases x q) [
      | inl e ↦
          let l : i < length s.items = omega (arith, a, ap (at_place now.start) e, start-w) in
          elim (ends i (item s.items i).low l (low-end-of i)) [ inl k ↦ inl (omega (arith, k, e, far.1)) | inr k ↦ inr (omega (arith, k, last-done, ap last e)) ]
      | inr e ↦ p.frames.before x i n e.1 (omega (arith, start-x x e.0, a))
    ];
    tree_up = λ x i n q a l f. elim (path-cases x q) [
      | inl e ↦ absurd (omega (arith, ap (at_place now.start) e, start-w, a, l))
      | inr e ↦ p.frames.tree_up x i n e.1 (omega (arith, start-x x e.0, a)) l f
    ];
  }
    where
      low-end-of : (i : ℕ) → has_end (item s.items i).low (entry (item s.items i)) ≡ true
      low-end-of i = low-end (item s.items i).low (item s.items i) refl

  none-gone : (y : ℕ) → IsGoneTo dart last (at_place s.gone) w y → ⊥
  none-gone y h = omega (arith, h.within, fresh h.from h.above (omega (arith, h.below, last-done)))

  reached : AreReached last dart (at_place s.gone) w (at_place now.start) s.items
  reached = record {
    gone_to = λ x i n q a l u. elim (path-cases x q) [
      | inl e ↦ absurd (omega (arith, ap (at_place now.start) e, start-w, a, l))
      | inr e ↦ p.reached.gone_to x i n e.1 (omega (arith, start-x x e.0, a)) l u
    ];
    met = λ x y n q u h. elim (path-cases x q) [
      | inl e ↦ absurd (none-gone y (subst (λ (k : ℕ). IsGoneTo dart last (at_place s.gone) k y) e h))
      | inr e ↦ let i = p.reached.met x y n e.1 u h in (i.0, omega (arith, start-x x e.0, i.1), i.2, i.3)
    ];
  }

  sorted : IsSorted w (length s.items) s.items p.rest
  sorted = record {
    reach_rises = λ r q j a b o c d u. p.sorted.reach_rises r q j a b o c d (ends-v j (item s.items j).up (omega (arith, d, b)) (up-end (item s.items j).up (item s.items j) refl) u);
    frond_rises = λ r q j f a b o k u c d. p.sorted.frond_rises r q j f a b o k (ends-v r (item s.items r).up (omega (arith, a, b)) (up-end (item s.items r).up (item s.items r) refl) u) c d;
  }

  owner-not : (r u : ℕ) → r < length s.items → owner (item s.items r) ≡ u → u ≡ w → ⊥
  owner-not r u l o e = let a = ends-v r w l (subst (λ (y : ℕ). has_end y (entry (item s.items r)) ≡ true) (o ∙ e) (owner-end (item s.items r))) (omega arith) in omega (arith, a, far.1)

  ahead : AreAhead last (tree_degree t.palm t.vertex) dart (at_place s.gone) w (length s.items) s.items p.rest
  ahead = record {
    reach_ahead = λ u r k n q l o a b. elim (path-cases u q) [
      | inl e ↦ absurd (owner-not r u l o e)
      | inr e ↦ p.ahead.reach_ahead u r k n e.1 l o a b
    ];
    frond_ahead = λ u r k c n q l o f a b. elim (path-cases u q) [
      | inl e ↦ absurd (owner-not r u l o e)
      | inr e ↦ p.ahead.frond_ahead u r k c n e.1 l o f a b
    ];
  }

  below : AreCutsBelow last (tree_parent t.palm t.vertex) w (at_place now.start) (at_place now.base) s.items s.cuts
  below = record {
    base_within = λ x n q. elim (path-cases x q) [
      | inl e ↦ omega (arith, ap (at_place now.base) e, base-w)
      | inr e ↦ omega (arith, base-x x e.0, p.cuts.below.base_within x n e.1)
    ];
    base_rises = λ y n m q. elim (path-cases y q) [
      | inl e ↦ let b = p.cuts.below.base_within s.at (λ z. m (up-w y e ∙ z)) (omega arith, p.palm.above s.at) in omega (arith, ap (at_place now.base) e, base-w, ap (at_place now.base) (up-w y e), base-x s.at v-not, b)
      | inr e ↦ omega (arith, base-x y e.0, base-x (tree_parent t.palm t.vertex y) (up-not y n e.1), p.cuts.below.base_rises y n m e.1)
    ];
    sound_below = λ y n m q. elim (path-cases y q) [
      | inl e ↦ subst (λ (k : ℕ). AreSound (at_place now.start (tree_parent t.palm t.vertex k)) (tree_parent t.palm t.vertex k) (take (at_place now.start k) s.items) (drop (at_place now.base (tree_parent t.palm t.vertex k)) (take (at_place now.base k) s.cuts))) (sym e) (sound-v (λ z. m (up-w y e ∙ z)))
      | inr e ↦
          let parts = p.cuts.below.sound_below y n m e.1 in
          rw (start-x (tree_parent t.palm t.vertex y) (up-not y n e.1), start-x y e.0, base-x (tree_parent t.palm t.vertex y) (up-not y n e.1), base-x y e.0) parts
    ];
    complete_below = λ y n m q. elim (path-cases y q) [
      | inl e ↦ subst (λ (k : ℕ). AreComplete (at_place now.start (tree_parent t.palm t.vertex k)) (tree_parent t.palm t.vertex k) (take (at_place now.start k) s.items) (drop (at_place now.base (tree_parent t.palm t.vertex k)) (take (at_place now.base k) s.cuts))) (sym e) (complete-v (λ z. m (up-w y e ∙ z)))
      | inr e ↦ rw (start-x (tree_parent t.palm t.vertex y) (up-not y n e.1), start-x y e.0, base-x (tree_parent t.palm t.vertex y) (up-not y n e.1), base-x y e.0) (p.cuts.below.complete_below y n m e.1)
    ];
  }
    where
      v-not : s.at ≢ w
      v-not e = omega (arith, e, far.1)

      up-w : (y : ℕ) → y ≡ w → tree_parent t.palm t.vertex y ≡ s.at
      up-w y e = ap (tree_parent t.palm t.vertex) e ∙ far.3

      up-not : (y : ℕ) → y ≢ 0 → IsOnPath last s.at y → tree_parent t.palm t.vertex y ≢ w
      up-not y n q e = omega (arith, e, q.0, far.1, (p.palm.parent_less y (omega (arith, q.0, v-in)) n).0)

      sound-v : s.at ≢ 0 → AreSound (at_place now.start (tree_parent t.palm t.vertex w)) (tree_parent t.palm t.vertex w) (take (at_place now.start w) s.items) (drop (at_place now.base (tree_parent t.palm t.vertex w)) (take (at_place now.base w) s.cuts))
      sound-v n = rw (far.3, start-x s.at v-not, start-w, base-x s.at v-not, base-w, take_all (length s.items) s.items (omega arith), take_all (length s.cuts) s.cuts (omega arith)) (p.cuts.sound n)

      complete-v : s.at ≢ 0 → AreComplete (at_place now.start (tree_parent t.palm t.vertex w)) (tree_parent t.palm t.vertex w) (take (at_place now.start w) s.items) (drop (at_place now.base (tree_parent t.palm t.vertex w)) (take (at_place now.base w) s.cuts))
      complete-v n = rw (far.3, start-x s.at v-not, start-w, base-x s.at v-not, base-w, take_all (length s.items) s.items (omega arith), take_all (length s.cuts) s.cuts (omega arith)) (p.cuts.complete n)

  pub down-pass : IsPass g t now
  down-pass = record {
    palm = p.palm;
    rest = p.rest;
    places = record { start = length-set s.start w (length s.items) ∙ p.places.start; base = length-set s.base w (length s.cuts) ∙ p.places.base; gone = p.places.gone };
    walk = w-walk;
    going = λ e. absurd (omega (arith, e, far.1));
    left = p.left;
    held = record { total = p.held.total; state = p.held.state; few = p.held.few; entries = p.held.entries; three = p.held.three; ends = p.held.ends };
    stands = stands;
    frames = frames;
    reached = reached;
    first = p.first;
    sorted = sorted;
    ahead = ahead;
    clean = p.clean;
    cuts = record {
      below = below;
      sound = λ n. sound-none (at_place now.start w) w s.items (drop (at_place now.base w) s.cuts) (omega (arith, length-drop (at_place now.base w) s.cuts, base-w));
      complete = λ n a b c x k l. absurd (omega (arith, x.from, x.starts.starts, start-w, start-at last s.done w s.items p.rest stands x.starts.place x.starts.within, x.starts.within));
    };
  }
