-- The pass comes back from a vertex to its parent.
use Rattle.std.proofs.Common.{◌≡◌, ◌≢◌, ℕ, ◌+◌, ◌<◌, ◌≤◌, ◌⊎◌, inl, inr, Bool, true, not, List, [], ◌∷◌, length, map, take, drop, slice_index, refl, sym, ap, ◌∙◌, subst, arith}
use Rattle.std.proofs.lemmas.Bool.{cases_Bool, cases_lt, cases_eq, both_ways}
use Rattle.std.proofs.lemmas.List.{length-set, take-append-le, append-nil, length-append, length-map}
use Rattle.multigraph.specs.Graph.{Multigraph, edge_count}
use Rattle.pair_split.specs.Family.{Entry, IsFamily, IsSeparation, IsPrime}
use Rattle.pair_split.proofs.SameEntries.{IsWithin}
use Rattle.pair_split.proofs.Sides.{separation-other}
use Rattle.split_comp.specs.declared.items.StackEntry.{StackEntry}
use Rattle.split_comp.specs.declared.items.Dart.{Dart}
use Rattle.split_comp.specs.Stack.{item, entry, family, owner, IsStack, IsSorted, IsTopped, AreFirst}
use Rattle.split_comp.specs.Palm.{tree_dart, tree_degree, tree_parent, dart_entry, IsFrondTo}
use Rattle.split_comp.specs.Walk.{IsOnPath, IsWalk, AreLeft, IsOneMore}
use Rattle.split_comp.specs.Cuts.{AreSoundAt, AreCompleteAt}
use Rattle.split_comp.specs.Frames.{AreFrames, AreReached, AreAhead, IsGoneTo}
use Rattle.split_comp.specs.Pass.{NumberedTree, IsNumbered, PassState, IsHeld, at_place, IsPass, IsRaised, IsPassed, drawn, drawn_items, drawn_family, pushed, gone_along, gone_back, new_tree, lowered}
use Rattle.split_comp.proofs.Entries.{rest-family}
use Rattle.split_comp.proofs.Pushed.{IsPushed, pushed-size, pushed-front, pushed-top, pushed-cases, pushed-within, pushed-back, pushed-family, push-tree, pushed-first}
use Rattle.split_comp.proofs.Parallel.{push-topped, frond-below}
use Rattle.split_comp.proofs.Walk.{walk-return, left-more, left-free, left-on_path, walk-over}
use Rattle.split_comp.proofs.Held.{held-pushed, same-length, apart, drawn-name, map-items, drawn-tight}
use Rattle.split_comp.proofs.Renamed.{renamed-back}
use Rattle.split_comp.proofs.Firsts.{lowered-length, pushed-at, pushed-here, sorted-to, ahead-to, same-alike}
use Rattle.split_comp.proofs.Fronted.{below-kept}
use Rattle.split_comp.proofs.Noted.{IsFront}
use Rattle.split_comp.proofs.Returning.{return-sound, return-complete}
use Rattle.split_comp.proofs.Going.{one-more, root-left}

module _ (g : Multigraph) (t : NumberedTree) (numbered : IsNumbered g t) (s : PassState) (p : IsPass g t s) (all : at_place s.gone s.at ≡ tree_degree t.palm t.vertex s.at) (not-top : s.at ≢ 0) where
  abbrev dart : ℕ → ℕ → Dart
  dart = tree_dart g t.palm t.vertex

  abbrev degree : ℕ → ℕ
  degree = tree_degree t.palm t.vertex

  abbrev parent : ℕ → ℕ
  parent = tree_parent t.palm t.vertex

  abbrev v : ℕ
  v = parent s.at

  abbrev k : ℕ
  k = at_place s.gone v

  abbrev d : Dart
  d = dart v k

  abbrev last : ℕ → ℕ
  last = p.palm.last

  abbrev mid : PassState
  mid = gone_back (gone_along s v) v s.at

  abbrev x : StackEntry
  x = new_tree d.edge v s.at (at_place s.start s.at)

  -- the state afterwards
  abbrev now : PassState
  now = pushed mid x

  w-in : s.at < g.vertex_count
  w-in = omega (arith, p.walk.current, p.walk.within)

  less : (v < s.at) × (s.at < last v)
  less = p.palm.parent_less s.at w-in not-top

  v-in : v < g.vertex_count
  v-in = omega (arith, less.0, w-in)

  way : (k < degree v) × (d.tree ≡ true) × (d.far ≡ s.at)
  way = p.walk.under_way s.at not-top (omega arith, p.palm.above s.at)

  one : IsOneMore v (at_place s.gone) (at_place now.gone)
  one = one-more s.gone v (omega (arith, v-in, p.places.gone))

  rises : (u : ℕ) → at_place s.gone u ≤ at_place now.gone u
  rises u = elim (cases_eq u v) [ inl e ↦ omega (arith, ap (at_place s.gone) e, ap (at_place now.gone) e, one.0) | inr e ↦ omega (arith, one.1 u e) ]

  walks : (s.done ≡ s.at + 1) × IsWalk g.vertex_count last parent degree dart v s.at (at_place now.gone)
  walks = walk-return g.vertex_count (edge_count g) parent degree dart p.palm s.at s.done (at_place s.gone) p.walk (at_place now.gone) not-top all one

  taken : (fewer : List Entry) × AreLeft g.vertex_count degree dart (at_place now.gone) fewer × IsWithin p.rest (dart_entry v d ∷ fewer) × IsWithin (dart_entry v d ∷ fewer) p.rest × (length p.rest ≡ length fewer + 1) × IsFamily (dart_entry v d ∷ fewer)
  taken = left-more g.vertex_count (edge_count g) parent degree dart p.palm v (at_place s.gone) (at_place now.gone) p.rest v-in way.0 one p.left (rest-family s.items p.rest p.stands.left.is_family)

  same-entry : dart_entry v d ≡ entry x
  same-entry = rw (way.1, way.2) refl

  is-pushed : IsPushed s.items p.rest x now.items taken.0
  is-pushed = record {
    now = refl;
    is_family = p.stands.left.is_family;
    is_tight = p.stands.left.is_tight;
    into = subst (λ (e : Entry). IsWithin p.rest (e ∷ taken.0)) same-entry taken.2;
    back = subst (λ (e : Entry). IsWithin (e ∷ taken.0) p.rest) same-entry taken.3;
    rest_family = subst (λ (e : Entry). IsFamily (e ∷ taken.0)) same-entry taken.5;
  }

  size : length now.items ≡ length s.items + 1
  size = pushed-size s.items p.rest x now.items taken.0 is-pushed

  front : (i : ℕ) → i < length s.items → item now.items i ≡ item s.items i
  front i l = pushed-front s.items p.rest x now.items taken.0 is-pushed i l

  top : (i : ℕ) → i ≡ length s.items → item now.items i ≡ x
  top i e = pushed-top s.items p.rest x now.items taken.0 is-pushed i e

  cases : (i : ℕ) → i < length now.items → (i < length s.items) ⊎ (i ≡ length s.items)
  cases i l = pushed-cases s.items p.rest x now.items taken.0 is-pushed i l

  firsts : AreFirst g.vertex_count s.at now.first now.items
  firsts = pushed-first s.items p.rest x now.items taken.0 is-pushed g.vertex_count s.done s.at s.first now.first p.first
      (lowered-length (lowered s.first v (length s.items)) s.at (length s.items) ∙ (lowered-length s.first v (length s.items) ∙ p.first.places))
      (omega (arith, walks.0)) (λ e. p.walk.current)
      (λ z. elim (pushed-at s.first v s.at (length s.items) z (omega (arith, v-in, p.first.places)) (omega (arith, w-in, p.first.places))) [ inl q ↦ inl q | inr q ↦ inr (q.0, omega (arith, q.0, q.1), q.2) ])
      (λ z q. pushed-here s.first v s.at (length s.items) z (omega (arith, v-in, p.first.places)) (omega (arith, w-in, p.first.places)) q)

  -- the parent is not the root
  module _ (inner : v ≢ 0) where
    root-more : at_place now.gone 0 < degree 0
    root-more = omega (arith, root-left g t s p, one.1 0 (λ e. inner (sym e)))

    -- all fronds from below have been gone along
    below-gone : (y : ℕ) → IsFrondTo degree dart last s.at y → IsGoneTo dart last (at_place s.gone) s.at y
    below-gone y f = record { from = f.from; place = f.place; above = f.above; below = f.below; within = omega (arith, f.within, gone-all); frond = f.frond; far = f.far }
      where
        from-in : f.from < g.vertex_count
        from-in = omega (arith, f.below, p.palm.within s.at w-in)

        gone-all : at_place s.gone f.from ≡ degree f.from
        gone-all = elim (cases_eq f.from s.at) [
          | inl e ↦ subst (λ (u : ℕ). at_place s.gone u ≡ degree u) (sym e) all
          | inr e ↦ p.walk.finished f.from from-in (omega (arith, walks.0, f.above, e))
        ]

    gone-below : (y : ℕ) → IsGoneTo dart last (at_place s.gone) s.at y → IsFrondTo degree dart last s.at y
    gone-below y f = record { from = f.from; place = f.place; above = f.above; below = f.below; within = omega (arith, f.within, p.walk.gone_within f.from (omega (arith, f.below, p.palm.within s.at w-in))); frond = f.frond; far = f.far }

    some : at_place s.start s.at < length s.items
    some =
        let r = p.palm.reached v k v-in inner way.0 way.1 in
        let m = p.reached.met s.at d.reach not-top (omega arith, p.palm.above s.at) (omega (arith, r.0, less.0)) (below-gone d.reach (subst (λ (y : ℕ). IsFrondTo degree dart last y d.reach) way.2 r.1)) in
        omega (arith, m.1, m.2)

    stands : IsStack last s.at v now.items taken.0
    stands = push-tree s.items p.rest x now.items taken.0 is-pushed last parent (at_place s.start) s.done v s.at p.stands p.frames not-top refl less.0 less.1 (λ y a b. p.palm.ancestors s.at y w-in a b)
        refl refl refl refl some
        (left-free g.vertex_count (edge_count g) parent degree dart p.palm v s.at (at_place now.gone) walks.1 taken.0 taken.1)
        (λ z a b. left-on_path g.vertex_count (edge_count g) parent degree dart p.palm v s.at (at_place now.gone) walks.1 taken.0 taken.1 root-more z (a, b))

    -- a vertex on the path to the parent is on the path
    down : (y : ℕ) → IsOnPath last v y → IsOnPath last s.at y
    down y q = (omega (arith, q.0, less.0), omega (arith, less.1, p.palm.nested y v q.0 q.1))

    frames : AreFrames last v (at_place s.start) now.items
    frames = record {
      within = λ y n q. omega (arith, size, p.frames.within y n (down y q));
      from = λ y i n q a l. elim (cases i l) [
        | inl j ↦ subst (λ (z : StackEntry). (y ≤ z.low) × (z.low < last y)) (sym (front i j)) (p.frames.from y i n (down y q) a j)
        | inr j ↦ subst (λ (z : StackEntry). (y ≤ z.low) × (z.low < last y)) (sym (top i j)) (down y q)
      ];
      before = λ y i n q a. subst (λ (z : StackEntry). (z.low < y) ⊎ (last y ≤ z.low)) (sym (front i (omega (arith, a, p.frames.within y n (down y q))))) (p.frames.before y i n (down y q) a);
      tree_up = λ y i n q a l f. elim (cases i l) [
        | inl j ↦ omega (arith, ap (λ (z : StackEntry). z.up) (front i j), p.frames.tree_up y i n (down y q) a j (ap (λ (z : StackEntry). z.tree) (sym (front i j)) ∙ f))
        | inr j ↦ omega (arith, ap (λ (z : StackEntry). z.up) (top i j), q.0)
      ];
    }

    reached : AreReached last dart (at_place now.gone) v (at_place s.start) now.items
    reached = record {
      gone_to = λ y i n q a l u. elim (cases i l) [
        | inl j ↦
            let e = ap (λ (z : StackEntry). z.up) (front i j) in
            let r = p.reached.gone_to y i n (down y q) a j (omega (arith, e, u)) in
            record { from = r.from; place = r.place; above = r.above; below = r.below; within = omega (arith, r.within, rises r.from); frond = r.frond; far = r.far ∙ sym e }
        | inr j ↦ absurd (omega (arith, ap (λ (z : StackEntry). z.up) (top i j), q.0, u))
      ];
      met = λ y z n q u r. elim (cases_lt r.place (at_place s.gone r.from)) [
        | inl j ↦
            let i = p.reached.met y z n (down y q) u (record { from = r.from; place = r.place; above = r.above; below = r.below; within = j; frond = r.frond; far = r.far }) in
            (i.0, i.1, omega (arith, size, i.2), ap (λ (o : StackEntry). o.up) (front i.0 i.2) ∙ i.3)
        | inr j ↦
            let e : r.from ≡ v = elim (cases_eq r.from v) [ inl e ↦ e | inr e ↦ absurd (omega (arith, j, r.within, one.1 r.from e)) ] in
            let m : r.place ≡ k = omega (arith, j, r.within, ap (at_place s.gone) e, ap (at_place now.gone) e, one.0) in
            absurd (both_ways d.tree ((λ z. (dart (sym e z) (sym m z)).tree) ∙ r.frond) way.1)
      ];
    }

    fewer : length (family now.items taken.0) ≤ length (family s.items p.rest)
    fewer = omega (arith, same-length (family now.items taken.0) (family s.items p.rest) stands.left.is_family p.stands.left.is_family (pushed-back s.items p.rest x now.items taken.0 is-pushed) (pushed-within s.items p.rest x now.items taken.0 is-pushed))

    as-many : length (family now.items taken.0) ≡ s.total
    as-many = same-length (family now.items taken.0) (family s.items p.rest) stands.left.is_family p.stands.left.is_family (pushed-back s.items p.rest x now.items taken.0 is-pushed) (pushed-within s.items p.rest x now.items taken.0 is-pushed) ∙ sym p.held.total

    sorted : IsSorted v (length s.items) now.items taken.0
    sorted = sorted-to (length s.items) s.items now.items (same-alike (length s.items) s.items now.items (λ i l. sym (front i l))) v p.rest taken.0 fewer (record {
      reach_rises = λ r q j a b o c e u. p.sorted.reach_rises r q j a b o c e (omega (arith, u, less.0));
      frond_rises = λ r q j f a b o n u c e. p.sorted.frond_rises r q j f a b o n (omega (arith, u, less.0)) c e;
    })

    topped : IsTopped now.items taken.0 (length s.items)
    topped = push-topped s.items p.rest x now.items taken.0 is-pushed stands.left.is_family p.clean

    ahead : AreAhead last degree dart (at_place now.gone) v (length s.items) now.items taken.0
    ahead = ahead-to (length s.items) s.items now.items (same-alike (length s.items) s.items now.items (λ i l. sym (front i l))) last degree dart (at_place s.gone) (at_place now.gone) v p.rest taken.0 fewer rises (record {
      reach_ahead = λ u r j n q. p.ahead.reach_ahead u r j n (down u q);
      frond_ahead = λ u r j f n q. p.ahead.frond_ahead u r j f n (down u q);
    })

    h-top : item now.items (length s.items) ≡ x
    h-top = top (length s.items) refl

    owner-front : (r : ℕ) → r < length s.items → owner (item now.items r) ≡ v → owner (item s.items r) ≡ v
    owner-front r l o = ap owner (sym (front r l)) ∙ o

    v-path : IsOnPath last s.at v
    v-path = (omega (arith, less.0), less.1)

    is-front : IsFront s.items now.items (length s.items)
    is-front = record { size = refl; within = omega (arith, size); same = λ i l. sym (front i l) }

    child-start : at_place s.start v ≤ at_place s.start s.at
    child-start = elim (cases_lt (at_place s.start s.at) (at_place s.start v)) [
      | inr a ↦ a
      | inl a ↦
          let f = p.frames.from s.at (at_place s.start s.at) not-top (omega arith, p.palm.above s.at) (omega arith) some in
          absurd (elim (p.frames.before v (at_place s.start s.at) inner v-path a) [ inl j ↦ omega (arith, j, f.0, less.0) | inr j ↦ omega (arith, j, f.1, p.palm.nested v s.at (omega (arith, less.0)) less.1) ])
    ]

    take-same : (n : ℕ) → n ≤ length s.items → take n now.items ≡ take n s.items
    take-same n l = take-append-le n s.items (x ∷ []) l

    pub come-raised : IsRaised g t s.at now
    come-raised = record {
      palm = p.palm;
      rest = taken.0;
      places = record { start = p.places.start; base = p.places.base; gone = length-set s.gone v (slice_index s.gone v + 1) ∙ p.places.gone };
      walk = walks.1;
      from = refl;
      parent = refl;
      inside = w-in;
      not_root = inner;
      left = taken.1;
      held = held-pushed g t numbered s p.rest p.held p.stands.left.is_family now taken.0 refl refl stands.left.is_family (pushed-within s.items p.rest x now.items taken.0 is-pushed) (pushed-back s.items p.rest x now.items taken.0 is-pushed);
      height = length s.items;
      atop = record {
        stands = stands;
        size = size;
        tree = ap (λ (z : StackEntry). z.tree) h-top;
        up = ap (λ (z : StackEntry). z.up) h-top;
        start = ap (λ (z : StackEntry). z.start) h-top;
        sorted = sorted;
        topped = topped;
        behind = λ i l f.
            let j : i < length s.items = omega (arith, l, some) in
            let e = ap (λ (z : StackEntry). z.low) (front i j) in
            elim (p.frames.before s.at i not-top (omega arith, p.palm.above s.at) l) as (λ z. (item now.items (length s.items)).low < (item now.items i).low) [
              | inl a ↦ absurd (omega (arith, a, p.walk.current, p.stands.laid.finished i j (ap (λ (z : StackEntry). z.tree) (sym (front i j)) ∙ f)))
              | inr a ↦ omega (arith, a, e, ap (λ (z : StackEntry). z.low) h-top, p.palm.above s.at)
            ];
      };
      fronds = λ i f l par. frond-below last s.at v (length s.items) now.items taken.0 stands size (ap (λ (z : StackEntry). z.tree) h-top) (ap (λ (z : StackEntry). z.up) h-top) sorted (omega (arith, f, as-many)) i l par;
      frames = frames;
      child_start = child-start;
      place = k;
      last_gone = one.0;
      place_in = way.0;
      last_tree = way.1;
      last_far = way.2;
      child_within = λ i a l. elim (cases i l) [
        | inl j ↦ subst (λ (z : StackEntry). (s.at ≤ z.low) × (z.low < last s.at)) (sym (front i j)) (p.frames.from s.at i not-top (omega arith, p.palm.above s.at) a j)
        | inr j ↦ subst (λ (z : StackEntry). (s.at ≤ z.low) × (z.low < last s.at)) (sym (top i j)) (omega arith, p.palm.above s.at)
      ];
      child_to = λ i a l u. elim (cases i l) [
        | inl j ↦
            let e = ap (λ (z : StackEntry). z.up) (front i j) in
            subst (λ (y : ℕ). IsFrondTo degree dart last s.at y) (sym e) (gone-below (item s.items i).up (p.reached.gone_to s.at i not-top (omega arith, p.palm.above s.at) a j (omega (arith, e, u, less.0))))
        | inr j ↦ absurd (omega (arith, ap (λ (z : StackEntry). z.up) (top i j), u))
      ];
      child_met = λ y f u.
          let i = p.reached.met s.at y not-top (omega arith, p.palm.above s.at) (omega (arith, u, less.0)) (below-gone y f) in
          (i.0, i.1, omega (arith, size, i.2), ap (λ (o : StackEntry). o.up) (front i.0 i.2) ∙ i.3);
      reached = reached;
      first = firsts;
      ahead = ahead;
      ahead_last = λ r l o.
          let i = p.ahead.reach_ahead v r k inner v-path l (owner-front r l o) (omega arith) way.0 in
          (i.0, omega (arith, ap (λ (z : StackEntry). z.start) (front r l), i.1), i.2, omega (arith, ap (λ (z : StackEntry). z.up) (front i.0 (omega (arith, i.2, l))), i.3));
      frond_last = λ r f l o n. subst (λ (y : ℕ). (y < d.reach) ⊎ ((y ≡ d.reach) × (1 ≤ d.class))) (ap (λ (z : StackEntry). z.up) (sym (front r l)))
          (p.ahead.frond_ahead v r k (omega (arith, f, fewer)) inner v-path l (owner-front r l o) (ap (λ (z : StackEntry). z.tree) (sym (front r l)) ∙ n) (omega arith) way.0);
      below = below-kept last parent s.at (at_place s.start) (at_place s.base) s.items now.items s.cuts s.cuts p.cuts.below (λ y n q. take-same (at_place s.start y) (p.frames.within y n q)) (λ y n q. refl) p.cuts.below.base_within;
      sound = subst (λ (y : ℕ). AreSoundAt (at_place s.start s.at) v y now.items (drop (at_place s.base s.at) s.cuts)) (sym (ap (λ (z : StackEntry). z.low) h-top))
          (return-sound last v s.at (at_place s.start s.at) (length s.items) s.items now.items taken.0 stands is-front size (ap (λ (z : StackEntry). z.tree) h-top) (ap (λ (z : StackEntry). z.up) h-top) (ap (λ (z : StackEntry). z.low) h-top) (ap (λ (z : StackEntry). z.start) h-top) (drop (at_place s.base s.at) s.cuts) (p.cuts.sound not-top));
      complete = subst (λ (y : ℕ). AreCompleteAt (at_place s.start s.at) v y now.items (drop (at_place s.base s.at) s.cuts)) (sym (ap (λ (z : StackEntry). z.low) h-top))
          (return-complete last v s.at (at_place s.start s.at) (length s.items) s.items now.items taken.0 stands is-front size (ap (λ (z : StackEntry). z.tree) h-top) (ap (λ (z : StackEntry). z.up) h-top) (ap (λ (z : StackEntry). z.low) h-top) (ap (λ (z : StackEntry). z.start) h-top) topped (drop (at_place s.base s.at) s.cuts) (p.cuts.complete not-top));
      cut_lows = λ c l. elim ((p.cuts.sound not-top).each c l).below [
        | inl e ↦ omega (arith, e, less.0)
        | inr e ↦ omega (arith, p.stands.laid.finished e.place e.tree_at.within e.tree_at.tree, e.tree_at.low, walks.0, less.0)
      ];
    }

  -- the parent is the root
  module _ (outer : v ≡ 0) where
    all-gone : at_place now.gone 0 ≡ degree 0
    all-gone = omega (arith, subst (λ (u : ℕ). at_place now.gone u ≡ at_place s.gone u + 1) outer one.0, subst (λ (u : ℕ). at_place s.gone u < degree u) outer way.0, p.palm.root_dart)

    over : (s.at ≡ 1) × (taken.0 ≡ [])
    over = walk-over g.vertex_count (edge_count g) parent degree dart p.palm v s.at (at_place now.gone) walks.1 taken.0 taken.1 outer all-gone

    fam : IsFamily (family now.items taken.0)
    fam = pushed-family s.items p.rest x now.items taken.0 is-pushed (λ e. omega (arith, e, less.0)) (λ i l e. omega (arith, e, (p.stands.laid.rises i l).0))

    held : IsHeld g t.vertex now []
    held = subst (IsHeld g t.vertex now) over.1 (held-pushed g t numbered s p.rest p.held p.stands.left.is_family now taken.0 refl refl fam (pushed-within s.items p.rest x now.items taken.0 is-pushed) (pushed-back s.items p.rest x now.items taken.0 is-pushed))

    fam-none : IsFamily (family now.items [])
    fam-none = subst (λ (l : List Entry). IsFamily (family now.items l)) over.1 fam

    topped-none : IsTopped now.items [] (length s.items)
    topped-none = subst (λ (l : List Entry). IsTopped now.items l (length s.items)) over.1 (push-topped s.items p.rest x now.items taken.0 is-pushed fam p.clean)

    drawn-none : drawn_family g t.vertex now.items [] ≡ drawn_items g t.vertex now.items
    drawn-none = ap (map (drawn g t.vertex)) (append-nil (map entry now.items)) ∙ map-items g t numbered s p.rest p.held p.stands.left.is_family now.items

    none-parted : (u : ℕ → Bool) (a b : ℕ) → IsSeparation (family now.items []) u a b → ⊥
    none-parted u a b c = elim (cases_Bool (u (item now.items (length s.items)).name)) [
      | inr f ↦ both_ways (u (item now.items (length s.items)).name) f (topped-none u a b (record { separates = c; stacked = λ e m. absurd (omega (arith, m.1)) }))
      | inl f ↦ not-both (u (item now.items (length s.items)).name) f (topped-none (λ n. not (u n)) a b (record { separates = separation-other (family now.items []) u a b c; stacked = λ e m. absurd (omega (arith, m.1)) }))
    ]
      where
        not-both : (q : Bool) → q ≡ true → not q ≡ true → ⊥
        not-both q e f = both_ways (not q) (ap not e) f

    pub come-passed : IsPassed g t now
    come-passed = record {
      at_root = outer;
      last = over.0;
      none_left = subst (AreLeft g.vertex_count degree dart (at_place now.gone)) over.1 taken.1;
      all_gone = omega (arith, all-gone);
      places = record { start = p.places.start; base = p.places.base; gone = length-set s.gone v (slice_index s.gone v + 1) ∙ p.places.gone };
      held = held;
      prime = subst IsPrime drawn-none (record {
        tight = drawn-tight g t numbered now [] held fam-none;
        none = λ u a b c.
            let r = renamed-back g.vertex_count (λ y. slice_index t.vertex y) (apart g t numbered s p.rest p.held p.stands.left.is_family) (drawn g t.vertex) (family now.items [])
            (λ y m. drawn-name g t numbered s p.rest p.held p.stands.left.is_family y) (λ y m. held.ends y m) u a b c in
            none-parted u r.0 r.1 r.2;
      });
      three = omega (arith, held.three, held.total, length-append (map entry now.items) [], length-map now.items entry);
    }
