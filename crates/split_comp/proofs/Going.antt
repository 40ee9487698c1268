-- The pass goes along a frond.
use Rattle.std.proofs.Common.{◌≡◌, ◌≢◌, ℕ, ◌+◌, ◌<◌, ◌≤◌, ◌⊎◌, inl, inr, false, List, [], ◌∷◌, length, take, drop, slice_index, slice_set, refl, sym, ap, ◌∙◌, subst, arith, get_or-set_same, get_or-set_other, take_all}
use Rattle.std.proofs.lemmas.Bool.{cases_lt, cases_eq, both_ways}
use Rattle.std.proofs.lemmas.List.{length-set, take-append-le}
use Rattle.multigraph.specs.Graph.{Multigraph, edge_count}
use Rattle.pair_split.specs.Family.{Entry, IsFamily}
use Rattle.pair_split.proofs.SameEntries.{IsWithin}
use Rattle.split_comp.specs.declared.items.StackEntry.{StackEntry}
use Rattle.split_comp.specs.declared.items.Dart.{Dart}
use Rattle.split_comp.specs.Stack.{item, entry, family, owner, IsStack, AreFirst}
use Rattle.split_comp.specs.Palm.{tree_dart, tree_degree, tree_parent, dart_entry}
use Rattle.split_comp.specs.Walk.{IsWalk, AreLeft, IsOneMore}
use Rattle.split_comp.specs.Cuts.{AreSound, AreComplete}
use Rattle.split_comp.specs.Frames.{AreFrames, AreReached}
use Rattle.split_comp.specs.Pass.{NumberedTree, IsNumbered, PassState, at_place, IsPass, IsFronted, pushed, gone_along, new_frond, lowered}
use Rattle.split_comp.proofs.Entries.{rest-family}
use Rattle.split_comp.proofs.Pushed.{IsPushed, pushed-size, pushed-front, pushed-top, pushed-cases, pushed-within, pushed-back, push-frond, pushed-first}
use Rattle.split_comp.proofs.Parallel.{push-topped}
use Rattle.split_comp.proofs.Walk.{walk-frond, left-more, left-free, left-on_path, next-on-path}
use Rattle.split_comp.proofs.Held.{held-pushed, same-length}
use Rattle.split_comp.proofs.Firsts.{lowered-length, pushed-at, pushed-here, sorted-to, ahead-to, same-alike}
use Rattle.split_comp.proofs.Fronted.{below-kept}

-- one more dart
pub one-more : (gone : List ℕ) (v : ℕ) → v < length gone → IsOneMore v (at_place gone) (at_place (slice_set gone v (slice_index gone v + 1)))
one-more gone v l = (get_or-set_same gone v (slice_index gone v + 1) 0 l, λ u n. get_or-set_other gone v u (slice_index gone v + 1) 0 n)

-- the root has a dart left
pub root-left : (g : Multigraph) (t : NumberedTree) (s : PassState) (p : IsPass g t s) → at_place s.gone 0 < tree_degree t.palm t.vertex 0
root-left g t s p = elim (cases_eq s.at 0) [
  | inl e ↦ p.going e
  | inr n ↦
      let c = next-on-path g.vertex_count (edge_count g) (tree_parent t.palm t.vertex) (tree_degree t.palm t.vertex) (tree_dart g t.palm t.vertex) p.palm s.at s.done (at_place s.gone) p.walk 0 (omega (arith, n)) (omega arith, omega (arith, p.palm.root, p.walk.current, p.walk.within)) in
      subst (λ (y : ℕ). at_place s.gone y < tree_degree t.palm t.vertex y) c.3 (p.walk.under_way c.0 c.1 c.2).0
]

module _ (g : Multigraph) (t : NumberedTree) (numbered : IsNumbered g t) (s : PassState) (p : IsPass g t s) (more : at_place s.gone s.at < tree_degree t.palm t.vertex s.at) (frond : (tree_dart g t.palm t.vertex s.at (at_place s.gone s.at)).tree ≡ false) where
  abbrev dart : ℕ → ℕ → Dart
  dart = tree_dart g t.palm t.vertex

  abbrev degree : ℕ → ℕ
  degree = tree_degree t.palm t.vertex

  abbrev parent : ℕ → ℕ
  parent = tree_parent t.palm t.vertex

  abbrev d : Dart
  d = dart s.at (at_place s.gone s.at)

  abbrev last : ℕ → ℕ
  last = p.palm.last

  abbrev mid : PassState
  mid = gone_along s s.at

  abbrev x : StackEntry
  x = new_frond d.edge s.at d.far mid

  abbrev now : PassState
  now = pushed mid x

  v-in : s.at < g.vertex_count
  v-in = omega (arith, p.walk.current, p.walk.within)

  far : (d.far < s.at) × (s.at < last d.far)
  far = p.palm.frond_far s.at (at_place s.gone s.at) v-in more frond

  reach : (d.reach ≡ d.far) × (d.class ≡ 1)
  reach = p.palm.frond_reach s.at (at_place s.gone s.at) v-in more frond

  one : IsOneMore s.at (at_place s.gone) (at_place now.gone)
  one = one-more s.gone s.at (omega (arith, v-in, p.places.gone))

  rises : (u : ℕ) → at_place s.gone u ≤ at_place now.gone u
  rises u = elim (cases_eq u s.at) [ inl e ↦ omega (arith, ap (at_place s.gone) e, ap (at_place now.gone) e, one.0) | inr e ↦ omega (arith, one.1 u e) ]

  walk : IsWalk g.vertex_count last parent degree dart s.at s.done (at_place now.gone)
  walk = walk-frond g.vertex_count (edge_count g) parent degree dart p.palm s.at s.done (at_place s.gone) p.walk (at_place now.gone) one more frond

  taken : (fewer : List Entry) × AreLeft g.vertex_count degree dart (at_place now.gone) fewer × IsWithin p.rest (dart_entry s.at d ∷ fewer) × IsWithin (dart_entry s.at d ∷ fewer) p.rest × (length p.rest ≡ length fewer + 1) × IsFamily (dart_entry s.at d ∷ fewer)
  taken = left-more g.vertex_count (edge_count g) parent degree dart p.palm s.at (at_place s.gone) (at_place now.gone) p.rest v-in more one p.left (rest-family s.items p.rest p.stands.left.is_family)

  same-entry : dart_entry s.at d ≡ entry x
  same-entry = rw frond refl

  is-pushed : IsPushed s.items p.rest x now.items taken.0
  is-pushed = record {
    now = refl;
    is_family = p.stands.left.is_family;
    is_tight = p.stands.left.is_tight;
    into = subst (λ (e : Entry). IsWithin p.rest (e ∷ taken.0)) same-entry taken.2;
    back = subst (λ (e : Entry). IsWithin (e ∷ taken.0) p.rest) same-entry taken.3;
    rest_family = subst (λ (e : Entry). IsFamily (e ∷ taken.0)) same-entry taken.5;
  }

  size : length now.items ≡ length s.items + 1
  size = pushed-size s.items p.rest x now.items taken.0 is-pushed

  front : (i : ℕ) → i < length s.items → item now.items i ≡ item s.items i
  front i l = pushed-front s.items p.rest x now.items taken.0 is-pushed i l

  top : (i : ℕ) → i ≡ length s.items → item now.items i ≡ x
  top i e = pushed-top s.items p.rest x now.items taken.0 is-pushed i e

  cases : (i : ℕ) → i < length now.items → (i < length s.items) ⊎ (i ≡ length s.items)
  cases i l = pushed-cases s.items p.rest x now.items taken.0 is-pushed i l

  -- the root has a dart left, as the frond is none of the root
  not-root : s.at ≢ 0
  not-root e = omega (arith, e, far.0)

  root-more : at_place now.gone 0 < degree 0
  root-more = omega (arith, root-left g t s p, one.1 0 (λ e. not-root (sym e)))

  stands : IsStack last s.done s.at now.items taken.0
  stands = push-frond s.items p.rest x now.items taken.0 is-pushed last s.done s.at p.stands refl refl far.0 far.1 refl
      (left-free g.vertex_count (edge_count g) parent degree dart p.palm s.at s.done (at_place now.gone) walk taken.0 taken.1)
      (λ z a b. left-on_path g.vertex_count (edge_count g) parent degree dart p.palm s.at s.done (at_place now.gone) walk taken.0 taken.1 root-more z (a, b))

  frames : AreFrames last s.at (at_place s.start) now.items
  frames = record {
    within = λ y n q. omega (arith, size, p.frames.within y n q);
    from = λ y i n q a l. elim (cases i l) [
      | inl k ↦ subst (λ (z : StackEntry). (y ≤ z.low) × (z.low < last y)) (sym (front i k)) (p.frames.from y i n q a k)
      | inr k ↦ subst (λ (z : StackEntry). (y ≤ z.low) × (z.low < last y)) (sym (top i k)) q
    ];
    before = λ y i n q a. subst (λ (z : StackEntry). (z.low < y) ⊎ (last y ≤ z.low)) (sym (front i (omega (arith, a, p.frames.within y n q)))) (p.frames.before y i n q a);
    tree_up = λ y i n q a l f. elim (cases i l) [
      | inl k ↦ omega (arith, ap (λ (z : StackEntry). z.up) (front i k), p.frames.tree_up y i n q a k (ap (λ (z : StackEntry). z.tree) (sym (front i k)) ∙ f))
      | inr k ↦ absurd (both_ways (item now.items i).tree (ap (λ (z : StackEntry). z.tree) (top i k)) f)
    ];
  }

  reached : AreReached last dart (at_place now.gone) s.at (at_place s.start) now.items
  reached = record {
    gone_to = λ y i n q a l u. elim (cases i l) [
      | inl k ↦
          let e = ap (λ (z : StackEntry). z.up) (front i k) in
          let r = p.reached.gone_to y i n q a k (omega (arith, e, u)) in
          record { from = r.from; place = r.place; above = r.above; below = r.below; within = omega (arith, r.within, rises r.from); frond = r.frond; far = r.far ∙ sym e }
      | inr k ↦ record { from = s.at; place = at_place s.gone s.at; above = q.0; below = q.1; within = omega (arith, one.0); frond = frond; far = sym (ap (λ (z : StackEntry). z.up) (top i k)) }
    ];
    met = λ y z n q u r. elim (cases_lt r.place (at_place s.gone r.from)) [
      | inl k ↦
          let i = p.reached.met y z n q u (record { from = r.from; place = r.place; above = r.above; below = r.below; within = k; frond = r.frond; far = r.far }) in
          (i.0, i.1, omega (arith, size, i.2), ap (λ (o : StackEntry). o.up) (front i.0 i.2) ∙ i.3)
      | inr k ↦
          let e : r.from ≡ s.at = elim (cases_eq r.from s.at) [ inl e ↦ e | inr e ↦ absurd (omega (arith, k, r.within, one.1 r.from e)) ] in
          let m : r.place ≡ at_place s.gone s.at = omega (arith, k, r.within, ap (at_place s.gone) e, ap (at_place now.gone) e, one.0) in
          (length s.items, p.frames.within y n q, omega (arith, size), ap (λ (o : StackEntry). o.up) (top (length s.items) refl) ∙ ((λ k. (dart (sym e k) (sym m k)).far) ∙ r.far))
    ];
  }

  firsts : AreFirst g.vertex_count s.done now.first now.items
  firsts = pushed-first s.items p.rest x now.items taken.0 is-pushed g.vertex_count s.done s.done s.first now.first p.first
      (lowered-length (lowered s.first d.far (length s.items)) s.at (length s.items) ∙ (lowered-length s.first d.far (length s.items) ∙ p.first.places))
      (omega arith) (λ e. absurd (both_ways false refl e))
      (λ z. elim (pushed-at s.first d.far s.at (length s.items) z (omega (arith, far.0, v-in, p.first.places)) (omega (arith, v-in, p.first.places))) [ inl q ↦ inl q | inr q ↦ inr (q.0, omega (arith, q.0, q.1), q.2) ])
      (λ z q. pushed-here s.first d.far s.at (length s.items) z (omega (arith, far.0, v-in, p.first.places)) (omega (arith, v-in, p.first.places)) q)

  fewer : length (family now.items taken.0) ≤ length (family s.items p.rest)
  fewer = omega (arith, same-length (family now.items taken.0) (family s.items p.rest) stands.left.is_family p.stands.left.is_family (pushed-back s.items p.rest x now.items taken.0 is-pushed) (pushed-within s.items p.rest x now.items taken.0 is-pushed))

  owner-front : (r : ℕ) → r < length s.items → owner (item now.items r) ≡ s.at → owner (item s.items r) ≡ s.at
  owner-front r l o = ap owner (sym (front r l)) ∙ o

  top-up : (item now.items (length s.items)).up ≡ d.far
  top-up = ap (λ (z : StackEntry). z.up) (top (length s.items) refl)

  take-same : (k : ℕ) → k ≤ length s.items → take k now.items ≡ take k s.items
  take-same k l = take-append-le k s.items (x ∷ []) l

  pub frond-fronted : IsFronted g t now
  frond-fronted = record {
    palm = p.palm;
    rest = taken.0;
    places = record { start = p.places.start; base = p.places.base; gone = length-set s.gone s.at (slice_index s.gone s.at + 1) ∙ p.places.gone };
    walk = walk;
    not_root = not-root;
    left = taken.1;
    held = held-pushed g t numbered s p.rest p.held p.stands.left.is_family now taken.0 refl refl stands.left.is_family (pushed-within s.items p.rest x now.items taken.0 is-pushed) (pushed-back s.items p.rest x now.items taken.0 is-pushed);
    height = length s.items;
    size = size;
    frond = ap (λ (z : StackEntry). z.tree) (top (length s.items) refl);
    low = ap (λ (z : StackEntry). z.low) (top (length s.items) refl);
    stands = stands;
    topped = push-topped s.items p.rest x now.items taken.0 is-pushed stands.left.is_family p.clean;
    frames = frames;
    reached = reached;
    first = firsts;
    sorted = sorted-to (length s.items) s.items now.items (same-alike (length s.items) s.items now.items (λ i l. sym (front i l))) s.at p.rest taken.0 fewer p.sorted;
    ahead = ahead-to (length s.items) s.items now.items (same-alike (length s.items) s.items now.items (λ i l. sym (front i l))) last degree dart (at_place s.gone) (at_place now.gone) s.at p.rest taken.0 fewer rises p.ahead;
    reach_last = λ r l o.
        let i = p.ahead.reach_ahead s.at r (at_place s.gone s.at) not-root (omega arith, p.palm.above s.at) l (owner-front r l o) (omega arith) more in
        (i.0, omega (arith, ap (λ (z : StackEntry). z.start) (front r l), i.1), i.2, omega (arith, ap (λ (z : StackEntry). z.up) (front i.0 (omega (arith, i.2, l))), i.3, reach.0, top-up));
    frond_last = λ r f l o n. omega (
      arith,
      top-up,
      reach.0,
      ap (λ (z : StackEntry). z.up) (front r l),
      elim (p.ahead.frond_ahead s.at r (at_place s.gone s.at) (omega (arith, f, fewer)) not-root (omega arith, p.palm.above s.at) l (owner-front r l o) (ap (λ (z : StackEntry). z.tree) (sym (front r l)) ∙ n) (omega arith) more) as (λ z. (item s.items r).up ≤ d.reach) [
        | inl a ↦ omega (arith, a)
        | inr a ↦ omega (arith, a.0)
      ],
    );
    next = λ k a l. elim (p.palm.in_order s.at (at_place s.gone s.at) k v-in (omega (arith, one.0, a)) l) [
      | inl o ↦ inl (omega (arith, top-up, reach.0, o))
      | inr o ↦ inr (omega (arith, top-up, reach.0, o.0), omega (arith, reach.1, o.1))
    ];
    starts = p.frames.within s.at not-root (omega arith, p.palm.above s.at);
    below = below-kept last parent s.at (at_place s.start) (at_place s.base) s.items now.items s.cuts s.cuts p.cuts.below (λ y n q. take-same (at_place s.start y) (p.frames.within y n q)) (λ y n q. refl) p.cuts.below.base_within;
    sound = subst (λ (l : List StackEntry). AreSound (at_place s.start s.at) s.at l (drop (at_place s.base s.at) s.cuts)) (sym whole) (p.cuts.sound not-root);
    complete = subst (λ (l : List StackEntry). AreComplete (at_place s.start s.at) s.at l (drop (at_place s.base s.at) s.cuts)) (sym whole) (p.cuts.complete not-root);
  }
    where
      whole : take (length s.items) now.items ≡ s.items
      whole = take-same (length s.items) (omega arith) ∙ take_all (length s.items) s.items (omega arith)
