-- The state at the start: all edges are in the rest.
use Rattle.std.proofs.Common.{◌≡◌, ◌≢◌, ℕ, zero, suc, ◌+◌, ◌<◌, ◌≤◌, inl, inr, true, List, [], ◌∷◌, ◌++◌, length, map, slice_index, refl, sym, ap, ◌∙◌, subst, arith, Contains}
use Rattle.std.proofs.lemmas.Bool.{cases_Bool, cases_lt, both_ways, lt-ltb}
use Rattle.std.proofs.lemmas.List.{length-replicate, get_or-replicate, get_or_past, length-append, map-append}
use Rattle.std.proofs.lemmas.List.Elements.{Contains-append_cases, Contains-append_left, Contains-append_right}
use Rattle.permutations.specs.Members.{is_distinct}
use Rattle.multigraph.specs.Graph.{Multigraph, edge_count, numbers_below}
use Rattle.pair_split.specs.Family.{Entry, names, IsFamily, IsTight}
use Rattle.pair_split.specs.Skeleton.{SameEnds}
use Rattle.pair_split.specs.Edges.{graph_entry, entry_ends}
use Rattle.pair_split.specs.State.{IsSplitState}
use Rattle.pair_split.proofs.Elements.{contains-here, contains-cases, contains-none}
use Rattle.pair_split.proofs.GraphFamily.{numbers-distinct, one_block-tight, all-from_contained}
use Rattle.pair_split.proofs.Sides.{entry-from_one}
use Rattle.pair_split.proofs.Start.{state-start}
use Rattle.split_comp.specs.declared.items.Dart.{Dart}
use Rattle.split_comp.specs.Palm.{tree_dart, tree_degree, tree_parent, dart_entry, AreDrawn, IsPalm}
use Rattle.split_comp.specs.Walk.{IsWalk, AreLeft}
use Rattle.split_comp.specs.Pass.{NumberedTree, IsNumbered, PassState, at_place, drawn, IsPass, HasTurns, first_state}
use Rattle.split_comp.proofs.Renamed.{renamed-tight}
use Rattle.split_comp.proofs.Walk.{walk-start, left-free, left-on_path}
use Rattle.split_comp.proofs.Depth.{depth-of, depth-top, depth-deeper}
use Rattle.split_comp.specs.Stack.{no_place}

module _ (g : Multigraph) (t : NumberedTree) (numbered : IsNumbered g t) (palm : IsPalm g.vertex_count (edge_count g) (tree_parent t.palm t.vertex) (tree_degree t.palm t.vertex) (tree_dart g t.palm t.vertex))
    (are-drawn : AreDrawn g t.vertex g.vertex_count (tree_degree t.palm t.vertex) (tree_dart g t.palm t.vertex)) where
  abbrev n : ℕ
  n = g.vertex_count

  abbrev m : ℕ
  m = edge_count g

  abbrev dart : ℕ → ℕ → Dart
  dart = tree_dart g t.palm t.vertex

  abbrev degree : ℕ → ℕ
  degree = tree_degree t.palm t.vertex

  abbrev parent : ℕ → ℕ
  parent = tree_parent t.palm t.vertex

  -- the entry of an edge
  abbrev of-edge : (e : ℕ) → e < edge_count g → Entry
  of-edge e l = dart_entry (palm.dart_each e l).0 (dart (palm.dart_each e l).0 (palm.dart_each e l).1)

  of-edge-name : (e : ℕ) (l : e < edge_count g) → (of-edge e l).name ≡ e
  of-edge-name e l = (palm.dart_each e l).4

  less : (k : ℕ) → suc k ≤ edge_count g → k ≤ edge_count g
  less k l = omega (arith, l)

  -- those of the first edges
  abbrev rest-of : (k : ℕ) → k ≤ edge_count g → List Entry
  rest-of zero l = []
  rest-of (suc k) l = rest-of k (less k l) ++ of-edge k l ∷ []

  rest-size : (k : ℕ) (l : k ≤ edge_count g) → length (rest-of k l) ≡ k
  rest-size zero l = refl
  rest-size (suc k) l = omega (arith, length-append (rest-of k (less k l)) (of-edge k l ∷ []), rest-size k (less k l))

  rest-names : (k : ℕ) (l : k ≤ edge_count g) → names (rest-of k l) ≡ numbers_below k
  rest-names zero l = refl
  rest-names (suc k) l = map-append (λ (e : Entry). e.name) (rest-of k (less k l)) (of-edge k l ∷ [])
      ∙ (λ i. rest-names k (less k l) i ++ of-edge-name k l i ∷ [])

  drawn-edge : (e : ℕ) (l : e < edge_count g) → drawn g t.vertex (of-edge e l) ≡ graph_entry g e
  drawn-edge e l = rw (lt-ltb (of-edge e l).name (edge_count g) (omega (arith, of-edge-name e l, l))) (ap (graph_entry g) (of-edge-name e l))

  drawn-rest : (k : ℕ) (l : k ≤ edge_count g) → map (drawn g t.vertex) (rest-of k l) ≡ map (graph_entry g) (numbers_below k)
  drawn-rest zero l = refl
  drawn-rest (suc k) l = map-append (drawn g t.vertex) (rest-of k (less k l)) (of-edge k l ∷ [])
      ∙ ((λ i. drawn-rest k (less k l) i ++ drawn-edge k l i ∷ []) ∙ sym (map-append (graph_entry g) (numbers_below k) (k ∷ [])))

  -- each entry is that of an edge, and each edge has one
  rest-edge : (k : ℕ) (l : k ≤ edge_count g) (x : Entry) → Contains (rest-of k l) x → (e : ℕ) × (b : e < edge_count g) × (x ≡ of-edge e b)
  rest-edge zero l x c = absurd (contains-none x c)
  rest-edge (suc k) l x c = elim (Contains-append_cases (rest-of k (less k l)) (of-edge k l ∷ []) x c) [
    | inl d ↦ rest-edge k (less k l) x d
    | inr d ↦ elim (contains-cases x (of-edge k l) [] d) [ inl e ↦ (k, l, sym e) | inr e ↦ absurd (contains-none x e) ]
  ]

  edge-rest : (k : ℕ) (l : k ≤ edge_count g) (e : ℕ) → e < k → (b : e < edge_count g) × Contains (rest-of k l) (of-edge e b)
  edge-rest zero l e a = absurd (omega (arith, a))
  edge-rest (suc k) l e a = elim (cases_lt e k) [
    | inl b ↦ let w = edge-rest k (less k l) e b in (w.0, Contains-append_left (rest-of k (less k l)) (of-edge k l ∷ []) (of-edge e w.0) w.1)
    | inr b ↦ last-edge e (omega (arith, a, b))
  ]
    where
      last-edge : (e : ℕ) → k ≡ e → (b : e < edge_count g) × Contains (rest-of (suc k) l) (of-edge e b)
      last-edge e q = subst (λ (z : ℕ). (b : z < edge_count g) × Contains (rest-of (suc k) l) (of-edge z b)) q
          (l, Contains-append_right (rest-of k (less k l)) (of-edge k l ∷ []) (of-edge k l) (contains-here (of-edge k l) []))

  abbrev rest : List Entry
  rest = rest-of (edge_count g) (omega arith)

  -- where nothing has been gone along
  module _ (gone : ℕ → ℕ) (none : (u : ℕ) → gone u ≡ 0) where
    left : AreLeft g.vertex_count degree dart gone rest
    left = record {
      left = λ u k b c d.
          let w = edge-rest (edge_count g) (omega arith) (dart u k).edge (palm.dart_edge u k b d) in
          let z = palm.dart_each (dart u k).edge w.0 in
          let q = palm.dart_once z.0 z.1 u k z.2 z.3 b d z.4 in
          subst (λ (y : Entry). Contains rest y) (λ i. dart_entry (q.0 i) (dart (q.0 i) (q.1 i))) w.1;
      only = λ x c.
          let w = rest-edge (edge_count g) (omega arith) x c in
          let z = palm.dart_each w.0 w.1 in
          (z.0, z.1, z.2, omega (arith, none z.0), z.3, w.2);
    }

  apart : (x y : ℕ) → x < g.vertex_count → y < g.vertex_count → slice_index t.vertex x ≡ slice_index t.vertex y → x ≡ y
  apart x y a b e = sym (numbered.vertices.number x a) ∙ (ap (λ (z : ℕ). slice_index t.palm.number z) e ∙ numbered.vertices.number y b)

  ends : (x : Entry) → Contains rest x → (x.first < g.vertex_count) × (x.second < g.vertex_count) × SameEnds (slice_index t.vertex x.first, slice_index t.vertex x.second) (entry_ends (drawn g t.vertex x))
  ends x c =
      let w = rest-edge (edge_count g) (omega arith) x c in
      subst (λ (y : Entry). (y.first < g.vertex_count) × (y.second < g.vertex_count) × SameEnds (slice_index t.vertex y.first, slice_index t.vertex y.second) (entry_ends (drawn g t.vertex y))) (sym w.2) (edge-ends w.0 w.1)
    where
      edge-ends : (e : ℕ) (l : e < edge_count g) → ((of-edge e l).first < g.vertex_count) × ((of-edge e l).second < g.vertex_count) × SameEnds (slice_index t.vertex (of-edge e l).first, slice_index t.vertex (of-edge e l).second) (entry_ends (drawn g t.vertex (of-edge e l)))
      edge-ends e l =
          let z = palm.dart_each e l in
          let d = dart-ends z.0 z.1 z.2 z.3 in
          (d.0, d.1, subst (λ (y : Entry). SameEnds (slice_index t.vertex (of-edge e l).first, slice_index t.vertex (of-edge e l).second) (entry_ends y)) (ap (graph_entry g) z.4 ∙ sym (drawn-edge e l)) (are-drawn z.0 z.1 z.2 z.3))
        where
          dart-ends : (u k : ℕ) → u < g.vertex_count → k < degree u → ((dart_entry u (dart u k)).first < g.vertex_count) × ((dart_entry u (dart u k)).second < g.vertex_count)
          dart-ends u k a b = elim (cases_Bool (dart u k).tree) [
            | inl f ↦ let r = palm.tree_far u k a b f in rw f (a, r.0)
            | inr f ↦ let r = palm.frond_far u k a b f in rw f (omega (arith, r.0, a), a)
          ]

  no-loop : (x : Entry) → Contains rest x → x.first ≢ x.second
  no-loop x c =
      let w = rest-edge (edge_count g) (omega arith) x c in
      let z = palm.dart_each w.0 w.1 in
      subst (λ (y : Entry). y.first ≢ y.second) (sym w.2) (dart-loop z.0 z.1 z.2 z.3)
    where
      dart-loop : (u k : ℕ) → u < g.vertex_count → k < degree u → (dart_entry u (dart u k)).first ≢ (dart_entry u (dart u k)).second
      dart-loop u k a b = elim (cases_Bool (dart u k).tree) [
        | inl f ↦ let r = palm.tree_far u k a b f in rw f (λ e. omega (arith, e, r.1))
        | inr f ↦ let r = palm.frond_far u k a b f in rw f (λ e. omega (arith, e, r.0))
      ]

  fam : IsFamily rest
  fam = record { names_once = subst (λ (l : List ℕ). is_distinct l ≡ true) (sym (rest-names (edge_count g) (omega arith))) (numbers-distinct (edge_count g)); no_loops = all-from_contained (λ (e : Entry). e.first ≢ e.second) rest no-loop }

  tight : IsTight rest
  tight = renamed-tight g.vertex_count (λ y. slice_index t.vertex y) apart (drawn g t.vertex) rest named ends (subst IsTight (sym (drawn-rest (edge_count g) (omega arith))) (one_block-tight g numbered.block))
    where
      named : (x : Entry) → Contains rest x → (drawn g t.vertex x).name ≡ x.name
      named x c =
          let w = rest-edge (edge_count g) (omega arith) x c in
          subst (λ (y : Entry). (drawn g t.vertex y).name ≡ y.name) (sym w.2) (ap (λ (y : Entry). y.name) (drawn-edge w.0 w.1) ∙ sym (of-edge-name w.0 w.1))

  module _ (s : PassState) (now : s ≡ first_state g.vertex_count (edge_count g)) where
    abbrev began : PassState
    began = first_state g.vertex_count (edge_count g)

    gone-size : length began.gone ≡ g.vertex_count
    gone-size = length-replicate g.vertex_count 0

    none : (u : ℕ) → at_place began.gone u ≡ 0
    none u = elim (cases_lt u g.vertex_count) [ inl l ↦ get_or-replicate g.vertex_count u 0 0 l | inr l ↦ get_or_past began.gone u 0 (omega (arith, l, gone-size)) ]

    walk : IsWalk g.vertex_count palm.last parent degree dart 0 g.vertex_count (at_place began.gone)
    walk = walk-start g.vertex_count (edge_count g) parent degree dart palm (at_place began.gone) none

    root-more : at_place began.gone 0 < degree 0
    root-more = omega (arith, none 0, palm.root_dart)

    -- how many edges the rest has
    rest-all : length rest ≡ edge_count g
    rest-all = rest-size (edge_count g) (omega arith)

    began-pass : IsPass g t began
    began-pass = record {
      palm = palm;
      rest = rest;
      places = record { start = length-replicate g.vertex_count 0; base = length-replicate g.vertex_count 0; gone = length-replicate g.vertex_count 0 };
      walk = walk;
      going = λ e. root-more;
      left = left (at_place began.gone) none;
      held = record {
        total = sym (rest-size (edge_count g) (omega arith));
        state = subst (λ (l : List Entry). IsSplitState g (record { parts = []; current = l })) (sym (drawn-rest (edge_count g) (omega arith))) (state-start g numbered.graph);
        few = omega arith;
        entries = omega arith;
        three = numbered.large;
        ends = ends;
      };
      stands = record {
        above = palm.above;
        nested = palm.nested;
        laid = record {
          rises = λ i l. absurd (omega (arith, l));
          frond_start = λ i l. absurd (omega (arith, l));
          tree_start = λ i l. absurd (omega (arith, l));
          inside = λ i j l. absurd (omega (arith, l));
          outside = λ i j l. absurd (omega (arith, l));
          laminar = λ i j l. absurd (omega (arith, l));
          nearest = λ i j l. absurd (omega (arith, l));
          finished = λ i l. absurd (omega (arith, l));
        };
        ended = record { held = λ i z l. absurd (omega (arith, l)); on_path = λ i z l. absurd (omega (arith, l)) };
        left = record {
          is_family = fam;
          is_tight = tight;
          ahead = walk.current;
          free = left-free g.vertex_count (edge_count g) parent degree dart palm 0 g.vertex_count (at_place began.gone) walk rest (left (at_place began.gone) none);
          on_path = λ i z l. absurd (omega (arith, l));
          own = left-on_path g.vertex_count (edge_count g) parent degree dart palm 0 g.vertex_count (at_place began.gone) walk rest (left (at_place began.gone) none) root-more 0 (omega arith, palm.above 0);
        };
      };
      frames = record {
        within = λ x z q. absurd (z (omega (arith, q.0)));
        from = λ x i z q. absurd (z (omega (arith, q.0)));
        before = λ x i z q. absurd (z (omega (arith, q.0)));
        tree_up = λ x i z q. absurd (z (omega (arith, q.0)));
      };
      reached = record { gone_to = λ x i z q. absurd (z (omega (arith, q.0))); met = λ x y z q. absurd (z (omega (arith, q.0))) };
      first = record {
        places = length-replicate g.vertex_count no_place;
        least = λ i z l. absurd (omega (arith, l));
        attained = λ z l k. inl (get_or-replicate g.vertex_count z no_place 0 l);
      };
      sorted = record { reach_rises = λ r q j a b. absurd (omega (arith, b)); frond_rises = λ r q j f a b. absurd (omega (arith, b)) };
      ahead = record { reach_ahead = λ u r k z q. absurd (z (omega (arith, q.0))); frond_ahead = λ u r k f z q. absurd (z (omega (arith, q.0))) };
      clean = λ u a b bad. let x = entry-from_one rest u (omega (arith, bad.separates.two_inside)) in both_ways (u x.entry.name) (bad.stacked x.entry x.within) x.side;
      cuts = record {
        below = record {
          base_within = λ x z q. absurd (z (omega (arith, q.0)));
          base_rises = λ y z m q. absurd (z (omega (arith, q.0)));
          sound_below = λ y z m q. absurd (z (omega (arith, q.0)));
          complete_below = λ y z m q. absurd (z (omega (arith, q.0)));
        };
        sound = λ z. absurd (z refl);
        complete = λ z. absurd (z refl);
      };
    }

    pub begin-pass : IsPass g t s
    begin-pass = subst (IsPass g t) (sym now) began-pass

    -- one turn for each edge and one for each vertex but the root are left
    pub begin-turns : (k : ℕ) → k + 1 ≡ g.vertex_count + edge_count g → HasTurns g t s k
    begin-turns k all = subst (λ (z : PassState). HasTurns g t z k) (sym now) (record {
      depth = λ x. depth-of parent (suc x) x;
      top = depth-top n m parent degree dart palm;
      deeper = depth-deeper n m parent degree dart palm;
      rest = rest;
      is_family = fam;
      left = left (at_place began.gone) none;
      exact = omega (arith, all, rest-all, depth-top n m parent degree dart palm);
    })
