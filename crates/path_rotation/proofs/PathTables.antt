-- A path drawn: the tables are right again, and the labels of the faces still are.
use Rattle.std.proofs.Common.{◌≡◌, ◌≢◌, ℕ, ◌/◌, ◌<◌, ◌⊎◌, inl, inr, Bool, true, false, ◌&&◌, if◌then◌else◌, List, [], ◌∷◌, slice_index, refl, sym, ap, ◌∙◌, subst, arith}
use Rattle.std.proofs.lemmas.Bool.{false≢true, cases_Bool, both_ways, and_parts, and_from, or_cases, or_parts, or_left, or_right, false_from_ne_true}
use Rattle.permutations.specs.Count.{some}
use Rattle.permutations.specs.Members.{is_member}
use Rattle.permutations.proofs.Search.{some-from, some-witness}
use Rattle.permutations.proofs.Members.{member-head, member-tail, member-cases, distinct-head}
use Rattle.permutations.proofs.Relation.{same-tests, connected-reflexive, connected-symmetric, connected-transitive}
use Rattle.multigraph.specs.Graph.{Multigraph, IsGraph, edge_count, ends_of, is_end, other_end}
use Rattle.multigraph.specs.Marks.{is_marked}
use Rattle.multigraph.proofs.OtherEnd.{is_end-first, is_end-second, other_end-is_end}
use Rattle.graph_theory.specs.Path.{walk_vertices, IsWalk}
use Rattle.graph_theory.specs.Joined.{ends_where, joined_where}
use Rattle.graph_theory.proofs.Walks.{walk-edge, edge-met}
use Rattle.graph_theory.proofs.Joined.{joined-other, joined-more}
use Rattle.dart_maps.specs.Map.{twin}
use Rattle.dart_maps.proofs.Darts.{twin-twin, twin-below, twin-edge}
use Rattle.faces.specs.Euler.{tail, dart_count}
use Rattle.path_separation.specs.Drawn.{darts_along}
use Rattle.path_rotation.specs.Forced.{is_drawn, AreTables, AreClosed, LeadsOff, IsPathDrawn}
use Rattle.path_rotation.proofs.PathInserted.{AllDarts, inserted-takes, inserted-elsewhere, inserted-labels}
use Rattle.path_rotation.proofs.PathDarts.{darts-along}

-- the first of two numbers where a test passes
pub if-true : (t : Bool) (a b : ℕ) → t ≡ true → (if t then a else b) ≡ a
if-true t a b h = rw h refl

-- and the second where it fails
pub if-false : (t : Bool) (a b : ℕ) → t ≡ false → (if t then a else b) ≡ b
if-false t a b h = rw h refl

-- a vertex of a walk is an end of one of its edges
vertex-edge : (g : Multigraph) (es : List ℕ) (x e v : ℕ) → is_end g x e ≡ true → is_member v (walk_vertices g x (e ∷ es)) ≡ true → IsWalk g x (e ∷ es) → (h : ℕ) × (is_member h (e ∷ es) ≡ true) × (is_end g v h ≡ true)
vertex-edge g [] x e v i m w = elim (member-cases v x (other_end g e x ∷ []) m) [
  | inl q ↦ (e, member-head e [], subst (λ (u : ℕ). is_end g u e ≡ true) q i)
  | inr n ↦ elim (member-cases v (other_end g e x) [] n) [
    | inl q ↦ (e, member-head e [], subst (λ (u : ℕ). is_end g u e ≡ true) q (other_end-is_end g e x))
    | inr k ↦ absurd (false≢true k)
  ]
]
vertex-edge g (c ∷ es) x e v i m w = elim (member-cases v x (walk_vertices g (other_end g e x) (c ∷ es)) m) [
  | inl q ↦ (e, member-head e (c ∷ es), subst (λ (u : ℕ). is_end g u e ≡ true) q i)
  | inr n ↦ let r = vertex-edge g es (other_end g e x) c v w.1.0.1 n w.1 in (r.0, member-tail r.0 e (c ∷ es) r.1, r.2)
]

-- the vertices of a walk along edges that pass are joined to its first one
walk-vertices_joined : (g : Multigraph) (t : ℕ → Bool) (es : List ℕ) (x v : ℕ) → IsWalk g x es → ((e : ℕ) → is_member e es ≡ true → t e ≡ true) → is_member v (walk_vertices g x es) ≡ true → joined_where g t x v ≡ true
walk-vertices_joined g t [] x v w p m = elim (member-cases v x [] m) [
  | inl q ↦ subst (λ (u : ℕ). joined_where g t x u ≡ true) q (connected-reflexive (ends_where g t) x)
  | inr k ↦ absurd (false≢true k)
]
walk-vertices_joined g t (e ∷ es) x v w p m = elim (member-cases v x (walk_vertices g (other_end g e x) es) m) [
  | inl q ↦ subst (λ (u : ℕ). joined_where g t x u ≡ true) q (connected-reflexive (ends_where g t) x)
  | inr n ↦ connected-transitive (ends_where g t) x (other_end g e x) v (joined-other g t e x w.0.0 (p e (member-head e es)) w.0.1)
      (walk-vertices_joined g t es (other_end g e x) v w.1 (λ h k. p h (member-tail h e es k)) n)
]

-- a foot and a path from it
module _ (g : Multigraph) (ok : IsGraph g) (drawn on : List Bool) (next : List ℕ) (t : AreTables g drawn on next) (d : ℕ) (l : d < dart_count g) (off : is_drawn drawn d ≡ false) (start : is_marked on (tail g d) ≡ true) (along : List ℕ) (z : ℕ) (p : LeadsOff g on d along z) where
  abbrev edges : List ℕ
  edges = (d / 2) ∷ along

  abbrev inner : List ℕ
  inner = walk_vertices g (other_end g (d / 2) (tail g d)) along

  -- an edge of the path after the first does not meet the first vertex
  not-start : (e : ℕ) → is_member e along ≡ true → is_end g (tail g d) e ≡ true → ⊥
  not-start e m i = both_ways (is_member (tail g d) inner) (distinct-head (tail g d) inner p.path.vertices) (edge-met g (other_end g (d / 2) (tail g d)) along p.path.walk.1 e (tail g d) m i)

  edge-in : (e : ℕ) → is_member e edges ≡ true → e < edge_count g
  edge-in e m = walk-edge g (tail g d) edges p.path.walk e m

  -- an end of a drawn edge of the path would be one of the path's ends
  drawn-end : (e v : ℕ) → is_member e edges ≡ true → is_marked drawn e ≡ true → is_end g v e ≡ true → (v ≡ tail g d) ⊎ (v ≡ z)
  drawn-end e v m h i = p.inner v (edge-met g (tail g d) edges p.path.walk e v m i)
      (t.on_drawn v ∙ some-from (edge_count g) (λ k. is_marked drawn k && is_end g v k) e (edge-in e m) (and_from (is_marked drawn e) (is_end g v e) h i))

  -- so no edge of the path is drawn
  pub edge-off : (e : ℕ) → is_member e edges ≡ true → is_marked drawn e ≡ false
  edge-off e m = false_from_ne_true (is_marked drawn e) (λ h. elim (member-cases e (d / 2) along m) [
    | inl i ↦ both_ways (is_drawn drawn d) off (subst (λ (k : ℕ). is_marked drawn k ≡ true) (sym i) h)
    | inr i ↦ elim (drawn-end e (ends_of g e).0 m h (is_end-first g e)) [
      | inl a ↦ not-start e i (subst (λ (v : ℕ). is_end g v e ≡ true) a (is_end-first g e))
      | inr a ↦ elim (drawn-end e (ends_of g e).1 m h (is_end-second g e)) [
        | inl b ↦ not-start e i (subst (λ (v : ℕ). is_end g v e ≡ true) b (is_end-second g e))
        | inr b ↦ ok.no_loop e (edge-in e m) (a ∙ sym b)
      ]
    ]
  ])

  dart-in : (y : ℕ) → is_member (y / 2) edges ≡ true → y < dart_count g
  dart-in y m = let i : y / 2 < edge_count g = edge-in (y / 2) m in omega arith

  -- the darts of the path are alone
  dart-alone : (y : ℕ) → is_member (y / 2) edges ≡ true → slice_index next y ≡ y
  dart-alone y m = t.alone y (dart-in y m) (edge-off (y / 2) m)

  -- a drawn dart is not one of the path
  drawn-apart : (y : ℕ) → is_drawn drawn y ≡ true → is_member (y / 2) edges ≡ false
  drawn-apart y h = false_from_ne_true (is_member (y / 2) edges) (λ m. both_ways (is_drawn drawn y) (edge-off (y / 2) m) h)

  -- what holds of the darts of the path holds of those along it
  all-along : (P : ℕ → Type 0) → ((y : ℕ) → is_member (y / 2) edges ≡ true → P y) → AllDarts P (d ∷ darts_along g (other_end g (d / 2) (tail g d)) along)
  all-along P h = (
    h d (member-head (d / 2) along),
    h (twin d) (subst (λ (k : ℕ). is_member k edges ≡ true) (sym (twin-edge d)) (member-head (d / 2) along)),
    darts-along g P along (other_end g (d / 2) (tail g d)) (λ y m. h y (member-tail (y / 2) (d / 2) along m)),
  )

  -- two drawn corners, in faces of one label, and the path drawn between them
  module _ (c k : ℕ) (lc : c < dart_count g) (dc : is_drawn drawn c ≡ true) (lk : k < dart_count g) (dk : is_drawn drawn k ≡ true) (label : List ℕ) (new_drawn new_on : List Bool) (new_next new_label : List ℕ) (w : IsPathDrawn g d along c k drawn on next label new_drawn new_on new_next new_label) where
    abbrev path : List ℕ
    path = darts_along g (other_end g (d / 2) (tail g d)) along

    old-marked : (e : ℕ) → is_marked drawn e ≡ true → is_marked new_drawn e ≡ true
    old-marked e h = w.edges_marked e ∙ or_left (is_marked drawn e) (is_member e edges) h

    path-marked : (e : ℕ) → is_member e edges ≡ true → is_marked new_drawn e ≡ true
    path-marked e m = w.edges_marked e ∙ or_right (is_marked drawn e) (is_member e edges) m

    within : (y : ℕ) → y < dart_count g → slice_index new_next y < dart_count g
    within y i = subst (λ (v : ℕ). v < dart_count g) (sym (w.darts_inserted y i))
        (inserted-takes (λ v. v < dart_count g) (λ v. v < dart_count g) path (slice_index next) c d k t.within lc lk (all-along (λ v. v < dart_count g) dart-in) y i)

    alone : (y : ℕ) → y < dart_count g → is_drawn new_drawn y ≡ false → slice_index new_next y ≡ y
    alone y i h = w.darts_inserted y i ∙ inserted-elsewhere y path (slice_index next) c d k (apart c dc) (apart k dk) (all-along (λ v. y ≢ v) other) ∙ t.alone y i undrawn.0
      where
        undrawn : (is_marked drawn (y / 2) ≡ false) × (is_member (y / 2) edges ≡ false)
        undrawn = or_parts (is_marked drawn (y / 2)) (is_member (y / 2) edges) (sym (w.edges_marked (y / 2)) ∙ h)

        apart : (v : ℕ) → is_drawn drawn v ≡ true → y ≢ v
        apart v dv e = both_ways (is_drawn drawn y) undrawn.0 (subst (λ (u : ℕ). is_drawn drawn u ≡ true) (sym e) dv)

        other : (v : ℕ) → is_member (v / 2) edges ≡ true → y ≢ v
        other v m e = both_ways (is_member (y / 2) edges) undrawn.1 (subst (λ (u : ℕ). is_member (u / 2) edges ≡ true) (sym e) m)

    abbrev IsNew : ℕ → Type 0
    IsNew v = (v < dart_count g) × (is_drawn new_drawn v ≡ true)

    stays : (y : ℕ) → y < dart_count g → is_drawn new_drawn y ≡ true → is_drawn new_drawn (slice_index new_next y) ≡ true
    stays y i h = subst (λ (v : ℕ). is_drawn new_drawn v ≡ true) (sym (w.darts_inserted y i))
        (inserted-takes IsNew (λ v. is_drawn new_drawn v ≡ true) path (slice_index next) c d k step (lc, old-marked (c / 2) dc) (lk, old-marked (k / 2) dk) (all-along IsNew (λ v m. (dart-in v m, path-marked (v / 2) m))) y (i, h))
      where
        step : (v : ℕ) → IsNew v → is_drawn new_drawn (slice_index next v) ≡ true
        step v n = elim (or_cases (is_marked drawn (v / 2)) (is_member (v / 2) edges) (sym (w.edges_marked (v / 2)) ∙ n.1)) [
          | inl a ↦ old-marked (slice_index next v / 2) (t.stays v n.0 a)
          | inr a ↦ subst (λ (u : ℕ). is_drawn new_drawn u ≡ true) (sym (dart-alone v a)) n.1
        ]

    on-new : (v : ℕ) → is_marked new_on v ≡ some (edge_count g) (λ e. is_marked new_drawn e && is_end g v e)
    on-new v = same-tests (is_marked new_on v) (some (edge_count g) test) forth back
      where
        test : ℕ → Bool
        test e = is_marked new_drawn e && is_end g v e

        forth : is_marked new_on v ≡ true → some (edge_count g) test ≡ true
        forth h = elim (or_cases (is_marked on v) (is_member v (walk_vertices g (tail g d) edges)) (sym (w.vertices_marked v) ∙ h)) [
          | inl a ↦
              let r = some-witness (edge_count g) (λ e. is_marked drawn e && is_end g v e) (sym (t.on_drawn v) ∙ a) in
              let b = and_parts (is_marked drawn r.0) (is_end g v r.0) r.2 in
              some-from (edge_count g) test r.0 r.1 (and_from (is_marked new_drawn r.0) (is_end g v r.0) (old-marked r.0 b.0) b.1)
          | inr a ↦
              let r = vertex-edge g along (tail g d) (d / 2) v p.path.walk.0.1 a p.path.walk in
              some-from (edge_count g) test r.0 (edge-in r.0 r.1) (and_from (is_marked new_drawn r.0) (is_end g v r.0) (path-marked r.0 r.1) r.2)
        ]

        back : some (edge_count g) test ≡ true → is_marked new_on v ≡ true
        back h =
            let r = some-witness (edge_count g) test h in
            let b = and_parts (is_marked new_drawn r.0) (is_end g v r.0) r.2 in
            w.vertices_marked v ∙ elim (or_cases (is_marked drawn r.0) (is_member r.0 edges) (sym (w.edges_marked r.0) ∙ b.0)) [
              | inl a ↦ or_left (is_marked on v) (is_member v (walk_vertices g (tail g d) edges)) (t.on_drawn v ∙ some-from (edge_count g) (λ e. is_marked drawn e && is_end g v e) r.0 r.1 (and_from (is_marked drawn r.0) (is_end g v r.0) a b.1))
              | inr a ↦ or_right (is_marked on v) (is_member v (walk_vertices g (tail g d) edges)) (edge-met g (tail g d) edges p.path.walk r.0 v a b.1)
            ]

    -- each vertex that is on is joined to the tail of the foot
    from-start : (v : ℕ) → is_marked new_on v ≡ true → joined_where g (is_marked new_drawn) (tail g d) v ≡ true
    from-start v h = elim (or_cases (is_marked on v) (is_member v (walk_vertices g (tail g d) edges)) (sym (w.vertices_marked v) ∙ h)) [
      | inl a ↦ joined-more g (is_marked drawn) (is_marked new_drawn) (λ e i b. old-marked e b) (tail g d) v (t.joined (tail g d) v start a)
      | inr a ↦ walk-vertices_joined g (is_marked new_drawn) edges (tail g d) v p.path.walk path-marked a
    ]

    -- the tables are right again
    pub path-tables : AreTables g new_drawn new_on new_next
    path-tables = record {
      each_dart = w.each_dart ∙ t.each_dart;
      within = within;
      alone = alone;
      stays = stays;
      each_edge = w.each_edge ∙ t.each_edge;
      each_vertex = w.each_vertex ∙ t.each_vertex;
      on_drawn = on-new;
      joined = λ u v a b. connected-transitive (ends_where g (is_marked new_drawn)) u (tail g d) v (connected-symmetric (ends_where g (is_marked new_drawn)) (tail g d) u (from-start u a)) (from-start v b);
    }

    -- the label of the face that the path is drawn in
    abbrev one : ℕ
    one = slice_index label (twin c)

    label-path : (y : ℕ) → is_member (y / 2) edges ≡ true → slice_index new_label y ≡ one
    label-path y m = w.labelled y (dart-in y m) ∙ if-true (is_member (y / 2) edges) one (slice_index label y) m

    label-other : (y : ℕ) → y < dart_count g → is_member (y / 2) edges ≡ false → slice_index new_label y ≡ slice_index label y
    label-other y i m = w.labelled y i ∙ if-false (is_member (y / 2) edges) one (slice_index label y) m

    twin-member : (y : ℕ) → is_member (twin y / 2) edges ≡ is_member (y / 2) edges
    twin-member y = ap (λ (e : ℕ). is_member e edges) (twin-edge y)

    -- a dart goes on to a dart of the path only from the path
    next-apart : (y : ℕ) → y < dart_count g → is_member (y / 2) edges ≡ false → is_member (slice_index next y / 2) edges ≡ false
    next-apart y i m = elim (cases_Bool (is_drawn drawn y)) [
      | inl h ↦ drawn-apart (slice_index next y) (t.stays y i h)
      | inr h ↦ subst (λ (v : ℕ). is_member (v / 2) edges ≡ false) (sym (t.alone y i h)) m
    ]

    -- darts of one face still have one label
    pub path-closed : AreClosed (edge_count g) next label → slice_index label (twin k) ≡ slice_index label (twin c) → AreClosed (edge_count g) new_next new_label
    path-closed closed same y i = ap (slice_index new_label) (w.darts_inserted (twin y) (twin-below (edge_count g) y i))
        ∙ inserted-labels (dart_count g) (slice_index new_label) one path (slice_index next) c d k step lc lk (corner c lc dc ∙ refl) (corner k lk dk ∙ same) (all-along (λ v. (v < dart_count g) × (slice_index new_label (twin v) ≡ one)) (λ v m. (dart-in v m, label-path (twin v) (twin-member v ∙ m)))) (twin y) (twin-below (edge_count g) y i)
        ∙ ap (slice_index new_label) (twin-twin y)
      where
        corner : (v : ℕ) → v < dart_count g → is_drawn drawn v ≡ true → slice_index new_label (twin v) ≡ slice_index label (twin v)
        corner v j h = label-other (twin v) (twin-below (edge_count g) v j) (twin-member v ∙ drawn-apart v h)

        step : (v : ℕ) → v < dart_count g → slice_index new_label (slice_index next v) ≡ slice_index new_label (twin v)
        step v j = elim (cases_Bool (is_member (v / 2) edges)) [
          | inl m ↦ ap (slice_index new_label) (dart-alone v m) ∙ label-path v m ∙ sym (label-path (twin v) (twin-member v ∙ m))
          | inr m ↦ label-other (slice_index next v) (t.within v j) (next-apart v j m)
              ∙ ap (λ (u : ℕ). slice_index label (slice_index next u)) (sym (twin-twin v))
              ∙ closed (twin v) (twin-below (edge_count g) v j)
              ∙ sym (label-other (twin v) (twin-below (edge_count g) v j) (twin-member v ∙ m))
        ]
