-- To each attachment of a foot a path leads off what is drawn; and where the labels tell the faces, the corners that a foot fits are
-- its admissible ones.
use Rattle.std.proofs.Common.{◌≡◌, ◌≢◌, ◌∙◌, ℕ, ◌/◌, ◌<◌, inl, inr, Bool, true, false, not, ◌||◌, ◌==◌, List, [], ◌∷◌, slice_index, refl, sym, ap, subst}
use Rattle.std.proofs.lemmas.Bool.{cases_eq, both_ways, and_from, and_parts, or_left, or_right, or_cases, not-true, not_from_false, eq-eqb, eqb-true, false_from_ne_true, false≢true}
use Rattle.permutations.specs.Members.{is_member}
use Rattle.permutations.proofs.Members.{member-head, member-tail, member-cases}
use Rattle.permutations.proofs.Relation.{connected-symmetric, connected-transitive}
use Rattle.multigraph.specs.Graph.{Multigraph, edge_count, ends_of, is_end, other_end, IsGraph}
use Rattle.multigraph.specs.Marks.{is_marked}
use Rattle.multigraph.proofs.DartEnds.{dart-edge, tail-end}
use Rattle.multigraph.proofs.OtherEnd.{is_end-cases, other_end-is_end, other_end-of_first, other_end-of_second}
use Rattle.dart_maps.specs.Map.{twin, same_face}
use Rattle.dart_maps.proofs.Darts.{twin-below}
use Rattle.graph_theory.specs.Path.{walk_vertices, IsPath}
use Rattle.graph_theory.specs.Joined.{ends_where, joined_where, PathWhere}
use Rattle.graph_theory.proofs.Joined.{joined-more, joined-other, joined-path}
use Rattle.graph_theory.proofs.Paths.{path-none, path-cons}
use Rattle.faces.specs.Euler.{tail, dart_count}
use Rattle.faces.proofs.MapSteps.{tail-twin}
use Rattle.path_separation.specs.Drawn.{is_on, IsDrawing}
use Rattle.path_separation.specs.Feet.{is_free, touches, IsAttached, FitsCorner}
use Rattle.path_separation.proofs.Feet.{touches-edge}
use Rattle.path_separation.proofs.DrawnMap.{passes-corner, corner-passes, corners-apart}
use Rattle.path_separation.proofs.Uncut.{drawn-map}
use Rattle.path_rotation.specs.Settling.{AreAllAttached, is_way_edge}
use Rattle.path_rotation.specs.Forced.{AreTables, AreExact, LeadsOff, IsCorner, IsSoleCorner, IsAdmissible}

-- whether a vertex is off what is drawn, or z
abbrev pub is_way : List Bool → ℕ → ℕ → Bool
is_way on z v = not (is_marked on v) || (z == v)

-- what holds of the first vertex of a walk and of the ends of its edges holds of all its vertices
met-all : (g : Multigraph) (P : ℕ → Bool) (x : ℕ) (es : List ℕ) → P x ≡ true → ((e v : ℕ) → is_member e es ≡ true → is_end g v e ≡ true → P v ≡ true) → (v : ℕ) → is_member v (walk_vertices g x es) ≡ true → P v ≡ true
met-all g P x [] h each v m = elim (member-cases v x [] m) [ inl q ↦ subst (λ (y : ℕ). P y ≡ true) q h | inr n ↦ absurd (false≢true n) ]
met-all g P x (e ∷ es) h each v m = elim (member-cases v x (walk_vertices g (other_end g e x) es) m) [
  | inl q ↦ subst (λ (y : ℕ). P y ≡ true) q h
  | inr n ↦ met-all g P (other_end g e x) es (each e (other_end g e x) (member-head e es) (other_end-is_end g e x)) (λ f w i j. each f w (member-tail f e es i) j) v n
]

module _ (g : Multigraph) (ok : IsGraph g) (drawn on : List Bool) (next : List ℕ) (tables : AreTables g drawn on next) (t : ℕ) (l : t < dart_count g) (start : is_marked on (tail g t) ≡ true) where
  abbrev D : ℕ → Bool
  D = is_marked drawn

  abbrev head_of : ℕ
  head_of = tail g (twin t)

  arrives-at : other_end g (t / 2) (tail g t) ≡ head_of
  arrives-at = sym (tail-twin g t ok l)

  -- an end of an edge both ends of which are off or z
  way-end : (z e v : ℕ) → is_way_edge g on z e ≡ true → is_end g v e ≡ true → is_way on z v ≡ true
  way-end z e v h i =
      let p = and_parts (is_way on z (ends_of g e).0) (is_way on z (ends_of g e).1) h in
      elim (is_end-cases g v e i) [ inl q ↦ subst (λ (y : ℕ). is_way on z y ≡ true) q p.0 | inr q ↦ subst (λ (y : ℕ). is_way on z y ≡ true) q p.1 ]

  -- a path from the head to z along such edges, or none where z is the head
  pub leads-off : (z : ℕ) → is_on g D z ≡ true → z ≢ tail g t → is_way on z head_of ≡ true → (along : List ℕ) → IsPath g head_of along z → ((e : ℕ) → is_member e along ≡ true → is_way_edge g on z e ≡ true) → LeadsOff g on t along z
  leads-off z a n h along p each = record {
    path = path-cons g (tail g t) (t / 2) along z (dart-edge g t l) (tail-end g t) (subst (λ (y : ℕ). IsPath g y along z) (sym arrives-at) p) fresh;
    arrives = tables.on_drawn z ∙ a;
    inner = λ v m q. elim (member-cases v (tail g t) (walk_vertices g (other_end g (t / 2) (tail g t)) along) m) [
      | inl e ↦ inl (sym e)
      | inr i ↦ elim (or_cases (not (is_marked on v)) (z == v) (all v (subst (λ (y : ℕ). is_member v (walk_vertices g y along) ≡ true) arrives-at i))) [
        | inl o ↦ absurd (both_ways (is_marked on v) (not-true (is_marked on v) o) q)
        | inr e ↦ inr (sym (eqb-true z v e))
      ]
    ];
  }
    where
      all : (v : ℕ) → is_member v (walk_vertices g head_of along) ≡ true → is_way on z v ≡ true
      all = met-all g (is_way on z) head_of along h (λ e v m i. way-end z e v (each e m) i)

      fresh : is_member (tail g t) (walk_vertices g (other_end g (t / 2) (tail g t)) along) ≡ false
      fresh = false_from_ne_true (is_member (tail g t) (walk_vertices g (other_end g (t / 2) (tail g t)) along)) (λ m.
          elim (or_cases (not (is_marked on (tail g t))) (z == tail g t) (all (tail g t) (subst (λ (y : ℕ). is_member (tail g t) (walk_vertices g y along) ≡ true) arrives-at m))) [
            | inl o ↦ both_ways (is_marked on (tail g t)) (not-true (is_marked on (tail g t)) o) start
            | inr e ↦ n (eqb-true z (tail g t) e)
          ])

  -- who touches z is joined with it by such edges
  pub touch-way : (v z : ℕ) → touches g D v z ≡ true → PathWhere g (is_way_edge g on z) v z
  touch-way v z h =
      let w = touches-edge g ok D v z h in
      let y = other_end g w.0 z in
      let off : is_way on z y ≡ true = or_left (not (is_marked on y)) (z == y) (not_from_false (is_marked on y) (tables.on_drawn y ∙ w.3)) in
      let here : is_way on z z ≡ true = or_right (not (is_marked on z)) (z == z) (eq-eqb z z refl) in
      let last : joined_where g (is_way_edge g on z) z y ≡ true = joined-other g (is_way_edge g on z) w.0 z w.1 (both z w.0 here off w.2) w.2 in
      joined-path g (is_way_edge g on z) v z (connected-transitive (ends_where g (is_way_edge g on z)) v y z (joined-more g (is_free g D) (is_way_edge g on z) (λ e _ f.
      let p = and_parts (not (is_on g D (ends_of g e).0)) (not (is_on g D (ends_of g e).1)) f in
      and_from (is_way on z (ends_of g e).0) (is_way on z (ends_of g e).1) (or_left (not (is_marked on (ends_of g e).0)) (z == (ends_of g e).0) (ap not (tables.on_drawn (ends_of g e).0) ∙ p.0)) (or_left (not (is_marked on (ends_of g e).1)) (z == (ends_of g e).1) (ap not (tables.on_drawn (ends_of g e).1) ∙ p.1))) v y w.4)
      (connected-symmetric (ends_where g (is_way_edge g on z)) z y last))
    where
      both : (z e : ℕ) → is_way on z z ≡ true → is_way on z (other_end g e z) ≡ true → is_end g z e ≡ true → is_way_edge g on z e ≡ true
      both z e a b i = elim (cases_eq (ends_of g e).0 z) [
        | inl q ↦ and_from (is_way on z (ends_of g e).0) (is_way on z (ends_of g e).1) (subst (λ (y : ℕ). is_way on z y ≡ true) (sym q) a) (subst (λ (y : ℕ). is_way on z y ≡ true) (other_end-of_first g e z q) b)
        | inr q ↦ elim (is_end-cases g z e i) [
          | inl r ↦ absurd (q r)
          | inr r ↦ and_from (is_way on z (ends_of g e).0) (is_way on z (ends_of g e).1) (subst (λ (y : ℕ). is_way on z y ≡ true) (other_end-of_second g e z r (λ s. q (s ∙ r))) b) (subst (λ (y : ℕ). is_way on z y ≡ true) (sym r) a)
        ]
      ]

  -- so to each attachment a path leads
  pub attached-leads : (z : ℕ) → IsAttached g D t z → (along : List ℕ) × LeadsOff g on t along z
  attached-leads z a = elim a.reached [
    | inl w ↦ ([], leads-off z a.arrives a.elsewhere (or_right (not (is_marked on head_of)) (z == head_of) (eq-eqb z head_of w.1)) [] (subst (λ (y : ℕ). IsPath g y [] z) w.1 (path-none g z)) (λ e m. absurd (false≢true m)))
    | inr w ↦ let p = touch-way head_of z w.1 in (p.along, leads-off z a.arrives a.elsewhere (or_left (not (is_marked on head_of)) (z == head_of) (not_from_false (is_marked on head_of) (tables.on_drawn head_of ∙ w.0))) p.along p.path p.passes)
  ]

  module _ (label : List ℕ) (closed : (c k : ℕ) → same_face (edge_count g) (slice_index next) c k ≡ true → slice_index label c ≡ slice_index label k) (exact : AreExact (edge_count g) next label) (attached : List ℕ) (a : AreAllAttached g drawn t attached) where
    -- an admissible corner fits
    pub admissible-fits : (c : ℕ) → IsAdmissible g drawn label attached t c → FitsCorner g D (slice_index next) t c
    admissible-fits c h = record {
      below = h.below;
      in_map = h.drawn_dart;
      starts = h.leaves;
      fits = λ z i.
          let k = h.passes z (a.all z i) in
          corner-passes g D (slice_index next) (twin c) z (k.0, k.1.below, k.1.drawn_dart, k.1.leaves, exact (twin c) (twin k.0) (twin-below (edge_count g) c h.below) (twin-below (edge_count g) k.0 k.1.below) (sym k.1.in_face));
    }

    -- and one that fits is admissible
    pub fits-admissible : (c : ℕ) → FitsCorner g D (slice_index next) t c → IsAdmissible g drawn label attached t c
    fits-admissible c h = record {
      below = h.below;
      drawn_dart = h.in_map;
      leaves = h.starts;
      passes = λ z m.
          let k = passes-corner g D (slice_index next) (twin c) z (h.fits z (a.each z m)) in
          (k.0, record { below = k.1; drawn_dart = k.2; leaves = k.3; in_face = sym (closed (twin c) (twin k.0) k.4) });
    }

    -- at an attachment one corner alone is in its face
    pub sole-admissible : (previous : ℕ → ℕ) → IsDrawing g D (slice_index next) previous → (c z k : ℕ) → IsCorner g drawn label z (slice_index label (twin c)) k → IsSoleCorner g drawn label z (slice_index label (twin c)) k
    sole-admissible previous s c z k h = record {
      corner = h;
      only = λ d i. elim (cases_eq d k) [
        | inl e ↦ e
        | inr n ↦ absurd (both_ways (same_face (edge_count g) (slice_index next) (twin d) (twin k))
            (corners-apart g D (slice_index next) previous (drawn-map g ok D (slice_index next) previous s.map s.uncut s.plane) d k i.below h.below i.drawn_dart h.drawn_dart n (i.leaves ∙ sym h.leaves))
            (exact (twin d) (twin k) (twin-below (edge_count g) d i.below) (twin-below (edge_count g) k h.below) (i.in_face ∙ sym h.in_face)))
      ];
    }
