-- The drawn darts at a vertex, as a list.
use Rattle.std.proofs.Common.{◌≡◌, ◌∙◌, ℕ, ◌+◌, ◌/◌, ◌<◌, ◌≤◌, Bool, true, false, cond, List, [], ◌∷◌, ◌++◌, length, map, filter, take, slice_index, sym, ap, subst}
use Rattle.std.proofs.lemmas.List.{append-nil, map-append, take_all}
use Rattle.std.proofs.lemmas.List.Elements.{filter_more}
use Rattle.permutations.specs.Members.{is_member}
use Rattle.permutations.proofs.Filter.{filter-member, member-filter_parts}
use Rattle.permutations.proofs.Mapped.{member-map, map-member}
use Rattle.permutations.proofs.Places.{place-of}
use Rattle.multigraph.specs.Graph.{Multigraph, edge_count, is_end, incident_edges, IsGraph}
use Rattle.multigraph.specs.Marks.{is_marked}
use Rattle.multigraph.proofs.Incident.{incident_at-edge, incident_at-end}
use Rattle.multigraph.proofs.DartEnds.{dart-edge, tail-end, dart_from-edge, dart_from-below, dart_from-tail, dart_from-of_dart}
use Rattle.faces.specs.Euler.{dart_from}
use Rattle.path_rotation.specs.Fitting.{IsDartAt, AreDartsAt}
use Rattle.rotations.proofs.Membership.{incident-member}

-- one more item, which passes
pub filter-pass : (p : ℕ → Bool) (l : List ℕ) (i : ℕ) → i < length l → p (slice_index l i) ≡ true → filter p (take (i + 1) l) ≡ filter p (take i l) ++ slice_index l i ∷ []
filter-pass p l i b h = filter_more p l i 0 b ∙ ap (λ (t : Bool). filter p (take i l) ++ cond t (slice_index l i ∷ []) []) h

-- one more item, which fails
pub filter-fail : (p : ℕ → Bool) (l : List ℕ) (i : ℕ) → i < length l → p (slice_index l i) ≡ false → filter p (take (i + 1) l) ≡ filter p (take i l)
filter-fail p l i b h = filter_more p l i 0 b ∙ ap (λ (t : Bool). filter p (take i l) ++ cond t (slice_index l i ∷ []) []) h ∙ append-nil (filter p (take i l))

-- the dart of one more edge, which is drawn
pub darts-more : (g : Multigraph) (drawn : List Bool) (v : ℕ) (edges : List ℕ) (i : ℕ) (darts : List ℕ) → i < length edges → is_marked drawn (slice_index edges i) ≡ true
    → darts ≡ map (dart_from g v) (filter (is_marked drawn) (take i edges))
    → darts ++ dart_from g v (slice_index edges i) ∷ [] ≡ map (dart_from g v) (filter (is_marked drawn) (take (i + 1) edges))
darts-more g drawn v edges i darts b h e =
    ap (λ (l : List ℕ). l ++ dart_from g v (slice_index edges i) ∷ []) e
    ∙ sym (ap (map (dart_from g v)) (filter-pass (is_marked drawn) edges i b h) ∙ map-append (dart_from g v) (filter (is_marked drawn) (take i edges)) (slice_index edges i ∷ []))

-- one more edge, which is not
pub darts-skip : (g : Multigraph) (drawn : List Bool) (v : ℕ) (edges : List ℕ) (i : ℕ) (darts : List ℕ) → i < length edges → is_marked drawn (slice_index edges i) ≡ false
    → darts ≡ map (dart_from g v) (filter (is_marked drawn) (take i edges))
    → darts ≡ map (dart_from g v) (filter (is_marked drawn) (take (i + 1) edges))
darts-skip g drawn v edges i darts b h e = e ∙ sym (ap (map (dart_from g v)) (filter-fail (is_marked drawn) edges i b h))

-- the edges at a vertex
pub member-edge : (g : Multigraph) (v e : ℕ) → is_member e (incident_edges g v) ≡ true → (e < edge_count g) × (is_end g v e ≡ true)
member-edge g v e m =
    let w = place-of (incident_edges g v) e m in (
      subst (λ (z : ℕ). z < edge_count g) w.2 (incident_at-edge g v w.0 0 w.1),
      subst (λ (z : ℕ). is_end g v z ≡ true) w.2 (incident_at-end g v w.0 0 w.1),
    )

-- those of all edges at the vertex
pub darts-all : (g : Multigraph) → IsGraph g → (drawn : List Bool) (v : ℕ) (darts : List ℕ) → darts ≡ map (dart_from g v) (filter (is_marked drawn) (incident_edges g v)) → AreDartsAt g drawn v darts
darts-all g ok drawn v darts e = record {
  each = λ d m.
      let w = map-member (dart_from g v) (filter (is_marked drawn) (incident_edges g v)) d (subst (λ (l : List ℕ). is_member d l ≡ true) e m) in
      let s = member-filter_parts (is_marked drawn) (incident_edges g v) w.0 w.1 in
      let n = member-edge g v w.0 s.0 in
      subst (λ (z : ℕ). IsDartAt g drawn v z) w.2 (record {
        below = dart_from-below g v w.0 n.0;
        drawn_dart = ap (is_marked drawn) (dart_from-edge g v w.0) ∙ s.1;
        leaves = dart_from-tail g v w.0 n.1;
      });
  all = λ d a.
      let edge = d / 2 in
      let end : is_end g v edge ≡ true = subst (λ (z : ℕ). is_end g z edge ≡ true) a.leaves (tail-end g d) in
      let there : is_member edge (filter (is_marked drawn) (incident_edges g v)) ≡ true = filter-member (is_marked drawn) (incident_edges g v) edge (incident-member g v edge (dart-edge g d a.below) end) a.drawn_dart in
      let same : dart_from g v edge ≡ d = subst (λ (z : ℕ). dart_from g z edge ≡ d) a.leaves (dart_from-of_dart g d ok a.below) in
      subst (λ (l : List ℕ). is_member d l ≡ true) (sym e) (subst (λ (z : ℕ). is_member z (map (dart_from g v) (filter (is_marked drawn) (incident_edges g v))) ≡ true) same
      (member-map (dart_from g v) (filter (is_marked drawn) (incident_edges g v)) edge there));
}

-- what was read of the edges at a vertex is an edge
pub incident-below : (g : Multigraph) (v : ℕ) (edges : List ℕ) → edges ≡ incident_edges g v → (i : ℕ) → i < length edges → slice_index edges i < edge_count g
incident-below g v edges e i b = subst (λ (l : List ℕ). i < length l → slice_index l i < edge_count g) (sym e) (λ l. incident_at-edge g v i 0 l) b

-- one more of the edges at a vertex, drawn
pub darts-step_yes : (g : Multigraph) (drawn : List Bool) (v : ℕ) (edges : List ℕ) → edges ≡ incident_edges g v → (i : ℕ) (darts : List ℕ) → i < length edges → is_marked drawn (slice_index edges i) ≡ true
    → darts ≡ map (dart_from g v) (filter (is_marked drawn) (take i (incident_edges g v)))
    → darts ++ dart_from g v (slice_index edges i) ∷ [] ≡ map (dart_from g v) (filter (is_marked drawn) (take (i + 1) (incident_edges g v)))
darts-step_yes g drawn v edges e i darts b h d =
    subst (λ (l : List ℕ). i < length l → is_marked drawn (slice_index l i) ≡ true → darts ++ dart_from g v (slice_index l i) ∷ [] ≡ map (dart_from g v) (filter (is_marked drawn) (take (i + 1) (incident_edges g v)))) (sym e)
    (λ l k. darts-more g drawn v (incident_edges g v) i darts l k d) b h

-- or not
pub darts-step_no : (g : Multigraph) (drawn : List Bool) (v : ℕ) (edges : List ℕ) → edges ≡ incident_edges g v → (i : ℕ) (darts : List ℕ) → i < length edges → is_marked drawn (slice_index edges i) ≡ false
    → darts ≡ map (dart_from g v) (filter (is_marked drawn) (take i (incident_edges g v)))
    → darts ≡ map (dart_from g v) (filter (is_marked drawn) (take (i + 1) (incident_edges g v)))
darts-step_no g drawn v edges e i darts b h d =
    subst (λ (l : List ℕ). i < length l → is_marked drawn (slice_index l i) ≡ false → darts ≡ map (dart_from g v) (filter (is_marked drawn) (take (i + 1) (incident_edges g v)))) (sym e)
    (λ l k. darts-skip g drawn v (incident_edges g v) i darts l k d) b h

-- all of them
pub darts-end : (g : Multigraph) → IsGraph g → (drawn : List Bool) (v : ℕ) (edges : List ℕ) → edges ≡ incident_edges g v → (i : ℕ) (darts : List ℕ) → length edges ≤ i
    → darts ≡ map (dart_from g v) (filter (is_marked drawn) (take i (incident_edges g v))) → AreDartsAt g drawn v darts
darts-end g ok drawn v edges e i darts b d =
    darts-all g ok drawn v darts (d ∙ ap (λ (l : List ℕ). map (dart_from g v) (filter (is_marked drawn) l)) (take_all i (incident_edges g v) (subst (λ (l : List ℕ). length l ≤ i) e b)))
