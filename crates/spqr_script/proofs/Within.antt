-- The numbers in rotation systems, faces and subdivisions are of the graph.
use Rattle.std.proofs.Common.{ℕ, zero, suc, ◌/◌, ◌<◌, List, [], ◌∷◌, length, get_or, filter, subst, sym}
use Rattle.std.specs.List.{All}
use Rattle.std.proofs.lemmas.List.Elements.{All-nil, All-cons, All-append, All-map, All-filter, All-from_get_or, All-contains_itself}
use Rattle.std.proofs.lemmas.List.Sorted.{All-permutation}
use Rattle.permutations.specs.Permutation.{iterate}
use Rattle.permutations.proofs.Iterates.{iterate-below}
use Rattle.multigraph.specs.Graph.{Multigraph, IsGraph, edge_count, incident_edges, other_end}
use Rattle.multigraph.proofs.Incident.{incident-edge}
use Rattle.multigraph.proofs.OtherEnd.{end-in}
use Rattle.graph_theory.specs.Path.{IsWalk}
use Rattle.rotations.specs.Rotation.{order_at, IsRotationSystem}
use Rattle.faces.specs.Euler.{tail, dart_count, face_step}
use Rattle.permutations.specs.Ring.{orbit_length}
use Rattle.faces.specs.Trace.{pair_of, darts_in_order, is_least, pairs_along, orbit_pairs, face_lists}
use Rattle.faces.proofs.DartLemmas.{dart-edge, tail-end, face_step-permutes}
use Rattle.faces.proofs.Order.{order-all}
use Rattle.kuratowski.specs.Subdivision.{branch_at, path_at, pattern_edges, pair_at, IsSubdivision}
use Rattle.kuratowski.specs.declared.subdivision.Pattern.{Pattern}
use Rattle.spqr_script.specs.Answers.Faces.{AreFaces}

-- the edges round a vertex
pub round-within : (g : Multigraph) (r : List (List ℕ)) (v : ℕ) → IsRotationSystem g r → v < g.vertex_count → All (λ e. e < edge_count g) (order_at r v)
round-within g r v s l =
    All-permutation (λ e. e < edge_count g) (incident_edges g v) (order_at r v) (s.orders v l).arranged
    (λ k d h. incident-edge g v (get_or (incident_edges g v) k d) (All-contains_itself (incident_edges g v) k d h))

-- the edges along a walk
pub walk-within : (g : Multigraph) (x : ℕ) (es : List ℕ) → IsWalk g x es → All (λ e. e < edge_count g) es
walk-within g x [] w = All-nil (λ e. e < edge_count g)
walk-within g x (e ∷ es) w = All-cons (λ e. e < edge_count g) e es w.0.0 (walk-within g (other_end g e x) es w.1)

-- those of a path of a subdivision
pub path-within : (g : Multigraph) (kind : Pattern) (branch : List ℕ) (paths : List (List ℕ)) (k : ℕ) → IsSubdivision g kind branch paths → k < length (pattern_edges kind) → All (λ e. e < edge_count g) (path_at paths k)
path-within g kind branch paths k s l =
    walk-within g (branch_at branch (pair_at kind k).0) (path_at paths k) (s.are_paths k l).walk

-- a vertex and an edge of the graph
abbrev pub IsPairOf : Multigraph → ℕ × ℕ → Type 0
IsPairOf g pair = (pair.0 < g.vertex_count) × (pair.1 < edge_count g)

-- the pair of a dart
pair-within : (g : Multigraph) (d : ℕ) → IsGraph g → d < dart_count g → IsPairOf g (pair_of g d)
pair-within g d ok l = (end-in g (tail g d) (d / 2) ok (dart-edge g d l) (tail-end g d), dart-edge g d l)

-- the pairs along a face
along-within : (g : Multigraph) (r : List (List ℕ)) (d k : ℕ) → IsGraph g → IsRotationSystem g r → d < dart_count g → All (IsPairOf g) (pairs_along g (face_step g r) d k)
along-within g r d zero ok s l = All-nil (IsPairOf g)
along-within g r d (suc k) ok s l =
    let below : iterate (face_step g r) k d < dart_count g = iterate-below (dart_count g) (face_step g r) _ (face_step-permutes g r ok s) k d l in
    All-append (IsPairOf g) (pairs_along g (face_step g r) d k) (pair_of g (iterate (face_step g r) k d) ∷ []) (along-within g r d k ok s l)
    (All-cons (IsPairOf g) (pair_of g (iterate (face_step g r) k d)) [] (pair-within g (iterate (face_step g r) k d) ok below) (All-nil (IsPairOf g)))

-- those of each face
all-faces-within : (g : Multigraph) (r : List (List ℕ)) → IsGraph g → IsRotationSystem g r → All (All (IsPairOf g)) (face_lists g r)
all-faces-within g r ok s =
    let f = face_step g r in
    All-map (All (IsPairOf g)) (orbit_pairs g f) (filter (is_least g f) (darts_in_order g)) (All-filter (is_least g f) (λ d. All (IsPairOf g) (orbit_pairs g f d)) (darts_in_order g)
    (λ k d l. along-within g r (get_or (darts_in_order g) k d) (orbit_length (dart_count g) f (get_or (darts_in_order g) k d)) ok s (All-from_get_or (λ x. x < dart_count g) (darts_in_order g) 0 (order-all g ok).darts k d l)))

pub face-within : (g : Multigraph) (faces : List (List (ℕ × ℕ))) (i : ℕ) → IsGraph g → AreFaces g faces → i < length faces → All (IsPairOf g) (get_or faces i [])
face-within g faces i ok are l =
    subst (All (All (IsPairOf g))) (sym are.2) (all-faces-within g are.0 ok are.1) i [] l
