-- Darts, and the face step of a rotation system, which permutes them.
use Rattle.std.proofs.Common.{◌≡◌, ℕ, ◌+◌, ◌*◌, ◌/◌, ◌%◌, ◌<◌, ◌≢◌, true, ◌==◌, List, sym, ap, ap₂, ◌∙◌}
use Rattle.permutations.specs.Members.{is_member, is_distinct}
use Rattle.permutations.specs.Cyclic.{successor, predecessor}
use Rattle.permutations.specs.Permutation.{Permutes}
use Rattle.permutations.proofs.Successor.{successor-member, predecessor-member, predecessor-successor, successor-predecessor}
use Rattle.permutations.proofs.Arrangements.{permutation-member, permutation-distinct}
use Rattle.multigraph.specs.Graph.{Multigraph, IsGraph, edge_count, is_end, other_end, incident_edges}
use Rattle.multigraph.proofs.OtherEnd.{other_end-is_end, other_end-in, other_end-twice, end-in}
pub use Rattle.multigraph.proofs.DartEnds.{dart-edge, tail-end, dart_from-edge, dart_from-below, dart_from-first, dart_from-second, tail-even, tail-odd, tail-first, tail-second, dart_from-tail, dart_from-of_dart}
use Rattle.rotations.specs.Rotation.{order_at, IsRotationSystem}
use Rattle.rotations.proofs.Membership.{incident-distinct, incident-member, member-edge, member-end}
use Rattle.faces.specs.Euler.{tail, dart_from, dart_count, face_step}

-- the edges round a vertex are those at it, each once
pub order-distinct : (g : Multigraph) (r : List (List ℕ)) (v : ℕ) → IsRotationSystem g r → v < g.vertex_count → is_distinct (order_at r v) ≡ true
order-distinct g r v s l = permutation-distinct (incident_edges g v) (order_at r v) (s.orders v l).arranged (incident-distinct g v)

pub order-member : (g : Multigraph) (r : List (List ℕ)) (v e : ℕ) → IsRotationSystem g r → v < g.vertex_count → e < edge_count g → is_end g v e ≡ true → is_member e (order_at r v) ≡ true
order-member g r v e s l m h = permutation-member (incident_edges g v) (order_at r v) e (s.orders v l).arranged ∙ incident-member g v e m h

pub member-incident : (g : Multigraph) (r : List (List ℕ)) (v e : ℕ) → IsRotationSystem g r → v < g.vertex_count → is_member e (order_at r v) ≡ true → is_member e (incident_edges g v) ≡ true
member-incident g r v e s l m = sym (permutation-member (incident_edges g v) (order_at r v) e (s.orders v l).arranged) ∙ m

-- the edge that follows an edge at v, and the one that comes before it, are edges at v
pub following : (g : Multigraph) (r : List (List ℕ)) (v e : ℕ) → IsRotationSystem g r → v < g.vertex_count → e < edge_count g → is_end g v e ≡ true → (successor (order_at r v) e < edge_count g) × (is_end g v (successor (order_at r v) e) ≡ true)
following g r v e s l m h =
    let n : is_member (successor (order_at r v) e) (incident_edges g v) ≡ true = member-incident g r v (successor (order_at r v) e) s l (successor-member (order_at r v) e (order-member g r v e s l m h)) in
    (member-edge g v (successor (order_at r v) e) n, member-end g v (successor (order_at r v) e) n)

pub preceding : (g : Multigraph) (r : List (List ℕ)) (v e : ℕ) → IsRotationSystem g r → v < g.vertex_count → e < edge_count g → is_end g v e ≡ true → (predecessor (order_at r v) e < edge_count g) × (is_end g v (predecessor (order_at r v) e) ≡ true)
preceding g r v e s l m h =
    let n : is_member (predecessor (order_at r v) e) (incident_edges g v) ≡ true = member-incident g r v (predecessor (order_at r v) e) s l (predecessor-member (order_at r v) e (order-member g r v e s l m h)) in
    (member-edge g v (predecessor (order_at r v) e) n, member-end g v (predecessor (order_at r v) e) n)

-- the edge by which a face goes on that arrives at v by e is an edge
pub onward-edge : (g : Multigraph) (r : List (List ℕ)) (v e : ℕ) → IsGraph g → IsRotationSystem g r → e < edge_count g → is_end g v e ≡ true → successor (order_at r v) e < edge_count g
onward-edge g r v e ok s m h = (following g r v e s (end-in g v e ok m h) m h).0

-- the dart by which a face goes on that arrives at v by e
abbrev pub onward : Multigraph → List (List ℕ) → ℕ → ℕ → ℕ
onward g r v e = dart_from g v (successor (order_at r v) e)

-- the dart by which a face comes that leaves v by e
abbrev pub inward : Multigraph → List (List ℕ) → ℕ → ℕ → ℕ
inward g r v e =
    dart_from g (other_end g (predecessor (order_at r v) e) v) (predecessor (order_at r v) e)

-- the step back along a face
abbrev pub face_back : Multigraph → List (List ℕ) → ℕ → ℕ
face_back g r d = inward g r (tail g d) (d / 2)

-- the face step permutes the darts
pub face_step-permutes : (g : Multigraph) (r : List (List ℕ)) → IsGraph g → IsRotationSystem g r → Permutes (dart_count g) (face_step g r) (face_back g r)
face_step-permutes g r ok s = record {
  forth = λ d l. forth d l;
  back = λ d l. back d l;
  back_forth = λ d l. back_forth d l;
  forth_back = λ d l. forth_back d l;
}
  where
    head : ℕ → ℕ
    head d = other_end g (d / 2) (tail g d)

    head_in : (d : ℕ) → d < dart_count g → head d < g.vertex_count
    head_in d l = other_end-in g (d / 2) (tail g d) ok (dart-edge g d l)

    tail_in : (d : ℕ) → d < dart_count g → tail g d < g.vertex_count
    tail_in d l = end-in g (tail g d) (d / 2) ok (dart-edge g d l) (tail-end g d)

    follows : (d : ℕ) → d < dart_count g → (successor (order_at r (head d)) (d / 2) < edge_count g) × (is_end g (head d) (successor (order_at r (head d)) (d / 2)) ≡ true)
    follows d l = following g r (head d) (d / 2) s (head_in d l) (dart-edge g d l) (other_end-is_end g (d / 2) (tail g d))

    precedes : (d : ℕ) → d < dart_count g → (predecessor (order_at r (tail g d)) (d / 2) < edge_count g) × (is_end g (tail g d) (predecessor (order_at r (tail g d)) (d / 2)) ≡ true)
    precedes d l = preceding g r (tail g d) (d / 2) s (tail_in d l) (dart-edge g d l) (tail-end g d)

    forth : (d : ℕ) → d < dart_count g → face_step g r d < dart_count g
    forth d l = dart_from-below g (head d) (successor (order_at r (head d)) (d / 2)) (follows d l).0

    back : (d : ℕ) → d < dart_count g → face_back g r d < dart_count g
    back d l = dart_from-below g (other_end g (predecessor (order_at r (tail g d)) (d / 2)) (tail g d)) (predecessor (order_at r (tail g d)) (d / 2)) (precedes d l).0

    back_forth : (d : ℕ) → d < dart_count g → face_back g r (face_step g r d) ≡ d
    back_forth d l =
        let leaves : tail g (dart_from g (head d) (successor (order_at r (head d)) (d / 2))) ≡ head d = dart_from-tail g (head d) (successor (order_at r (head d)) (d / 2)) (follows d l).1 in
        let along : dart_from g (head d) (successor (order_at r (head d)) (d / 2)) / 2 ≡ successor (order_at r (head d)) (d / 2) = dart_from-edge g (head d) (successor (order_at r (head d)) (d / 2)) in
        let before : predecessor (order_at r (head d)) (successor (order_at r (head d)) (d / 2)) ≡ d / 2 = predecessor-successor (order_at r (head d)) (d / 2) (order-distinct g r (head d) s (head_in d l)) in
        let twice : other_end g (d / 2) (head d) ≡ tail g d = other_end-twice g (d / 2) (tail g d) ok (dart-edge g d l) (tail-end g d) in
        ap₂ (inward g r) leaves along
        ∙ ap (λ p. dart_from g (other_end g p (head d)) p) before
        ∙ ap (λ z. dart_from g z (d / 2)) twice
        ∙ dart_from-of_dart g d ok l

    forth_back : (d : ℕ) → d < dart_count g → face_step g r (face_back g r d) ≡ d
    forth_back d l =
        let p : ℕ = predecessor (order_at r (tail g d)) (d / 2) in
        let u : ℕ = other_end g p (tail g d) in
        let leaves : tail g (dart_from g u p) ≡ u = dart_from-tail g u p (other_end-is_end g p (tail g d)) in
        let along : dart_from g u p / 2 ≡ p = dart_from-edge g u p in
        let twice : other_end g p u ≡ tail g d = other_end-twice g p (tail g d) ok (precedes d l).0 (precedes d l).1 in
        let after : successor (order_at r (tail g d)) p ≡ d / 2 = successor-predecessor (order_at r (tail g d)) (d / 2) (order-distinct g r (tail g d) s (tail_in d l)) in
        ap₂ (λ v e. onward g r (other_end g e v) e) leaves along
        ∙ ap (λ v. onward g r v p) twice
        ∙ ap (dart_from g (tail g d)) after
        ∙ dart_from-of_dart g d ok l
