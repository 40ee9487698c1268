-- In a plane rotation system of a block of two edges or more each edge lies on two faces.
use Rattle.std.proofs.Common.{◌≡◌, ◌≢◌, ℕ, ◌/◌, ◌<◌, ◌≤◌, inl, inr, true, false, ◌==◌, List, [], ◌∷◌, refl, sym, ap, ◌∙◌, subst, arith}
use Rattle.std.proofs.lemmas.Bool.{cases_eq, eq-eqb, eqb-true, both_ways, false_from_ne_true}
use Rattle.permutations.specs.Members.{is_member}
use Rattle.permutations.specs.Cyclic.{successor}
use Rattle.permutations.specs.Relation.{IsEquivalence}
use Rattle.permutations.specs.Permutation.{reaches, same_orbit}
use Rattle.permutations.proofs.Members.{member-tail, distinct-head}
use Rattle.permutations.proofs.Orbits.{orbit-equivalence, orbit-step, orbit-ext}
use Rattle.permutations.proofs.Iterates.{orbit-reaches}
use Rattle.permutations.proofs.Chains.{chain-test}
use Rattle.multigraph.specs.Graph.{Multigraph, IsGraph, edge_count, is_end, other_end}
use Rattle.rotations.specs.Rotation.{order_at, IsRotationSystem}
use Rattle.graph_theory.specs.Path.{IsCycle}
use Rattle.graph_theory.specs.Block.{CommonCycle, SameBlock, EdgesShareBlock}
use Rattle.graph_theory.proofs.Walks.{walk-edge}
use Rattle.graph_theory.proofs.Cycles.{BegunAt, cycle_from}
use Rattle.graph_theory.proofs.Crossings.{last_edge}
use Rattle.dart_maps.specs.Map.{twin, face}
use Rattle.dart_maps.proofs.Darts.{twin-below}
use Rattle.faces.specs.Euler.{tail, dart_count, face_step, IsPlane}
use Rattle.faces.specs.Maps.{dart_after}
use Rattle.faces.proofs.DartLemmas.{dart-edge, tail-end, order-distinct, order-member, face_back, face_step-permutes}
use Rattle.faces.proofs.MapSteps.{tail-in, map-face, after-tail, after-edge, map-permutes}
use Rattle.faces.proofs.MapBlocks.{cycle-some, cycle-meets, block-one_face}

-- a cycle from v has an edge at v other than e
cycle-other_edge : (g : Multigraph) (v : ℕ) (es : List ℕ) (e : ℕ) → IsCycle g v es → (f : ℕ) × (f < edge_count g) × (is_end g v f ≡ true) × (f ≢ e)
cycle-other_edge g v [] e c = absurd (cycle-some g v c)
cycle-other_edge g v (h ∷ []) e c = absurd (omega (arith, c.two))
cycle-other_edge g v (h ∷ k ∷ ks) e c = elim (cases_eq h e) [
  | inr n ↦ (h, (c.walk.0).0, (c.walk.0).1, n)
  | inl q ↦
      let w = last_edge g (other_end g h v) k ks in (
        w.0,
        walk-edge g v (h ∷ k ∷ ks) c.walk w.0 (member-tail w.0 h (k ∷ ks) w.1),
        subst (λ z. is_end g z w.0 ≡ true) c.returns w.2,
        λ z. both_ways (is_member h (k ∷ ks)) (distinct-head h (k ∷ ks) c.edges) (subst (λ x. is_member x (k ∷ ks) ≡ true) (z ∙ sym q) w.1),
      )
]

-- in a block of two edges or more each edge has another one at each of its ends
block-other_edge : (g : Multigraph) → EdgesShareBlock g → 2 ≤ edge_count g → (v e : ℕ) → e < edge_count g → is_end g v e ≡ true → (f : ℕ) × (f < edge_count g) × (is_end g v f ≡ true) × (f ≢ e)
block-other_edge g block n v e l h = elim (cases_eq e 0) [
  | inl z ↦ found 1 (block e 1 l (omega (arith, n))) (λ q. omega (arith, z, q))
  | inr z ↦ found 0 (block e 0 l (omega (arith, n))) (λ q. z q)
]
  where
    on : (o : ℕ) (w : CommonCycle g e o) → BegunAt g w.start w.along v → (f : ℕ) × (f < edge_count g) × (is_end g v f ≡ true) × (f ≢ e)
    on o w a = cycle-other_edge g v a.along e a.cycle

    found : (o : ℕ) → SameBlock g e o → e ≢ o → (f : ℕ) × (f < edge_count g) × (is_end g v f ≡ true) × (f ≢ e)
    found o (inl q) k = absurd (k q)
    found o (inr w) k = on o w (cycle_from g w.start w.along v w.cycle (cycle-meets g w.start w.along e v w.cycle w.first_on h))

-- so another edge follows it there
block-moves : (g : Multigraph) (r : List (List ℕ)) → IsGraph g → IsRotationSystem g r → EdgesShareBlock g → 2 ≤ edge_count g → (d : ℕ) → d < dart_count g → dart_after g r d ≢ d
block-moves g r ok s block n d l q = other.3 (eqb-true other.0 (d / 2) (chain-test (λ z. z == d / 2) (order_at r (tail g d)) (order-distinct g r (tail g d) s at) stays (d / 2) other.0
    (order-member g r (tail g d) (d / 2) s at (dart-edge g d l) (tail-end g d))
    (order-member g r (tail g d) other.0 s at other.1 other.2)
    (eq-eqb (d / 2) (d / 2) refl)))
  where
    at : tail g d < g.vertex_count
    at = tail-in g d ok l

    other : (f : ℕ) × (f < edge_count g) × (is_end g (tail g d) f ≡ true) × (f ≢ d / 2)
    other = block-other_edge g block n (tail g d) (d / 2) (dart-edge g d l) (tail-end g d)

    follows : successor (order_at r (tail g d)) (d / 2) ≡ d / 2
    follows = sym (after-edge g r d) ∙ ap (λ z. z / 2) q

    stays : (z : ℕ) → is_member z (order_at r (tail g d)) ≡ true → (z == d / 2) ≡ true → (successor (order_at r (tail g d)) z == d / 2) ≡ true
    stays z m t = eq-eqb (successor (order_at r (tail g d)) z) (d / 2) (ap (successor (order_at r (tail g d))) (eqb-true z (d / 2) t) ∙ follows)

-- in a plane rotation system of a block of two edges or more the two darts of an edge lie on different faces
pub block-two_faces : (g : Multigraph) (r : List (List ℕ)) → IsGraph g → IsRotationSystem g r → IsPlane g r → EdgesShareBlock g → 2 ≤ edge_count g → (d : ℕ) → d < dart_count g → reaches (dart_count g) (face_step g r) d (twin d) ≡ false
block-two_faces g r ok s plane block n d l = false_from_ne_true (reaches (dart_count g) (face_step g r) d (twin d)) (λ t.
    block-moves g r ok s block n (twin d) below
    (block-one_face g r ok s plane block (dart_after g r (twin d)) (twin d) ((map-permutes g r ok s).forth (twin d) below) below
    (faces.transitive (face (dart_after g r) d) d (twin d)
    (faces.symmetric d (face (dart_after g r) d) (orbit-step (dart_count g) (face (dart_after g r)) d l))
    (orbit-ext (dart_count g) (face (dart_after g r)) (face_step g r) (λ x j. map-face g r x ok j) d (twin d) ∙ orbit-reaches (dart_count g) (face_step g r) (face_back g r) (face_step-permutes g r ok s) d (twin d) l ∙ t))
    (after-tail g r (twin d) ok s below)))
  where
    below : twin d < dart_count g
    below = twin-below (edge_count g) d l

    faces : IsEquivalence (same_orbit (dart_count g) (face (dart_after g r)))
    faces = orbit-equivalence (dart_count g) (face (dart_after g r))
