-- In a plane rotation system of a graph of one block each face passes each vertex at most once.
use Rattle.std.proofs.Common.{◌≡◌, ◌≢◌, ℕ, ◌/◌, ◌<◌, inl, inr, Bool, true, false, List, [], ◌∷◌, refl, sym, ap, ap₂, ◌∙◌, subst, arith}
use Rattle.std.proofs.lemmas.Bool.{both_ways, false_from_ne_true, cases_eq}
use Rattle.permutations.specs.Members.{is_member}
use Rattle.permutations.specs.Relation.{IsEquivalence}
use Rattle.permutations.specs.Cyclic.{successor}
use Rattle.permutations.specs.Permutation.{reaches, same_orbit}
use Rattle.permutations.proofs.Members.{member-head, member-cases, no_member-head, no_member-tail, distinct-head}
use Rattle.permutations.proofs.Orbits.{orbit-ext}
use Rattle.permutations.proofs.Iterates.{orbit-reaches}
use Rattle.permutations.proofs.Chains.{chain}
use Rattle.permutations.proofs.Renaming.{equivalence-through}
use Rattle.multigraph.specs.Graph.{Multigraph, IsGraph, edge_count, is_end, other_end}
use Rattle.rotations.specs.Rotation.{order_at, IsRotationSystem}
use Rattle.rotations.proofs.Membership.{member-edge, member-end}
use Rattle.graph_theory.specs.Path.{walk_starts, IsWalk, IsCycle}
use Rattle.graph_theory.specs.Block.{CommonCycle, SameBlock, EdgesShareBlock}
use Rattle.graph_theory.proofs.Ends.{end-cases}
use Rattle.graph_theory.proofs.Walks.{edge-met, met-cases}
use Rattle.graph_theory.proofs.Cycles.{BegunAt, cycle_from}
use Rattle.dart_maps.specs.Map.{twin, face, same_vertex}
use Rattle.dart_maps.specs.Order.{frozen, connected_around}
use Rattle.dart_maps.proofs.Darts.{twin-below, twin-edge}
use Rattle.dart_maps.proofs.Components.{component-equivalence, component-next, component-twin}
use Rattle.dart_maps.proofs.FourDarts.{frozen-elsewhere}
use Rattle.faces.specs.Euler.{tail, dart_from, dart_count, face_step, IsPlane}
use Rattle.faces.specs.Maps.{dart_after, dart_before}
use Rattle.faces.proofs.DartLemmas.{dart-edge, tail-end, dart_from-edge, dart_from-below, dart_from-tail, dart_from-of_dart, order-distinct, member-incident, face_back, face_step-permutes}
use Rattle.faces.proofs.MapSteps.{tail-in, tail-twin, map-face, map-permutes, after-dart_from}
use Rattle.faces.proofs.MapVertices.{vertex-tail, tail-vertex, tail-order}
use Rattle.faces.proofs.MapCounts.{plane-map}
use Rattle.faces.proofs.MapCorners.{face-once}

-- a walk of no edges is no cycle
pub cycle-some : (g : Multigraph) (x : ℕ) → IsCycle g x [] → ⊥
cycle-some g x c = omega (arith, c.two)

-- a vertex at an edge of a cycle is met where an edge of the cycle is entered
pub cycle-meets : (g : Multigraph) (x : ℕ) (es : List ℕ) (e v : ℕ) → IsCycle g x es → is_member e es ≡ true → is_end g v e ≡ true → is_member v (walk_starts g x es) ≡ true
cycle-meets g x [] e v c m i = absurd (cycle-some g x c)
cycle-meets g x (h ∷ hs) e v c m i = elim (met-cases g x (h ∷ hs) v (edge-met g x (h ∷ hs) c.walk e v m i)) [
  | inl t ↦ t
  | inr q ↦ subst (λ z. is_member z (walk_starts g x (h ∷ hs)) ≡ true) (sym (q ∙ c.returns)) (member-head x (walk_starts g (other_end g h x) hs))
]

-- darts that are connected without passing the vertex that p leaves
module _ (g : Multigraph) (r : List (List ℕ)) (ok : IsGraph g) (s : IsRotationSystem g r) (p : ℕ) where
  -- the map with the darts of this vertex apart
  abbrev apart : ℕ → ℕ
  apart = frozen (same_vertex (edge_count g) (dart_after g r) p) (dart_after g r)

  abbrev linked : ℕ → ℕ → Bool
  linked = connected_around (edge_count g) (dart_after g r) p

  linked-equivalence : IsEquivalence linked
  linked-equivalence = component-equivalence (edge_count g) apart

  -- a dart of another vertex is linked with the next one there
  linked-after : (d : ℕ) → d < dart_count g → tail g p ≢ tail g d → linked d (dart_after g r d) ≡ true
  linked-after d l n = subst (λ z. linked d z ≡ true)
      (frozen-elsewhere (same_vertex (edge_count g) (dart_after g r) p) (dart_after g r) d (false_from_ne_true (same_vertex (edge_count g) (dart_after g r) p d) (λ t. n (vertex-tail g r ok s p d t))))
      (component-next (edge_count g) apart d l)

  -- a dart is linked with its twin
  linked-twin : (d : ℕ) → d < dart_count g → linked d (twin d) ≡ true
  linked-twin d l = component-twin (edge_count g) apart d l

  -- the darts of another vertex are linked
  linked-order : (w : ℕ) → w < g.vertex_count → tail g p ≢ w → (e f : ℕ) → is_member e (order_at r w) ≡ true → is_member f (order_at r w) ≡ true → linked (dart_from g w e) (dart_from g w f) ≡ true
  linked-order w l n = chain (λ e f. linked (dart_from g w e) (dart_from g w f)) (equivalence-through linked (dart_from g w) linked-equivalence) (order_at r w) (order-distinct g r w s l) step
    where
      step : (e : ℕ) → is_member e (order_at r w) ≡ true → linked (dart_from g w e) (dart_from g w (successor (order_at r w) e)) ≡ true
      step e m =
          let i = member-incident g r w e s l m in
          let leaves : tail g (dart_from g w e) ≡ w = dart_from-tail g w e (member-end g w e i) in
          subst (λ z. linked (dart_from g w e) z ≡ true) (after-dart_from g r w e (member-end g w e i))
          (linked-after (dart_from g w e) (dart_from-below g w e (member-edge g w e i)) (λ q. n (q ∙ leaves)))

  linked-tail : (c d : ℕ) → c < dart_count g → d < dart_count g → tail g c ≡ tail g d → tail g p ≢ tail g c → linked c d ≡ true
  linked-tail c d l k e n =
      let there : dart_from g (tail g c) (d / 2) ≡ d = ap (λ v. dart_from g v (d / 2)) e ∙ dart_from-of_dart g d ok k in
      let member : is_member (d / 2) (order_at r (tail g c)) ≡ true = ap (λ v. is_member (d / 2) (order_at r v)) e ∙ tail-order g r d ok s k in
      subst (λ z. linked c z ≡ true) there
      (subst (λ z. linked z (dart_from g (tail g c) (d / 2)) ≡ true) (dart_from-of_dart g c ok l)
      (linked-order (tail g c) (tail-in g c ok l) n (c / 2) (d / 2) (tail-order g r c ok s l) member))

  -- the twin of a vertex's dart leaves the other end of the edge
  across-tail : (u h : ℕ) → h < edge_count g → is_end g u h ≡ true → tail g (twin (dart_from g u h)) ≡ other_end g h u
  across-tail u h l i = tail-twin g (dart_from g u h) ok (dart_from-below g u h l) ∙ ap₂ (other_end g) (dart_from-edge g u h) (dart_from-tail g u h i)

  across-below : (u h : ℕ) → h < edge_count g → twin (dart_from g u h) < dart_count g
  across-below u h l = twin-below (edge_count g) (dart_from g u h) (dart_from-below g u h l)

  -- where that is v, the twin is the dart of the edge from v
  across-dart : (u h v : ℕ) → h < edge_count g → is_end g u h ≡ true → v ≡ other_end g h u → twin (dart_from g u h) ≡ dart_from g v h
  across-dart u h v l i q = sym (dart_from-of_dart g (twin (dart_from g u h)) ok (across-below u h l))
      ∙ ap₂ (dart_from g) (across-tail u h l i ∙ sym q) (twin-edge (dart_from g u h) ∙ dart_from-edge g u h)

  -- along a walk that enters no edge at the vertex of p: each dart of its first vertex is linked with the darts that leave
  -- p's vertex by edges of the walk
  linked-walk : (u : ℕ) (es : List ℕ) (c f : ℕ) → IsWalk g u es → is_member (tail g p) (walk_starts g u es) ≡ false → c < dart_count g → tail g c ≡ u → is_member f es ≡ true → is_end g (tail g p) f ≡ true → linked c (dart_from g (tail g p) f) ≡ true
  linked-walk u [] c f w a l e m i = absurd (both_ways false refl m)
  linked-walk u (h ∷ hs) c f w a l e m i = elim (member-cases f h hs m) [
    | inl q ↦ elim (end-cases g h u (tail g p) (w.0).1 (subst (λ z. is_end g (tail g p) z ≡ true) (sym q) i)) [
      | inl z ↦ absurd (no_member-head (tail g p) u (walk_starts g (other_end g h u) hs) a (sym z))
      | inr z ↦ subst (λ k. linked c k ≡ true) (across-dart u h (tail g p) (w.0).0 (w.0).1 z ∙ ap (dart_from g (tail g p)) q) over
    ]
    | inr k ↦ linked-equivalence.transitive c (twin (dart_from g u h)) (dart_from g (tail g p) f) over
        (linked-walk (other_end g h u) hs (twin (dart_from g u h)) f w.1 (no_member-tail (tail g p) u (walk_starts g (other_end g h u) hs) a) (across-below u h (w.0).0) (across-tail u h (w.0).0 (w.0).1) k i)
  ]
    where
      here : tail g c ≡ tail g (dart_from g u h)
      here = e ∙ sym (dart_from-tail g u h (w.0).1)

      over : linked c (twin (dart_from g u h)) ≡ true
      over = linked-equivalence.transitive c (dart_from g u h) (twin (dart_from g u h))
          (linked-tail c (dart_from g u h) l (dart_from-below g u h (w.0).0) here (λ q. no_member-head (tail g p) u (walk_starts g (other_end g h u) hs) a (sym e ∙ sym q)))
          (linked-twin (dart_from g u h) (dart_from-below g u h (w.0).0))

  -- the darts that leave p's vertex by edges of a cycle from there are linked with the first of them
  linked-cycle : (h : ℕ) (hs : List ℕ) → IsCycle g (tail g p) (h ∷ hs) → (f : ℕ) → is_member f (h ∷ hs) ≡ true → is_end g (tail g p) f ≡ true → linked (dart_from g (tail g p) h) (dart_from g (tail g p) f) ≡ true
  linked-cycle h hs c f m i = elim (member-cases f h hs m) [
    | inl q ↦ subst (λ k. linked (dart_from g (tail g p) h) (dart_from g (tail g p) k) ≡ true) q (linked-equivalence.reflexive (dart_from g (tail g p) h))
    | inr k ↦ linked-equivalence.transitive (dart_from g (tail g p) h) (twin (dart_from g (tail g p) h)) (dart_from g (tail g p) f)
        (linked-twin (dart_from g (tail g p) h) (dart_from-below g (tail g p) h (c.walk.0).0))
        (linked-walk (other_end g h (tail g p)) hs (twin (dart_from g (tail g p) h)) f c.walk.1 (distinct-head (tail g p) (walk_starts g (other_end g h (tail g p)) hs) c.vertices)
        (across-below (tail g p) h (c.walk.0).0) (across-tail (tail g p) h (c.walk.0).0 (c.walk.0).1) k i)
  ]

  -- so the darts that leave p's vertex by two edges of a cycle are linked
  linked-on_cycle : (es : List ℕ) → IsCycle g (tail g p) es → (e f : ℕ) → is_member e es ≡ true → is_member f es ≡ true → is_end g (tail g p) e ≡ true → is_end g (tail g p) f ≡ true → linked (dart_from g (tail g p) e) (dart_from g (tail g p) f) ≡ true
  linked-on_cycle [] c e f m n i j = absurd (cycle-some g (tail g p) c)
  linked-on_cycle (h ∷ hs) c e f m n i j = linked-equivalence.transitive (dart_from g (tail g p) e) (dart_from g (tail g p) h) (dart_from g (tail g p) f)
      (linked-equivalence.symmetric (dart_from g (tail g p) h) (dart_from g (tail g p) e) (linked-cycle h hs c e m i))
      (linked-cycle h hs c f n j)

  -- and those by edges of one block
  pub linked-block : (q : ℕ) → p < dart_count g → q < dart_count g → tail g p ≡ tail g q → SameBlock g (p / 2) (q / 2) → linked p q ≡ true
  linked-block q l k e b = subst (λ z. linked z q ≡ true) (dart_from-of_dart g p ok l) (subst (λ z. linked (dart_from g (tail g p) (p / 2)) z ≡ true) there (by_edges b))
    where
      there : dart_from g (tail g p) (q / 2) ≡ q
      there = ap (λ v. dart_from g v (q / 2)) e ∙ dart_from-of_dart g q ok k

      ends : is_end g (tail g p) (q / 2) ≡ true
      ends = subst (λ v. is_end g v (q / 2) ≡ true) (sym e) (tail-end g q)

      begun : (w : CommonCycle g (p / 2) (q / 2)) → BegunAt g w.start w.along (tail g p)
      begun w = cycle_from g w.start w.along (tail g p) w.cycle (cycle-meets g w.start w.along (p / 2) (tail g p) w.cycle w.first_on (tail-end g p))

      on : (w : CommonCycle g (p / 2) (q / 2)) → BegunAt g w.start w.along (tail g p) → linked (dart_from g (tail g p) (p / 2)) (dart_from g (tail g p) (q / 2)) ≡ true
      on w a = linked-on_cycle a.along a.cycle (p / 2) (q / 2) (a.same_edges (p / 2) ∙ w.first_on) (a.same_edges (q / 2) ∙ w.second_on) (tail-end g p) ends

      by_edges : SameBlock g (p / 2) (q / 2) → linked (dart_from g (tail g p) (p / 2)) (dart_from g (tail g p) (q / 2)) ≡ true
      by_edges (inl z) = subst (λ x. linked (dart_from g (tail g p) (p / 2)) (dart_from g (tail g p) x) ≡ true) z (linked-equivalence.reflexive (dart_from g (tail g p) (p / 2)))
      by_edges (inr w) = on w (begun w)

-- so in a plane rotation system of one block no two darts of one face leave one vertex
pub block-one_face : (g : Multigraph) (r : List (List ℕ)) → IsGraph g → IsRotationSystem g r → IsPlane g r → EdgesShareBlock g → (c d : ℕ) → c < dart_count g → d < dart_count g
    → same_orbit (dart_count g) (face (dart_after g r)) c d ≡ true → tail g c ≡ tail g d → c ≡ d
block-one_face g r ok s plane block c d l k t e = elim (cases_eq c d) [
  | inl q ↦ q
  | inr n ↦ absurd (both_ways (same_orbit (dart_count g) (face (dart_after g r)) c d)
      (face-once (edge_count g) (dart_after g r) (dart_before g r) (map-permutes g r ok s) (plane-map g r ok s plane) c d l k n (tail-vertex g r ok s c d l k e)
      (linked-block g r ok s c d l k e (block (c / 2) (d / 2) (dart-edge g c l) (dart-edge g d k))))
      t)
]

-- each face passes each vertex at most once
pub block-face_once : (g : Multigraph) (r : List (List ℕ)) → IsGraph g → IsRotationSystem g r → IsPlane g r → EdgesShareBlock g → (c d : ℕ) → c < dart_count g → d < dart_count g
    → reaches (dart_count g) (face_step g r) c d ≡ true → tail g c ≡ tail g d → c ≡ d
block-face_once g r ok s plane block c d l k t e = block-one_face g r ok s plane block c d l k
    (orbit-ext (dart_count g) (face (dart_after g r)) (face_step g r) (λ x j. map-face g r x ok j) c d ∙ orbit-reaches (dart_count g) (face_step g r) (face_back g r) (face_step-permutes g r ok s) c d l ∙ t)
    e
