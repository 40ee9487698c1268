-- A foot and a path from it, where a plane rotation system of the graph follows the map of what is drawn: which corners the path
-- has, that they lie in one face, and that the rotation system follows the map with the path drawn between these corners.
use Rattle.std.proofs.Common.{◌≡◌, ◌≢◌, ℕ, ◌+◌, ◌*◌, ◌/◌, ◌<◌, ◌≤◌, inl, inr, Bool, true, false, ◌&&◌, ◌||◌, ◌==◌, List, ◌∷◌, length, slice_index, sym, ap, ◌∙◌, subst, arith}
use Rattle.std.proofs.lemmas.Bool.{cases_lt, both_ways, and_parts, and_from, or_cases, eq-eqb, eqb-true}
use Rattle.std.proofs.lemmas.List.{get_or_past}
use mathlib.Core.Path.{fun_ext}
use Rattle.permutations.specs.Members.{is_member}
use Rattle.permutations.specs.Exchange.{restricted}
use Rattle.permutations.proofs.Search.{some-from, some-witness}
use Rattle.permutations.proofs.Members.{member-tail, distinct-head}
use Rattle.permutations.proofs.Relation.{kernel-equivalence}
use Rattle.permutations.proofs.Orbits.{orbit-least}
use Rattle.permutations.proofs.Restriction.{restricted-orbit}
use Rattle.multigraph.specs.Graph.{Multigraph, IsGraph, edge_count, is_end, other_end}
use Rattle.multigraph.specs.Marks.{is_marked}
use Rattle.graph_theory.specs.Path.{walk_vertices}
use Rattle.graph_theory.proofs.Walks.{walk-edge}
use Rattle.dart_maps.specs.Map as maps
use Rattle.dart_maps.specs.Map.{twin, face, IsMap, same_vertex, same_face, same_component}
use Rattle.dart_maps.specs.Path.{path_last}
use Rattle.dart_maps.proofs.Darts.{twin-below, twin-edge}
use Rattle.dart_maps.proofs.Components.{vertex-component}
use Rattle.faces.specs.Euler.{tail, dart_from, dart_count}
use Rattle.faces.specs.Maps.{dart_after, dart_before}
use Rattle.faces.proofs.DartLemmas.{dart-edge, tail-end, dart_from-edge, dart_from-below, dart_from-tail, dart_from-of_dart}
use Rattle.faces.proofs.MapSteps.{map-permutes}
use Rattle.faces.proofs.MapVertices.{vertex-tail, tail-vertex}
use Rattle.faces.proofs.MapCounts.{plane-map}
use Rattle.faces.proofs.RestrictedConnection.{counted-joined}
use Rattle.path_separation.specs.Drawn.{darts_along}
use Rattle.path_rotation.specs.Forced.{is_drawn, Follows, AreTables, AreClosed, LeadsOff, IsPathDrawn}
use Rattle.path_rotation.proofs.Corners.{corner_of, corner-below, corner-kept, corner-orbit}
use Rattle.path_rotation.proofs.PathMore.{and_edges, IsRun, last_corner, path-more, run-arrives, run-face}
use Rattle.path_rotation.proofs.PathInserted.{AllDarts, inserted-ext}
use Rattle.path_rotation.proofs.PathDarts.{edges-along, darts-along, last-dart, end-dart, run-along}

-- no number beyond the darts is drawn
pub drawn-out : (m : ℕ) (drawn : List Bool) → length drawn ≡ m → (k : ℕ) → 2 * m ≤ k → is_drawn drawn k ≡ false
drawn-out m drawn e k l = get_or_past drawn (k / 2) false (omega arith)

-- what is drawn is a dart
pub drawn-below : (m : ℕ) (drawn : List Bool) → length drawn ≡ m → (k : ℕ) → is_drawn drawn k ≡ true → k < 2 * m
drawn-below m drawn e k h = elim (cases_lt k (2 * m)) [
  | inl l ↦ l
  | inr l ↦ absurd (both_ways (is_drawn drawn k) (drawn-out m drawn e k l) h)
]

-- a dart is drawn together with its twin
pub drawn-twin : (drawn : List Bool) (k : ℕ) → is_drawn drawn (twin k) ≡ is_drawn drawn k
drawn-twin drawn k = ap (is_marked drawn) (twin-edge k)

-- a vertex that is on has a drawn dart
pub on-dart : (g : Multigraph) (drawn on : List Bool) (next : List ℕ) → AreTables g drawn on next → (v : ℕ) → is_marked on v ≡ true → (c : ℕ) × (c < dart_count g) × (is_drawn drawn c ≡ true) × (tail g c ≡ v)
on-dart g drawn on next t v h =
    let w = some-witness (edge_count g) (λ e. is_marked drawn e && is_end g v e) (sym (t.on_drawn v) ∙ h) in
    let p = and_parts (is_marked drawn w.0) (is_end g v w.0) w.2 in
    (dart_from g v w.0, dart_from-below g v w.0 w.1, ap (is_marked drawn) (dart_from-edge g v w.0) ∙ p.0, dart_from-tail g v w.0 p.1)

-- and the vertex that a drawn dart leaves is on
pub drawn-on : (g : Multigraph) (drawn on : List Bool) (next : List ℕ) → AreTables g drawn on next → (c : ℕ) → is_drawn drawn c ≡ true → is_marked on (tail g c) ≡ true
drawn-on g drawn on next t c h = t.on_drawn (tail g c)
    ∙ some-from (edge_count g) (λ e. is_marked drawn e && is_end g (tail g c) e) (c / 2) (dart-edge g c (drawn-below (edge_count g) drawn t.each_edge c h)) (and_from (is_drawn drawn c) (is_end g (tail g c) (c / 2)) h (tail-end g c))

-- a rotation system that follows the map, and a foot
module _ (g : Multigraph) (ok : IsGraph g) (drawn on : List Bool) (next : List ℕ) (t : AreTables g drawn on next) (d : ℕ) (l : d < dart_count g) (off : is_drawn drawn d ≡ false) (start : is_marked on (tail g d) ≡ true) (q : List (List ℕ)) (f : Follows g drawn next q) where
  -- the map of the drawn darts
  abbrev left : ℕ → ℕ
  left = restricted (dart_count g) (is_drawn drawn) (dart_after g q)

  permutes : IsMap (edge_count g) (dart_after g q) (dart_before g q)
  permutes = map-permutes g q ok f.plane.system

  plane : maps.IsPlane (edge_count g) (dart_after g q)
  plane = plane-map g q ok f.plane.system f.plane.plane

  out : (k : ℕ) → dart_count g ≤ k → is_drawn drawn k ≡ false
  out = drawn-out (edge_count g) drawn t.each_edge

  -- the corner of the foot
  abbrev pub foot_corner : ℕ
  foot_corner = corner_of (dart_count g) (is_drawn drawn) (dart_before g q) d

  pub foot-below : foot_corner < dart_count g
  foot-below = corner-below (dart_count g) (is_drawn drawn) (dart_after g q) (dart_before g q) permutes d l off out

  foot-vertex : same_vertex (edge_count g) (dart_after g q) d foot_corner ≡ true
  foot-vertex = corner-orbit (dart_count g) (is_drawn drawn) (dart_after g q) (dart_before g q) permutes d l off out

  pub foot-drawn : is_drawn drawn foot_corner ≡ true
  foot-drawn = let u = on-dart g drawn on next t (tail g d) start in
      corner-kept (dart_count g) (is_drawn drawn) (dart_after g q) (dart_before g q) permutes d l off out u.0 u.2 (tail-vertex g q ok f.plane.system d u.0 l u.1 (sym u.3))

  pub foot-tail : tail g foot_corner ≡ tail g d
  foot-tail = sym (vertex-tail g q ok f.plane.system d foot_corner foot-vertex)

  -- a path from the foot
  module _ (along : List ℕ) (z : ℕ) (p : LeadsOff g on d along z) where
    abbrev path : List ℕ
    path = darts_along g (other_end g (d / 2) (tail g d)) along

    itself : dart_from g (tail g d) (d / 2) ≡ d
    itself = dart_from-of_dart g d ok l

    run : IsRun (edge_count g) (dart_after g q) (is_drawn drawn) d path
    run = subst (λ (c : ℕ). IsRun (edge_count g) (dart_after g q) (is_drawn drawn) c path) itself
        (run-along g q ok f.plane.system along (tail g d) (d / 2) z p.path (is_drawn drawn) (ap (is_drawn drawn) itself ∙ off) (drawn-twin drawn) out ends)
      where
        ends : (k : ℕ) → is_drawn drawn k ≡ true → is_member (tail g k) (walk_vertices g (other_end g (d / 2) (tail g d)) along) ≡ true → tail g k ≡ z
        ends k h m = elim (p.inner (tail g k) (member-tail (tail g k) (tail g d) (walk_vertices g (other_end g (d / 2) (tail g d)) along) m) (drawn-on g drawn on next t k h)) [
          | inr i ↦ i
          | inl i ↦ absurd (both_ways (is_member (tail g d) (walk_vertices g (other_end g (d / 2) (tail g d)) along))
              (distinct-head (tail g d) (walk_vertices g (other_end g (d / 2) (tail g d)) along) p.path.vertices)
              (subst (λ (v : ℕ). is_member v (walk_vertices g (other_end g (d / 2) (tail g d)) along) ≡ true) i m))
        ]

    -- the edges of the run are those of the path
    pub run-edges : (y : ℕ) → and_edges (is_drawn drawn) (d ∷ path) y ≡ (is_drawn drawn y || is_member (y / 2) ((d / 2) ∷ along))
    run-edges y = ap (λ (c : ℕ). and_edges (is_drawn drawn) (c ∷ path) y) (sym itself) ∙ edges-along g ((d / 2) ∷ along) (tail g d) (is_drawn drawn) y

    -- the dart that arrives
    abbrev arriving : ℕ
    arriving = twin (path_last d path)

    last : (path_last d path < dart_count g) × (tail g (twin (path_last d path)) ≡ z)
    last = subst (λ (c : ℕ). (path_last c path < dart_count g) × (tail g (twin (path_last c path)) ≡ z)) itself
        (let w = last-dart g ok along (tail g d) (d / 2) p.path.walk in (w.0, w.1 ∙ p.path.arrives))

    -- the corner into which the path arrives
    abbrev pub end_corner : ℕ
    end_corner = last_corner (edge_count g) (is_drawn drawn) (dart_before g q) d path

    arrives : (end_corner < dart_count g) × (is_drawn drawn end_corner ≡ true) × (same_vertex (edge_count g) (dart_after g q) arriving end_corner ≡ true)
    arrives = let u = on-dart g drawn on next t z p.arrives in
        run-arrives (edge_count g) (dart_after g q) (dart_before g q) permutes path (is_drawn drawn) d run (is_drawn drawn) u.0 u.2
        (tail-vertex g q ok f.plane.system arriving u.0 (twin-below (edge_count g) (path_last d path) last.0) u.1 (last.1 ∙ sym u.3)) only
      where
        only : (y : ℕ) → and_edges (is_drawn drawn) (d ∷ path) y ≡ true → same_vertex (edge_count g) (dart_after g q) arriving y ≡ true → y ≢ arriving → is_drawn drawn y ≡ true
        only y h v n = elim (or_cases (is_drawn drawn y) (is_member (y / 2) ((d / 2) ∷ along)) (sym (run-edges y) ∙ h)) [
          | inl i ↦ i
          | inr i ↦ absurd (n (subst (λ (c : ℕ). y ≡ twin (path_last c path)) itself (end-dart g ok along (tail g d) (d / 2) z p.path y i (sym (vertex-tail g q ok f.plane.system arriving y v) ∙ last.1))))
        ]

    pub end-below : end_corner < dart_count g
    end-below = arrives.0

    pub end-drawn : is_drawn drawn end_corner ≡ true
    end-drawn = arrives.1

    pub end-tail : tail g end_corner ≡ z
    end-tail = sym (vertex-tail g q ok f.plane.system arriving end_corner arrives.2) ∙ last.1

    -- drawn darts are connected by what is drawn
    corners-joined : same_component (edge_count g) left foot_corner end_corner ≡ true
    corners-joined = counted-joined g left (is_drawn drawn) alike (is_marked drawn) both foot_corner end_corner foot-below end-below foot-drawn end-drawn
        (t.joined (tail g foot_corner) (tail g end_corner) (drawn-on g drawn on next t foot_corner foot-drawn) (drawn-on g drawn on next t end_corner end-drawn))
      where
        alike : (b c : ℕ) → b < dart_count g → c < dart_count g → tail g b ≡ tail g c → is_drawn drawn b ≡ true → is_drawn drawn c ≡ true → same_component (edge_count g) left b c ≡ true
        alike b c i j e h k = vertex-component (edge_count g) left b c
            (restricted-orbit (dart_count g) (is_drawn drawn) (dart_after g q) (dart_before g q) permutes b c h k ∙ tail-vertex g q ok f.plane.system b c i j e)

        both : (e : ℕ) → e < edge_count g → is_marked drawn e ≡ true → (is_drawn drawn (2 * e) ≡ true) × (is_drawn drawn (2 * e + 1) ≡ true)
        both e i h =
            let one : 2 * e / 2 ≡ e = omega arith in
            let two : (2 * e + 1) / 2 ≡ e = omega arith in
            (ap (is_marked drawn) one ∙ h, ap (is_marked drawn) two ∙ h)

    -- both corners lie in one face of what is drawn
    pub one-face : same_face (edge_count g) left (twin foot_corner) (twin end_corner) ≡ true
    one-face = run-face (edge_count g) (dart_after g q) (dart_before g q) permutes plane path (is_drawn drawn) d run foot-drawn end-below end-drawn corners-joined

    -- so they have one label
    pub one-label : (label : List ℕ) → AreClosed (edge_count g) next label → slice_index label (twin end_corner) ≡ slice_index label (twin foot_corner)
    one-label label closed = sym (eqb-true (slice_index label (twin foot_corner)) (slice_index label (twin end_corner))
        (orbit-least (dart_count g) (face left) (λ x y. slice_index label x == slice_index label y) (kernel-equivalence (slice_index label)) step (twin foot_corner) (twin end_corner) one-face))
      where
        step : (y : ℕ) → y < dart_count g → (slice_index label y == slice_index label (face left y)) ≡ true
        step y i = eq-eqb (slice_index label y) (slice_index label (face left y))
            (sym (closed y i) ∙ ap (slice_index label) (f.steps (twin y) (twin-below (edge_count g) y i)))

    -- and where the path is drawn between them, the rotation system follows the new map
    pub still-follows : (new_drawn new_on : List Bool) (label new_next new_label : List ℕ) → IsPathDrawn g d along foot_corner end_corner drawn on next label new_drawn new_on new_next new_label → Follows g new_drawn new_next q
    still-follows new_drawn new_on label new_next new_label w = record { plane = f.plane; steps = steps }
      where
        marked : is_drawn new_drawn ≡ and_edges (is_drawn drawn) (d ∷ path)
        marked = fun_ext (λ y. w.edges_marked (y / 2) ∙ sym (run-edges y))

        darts : AllDarts (λ y. y < dart_count g) (d ∷ path)
        darts = (l, twin-below (edge_count g) d l, darts-along g (λ y. y < dart_count g) along (other_end g (d / 2) (tail g d)) (λ y m. within y (walk-edge g (other_end g (d / 2) (tail g d)) along p.path.walk.1 (y / 2) m)))
          where
            within : (y : ℕ) → y / 2 < edge_count g → y < dart_count g
            within y i = omega arith

        steps : (y : ℕ) → y < dart_count g → slice_index new_next y ≡ restricted (dart_count g) (is_drawn new_drawn) (dart_after g q) y
        steps y i = w.darts_inserted y i
            ∙ inserted-ext (λ v. v < dart_count g) path (slice_index next) left foot_corner d end_corner f.steps foot-below end-below darts y i
            ∙ sym (ap (λ (h : ℕ → ℕ). h y) (path-more (edge_count g) (dart_after g q) (dart_before g q) permutes path (is_drawn drawn) d run))
            ∙ ap (λ (k : ℕ → Bool). restricted (dart_count g) k (dart_after g q) y) (sym marked)
