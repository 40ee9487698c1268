-- The drawn edges without cut vertex: their plane map is connected, and no face passes a vertex twice.
use Rattle.std.proofs.Common.{◌≡◌, ◌≢◌, ℕ, ◌+◌, ◌*◌, ◌/◌, ◌<◌, inl, inr, Bool, true, false, not, ◌&&◌, ◌==◌, sym, ap, ◌∙◌, subst, arith}
use Rattle.std.proofs.lemmas.Bool.{cases_Bool, both_ways, and_from, and_parts, not-true, not_from_false, false_from_ne_true, eq-eqb, eqb-true, ne_eqb}
use Rattle.permutations.specs.Relation.{IsEquivalence}
use Rattle.permutations.proofs.Relation.{kernel-equivalence}
use Rattle.permutations.proofs.Orbits.{orbit-equivalence, orbit-least, orbit-step}
use Rattle.multigraph.specs.Graph.{Multigraph, IsGraph, edge_count, ends_of, is_end}
use Rattle.multigraph.proofs.OtherEnd.{is_end-first, is_end-second}
use Rattle.graph_theory.specs.Joined.{avoiding}
use Rattle.graph_theory.proofs.Joined.{joined-more}
use Rattle.dart_maps.specs.Map.{twin, same_vertex, same_face, same_component, IsPlane}
use Rattle.dart_maps.specs.Order.{frozen, connected_around}
use Rattle.dart_maps.proofs.Darts.{twin-below}
use Rattle.dart_maps.proofs.Components.{component-equivalence, component-twin, vertex-component}
use Rattle.path_separation.specs.Drawn.{IsMapOfDrawn, IsUncut}
use Rattle.faces.specs.Euler.{tail, dart_count}
use Rattle.faces.proofs.DartLemmas.{tail-first, tail-second}
use Rattle.faces.proofs.MapCorners.{face-once}
use Rattle.faces.proofs.MapSteps.{tail-in}
use Rattle.faces.proofs.RestrictedConnection.{opened-vertex, counted-joined}
use Rattle.path_separation.proofs.DrawnMap.{IsDrawnMap, dart-on, drawn-twin}
use Rattle.path_separation.proofs.Feet.{arrives-elsewhere}

module _ (g : Multigraph) (ok : IsGraph g) (drawn : ℕ → Bool) (next previous : ℕ → ℕ) (s : IsMapOfDrawn g drawn next previous) (uncut : IsUncut g drawn) where
  -- both darts of a drawn edge are drawn
  both-drawn : (e : ℕ) → drawn e ≡ true → (drawn ((2 * e) / 2) ≡ true) × (drawn ((2 * e + 1) / 2) ≡ true)
  both-drawn e h = let p : (2 * e) / 2 ≡ e = omega arith in let q : (2 * e + 1) / 2 ≡ e = omega arith in (ap drawn p ∙ h, ap drawn q ∙ h)

  -- drawn darts are connected
  pub drawn-joined : (c d : ℕ) → c < dart_count g → d < dart_count g → drawn (c / 2) ≡ true → drawn (d / 2) ≡ true → same_component (edge_count g) next c d ≡ true
  drawn-joined c d l k h i = counted-joined g next (λ z. drawn (z / 2))
      (λ x y a b q u v. vertex-component (edge_count g) next x y (s.vertices x y a b u v q))
      drawn (λ e m t. both-drawn e t) c d l k h i
      (joined-more g (avoiding g g.vertex_count drawn) drawn (λ e m t. (and_parts (drawn e) (not (is_end g g.vertex_count e)) t).0) (tail g c) (tail g d)
      (uncut g.vertex_count (tail g c) (tail g d) (dart-on g drawn c l h) (dart-on g drawn d k i) (none c l) (none d k)))
    where
      none : (z : ℕ) → z < dart_count g → tail g z ≢ g.vertex_count
      none z m q = let b : tail g z < g.vertex_count = tail-in g z ok m in omega arith

  -- a drawn dart, and its vertex opened
  module _ (a : ℕ) (a_in : a < dart_count g) (a_drawn : drawn (a / 2) ≡ true) where
    abbrev u : ℕ
    u = tail g a

    abbrev here : ℕ → Bool
    here = same_vertex (edge_count g) next a

    abbrev opened : ℕ → ℕ
    opened = frozen here next

    abbrev near : ℕ → ℕ → Bool
    near = same_component (edge_count g) opened

    near-equivalence : IsEquivalence near
    near-equivalence = component-equivalence (edge_count g) opened

    here-tail : (z : ℕ) → here z ≡ true → tail g z ≡ u
    here-tail z t = sym (eqb-true u (tail g z) (orbit-least (dart_count g) next (λ x y. tail g x == tail g y) (kernel-equivalence (tail g))
        (λ y l. eq-eqb (tail g y) (tail g (next y)) (sym (s.tails y l))) a z t))

    here-step : (z : ℕ) → z < dart_count g → here (next z) ≡ here z
    here-step z l = elim (cases_Bool (here z)) [
      | inl t ↦ e.transitive a z (next z) t (orbit-step (dart_count g) next z l) ∙ sym t
      | inr t ↦ false_from_ne_true (here (next z)) (λ y. both_ways (here z) t (e.transitive a (next z) z y (e.symmetric z (next z) (orbit-step (dart_count g) next z l)))) ∙ sym t
    ]
      where
        e : IsEquivalence (same_vertex (edge_count g) next)
        e = orbit-equivalence (dart_count g) next

    -- a dart that counts: drawn, and at another vertex
    abbrev counts : ℕ → Bool
    counts z = drawn (z / 2) && not (tail g z == u)

    counts-from : (z : ℕ) → drawn (z / 2) ≡ true → tail g z ≢ u → counts z ≡ true
    counts-from z h n = and_from (drawn (z / 2)) (not (tail g z == u)) h (not_from_false (tail g z == u) (ne_eqb (tail g z) u n))

    counts-parts : (z : ℕ) → counts z ≡ true → (drawn (z / 2) ≡ true) × (here z ≡ false)
    counts-parts z h =
        let p = and_parts (drawn (z / 2)) (not (tail g z == u)) h in
        (p.0, false_from_ne_true (here z) (λ t. both_ways (tail g z == u) (not-true (tail g z == u) p.1) (eq-eqb (tail g z) u (here-tail z t))))

    alike : (c d : ℕ) → c < dart_count g → d < dart_count g → tail g c ≡ tail g d → counts c ≡ true → counts d ≡ true → near c d ≡ true
    alike c d l k q h i =
        let x = counts-parts c h in
        opened-vertex (edge_count g) next previous s.permutes here here-step c d l (s.vertices c d l k x.0 (counts-parts d i).0 q) x.1

    both-count : (e : ℕ) → e < edge_count g → avoiding g u drawn e ≡ true → (counts (2 * e) ≡ true) × (counts (2 * e + 1) ≡ true)
    both-count e l h =
        let p = and_parts (drawn e) (not (is_end g u e)) h in
        let d = both-drawn e p.0 in
        (counts-from (2 * e) d.0 (away (2 * e) (ends_of g e).0 p.1 (tail-first g e) (is_end-first g e)), counts-from (2 * e + 1) d.1 (away (2 * e + 1) (ends_of g e).1 p.1 (tail-second g e) (is_end-second g e)))
      where
        away : (z w : ℕ) → not (is_end g u e) ≡ true → tail g z ≡ w → is_end g w e ≡ true → tail g z ≢ u
        away z w p t i q = both_ways (is_end g u e) (not-true (is_end g u e) p) (subst (λ y. is_end g y e ≡ true) (sym t ∙ q) i)

    -- another drawn dart at the vertex is connected with it without passing the vertex
    around : (b : ℕ) → b < dart_count g → drawn (b / 2) ≡ true → tail g b ≡ u → connected_around (edge_count g) next a a b ≡ true
    around b l h q =
        let far : counts (twin a) ≡ true = counts-from (twin a) (drawn-twin drawn a ∙ a_drawn) (arrives-elsewhere g ok a a_in) in
        let away : tail g (twin b) ≢ u = λ r. arrives-elsewhere g ok b l (r ∙ sym q) in
        let near_far : counts (twin b) ≡ true = counts-from (twin b) (drawn-twin drawn b ∙ h) away in
        let la : twin a < dart_count g = twin-below (edge_count g) a a_in in
        let lb : twin b < dart_count g = twin-below (edge_count g) b l in
        near-equivalence.transitive a (twin a) b (component-twin (edge_count g) opened a a_in)
        (near-equivalence.transitive (twin a) (twin b) b
        (counted-joined g opened counts alike (avoiding g u drawn) both-count (twin a) (twin b) la lb far near_far
        (uncut u (tail g (twin a)) (tail g (twin b)) (dart-on g drawn (twin a) la (drawn-twin drawn a ∙ a_drawn)) (dart-on g drawn (twin b) lb (drawn-twin drawn b ∙ h)) (arrives-elsewhere g ok a a_in) away))
        (near-equivalence.symmetric b (twin b) (component-twin (edge_count g) opened b l)))

  -- so no face passes a vertex twice
  pub drawn-once : IsPlane (edge_count g) next → (c d : ℕ) → c < dart_count g → d < dart_count g → drawn (c / 2) ≡ true → drawn (d / 2) ≡ true → c ≢ d → tail g c ≡ tail g d → same_face (edge_count g) next c d ≡ false
  drawn-once p c d l k h i n q = face-once (edge_count g) next previous s.permutes p c d l k n (s.vertices c d l k h i q) (around c l h d k i (sym q))

  -- all that is needed of the map
  pub drawn-map : IsPlane (edge_count g) next → IsDrawnMap g drawn next previous
  drawn-map p = record { permutes = s.permutes; alone = s.alone; tails = s.tails; vertices = s.vertices; plane = p; joined = drawn-joined; once = drawn-once p }
