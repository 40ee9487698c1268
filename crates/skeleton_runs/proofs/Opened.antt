-- The map of some edges with a vertex opened: what these edges join without passing the vertex is connected in it.
use Rattle.std.proofs.Common.{◌≡◌, ◌≢◌, ℕ, ◌+◌, ◌*◌, ◌/◌, ◌<◌, inl, inr, Bool, true, not, ◌&&◌, ◌==◌, List, refl, sym, ap, ◌∙◌, subst, arith}
use Rattle.std.proofs.lemmas.Bool.{cases_Bool, both_ways, and_parts, and_from, eq-eqb, eqb-true, ne_eqb, not-true, not_from_false, false_from_ne_true}
use Rattle.permutations.specs.Relation.{IsEquivalence}
use Rattle.permutations.specs.Exchange.{restricted}
use Rattle.permutations.proofs.Relation.{kernel-equivalence}
use Rattle.permutations.proofs.Orbits.{orbit-equivalence, orbit-least, orbit-step}
use Rattle.permutations.proofs.Restriction.{restricted-goes, restricted-alone, restricted-permutes, restricted-orbit}
use Rattle.multigraph.specs.Graph.{Multigraph, IsGraph, edge_count, ends_of, is_end, other_end}
use Rattle.multigraph.proofs.OtherEnd.{is_end-first, is_end-second, other_end-differs}
use Rattle.rotations.specs.Rotation.{IsRotationSystem}
use Rattle.dart_maps.specs.Map.{twin, IsMap, same_vertex, same_component}
use Rattle.dart_maps.specs.Order.{frozen, connected_around}
use Rattle.dart_maps.proofs.Darts.{twin-edge, twin-below}
use Rattle.dart_maps.proofs.Components.{component-equivalence, component-twin, component-test}
use Rattle.dart_maps.proofs.FourDarts.{frozen-here, frozen-elsewhere}
use Rattle.dart_maps.proofs.Noncrossing.{restricted-vertex}
use Rattle.faces.specs.Euler.{tail, dart_from, dart_count}
use Rattle.faces.specs.Maps.{dart_after, dart_before}
use Rattle.faces.proofs.DartLemmas.{dart-edge, tail-end, tail-first, tail-second, dart_from-edge, dart_from-below, dart_from-tail}
use Rattle.faces.proofs.MapSteps.{tail-twin, map-permutes}
use Rattle.faces.proofs.MapVertices.{vertex-tail, tail-vertex}
use Rattle.faces.proofs.RestrictedConnection.{opened-vertex, counted-joined}
use Rattle.graph_theory.specs.Joined.{joined_where, avoiding}

-- a rotation system, edges that are kept, and one of them at the vertex u
module _ (g : Multigraph) (r : List (List ℕ)) (ok : IsGraph g) (s : IsRotationSystem g r) (keep : ℕ → Bool) (u a : ℕ) (a_in : a < edge_count g) (a_end : is_end g u a ≡ true) (a_kept : keep a ≡ true) where
  -- whether a dart is of a kept edge
  abbrev live : ℕ → Bool
  live z = keep (z / 2)

  -- the map of the kept edges
  abbrev left : ℕ → ℕ
  left = restricted (dart_count g) (λ z. keep (z / 2)) (dart_after g r)

  abbrev left_back : ℕ → ℕ
  left_back = restricted (dart_count g) (λ z. keep (z / 2)) (dart_before g r)

  pub left-permutes : IsMap (edge_count g) left left_back
  left-permutes = restricted-permutes (dart_count g) live (dart_after g r) (dart_before g r) (map-permutes g r ok s)

  -- a dart at the vertex
  abbrev base : ℕ
  base = dart_from g u a

  -- whether a dart is at the vertex in this map
  abbrev here : ℕ → Bool
  here = same_vertex (edge_count g) left base

  -- the map with the vertex opened, and what is connected in it
  abbrev open_left : ℕ → ℕ
  open_left = frozen here left

  abbrev near : ℕ → ℕ → Bool
  near = same_component (edge_count g) open_left

  base-below : base < dart_count g
  base-below = dart_from-below g u a a_in

  base-live : live base ≡ true
  base-live = ap keep (dart_from-edge g u a) ∙ a_kept

  base-tail : tail g base ≡ u
  base-tail = dart_from-tail g u a a_end

  -- a kept dart is followed by a kept one at its vertex
  left-live : (d : ℕ) → d < dart_count g → live d ≡ true → live (left d) ≡ true
  left-live d l k = (restricted-goes (dart_count g) live (dart_after g r) (dart_before g r) (map-permutes g r ok s) d l k).2

  left-tail : (d : ℕ) → d < dart_count g → tail g (left d) ≡ tail g d
  left-tail d l = elim (cases_Bool (live d)) [
    | inl k ↦ sym (vertex-tail g r ok s d (left d) (restricted-vertex (edge_count g) (dart_after g r) (dart_before g r) (map-permutes g r ok s) live d (left d) l k refl))
    | inr k ↦ ap (tail g) (restricted-alone (dart_count g) live (dart_after g r) d k)
  ]

  -- darts at the vertex leave it
  here-tail : (d : ℕ) → here d ≡ true → tail g d ≡ u
  here-tail d t = sym (eqb-true (tail g base) (tail g d) (orbit-least (dart_count g) left (λ x y. tail g x == tail g y) (kernel-equivalence (tail g))
      (λ z l. eq-eqb (tail g z) (tail g (left z)) (sym (left-tail z l))) base d t)) ∙ base-tail

  -- kept darts that leave one vertex are at one vertex
  left-vertex : (c d : ℕ) → c < dart_count g → d < dart_count g → live c ≡ true → live d ≡ true → tail g c ≡ tail g d → same_vertex (edge_count g) left c d ≡ true
  left-vertex c d l k h i q = restricted-orbit (dart_count g) live (dart_after g r) (dart_before g r) (map-permutes g r ok s) c d h i ∙ tail-vertex g r ok s c d l k q

  tail-here : (d : ℕ) → d < dart_count g → live d ≡ true → tail g d ≡ u → here d ≡ true
  tail-here d l k q = left-vertex base d base-below l base-live k (base-tail ∙ sym q)

  -- a step says the same of being at the vertex
  here-step : (d : ℕ) → d < dart_count g → here (left d) ≡ here d
  here-step d l = elim (cases_Bool (here d)) [
    | inl t ↦ e.transitive base d (left d) t (orbit-step (dart_count g) left d l) ∙ sym t
    | inr t ↦ false_from_ne_true (here (left d)) (λ y. both_ways (here d) t (e.transitive base (left d) d y (e.symmetric d (left d) (orbit-step (dart_count g) left d l)))) ∙ sym t
  ]
    where
      e : IsEquivalence (same_vertex (edge_count g) left)
      e = orbit-equivalence (dart_count g) left

  -- a dart that counts: kept, and not at u
  abbrev counts : ℕ → Bool
  counts d = keep (d / 2) && not (tail g d == u)

  near-equivalence : IsEquivalence near
  near-equivalence = component-equivalence (edge_count g) open_left

  -- darts that count and leave one vertex are connected
  alike : (c d : ℕ) → c < dart_count g → d < dart_count g → tail g c ≡ tail g d → counts c ≡ true → counts d ≡ true → near c d ≡ true
  alike c d l k q h i =
      let x = and_parts (keep (c / 2)) (not (tail g c == u)) h in
      let y = and_parts (keep (d / 2)) (not (tail g d == u)) i in
      opened-vertex (edge_count g) left left_back left-permutes here here-step c d l (left-vertex c d l k x.0 y.0 q)
      (false_from_ne_true (here c) (λ t. both_ways (tail g c == u) (not-true (tail g c == u) x.1) (eq-eqb (tail g c) u (here-tail c t))))

  -- both darts of a kept edge without the end u count
  both-count : (e : ℕ) → e < edge_count g → avoiding g u keep e ≡ true → (counts (2 * e) ≡ true) × (counts (2 * e + 1) ≡ true)
  both-count e l h = (counted (2 * e) (omega arith) (ends_of g e).0 (tail-first g e) (is_end-first g e), counted (2 * e + 1) (omega arith) (ends_of g e).1 (tail-second g e) (is_end-second g e))
    where
      parts : (keep e ≡ true) × (not (is_end g u e) ≡ true)
      parts = and_parts (keep e) (not (is_end g u e)) h

      counted : (d : ℕ) → d / 2 ≡ e → (w : ℕ) → tail g d ≡ w → is_end g w e ≡ true → counts d ≡ true
      counted d q w t i = and_from (keep (d / 2)) (not (tail g d == u)) (ap keep q ∙ parts.0)
          (not_from_false (tail g d == u) (ne_eqb (tail g d) u (λ z. both_ways (is_end g u e) (not-true (is_end g u e) parts.1) (subst (λ y. is_end g y e ≡ true) (sym t ∙ z) i))))

  -- the dart at the far end of a kept edge at u counts
  far-counts : (e : ℕ) → e < edge_count g → is_end g u e ≡ true → keep e ≡ true → (counts (twin (dart_from g u e)) ≡ true) × (tail g (twin (dart_from g u e)) ≡ other_end g e u)
  far-counts e l i h = (
    and_from (keep (twin (dart_from g u e) / 2)) (not (tail g (twin (dart_from g u e)) == u)) (ap keep edge ∙ h)
        (not_from_false (tail g (twin (dart_from g u e)) == u) (ne_eqb (tail g (twin (dart_from g u e))) u (λ q. other_end-differs g e u ok l i (sym far ∙ q)))),
    far,
  )
    where
      edge : twin (dart_from g u e) / 2 ≡ e
      edge = twin-edge (dart_from g u e) ∙ dart_from-edge g u e

      far : tail g (twin (dart_from g u e)) ≡ other_end g e u
      far = tail-twin g (dart_from g u e) ok (dart_from-below g u e l) ∙ ap (λ x. other_end g x (tail g (dart_from g u e))) (dart_from-edge g u e) ∙ ap (other_end g e) (dart_from-tail g u e i)

  -- kept edges at u whose other ends are joined by kept edges without the end u are connected without passing it
  pub around-joined : (e f : ℕ) → e < edge_count g → f < edge_count g → is_end g u e ≡ true → is_end g u f ≡ true → keep e ≡ true → keep f ≡ true
      → joined_where g (avoiding g u keep) (other_end g e u) (other_end g f u) ≡ true → connected_around (edge_count g) left base (dart_from g u e) (dart_from g u f) ≡ true
  around-joined e f l k i j h m t =
      let x = far-counts e l i h in
      let y = far-counts f k j m in
      let de : dart_from g u e < dart_count g = dart_from-below g u e l in
      let df : dart_from g u f < dart_count g = dart_from-below g u f k in
      near-equivalence.transitive (dart_from g u e) (twin (dart_from g u e)) (dart_from g u f) (component-twin (edge_count g) open_left (dart_from g u e) de)
      (near-equivalence.transitive (twin (dart_from g u e)) (twin (dart_from g u f)) (dart_from g u f)
      (counted-joined g open_left counts alike (avoiding g u keep) both-count (twin (dart_from g u e)) (twin (dart_from g u f)) (twin-below (edge_count g) (dart_from g u e) de) (twin-below (edge_count g) (dart_from g u f) df) x.0 y.0
      (subst (λ z. joined_where g (avoiding g u keep) (tail g (twin (dart_from g u e))) z ≡ true) (sym y.1) (subst (λ z. joined_where g (avoiding g u keep) z (other_end g f u) ≡ true) (sym x.1) t)))
      (near-equivalence.symmetric (dart_from g u f) (twin (dart_from g u f)) (component-twin (edge_count g) open_left (dart_from g u f) df)))

  -- edges inside that meet the other kept edges in u alone: what is connected without passing u is inside together
  pub around-apart : (inside : ℕ → Bool)
      → ((w e f : ℕ) → w ≢ u → e < edge_count g → f < edge_count g → is_end g w e ≡ true → is_end g w f ≡ true → keep e ≡ true → keep f ≡ true → inside e ≡ true → inside f ≡ true)
      → (c d : ℕ) → connected_around (edge_count g) left base c d ≡ true → inside (c / 2) ≡ inside (d / 2)
  around-apart inside apart c d t = component-test (edge_count g) open_left (λ x. inside (x / 2)) step (λ x l. ap inside (twin-edge x)) c d t
    where
      same : (p q : Bool) → (p ≡ true → q ≡ true) → (q ≡ true → p ≡ true) → q ≡ p
      same p q f h = grind (arith, f, h, cases_Bool p, cases_Bool q)

      step : (x : ℕ) → x < dart_count g → inside (open_left x / 2) ≡ inside (x / 2)
      step x l = elim (cases_Bool (here x)) [
        | inl y ↦ ap (λ z. inside (z / 2)) (frozen-here here left x y)
        | inr y ↦ ap (λ z. inside (z / 2)) (frozen-elsewhere here left x y) ∙ elim (cases_Bool (live x)) [
          | inl k ↦
              let n : tail g x ≢ u = λ q. both_ways (here x) y (tail-here x l k q) in
              let below : left x < dart_count g = left-permutes.forth x l in
              let there : is_end g (tail g x) (left x / 2) ≡ true = subst (λ z. is_end g z (left x / 2) ≡ true) (left-tail x l) (tail-end g (left x)) in
              same (inside (x / 2)) (inside (left x / 2))
              (apart (tail g x) (x / 2) (left x / 2) n (dart-edge g x l) (dart-edge g (left x) below) (tail-end g x) there k (left-live x l k))
              (apart (tail g x) (left x / 2) (x / 2) n (dart-edge g (left x) below) (dart-edge g x l) there (tail-end g x) (left-live x l k) k)
          | inr k ↦ ap (λ z. inside (z / 2)) (restricted-alone (dart_count g) live (dart_after g r) x k)
        ]
      ]
