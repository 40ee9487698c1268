-- The map of darts restricted to some edges goes round each vertex as the cyclic order does, the other edges left out.
use Rattle.std.proofs.Common.{◌≡◌, ℕ, ◌/◌, ◌<◌, Bool, true, List, map, filter, sym, ap, ◌∙◌, subst, le_refl}
use Rattle.permutations.specs.Members.{is_member, is_distinct}
use Rattle.permutations.specs.Cyclic.{successor, turned}
use Rattle.permutations.specs.Permutation.{Permutes}
use Rattle.permutations.specs.Exchange.{taken_out, restricted}
use Rattle.permutations.specs.Ring.{ring}
use Rattle.permutations.proofs.Filter.{filter-ext, distinct-filter}
use Rattle.permutations.proofs.Turned.{turned-turn, IsTurn-filter, IsTurn-successor}
use Rattle.permutations.proofs.TakenOut.{taken-out-permutes}
use Rattle.permutations.proofs.Restriction.{restricted-taken-out}
use Rattle.permutations.proofs.Rings.{ring-itself, ring-successor, ring-from_list}
use Rattle.permutations.proofs.Removal.{ring-taken_out}
use Rattle.permutations.proofs.Mapped.{map-member, member-map, distinct-map}
use Rattle.multigraph.specs.Graph.{Multigraph, IsGraph}
use Rattle.rotations.specs.Rotation.{order_at, IsRotationSystem}
use Rattle.rotations.proofs.Membership.{member-edge, member-end}
use Rattle.faces.specs.Euler.{dart_from, dart_count}
use Rattle.faces.specs.Maps.{dart_after, dart_before}
use Rattle.faces.proofs.DartLemmas.{dart_from-edge, dart_from-below, order-distinct, member-incident}
use Rattle.faces.proofs.MapSteps.{after-dart_from, map-permutes}
use Rattle.faces.proofs.MapLists.{successor-map, filter-map}

-- darts of different edges from one vertex are different
pub dart_from-once : (g : Multigraph) (w y z : ℕ) → dart_from g w y ≡ dart_from g w z → y ≡ z
dart_from-once g w y z q = sym (dart_from-edge g w y) ∙ ap (λ d. d / 2) q ∙ dart_from-edge g w z

-- a test on edges, and an edge at w that passes
module _ (g : Multigraph) (r : List (List ℕ)) (ok : IsGraph g) (s : IsRotationSystem g r) (keep : ℕ → Bool) (w e : ℕ) (l : w < g.vertex_count) (m : is_member e (order_at r w) ≡ true) (h : keep e ≡ true) where
  -- the darts from w in their order
  abbrev round : List ℕ
  round = map (dart_from g w) (order_at r w)

  -- whether the edge of a dart passes
  abbrev live : ℕ → Bool
  live d = keep (d / 2)

  abbrev start : ℕ
  start = dart_from g w e

  start-below : start < dart_count g
  start-below = dart_from-below g w e (member-edge g w e (member-incident g r w e s l m))

  start-live : live start ≡ true
  start-live = ap keep (dart_from-edge g w e) ∙ h

  round-distinct : is_distinct round ≡ true
  round-distinct = distinct-map (dart_from g w) (order_at r w) (λ y z _ _. dart_from-once g w y z) (order-distinct g r w s l)

  round-successor : (z : ℕ) → is_member z round ≡ true → successor round z ≡ dart_after g r z
  round-successor z n =
      let y = map-member (dart_from g w) (order_at r w) z n in
      subst (λ k. successor round k ≡ dart_after g r k) y.2
      (successor-map (dart_from g w) (order_at r w) y.0 (λ x _. dart_from-once g w x y.0) ∙ sym (after-dart_from g r w y.0 (member-end g w y.0 (member-incident g r w y.0 s l y.1))))

  -- the ring of the map is the order of the darts
  pub round-ring : ring (dart_count g) (dart_after g r) start ≡ turned round start
  round-ring = ring-from_list (dart_count g) (dart_after g r) (dart_before g r) (map-permutes g r ok s) round round-distinct round-successor start start-below (member-map (dart_from g w) (order_at r w) e m)

  left-permutes : Permutes (dart_count g) (taken_out live (dart_count g) (dart_after g r)) (taken_out live (dart_count g) (dart_before g r))
  left-permutes = taken-out-permutes (dart_count g) live (dart_after g r) (dart_before g r) (map-permutes g r ok s) (dart_count g) (le_refl (dart_count g))

  left-step : taken_out live (dart_count g) (dart_after g r) start ≡ successor (filter live round) start
  left-step =
      sym (ring-successor (dart_count g) (taken_out live (dart_count g) (dart_after g r)) (taken_out live (dart_count g) (dart_before g r)) left-permutes start start-below start
      (ring-itself (dart_count g) (taken_out live (dart_count g) (dart_after g r)) (taken_out live (dart_count g) (dart_before g r)) left-permutes start start-below))
      ∙ ap (λ k. successor k start) (ring-taken_out (dart_count g) live (dart_after g r) (dart_before g r) (map-permutes g r ok s) start start-below start-live)
      ∙ ap (λ k. successor (filter live k) start) round-ring
      ∙ IsTurn-successor (filter live round) (filter live (turned round start)) start (IsTurn-filter live round (turned round start) (turned-turn round start)) (distinct-filter live round round-distinct)

  left-round : filter live round ≡ map (dart_from g w) (filter keep (order_at r w))
  left-round = filter-map (dart_from g w) live (order_at r w) ∙ ap (map (dart_from g w)) (filter-ext (λ z. live (dart_from g w z)) keep (order_at r w) (λ z _. ap keep (dart_from-edge g w z)))

  -- each dart that stays is followed by that of the next edge that stays
  pub restricted-order : restricted (dart_count g) (λ d. keep (d / 2)) (dart_after g r) (dart_from g w e) ≡ dart_from g w (successor (filter keep (order_at r w)) e)
  restricted-order = restricted-taken-out (dart_count g) live (dart_after g r) (dart_before g r) (map-permutes g r ok s) start start-below
      ∙ left-step
      ∙ ap (λ k. successor k start) left-round
      ∙ successor-map (dart_from g w) (filter keep (order_at r w)) e (λ z _. dart_from-once g w z e)
