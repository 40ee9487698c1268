-- The rotation system of a graph that goes through the edges in order at vertex 0, and in reverse order at the others.
use Rattle.std.proofs.Common.{◌≡◌, ℕ, zero, suc, ◌<◌, List, [], reverse, refl, sym, ap, ◌∙◌, subst}
use Rattle.std.proofs.lemmas.List.{length-map, get_or-map}
use Rattle.std.proofs.lemmas.List.Sorted.{IsPermutation-refl}
use Rattle.permutations.specs.Cyclic.{from_least}
use Rattle.multigraph.specs.Graph.{Multigraph, numbers_below, incident_edges}
use Rattle.multigraph.proofs.Below.{get_or-numbers_below, length-numbers_below}
use Rattle.rotations.specs.Rotation.{order_at, IsCyclicOrder, IsRotationSystem}
use Rattle.faces.proofs.MapMirror.{mirror-order, mirror-system}
use Rattle.skeleton_planes.proofs.PolygonSkeleton.{rising_system, rising-order, rising-system}
use Rattle.skel_embed.specs.Fan.{fan_order, fan_system, IsFan}

module _ (g : Multigraph) where
  -- the order at a vertex
  pub fan-at : (v : ℕ) → v < g.vertex_count → order_at (fan_system g) v ≡ fan_order g v
  fan-at v l = get_or-map (fan_order g) (numbers_below g.vertex_count) v 0 [] (subst (λ n. v < n) (sym (length-numbers_below g.vertex_count)) l) ∙ ap (fan_order g) (get_or-numbers_below g.vertex_count v 0 l)

  order-is : (v : ℕ) → v < g.vertex_count → IsCyclicOrder (incident_edges g v) (fan_order g v)
  order-is zero l = record { arranged = IsPermutation-refl (incident_edges g 0); least_first = refl }
  order-is (suc v) l = subst (IsCyclicOrder (incident_edges g (suc v))) (mirror-order (rising_system g) (suc v) ∙ ap (λ (z : List ℕ). from_least (reverse z)) (rising-order g (suc v) l)) ((mirror-system g (rising_system g) (rising-system g)).orders (suc v) l)

  -- it is a rotation system
  pub fan-system : IsRotationSystem g (fan_system g)
  fan-system = record {
    vertices = length-map (numbers_below g.vertex_count) (fan_order g) ∙ length-numbers_below g.vertex_count;
    orders = λ v l. subst (IsCyclicOrder (incident_edges g v)) (sym (fan-at v l)) (order-is v l);
  }

  pub fan-is : IsFan g (fan_system g)
  fan-is = record { system = fan-system; forward = fan-at 0; backward = fan-at 1 }
