-- The steps of the plane rotation system of a triconnected graph with four vertices, by the ends of the darts.
use Rattle.std.proofs.Common.{◌≡◌, ℕ, ◌<◌, true, ◌==◌, List, length, slice_index, refl, sym, ap, ◌∙◌}
use Rattle.std.proofs.lemmas.Bool.{agree_below_at, eqb-true}
use Rattle.multigraph.specs.Graph.{Multigraph, IsGraph}
use Rattle.graph_theory.specs.Triconnected.{IsTriconnected}
use Rattle.dart_maps.specs.Map.{twin}
use Rattle.faces.specs.Euler.{tail, dart_count}
use Rattle.faces.specs.Maps.{dart_after}
use Rattle.faces.proofs.MapSteps.{map-permutes}
use Rattle.planarity.proofs.SimpleDarts.{simple-dart}
use Rattle.planarity.proofs.JoinedDarts.{between-is}
use Rattle.planarity.proofs.FourVerticesDarts.{alike-turned, carry, carry-leads, IsCarried, carried}
use Rattle.planarity.proofs.FourVerticesTetrahedron.{tetrahedron, tetrahedron-graph, drawn, drawn-system, drawn-plane}
use Rattle.planarity.proofs.FourVertices.{alike}
use Rattle.contract_obstruct.specs.Steps.{ArePlaneSteps}
use Rattle.contract_embed.specs.Steps.{first_dart}
use Rattle.contract_embed.specs.Tetrahedron.{turn}

-- in the tetrahedron the steps stay at a vertex
drawn-tail : (d : ℕ) → d < 12 → tail tetrahedron (dart_after tetrahedron drawn d) ≡ tail tetrahedron d
drawn-tail d l = eqb-true (tail tetrahedron (dart_after tetrahedron drawn d)) (tail tetrahedron d)
    (agree_below_at (λ f. tail tetrahedron (dart_after tetrahedron drawn f) == tail tetrahedron f) (λ f. true) 12 d refl l)

-- and lead to the neighbours in turn
drawn-head : (d : ℕ) → d < 12 → tail tetrahedron (twin (dart_after tetrahedron drawn d)) ≡ turn (tail tetrahedron d) (tail tetrahedron (twin d))
unfolding twin
drawn-head d l = eqb-true (tail tetrahedron (twin (dart_after tetrahedron drawn d))) (turn (tail tetrahedron d) (tail tetrahedron (twin d)))
    (agree_below_at (λ f. tail tetrahedron (twin (dart_after tetrahedron drawn f)) == turn (tail tetrahedron f) (tail tetrahedron (twin f))) (λ f. true) 12 d refl l)

-- a list of the darts that lead to the neighbours in turn gives the steps of a plane rotation system
pub tetrahedron-plane : (g : Multigraph) → IsGraph g → IsTriconnected g → g.vertex_count ≡ 4 → (next : List ℕ) → length next ≡ dart_count g
    → ((d : ℕ) → d < dart_count g → slice_index next d ≡ first_dart g (tail g d) (turn (tail g d) (tail g (twin d)))) → ArePlaneSteps g next
tetrahedron-plane g i t four next long steps = record {
  system = c.orders;
  are_steps = record { system = c.system; each = long; steps = λ d l. steps d l ∙ same d l ∙ sym (c.after d l) };
  plane = c.plane drawn-plane;
}
  where
    c : IsCarried tetrahedron g drawn
    c = carried tetrahedron g (alike g i t four) drawn drawn-system

    same : (d : ℕ) → d < dart_count g → first_dart g (tail g d) (turn (tail g d) (tail g (twin d))) ≡ carry tetrahedron g (dart_after tetrahedron drawn (carry g tetrahedron d))
    same d l =
        let a = alike g i t four in
        let here = carry-leads g tetrahedron (alike-turned tetrahedron g a) d l in
        let on : dart_after tetrahedron drawn (carry g tetrahedron d) < 12 = (map-permutes tetrahedron drawn tetrahedron-graph drawn-system).forth (carry g tetrahedron d) here.is_dart in
        let there = carry-leads tetrahedron g a (dart_after tetrahedron drawn (carry g tetrahedron d)) on in
        let leaves : tail g (carry tetrahedron g (dart_after tetrahedron drawn (carry g tetrahedron d))) ≡ tail g d = there.leaves ∙ drawn-tail (carry g tetrahedron d) here.is_dart ∙ here.leaves in
        let arrives : tail g (twin (carry tetrahedron g (dart_after tetrahedron drawn (carry g tetrahedron d)))) ≡ turn (tail g d) (tail g (twin d)) =
        there.arrives ∙ drawn-head (carry g tetrahedron d) here.is_dart ∙ ap (λ u. turn u (tail tetrahedron (twin (carry g tetrahedron d)))) here.leaves ∙ ap (turn (tail g d)) here.arrives in
        let b = between-is g (tail g d) (turn (tail g d) (tail g (twin d))) (carry tetrahedron g (dart_after tetrahedron drawn (carry g tetrahedron d))) there.is_dart leaves arrives in
        simple-dart g i t.simple (first_dart g (tail g d) (turn (tail g d) (tail g (twin d)))) (carry tetrahedron g (dart_after tetrahedron drawn (carry g tetrahedron d))) b.0 there.is_dart
        (b.1 ∙ sym leaves) (b.2 ∙ sym arrives)
