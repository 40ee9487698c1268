use Rattle.std.proofs.Common.{◌≡◌, ℕ, ◌<◌, subst}
use Rattle.multigraph.specs.Graph.{Multigraph}
use Rattle.rotations.specs.Rotation.{order_at, IsRotationSystem}
use Rattle.rotations.specs.Given.{given_order}
use Rattle.rotations.proofs.PartEdges.{order-outer}
use Rattle.rotations.proofs.system.Rotation.from_part.Goals as goal

-- the orders, in the numbers of the whole graph, are those that are given
pub returns-clause-orders : goal.returns-clause-orders
returns-clause-orders c = λ i l.
    order-outer c.args.p.now c.graph.ensures.numbered c.args.lists.now c.in_ok-inner.inner c.in_ok-inner.ensures i (order_at c.in_ok-r.r i) l (c.in_ok-check_part.ensures.arranged.arranged i l)
    ((subst (λ (g : Multigraph). (v : ℕ) → v < g.vertex_count → order_at c.in_ok-r.r v ≡ given_order g c.in_ok-inner.inner v) c.graph.ensures.value c.in_ok-r.ensures.orders) i l)

-- they make a rotation system of the part
pub returns-clause-system : goal.returns-clause-system
returns-clause-system c = subst (λ (g : Multigraph). IsRotationSystem g c.in_ok-r.r) c.graph.ensures.value c.in_ok-r.ensures.system
