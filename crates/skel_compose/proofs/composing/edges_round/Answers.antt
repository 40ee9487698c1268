use Rattle.std.proofs.Common.{◌≡◌, ℕ, true, List, length, get_or, sym, ap, subst, arith}
use Rattle.permutations.specs.Cyclic.{successor}
use Rattle.permutations.specs.Members.{is_member}
use Rattle.permutations.proofs.Successor.{successor-member}
use Rattle.multigraph.specs.Graph.{incident_edges}
use Rattle.rotations.specs.Rotation.{order_at}
use Rattle.skeletons.proofs.Places.{family-followed}
use Rattle.skel_compose.proofs.Rounds.{some-edge, round-start, round-member, round-more, images-end}
use Rattle.skel_compose.proofs.Walk.{order-edge_at}
use Rattle.skel_compose.proofs.composing.edges_round.Goals as goal

pub bounds-incident-0 : goal.bounds-incident-0
bounds-incident-0 c = omega (arith, ap length c.incident.ensures.value, some-edge c.args.g.now c.args.v c.requires.block.block c.requires.vertex)

-- the first edge
pub loop-turn-init : goal.loop-turn-init
loop-turn-init c = λ family t r s f. (
  round-start c.args.g.now r s c.args.v (get_or c.incident.result.now 0 0) c.clear.new.self.items c.requires.vertex c.clear.ensures.items (ap (λ (z : List ℕ). get_or z 0 0) c.incident.ensures.value),
  round-member c.args.g.now r s c.args.v (get_or c.incident.result.now 0 0) c.requires.vertex (ap (λ (z : List ℕ). get_or z 0 0) c.incident.ensures.value) (some-edge c.args.g.now c.args.v c.requires.block.block c.requires.vertex),
)

pub edge_behind-e-requires-clause-edge : goal.edge_behind-e-requires-clause-edge
edge_behind-e-requires-clause-edge c = let q = c.requires.family in let w = family-followed c.args.g.now c.args.tree.now q.0 c.requires.block q.1.systems in (order-edge_at c.args.g.now w.0 c.args.v c.loop-turn.e w.1 c.requires.vertex (c.loop-turn.invariant q.0 q.1 w.0 w.1 w.2).1).0

pub edge_behind-e-requires-clause-end : goal.edge_behind-e-requires-clause-end
edge_behind-e-requires-clause-end c = let q = c.requires.family in let w = family-followed c.args.g.now c.args.tree.now q.0 c.requires.block q.1.systems in (order-edge_at c.args.g.now w.0 c.args.v c.loop-turn.e w.1 c.requires.vertex (c.loop-turn.invariant q.0 q.1 w.0 w.1 w.2).1).1

-- one edge more
pub loop-turn-preserved : goal.loop-turn-preserved
loop-turn-preserved c = λ family t r s f. (
  round-more (successor (order_at r c.args.v)) c.loop-turn.edges.items (order_at r c.args.v) c.push.new.self.items (length (incident_edges c.args.g.now c.args.v)) c.loop-turn._turn c.loop-turn.e c.edge_behind-e.result
      c.in_ok-push.ensures.items (c.edge_behind-e.ensures family t r s f) (omega (arith, c.loop-turn-test.true, c.degree-turn-end.ensures)) (c.loop-turn.invariant family t r s f).0,
  subst (λ z. is_member z (order_at r c.args.v) ≡ true) (sym (c.edge_behind-e.ensures family t r s f)) (successor-member (order_at r c.args.v) c.loop-turn.e (c.loop-turn.invariant family t r s f).1),
)

-- all edges
pub returns : goal.returns
returns c = λ family t r s f. images-end (successor (order_at r c.args.v)) c.loop-turn.edges.items (order_at r c.args.v) (length (incident_edges c.args.g.now c.args.v)) c.loop-turn._turn c.loop-turn.e
    (omega (arith, c.loop-turn-test.false, c.degree-turn-end.ensures, c.loop-turn.auto)) (c.loop-turn.invariant family t r s f).0
