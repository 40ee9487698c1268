use Rattle.std.proofs.Common.{length, get_or, sym, ap, subst, arith}
use Rattle.permutations.proofs.Arrangements.{contains-from_member}
use Rattle.multigraph.specs.Graph.{incident_edges}
use Rattle.rotations.specs.Rotation.{order_at}
use Rattle.faces.specs.Euler.{IsPlaneSystem}
use Rattle.faces.proofs.MapMirror.{mirror-system, mirror-image-plane}
use Rattle.planarity.specs.Embedding.{IsEmbedding}
use Rattle.graph_theory.proofs.Triconnected.{four-vertices}
use Rattle.skel_embed.specs.Fan.{TurnsRight}
use Rattle.skel_embed.proofs.Mirrors.{three, first-member, first-of, own-right, mirror-right}
use Rattle.skel_embed.proofs.systems.first_embedding.Goals as goal

pub bounds-incident-0 : goal.bounds-incident-0
bounds-incident-0 c c' = omega (arith, ap length c'.incident.ensures.value, three c'.args.g.now c'.incident.ensures.graph c'.requires)

pub succ-requires : goal.succ-requires
succ-requires c c' = contains-from_member (order_at c'.in-Plane.r 0) (get_or c'.incident.result.now 0 0) (first-member c'.args.g.now c'.incident.ensures.graph c'.requires c'.in-Plane.r (subst (IsEmbedding c'.args.g.now) c'.in-Plane.is (c'.in_ok-s.ensures {u = tt})).system c'.incident.result.now c'.incident.ensures.value)

pub pred-requires : goal.pred-requires
pred-requires c c' = contains-from_member (order_at c'.in-Plane.r 0) (get_or c'.incident.result.now 0 0) (first-member c'.args.g.now c'.incident.ensures.graph c'.requires c'.in-Plane.r (subst (IsEmbedding c'.args.g.now) c'.in-Plane.is (c'.in_ok-s.ensures {u = tt})).system c'.incident.result.now c'.incident.ensures.value)

pub returns-then-succ-pred-clause-right : goal.returns-then-succ-pred-clause-right
returns-then-succ-pred-clause-right c c' = own-right c'.args.g.now c'.in-Plane.r (subst (IsEmbedding c'.args.g.now) c'.in-Plane.is (c'.in_ok-s.ensures {u = tt})).system (omega (arith, four-vertices c'.args.g.now c'.requires)) (get_or c'.incident.result.now 0 0) (first-of (incident_edges c'.args.g.now 0) c'.incident.result.now c'.incident.ensures.value)
    (omega (arith, c'.if-succ-pred.true, c'.succ.ensures, c'.pred.ensures))

pub returns-else-succ-pred-clause-embedding : goal.returns-else-succ-pred-clause-embedding
returns-else-succ-pred-clause-embedding c c' =
    let e = (subst (IsEmbedding c'.args.g.now) c'.in-Plane.is (c'.in_ok-s.ensures {u = tt})) in
    subst (IsPlaneSystem c'.args.g.now) (sym c'.mirror.ensures)
    (record { system = mirror-system c'.args.g.now c'.in-Plane.r e.system; plane = mirror-image-plane c'.args.g.now c'.in-Plane.r c'.incident.ensures.graph e.system e.plane })

pub returns-else-succ-pred-clause-right : goal.returns-else-succ-pred-clause-right
returns-else-succ-pred-clause-right c c' = subst TurnsRight (sym c'.mirror.ensures)
    (mirror-right c'.args.g.now c'.in-Plane.r (subst (IsEmbedding c'.args.g.now) c'.in-Plane.is (c'.in_ok-s.ensures {u = tt})).system (omega (arith, four-vertices c'.args.g.now c'.requires)) (get_or c'.incident.result.now 0 0) (first-of (incident_edges c'.args.g.now 0) c'.incident.result.now c'.incident.ensures.value)
    (omega (arith, c'.if-succ-pred.false, c'.succ.ensures, c'.pred.ensures)))
