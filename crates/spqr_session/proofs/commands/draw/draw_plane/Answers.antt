use Rattle.std.proofs.Common.{◌≤◌, sym, subst}
use Rattle.multigraph.specs.Graph.{Multigraph}
use Rattle.graph_theory.specs.Connected.{IsConnected}
use Rattle.spqr_session.specs.Embedded.{view_at}
use Rattle.spqr_session.proofs.DrawCarried.{seen-connected, seen-two, found-pair, pair-within}
use Rattle.spqr_session.proofs.PlanarBlocks.{part-there, plane-there}
use Rattle.spqr_session.proofs.commands.draw.draw_plane.Goals as goal

pub draw-requires-clause-connected : goal.draw-requires-clause-connected
draw-requires-clause-connected c =
    let v = view_at c.requires.0 c.args.b in
    let p = c.args.plane.now in
    let seen = plane-there c.requires.0 c.args.b c.args.part.now p c.requires.1 in
    subst IsConnected (sym c.graph.ensures.value) (seen-connected v p seen)

pub draw-requires-clause-two : goal.draw-requires-clause-two
draw-requires-clause-two c =
    let v = view_at c.requires.0 c.args.b in
    let p = c.args.plane.now in
    let seen = plane-there c.requires.0 c.args.b c.args.part.now p c.requires.1 in
    subst (λ (g : Multigraph). 2 ≤ g.vertex_count) (sym c.graph.ensures.value) (seen-two v p seen)

pub edge-requires : goal.edge-requires
edge-requires c =
    let v = view_at c.requires.0 c.args.b in
    let p = c.args.plane.now in
    let seen = plane-there c.requires.0 c.args.b c.args.part.now p c.requires.1 in
    let f = c.in-Err-Parallel in
    (pair-within v p seen c.args.part.now f.first f.second (part-there c.requires.0 c.args.b c.args.part.now p c.requires.1) (found-pair v p seen c.graph.result.now f.field-0 f.first f.second c.graph.ensures.value f.field-0-is f.ensures.fault)).0

pub edge-requires-in-Err-Parallel : goal.edge-requires-in-Err-Parallel
edge-requires-in-Err-Parallel c =
    let v = view_at c.requires.0 c.args.b in
    let p = c.args.plane.now in
    let seen = plane-there c.requires.0 c.args.b c.args.part.now p c.requires.1 in
    let f = c.in-Err-Parallel in
    (pair-within v p seen c.args.part.now f.first f.second (part-there c.requires.0 c.args.b c.args.part.now p c.requires.1) (found-pair v p seen c.graph.result.now f.field-0 f.first f.second c.graph.ensures.value f.field-0-is f.ensures.fault)).1
