use Rattle.std.proofs.Common.{◌∙◌, ◌<◌, true, slice_index, drop, arith}
use Rattle.std.proofs.lemmas.List.{length-set}
use Rattle.multigraph.specs.Graph.{other_end}
use Rattle.multigraph.proofs.OtherEnd.{other_end-in}
use Rattle.path_rotation.proofs.Threads.{walk-on, rest-none}
use Rattle.path_rotation.proofs.Marked.{met-begin, met-more, met-here, met-end}
use Rattle.path_rotation.proofs.inserting.mark_vertices.Goals as goal

pub loop-edge-init : goal.loop-edge-init
loop-edge-init c = record {
  walk = c.requires.walk;
  here = met-here c.args.on.now c.args.x (omega (arith, c.requires.each, c.requires.vertex));
  rest = met-begin c.args.g.now c.args.on.now c.args.x c.args.path.now (omega (arith, c.requires.each, c.requires.vertex));
}

pub other_end-at-requires-clause-edge : goal.other_end-at-requires-clause-edge
other_end-at-requires-clause-edge c = (walk-on c.args.g.now c.loop-edge.at c.args.path.now c.loop-edge.edge-index c.loop-edge-test.true c.loop-edge.invariant.walk).0.0

pub other_end-at-requires-clause-end : goal.other_end-at-requires-clause-end
other_end-at-requires-clause-end c = (walk-on c.args.g.now c.loop-edge.at c.args.path.now c.loop-edge.edge-index c.loop-edge-test.true c.loop-edge.invariant.walk).0.1

pub bounds-on-at-in-loop-edge : goal.bounds-on-at-in-loop-edge
bounds-on-at-in-loop-edge c =
    let g = c.args.g.now in
    let e = slice_index c.args.path.now c.loop-edge.edge-index in
    let w = walk-on g c.loop-edge.at c.args.path.now c.loop-edge.edge-index c.loop-edge-test.true c.loop-edge.invariant.walk in
    omega (arith, other_end-in g e c.loop-edge.at c.keeps_limits.ensures.graph w.0.0, c.other_end-at.ensures, c.requires.each, length-set c.args.on.now c.args.x true)

pub loop-edge-preserved : goal.loop-edge-preserved
loop-edge-preserved c =
    let g = c.args.g.now in
    let i = c.loop-edge.edge-index in
    let e = slice_index c.args.path.now i in
    let w = walk-on g c.loop-edge.at c.args.path.now i c.loop-edge-test.true c.loop-edge.invariant.walk in
    let l : other_end g e c.loop-edge.at < g.vertex_count = other_end-in g e c.loop-edge.at c.keeps_limits.ensures.graph w.0.0 in
    rw c.other_end-at.ensures
    (record {
      walk = w.1;
      here = met-here c.loop-edge.on (other_end g e c.loop-edge.at) (omega (arith, l, c.requires.each, length-set c.args.on.now c.args.x true));
      rest = λ v. met-more g c.loop-edge.on c.loop-edge.at c.args.path.now i c.loop-edge-test.true (omega (arith, l, c.requires.each, length-set c.args.on.now c.args.x true)) c.loop-edge.invariant.here v ∙ c.loop-edge.invariant.rest v;
    })

pub returns-clause-marked : goal.returns-clause-marked
returns-clause-marked c = λ v.
    met-end c.args.g.now c.loop-edge.on c.loop-edge.at (drop c.loop-edge.edge-index c.args.path.now) (rest-none c.args.path.now c.loop-edge.edge-index c.loop-edge-test.false) c.loop-edge.invariant.here v ∙ c.loop-edge.invariant.rest v
