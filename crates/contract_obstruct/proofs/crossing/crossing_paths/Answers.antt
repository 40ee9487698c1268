use Rattle.std.proofs.Common.{◌<◌, arith}
use Rattle.multigraph.specs.Graph.{other_end}
use Rattle.contractions.specs.Level.{edge_before}
use Rattle.contract_obstruct.specs.Crossing.{near_end, side_of}
use Rattle.contract_obstruct.proofs.LiftedWalks.{side-walk, back-walk}
use Rattle.contract_obstruct.proofs.crossing.crossing_paths.Goals as goal

pub side-requires-clause-walk : goal.side-requires-clause-walk
side-requires-clause-walk c =
    let level = c.args.level.now in
    let r = c.args.sectors.now in
    let l : 4 < 9 = omega arith in
    side-walk level c.args.h.now c.args.next.now r.far.first r.right c.args.at.now.far c.args.at.now.right (other_end level.graph (edge_before level r.far.first) level.y) (other_end level.graph (edge_before level r.right.first) level.x)
    c.requires.feet.far
    c.requires.feet.right
    (c.requires.closing.subdivision.are_paths 4 l).walk

pub side-requires-2-clause-walk : goal.side-requires-2-clause-walk
side-requires-2-clause-walk c =
    let level = c.args.level.now in
    let r = c.args.sectors.now in
    let l : 5 < 9 = omega arith in
    side-walk level c.args.h.now c.args.next.now r.left.first r.far c.args.at.now.left c.args.at.now.far (other_end level.graph (edge_before level r.left.first) level.x) (other_end level.graph (edge_before level r.far.first) level.y)
    c.requires.feet.left
    c.requires.feet.far
    (back-walk level.graph (other_end level.graph (edge_before level r.left.first) level.x) (side_of level c.args.h.now c.args.next.now r.left.first r.far (other_end level.graph (edge_before level r.left.first) level.x) (other_end level.graph (edge_before level r.far.first) level.y)) (other_end level.graph (edge_before level r.far.first) level.y) (c.requires.closing.subdivision.are_paths 5 l))

pub side-requires-3-clause-walk : goal.side-requires-3-clause-walk
side-requires-3-clause-walk c =
    let level = c.args.level.now in
    let r = c.args.sectors.now in
    let l : 7 < 9 = omega arith in
    side-walk level c.args.h.now c.args.next.now r.right.first r.near c.args.at.now.right c.args.at.now.near (other_end level.graph (edge_before level r.right.first) level.x) (near_end level.graph level.x level.y (edge_before level r.near.first))
    c.requires.feet.right
    c.requires.feet.near
    (back-walk level.graph (other_end level.graph (edge_before level r.right.first) level.x) (side_of level c.args.h.now c.args.next.now r.right.first r.near (other_end level.graph (edge_before level r.right.first) level.x) (near_end level.graph level.x level.y (edge_before level r.near.first))) (near_end level.graph level.x level.y (edge_before level r.near.first)) (c.requires.closing.subdivision.are_paths 7 l))

pub side-requires-4-clause-walk : goal.side-requires-4-clause-walk
side-requires-4-clause-walk c =
    let level = c.args.level.now in
    let r = c.args.sectors.now in
    let l : 8 < 9 = omega arith in
    side-walk level c.args.h.now c.args.next.now r.near.first r.left c.args.at.now.near c.args.at.now.left (near_end level.graph level.x level.y (edge_before level r.near.first)) (other_end level.graph (edge_before level r.left.first) level.x)
    c.requires.feet.near
    c.requires.feet.left
    (c.requires.closing.subdivision.are_paths 8 l).walk
