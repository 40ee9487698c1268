use Rattle.std.proofs.Common.{◌<◌, arith}
use Rattle.contract_obstruct.specs.Crossing.{side_of}
use Rattle.contract_obstruct.specs.Triple.{tip}
use Rattle.contract_obstruct.proofs.LiftedWalks.{side-walk, back-walk}
use Rattle.contract_obstruct.proofs.triple.triple_paths.Goals as goal

pub side-requires-clause-walk : goal.side-requires-clause-walk
side-requires-clause-walk c =
    let level = c.args.level.now in
    let r = c.args.round.now in
    let l : 7 < 10 = omega arith in
    side-walk level c.args.h.now c.args.next.now r.c.first r.b c.tip-at_c.result c.tip-at_b.result (tip level r.c) (tip level r.b) c.tip-at_c.ensures c.tip-at_b.ensures
    (c.requires.is.are_paths 7 l).walk

pub side-requires-2-clause-walk : goal.side-requires-2-clause-walk
side-requires-2-clause-walk c =
    let level = c.args.level.now in
    let r = c.args.round.now in
    let l : 8 < 10 = omega arith in
    side-walk level c.args.h.now c.args.next.now r.a.first r.c c.tip-at_a.result c.tip-at_c.result (tip level r.a) (tip level r.c) c.tip-at_a.ensures c.tip-at_c.ensures
    (back-walk level.graph (tip level r.a) (side_of level c.args.h.now c.args.next.now r.a.first r.c (tip level r.a) (tip level r.c)) (tip level r.c) (c.requires.is.are_paths 8 l))

pub side-requires-3-clause-walk : goal.side-requires-3-clause-walk
side-requires-3-clause-walk c =
    let level = c.args.level.now in
    let r = c.args.round.now in
    let l : 9 < 10 = omega arith in
    side-walk level c.args.h.now c.args.next.now r.b.first r.a c.tip-at_b.result c.tip-at_a.result (tip level r.b) (tip level r.a) c.tip-at_b.ensures c.tip-at_a.ensures
    (c.requires.is.are_paths 9 l).walk
