use Rattle.std.proofs.Common.{refl, arith}
use Rattle.pair_split.proofs.Searching.{best-bridge}
use Rattle.pair_split.proofs.search.better_side.Goals as goal

pub returns-clause-best : goal.returns-clause-best
returns-clause-best c =
    best-bridge c.args.edges.now c.args.labels.now c.args.a c.args.b c.args.label c.args.bound (record { first = c.args.a; second = c.args.b; size = c.size_of_bridge-size.result; marks = c.in_ok-marks.marks })
    c.requires.edges.searchable c.requires.labelling c.requires.edges.names refl refl c.size_of_bridge-size.ensures (omega arith) (omega arith) c.in_ok-marks.ensures.marks c.in_ok-marks.ensures.number
