use Rattle.std.proofs.Common.{sym}
use Rattle.minimal_graphs.proofs.ReadOff.{far-edge}
use Rattle.minimal_graphs.proofs.reading.is_far.Goals as goal

pub returns-in-Some : goal.returns-in-Some
returns-in-Some c = sym (far-edge c.args.g.now c.args.v c.in-Some.field-0 c.if-v-eq0.false c.in-Some.ensures.0 c.in-Some.ensures.1)
