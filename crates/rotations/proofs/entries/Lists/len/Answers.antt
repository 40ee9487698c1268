use Rattle.std.proofs.Common.{ap, length, arith}
use Rattle.rotations.proofs.Zipped.{zipped-length}
use Rattle.rotations.proofs.entries.Lists.len.Goals as goal

pub returns-clause-value : goal.returns-clause-value
returns-clause-value c = omega (arith, c.len.ensures, c.self.inside.vertices.ok.0, zipped-length c.self.inside.vertices.items c.self.inside.lists c.self.invariant.1, ap length c.self.view_is)
