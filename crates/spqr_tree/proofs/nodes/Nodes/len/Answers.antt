use Rattle.std.proofs.Common.{length, ap, arith}
use Rattle.spqr_tree.proofs.NodeLists.{length-nodes}
use Rattle.spqr_tree.proofs.nodes.Nodes.len.Goals as goal

pub returns : goal.returns
returns c = omega (arith, c.len.ensures, c.self.inside.kinds.ok.0, length-nodes c.self.inside.kinds.items c.self.inside.vertices c.self.inside.items, ap length c.self.view_is)
