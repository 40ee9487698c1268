use Rattle.embed_tests.specs.Wholes.{ArePlaneMembers}
use Rattle.embed_tests.proofs.whole_graphs.members_of.Given as goal

abbrev pub invariant-loop-b : goal.invariant-loop-b
invariant-loop-b l = ArePlaneMembers l.graph l.blocks.blocks l.b l.all.items
