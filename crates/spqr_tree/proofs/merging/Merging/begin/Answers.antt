use Rattle.std.proofs.Common.{sym, subst}
use Rattle.spqr_tree.specs.Merging.{IsMerging}
use Rattle.spqr_tree.proofs.MergingGroups.{started-merges}
use Rattle.spqr_tree.proofs.merging.Merging.begin.Goals as goal

pub returns-clause-merging : goal.returns-clause-merging
returns-clause-merging g c = subst (λ k. IsMerging g.comps k c.start.new.self) (sym c.start.ensures.kind) (started-merges g.comps c.requires.0 c.args.self.now c.requires.1.0 c.requires.1.1.0 c.args.c c.requires.1.1.1.0 c.requires.1.1.1.1 c.start.new.self c.start.ensures.started)
