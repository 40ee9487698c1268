use Rattle.spqr_tree.proofs.merging.Merging.add_group.Given as goal

abbrev pub ghost-begin : goal.ghost-begin
ghost-begin g a = g.comps

abbrev pub ghost-explore : goal.ghost-explore
ghost-explore g a = g.comps
