use Rattle.spqr_tree.proofs.merging.Merging.begin.Given as goal

abbrev pub ghost-start : goal.ghost-start
ghost-start g a = g.comps
