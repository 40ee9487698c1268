use Rattle.spqr_tree.proofs.merging.Merging.look.Given as goal

abbrev pub ghost-is_absorbed : goal.ghost-is_absorbed
ghost-is_absorbed g a = g.comps

abbrev pub ghost-absorb : goal.ghost-absorb
ghost-absorb g a = g.comps
