use Rattle.spqr_tree.proofs.arranging.groups_of_block.Given as goal

abbrev pub ghost-groups_of : goal.ghost-groups_of
ghost-groups_of a = a.list
