use Rattle.tree_tests.proofs.palm_trees.counting_changes_no_palm_tree.Given as goal

abbrev pub ghosts-grow_counted : goal.ghosts-grow_counted
ghosts-grow_counted a a' = record { name = a'.blank.name; parts = a'.blank.parts }
