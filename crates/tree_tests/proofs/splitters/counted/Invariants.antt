use Rattle.tree_tests.proofs.splitters.counted.Given as goal

abbrev pub ghosts-split_counted : goal.ghosts-split_counted
ghosts-split_counted a = record { name = a.blank.name; parts = a.blank.parts }
