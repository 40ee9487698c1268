use Rattle.palm_tree.proofs.structure.PalmTree.grow.Given as goal

abbrev pub ghosts-grow_from : goal.ghosts-grow_from
ghosts-grow_from a = record { name = a.blank.name; parts = a.blank.parts }
