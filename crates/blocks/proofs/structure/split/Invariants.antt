use Rattle.blocks.proofs.structure.split.Given as goal

abbrev pub ghosts-split_from : goal.ghosts-split_from
ghosts-split_from a = record { name = a.blank.name; parts = a.blank.parts }
