use Rattle.minimal_graphs.proofs.Sides.{sides-branch, first-long, pair-joined}
use Rattle.minimal_graphs.proofs.sides_are_branches.Goals as goal

pub returns : goal.returns
returns c = λ g ok kind branch paths w some.
    (sides-branch g ok kind branch paths w some, first-long g ok kind branch paths w some, pair-joined g ok kind branch paths w)
