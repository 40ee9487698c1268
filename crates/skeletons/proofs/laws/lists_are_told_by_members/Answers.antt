use Rattle.skeletons.proofs.Before.{precedes-tested, kept-unique}
use Rattle.skeletons.proofs.Leading.{unlocked-full}
use Rattle.skeletons.proofs.laws.lists_are_told_by_members.Goals as goal

pub returns : goal.returns
returns c = record { tested = precedes-tested; unique = kept-unique; unlocked = unlocked-full }
