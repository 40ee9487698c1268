use Rattle.std.proofs.Common.{◌≡◌, take}
use Rattle.contractions.specs.Contracted.{contracted_vertex}
use Rattle.planarity.specs.Lift.{lifted_branch}
use Rattle.contract_obstruct.specs.Lifting.{with_number}
use Rattle.contract_obstruct.proofs.lifting.lifted_branch.Given as goal

abbrev pub invariant-loop-v : goal.invariant-loop-v
invariant-loop-v l = l.lifted.items ≡ lifted_branch (contracted_vertex l.level.x l.level.y l.level.x) l.foot (with_number l.level.y) (take l.v-index l.branch)
