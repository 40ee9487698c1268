use Rattle.std.proofs.Common.{◌≡◌, take}
use Rattle.kuratowski.specs.Routes.{lifted_branches}
use Rattle.kuratowski.proofs.lifting.lift_branches.Given as goal

abbrev pub invariant-loop-inner_vertex : goal.invariant-loop-inner_vertex
invariant-loop-inner_vertex l = l.lifted.items ≡ lifted_branches l.vertex (take l.inner_vertex-index l.branch)
