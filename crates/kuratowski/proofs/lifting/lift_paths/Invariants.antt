use Rattle.std.proofs.Common.{◌≡◌, map}
use Rattle.multigraph.specs.Graph.{numbers_below}
use Rattle.kuratowski.specs.Routes.{lifted_path}
use Rattle.kuratowski.proofs.lifting.lift_paths.Given as goal

abbrev pub invariant-loop-k : goal.invariant-loop-k
invariant-loop-k l = l.lifted.items ≡ map (lifted_path l.inner l.routes l.fn.kind l.branch l.paths) (numbers_below l.k)
