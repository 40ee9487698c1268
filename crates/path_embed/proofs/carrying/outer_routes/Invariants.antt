use Rattle.std.proofs.Common.{◌≡◌, take}
use Rattle.path_embed.specs.Carrying.{edge_routes}
use Rattle.path_embed.proofs.carrying.outer_routes.Given as goal

abbrev pub invariant-loop-e : goal.invariant-loop-e
invariant-loop-e l = l.routes.items ≡ edge_routes (take l.e l.part.edges)
