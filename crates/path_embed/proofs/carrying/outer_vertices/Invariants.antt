use Rattle.std.proofs.Common.{◌≡◌, take}
use Rattle.path_embed.proofs.carrying.outer_vertices.Given as goal

abbrev pub invariant-loop-v : goal.invariant-loop-v
invariant-loop-v l = l.vertices.items ≡ take l.v l.part.vertices
