use Rattle.std.proofs.Common.{◌≡◌, ◌==◌, filter, slice_index}
use Rattle.multigraph.specs.Graph.{numbers_below}
use Rattle.whole_embed.proofs.component.vertices_of.Given as goal

abbrev pub invariant-loop-v : goal.invariant-loop-v
invariant-loop-v l = l.list.items ≡ filter (λ v. slice_index l.blocks.components v == l.c) (numbers_below l.v)
