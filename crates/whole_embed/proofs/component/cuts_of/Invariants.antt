use Rattle.std.proofs.Common.{◌≡◌, ◌==◌, filter, take, slice_index}
use Rattle.whole_embed.proofs.component.cuts_of.Given as goal

abbrev pub invariant-loop-v : goal.invariant-loop-v
invariant-loop-v l = l.list.items ≡ filter (λ v. slice_index l.blocks.components v == l.c) (take l.v-index l.blocks.cut_vertices)
