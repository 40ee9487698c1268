use Rattle.std.proofs.Common.{◌≡◌, ◌<◌, ◌^◌}
use Rattle.skeletons.specs.Lists.{count_below}
use Rattle.skel_embed.specs.Block.{lock_at}
use Rattle.embed_enum.proofs.counting.members.Given as goal

abbrev pub invariant-loop-k : goal.invariant-loop-k
invariant-loop-k l = record { so_far : l.product ≡ count_below l.p.tree (lock_at l.p.locks) l.k; fits : l.product < 2 ^ 128 }
