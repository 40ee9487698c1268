use Rattle.std.proofs.Common.{◌≡◌}
use Rattle.multigraph.specs.Graph.{numbers_below}
use Rattle.skel_embed.proofs.members.count_up.Given as goal

abbrev pub invariant-loop-i : goal.invariant-loop-i
invariant-loop-i l = l.list.items ≡ numbers_below l.i
