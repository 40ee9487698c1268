use Rattle.std.proofs.Common.{◌≡◌, filter}
use Rattle.multigraph.specs.Graph.{numbers_below}
use Rattle.multigraph.specs.Marks.{is_marked}
use Rattle.path_embed.proofs.marks.marked_below.Given as goal

abbrev pub invariant-loop-number : goal.invariant-loop-number
invariant-loop-number l = l.list.items ≡ filter (is_marked l.marks) (numbers_below l.number)
