use Rattle.std.proofs.Common.{◌≡◌, ◌++◌, map}
use Rattle.std.specs.List.{concat}
use Rattle.multigraph.specs.Graph.{numbers_below}
use Rattle.spqr_script.specs.Node.{node_text}
use Rattle.spqr_session.proofs.head.push_nodes.Given as goal

abbrev pub invariant-loop-k : goal.invariant-loop-k
invariant-loop-k l = l.out.items ≡ l.fn.out.items ++ concat (map (node_text l.part l.tree) (numbers_below l.k))
