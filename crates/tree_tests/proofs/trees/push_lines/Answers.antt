use Rattle.std.proofs.Common.{◌<◌, ℕ, subst}
use Rattle.spqr_script.proofs.PartNodes.{node-of_part}
use Rattle.tree_tests.proofs.trees.push_lines.Goals as goal

pub node_line-requires-clause-within : goal.node_line-requires-clause-within
node_line-requires-clause-within c =
    node-of_part c.args.part.now c.args.tree.now c.loop-k.k c.requires.graph c.requires.nodes (subst (λ (n : ℕ). c.loop-k.k < n) c.node_count-k-end.ensures c.loop-k-test.true)
