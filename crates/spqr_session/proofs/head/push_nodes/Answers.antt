use Rattle.std.proofs.Common.{◌≡◌, ◌<◌, ◌++◌, ℕ, map, sym, ap, ◌∙◌, append_assoc, subst}
use Rattle.std.specs.List.{concat}
use Rattle.multigraph.specs.Graph.{numbers_below}
use Rattle.spqr_script.specs.Node.{node_text}
use Rattle.spqr_session.proofs.Numbered.{below-more}
use Rattle.spqr_script.proofs.PartNodes.{node-of_part}
use Rattle.spqr_session.proofs.head.push_nodes.Goals as goal

pub push_node_line-requires-clause-within : goal.push_node_line-requires-clause-within
push_node_line-requires-clause-within c =
    node-of_part c.args.part.now c.args.tree.now c.loop-k.k c.requires.graph c.requires.nodes (subst (λ (n : ℕ). c.loop-k.k < n) c.node_count-k-end.ensures c.loop-k-test.true)

pub loop-k-preserved : goal.loop-k-preserved
loop-k-preserved c =
    let k = c.loop-k.k in
    let out = c.args.out.now.items in
    let f = node_text c.args.part.now c.args.tree.now in
    let line : c.push_node_line.new.out.items ≡ c.loop-k.out.items ++ f k = c.in_ok-push_node_line.ensures in
    line ∙ ap (λ l. l ++ f k) c.loop-k.invariant ∙ append_assoc out (concat (map f (numbers_below k))) (f k) ∙ ap (λ l. out ++ l) (sym (below-more f k))
