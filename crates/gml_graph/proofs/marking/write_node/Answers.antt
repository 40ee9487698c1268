-- A pair is no deeper than the node; after the last the text is added where it has not been put.
use Rattle.std.proofs.Common.{List, ℕ, arith, ◌++◌}
use Rattle.std.proofs.lemmas.Result.{on_ok_weaker}
use Rattle.gml_text.specs.Layout.{lines}
use Rattle.gml_text.specs.Pairs.{document_of}
use Rattle.gml_text.proofs.Lines.{depth-pair}
use Rattle.gml_graph.specs.Start.{start_key}
use Rattle.gml_graph.specs.Marked.{put_first}
use Rattle.gml_graph.proofs.MarkedSteps.{text_added}
use Rattle.gml_graph.proofs.marking.write_node.Goals as goal

pub write_node_pair-requires : goal.write_node_pair-requires
write_node_pair-requires c = omega (arith, c.requires, depth-pair c.args.node.now c.loop-pair.pair-index c.pair-item.result c.loop-pair-test.true c.pair-item.is)

pub returns : goal.returns
returns c =
    let whole : List ℕ = c.args.out.now.items ++ lines 2 (put_first start_key c.args.text.now (document_of c.args.node.now)) in
    on_ok_weaker c.push_string.result
    (text_added 2 c.loop-pair.put c.start_key.result.now c.args.text.now c.args.node.now c.loop-pair.pair-index c.loop-pair.out.items c.push_string.new.out.items whole c.if-put.false c.loop-pair-test.false c.start_key.ensures c.loop-pair.invariant)
    c.push_string.ensures
