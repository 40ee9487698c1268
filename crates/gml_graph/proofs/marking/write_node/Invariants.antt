-- What is written, and the lines of the pairs to come with the text unless it has been put, are those of the node with the text.
use Rattle.std.proofs.Common.{◌≡◌, ◌++◌, drop}
use Rattle.gml_text.specs.Layout.{lines}
use Rattle.gml_text.specs.Pairs.{document_of}
use Rattle.gml_graph.specs.Start.{start_key}
use Rattle.gml_graph.specs.Marked.{put_first, put_unless}
use Rattle.gml_graph.proofs.marking.write_node.Given as goal

abbrev pub invariant-loop-pair : goal.invariant-loop-pair
invariant-loop-pair l =
    l.out.items ++ lines 2 (put_unless l.put l.text (document_of (drop l.pair-index l.node)))
    ≡ l.fn.out.items ++ lines 2 (put_first start_key l.text (document_of l.node))
