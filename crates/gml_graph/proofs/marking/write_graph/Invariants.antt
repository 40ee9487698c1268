-- What is written, and the lines of the pairs to come with the texts that are left, are those of the graph with the texts.
use Rattle.std.proofs.Common.{◌≡◌, ◌++◌, drop, map}
use Rattle.std.specs.Slice.Iter.{iter_rest}
use Rattle.gml_text.specs.Layout.{lines}
use Rattle.gml_text.specs.Pairs.{document_of}
use Rattle.gml_graph.specs.Marked.{mark_nodes}
use Rattle.gml_graph.proofs.marking.write_graph.Given as goal

abbrev pub invariant-loop-pair : goal.invariant-loop-pair
invariant-loop-pair l =
    l.out.items ++ lines 1 (mark_nodes (map (λ text. text.items) (iter_rest l.left)) (document_of (drop l.pair-index l.graph)))
    ≡ l.fn.out.items ++ lines 1 (mark_nodes (map (λ text. text.items) l.texts) (document_of l.graph))
