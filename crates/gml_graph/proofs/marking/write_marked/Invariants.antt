-- What is written, and the lines of the pairs to come with the first graph marked unless it has been found, are the text of the marked
-- document.
use Rattle.std.proofs.Common.{◌≡◌, ◌++◌, drop, map}
use Rattle.gml_text.specs.Layout.{lines, written}
use Rattle.gml_text.specs.Pairs.{document_of}
use Rattle.gml_graph.specs.Marked.{marked, marked_unless}
use Rattle.gml_graph.proofs.marking.write_marked.Given as goal

abbrev pub invariant-loop-pair : goal.invariant-loop-pair
invariant-loop-pair l =
    l.out.items ++ lines 0 (marked_unless l.found (map (λ text. text.items) l.texts) (document_of (drop l.pair-index l.pair-items)))
    ≡ written (marked (map (λ text. text.items) l.texts) l.d)
