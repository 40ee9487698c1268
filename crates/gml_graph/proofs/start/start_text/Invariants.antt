-- No pair so far has the key, so the pairs to come decide.
use Rattle.std.proofs.Common.{◌≡◌, drop}
use Rattle.gml_text.specs.Pairs.{document_of}
use Rattle.gml_graph.specs.Start.{start_text}
use Rattle.gml_graph.proofs.start.start_text.Given as goal

abbrev pub invariant-loop-pair : goal.invariant-loop-pair
invariant-loop-pair l = start_text l.key (document_of l.pairs) ≡ start_text l.key (document_of (drop l.pair-index l.pairs))
