-- No pair so far has the key, so the pairs to come decide.
use Rattle.std.proofs.Common.{◌≡◌, drop}
use Rattle.gml_text.specs.Pairs.{document_of}
use Rattle.gml_graph.specs.Lists.{first_under}
use Rattle.gml_graph.proofs.lists.first_under.Given as goal

abbrev pub invariant-loop-pair : goal.invariant-loop-pair
invariant-loop-pair l = first_under l.key (document_of l.pairs) ≡ first_under l.key (document_of (drop l.pair-index l.pairs))
