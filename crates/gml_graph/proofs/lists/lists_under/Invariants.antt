-- The lists found so far and those of the pairs to come are the lists of all pairs.
use Rattle.std.proofs.Common.{◌≡◌, ◌++◌, drop, map}
use Rattle.gml_text.specs.Pairs.{document_of}
use Rattle.gml_graph.specs.Lists.{lists_under}
use Rattle.gml_graph.proofs.lists.lists_under.Given as goal

abbrev pub invariant-loop-pair : goal.invariant-loop-pair
invariant-loop-pair l = map (λ list. list.now) l.found.items ++ lists_under l.key (document_of (drop l.pair-index l.pairs)) ≡ lists_under l.key (document_of l.pairs)
