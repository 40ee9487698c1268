-- The lists of the vertices so far, without a refusal.
use Rattle.std.proofs.Common.{◌≡◌, map, slice_index_or, [], Ok}
use Rattle.gml_graph.specs.Each.{each_below}
use Rattle.gml_graph.specs.Start.{list_by}
use Rattle.gml_graph.proofs.start.lists_by.Given as goal

abbrev pub invariant-loop-v : goal.invariant-loop-v
invariant-loop-v l = each_below l.v (λ v. list_by l.g v (slice_index_or (map (λ text. text.now) l.texts) v [])) ≡ Ok l.lists.items
