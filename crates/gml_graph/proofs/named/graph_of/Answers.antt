-- Two graph lists or more.
use Rattle.std.proofs.Common.{◌≤◌, List, map, length, arith, ap, sym, ◌∙◌}
use Rattle.std.proofs.lemmas.List.{length-map}
use Rattle.gml_text.specs.Document.{Document}
use Rattle.gml_graph.specs.Answer.{graph_among}
use Rattle.gml_graph.proofs.Behind.{graphs-many}
use Rattle.gml_graph.proofs.named.graph_of.Goals as goal

pub returns : goal.returns
returns c =
    let graphs : List Document = map (λ list. list.now) c.in_ok-graphs.graphs.items in
    let many : 2 ≤ length graphs = omega (arith, length-map c.in_ok-graphs.graphs.items (λ list. list.now), ap length c.as_slice.ensures.value, c.in-len2-up.len_at_least) in
    rw (sym c.pairs.ensures.pairs) (ap graph_among (sym c.in_ok-graphs.ensures) ∙ graphs-many graphs many)
