-- An edge's refusal is the first one, as the edges before it have none.
use Rattle.std.proofs.Common.{◌<◌, List, length, map, arith, codes, sym}
use Rattle.std.proofs.lemmas.List.{length-map}
use Rattle.std.proofs.lemmas.Result.{err_from_is_err_and}
use Rattle.gml_text.specs.Document.{Document}
use Rattle.gml_graph.specs.Answer.{edge_ends}
use Rattle.gml_graph.proofs.Each.{Refuses-due}
use Rattle.gml_graph.proofs.Steps.{edge_ends-refused, first_under-now}
use Rattle.gml_graph.proofs.edges.edge_ends.Goals as goal

pub returns-in_err-ends_among : goal.returns-in_err-ends_among
returns-in_err-ends_among c =
    let p = err_from_is_err_and c.from_residual-in_err-ends_among.result c.from_residual-in_err-ends_among.ensures.1 in
    let docs : List Document = map (λ edge. edge.now) c.args.edges.now in
    let within : c.loop-k.k < length docs = omega (arith, length-map c.args.edges.now (λ edge. edge.now), c.loop-k-test.true) in
    rw (p.1, p.2)
    (Refuses-due (edge_ends c.args.ids.now docs) c.in_err-ends_among.field-0.0
    (edge_ends-refused c.args.ids.now docs c.loop-k.k c.loop-k.ends.items c.first_under-source.result c.first_under-target.result c.in_err-ends_among.field-0.0 within c.loop-k.invariant
    (first_under-now (codes "source") c.args.edges.now c.loop-k.k c.index-edges-k.result _ c.first_under-source.result c.loop-k-test.true c.index-edges-k.is c.as_slice-pairs.ensures c.first_under-source.ensures)
    (first_under-now (codes "target") c.args.edges.now c.loop-k.k c.index-edges-k.result _ c.first_under-target.result c.loop-k-test.true c.index-edges-k.is c.as_slice-pairs.ensures c.first_under-target.ensures)
    (sym c.in_err-ends_among.ensures)))
