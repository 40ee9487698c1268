-- A node's refusal is the first one, as the nodes before it have none; an accepted node's id stands behind theirs.
use Rattle.std.proofs.Common.{◌≡◌, ◌+◌, ◌<◌, List, length, map, arith, codes, ◌∙◌, Ok}
use Rattle.std.proofs.lemmas.List.{length-map}
use Rattle.std.proofs.lemmas.Result.{err_from_is_err_and}
use Rattle.gml_text.specs.Document.{Document}
use Rattle.gml_graph.specs.Answer.{id_among, each_below, node_id, node_ids}
use Rattle.gml_graph.proofs.Each.{Refuses-passed, each_below-length}
use Rattle.gml_graph.proofs.Steps.{node_ids-refused, node_ids-more, first_under-now}
use Rattle.gml_graph.proofs.nodes.node_ids.Goals as goal

pub returns-in_err-add_id : goal.returns-in_err-add_id
returns-in_err-add_id c =
    let p = err_from_is_err_and c.from_residual-in_err-add_id.result c.from_residual-in_err-add_id.ensures.1 in
    let docs : List Document = map (λ node. node.now) c.args.nodes.now in
    let within : c.loop-k.k < length docs = omega (arith, length-map c.args.nodes.now (λ node. node.now), c.loop-k-test.true) in
    rw (p.1, p.2)
    (Refuses-passed (id_among c.loop-k.ids c.loop-k.k c.first_under.result) (node_ids docs) c.in_err-add_id.field-0.0
    (λ e due. node_ids-refused docs c.loop-k.k c.loop-k.ids c.first_under.result e within c.loop-k.invariant.accepted
    (first_under-now (codes "id") c.args.nodes.now c.loop-k.k c.index-nodes-k.result _ c.first_under.result c.loop-k-test.true c.index-nodes-k.is c.as_slice.ensures c.first_under.ensures) due)
    c.in_err-add_id.ensures)

pub loop-k-preserved : goal.loop-k-preserved
loop-k-preserved c =
    let docs : List Document = map (λ node. node.now) c.args.nodes.now in
    let within : c.loop-k.k < length docs = omega (arith, length-map c.args.nodes.now (λ node. node.now), c.loop-k-test.true) in
    let accepted : each_below (c.loop-k.k + 1) (node_id docs) ≡ Ok c.add_id.new.ids =
    node_ids-more docs c.loop-k.k c.loop-k.ids c.first_under.result (omega arith) c.loop-k.invariant.accepted
    (first_under-now (codes "id") c.args.nodes.now c.loop-k.k c.index-nodes-k.result _ c.first_under.result c.loop-k-test.true c.index-nodes-k.is c.as_slice.ensures c.first_under.ensures)
    ∙ c.in_ok-add_id.ensures in
    record { accepted = accepted; count = each_below-length (node_id docs) (c.loop-k.k + 1) c.add_id.new.ids accepted }
