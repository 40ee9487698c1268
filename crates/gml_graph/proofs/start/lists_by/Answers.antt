-- A vertex's refusal is the first one, as the vertices before it have none.
use Rattle.std.proofs.Common.{◌<◌, [], List, ℕ, length, map, arith}
use Rattle.std.proofs.lemmas.List.{length-map, get_or-map}
use Rattle.std.proofs.lemmas.Result.{err_from_is_err_and}
use Rattle.gml_graph.specs.Start.{lists_by}
use Rattle.gml_graph.proofs.Each.{Refuses-passed}
use Rattle.gml_graph.proofs.Starts.{lists_by-more, lists_by-refused}
use Rattle.gml_graph.proofs.start.lists_by.Goals as goal

pub returns-in_err-list_by : goal.returns-in_err-list_by
returns-in_err-list_by c =
    let p = err_from_is_err_and c.from_residual-in_err-list_by.result c.from_residual-in_err-list_by.ensures.1 in
    let texts : List (List ℕ) = map (λ text. text.now) c.args.texts.now in
    let within : c.loop-v.v < length texts = omega (arith, length-map c.args.texts.now (λ text. text.now), c.loop-v-test.true) in
    rw (p.1, p.2)
    (Refuses-passed _ (lists_by c.args.g.now texts) c.in_err-list_by.field-0.0
    (λ e due. lists_by-refused c.args.g.now texts c.loop-v.v c.loop-v.lists.items _ e within c.loop-v.invariant (get_or-map (λ text. text.now) c.args.texts.now c.loop-v.v _ [] c.loop-v-test.true) due)
    c.in_err-list_by.ensures)

pub loop-v-preserved : goal.loop-v-preserved
loop-v-preserved c =
    let texts : List (List ℕ) = map (λ text. text.now) c.args.texts.now in
    rw c.in_ok-push.ensures.items
    (lists_by-more c.args.g.now texts c.loop-v.v c.loop-v.lists.items _ c.in_ok-list_by.field-0 c.loop-v.invariant (get_or-map (λ text. text.now) c.args.texts.now c.loop-v.v _ [] c.loop-v-test.true) c.in_ok-list_by.ensures)
