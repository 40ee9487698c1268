-- There is one text for each node, and so for each vertex; accepted lists arrange the edges.
use Rattle.std.proofs.Common.{◌≡◌, List, ℕ, length, map, Some, Ok, arith, ap, sym, ◌∙◌}
use Rattle.std.proofs.lemmas.List.{length-map}
use Rattle.gml_text.specs.Document.{Document}
use Rattle.gml_graph.specs.Start.{start_texts, lists_by}
use Rattle.gml_graph.proofs.Starts.{start_texts-long, start-arranges, start-given}
use Rattle.gml_graph.proofs.start.start_of.Goals as goal

pub lists_by-requires : goal.lists_by-requires
lists_by-requires c =
    let nodes : List Document = map (λ node. node.now) c.args.nodes.now in
    let texts : List (List ℕ) = map (λ text. text.now) c.in-Some.texts.items in
    let same : Some texts ≡ start_texts nodes = rw c.in-Some.is at c.in_ok-texts.ensures in
    let long : length texts ≡ length nodes = start_texts-long nodes texts (sym same) in
    omega (arith, long, length-map c.args.nodes.now (λ node. node.now), length-map c.in-Some.texts.items (λ text. text.now), c.requires, ap length c.as_slice.ensures.value)

pub returns-in_ok-lists_by-in-Some-clause-arranged : goal.returns-in_ok-lists_by-in-Some-clause-arranged
returns-in_ok-lists_by-in-Some-clause-arranged c =
    let nodes : List Document = map (λ node. node.now) c.args.nodes.now in
    let texts : List (List ℕ) = map (λ text. text.now) c.in-Some.texts.items in
    let same : Some texts ≡ start_texts nodes = rw c.in-Some.is at c.in_ok-texts.ensures in
    let listed : lists_by c.args.g.now texts ≡ Ok c.in_ok-lists_by-in-Some.field-0 = rw c.as_slice.ensures.value at c.in_ok-lists_by-in-Some.ensures in
    start-arranges c.args.g.now nodes (Some c.in_ok-lists_by-in-Some.field-0) (length-map c.args.nodes.now (λ node. node.now) ∙ c.requires) (start-given c.args.g.now nodes texts c.in_ok-lists_by-in-Some.field-0 same listed)
