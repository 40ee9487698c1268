-- The places of source and target are those in the list of ids.
use Rattle.std.proofs.Common.{rules, position, FitsSigned, w64, ap, ◌∙◌}
use Rattle.std.proofs.lemmas.Int.{to_z-of_z}
use Rattle.std.specs.Ordering.{int_eq}
use Rattle.gml_graph.proofs.Steps.{ends_among-found}
use Rattle.gml_graph.proofs.edges.ends_among.Goals as goal

pub returns-in-Whole-Whole : goal.returns-in-Whole-Whole
returns-in-Whole-Whole c =
    let source : FitsSigned w64 c.in-Whole-Whole.source = search rules in
    let target : FitsSigned w64 c.in-Whole-Whole.target = search rules in
    rw (c.in-Whole-Whole.is-0, c.in-Whole-Whole.is-1)
    (ends_among-found c.args.ids.now c.args.k c.in-Whole-Whole.source c.in-Whole-Whole.target c.position.result c.position-in-Whole-Whole.result c.ends_between.result c.ends_between.ensures
    (c.position.ensures ∙ ap (λ id. position (int_eq id) c.args.ids.now) (to_z-of_z w64 c.in-Whole-Whole.source source))
    (c.position-in-Whole-Whole.ensures ∙ ap (λ id. position (int_eq id) c.args.ids.now) (to_z-of_z w64 c.in-Whole-Whole.target target)))
