use Rattle.std.proofs.Common.{sym, ap, ◌∙◌}
use Rattle.multigraph.specs.Part.{GraphPart}
use Rattle.spqr_session.specs.Embedded.{BlockView}
use Rattle.spqr_session.proofs.BoardSteps.{replaced-right, view-part}
use Rattle.spqr_session.proofs.embedded.EmbeddedBlock.replace.Goals as goal

pub invariant_of-self : goal.invariant_of-self
invariant_of-self c =
    let part = c.self.inside.part in
    let outcome = c.self.inside.outcome in
    replaced-right part outcome c.args.plane c.self.invariant c.belongs.ensures
    (c.requires.graph ∙ ap (λ (v : BlockView). v.tree.part.graph) (sym c.self.view_is) ∙ ap (λ (p : GraphPart). p.graph) (view-part part outcome))
    (c.requires.tree ∙ ap (λ (v : BlockView). v.tree.nodes) (sym c.self.view_is))
