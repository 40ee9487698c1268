use Rattle.std.proofs.Common.{List, ℕ, ◌∙◌, sym, subst}
use Rattle.multigraph.specs.Graph.{Multigraph}
use Rattle.kuratowski.specs.Routes.{AreRoutes}
use Rattle.path_embed.proofs.PartRoutes.{part-routes}
use Rattle.path_embed.proofs.carrying.carried.Goals as goal

pub lift-requires-clause-routes : goal.lift-requires-clause-routes
lift-requires-clause-routes c =
    let g = c.args.g.now in
    let part = c.args.part.now in
    subst (λ (z : Multigraph). AreRoutes z g c.deref.result.now c.deref-2.result.now) (sym c.graph.ensures.value)
    (subst (λ (z : List ℕ). AreRoutes part.graph g z c.deref-2.result.now) (sym (c.deref.ensures.value ∙ c.in_ok-vertices.ensures))
    (subst (λ (z : List (List ℕ)). AreRoutes part.graph g part.vertices z) (sym (c.deref-2.ensures.value ∙ c.in_ok-routes.ensures))
    (part-routes g c.keeps_limits.ensures.graph part c.requires.part)))
