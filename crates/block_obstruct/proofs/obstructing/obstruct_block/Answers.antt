-- The paths that were found are routes of the skeleton.
use Rattle.std.proofs.Common.{ℕ, List, sym, subst}
use Rattle.multigraph.specs.Graph.{Multigraph}
use Rattle.pair_split.specs.Tutte.{node_at}
use Rattle.skeletons.specs.Families.{skeleton_graph}
use Rattle.kuratowski.specs.Routes.{AreRoutes}
use Rattle.block_obstruct.proofs.obstructing.obstruct_block.Goals as goal

pub lift-requires-clause-routes : goal.lift-requires-clause-routes
lift-requires-clause-routes c =
    let nodes = c.args.tree.now in
    subst (λ (z : Multigraph). AreRoutes z c.args.g.now c.vertices.result.now c.deref.result.now) (sym c.requires.skeleton)
    (subst (λ (z : List ℕ). AreRoutes (skeleton_graph nodes c.args.k) c.args.g.now z c.deref.result.now) (sym c.vertices.ensures)
    (subst (λ (z : List (List ℕ)). AreRoutes (skeleton_graph nodes c.args.k) c.args.g.now (node_at nodes c.args.k).vertices z) (sym c.deref.ensures.value)
    c.in_ok-routes.ensures.routes))
