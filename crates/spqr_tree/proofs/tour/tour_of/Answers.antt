use Rattle.std.proofs.Common.{subst, arith}
use Rattle.spqr_tree.specs.Tour.{HasBegun}
use Rattle.spqr_tree.proofs.UpLinks.{edge-within}
use Rattle.spqr_tree.proofs.Touring.{tour-begins}
use Rattle.spqr_tree.proofs.tour.tour_of.Goals as goal

-- the walk begins at the root
pub loop-tour-init : goal.loop-tour-init
loop-tour-init c =
    let t = c.requires.tree in
    tour-begins t.0 c.args.nodes.now t.1 t.2 c.root_of.result c.in_ok-tour.tour (subst (λ z. HasBegun c.args.nodes.now z c.root_of.result c.in_ok-tour.tour) t.3 c.in_ok-tour.ensures) c.root_of.ensures.within c.root_of.ensures.first (omega (arith, t.3, c.ranges.m))
    (λ k i e l b w. edge-within t.0 c.args.nodes.now t.1 t.2 k i e b w)
