-- The way begins at z, goes on to a vertex that is off and nearer, and ends at the head of t.
use Rattle.std.proofs.Common.{◌∙◌, ℕ, List, reverse, sym, subst}
use Rattle.faces.proofs.MapSteps.{tail-twin}
use Rattle.path_rotation.specs.Search.{IsWayBack, IsWayFound}
use Rattle.path_rotation.proofs.WaySteps.{way-begin, way-next, way-found}
use Rattle.path_rotation.proofs.ways.way_back.Goals as goal

pub loop-init : goal.loop-init
loop-init c = way-begin c.args.g.now c.vertex_count-end.ensures.graph c.args.on.now c.args.depth.now c.args.z c.clear.new.self.items c.clear.ensures.items c.requires.vertex

pub loop-preserved : goal.loop-preserved
loop-preserved c =
    subst (λ (l : List ℕ). IsWayBack c.args.g.now c.args.on.now c.args.depth.now c.args.z c.in-Some.next l) (sym c.in_ok-push-2.ensures.items)
    (way-next c.args.g.now c.vertex_count-end.ensures.graph c.args.on.now c.args.depth.now c.args.z c.loop.at c.in-Some.next c.in-Some.edge c.loop.path.items c.loop.invariant c.in-Some.ensures)

pub returns-then-at-first : goal.returns-then-at-first
returns-then-at-first c = λ _.
    subst (λ (l : List ℕ). IsWayFound c.args.g.now c.args.on.now c.args.t l c.args.z) (sym c.reverse.ensures.items)
    (subst (λ (l : List ℕ). IsWayFound c.args.g.now c.args.on.now c.args.t (reverse l) c.args.z) (sym c.in_ok-push.ensures.items)
    (way-found c.args.g.now c.vertex_count-end.ensures.graph c.args.on.now c.args.depth.now c.args.z c.args.t c.loop.at c.loop.path.items c.requires.dart c.requires.tail_on c.requires.on c.requires.apart
    (c.if-at-first.true ∙ c.head-first.ensures.is ∙ tail-twin c.args.g.now c.args.t c.vertex_count-end.ensures.graph c.requires.dart) c.loop.invariant))
