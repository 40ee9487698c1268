use Rattle.std.proofs.Common.{◌≡◌, ℕ, ◌<◌, Option, MatchOption, List, length, sym, ap, ◌∙◌, subst, arith}
use Rattle.multigraph.specs.Graph.{Multigraph}
use Rattle.permutations.specs.Cyclic.{IsTurn}
use Rattle.kuratowski.specs.Subdivision.{IsSubdivision}
use Rattle.kuratowski.specs.declared.subdivision.Subdivision.{Subdivision}
use Rattle.rotations.specs.Rotation.{order_at}
use Rattle.contract_obstruct.specs.Steps.{AreSteps}
use Rattle.contract_obstruct.specs.Crossing.{merged_vertex}
use Rattle.contract_obstruct.specs.Obstruction.{rotated, StandForEdges, ShowsNothing}
use Rattle.contract_obstruct.proofs.BelowNext.{below-next}
use Rattle.contract_obstruct.proofs.Obstructed.{rotated-edges, something-shown}
use Rattle.contract_obstruct.proofs.Rotations.{rotated-turn, rotated-next, rotated-length}
use Rattle.contract_obstruct.proofs.obstructing.obstruct.Goals as goal

pub obstruction_at_start-requires-clause-around : goal.obstruction_at_start-requires-clause-around
obstruction_at_start-requires-clause-around c =
    let s = c.requires.steps.system in
    let a = c.requires.steps.are_steps in
    let o = order_at s (merged_vertex c.args.level.now) in
    let same : c.in_ok-order.order.items ≡ o = c.in_ok-order.ensures s (subst (λ (h : Multigraph). AreSteps h s c.args.next.now) (sym c.requires.contraction) a) ∙ ap (order_at s) c.merged_vertex.ensures in
    (s, a, subst (IsTurn o) (sym (c.deref-in-loop-start.ensures.value ∙ c.loop-start.invariant.turned)) (rotated-turn o c.in_ok-order.order.items c.loop-start._start same))

pub obstruction_at_start-requires-clause-edges : goal.obstruction_at_start-requires-clause-edges
obstruction_at_start-requires-clause-edges c =
    let level = c.args.level.now in
    let s = c.requires.steps.system in
    let o = order_at s (merged_vertex level) in
    let same : c.in_ok-order.order.items ≡ o = c.in_ok-order.ensures s (subst (λ (h : Multigraph). AreSteps h s c.args.next.now) (sym c.requires.contraction) c.requires.steps.are_steps) ∙ ap (order_at s) c.merged_vertex.ensures in
    subst (StandForEdges level) (sym (c.deref-in-loop-start.ensures.value ∙ c.loop-start.invariant.turned))
    (rotated-edges level c.requires.level s c.args.next.now c.requires.steps.are_steps c.in_ok-order.order.items c.loop-start._start same)

pub loop-start-preserved : goal.loop-start-preserved
loop-start-preserved c =
    let level = c.args.level.now in
    let original = c.in_ok-order.order.items in
    let inside : c.loop-start._start < length original = omega (arith, c.loop-start-test.true, c.len-start-end.ensures, c.in_ok-order.order.ok.0) in
    let nothing : ShowsNothing level c.deref-in-loop-start.result.now =
    subst (λ (a : Option Subdivision). MatchOption a (ShowsNothing level c.deref-in-loop-start.result.now) (λ r. IsSubdivision level.graph r.kind r.branch r.paths)) c.in_default.is c.in_ok-s.ensures in
    record {
      size = ap (λ (z : List ℕ). length z) c.rotate_left.ensures.items ∙ (rotated-length c.loop-start.order.items 1 ∙ c.loop-start.invariant.size);
      turned = c.rotate_left.ensures.items ∙ (ap (λ (z : List ℕ). rotated z 1) c.loop-start.invariant.turned ∙ rotated-next original c.loop-start._start inside);
      nothing = below-next (λ t. ShowsNothing level (rotated original t)) c.loop-start._start c.loop-start.invariant.nothing
          (subst (ShowsNothing level) (c.deref-in-loop-start.ensures.value ∙ c.loop-start.invariant.turned) nothing);
    }

pub unreachable-requires : goal.unreachable-requires
unreachable-requires c =
    let level = c.args.level.now in
    let s = c.requires.steps.system in
    let o = order_at s (merged_vertex level) in
    let same : c.in_ok-order.order.items ≡ o = c.in_ok-order.ensures s (subst (λ (h : Multigraph). AreSteps h s c.args.next.now) (sym c.requires.contraction) c.requires.steps.are_steps) ∙ ap (order_at s) c.merged_vertex.ensures in
    something-shown level c.requires.level s c.args.next.now c.requires.steps.are_steps c.requires.none c.in_ok-order.order.items same
    (λ t l. c.loop-start.invariant.nothing t (omega (arith, l, c.loop-start-test.false, c.len-start-end.ensures, c.in_ok-order.order.ok.0)))
