-- One arm more is entered.
use Rattle.std.proofs.Common.{◌≡◌, ◌<◌, ◌+◌, ◌||◌, ◌==◌, ℕ, List, slice_index, slice_set, ap, ◌∙◌, sym, subst}
use Rattle.multigraph.specs.Graph.{edge_count}
use Rattle.dart_maps.specs.Map.{face}
use Rattle.multigraph.specs.Marks.{is_marked}
use Rattle.faces.specs.Euler.{tail, dart_count}
use Rattle.triangulations.proofs.SimpleMaps.{face-in}
use Rattle.canonical_orders.proofs.Entering.{IsEntering, entering-none, entering-more}
use Rattle.canonical_orders.proofs.contour.Contour.enter_all.Goals as goal

pub loop-arm-init : goal.loop-arm-init
loop-arm-init c = entering-none c.args.map.now c.args.arms.now c.args.self.now.left.items c.args.self.now.on.items c.args.self.now.met.items c.requires.met

pub enter-requires-clause-dart_in : goal.enter-requires-clause-dart_in
enter-requires-clause-dart_in c =
    let t = c.args.map.now in
    subst (λ (d : _). d < dart_count t.graph) (sym c.face.ensures) (face-in (edge_count t.graph) t.graph (slice_index t.next) (slice_index t.previous) c.requires.triangulated.map (slice_index c.args.arms.now c.loop-arm.arm-index) (c.requires.arms_in c.loop-arm.arm-index c.loop-arm-test.true))

pub enter-requires-clause-left_each : goal.enter-requires-clause-left_each
enter-requires-clause-left_each c = c.loop-arm.invariant.entered.each ∙ c.requires.left_each

pub enter-requires-clause-met : goal.enter-requires-clause-met
enter-requires-clause-met c = c.loop-arm.invariant.met

pub loop-arm-preserved : goal.loop-arm-preserved
loop-arm-preserved c =
    let t = c.args.map.now in
    let k = c.loop-arm.arm-index in
    let d = face (slice_index t.next) (slice_index c.args.arms.now k) in
    let now = c.loop-arm.self in
    let new = c.enter.new.self in
    let marked : (v : ℕ) → is_marked new.on.items v ≡ (is_marked now.on.items v || (v == tail t.graph d)) = subst (λ (z : ℕ). (v : ℕ) → is_marked new.on.items v ≡ (is_marked now.on.items v || (v == tail t.graph z))) c.face.ensures c.in_ok-enter.ensures.marked in
    let entered : new.left.items ≡ slice_set now.left.items (tail t.graph d) d = c.in_ok-enter.ensures.left ∙ ap (λ (z : ℕ). slice_set now.left.items (tail t.graph z) z) c.face.ensures in
    subst (λ (s : List ℕ). IsEntering t c.args.arms.now (k + 1) c.args.self.now.left.items c.args.self.now.on.items s new.on.items new.met.items) (sym entered)
    (entering-more t c.requires.triangulated c.args.arms.now k c.args.self.now.left.items c.args.self.now.on.items now.left.items now.on.items now.met.items new.on.items new.met.items
    c.loop-arm-test.true c.requires.arms_in c.requires.differ c.requires.left_each c.loop-arm.invariant marked c.in_ok-enter.ensures.met)
