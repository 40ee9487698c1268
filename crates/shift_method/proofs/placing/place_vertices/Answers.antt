use Rattle.std.proofs.Common.{ℕ, List, length, slice_index, arith, sym, ap, ◌∙◌, subst}
use Rattle.std.proofs.lemmas.List.{length-replicate}
use Rattle.std.proofs.lemmas.Result.{IfOk-weaker}
use Rattle.shift_method.specs.Shapes.{ShapeState, all_placed}
use Rattle.shift_method.specs.Peeled.{IsPeeled}
use Rattle.shift_method.proofs.Drawings.{sizes-told, positions-told, drawn-told, wide-told, high-told}
use Rattle.shift_method.proofs.placing.place_vertices.Goals as goal

pub place_all-requires-clause-peeled : goal.place_all-requires-clause-peeled
place_all-requires-clause-peeled c =
    (c.args.left, c.args.right, subst (λ (n : ℕ). IsPeeled n c.args.left c.args.right c.args.removals.now) (sym (ap (λ (s : ShapeState). length s.gap) c.in_ok-shape.ensures.fresh ∙ length-replicate {A = ℕ} c.args.vertices 0)) c.requires.peeled)

pub positions-requires-clause-sizes : goal.positions-requires-clause-sizes
positions-requires-clause-sizes c = sizes-told c.args.vertices c.args.left c.args.right c.args.removals.now c.requires.peeled c.place_all.new.self (c.place_all.ensures ∙ ap (λ (s : ShapeState). all_placed s c.args.removals.now) c.in_ok-shape.ensures.fresh)

pub positions-requires-clause-positions : goal.positions-requires-clause-positions
positions-requires-clause-positions c = positions-told c.args.vertices c.args.left c.args.right c.args.removals.now c.requires.peeled c.place_all.new.self (c.place_all.ensures ∙ ap (λ (s : ShapeState). all_placed s c.args.removals.now) c.in_ok-shape.ensures.fresh)

pub points_of-requires-clause-each : goal.points_of-requires-clause-each
points_of-requires-clause-each c = ap (λ (l : List ℕ). length l) c.deref.ensures.value ∙ c.in_ok-x.ensures.number ∙ sym (sizes-told c.args.vertices c.args.left c.args.right c.args.removals.now c.requires.peeled c.place_all.new.self (c.place_all.ensures ∙ ap (λ (s : ShapeState). all_placed s c.args.removals.now) c.in_ok-shape.ensures.fresh)).heights

pub returns-clause-drawn : goal.returns-clause-drawn
returns-clause-drawn c =
    IfOk-weaker c.points_of.result _ _ (λ points h p. drawn-told c.args.vertices c.args.left c.args.right c.args.removals.now p c.place_all.new.self (c.place_all.ensures ∙ ap (λ (s : ShapeState). all_placed s c.args.removals.now) c.in_ok-shape.ensures.fresh) c.in_ok-x.x.items c.in_ok-x.ensures.left c.in_ok-x.ensures.top c.in_ok-x.ensures.right c.in_ok-x.ensures.kept points.items
    (λ v b. h v (omega (arith, b, ap (λ (l : List ℕ). length l) c.deref.ensures.value, c.in_ok-x.ensures.number)) ∙ ap (λ (l : List ℕ). (slice_index l v, slice_index c.place_all.new.self.height v)) c.deref.ensures.value)) c.points_of.ensures.points

pub returns-clause-wide : goal.returns-clause-wide
returns-clause-wide c =
    IfOk-weaker c.points_of.result _ _ (λ points h. wide-told c.args.vertices c.args.left c.args.right c.args.removals.now c.requires.peeled c.place_all.new.self (c.place_all.ensures ∙ ap (λ (s : ShapeState). all_placed s c.args.removals.now) c.in_ok-shape.ensures.fresh) c.in_ok-x.x.items c.in_ok-x.ensures.left c.in_ok-x.ensures.top c.in_ok-x.ensures.right c.in_ok-x.ensures.kept points.items
    (λ v b. h v (omega (arith, b, ap (λ (l : List ℕ). length l) c.deref.ensures.value, c.in_ok-x.ensures.number)) ∙ ap (λ (l : List ℕ). (slice_index l v, slice_index c.place_all.new.self.height v)) c.deref.ensures.value)) c.points_of.ensures.points

pub returns-clause-high : goal.returns-clause-high
returns-clause-high c =
    IfOk-weaker c.points_of.result _ _ (λ points h. high-told c.args.vertices c.args.left c.args.right c.args.removals.now c.requires.peeled c.place_all.new.self (c.place_all.ensures ∙ ap (λ (s : ShapeState). all_placed s c.args.removals.now) c.in_ok-shape.ensures.fresh) c.in_ok-x.x.items c.in_ok-x.ensures.left c.in_ok-x.ensures.top c.in_ok-x.ensures.right c.in_ok-x.ensures.kept points.items
    (λ v b. h v (omega (arith, b, ap (λ (l : List ℕ). length l) c.deref.ensures.value, c.in_ok-x.ensures.number)) ∙ ap (λ (l : List ℕ). (slice_index l v, slice_index c.place_all.new.self.height v)) c.deref.ensures.value)) c.points_of.ensures.points
