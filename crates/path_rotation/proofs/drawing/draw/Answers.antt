use Rattle.std.proofs.Common.{◌≡◌, ◌∙◌, ◌<◌, List, [], ℕ, length, slice_index, sym, subst}
use Rattle.faces.specs.Euler.{dart_count}
use Rattle.path_rotation.specs.Finish.{IsPlaneOrder}
use Rattle.path_rotation.proofs.DrawingKept.{none-order}
use Rattle.path_rotation.proofs.drawing.draw.Goals as goal

pub finish-requires-2-clause-darts : goal.finish-requires-2-clause-darts
finish-requires-2-clause-darts c = subst (λ (l : List ℕ). length l ≡ dart_count c.args.g.now) (sym c.deref.ensures.value) c.in_ok-draw_paths.ensures.sketch.tables.each_dart

pub finish-requires-2-clause-within : goal.finish-requires-2-clause-within
finish-requires-2-clause-within c = subst (λ (l : List ℕ). (d : ℕ) → d < dart_count c.args.g.now → slice_index l d < dart_count c.args.g.now) (sym c.deref.ensures.value) c.in_ok-draw_paths.ensures.sketch.tables.within

pub finish-requires-clause-whole : goal.finish-requires-clause-whole
finish-requires-clause-whole c = λ _. none-order c.args.g.now c.edge_count.ensures.graph (sym c.edge_count.ensures.value ∙ c.if-edge_count-eq0.true) []

pub finish-requires-2-clause-whole : goal.finish-requires-2-clause-whole
finish-requires-2-clause-whole c = λ tri. subst (IsPlaneOrder c.args.g.now) (sym c.deref.ensures.value) (c.in_ok-draw_paths.ensures.whole c.if-branch.false tri)
