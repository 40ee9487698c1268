use Rattle.std.proofs.Common.{◌∙◌, ℕ, List, ◌||◌, slice_index, sym, ap, arith}
use Rattle.std.proofs.Math.Bool.{or-false}
use Rattle.std.proofs.lemmas.List.{take_all}
use Rattle.permutations.specs.Members.{is_member}
use Rattle.permutations.proofs.Arrangements.{member-at}
use Rattle.multigraph.specs.Marks.{is_marked}
use Rattle.path_rotation.proofs.Marked.{marks-more}
use Rattle.path_rotation.proofs.inserting.mark_edges.Goals as goal

pub loop-edge-init : goal.loop-edge-init
loop-edge-init c = λ e. sym (or-false (is_marked c.args.drawn.now e))

pub bounds-drawn-edge : goal.bounds-drawn-edge
bounds-drawn-edge c = omega (arith, c.requires (slice_index c.args.path.now c.loop-edge.edge-index) (member-at c.args.path.now c.loop-edge.edge-index 0 c.loop-edge-test.true))

pub loop-edge-preserved : goal.loop-edge-preserved
loop-edge-preserved c =
    marks-more c.args.drawn.now c.loop-edge.drawn c.args.path.now c.loop-edge.edge-index c.loop-edge-test.true
    (omega (arith, c.requires (slice_index c.args.path.now c.loop-edge.edge-index) (member-at c.args.path.now c.loop-edge.edge-index 0 c.loop-edge-test.true))) c.loop-edge.invariant

pub returns-clause-marked : goal.returns-clause-marked
returns-clause-marked c = λ e. c.loop-edge.invariant e ∙ ap (λ (l : List ℕ). is_marked c.args.drawn.now e || is_member e l) (take_all c.loop-edge.edge-index c.args.path.now c.loop-edge-test.false)
