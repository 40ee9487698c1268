use Rattle.std.proofs.Common.{◌≡◌, ◌<◌, ◌∙◌, ℕ, Bool, List, take, slice_index_or, sym, subst, ◌+◌}
use Rattle.multigraph.specs.Marks.{is_marked}
use Rattle.pair_split.specs.Bridges.{family_of, in_bridge, has_label, side_of}
use Rattle.pair_split.proofs.Marking.{nothing, mark-skip, mark-step}
use Rattle.pair_split.proofs.bridges.mark_along.Goals as goal
use Rattle.pair_split.proofs.bridges.mark_along.Goals.{then-is_in_bridge, else-is_in_bridge}

pub loop-edge-preserved : goal.loop-edge-preserved
loop-edge-preserved c = elim c.if-is_in_bridge.branch [
  | then-is_in_bridge w ↦ λ n. subst (λ (m : List Bool). is_marked m n ≡ side_of (family_of (take (c.loop-edge.edge-index + 1) c.args.edges.now)) (in_bridge c.args.a c.args.b (has_label c.args.labels.now c.args.label)) n) (sym w.marks-is)
      (mark-step c.args.edges.now c.loop-edge.edge-index (in_bridge c.args.a c.args.b (has_label c.args.labels.now c.args.label)) c.loop-edge.marks c.loop-edge-test.true c.loop-edge.invariant (sym c.is_in_bridge.ensures ∙ w.if-is_in_bridge.true)
      (subst (λ (k : ℕ). (slice_index_or c.args.edges.now c.loop-edge.edge-index nothing).name < k) (sym c.loop-edge.auto.marks) (c.requires.names c.loop-edge.edge-index nothing c.loop-edge-test.true)) n)
  | else-is_in_bridge w ↦ λ n. subst (λ (m : List Bool). is_marked m n ≡ side_of (family_of (take (c.loop-edge.edge-index + 1) c.args.edges.now)) (in_bridge c.args.a c.args.b (has_label c.args.labels.now c.args.label)) n) (sym w.marks-is)
      (mark-skip c.args.edges.now c.loop-edge.edge-index (in_bridge c.args.a c.args.b (has_label c.args.labels.now c.args.label)) c.loop-edge.marks c.loop-edge-test.true c.loop-edge.invariant (sym c.is_in_bridge.ensures ∙ w.if-is_in_bridge.false) n)
]
