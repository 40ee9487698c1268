-- One edge more, or none.
use Rattle.std.proofs.Common.{◌∙◌, sym}
use Rattle.multigraph.proofs.Below.{filter_below-yes, filter_below-no}
use Rattle.path_rotation.specs.Settling.{is_way_edge}
use Rattle.path_rotation.proofs.settling.way_edges.Goals as goal
use Rattle.path_rotation.proofs.settling.way_edges.Goals.{then-is_way_edge+in_ok-push, else-is_way_edge}

pub loop-e-preserved : goal.loop-e-preserved
loop-e-preserved c =
    let p = is_way_edge c.args.g.now c.args.on.now c.args.z in
    elim c.if-is_way_edge.branch [
      | then-is_way_edge+in_ok-push w ↦
          rw (w.edges-is, w.in_ok-push.ensures.items, c.loop-e.invariant) (sym (filter_below-yes p c.loop-e.e (sym c.is_way_edge.ensures ∙ w.if-is_way_edge.true)))
      | else-is_way_edge w ↦
          rw (w.edges-is, c.loop-e.invariant) (sym (filter_below-no p c.loop-e.e (sym c.is_way_edge.ensures ∙ w.if-is_way_edge.false)))
    ]
