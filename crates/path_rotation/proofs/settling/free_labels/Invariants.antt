-- The labels are those of the edges so far.
use Rattle.std.proofs.Common.{◌≡◌, [], length}
use Rattle.graph_theory.specs.Labels.{label_at, IsLabelling, AreLabelsBelow}
use Rattle.path_rotation.proofs.FreeLabels.{off_links}
use Rattle.path_rotation.proofs.settling.free_labels.Given as goal

abbrev pub invariant-loop-e : goal.invariant-loop-e
invariant-loop-e l = record {
  labelling : IsLabelling (off_links l.fn.g l.fn.on l.e) [] (label_at l.labels.items);
  below : AreLabelsBelow l.fn.g.vertex_count l.labels.items;
  size : length l.labels.items ≡ l.fn.g.vertex_count;
}
