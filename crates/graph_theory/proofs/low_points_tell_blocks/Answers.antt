use Rattle.graph_theory.proofs.SameLabel.{same_label-block}
use Rattle.graph_theory.proofs.BlockLabel.{block-same_label}
use Rattle.graph_theory.proofs.low_points_tell_blocks.Goals as goal

pub returns : goal.returns
returns c = record {
  told = λ g i parent depth parent_edge lower low label t p a e f l k.
      (same_label-block g i parent depth parent_edge lower low label t p a e f l k, block-same_label g i parent depth parent_edge lower low label t p a e f l k);
}
