use Rattle.std.proofs.Common.{◌<◌, ℕ, List, length, sym, ap, ◌∙◌, subst}
use Rattle.face_weights.specs.Weights.{Weighing}
use Rattle.face_weights.proofs.NodeCode.{items-within}
use Rattle.face_weights.proofs.table.Weights.of_node.Goals as goal

pub weights_of-requires : goal.weights_of-requires
weights_of-requires c = record {
  within = λ i j m e. subst (λ n. j < n) (sym (ap (λ (z : List ℕ). length z) c.deref.ensures.value ∙ ap (λ (w : Weighing). length w.below) c.self.view_is ∙ c.requires.sized.below))
      (items-within c.requires.block.0 c.args.tree.now c.requires.block.1 c.args.k c.requires.node c.items.result.now c.items.ensures i j m e);
}
