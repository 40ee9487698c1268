-- The trees of a setting are trees of blocks.
use Rattle.std.proofs.Common.{ℕ, ◌<◌, length, subst}
use Rattle.multigraph.specs.Part.{IsNumbered}
use Rattle.skeletons.specs.Items as items
use Rattle.spqr_session.specs.Trees.{tree_at}
use Rattle.spqr_session.specs.Setting.{Setting, IsSetting}
use Rattle.spqr_session.proofs.BlockParts.{block-tree}

module _ (setting : Setting) (is : IsSetting setting) (b : ℕ) (l : b < length setting.trees) where
  -- it is a block of the graph
  pub setting-block : b < length setting.structure.blocks
  setting-block = subst (λ (n : ℕ). b < n) is.trees.one_each l

  -- the tree of block b is one of a block
  pub setting-tree : items.IsBlockTree (tree_at setting.trees b).part.graph (tree_at setting.trees b).nodes
  setting-tree =
      let t = is.trees.each b setting-block in
      block-tree setting.named.graph setting.structure.blocks b (tree_at setting.trees b).part (tree_at setting.trees b).nodes is.structure.blocks setting-block t.part t.nodes

  -- and its part is numbered
  pub setting-numbered : IsNumbered (tree_at setting.trees b).part
  setting-numbered = let t = is.trees.each b setting-block in let p = t.part in p.numbered
