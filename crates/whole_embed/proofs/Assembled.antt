-- What is used of a component and its blocks.
use Rattle.std.proofs.Common.{◌≡◌, ℕ, ◌<◌, true, false, slice_index}
use Rattle.permutations.specs.Members.{is_member}
use Rattle.multigraph.specs.Graph.{edge_count}
use Rattle.multigraph.specs.Part.{IsNumbered, Rises}
use Rattle.graph_theory.specs.Block.{SameBlock}
use Rattle.arrangements.specs.Arranged.{AreOrders}
use Rattle.whole_embed.specs.Component.{Component, BlockInPlane}
use Rattle.whole_embed.specs.Around.{edges_around, block_with, block_order}

-- the component is made of its blocks: each edge is in one, a vertex that is not a cut vertex has edges of one block alone
pub record IsAssembled (k : Component) (block : ℕ → BlockInPlane) : Type 0 where
  pub numbered : IsNumbered k.part
  pub parts : (b : ℕ) → is_member b k.blocks ≡ true → IsNumbered (block b).part
  pub edge_in : (b e : ℕ) → is_member b k.blocks ≡ true → is_member e (block b).part.edges ≡ true → (is_member e k.part.edges ≡ true) × (block_with k e ≡ b)
  pub edge_block : (e : ℕ) → is_member e k.part.edges ≡ true → (is_member (block_with k e) k.blocks ≡ true) × (is_member e (block (block_with k e)).part.edges ≡ true)
  pub has_vertex : (v e : ℕ) → is_member v k.part.vertices ≡ true → is_member e (edges_around k v) ≡ true → is_member v (block (block_with k e)).part.vertices ≡ true
  pub one_block : (v e f : ℕ) → is_member v k.part.vertices ≡ true → is_member v k.cuts ≡ false → is_member e (edges_around k v) ≡ true → is_member f (edges_around k v) ≡ true → block_with k e ≡ block_with k f
  pub same : (i j : ℕ) → i < edge_count k.part.graph → j < edge_count k.part.graph → block_with k (slice_index k.part.edges i) ≡ block_with k (slice_index k.part.edges j) → SameBlock k.part.graph i j
  pub same_back : (i j : ℕ) → i < edge_count k.part.graph → j < edge_count k.part.graph → SameBlock k.part.graph i j → block_with k (slice_index k.part.edges i) ≡ block_with k (slice_index k.part.edges j)
  pub blocks_rise : Rises k.blocks
  pub cuts_rise : Rises k.cuts
  pub cuts_in : (v : ℕ) → is_member v k.cuts ≡ true → is_member v k.part.vertices ≡ true
  pub orders : (v : ℕ) → is_member v k.part.vertices ≡ true → AreOrders (block_with k) (block_order block v) (edges_around k v)
