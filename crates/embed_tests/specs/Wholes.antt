-- Graphs whose blocks are in the plane, and components that are ready for a walk. Contracts of helpers of tests cite these.
use Rattle.std.specs.Prelude.{◌≡◌, ℕ, ◌<◌, List, length, Some}
use Rattle.multigraph.specs.Graph.{Multigraph}
use Rattle.multigraph.specs.Part.{IsPart}
use Rattle.blocks.specs.Blocks.{block_at}
use Rattle.skel_embed.specs.Block.{BlockState, IsBlockState}
use Rattle.whole_embed.specs.declared.members.Member.{Member}
use Rattle.whole_embed.specs.Component.{IsComponentInPlane}
use Rattle.whole_embed.specs.Cuts.{CutState, member_at, blocks_in, HavePlanes}
use Rattle.whole_embed.specs.Whole.{AreArranged}

-- the member is the block of g with these edges, in the plane
pub record IsPlaneMember (g : Multigraph) (edges : List ℕ) (m : Member) : Type 0 where
  pub part : IsPart g edges m.part
  pub state : BlockState
  pub plane : m.plane ≡ Some state
  pub graph : state.graph ≡ m.part.graph
  pub is_state : IsBlockState state

-- the members are the first n blocks of g, in order
pub record ArePlaneMembers (g : Multigraph) (blocks : List (List ℕ)) (n : ℕ) (all : List Member) : Type 0 where
  pub each : length all ≡ n
  pub is : (b : ℕ) → b < n → IsPlaneMember g (block_at blocks b) (member_at all b)

-- a block in the plane keeps its part and its graph
pub record KeepsPlane (old new : Member) : Type 0 where
  pub part : new.part ≡ old.part
  pub plane : (p : BlockState) → old.plane ≡ Some p → (q : BlockState) × (new.plane ≡ Some q) × (q.graph ≡ p.graph) × IsBlockState q

-- a component with its blocks in the plane and with arrangements at its cut vertices
pub record AreReady (cuts : CutState) (all : List Member) : Type 0 where
  pub component : IsComponentInPlane cuts.component (blocks_in all)
  pub planes : HavePlanes cuts.component all
  pub arranged : AreArranged cuts.component (blocks_in all) cuts.lists
