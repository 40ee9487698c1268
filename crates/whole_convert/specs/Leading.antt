-- What a step makes of a component with its blocks and the arrangements at its cut vertices.
use Rattle.std.specs.Prelude.{◌≡◌, ◌≢◌, ℕ, ◌<◌, true, false, List, [], ◌∷◌, length, slice_index, slice_index_or, slice_set, Contains}
use Rattle.permutations.specs.Members.{is_member, place_of}
use Rattle.faces.specs.Euler.{IsPlaneSystem}
use Rattle.skeletons.specs.Moves as theory
use Rattle.whole_embed.specs.Component.{Component, BlockInPlane}
use Rattle.whole_embed.specs.Around.{arrangements_around}
use Rattle.whole_embed.specs.Whole.{whole_system}
use Rattle.whole_embed.specs.Walk.{first_around}
use Rattle.whole_convert.specs.Between.{WholeStep, move_block, arrange}

-- blocks in the plane, and a list of edges for each cut vertex
pub record WholeState : Type 0 where
  pub block : ℕ → BlockInPlane
  pub lists : List (List ℕ)

-- the rotation system of the component in this state
abbrev pub system_in : Component → WholeState → List (List ℕ)
system_in k s = whole_system k s.block s.lists

-- a move of block b leads from s to t: in the block it leads to the new rotation system, and all else of the blocks stays; the cut
-- vertices of the block get their first arrangements, and the others keep theirs
pub record BlockLeads (k : Component) (b : ℕ) (move : theory.Move) (s t : WholeState) : Type 0 where
  pub among : is_member b k.blocks ≡ true
  pub leads : theory.MoveLeads (s.block b).part.graph (s.block b).nodes move (s.block b).rotation (t.block b).rotation
  pub part : (t.block b).part ≡ (s.block b).part
  pub nodes : (t.block b).nodes ≡ (s.block b).nodes
  pub locks : (t.block b).locks ≡ (s.block b).locks
  pub others : (c : ℕ) → c ≢ b → t.block c ≡ s.block c
  pub each : length t.lists ≡ length k.cuts
  pub first : (i : ℕ) → i < length k.cuts → is_member (slice_index k.cuts i) (s.block b).part.vertices ≡ true → slice_index_or t.lists i [] ≡ first_around k t.block i
  pub stays : (i : ℕ) → i < length k.cuts → is_member (slice_index k.cuts i) (s.block b).part.vertices ≡ false → slice_index_or t.lists i [] ≡ slice_index_or s.lists i []

-- the edges at cut vertex v are an arrangement for the present blocks, and become its list; all else stays
pub record ArrangementLeads (k : Component) (v : ℕ) (edges : List ℕ) (s t : WholeState) : Type 0 where
  pub among : is_member v k.cuts ≡ true
  pub arranged : Contains (arrangements_around k s.block v) edges
  pub blocks : t.block ≡ s.block
  pub lists : t.lists ≡ slice_set s.lists (place_of k.cuts v) edges

-- the step leads from s to t
abbrev pub StepLeads : Component → WholeStep → WholeState → WholeState → Type 0
StepLeads k (move_block b move) s t = BlockLeads k b move s t
StepLeads k (arrange v edges) s t = ArrangementLeads k v edges s t

-- the steps, one after the other, lead from s to t, and the rotation system after each step is plane
abbrev pub LeadThroughPlane : Component → List WholeStep → WholeState → WholeState → Type 0
LeadThroughPlane k [] s t = s ≡ t
LeadThroughPlane k (step ∷ steps) s t = (u : WholeState) × StepLeads k step s u × IsPlaneSystem k.part.graph (system_in k u) × LeadThroughPlane k steps u t

-- the steps lead from these blocks and lists to a state with the rotation system q
pub record LeadTo (k : Component) (block : ℕ → BlockInPlane) (lists : List (List ℕ)) (steps : List WholeStep) (q : List (List ℕ)) : Type 0 where
  pub last : WholeState
  pub lead : LeadThroughPlane k steps (record { block = block; lists = lists }) last
  pub is : system_in k last ≡ q
