-- Lists that are a rotation system of a component to which moves lead, and why lists are none.
use Rattle.std.specs.Prelude.{◌≡◌, ◌≢◌, ℕ, ◌<◌, true, List, length, map}
use Rattle.permutations.specs.Members.{is_member}
use Rattle.rotations.specs.PartLists.{IsFirstBadInPart}
use Rattle.faces.specs.Euler.{IsPlaneSystem}
use Rattle.skeletons.specs.Choices.{choice}
use Rattle.skeletons.specs.Lists.{KeepsChoices}
use Rattle.skel_embed.specs.Block.{lock_at}
use Rattle.skel_embed.specs.Taken.{IsGiven, IsNotPlane}
use Rattle.whole_embed.specs.declared.members.Member.{Member}
use Rattle.whole_embed.specs.Component.{Component, BlockInPlane, IsComponentInPlane}
use Rattle.whole_embed.specs.Around.{outer_at}
use Rattle.whole_embed.specs.Cuts.{CutState, blocks_in, HavePlanes}
use Rattle.whole_embed.specs.Whole.{block_part, IsWholeMember}
use Rattle.whole_convert.specs.Between.{WholeStep, blocks_to, whole_moves_between}
use Rattle.whole_convert.specs.Leading.{LeadTo}
use Rattle.whole_convert.specs.declared.faults.WholeFault.{WholeFault}
use Rattle.whole_convert.specs.declared.faults.WholeFault.TheVariants.{BadRotation, NotGenusZero, Locked, Memory}

-- j is the least locked node of the block at which r has another choice than the block
pub record IsLeastLocked (block : BlockInPlane) (r : List (List ℕ)) (j : ℕ) : Type 0 where
  pub within : j < length block.nodes
  pub locked : lock_at block.locks j ≡ true
  pub other : choice block.nodes r j ≢ choice block.nodes block.rotation j
  pub none_before : (i : ℕ) → i < j → lock_at block.locks i ≡ true → choice block.nodes r i ≡ choice block.nodes block.rotation i

-- r has the choices of the block at all locked nodes
abbrev pub KeepsLocked : BlockInPlane → List (List ℕ) → Type 0
KeepsLocked block r = KeepsChoices block.nodes (lock_at block.locks) block.rotation r

-- b is the least block in which q has another choice at a locked node, and j the least such node of it
pub record IsLeastLockedBlock (k : Component) (block : ℕ → BlockInPlane) (q : List (List ℕ)) (b j : ℕ) : Type 0 where
  pub among : is_member b k.blocks ≡ true
  pub node : IsLeastLocked (block b) (block_part k (block b).part q) j
  pub none_before : (c : ℕ) → c < b → is_member c k.blocks ≡ true → KeepsLocked (block c) (block_part k (block c).part q)

-- the lists are a plane rotation system of the component, which has another choice at this locked node of this block, the least such
pub record IsLockedAt (k : Component) (block : ℕ → BlockInPlane) (entries : List (ℕ × List ℕ)) (b j : ℕ) : Type 0 where
  pub system : List (List ℕ)
  pub given : IsGiven k.part entries system
  pub plane : IsPlaneSystem k.part.graph system
  pub least : IsLeastLockedBlock k block system b j

-- the refusal is correct: the lists are not a rotation system of the component, and v is the least number at which this shows; they
-- are one with these numbers of vertices, edges and faces, and V - E + F is not 2; it is 2, and b and j are the least block and the
-- least locked node in it at which there is another choice. Memory may run out for any lists
abbrev pub IsWholeRefusal : Component → (ℕ → BlockInPlane) → List (ℕ × List ℕ) → WholeFault → Type 0
IsWholeRefusal k block entries (BadRotation v) = IsFirstBadInPart k.part entries v
IsWholeRefusal k block entries (NotGenusZero v e f) = IsNotPlane k.part entries v e f
IsWholeRefusal k block entries (Locked b j) = IsLockedAt k block entries b j
IsWholeRefusal k block entries Memory = Unit {0}

-- the lists are a plane rotation system of the component that has the present choices at the locked nodes, and the steps are the moves
-- to it; they lead there, through plane rotation systems alone
pub record IsMovedTo (k : Component) (block : ℕ → BlockInPlane) (lists : List (List ℕ)) (entries : List (ℕ × List ℕ)) (steps : List WholeStep) : Type 0 where
  pub system : List (List ℕ)
  pub given : IsGiven k.part entries system
  pub member : IsWholeMember k block system
  pub moves : steps ≡ whole_moves_between k block lists system
  pub lead : LeadTo k block lists steps system

-- they are, and the blocks and the lists are those of the component with this rotation system
pub record IsLedWhole (k : Component) (block : ℕ → BlockInPlane) (lists : List (List ℕ)) (entries : List (ℕ × List ℕ)) (steps : List WholeStep) (all : List Member) (cuts : CutState) : Type 0 where
  pub moved : IsMovedTo k block lists entries steps
  pub blocks : blocks_in all ≡ blocks_to k block moved.system
  pub component : cuts.component ≡ k
  pub set : cuts.lists ≡ map (outer_at k.part moved.system) k.cuts
  pub in_plane : IsComponentInPlane cuts.component (blocks_in all)
  pub planes : HavePlanes cuts.component all
