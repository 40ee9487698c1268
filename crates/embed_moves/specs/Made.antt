-- What a move of a block makes, and why one is refused.
use Rattle.std.specs.Prelude.{◌≡◌, ◌≢◌, ℕ, ◌<◌, Bool, true, false, ◌&&◌, List, length, IsPermutation}
use Rattle.pair_split.specs.Tutte.{Node, node_at}
use Rattle.pair_split.specs.Kinds.{has_choices}
use Rattle.pair_split.specs.declared.components.Kind.TheVariants.{P, R}
use Rattle.rotations.specs.Runs.{mirror_image}
use Rattle.skeletons.specs.Items.{node_keys}
use Rattle.skeletons.specs.Choices.{choice}
use Rattle.skeletons.specs.Moves.{Move, flip, permute, IsNodeOfKind, MoveLeads}
use Rattle.skel_embed.specs.Block.{BlockState, lock_at}
use Rattle.embed_moves.specs.declared.flipping.FlipFault.{FlipFault}
use Rattle.embed_moves.specs.declared.flipping.FlipFault.TheVariants as flips
use Rattle.embed_moves.specs.declared.permuting.PermuteFault.{PermuteFault}
use Rattle.embed_moves.specs.declared.permuting.PermuteFault.TheVariants as permutes

-- the move was made: it leads from the old rotation system to the new one, the choices went with it, and all else stayed
pub record IsMade (move : Move) (old new : BlockState) : Type 0 where
  pub leads : MoveLeads old.graph old.tree move old.rotation new.rotation
  pub rest : new ≡ record old { rotation = new.rotation; choices = new.choices }

-- no choice but that of node k changed, and all else stayed
pub record KeepsOthers (old new : BlockState) (k : ℕ) : Type 0 where
  pub rest : new ≡ record old { rotation = new.rotation; choices = new.choices }
  pub others : (j : ℕ) → j < length old.tree → j ≢ k → choice old.tree new.rotation j ≡ choice old.tree old.rotation j

-- a flip of node k is refused: it is not triconnected, or it is and is locked
abbrev pub IsFlipRefusal : BlockState → ℕ → FlipFault → Type 0
IsFlipRefusal s k flips.WrongKind = (node_at s.tree k).kind ≢ R
IsFlipRefusal s k (flips.Locked j) = ((node_at s.tree k).kind ≡ R) × (lock_at s.locks k ≡ true) × (j ≡ k)

-- a permute of node k to these keys is refused: it is not a bond; else the keys are not an ordering of its own; else it is locked
abbrev pub IsPermuteRefusal : BlockState → ℕ → List ℕ → PermuteFault → Type 0
IsPermuteRefusal s k keys permutes.WrongKind = (node_at s.tree k).kind ≢ P
IsPermuteRefusal s k keys permutes.BadOrder = ((node_at s.tree k).kind ≡ P) × (IsPermutation (node_keys s.tree k) keys → ⊥)
IsPermuteRefusal s k keys (permutes.Locked j) = ((node_at s.tree k).kind ≡ P) × IsPermutation (node_keys s.tree k) keys × (lock_at s.locks k ≡ true) × (j ≡ k)

-- whether node k is locked and has choices
abbrev pub is_held : BlockState → ℕ → Bool
is_held s k = lock_at s.locks k && has_choices (node_at s.tree k).kind

-- every rotation was reversed, the choices went with them, and all else stayed
pub record IsMirrored (old new : BlockState) : Type 0 where
  pub mirrored : new.rotation ≡ mirror_image old.rotation
  pub rest : new ≡ record old { rotation = new.rotation; choices = new.choices }

-- no node is locked that has a choice
abbrev pub NoneHeld : BlockState → Type 0
NoneHeld s = (k : ℕ) → k < length s.tree → is_held s k ≡ false

-- k is the least node that is
pub record IsLeastHeld (s : BlockState) (k : ℕ) : Type 0 where
  pub within : k < length s.tree
  pub held : is_held s k ≡ true
  pub none_before : (j : ℕ) → j < k → is_held s j ≡ false

-- the move is one of a node of the block, of the right kind, and a permute names an ordering of the node's keys
abbrev pub Fits : List Node → Move → Type 0
Fits nodes (flip k) = IsNodeOfKind nodes k R
Fits nodes (permute k keys) = IsNodeOfKind nodes k P × IsPermutation (node_keys nodes k) keys

-- from wherever the first move leads, the second leads back to the current rotation system
abbrev pub LeadsBack : BlockState → Move → Move → Type 0
LeadsBack s move back = (q : List (List ℕ)) → MoveLeads s.graph s.tree move s.rotation q → MoveLeads s.graph s.tree back q s.rotation
