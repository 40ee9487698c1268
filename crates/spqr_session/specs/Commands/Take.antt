-- `take B ROT`: lists of edges become the rotation system of a block.
use Rattle.std.specs.Prelude.{◌≡◌, ◌≢◌, ℕ, ◌<◌, ◌≤◌, true, List, length, None, Some}
use Rattle.rotations.specs.PartLists.{IsFirstBadInPart}
use Rattle.faces.specs.Euler.{IsPlaneSystem}
use Rattle.skeletons.specs.Choices.{choice}
use Rattle.skeletons.specs.Lists.{KeepsChoices}
use Rattle.skel_embed.specs.Block.{lock_at}
use Rattle.skel_embed.specs.Taken.{IsGiven, IsNotPlane}
use Rattle.spqr_session.specs.Trees.{BlockTree, tree_at}
use Rattle.spqr_session.specs.Setting.{Setting}
use Rattle.spqr_session.specs.State.{Embedding, State, entry_at}
use Rattle.spqr_session.specs.Codes.{Carries}
use Rattle.spqr_session.specs.BlockCodes.{ChangesBlock, Silently}
use Rattle.spqr_session.specs.declared.code.Code.{Code}
use Rattle.spqr_session.specs.declared.code.Code.TheVariants.{NoBlock, NonPlanar, BadRotation, NotGenusZero, Locked}

-- the lists are a plane rotation system of the block, which has another choice than the present one at the locked node k, the
-- least such
pub record IsLockedOut (tree : BlockTree) (entries : List (ℕ × List ℕ)) (e : Embedding) (k : ℕ) : Type 0 where
  pub system : List (List ℕ)
  pub given : IsGiven tree.part entries system
  pub plane : IsPlaneSystem tree.part.graph system
  pub within : k < length tree.nodes
  pub locked : lock_at e.locks k ≡ true
  pub other : choice tree.nodes system k ≢ choice tree.nodes e.rotation k
  pub none_before : (j : ℕ) → j < k → lock_at e.locks j ≡ true → choice tree.nodes system j ≡ choice tree.nodes e.rotation j

-- code 1: there is no such block; 5: it is not planar; of a planar one, 6: the lists are not a rotation system, and the number is the
-- least at which this shows; 7: they are one with these numbers, which is not plane; 12: another choice at a locked node
abbrev pub TakeApplies : List BlockTree → ℕ → List (ℕ × List ℕ) → State → Code → Type 0
TakeApplies trees b entries s NoBlock = length trees ≤ b
TakeApplies trees b entries s NonPlanar = (b < length trees) × (entry_at s.present b ≡ None)
TakeApplies trees b entries s (BadRotation v) = (b < length trees) × ((e : Embedding) × (entry_at s.present b ≡ Some e) × IsFirstBadInPart (tree_at trees b).part entries v)
TakeApplies trees b entries s (NotGenusZero v e f) = (b < length trees) × ((x : Embedding) × (entry_at s.present b ≡ Some x) × IsNotPlane (tree_at trees b).part entries v e f)
TakeApplies trees b entries s (Locked k) = (b < length trees) × ((e : Embedding) × (entry_at s.present b ≡ Some e) × IsLockedOut (tree_at trees b) entries e k)
TakeApplies trees b entries s code = ⊥

-- the new rotation system is plane, and that which the lists are; choices at locked nodes are as before, and locks stay
pub record IsTaken (entries : List (ℕ × List ℕ)) (tree : BlockTree) (old new : Embedding) : Type 0 where
  pub given : IsGiven tree.part entries new.rotation
  pub plane : IsPlaneSystem tree.part.graph new.rotation
  pub keeps : KeepsChoices tree.nodes (lock_at old.locks) old.rotation new.rotation
  pub locks : new.locks ≡ old.locks

-- one step
abbrev pub TakeStep : Setting → ℕ → List (ℕ × List ℕ) → State → List ℕ → State → Type 0
TakeStep setting b entries before text after = Carries (TakeApplies setting.trees b entries before) (ChangesBlock setting b (Silently (IsTaken entries))) before text after
