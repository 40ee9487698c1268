-- `flip B K`: a triconnected node of a block is flipped.
use Rattle.std.specs.Prelude.{◌≡◌, ℕ, not, List, ◌∷◌, ◌++◌, Option}
use Rattle.skeletons.specs.Moves.{flip, MoveLeads}
use Rattle.spqr_session.specs.Trees.{BlockTree, tree_at}
use Rattle.spqr_session.specs.Setting.{Setting}
use Rattle.spqr_session.specs.State.{Embedding, State, entry_at}
use Rattle.spqr_session.specs.Codes.{Ladder}
use Rattle.spqr_session.specs.BlockCodes.{is_block, node_codes, of_entry, lock_codes, Silently, ChangeStep}
use Rattle.pair_split.specs.Kinds.{is_rigid}
use Rattle.spqr_session.specs.declared.code.Code.TheVariants.{NoBlock}

-- codes 2, 3, 5 and 12
abbrev pub flip_codes : ℕ → BlockTree → Option Embedding → Ladder
flip_codes k tree entry = node_codes is_rigid k tree entry ++ of_entry (lock_codes k) entry

-- code 1, and these
abbrev pub flip_ladder : List BlockTree → ℕ → ℕ → State → Ladder
flip_ladder trees b k s = (NoBlock, not (is_block trees b)) ∷ flip_codes k (tree_at trees b) (entry_at s.present b)

-- the node is flipped; locks stay
pub record IsFlipped (k : ℕ) (tree : BlockTree) (old new : Embedding) : Type 0 where
  pub leads : MoveLeads tree.part.graph tree.nodes (flip k) old.rotation new.rotation
  pub locks : new.locks ≡ old.locks

-- one step
abbrev pub FlipStep : Setting → ℕ → ℕ → State → List ℕ → State → Type 0
FlipStep setting b k before text after = ChangeStep (flip_ladder setting.trees b k before) (Silently (IsFlipped k)) setting b before text after
