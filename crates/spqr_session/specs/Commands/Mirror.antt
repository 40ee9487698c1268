-- `mirror B`: the mirror image of the present rotation system of a block.
use Rattle.std.specs.Prelude.{◌≡◌, ℕ, Bool, ◌&&◌, List, [], ◌∷◌, length}
use Rattle.permutations.specs.Count.{some, least}
use Rattle.rotations.specs.Runs.{mirror_image}
use Rattle.skel_embed.specs.Block.{lock_at}
use Rattle.spqr_session.specs.Trees.{BlockTree}
use Rattle.spqr_session.specs.Setting.{Setting}
use Rattle.spqr_session.specs.State.{Embedding, State}
use Rattle.spqr_session.specs.Codes.{Ladder}
use Rattle.spqr_session.specs.BlockCodes.{kind_of, read_ladder, Silently, ChangeStep}
use Rattle.pair_split.specs.Kinds.{has_choices}
use Rattle.spqr_session.specs.declared.code.Code.TheVariants.{Locked}

-- whether node k is locked and has choices
abbrev pub is_held : BlockTree → Embedding → ℕ → Bool
is_held tree e k = lock_at e.locks k && has_choices (kind_of tree k)

-- code 12: such a node is locked, and this is the least
abbrev pub mirror_codes : BlockTree → Embedding → Ladder
mirror_codes tree e = (Locked (least (length tree.nodes) (is_held tree e)), some (length tree.nodes) (is_held tree e)) ∷ []

-- each cyclic order is reversed; locks stay
pub record IsMirrored (tree : BlockTree) (old new : Embedding) : Type 0 where
  pub mirror : new.rotation ≡ mirror_image old.rotation
  pub locks : new.locks ≡ old.locks

-- one step: refused by codes 1, 5 and 12
abbrev pub MirrorStep : Setting → ℕ → State → List ℕ → State → Type 0
MirrorStep setting b before text after = ChangeStep (read_ladder mirror_codes setting.trees b before) (Silently IsMirrored) setting b before text after
