-- `show B`: the present rotation system of a block.
use Rattle.std.specs.Prelude.{◌≡◌, ℕ, List}
use Rattle.spqr_script.specs.Answers.Rotation.{rotation_text}
use Rattle.spqr_session.specs.Trees.{BlockTree}
use Rattle.spqr_session.specs.Setting.{Setting}
use Rattle.spqr_session.specs.State.{Embedding, State}
use Rattle.spqr_session.specs.BlockCodes.{no_more, ReadStep}

-- the answer is the rotation system
abbrev pub IsShown : ℕ → BlockTree → Embedding → List ℕ → Type 0
IsShown b tree e text = text ≡ rotation_text tree.part b e.rotation

-- one step
abbrev pub ShowStep : Setting → ℕ → State → List ℕ → State → Type 0
ShowStep setting b before text after = ReadStep no_more (IsShown b) setting.trees b before text after
