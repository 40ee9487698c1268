-- `faces B`: the faces of the present rotation system of a block.
use Rattle.std.specs.Prelude.{◌≡◌, ℕ, List}
use Rattle.faces.specs.Trace.{face_lists}
use Rattle.spqr_script.specs.Answers.Faces.{faces_text}
use Rattle.spqr_session.specs.Trees.{BlockTree}
use Rattle.spqr_session.specs.Setting.{Setting}
use Rattle.spqr_session.specs.State.{Embedding, State}
use Rattle.spqr_session.specs.BlockCodes.{no_more, ReadStep}

-- the answer is the faces, each from its least pair on, in order of these
abbrev pub IsFaced : ℕ → BlockTree → Embedding → List ℕ → Type 0
IsFaced b tree e text = text ≡ faces_text tree.part b (face_lists tree.part.graph e.rotation)

-- one step
abbrev pub FacesStep : Setting → ℕ → State → List ℕ → State → Type 0
FacesStep setting b before text after = ReadStep no_more (IsFaced b) setting.trees b before text after
