-- What a command has planned that puts another block in the place of one, and what is made of it; and the codes that are found.
use Rattle.std.specs.Prelude.{◌≡◌, ℕ, ◌<◌, Bool, true, false, List, length, Option, None, Some, ⊤, IsPermutation}
use Rattle.multigraph.specs.Part.{GraphPart}
use Rattle.rotations.specs.PartLists.{IsFirstBadInPart}
use Rattle.skeletons.specs.Items.{node_keys}
use Rattle.skel_embed.specs.Block.{BlockState}
use Rattle.skel_embed.specs.Taken.{IsNotPlane}
use Rattle.embed_enum.specs.Walk.{KeepsRest}
use Rattle.embed_moves.specs.Made.{IsLeastHeld, NoneHeld}
use Rattle.spqr_script.specs.Answers.Change.{ok_text}
use Rattle.spqr_session.specs.Trees.{BlockTree}
use Rattle.spqr_session.specs.State.{Embedding}
use Rattle.spqr_session.specs.Embedded.{BlockView, view_at}
use Rattle.spqr_session.specs.Board.{BoardView, IsChangedTo}
use Rattle.spqr_session.specs.Codes.{Ladder, IsLowest, NoneApplies, code_text, first_code}
use Rattle.spqr_session.specs.declared.code.Code.{Code}
use Rattle.spqr_session.specs.declared.code.Code.TheVariants.{BadRotation, NotGenusZero, Locked}
use Rattle.spqr_session.specs.Commands.Take.{IsLockedOut, IsTaken}
use Rattle.spqr_session.specs.Commands.Convert.{conversion_text}
use Rattle.spqr_session.specs.Commands.Permute.{inner_edges, permute_codes}
use Rattle.spqr_session.specs.declared.planned.Planned.{Planned}
use Rattle.spqr_session.specs.declared.planned.Planned.TheVariants.{Refused, Change}

-- the embedding of a block in the plane
abbrev pub embedding_of : BlockState → Embedding
embedding_of p = record { rotation = p.rotation; locks = p.locks }

-- a block in the plane that may take the place of the one with this view
pub record FitsBlock (v : BlockView) (p : BlockState) : Type 0 where
  pub old : Embedding
  pub present : v.entry ≡ Some old
  pub graph : p.graph ≡ v.tree.part.graph
  pub nodes : p.tree ≡ v.tree.nodes
  pub locks : p.locks ≡ old.locks

-- and its embedding is such a change
abbrev pub IsChangeOf : (BlockTree → Embedding → Embedding → Type 0) → BlockView → BlockState → Type 0
IsChangeOf IsChange v p = (fits : FitsBlock v p) × IsChange v.tree fits.old (embedding_of p)

-- the plan for block b among these: the first code that applies, or where there is none the block in its new embedding
abbrev pub IsPlanAt : Ladder → (BlockTree → Embedding → Embedding → Type 0) → List BlockView → ℕ → Planned → Type 0
IsPlanAt ladder IsChange views b (Refused code) = first_code ladder ≡ Some code
IsPlanAt ladder IsChange views b (Change p) = (b < length views) × (first_code ladder ≡ None) × IsChangeOf IsChange (view_at views b) p

-- code 12 of a mirror image: the least locked node with choices
abbrev pub IsMirrorVerdict : BlockState → Option Code → Type 0
IsMirrorVerdict p None = NoneHeld p
IsMirrorVerdict p (Some code) = (k : ℕ) × IsLeastHeld p k × (code ≡ Locked k)

-- graph, tree and locks stay
abbrev pub KeepsBlock : BlockState → BlockState → Type 0
KeepsBlock p q = KeepsRest p q

-- the first code of a ladder, where one applies
abbrev pub IsVerdict : Ladder → Option Code → Type 0
IsVerdict ladder found = first_code ladder ≡ found

-- code 12, where node k is locked
abbrev pub IsLockVerdict : ℕ → Bool → Option Code → Type 0
IsLockVerdict k locked None = locked ≡ false
IsLockVerdict k locked (Some code) = (locked ≡ true) × (code ≡ Locked k)

-- the keys, in the numbers of the block, are an ordering of those of node k
abbrev pub AreArranged : ℕ → List ℕ → BlockTree → Type 0
AreArranged k keys tree = IsPermutation (node_keys tree.nodes k) (inner_edges tree keys)

-- the first code of a permute of a block, and where none applies the keys are an ordering
abbrev pub IsPermuteVerdict : ℕ → List ℕ → BlockView → Option Code → Type 0
IsPermuteVerdict k keys v None = IsVerdict (permute_codes k keys v.tree v.entry) None × AreArranged k keys v.tree
IsPermuteVerdict k keys v (Some code) = IsVerdict (permute_codes k keys v.tree v.entry) (Some code)

-- what is planned may be put on the board
abbrev pub MayStand : List BlockView → ℕ → Planned → Type 0
MayStand views b (Refused code) = ⊤
MayStand views b (Change p) = (b < length views) × FitsBlock (view_at views b) p

-- the plan is carried out: the line of the code, and nothing changes; or `ok`, and the block is changed
abbrev pub IsSettled : ℕ → Planned → BoardView → List ℕ → BoardView → Type 0
IsSettled b (Refused code) before text after = (text ≡ code_text code) × (after ≡ before)
IsSettled b (Change p) before text after = (text ≡ ok_text) × IsChangedTo before b (embedding_of p) after

-- the plan of a command whose codes are no ladder, for block b among these: the lowest code that applies, or where there is none the
-- block in its new embedding
abbrev pub IsLowestPlanAt : (Code → Type 0) → (BlockTree → Embedding → Embedding → Type 0) → List BlockView → ℕ → Planned → Type 0
IsLowestPlanAt applies IsChange views b (Refused code) = IsLowest applies code
IsLowestPlanAt applies IsChange views b (Change p) = (b < length views) × NoneApplies applies × IsChangeOf IsChange (view_at views b) p

-- codes 6, 7 and 12 of lists that become the rotation system of a block with embedding e
abbrev pub TakenCodes : List (ℕ × List ℕ) → BlockTree → Embedding → Code → Type 0
TakenCodes entries tree e (BadRotation v) = IsFirstBadInPart tree.part entries v
TakenCodes entries tree e (NotGenusZero v x f) = IsNotPlane tree.part entries v x f
TakenCodes entries tree e (Locked k) = IsLockedOut tree entries e k
TakenCodes entries tree e code = ⊥

-- the plan of making lists the rotation system of a block in the plane, which is that part of a graph: refused, or taken
abbrev pub IsTakePlan : GraphPart → List (ℕ × List ℕ) → BlockState → Planned → Type 0
IsTakePlan part entries p (Refused code) = TakenCodes entries (record { part = part; nodes = p.tree }) (embedding_of p) code
IsTakePlan part entries p (Change q) = KeepsBlock p q × IsTaken entries (record { part = part; nodes = p.tree }) (embedding_of p) (embedding_of q)

-- the text is the lines of the moves from the block with this view to another embedding of it
abbrev pub TellsMoves : BlockView → BlockState → List ℕ → Type 0
TellsMoves v p text = (old : Embedding) → v.entry ≡ Some old → text ≡ conversion_text v.tree old (embedding_of p)

-- the plan is carried out with its moves reported: the line of the code, and nothing changes; or the lines of the moves, and the block is
-- changed
abbrev pub IsConverted : ℕ → Planned → BoardView → List ℕ → BoardView → Type 0
IsConverted b (Refused code) before text after = (text ≡ code_text code) × (after ≡ before)
IsConverted b (Change p) before text after = TellsMoves (view_at before.views b) p text × IsChangedTo before b (embedding_of p) after
