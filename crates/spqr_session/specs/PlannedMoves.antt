-- What a command has planned that makes moves of a block, and what is made of it.
use Rattle.std.specs.Prelude.{◌≡◌, ℕ, ◌<◌, ◌≤◌, ◌^◌, ◌⊎◌, List, length, None, Some, ⊤}
use Rattle.faces.specs.Euler.{IsPlaneSystem}
use Rattle.skeletons.specs.Moves.{Move, Lead}
use Rattle.skel_embed.specs.Block.{BlockState}
use Rattle.skel_embed.specs.Values.{as_moves}
use Rattle.embed_enum.specs.Walk.{IsMemberList, IsAtRank, IsAfter, IsAtLast, AreMovesTo}
use Rattle.spqr_script.specs.Answers.Change.{ok_text, end_text}
use Rattle.spqr_session.specs.Trees.{BlockTree}
use Rattle.spqr_session.specs.State.{Embedding}
use Rattle.spqr_session.specs.Embedded.{BlockView, view_at}
use Rattle.spqr_session.specs.Moved.{AreOfNodes}
use Rattle.spqr_session.specs.Board.{BoardView, CanMake, AreMade}
use Rattle.spqr_session.specs.Codes.{Ladder, code_text, first_code}
use Rattle.spqr_session.specs.Members.{StandsBehind, StandsLast}
use Rattle.spqr_session.specs.Planned.{FitsBlock}
use Rattle.spqr_session.specs.declared.code.Code.TheVariants.{CountOver, RankOut}
use Rattle.spqr_session.specs.declared.planned_moves.PlannedMoves.{PlannedMoves}
use Rattle.spqr_session.specs.declared.planned_moves.PlannedMoves.TheVariants.{Refused, End, Make}

-- moves of a block with this view, of nodes that are all different, and the embedding that they lead to is such a change
pub record AreMovesOf (IsChange : BlockTree → Embedding → Embedding → Type 0) (v : BlockView) (moves : List Move) : Type 0 where
  pub old : Embedding
  pub present : v.entry ≡ Some old
  pub are : AreOfNodes v.tree.nodes moves
  pub change : (q : List (List ℕ)) → Lead v.tree.part.graph v.tree.nodes (IsPlaneSystem v.tree.part.graph) moves old.rotation q → IsChange v.tree old (record { rotation = q; locks = old.locks })

-- a block in the plane is one that moves lead to from the block with this view
pub record IsAfterMoves (v : BlockView) (moves : List Move) (p : BlockState) : Type 0 where
  pub fits : FitsBlock v p
  pub lead : Lead v.tree.part.graph v.tree.nodes (IsPlaneSystem v.tree.part.graph) moves fits.old.rotation p.rotation

-- the plan for block b among these: the first code that applies, or where there is none moves of the block
abbrev pub IsMovesPlanAt : Ladder → (BlockTree → Embedding → Embedding → Type 0) → List BlockView → ℕ → PlannedMoves → Type 0
IsMovesPlanAt ladder IsChange views b (Refused code) = first_code ladder ≡ Some code
IsMovesPlanAt ladder IsChange views b End = ⊥
IsMovesPlanAt ladder IsChange views b (Make moves) = (b < length views) × (first_code ladder ≡ None) × AreMovesOf IsChange (view_at views b) (as_moves moves)

-- the plan of a way to the first member
abbrev pub IsFirstPlan : BlockState → PlannedMoves → Type 0
IsFirstPlan p (Refused code) = ⊥
IsFirstPlan p End = ⊥
IsFirstPlan p (Make moves) = AreMovesTo p (IsAtRank p 0) (as_moves moves)

-- the plan of a way to the member at rank r: refused where the list has 2^128 members or more, or r members or fewer
abbrev pub IsRankPlan : ℕ → BlockState → PlannedMoves → Type 0
IsRankPlan r p (Refused code) = (l : List (List (List ℕ))) → IsMemberList p l
    → ((code ≡ CountOver) × (2 ^ 128 ≤ length l)) ⊎ ((code ≡ RankOut (length l)) × (length l ≤ r) × (length l < 2 ^ 128))
IsRankPlan r p End = ⊥
IsRankPlan r p (Make moves) = AreMovesTo p (IsAtRank p r) (as_moves moves) × ((l : List (List (List ℕ))) → IsMemberList p l → length l < 2 ^ 128)

-- the plan of a way to the member after the present one: there is none, or these moves lead to it
abbrev pub IsStepPlan : BlockState → PlannedMoves → Type 0
IsStepPlan p (Refused code) = ⊥
IsStepPlan p End = IsAtLast p
IsStepPlan p (Make moves) = AreMovesTo p (IsAfter p) (as_moves moves)

-- the block is at its last member
pub record IsAtEnd (v : BlockView) : Type 0 where
  pub entry : Embedding
  pub present : v.entry ≡ Some entry
  pub last : StandsLast v.tree entry

-- the plan of `next` for block b among these
abbrev pub IsNextPlanAt : Ladder → List BlockView → ℕ → PlannedMoves → Type 0
IsNextPlanAt ladder views b (Refused code) = first_code ladder ≡ Some code
IsNextPlanAt ladder views b End = (first_code ladder ≡ None) × IsAtEnd (view_at views b)
IsNextPlanAt ladder views b (Make moves) = (b < length views) × (first_code ladder ≡ None) × AreMovesOf StandsBehind (view_at views b) (as_moves moves)

-- what is planned can be carried out on the board
abbrev pub CanSettle : List BlockView → ℕ → PlannedMoves → Type 0
CanSettle views b (Refused code) = ⊤
CanSettle views b End = ⊤
CanSettle views b (Make moves) = CanMake views b (as_moves moves)

-- the plan is carried out: the line of the code or `end`, and nothing changes; or `ok`, and the moves are made
abbrev pub AreSettled : ℕ → PlannedMoves → BoardView → List ℕ → BoardView → Type 0
AreSettled b (Refused code) before text after = (text ≡ code_text code) × (after ≡ before)
AreSettled b End before text after = (text ≡ end_text) × (after ≡ before)
AreSettled b (Make moves) before text after = (text ≡ ok_text) × AreMade before b (as_moves moves) after
