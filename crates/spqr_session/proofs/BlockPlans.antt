-- Plans and codes of one block, as the lemmas about the plan of a block among others speak of them.
use Rattle.std.specs.Prelude.{◌≡◌, ℕ, List, Option, None, Some}
use Rattle.spqr_session.specs.Trees.{BlockTree}
use Rattle.spqr_session.specs.State.{Embedding}
use Rattle.spqr_session.specs.Embedded.{BlockView}
use Rattle.spqr_session.specs.Codes.{Ladder, IsLowest, NoneApplies, first_code}
use Rattle.spqr_session.specs.declared.code.Code.{Code}
use Rattle.spqr_session.specs.declared.code.Code.TheVariants.{NonPlanar}
use Rattle.spqr_session.specs.declared.planned.Planned.{Planned}
use Rattle.spqr_session.specs.declared.planned.Planned.TheVariants.{Refused, Change}
use Rattle.spqr_session.specs.Planned.{IsChangeOf, TakenCodes}

-- the plan for a block with this view: the first code that applies, or where there is none the block in its new embedding
abbrev pub IsPlan : Ladder → (BlockTree → Embedding → Embedding → Type 0) → BlockView → Planned → Type 0
IsPlan ladder IsChange v (Refused code) = first_code ladder ≡ Some code
IsPlan ladder IsChange v (Change p) = (first_code ladder ≡ None) × IsChangeOf IsChange v p

-- the plan of a command whose codes are no ladder, for a block with this view: the lowest code that applies, or where there is none
-- the block in its new embedding
abbrev pub IsLowestPlan : (Code → Type 0) → (BlockTree → Embedding → Embedding → Type 0) → BlockView → Planned → Type 0
IsLowestPlan applies IsChange v (Refused code) = IsLowest applies code
IsLowestPlan applies IsChange v (Change p) = NoneApplies applies × IsChangeOf IsChange v p

-- code 5, and those of lists that become the rotation system of a block
abbrev pub EntryTakenCodes : List (ℕ × List ℕ) → BlockTree → Option Embedding → Code → Type 0
EntryTakenCodes entries tree None code = code ≡ NonPlanar
EntryTakenCodes entries tree (Some e) code = TakenCodes entries tree e code
