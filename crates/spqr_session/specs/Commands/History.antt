-- `undo` and `redo`: the families before and after.
use Rattle.std.specs.Prelude.{◌≡◌, ℕ, Bool, true, false, List, [], ◌∷◌}
use Rattle.spqr_script.specs.Answers.Change.{ok_text}
use Rattle.spqr_session.specs.State.{Family, State}
use Rattle.spqr_session.specs.Codes.{Ladder, Applies, Carries}
use Rattle.spqr_session.specs.declared.code.Code.TheVariants.{NothingToUndo, NothingToRedo}

-- whether the list has none
abbrev pub is_none : {X : Type 0} → List X → Bool
is_none [] = true
is_none (x ∷ xs) = false

-- code 8: there is no earlier family
abbrev pub undo_ladder : State → Ladder
undo_ladder s = (NothingToUndo, is_none s.earlier) ∷ []

-- the nearest earlier family is the present one, and the present one is the nearest later one
pub record Undoes (before : State) (text : List ℕ) (after : State) : Type 0 where
  pub family : Family
  pub others : List Family
  pub nearest : before.earlier ≡ family ∷ others
  pub after_is : after ≡ record { present = family; earlier = others; later = before.present ∷ before.later }
  pub answer : text ≡ ok_text

abbrev pub UndoStep : State → List ℕ → State → Type 0
UndoStep before text after = Carries (Applies (undo_ladder before)) Undoes before text after

-- code 9: there is no later family
abbrev pub redo_ladder : State → Ladder
redo_ladder s = (NothingToRedo, is_none s.later) ∷ []

-- the nearest later family is the present one, and the present one is the nearest earlier one
pub record Redoes (before : State) (text : List ℕ) (after : State) : Type 0 where
  pub family : Family
  pub others : List Family
  pub nearest : before.later ≡ family ∷ others
  pub after_is : after ≡ record { present = family; earlier = before.present ∷ before.earlier; later = others }
  pub answer : text ≡ ok_text

abbrev pub RedoStep : State → List ℕ → State → Type 0
RedoStep before text after = Carries (Applies (redo_ladder before)) Redoes before text after
