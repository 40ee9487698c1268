-- What a history becomes once a step that it lends is no longer used.
use Rattle.std.specs.Prelude.{⊤}
use Rattle.std.specs.Borrow.{follows_so, Fml, MutBor}
use mathlib.Core.Option.{none}
use Rattle.undo_log.specs.History.{History}
use Rattle.undo_log.specs.contracts.history.UndoLog.{the_row}

-- the log becomes a history of which this holds
abbrev pub Becomes : MutBor History → (History → Type 0) → Fml
Becomes log Holds = follows_so the_row the_row log.ghost_name none (λ _ _. ⊤) Holds
