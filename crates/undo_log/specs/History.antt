-- A history: steps, and a cursor after those that hold.
use Rattle.std.specs.Prelude.{◌≡◌, ℕ, ◌+◌, ◌<◌, List, [], ◌∷◌, ◌++◌, length, take, slice_index_or}
use Rattle.undo_log.specs.declared.step.Step.{Step}

-- the steps, how many of them hold, and for how many there is room
pub record History : Type 0 where
  pub steps : List Step
  pub cursor : ℕ
  pub room : ℕ

-- there is room for a step after the cursor
abbrev pub HasRoom : History → Type 0
HasRoom h = h.cursor < h.room

-- the steps past the cursor were dropped, this one was added, and the cursor is after it
pub record Noted (old : History) (s : Step) (new : History) : Type 0 where
  pub steps : new.steps ≡ take old.cursor old.steps ++ s ∷ []
  pub cursor : new.cursor ≡ old.cursor + 1
  pub room : new.room ≡ old.room

-- the step at this place, counted from 0
pub record IsStepAt (steps : List Step) (i : ℕ) (s : Step) : Type 0 where
  pub within : i < length steps
  pub is : slice_index_or steps i s ≡ s

-- the cursor went back over this step, and all else stayed
pub record WentBack (old : History) (s : Step) (new : History) : Type 0 where
  pub cursor : new.cursor + 1 ≡ old.cursor
  pub steps : new.steps ≡ old.steps
  pub room : new.room ≡ old.room
  pub passed : IsStepAt old.steps new.cursor s

-- no step is before the cursor, and all stayed
pub record NoneBefore (old new : History) : Type 0 where
  pub first : old.cursor ≡ 0
  pub stays : new ≡ old

-- the cursor went on over this step, and all else stayed
pub record WentOn (old : History) (s : Step) (new : History) : Type 0 where
  pub cursor : new.cursor ≡ old.cursor + 1
  pub steps : new.steps ≡ old.steps
  pub room : new.room ≡ old.room
  pub passed : IsStepAt old.steps old.cursor s

-- no step is after the cursor, and all stayed
pub record NoneAfter (old new : History) : Type 0 where
  pub last : old.cursor ≡ length old.steps
  pub stays : new ≡ old
