-- The codes by which commands are refused, and which of those that apply is given.
use Rattle.std.specs.Prelude.{◌≡◌, ℕ, ◌≤◌, ◌⊎◌, Bool, true, false, ◌&&◌, nat_lt, List, [], ◌∷◌, Option, None, Some}
use Rattle.spqr_script.specs.Answers.Error.{error_text}
use Rattle.spqr_session.specs.State.{State}
use Rattle.spqr_session.specs.declared.code.Code.{Code}
use Rattle.spqr_session.specs.declared.code.Code.TheVariants.{NoBlock, NoNode, WrongKind, BadOrder, NonPlanar, BadRotation, NotGenusZero, NothingToUndo, NothingToRedo, CountOver, RankOut, Locked, LockedIn, Parallel, NoComponent, NoCut, BlockOrder, Cross}

-- the number of a code
abbrev pub code_number : Code → ℕ
code_number NoBlock = 1
code_number NoNode = 2
code_number WrongKind = 3
code_number BadOrder = 4
code_number NonPlanar = 5
code_number (BadRotation v) = 6
code_number (NotGenusZero v e f) = 7
code_number NothingToUndo = 8
code_number NothingToRedo = 9
code_number CountOver = 10
code_number (RankOut n) = 11
code_number (Locked k) = 12
code_number (LockedIn b k) = 12
code_number (Parallel a b) = 13
code_number NoComponent = 14
code_number NoCut = 15
code_number (BlockOrder b) = 16
code_number (Cross b c) = 17

-- the numbers that are reported with it
abbrev pub code_numbers : Code → List ℕ
code_numbers NoBlock = []
code_numbers NoNode = []
code_numbers WrongKind = []
code_numbers BadOrder = []
code_numbers NonPlanar = []
code_numbers (BadRotation v) = v ∷ []
code_numbers (NotGenusZero v e f) = v ∷ e ∷ f ∷ []
code_numbers NothingToUndo = []
code_numbers NothingToRedo = []
code_numbers CountOver = []
code_numbers (RankOut n) = n ∷ []
code_numbers (Locked k) = k ∷ []
code_numbers (LockedIn b k) = b ∷ k ∷ []
code_numbers (Parallel a b) = a ∷ b ∷ []
code_numbers NoComponent = []
code_numbers NoCut = []
code_numbers (BlockOrder b) = b ∷ []
code_numbers (Cross b c) = b ∷ c ∷ []

-- the line of a code: `error CODE N ..`
abbrev pub code_text : Code → List ℕ
code_text code = error_text (code_number code) (code_numbers code)

-- the code applies, and no lower one does
pub record IsLowest (applies : Code → Type 0) (code : Code) : Type 0 where
  pub met : applies code
  pub least : (other : Code) → applies other → code_number code ≤ code_number other

-- no code applies
abbrev pub NoneApplies : (Code → Type 0) → Type 0
NoneApplies applies = (code : Code) → applies code → ⊥

-- a command is refused: the text is the line of the lowest code that applies, and the state stays
pub record RefusesCommand (applies : Code → Type 0) (before : State) (text : List ℕ) (after : State) : Type 0 where
  pub code : Code
  pub lowest : IsLowest applies code
  pub line : text ≡ code_text code
  pub stays : after ≡ before

-- a command is carried out: it is refused where a code applies, and does what is its own where none does
abbrev pub Carries : (Code → Type 0) → (State → List ℕ → State → Type 0) → State → List ℕ → State → Type 0
Carries applies does before text after = RefusesCommand applies before text after ⊎ (NoneApplies applies × does before text after)

-- codes one after another, each with whether it applies
abbrev pub Ladder : Type 0
Ladder = List (Code × Bool)

-- the code is one of the ladder that applies
abbrev pub Applies : Ladder → Code → Type 0
Applies [] code = ⊥
Applies (rung ∷ ladder) code = ((rung.0 ≡ code) × (rung.1 ≡ true)) ⊎ Applies ladder code

-- whether the numbers of the codes increase, from one above n on
abbrev pub rises_above : ℕ → Ladder → Bool
rises_above n [] = true
rises_above n (rung ∷ ladder) = nat_lt n (code_number rung.0) && rises_above (code_number rung.0) ladder

-- the first code of the ladder that applies: the lowest, where the numbers increase
abbrev pub first_code : Ladder → Option Code
first_code [] = None
first_code ((code, true) ∷ ladder) = Some code
first_code ((code, false) ∷ ladder) = first_code ladder
