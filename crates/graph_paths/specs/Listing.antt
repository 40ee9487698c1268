-- State of a loop: numbers that are appended to a list once, each with a note.
use Rattle.std.specs.Prelude.{◌≡◌, ℕ, ◌<◌, Bool, true, false, List, ◌++◌, length, slice_index_or}
use Rattle.permutations.specs.Members.{is_member, is_distinct}
use Rattle.multigraph.specs.Marks.{is_marked}

-- what is noted of x
abbrev pub note_of : List ℕ → ℕ → ℕ
note_of notes x = slice_index_or notes x 0

-- the numbers with a mark are those on the list, each once, and there is a place for a note of each
pub record AreListed (marks : List Bool) (notes list : List ℕ) : Type 0 where
  pub notes_each : length notes ≡ length marks
  pub within : (x : ℕ) → is_member x list ≡ true → x < length marks
  pub marked : (x : ℕ) → x < length marks → is_marked marks x ≡ is_member x list
  pub once : is_distinct list ≡ true

-- more numbers were appended to the list, each with a note that fits it; the notes of those that were on it are as before
pub record Grows (fits : ℕ → ℕ → Type 0) (list notes new_list new_notes : List ℕ) : Type 0 where
  pub appended : List ℕ
  pub is : new_list ≡ list ++ appended
  pub kept : (x : ℕ) → is_member x list ≡ true → note_of new_notes x ≡ note_of notes x
  pub noted : (x : ℕ) → is_member x new_list ≡ true → is_member x list ≡ false → fits x (note_of new_notes x)
