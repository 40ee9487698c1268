-- The lines of a script, and the tokens of a line.
use Rattle.std.specs.Prelude.{ℕ, ◌-◌, Bool, true, false, not, ◌||◌, ◌==◌, if◌then◌else◌, List, [], ◌∷◌, length, take, map, slice_index}
use Rattle.std.specs.List.{onto_first}

-- the parts of a script that each end in a line feed, without it, and what follows the last line feed if that is not empty
unfoldable pub cut_lines : List ℕ → List (List ℕ)
cut_lines [] = []
cut_lines (b ∷ bs) = (if b == 10 then [] ∷ cut_lines bs else onto_first b (cut_lines bs))

-- a line without the one carriage return at its end, where it has one
abbrev pub without_return : List ℕ → List ℕ
without_return line = (if slice_index line (length line - 1) == 13 then take (length line - 1) line else line)

-- the lines of a script, in order
abbrev pub lines_of : List ℕ → List (List ℕ)
lines_of bytes = map without_return (cut_lines bytes)

-- a space or a tab
abbrev pub is_blank : ℕ → Bool
is_blank b = b == 32 || b == 9

-- a blank comes first
abbrev pub begins_blank : List ℕ → Bool
begins_blank [] = false
begins_blank (b ∷ bs) = is_blank b

-- a line is skipped: it has only blanks, or `#` is its first byte other than these
unfoldable pub is_passed_over : List ℕ → Bool
is_passed_over [] = true
is_passed_over (b ∷ bs) = (if is_blank b then is_passed_over bs else b == 35)

-- `:` or `;`
abbrev pub is_mark : ℕ → Bool
is_mark b = b == 58 || b == 59

-- a byte that words are made of: neither a blank nor a mark
abbrev pub is_word_byte : ℕ → Bool
is_word_byte b = not (is_blank b || is_mark b)

-- such a byte comes first
abbrev pub begins_word : List ℕ → Bool
begins_word [] = false
begins_word (b ∷ bs) = is_word_byte b

-- the tokens of a line: each mark is one, and each longest run of other bytes between blanks and marks is one
unfoldable pub tokens_of : List ℕ → List (List ℕ)
tokens_of [] = []
tokens_of (b ∷ bs) =
    (if is_blank b then tokens_of bs
    else if is_mark b then (b ∷ []) ∷ tokens_of bs
    else if begins_word bs then onto_first b (tokens_of bs)
    else (b ∷ []) ∷ tokens_of bs)
