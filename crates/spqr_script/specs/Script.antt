-- Which commands a script spells, and which line is the first that is not a command.
use Rattle.std.specs.Prelude.{◌≡◌, ℕ, ◌+◌, ◌-◌, ◌<◌, ◌≤◌, Bool, true, false, not, ◌⊎◌, List, [], ◌∷◌, length, filter, slice_index_or, bytes_eq, codes}
use Rattle.std.specs.List.{AllZip, slice_split}
use Rattle.rotations.specs.Entries.{IsRising}
use Rattle.spqr_script.specs.Number.{SpellsNumber, index_limit, rank_limit, max_listed}
use Rattle.spqr_script.specs.Line.{lines_of, is_passed_over, tokens_of}
use Rattle.spqr_script.specs.Words.{spelling}
use Rattle.spqr_script.specs.declared.word.Word.{Word}
use Rattle.spqr_script.specs.declared.word.Word.TheVariants as word
use Rattle.spqr_script.specs.declared.command.Command.{Command}
use Rattle.spqr_script.specs.declared.command.Command.TheVariants as command
use Rattle.spqr_script.specs.declared.command.Command.TheVariants.{Euler, Show, Faces, Flip, Permute, Mirror, First, Next, Goto, ConvertRank, ConvertTo, Take, Undo, Redo, Gml, Count, Rank, Longest, Draw, Lock, Unlock, Whole, Regroup, NextWhole, ListWhole, ConvertWhole}

-- the number of a vertex, an edge, a block, a component, a node or a key
abbrev pub SpellsIndex : List ℕ → ℕ → Type 0
SpellsIndex token n = SpellsNumber index_limit token n

-- such numbers, each a token
abbrev pub SpellsIndices : List (List ℕ) → List ℕ → Type 0
SpellsIndices tokens numbers = AllZip SpellsIndex tokens numbers

-- an entry of a rotation: a vertex, `:`, and zero or more edges
abbrev pub SpellsEntry : List (List ℕ) → ℕ × List ℕ → Type 0
SpellsEntry [] entry = ⊥
SpellsEntry (v ∷ []) entry = ⊥
SpellsEntry (v ∷ mark ∷ edges) entry = SpellsIndex v entry.0 × (mark ≡ codes ":") × SpellsIndices edges entry.1

-- the token `;`, which separates entries
abbrev pub is_semicolon : List ℕ → Bool
is_semicolon token = bytes_eq token (codes ";")

-- a rotation: nothing, or one or more entries with `;` between them, their vertices strictly increasing
abbrev pub SpellsRotation : List (List ℕ) → List (ℕ × List ℕ) → Type 0
SpellsRotation tokens entries =
    ((tokens ≡ []) × (entries ≡ [])) ⊎ (AllZip SpellsEntry (slice_split is_semicolon tokens) entries × IsRising entries)

-- a rank, and nothing else
abbrev pub SpellsRank : List (List ℕ) → ℕ → Type 0
SpellsRank [] r = ⊥
SpellsRank (token ∷ []) r = SpellsNumber rank_limit token r
SpellsRank (token ∷ other ∷ tokens) r = ⊥

-- the number of a block or a component, and after it tokens of which `Others` holds
abbrev pub SpellsBlockThen : ℕ → (List (List ℕ) → Type 0) → List (List ℕ) → Type 0
SpellsBlockThen b Others [] = ⊥
SpellsBlockThen b Others (token ∷ tokens) = SpellsIndex token b × Others tokens

-- this word, and after it tokens of which `Others` holds
abbrev pub SpellsWordThen : List ℕ → (List (List ℕ) → Type 0) → List (List ℕ) → Type 0
SpellsWordThen name Others [] = ⊥
SpellsWordThen name Others (token ∷ tokens) = (token ≡ name) × Others tokens

-- the word of a command
abbrev pub word_of : Command → Word
word_of (Euler entries) = word.Euler
word_of (Show b) = word.Show
word_of (Faces b) = word.Faces
word_of (Flip b k) = word.Flip
word_of (Permute b k keys) = word.Permute
word_of (Mirror b) = word.Mirror
word_of (First b) = word.First
word_of (Next b) = word.Next
word_of (command.List b n) = word.List
word_of (Goto b r) = word.Goto
word_of (ConvertRank b r) = word.Convert
word_of (ConvertTo b entries) = word.Convert
word_of (Take b entries) = word.Take
word_of Undo = word.Undo
word_of Redo = word.Redo
word_of Gml = word.Gml
word_of (Count b) = word.Count
word_of (Rank b) = word.Rank
word_of (Longest b) = word.Longest
word_of (Draw b) = word.Draw
word_of (Lock b k) = word.Lock
word_of (Unlock b k) = word.Unlock
word_of (Whole c) = word.Whole
word_of (Regroup v edges) = word.Regroup
word_of (NextWhole c) = word.NextWhole
word_of (ListWhole c n) = word.ListWhole
word_of (ConvertWhole c entries) = word.ConvertWhole

-- the arguments of a command, which are all tokens after its word: none, a rotation, or the number of a block, and after it a
-- node, a node and one or more keys, how many members, a rank, `rank` and a rank, a rotation, or `to` and a rotation; the number of
-- a component, and after it how many members, or a rotation; or the number of a vertex and one or more edges
abbrev pub SpellsArguments : List (List ℕ) → Command → Type 0
SpellsArguments tokens (Euler entries) = SpellsRotation tokens entries
SpellsArguments tokens (Show b) = SpellsIndices tokens (b ∷ [])
SpellsArguments tokens (Faces b) = SpellsIndices tokens (b ∷ [])
SpellsArguments tokens (Flip b k) = SpellsIndices tokens (b ∷ k ∷ [])
SpellsArguments tokens (Permute b k keys) = SpellsIndices tokens (b ∷ k ∷ keys) × (0 < length keys)
SpellsArguments tokens (Mirror b) = SpellsIndices tokens (b ∷ [])
SpellsArguments tokens (First b) = SpellsIndices tokens (b ∷ [])
SpellsArguments tokens (Next b) = SpellsIndices tokens (b ∷ [])
SpellsArguments tokens (command.List b n) = SpellsIndices tokens (b ∷ n ∷ []) × ((0 < n) × (n ≤ max_listed))
SpellsArguments tokens (Goto b r) = SpellsBlockThen b (λ others. SpellsRank others r) tokens
SpellsArguments tokens (ConvertRank b r) = SpellsBlockThen b (SpellsWordThen (codes "rank") (λ others. SpellsRank others r)) tokens
SpellsArguments tokens (ConvertTo b entries) = SpellsBlockThen b (SpellsWordThen (codes "to") (λ others. SpellsRotation others entries)) tokens
SpellsArguments tokens (Take b entries) = SpellsBlockThen b (λ others. SpellsRotation others entries) tokens
SpellsArguments tokens Undo = tokens ≡ []
SpellsArguments tokens Redo = tokens ≡ []
SpellsArguments tokens Gml = tokens ≡ []
SpellsArguments tokens (Count b) = SpellsIndices tokens (b ∷ [])
SpellsArguments tokens (Rank b) = SpellsIndices tokens (b ∷ [])
SpellsArguments tokens (Longest b) = SpellsIndices tokens (b ∷ [])
SpellsArguments tokens (Draw b) = SpellsIndices tokens (b ∷ [])
SpellsArguments tokens (Lock b k) = SpellsIndices tokens (b ∷ k ∷ [])
SpellsArguments tokens (Unlock b k) = SpellsIndices tokens (b ∷ k ∷ [])
SpellsArguments tokens (Whole c) = SpellsIndices tokens (c ∷ [])
SpellsArguments tokens (Regroup v edges) = SpellsIndices tokens (v ∷ edges) × (0 < length edges)
SpellsArguments tokens (NextWhole c) = SpellsIndices tokens (c ∷ [])
SpellsArguments tokens (ListWhole c n) = SpellsIndices tokens (c ∷ n ∷ []) × ((0 < n) × (n ≤ max_listed))
SpellsArguments tokens (ConvertWhole c entries) = SpellsBlockThen c (λ others. SpellsRotation others entries) tokens

-- the tokens of a line are a command: its word, and after it its arguments
abbrev pub SpellsCommand : List (List ℕ) → Command → Type 0
SpellsCommand [] command = ⊥
SpellsCommand (name ∷ tokens) command = (name ≡ spelling (word_of command)) × SpellsArguments tokens command

-- the lines that are not skipped
abbrev pub command_lines : List (List ℕ) → List (List ℕ)
command_lines lines = filter (λ line. not (is_passed_over line)) lines

-- the bytes spell the commands: each line that is not skipped is one of them, in order
unfoldable pub Commands : List ℕ → List Command → Type 0
Commands bytes commands = AllZip (λ line command. SpellsCommand (tokens_of line) command) (command_lines (lines_of bytes)) commands

-- a line that is skipped or a command
abbrev pub IsAccepted : List ℕ → Type 0
IsAccepted line = (is_passed_over line ≡ true) ⊎ ((command : Command) × SpellsCommand (tokens_of line) command)

-- a line that is neither
abbrev pub IsRefusedLine : List ℕ → Type 0
IsRefusedLine line = (is_passed_over line ≡ false) × ((command : Command) → SpellsCommand (tokens_of line) command → ⊥)

-- the line with this number is the first that is refused; lines are numbered from 1
unfoldable pub IsFirstBadLine : List ℕ → ℕ → Type 0
IsFirstBadLine bytes line =
    (0 < line) × (line ≤ length (lines_of bytes)) × IsRefusedLine (slice_index_or (lines_of bytes) (line - 1) [])
    × ((k : ℕ) → k + 1 < line → IsAccepted (slice_index_or (lines_of bytes) k []))
