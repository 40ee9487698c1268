-- Reading as functions on lists: what the functions of the reader return. proofs/ shows that it agrees with `Script`.
use Rattle.std.specs.Prelude.{◌≡◌, ℕ, ◌+◌, ◌-◌, Bool, not, ◌&&◌, ◌||◌, ◌==◌, nat_lt, if◌then◌else◌, List, [], ◌∷◌, ◌++◌, length, Option, Some, None, option_map, Result, Ok, Err, bytes_eq, codes}
use Rattle.std.specs.Option.{option_and_then}
use Rattle.std.specs.List.{slice_split}
use Rattle.gml_graph.specs.Start.{with_first}
use Rattle.rotations.specs.Entries.{entry}
use Rattle.spqr_script.specs.Number.{number_below, index_limit, rank_limit, max_listed}
use Rattle.spqr_script.specs.Line.{is_passed_over, tokens_of}
use Rattle.spqr_script.specs.Script.{is_semicolon}
use Rattle.std.specs.Global.{Vec}
use Rattle.spqr_script.specs.declared.command.ScriptFault.{ScriptFault}
use Rattle.spqr_script.specs.declared.command.ScriptFault.TheVariants.{BadLine, Memory}
use Rattle.spqr_script.specs.Words.{all_words, word_among}
use Rattle.spqr_script.specs.declared.word.Word.{Word}
use Rattle.spqr_script.specs.declared.word.Word.TheVariants as word
use Rattle.spqr_script.specs.declared.command.Command.{Command}
use Rattle.spqr_script.specs.declared.command.Command.TheVariants as command
use Rattle.spqr_script.specs.declared.command.Command.TheVariants.{Euler, Show, Faces, Flip, Permute, Mirror, First, Next, Goto, ConvertRank, ConvertTo, Take, Undo, Redo, Gml, Count, Rank, Longest, Draw, Lock, Unlock, Whole, Regroup, NextWhole, ListWhole, ConvertWhole}

-- the number of a vertex, an edge, a block, a component, a node or a key
abbrev pub index_of : List ℕ → Option ℕ
index_of token = number_below index_limit token

-- the numbers of tokens, where each is one
unfoldable pub indices_of : List (List ℕ) → Option (List ℕ)
indices_of [] = Some []
indices_of (token ∷ tokens) = with_first (index_of token) (indices_of tokens)

-- the numbers so far, and others after them if they are there
abbrev pub put_behind : List ℕ → Option (List ℕ) → Option (List ℕ)
put_behind front others = option_map (λ ns. front ++ ns) others

-- a pair, where both parts are there
abbrev pub pair_of : Option ℕ → Option (List ℕ) → Option (ℕ × List ℕ)
pair_of None edges = None
pair_of (Some v) edges = option_map (λ es. (v, es)) edges

-- an entry of a rotation
unfoldable pub entry_of : List (List ℕ) → Option (ℕ × List ℕ)
entry_of [] = None
entry_of (v ∷ []) = None
entry_of (v ∷ mark ∷ edges) = (if bytes_eq mark (codes ":") then pair_of (index_of v) (indices_of edges) else None)

-- v is above the vertex of the last entry, if there is one
abbrev pub is_above : List (ℕ × List ℕ) → ℕ → Bool
is_above entries v = length entries == 0 || nat_lt (entry entries (length entries - 1)).0 v

-- the entries so far and one more, if its vertex is above them, and then those that `further` appends
abbrev pub entry_then : List (ℕ × List ℕ) → Option (ℕ × List ℕ) → (List (ℕ × List ℕ) → Option (List (ℕ × List ℕ))) → Option (List (ℕ × List ℕ))
entry_then so_far None further = None
entry_then so_far (Some next) further = (if is_above so_far next.0 then further (so_far ++ next ∷ []) else None)

-- the entries so far and one for each part, their vertices increasing
unfoldable pub entries_after : List (ℕ × List ℕ) → List (List (List ℕ)) → Option (List (ℕ × List ℕ))
entries_after so_far [] = Some so_far
entries_after so_far (part ∷ parts) = entry_then so_far (entry_of part) (λ longer. entries_after longer parts)

-- a rotation
unfoldable pub rotation_of : List (List ℕ) → Option (List (ℕ × List ℕ))
rotation_of [] = Some []
rotation_of (token ∷ tokens) = entries_after [] (slice_split is_semicolon (token ∷ tokens))

-- the command without arguments, where no token is left
abbrev pub alone : Command → List (List ℕ) → Option Command
alone command [] = Some command
alone command (token ∷ tokens) = None

-- the number that the first token spells, if it is below the limit, and the tokens after it
abbrev pub first_number : ℕ → List (List ℕ) → Option (ℕ × List (List ℕ))
first_number limit [] = None
first_number limit (token ∷ tokens) = option_map (λ n. (n, tokens)) (number_below limit token)

-- the command that is read with a number, which comes first, from the tokens after it
abbrev pub number_then : ℕ → (ℕ → List (List ℕ) → Option Command) → List (List ℕ) → Option Command
number_then limit further tokens = option_and_then (λ first. further first.0 first.1) (first_number limit tokens)

-- the same with the number of a block, a node or a key
abbrev pub index_then : (ℕ → List (List ℕ) → Option Command) → List (List ℕ) → Option Command
index_then further tokens = number_then index_limit further tokens

-- one or more numbers of tokens
abbrev pub keys_of : List (List ℕ) → Option (List ℕ)
keys_of [] = None
keys_of (token ∷ tokens) = indices_of (token ∷ tokens)

-- this many members can be listed at once
abbrev pub can_list : ℕ → Bool
can_list n = nat_lt 0 n && not (nat_lt max_listed n)

-- the command that is read with how many members are listed, and those that remain
abbrev pub list_of : (ℕ → Command) → ℕ → List (List ℕ) → Option Command
list_of make n tokens = (if can_list n then alone (make n) tokens else None)

-- the command that is read with a rank, which is all tokens
abbrev pub with_rank : (ℕ → Command) → List (List ℕ) → Option Command
with_rank make tokens = number_then rank_limit (λ r. alone (make r)) tokens

-- the command that is read with a rotation, which is all tokens
abbrev pub with_rotation : (List (ℕ × List ℕ) → Command) → List (List ℕ) → Option Command
with_rotation make tokens = option_map make (rotation_of tokens)

-- a conversion of block b: `rank` and a rank, or `to` and a rotation
abbrev pub convert_of : ℕ → List (List ℕ) → Option Command
convert_of b [] = None
convert_of b (name ∷ tokens) =
    (if bytes_eq name (codes "rank") then with_rank (ConvertRank b) tokens
    else if bytes_eq name (codes "to") then with_rotation (ConvertTo b) tokens
    else None)

-- the command with this word, if the tokens after it are its arguments
abbrev pub arguments_of : Word → List (List ℕ) → Option Command
arguments_of word.Euler tokens = with_rotation Euler tokens
arguments_of word.Show tokens = index_then (λ b. alone (Show b)) tokens
arguments_of word.Faces tokens = index_then (λ b. alone (Faces b)) tokens
arguments_of word.Flip tokens = index_then (λ b. index_then (λ k. alone (Flip b k))) tokens
arguments_of word.Permute tokens = index_then (λ b. index_then (λ k others. option_map (λ keys. Permute b k keys) (keys_of others))) tokens
arguments_of word.Mirror tokens = index_then (λ b. alone (Mirror b)) tokens
arguments_of word.First tokens = index_then (λ b. alone (First b)) tokens
arguments_of word.Next tokens = index_then (λ b. alone (Next b)) tokens
arguments_of word.List tokens = index_then (λ b. index_then (list_of (command.List b))) tokens
arguments_of word.Goto tokens = index_then (λ b. with_rank (Goto b)) tokens
arguments_of word.Convert tokens = index_then convert_of tokens
arguments_of word.Take tokens = index_then (λ b. with_rotation (Take b)) tokens
arguments_of word.Undo tokens = alone Undo tokens
arguments_of word.Redo tokens = alone Redo tokens
arguments_of word.Gml tokens = alone Gml tokens
arguments_of word.Count tokens = index_then (λ b. alone (Count b)) tokens
arguments_of word.Rank tokens = index_then (λ b. alone (Rank b)) tokens
arguments_of word.Longest tokens = index_then (λ b. alone (Longest b)) tokens
arguments_of word.Draw tokens = index_then (λ b. alone (Draw b)) tokens
arguments_of word.Lock tokens = index_then (λ b. index_then (λ k. alone (Lock b k))) tokens
arguments_of word.Unlock tokens = index_then (λ b. index_then (λ k. alone (Unlock b k))) tokens
arguments_of word.Whole tokens = index_then (λ c. alone (Whole c)) tokens
arguments_of word.Regroup tokens = index_then (λ v others. option_map (λ edges. Regroup v edges) (keys_of others)) tokens
arguments_of word.NextWhole tokens = index_then (λ c. alone (NextWhole c)) tokens
arguments_of word.ListWhole tokens = index_then (λ c. index_then (list_of (ListWhole c))) tokens
arguments_of word.ConvertWhole tokens = index_then (λ c. with_rotation (ConvertWhole c)) tokens

-- the same, where there is a word
abbrev pub command_with : Option Word → List (List ℕ) → Option Command
command_with None tokens = None
command_with (Some word) tokens = arguments_of word tokens

-- a command: its first token is found in the table of words
unfoldable pub command_of : List (List ℕ) → Option Command
command_of [] = None
command_of (name ∷ tokens) = command_with (word_among all_words name) tokens

-- a command and those after it, or the first line that is not a command
abbrev pub command_and : ℕ → Option Command → Result (List Command) ℕ → Result (List Command) ℕ
command_and line None others = Err line
command_and line (Some command) (Ok commands) = Ok (command ∷ commands)
command_and line (Some command) (Err bad) = Err bad

-- the commands of lines that are numbered from `line` on, or the first that is neither skipped nor a command
unfoldable pub commands_from : ℕ → List (List ℕ) → Result (List Command) ℕ
commands_from line [] = Ok []
commands_from line (text ∷ texts) =
    (if is_passed_over text then commands_from (line + 1) texts
    else command_and line (command_of (tokens_of text)) (commands_from (line + 1) texts))

-- a result is the correct reading, or out of memory
abbrev pub Gives : Result (Vec Command) ScriptFault → Result (List Command) ℕ → Type 0
Gives (Ok commands) due = due ≡ Ok commands.items
Gives (Err (BadLine line)) due = due ≡ Err line
Gives (Err Memory) due = Unit {0}
