-- The line of a move is read back as the command that makes it.
use Rattle.std.proofs.Common.{◌≡◌, ℕ, ◌-◌, ◌<◌, Bool, true, false, ◌==◌, List, [], ◌∷◌, ◌++◌, length, map, slice_index, refl, sym, ap, subst, ◌∙◌, inl, inr, codes, decimal, append_assoc, arith}
use Rattle.std.specs.List.{All, AllZip, list_any, list_all}
use Rattle.std.proofs.lemmas.Bool.{both_ways, cases_Bool, or_from}
use Rattle.std.proofs.lemmas.List.{append-nil, length-append, length-map}
use Rattle.std.proofs.lemmas.List.Elements.{All-nil, All-cons}
use Rattle.std.proofs.lemmas.List.Folds.{list_any-append, list_any_at}
use Rattle.multigraph.specs.Part.{GraphPart}
use Rattle.moves.specs.declared.values.Move.{Move}
use Rattle.moves.specs.declared.values.Move.TheVariants.{Flip, Permute}
use Rattle.spqr_script.specs.Number.{index_limit}
use Rattle.spqr_script.specs.Text.{spaced_numbers, line_end}
use Rattle.spqr_script.specs.Line.{cut_lines, without_return, is_blank, is_passed_over, is_word_byte, tokens_of}
use Rattle.spqr_script.specs.Words.{spelling}
use Rattle.spqr_script.specs.Script.{word_of, SpellsArguments, SpellsCommand, command_lines, Commands}
use Rattle.spqr_script.specs.Answers.Whole.{block_move_text, move_command, IsIndexMove, regroup_text}
use Rattle.spqr_script.specs.declared.command.Command.{Command}
use Rattle.spqr_script.specs.declared.command.Command.TheVariants as command
use Rattle.spqr_script.proofs.Commands.{SpellsLine}
use Rattle.spqr_script.proofs.FromFront.{first_line, other_passed, word_token}
use Rattle.spqr_script.proofs.Printed.{AreIndices, PassesNoDigit, no_word, numbers_tokens, numbers_spelled, numbers_without}

-- ---- a line before a script

-- no carriage return is dropped where there is none
kept : (line : List ℕ) → 0 < length line → list_any (λ b. b == 13) line ≡ false → without_return line ≡ line
kept line some none =
    elim (cases_Bool (slice_index line (length line - 1) == 13)) [
      | inl last ↦ absurd (both_ways (list_any (λ b. b == 13) line) none (list_any_at (λ b. b == 13) line (length line - 1) 0 (omega arith) last))
      | inr other ↦ rw other refl
    ]

line_before : (line rest : List ℕ) (c : Command) (cs : List Command) → list_any (λ b. b == 10) line ≡ false → without_return line ≡ line → is_passed_over line ≡ false → SpellsCommand (tokens_of line) c → Commands rest cs
    → Commands (line ++ 10 ∷ rest) (c ∷ cs)
unfolding Commands
line_before line rest c cs none same over s others =
    let later : List (List ℕ) = map without_return (cut_lines rest) in
    let first : command_lines (line ∷ later) ≡ line ∷ command_lines later = rw over refl in
    let lines = ap (λ (ls : List (List ℕ)). command_lines (map without_return ls)) (first_line line rest none) ∙ ap (λ (l : List ℕ). command_lines (l ∷ later)) same ∙ first in
    subst (λ (ls : List (List ℕ)). AllZip SpellsLine ls (c ∷ cs)) (sym lines) (s, others)

-- ---- a word and numbers

-- bytes of words, none of which ends a line
record IsName (name : List ℕ) : Type 0 where
  some : 0 < length name
  word : list_all is_word_byte name ≡ true
  no_feed : list_any (λ b. b == 10) name ≡ false
  no_return : list_any (λ b. b == 13) name ≡ false

-- a digit is neither
no_feed : PassesNoDigit (λ b. b == 10)
no_feed c r = grind (arith, r.0, r.1)

no_return : PassesNoDigit (λ b. b == 13)
no_return c r = grind (arith, r.0, r.1)

name_without : (p : ℕ → Bool) (name ns : List ℕ) → PassesNoDigit p → p 32 ≡ false → list_any p name ≡ false → AreIndices ns → list_any p (name ++ spaced_numbers ns) ≡ false
name_without p name ns fails blank none small =
    list_any-append p name (spaced_numbers ns) ∙ or_from (list_any p name) (list_any p (spaced_numbers ns)) none (numbers_without p fails blank ns small)

numbers_line : (name ns rest : List ℕ) (c : Command) (cs : List Command) → IsName name → is_passed_over (name ++ spaced_numbers ns) ≡ false → AreIndices ns → name ≡ spelling (word_of c) → SpellsArguments (map decimal ns) c → Commands rest cs
    → Commands ((name ++ spaced_numbers ns) ++ 10 ∷ rest) (c ∷ cs)
numbers_line name ns rest c cs is over small spelled arguments others =
    let tokens = word_token name (spaced_numbers ns) is.some is.word (no_word ns) ∙ ap (λ (ts : List (List ℕ)). name ∷ ts) (numbers_tokens ns small) in
    let same = kept (name ++ spaced_numbers ns) (omega (arith, is.some, length-append name (spaced_numbers ns))) (name_without (λ b. b == 13) name ns no_return refl is.no_return small) in
    line_before (name ++ spaced_numbers ns) rest c cs (name_without (λ b. b == 10) name ns no_feed refl is.no_feed small) same over
    (subst (λ (ts : List (List ℕ)). SpellsCommand ts c) (sym tokens) (spelled, arguments)) others

-- ---- the lines of moves

-- a number, a number and numbers
two_first : (m n : ℕ) (ns : List ℕ) → decimal m ++ codes " " ++ decimal n ++ spaced_numbers ns ≡ decimal m ++ spaced_numbers (n ∷ ns)
two_first m n ns = append_assoc (decimal m ++ codes " ") (decimal n) (spaced_numbers ns) ∙ append_assoc (decimal m) (codes " ") (decimal n ++ spaced_numbers ns)

two : (m n : ℕ) → decimal m ++ codes " " ++ decimal n ≡ decimal m ++ spaced_numbers (n ∷ [])
two m n = sym (append-nil (decimal m ++ codes " " ++ decimal n)) ∙ two_first m n []

-- the end of a line of numbers before a script
ended : (numbers due rest : List ℕ) → numbers ≡ due → (numbers ++ line_end) ++ rest ≡ due ++ 10 ∷ rest
ended numbers due rest e = append_assoc numbers line_end rest ∙ ap (λ (t : List ℕ). t ++ 10 ∷ rest) e

flip_name : IsName (codes "flip")
flip_name = record { some = omega arith; word = refl; no_feed = refl; no_return = refl }

permute_name : IsName (codes "permute")
permute_name = record { some = omega arith; word = refl; no_feed = refl; no_return = refl }

regroup_name : IsName (codes "regroup")
regroup_name = record { some = omega arith; word = refl; no_feed = refl; no_return = refl }

-- none is a comment
not_over : (b : ℕ) (bs : List ℕ) → is_blank b ≡ false → (b == 35) ≡ false → is_passed_over (b ∷ bs) ≡ false
not_over b bs other none = other_passed b bs other ∙ none

pub printed_move : (part : GraphPart) (b : ℕ) (move : Move) (rest : List ℕ) (commands : List Command) → b < index_limit → IsIndexMove part move → Commands rest commands
    → Commands (block_move_text part b move ++ rest) (move_command part b move ∷ commands)
printed_move part b (Flip k) rest commands l small others =
    let ns : List ℕ = b ∷ k ∷ [] in
    let indices : AreIndices ns = All-cons (λ n. n < index_limit) b (k ∷ []) l (All-cons (λ n. n < index_limit) k [] small (All-nil (λ n. n < index_limit))) in
    subst (λ (t : List ℕ). Commands t (command.Flip b k ∷ commands)) (sym (ap (λ (t : List ℕ). codes "flip " ++ t) (ended _ _ rest (two b k))))
    (numbers_line (codes "flip") ns rest (command.Flip b k) commands flip_name (not_over 102 _ refl refl) indices refl (numbers_spelled ns indices) others)
printed_move part b (Permute k keys) rest commands l small others =
    let named : List ℕ = map (slice_index part.edges) keys in
    let ns : List ℕ = b ∷ k ∷ named in
    let some : 0 < length named = omega (arith, small.2, length-map keys (slice_index part.edges)) in
    let indices : AreIndices ns = All-cons (λ n. n < index_limit) b (k ∷ named) l (All-cons (λ n. n < index_limit) k named small.0 small.1) in
    subst (λ (t : List ℕ). Commands t (command.Permute b k named ∷ commands)) (sym (ap (λ (t : List ℕ). codes "permute " ++ t) (ended _ _ rest (two_first b k named))))
    (numbers_line (codes "permute") ns rest (command.Permute b k named) commands permute_name (not_over 112 _ refl refl) indices refl (numbers_spelled ns indices, some) others)

pub printed_arrangement : (v : ℕ) (edges rest : List ℕ) (commands : List Command) → v < index_limit → All (λ e. e < index_limit) edges → 0 < length edges → Commands rest commands
    → Commands (regroup_text v edges ++ rest) (command.Regroup v edges ∷ commands)
printed_arrangement v edges rest commands l small some others =
    let ns : List ℕ = v ∷ edges in
    let indices : AreIndices ns = All-cons (λ n. n < index_limit) v edges l small in
    subst (λ (t : List ℕ). Commands t (command.Regroup v edges ∷ commands)) (sym (ap (λ (t : List ℕ). codes "regroup " ++ t) (ended (decimal v ++ spaced_numbers edges) _ rest refl)))
    (numbers_line (codes "regroup") ns rest (command.Regroup v edges) commands regroup_name (not_over 114 _ refl refl) indices refl (numbers_spelled ns indices, some) others)
