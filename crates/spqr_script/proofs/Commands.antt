-- Reading a line's tokens and a script's lines gives what they spell, and all that they spell.
use Rattle.std.proofs.Common.{◌≡◌, ℕ, zero, suc, ◌+◌, ◌<◌, false, List, [], ◌∷◌, length, get_or, Option, Some, None, Result, Ok, Err, refl, sym, ap, subst, ◌∙◌, inl, inr, ◌⊎◌, arith}
use Rattle.std.specs.List.{AllZip}
use Rattle.std.proofs.lemmas.Bool.{cases_Bool}
use Rattle.std.proofs.lemmas.Option.{none-some}
use Rattle.spqr_script.specs.Line.{is_passed_over, tokens_of}
use Rattle.spqr_script.specs.Words.{spelling, all_words, word_among}
use Rattle.spqr_script.specs.Script.{word_of, SpellsArguments, SpellsCommand, command_lines, IsAccepted, IsRefusedLine}
use Rattle.spqr_script.specs.Reading.{arguments_of, command_with, command_of, command_and, commands_from}
use Rattle.spqr_script.specs.declared.word.Word.{Word}
use Rattle.spqr_script.specs.declared.word.Word.TheVariants as word
use Rattle.spqr_script.specs.declared.command.Command.{Command}
use Rattle.spqr_script.specs.declared.command.Command.TheVariants as command
use Rattle.spqr_script.specs.declared.command.Command.TheVariants.{Euler, Show, Faces, Flip, Permute, Mirror, First, Next, Goto, ConvertRank, ConvertTo, Take, Undo, Redo, Gml, Count, Rank, Longest, Draw, Lock, Unlock, Whole, Regroup, NextWhole, ListWhole, ConvertWhole}
use Rattle.spqr_script.proofs.Words.{found_spelled, word_found}
use Rattle.spqr_script.proofs.Forms.{alone_spelled, alone_read, with_rotation_spelled, with_rotation_read, block_spelled, block_read, node_spelled, node_read, numbers_spelled, numbers_read, keys_spelled, keys_read, listed_spelled, listed_read, rank_spelled, rank_read, rotation_behind_spelled, rotation_read_behind, convert_spelled, convert_rank_read, convert_to_read}

-- ---- one command

-- the word of a command, and behind it its arguments
abbrev IsSpelled : Word → List (List ℕ) → Command → Type 0
IsSpelled w tokens c = (w ≡ word_of c) × SpellsArguments tokens c

-- what is read behind a word is its command, spelled so
arguments_spelled : (w : Word) (tokens : List (List ℕ)) (c : Command) → arguments_of w tokens ≡ Some c → IsSpelled w tokens c
arguments_spelled word.Euler tokens c e =
    let p = with_rotation_spelled Euler tokens c e in
    subst (IsSpelled word.Euler tokens) p.1 (refl, p.2)
arguments_spelled word.Show tokens c e =
    let p = block_spelled Show tokens c e in
    subst (IsSpelled word.Show tokens) p.1 (refl, p.2)
arguments_spelled word.Faces tokens c e =
    let p = block_spelled Faces tokens c e in
    subst (IsSpelled word.Faces tokens) p.1 (refl, p.2)
arguments_spelled word.Flip tokens c e =
    let p = node_spelled Flip tokens c e in
    subst (IsSpelled word.Flip tokens) p.2 (refl, p.3)
arguments_spelled word.Permute tokens c e =
    let p = keys_spelled Permute tokens c e in
    subst (IsSpelled word.Permute tokens) p.3 (refl, p.4)
arguments_spelled word.Mirror tokens c e =
    let p = block_spelled Mirror tokens c e in
    subst (IsSpelled word.Mirror tokens) p.1 (refl, p.2)
arguments_spelled word.First tokens c e =
    let p = block_spelled First tokens c e in
    subst (IsSpelled word.First tokens) p.1 (refl, p.2)
arguments_spelled word.Next tokens c e =
    let p = block_spelled Next tokens c e in
    subst (IsSpelled word.Next tokens) p.1 (refl, p.2)
arguments_spelled word.List tokens c e =
    let p = listed_spelled command.List tokens c e in
    subst (IsSpelled word.List tokens) p.2 (refl, p.3)
arguments_spelled word.Goto tokens c e =
    let p = rank_spelled Goto tokens c e in
    subst (IsSpelled word.Goto tokens) p.2 (refl, p.3)
arguments_spelled word.Convert tokens c e =
    elim (convert_spelled tokens c e) [
      | inl p ↦ subst (IsSpelled word.Convert tokens) p.2 (refl, p.3)
      | inr p ↦ subst (IsSpelled word.Convert tokens) p.2 (refl, p.3)
    ]
arguments_spelled word.Take tokens c e =
    let p = rotation_behind_spelled Take tokens c e in
    subst (IsSpelled word.Take tokens) p.2 (refl, p.3)
arguments_spelled word.Undo tokens c e =
    let p = alone_spelled Undo tokens c e in
    subst (IsSpelled word.Undo tokens) p.1 (refl, p.0)
arguments_spelled word.Redo tokens c e =
    let p = alone_spelled Redo tokens c e in
    subst (IsSpelled word.Redo tokens) p.1 (refl, p.0)
arguments_spelled word.Gml tokens c e =
    let p = alone_spelled Gml tokens c e in
    subst (IsSpelled word.Gml tokens) p.1 (refl, p.0)
arguments_spelled word.Count tokens c e =
    let p = block_spelled Count tokens c e in
    subst (IsSpelled word.Count tokens) p.1 (refl, p.2)
arguments_spelled word.Rank tokens c e =
    let p = block_spelled Rank tokens c e in
    subst (IsSpelled word.Rank tokens) p.1 (refl, p.2)
arguments_spelled word.Longest tokens c e =
    let p = block_spelled Longest tokens c e in
    subst (IsSpelled word.Longest tokens) p.1 (refl, p.2)
arguments_spelled word.Draw tokens c e =
    let p = block_spelled Draw tokens c e in
    subst (IsSpelled word.Draw tokens) p.1 (refl, p.2)
arguments_spelled word.Lock tokens c e =
    let p = node_spelled Lock tokens c e in
    subst (IsSpelled word.Lock tokens) p.2 (refl, p.3)
arguments_spelled word.Unlock tokens c e =
    let p = node_spelled Unlock tokens c e in
    subst (IsSpelled word.Unlock tokens) p.2 (refl, p.3)
arguments_spelled word.Whole tokens c e =
    let p = block_spelled Whole tokens c e in
    subst (IsSpelled word.Whole tokens) p.1 (refl, p.2)
arguments_spelled word.Regroup tokens c e =
    let p = numbers_spelled Regroup tokens c e in
    subst (IsSpelled word.Regroup tokens) p.2 (refl, p.3)
arguments_spelled word.NextWhole tokens c e =
    let p = block_spelled NextWhole tokens c e in
    subst (IsSpelled word.NextWhole tokens) p.1 (refl, p.2)
arguments_spelled word.ListWhole tokens c e =
    let p = listed_spelled ListWhole tokens c e in
    subst (IsSpelled word.ListWhole tokens) p.2 (refl, p.3)
arguments_spelled word.ConvertWhole tokens c e =
    let p = rotation_behind_spelled ConvertWhole tokens c e in
    subst (IsSpelled word.ConvertWhole tokens) p.2 (refl, p.3)

-- and what is spelled behind the word of a command is read
arguments_read : (tokens : List (List ℕ)) (c : Command) → SpellsArguments tokens c → arguments_of (word_of c) tokens ≡ Some c
arguments_read tokens (Euler entries) s = with_rotation_read Euler tokens entries s
arguments_read tokens (Show b) s = block_read Show tokens b s
arguments_read tokens (Faces b) s = block_read Faces tokens b s
arguments_read tokens (Flip b k) s = node_read Flip tokens b k s
arguments_read tokens (Permute b k keys) s = keys_read Permute tokens b k keys s
arguments_read tokens (Mirror b) s = block_read Mirror tokens b s
arguments_read tokens (First b) s = block_read First tokens b s
arguments_read tokens (Next b) s = block_read Next tokens b s
arguments_read tokens (command.List b n) s = listed_read command.List tokens b n s
arguments_read tokens (Goto b r) s = rank_read Goto tokens b r s
arguments_read tokens (ConvertRank b r) s = convert_rank_read tokens b r s
arguments_read tokens (ConvertTo b entries) s = convert_to_read tokens b entries s
arguments_read tokens (Take b entries) s = rotation_read_behind Take tokens b entries s
arguments_read tokens Undo s = alone_read Undo tokens s
arguments_read tokens Redo s = alone_read Redo tokens s
arguments_read tokens Gml s = alone_read Gml tokens s
arguments_read tokens (Count b) s = block_read Count tokens b s
arguments_read tokens (Rank b) s = block_read Rank tokens b s
arguments_read tokens (Longest b) s = block_read Longest tokens b s
arguments_read tokens (Draw b) s = block_read Draw tokens b s
arguments_read tokens (Lock b k) s = node_read Lock tokens b k s
arguments_read tokens (Unlock b k) s = node_read Unlock tokens b k s
arguments_read tokens (Whole c) s = block_read Whole tokens c s
arguments_read tokens (Regroup v edges) s = numbers_read Regroup tokens v edges s
arguments_read tokens (NextWhole c) s = block_read NextWhole tokens c s
arguments_read tokens (ListWhole c n) s = listed_read ListWhole tokens c n s
arguments_read tokens (ConvertWhole c entries) s = rotation_read_behind ConvertWhole tokens c entries s

-- a command has a word
with_word : (o : Option Word) (tokens : List (List ℕ)) (c : Command) → command_with o tokens ≡ Some c → (w : Word) × (o ≡ Some w) × (arguments_of w tokens ≡ Some c)
with_word None tokens c e = absurd (none-some c e)
with_word (Some w) tokens c e = (w, refl, e)

pub command_spelled : (tokens : List (List ℕ)) (c : Command) → command_of tokens ≡ Some c → SpellsCommand tokens c
unfolding command_of
command_spelled [] c e = absurd (none-some c e)
command_spelled (name ∷ tokens) c e =
    let p = with_word (word_among all_words name) tokens c e in
    let q = arguments_spelled p.0 tokens c p.2 in
    (found_spelled all_words name p.0 p.1 ∙ ap spelling q.0, q.1)

pub command_read : (tokens : List (List ℕ)) (c : Command) → SpellsCommand tokens c → command_of tokens ≡ Some c
unfolding command_of
command_read [] c s = absurd s
command_read (name ∷ tokens) c s =
    ap (λ (n : List ℕ). command_with (word_among all_words n) tokens) s.0 ∙ ap (λ (o : Option Word). command_with o tokens) (word_found (word_of c)) ∙ arguments_read tokens c s.1

-- ---- the lines of a script

-- a command on a line
abbrev pub SpellsLine : List ℕ → Command → Type 0
SpellsLine line command = SpellsCommand (tokens_of line) command

and_ok : (line : ℕ) (o : Option Command) (others : Result (List Command) ℕ) (cs : List Command) → command_and line o others ≡ Ok cs
    → (c : Command) × (rest : List Command) × (o ≡ Some c) × (others ≡ Ok rest) × (c ∷ rest ≡ cs)
and_ok line None others cs e = absurd cc
and_ok line (Some c) (Ok rest) cs e = (c, rest, refl, refl, cc)
and_ok line (Some c) (Err bad) cs e = absurd cc

pub ok_is : (xs ys : List Command) → ◌≡◌ {A = Result (List Command) ℕ} (Ok xs) (Ok ys) → xs ≡ ys
ok_is xs ys e = cc

err_is : (k l : ℕ) → ◌≡◌ {A = Result (List Command) ℕ} (Err k) (Err l) → k ≡ l
err_is k l e = cc

pub ok_err : (xs : List Command) (l : ℕ) → ◌≡◌ {A = Result (List Command) ℕ} (Ok xs) (Err l) → ⊥
ok_err xs l e = cc

-- the first line, and what the lines after it say
pub commands_spelled : (k : ℕ) (lines : List (List ℕ)) (cs : List Command) → commands_from k lines ≡ Ok cs → AllZip SpellsLine (command_lines lines) cs
unfolding commands_from
commands_spelled k [] cs e = subst (λ (xs : List Command). AllZip SpellsLine [] xs) (ok_is [] cs e) tt
commands_spelled k (line ∷ lines) cs e =
    elim (cases_Bool (is_passed_over line)) [
      | inl over ↦
          let rest = commands_spelled (k + 1) lines cs (rw over at e) in
          rw over rest
      | inr not_over ↦
          let p = and_ok k (command_of (tokens_of line)) (commands_from (k + 1) lines) cs (rw not_over at e) in
          let rest = commands_spelled (k + 1) lines p.1 p.3 in
          rw not_over (subst (λ (xs : List Command). AllZip SpellsLine (line ∷ command_lines lines) xs) p.4 (command_spelled (tokens_of line) p.0 p.2, rest))
    ]

first_read : (k : ℕ) (line : List ℕ) (lines : List (List ℕ)) (cs : List Command) → ((rest : List Command) → AllZip SpellsLine (command_lines lines) rest → commands_from (k + 1) lines ≡ Ok rest)
    → AllZip SpellsLine (line ∷ command_lines lines) cs → command_and k (command_of (tokens_of line)) (commands_from (k + 1) lines) ≡ Ok cs
first_read k line lines [] others s = absurd s
first_read k line lines (c ∷ cs) others s =
    ap (λ (o : Option Command). command_and k o (commands_from (k + 1) lines)) (command_read (tokens_of line) c s.0)
    ∙ ap (λ (r : Result (List Command) ℕ). command_and k (Some c) r) (others cs s.1)

pub commands_read : (k : ℕ) (lines : List (List ℕ)) (cs : List Command) → AllZip SpellsLine (command_lines lines) cs → commands_from k lines ≡ Ok cs
unfolding commands_from
commands_read k [] [] s = refl
commands_read k [] (c ∷ cs) s = absurd s
commands_read k (line ∷ lines) cs s =
    elim (cases_Bool (is_passed_over line)) [
      | inl over ↦ rw over (commands_read (k + 1) lines cs (rw over at s))
      | inr not_over ↦ rw not_over (first_read k line lines cs (λ rest t. commands_read (k + 1) lines rest t) (rw not_over at s))
    ]

-- ---- the first line that is refused

-- a line that no command reads spells none
refused : (line : List ℕ) → is_passed_over line ≡ false → command_of (tokens_of line) ≡ None → IsRefusedLine line
refused line not_over e = (not_over, λ command s. none-some command (sym e ∙ command_read (tokens_of line) command s))

accepted : (line : List ℕ) (c : Command) → command_of (tokens_of line) ≡ Some c → IsAccepted line
accepted line c e = inr (c, command_spelled (tokens_of line) c e)

and_err : (line : ℕ) (o : Option Command) (others : Result (List Command) ℕ) (bad : ℕ) → command_and line o others ≡ Err bad
    → ((o ≡ None) × (line ≡ bad)) ⊎ ((c : Command) × (o ≡ Some c) × (others ≡ Err bad))
and_err line None others bad e = inl (refl, err_is line bad e)
and_err line (Some c) (Ok rest) bad e = absurd (ok_err (c ∷ rest) bad e)
and_err line (Some c) (Err l) bad e = inr (c, refl, e)

-- the i-th of the lines is refused, and each before it is accepted
pub record StopsAt (lines : List (List ℕ)) (i : ℕ) : Type 0 where
  pub within : i < length lines
  pub bad : IsRefusedLine (get_or lines i [])
  pub earlier : (k : ℕ) → k < i → IsAccepted (get_or lines k [])

stops_later : (line : List ℕ) (lines : List (List ℕ)) (i : ℕ) → IsAccepted line → StopsAt lines i → StopsAt (line ∷ lines) (suc i)
stops_later line lines i good later = record {
  within = omega (arith, later.within);
  bad = later.bad;
  earlier = before;
}
  where
    before : (k : ℕ) → k < suc i → IsAccepted (get_or (line ∷ lines) k [])
    before zero lt = good
    before (suc k) lt = later.earlier k (omega arith)

pub stops : (k : ℕ) (lines : List (List ℕ)) (bad : ℕ) → commands_from k lines ≡ Err bad → (i : ℕ) × (bad ≡ k + i) × StopsAt lines i
unfolding commands_from
stops k [] bad e = absurd (ok_err [] bad e)
stops k (line ∷ lines) bad e =
    elim (cases_Bool (is_passed_over line)) [
      | inl over ↦
          let p = stops (k + 1) lines bad (rw over at e) in
          (suc p.0, omega (arith, p.1), stops_later line lines p.0 (inl over) p.2)
      | inr not_over ↦
          elim (and_err k (command_of (tokens_of line)) (commands_from (k + 1) lines) bad (rw not_over at e)) [
            | inl h ↦ (0, omega (arith, h.1), record { within = omega arith; bad = refused line not_over h.0; earlier = λ j lt. absurd (omega arith) })
            | inr h ↦
                let p = stops (k + 1) lines bad h.2 in
                (suc p.0, omega (arith, p.1), stops_later line lines p.0 (accepted line h.0 h.1) p.2)
          ]
    ]
