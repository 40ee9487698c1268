-- A reading answers what a script spells; a script has at most one reading, and one first bad line.
use Rattle.std.proofs.Common.{◌≡◌, ℕ, ◌-◌, List, [], get_or, Result, Ok, Err, IfOk, IfErr, sym, subst, ◌∙◌, arith, zero, suc, inl, inr, ◌⊎◌, refl, ◌<◌, ◌∷◌, length}
use Rattle.std.specs.Global.{Vec}
use Rattle.std.specs.List.{AllZip}
use Rattle.std.proofs.lemmas.Bool.{both_ways, cases_Bool, cases_order}
use Rattle.spqr_script.specs.Line.{lines_of, is_passed_over}
use Rattle.spqr_script.specs.Script.{Commands, command_lines, IsAccepted, IsRefusedLine, IsFirstBadLine}
use Rattle.spqr_script.specs.Reading.{commands_from, Gives}
use Rattle.spqr_script.specs.Outcome.{IsReading, IsFault}
use Rattle.spqr_script.specs.declared.command.Command.{Command}
use Rattle.spqr_script.specs.declared.command.ScriptFault.{ScriptFault}
use Rattle.spqr_script.specs.declared.command.ScriptFault.TheVariants.{BadLine, Memory}
use Rattle.spqr_script.proofs.Commands.{SpellsLine, ok_is, ok_err, commands_spelled, commands_read, stops}

pub script_read : (bytes : List ℕ) (commands : List Command) → Commands bytes commands → commands_from 1 (lines_of bytes) ≡ Ok commands
unfolding Commands
script_read bytes commands s = commands_read 1 (lines_of bytes) commands s

pub script_spelled : (bytes : List ℕ) (commands : List Command) → commands_from 1 (lines_of bytes) ≡ Ok commands → Commands bytes commands
unfolding Commands
script_spelled bytes commands e = commands_spelled 1 (lines_of bytes) commands e

pub script_bad : (bytes : List ℕ) (bad : ℕ) → commands_from 1 (lines_of bytes) ≡ Err bad → IsFirstBadLine bytes bad
unfolding IsFirstBadLine
script_bad bytes bad e =
    let p = stops 1 (lines_of bytes) bad e in
    let place : bad - 1 ≡ p.0 = omega (arith, p.1) in
    (omega (arith, p.1), omega (arith, p.1, p.2.within), subst (λ (i : ℕ). IsRefusedLine (get_or (lines_of bytes) i [])) (sym place) p.2.bad, λ k lt. p.2.earlier k (omega (arith, p.1)))

-- ---- what the reader answers

pub is_spelled : (bytes : List ℕ) (r : Result (Vec Command) ScriptFault) → Gives r (commands_from 1 (lines_of bytes)) → IfOk r (λ commands. Commands bytes commands.items)
is_spelled bytes (Ok v) given = script_spelled bytes v.items given
is_spelled bytes (Err e) given = tt

pub all_is_read : (bytes : List ℕ) (r : Result (Vec Command) ScriptFault) → Gives r (commands_from 1 (lines_of bytes)) → (commands : List Command) → Commands bytes commands → IsReading r commands
all_is_read bytes (Ok v) given commands s = ok_is v.items commands (sym given ∙ script_read bytes commands s)
all_is_read bytes (Err (BadLine line)) given commands s = ok_err commands line (sym (script_read bytes commands s) ∙ given)
all_is_read bytes (Err Memory) given commands s = tt

pub fault_is : (bytes : List ℕ) (r : Result (Vec Command) ScriptFault) → Gives r (commands_from 1 (lines_of bytes)) → IfErr r (IsFault bytes)
fault_is bytes (Ok v) given = tt
fault_is bytes (Err (BadLine line)) given = (script_bad bytes line given, λ commands s. ok_err commands line (sym (script_read bytes commands s) ∙ given))
fault_is bytes (Err Memory) given = tt

-- ---- laws

pub one_reading : (bytes : List ℕ) (commands others : List Command) → Commands bytes commands → Commands bytes others → commands ≡ others
one_reading bytes commands others s t = ok_is commands others (sym (script_read bytes commands s) ∙ script_read bytes others t)

pub decided : (bytes : List ℕ) → ((commands : List Command) × Commands bytes commands) ⊎ ((line : ℕ) × IsFirstBadLine bytes line)
decided bytes = go (commands_from 1 (lines_of bytes)) refl
  where
    go : (r : Result (List Command) ℕ) → commands_from 1 (lines_of bytes) ≡ r → ((commands : List Command) × Commands bytes commands) ⊎ ((line : ℕ) × IsFirstBadLine bytes line)
    go (Ok commands) e = inl (commands, script_spelled bytes commands e)
    go (Err line) e = inr (line, script_bad bytes line e)

-- no line is both
accepted_refused : (line : List ℕ) → IsAccepted line → IsRefusedLine line → ⊥
accepted_refused line (inl over) bad = both_ways (is_passed_over line) bad.0 over
accepted_refused line (inr (command, s)) bad = bad.1 command s

-- one line in front of lines that are accepted
one_more : (line : List ℕ) (lines : List (List ℕ)) → IsAccepted line → ((k : ℕ) → k < length lines → IsAccepted (get_or lines k [])) → (k : ℕ) → k < length (line ∷ lines) → IsAccepted (get_or (line ∷ lines) k [])
one_more line lines good others zero lt = good
one_more line lines good others (suc k) lt = others k (omega arith)

-- a line and its command, in front of others
first_spelled : (line : List ℕ) (lines : List (List ℕ)) (commands : List Command) → AllZip SpellsLine (line ∷ command_lines lines) commands
    → (c : Command) × (cs : List Command) × SpellsLine line c × AllZip SpellsLine (command_lines lines) cs
first_spelled line lines [] s = absurd s
first_spelled line lines (c ∷ cs) s = (c, cs, s.0, s.1)

-- where commands are spelled, each line is accepted
each_accepted : (lines : List (List ℕ)) (commands : List Command) → AllZip SpellsLine (command_lines lines) commands → (k : ℕ) → k < length lines → IsAccepted (get_or lines k [])
each_accepted [] commands s = λ k lt. absurd (omega arith)
each_accepted (line ∷ lines) commands s =
    elim (cases_Bool (is_passed_over line)) [
      | inl over ↦ one_more line lines (inl over) (each_accepted lines commands (rw over at s))
      | inr not_over ↦
          let p = first_spelled line lines commands (rw not_over at s) in
          one_more line lines (inr (p.0, p.2)) (each_accepted lines p.1 p.3)
    ]

pub apart : (bytes : List ℕ) (commands : List Command) (line : ℕ) → Commands bytes commands → IsFirstBadLine bytes line → ⊥
unfolding Commands IsFirstBadLine
apart bytes commands line s bad =
    accepted_refused (get_or (lines_of bytes) (line - 1) []) (each_accepted (lines_of bytes) commands s (line - 1) (omega (arith, bad.0, bad.1))) bad.2

not_before : (bytes : List ℕ) (line other : ℕ) → IsFirstBadLine bytes line → IsFirstBadLine bytes other → line < other → ⊥
unfolding IsFirstBadLine
not_before bytes line other bad later lt =
    accepted_refused (get_or (lines_of bytes) (line - 1) []) (later.3 (line - 1) (omega (arith, bad.0))) bad.2

pub one_bad_line : (bytes : List ℕ) (line other : ℕ) → IsFirstBadLine bytes line → IsFirstBadLine bytes other → line ≡ other
one_bad_line bytes line other bad also =
    elim (cases_order line other) [
      | inl same ↦ same
      | inr (inl lt) ↦ absurd (not_before bytes line other bad also lt)
      | inr (inr lt) ↦ absurd (not_before bytes other line also bad lt)
    ]
