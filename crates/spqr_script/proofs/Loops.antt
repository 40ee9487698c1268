-- What was read before, and what is still read: numbers, entries and lines.
use Rattle.std.proofs.Common.{◌≡◌, ℕ, ◌+◌, List, [], ◌∷◌, ◌++◌, Option, Some, None, Result, Ok, Err, length, map, Bool, cond, true, false, refl, sym, ap, ◌∙◌, append_assoc}
use Rattle.std.proofs.lemmas.Bool.{cond-true, cond-false}
use Rattle.std.proofs.lemmas.List.{append-nil, nil_from_length}
use Rattle.spqr_script.specs.Line.{cut_lines, without_return, lines_of, is_passed_over, tokens_of}
use Rattle.gml_graph.specs.Start.{with_first}
use Rattle.spqr_script.specs.Reading.{index_of, indices_of, put_behind, entry_of, is_above, entry_then, entries_after, command_of, command_and, commands_from}
use Rattle.spqr_script.specs.declared.command.Command.{Command}
use Rattle.std.proofs.lemmas.Option.{none-some, cond_some}

-- ---- numbers

pub numbers_end : (old front : List ℕ) (line rest : List ℕ) → put_behind front (indices_of (tokens_of rest)) ≡ put_behind old (indices_of (tokens_of line)) → tokens_of rest ≡ []
    → put_behind old (indices_of (tokens_of line)) ≡ Some front
unfolding indices_of
numbers_end old front line rest so_far e =
    sym so_far ∙ ap (λ (ts : List (List ℕ)). put_behind front (indices_of ts)) e ∙ ap (λ (ns : List ℕ). Some ns) (append-nil front)

pub numbers_stop : (old front : List ℕ) (line rest token after : List ℕ) → put_behind front (indices_of (tokens_of rest)) ≡ put_behind old (indices_of (tokens_of line)) → tokens_of rest ≡ token ∷ tokens_of after
    → index_of token ≡ None → put_behind old (indices_of (tokens_of line)) ≡ None
unfolding indices_of
numbers_stop old front line rest token after so_far e bad =
    sym so_far ∙ ap (λ (ts : List (List ℕ)). put_behind front (indices_of ts)) e ∙ ap (λ (o : Option ℕ). put_behind front (with_first o (indices_of (tokens_of after)))) bad

one_behind : (front : List ℕ) (n : ℕ) (others : Option (List ℕ)) → put_behind front (with_first (Some n) others) ≡ put_behind (front ++ n ∷ []) others
one_behind front n None = refl
one_behind front n (Some ns) = ap (λ (xs : List ℕ). Some xs) (sym (append_assoc front (n ∷ []) ns))

pub numbers_more : (old front new : List ℕ) (line rest token after : List ℕ) (n : ℕ) → put_behind front (indices_of (tokens_of rest)) ≡ put_behind old (indices_of (tokens_of line))
    → tokens_of rest ≡ token ∷ tokens_of after → index_of token ≡ Some n → new ≡ front ++ n ∷ [] → put_behind new (indices_of (tokens_of after)) ≡ put_behind old (indices_of (tokens_of line))
unfolding indices_of
numbers_more old front new line rest token after n so_far e good pushed =
    ap (λ (xs : List ℕ). put_behind xs (indices_of (tokens_of after))) pushed ∙ sym (one_behind front n (indices_of (tokens_of after)))
    ∙ sym (ap (λ (ts : List (List ℕ)). put_behind front (indices_of ts)) e ∙ ap (λ (o : Option ℕ). put_behind front (with_first o (indices_of (tokens_of after)))) good)
    ∙ so_far

-- ---- entries

abbrev Entries : Type 0
Entries = List (ℕ × List ℕ)

then_none : (so_far : Entries) (o : Option (ℕ × List ℕ)) (further : Entries → Option Entries) → entry_then so_far o (λ longer. Some longer) ≡ None → entry_then so_far o further ≡ None
then_none so_far None further e = refl
then_none so_far (Some next) further e = go (is_above so_far next.0) e
  where
    go : (b : Bool) → cond b (Some (so_far ++ next ∷ [])) None ≡ None → cond b (further (so_far ++ next ∷ [])) None ≡ None
    go true h = absurd (none-some (so_far ++ next ∷ []) (sym h))
    go false h = refl

then_more : (so_far new : Entries) (o : Option (ℕ × List ℕ)) (further : Entries → Option Entries) → entry_then so_far o (λ longer. Some longer) ≡ Some new → entry_then so_far o further ≡ further new
then_more so_far new None further e = absurd (none-some new e)
then_more so_far new (Some next) further e =
    let p = cond_some (is_above so_far next.0) (so_far ++ next ∷ []) new e in
    cond-true (is_above so_far next.0) (further (so_far ++ next ∷ [])) None p.0 ∙ ap further p.1

pub entries_stop : (so_far : Entries) (part : List (List ℕ)) (parts all : List (List (List ℕ))) (due : Option Entries) → entries_after so_far all ≡ due → all ≡ part ∷ parts
    → entry_then so_far (entry_of part) (λ longer. Some longer) ≡ None → due ≡ None
unfolding entries_after
entries_stop so_far part parts all due so_far_is e bad = sym so_far_is ∙ ap (λ (ps : List (List (List ℕ))). entries_after so_far ps) e ∙ then_none so_far (entry_of part) (λ longer. entries_after longer parts) bad

pub entries_more : (so_far new : Entries) (part : List (List ℕ)) (parts all : List (List (List ℕ))) (due : Option Entries) → entries_after so_far all ≡ due → all ≡ part ∷ parts
    → entry_then so_far (entry_of part) (λ longer. Some longer) ≡ Some new → entries_after new parts ≡ due
unfolding entries_after
entries_more so_far new part parts all due so_far_is e good =
    sym (ap (λ (ps : List (List (List ℕ))). entries_after so_far ps) e ∙ then_more so_far new (entry_of part) (λ longer. entries_after longer parts) good) ∙ so_far_is

pub entries_end : (entries : Entries) (due : Option Entries) → entries_after entries [] ≡ due → due ≡ Some entries
unfolding entries_after
entries_end entries due e = sym e

-- ---- lines

-- the commands so far, and those that are still read
abbrev pub commands_behind : List Command → Result (List Command) ℕ → Result (List Command) ℕ
commands_behind front (Ok commands) = Ok (front ++ commands)
commands_behind front (Err line) = Err line

pub lines_end : (front : List Command) (line : ℕ) (rest : List ℕ) (due : Result (List Command) ℕ) → commands_behind front (commands_from line (lines_of rest)) ≡ due → length rest ≡ 0 → due ≡ Ok front
unfolding commands_from cut_lines
lines_end front line rest due so_far none =
    sym so_far ∙ ap (λ (bytes : List ℕ). commands_behind front (commands_from line (lines_of bytes))) (nil_from_length rest none) ∙ ap (λ (cs : List Command). Ok cs) (append-nil front)

pub line_over : (front : List Command) (line : ℕ) (rest text after : List ℕ) (due : Result (List Command) ℕ) → commands_behind front (commands_from line (lines_of rest)) ≡ due → cut_lines rest ≡ text ∷ cut_lines after
    → is_passed_over (without_return text) ≡ true → commands_behind front (commands_from (line + 1) (lines_of after)) ≡ due
unfolding commands_from
line_over front line rest text after due so_far e over =
    sym (ap (λ (ls : List (List ℕ)). commands_behind front (commands_from line (map without_return ls))) e
    ∙ ap (λ (r : Result (List Command) ℕ). commands_behind front r)
    (cond-true (is_passed_over (without_return text)) (commands_from (line + 1) (lines_of after)) (command_and line (command_of (tokens_of (without_return text))) (commands_from (line + 1) (lines_of after))) over))
    ∙ so_far

line_due : (front : List Command) (line : ℕ) (rest text after : List ℕ) (due : Result (List Command) ℕ) (o : Option Command) → commands_behind front (commands_from line (lines_of rest)) ≡ due → cut_lines rest ≡ text ∷ cut_lines after
    → is_passed_over (without_return text) ≡ false → command_of (tokens_of (without_return text)) ≡ o → commands_behind front (command_and line o (commands_from (line + 1) (lines_of after))) ≡ due
unfolding commands_from
line_due front line rest text after due o so_far e not_over is =
    sym (ap (λ (ls : List (List ℕ)). commands_behind front (commands_from line (map without_return ls))) e
    ∙ ap (λ (r : Result (List Command) ℕ). commands_behind front r)
    (cond-false (is_passed_over (without_return text)) (commands_from (line + 1) (lines_of after)) (command_and line (command_of (tokens_of (without_return text))) (commands_from (line + 1) (lines_of after))) not_over
    ∙ ap (λ (p : Option Command). command_and line p (commands_from (line + 1) (lines_of after))) is))
    ∙ so_far

pub line_stop : (front : List Command) (line : ℕ) (rest text after : List ℕ) (due : Result (List Command) ℕ) → commands_behind front (commands_from line (lines_of rest)) ≡ due → cut_lines rest ≡ text ∷ cut_lines after
    → is_passed_over (without_return text) ≡ false → command_of (tokens_of (without_return text)) ≡ None → due ≡ Err line
line_stop front line rest text after due so_far e not_over bad = sym (line_due front line rest text after due None so_far e not_over bad)

command_more : (front : List Command) (line : ℕ) (c : Command) (others : Result (List Command) ℕ) → commands_behind front (command_and line (Some c) others) ≡ commands_behind (front ++ c ∷ []) others
command_more front line c (Ok cs) = ap (λ (xs : List Command). Ok xs) (sym (append_assoc front (c ∷ []) cs))
command_more front line c (Err bad) = refl

pub line_more : (front new : List Command) (line : ℕ) (rest text after : List ℕ) (due : Result (List Command) ℕ) (c : Command) → commands_behind front (commands_from line (lines_of rest)) ≡ due → cut_lines rest ≡ text ∷ cut_lines after
    → is_passed_over (without_return text) ≡ false → command_of (tokens_of (without_return text)) ≡ Some c → new ≡ front ++ c ∷ [] → commands_behind new (commands_from (line + 1) (lines_of after)) ≡ due
line_more front new line rest text after due c so_far e not_over good pushed =
    ap (λ (xs : List Command). commands_behind xs (commands_from (line + 1) (lines_of after))) pushed
    ∙ sym (command_more front line c (commands_from (line + 1) (lines_of after))) ∙ line_due front line rest text after due (Some c) so_far e not_over good
