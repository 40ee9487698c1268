-- What is left behind the gap tells the value.
use Rattle.std.proofs.Common.{sym, ap, ◌∙◌, ◌+◌, ◌-◌, subst, List, ℕ, ◌∷◌, length, arith}
use Rattle.gml_text.specs.Reading.{IsWord}
use Rattle.gml_text.proofs.Words.{here_open, here_string}
use Rattle.gml_text.proofs.NumberWords.{here_number}
use Rattle.gml_text.proofs.PassesNumber.{passes_number}
use Rattle.gml_text.specs.Items.{NoValue}
use Rattle.gml_text.specs.Breaks.{WholeValue}
use Rattle.gml_text.proofs.WordBreaks.{breaks_with}
use Rattle.gml_text.proofs.ItemBreaks.{break_string, break_number}
use Rattle.gml_text.proofs.item.next_value.Goals as goal

pub returns-in-Some-clause-found : goal.returns-in-Some-clause-found
returns-in-Some-clause-found c = here_open c.args.bytes.now c.in-Some.within.now (sym c.after_gap-here.ensures.rest ∙ c.in-Some.ensures.rest)

pub returns-in-Some-split_quoted-clause-found : goal.returns-in-Some-split_quoted-clause-found
returns-in-Some-split_quoted-clause-found c =
    here_string c.in-Some-split_quoted.text.now c.args.bytes.now c.in-Some-split_quoted.behind.now
    (sym c.after_gap-here.ensures.rest ∙ c.in-Some-behind_byte.ensures.rest ∙ ap (λ (xs : List ℕ). 34 ∷ xs) c.in-Some-split_quoted.ensures.quoted.whole)
    c.in-Some-split_quoted.ensures.quoted.no_quote

pub returns-in-None-split_quoted-clause-found : goal.returns-in-None-split_quoted-clause-found
returns-in-None-split_quoted-clause-found c =
    break_string c.args.bytes.now c.in-Some-behind_byte.quoted.now (sym c.after_gap-here.ensures.rest ∙ c.in-Some-behind_byte.ensures.rest) c.in-None-split_quoted.ensures.quoted

pub returns-in-None-number_fault-clause-found : goal.returns-in-None-number_fault-clause-found
returns-in-None-number_fault-clause-found c =
    here_number c.split_word.result.0.now c.args.bytes.now c.split_word.result.1.now
    (subst (λ (xs : List ℕ). IsWord c.split_word.result.0.now xs c.split_word.result.1.now) c.after_gap-here.ensures.rest c.split_word.ensures.word)
    (passes_number c.split_word.result.0.now (sym c.in-None-number_fault.ensures.number))

pub returns-in-Some-number_fault-clause-found : goal.returns-in-Some-number_fault-clause-found
returns-in-Some-number_fault-clause-found c =
    let word = subst (λ (xs : List ℕ). IsWord c.split_word.result.0.now xs c.split_word.result.1.now) c.after_gap-here.ensures.rest c.split_word.ensures.word in
    let left = length c.split_word.result.0.now - c.in-Some-number_fault.n in
    breaks_with WholeValue NoValue c.args.bytes.now (left + length c.split_word.result.1.now) (length c.after_gap-here.result.now - c.in-Some-number_fault.n)
    (omega (arith, c.split_word.ensures.lengths, c.in-Some-number_fault.ensures.within))
    (break_number c.args.bytes.now c.split_word.result.0.now c.split_word.result.1.now left word c.in-Some-number_fault.ensures.breaks
    (λ more e. c.in-None-behind_byte.ensures.rest more (c.after_gap-here.ensures.rest ∙ e))
    (λ more e. c.in-None.ensures.rest more (c.after_gap-here.ensures.rest ∙ e)))
