-- What is left behind the gap tells the item.
use Rattle.std.proofs.Common.{sym, ◌∙◌, ◌+◌, ◌-◌, subst, List, ℕ, length, arith}
use Rattle.gml_text.specs.Reading.{IsWord}
use Rattle.gml_text.proofs.Gaps.{last-after_gap}
use Rattle.gml_text.proofs.Words.{here_close, here_key}
use Rattle.gml_text.specs.Items.{Stuck}
use Rattle.gml_text.specs.Breaks.{WholePair}
use Rattle.gml_text.proofs.NextItem.{empty_bytes, some_bytes}
use Rattle.gml_text.proofs.WordBreaks.{breaks_with}
use Rattle.gml_text.proofs.ItemBreaks.{break_key, break_value}
use Rattle.gml_text.proofs.item.next_item.Goals as goal

pub returns-then-is_empty-clause-item : goal.returns-then-is_empty-clause-item
returns-then-is_empty-clause-item c = last-after_gap c.args.bytes.now (sym c.after_gap-here.ensures.rest ∙ empty_bytes c.after_gap-here.result.now c.if-is_empty.ensures)

pub returns-in-Some-clause-item : goal.returns-in-Some-clause-item
returns-in-Some-clause-item c = here_close c.args.bytes.now c.in-Some.rest.now (sym c.after_gap-here.ensures.rest ∙ c.in-Some.ensures.rest)

pub returns-in-Ok-clause-item : goal.returns-in-Ok-clause-item
returns-in-Ok-clause-item c = (
  c.split_word.result.1.now,
  here_key c.split_word.result.0.now c.args.bytes.now c.split_word.result.1.now
      (subst (λ (xs : List ℕ). IsWord c.split_word.result.0.now xs c.split_word.result.1.now) c.after_gap-here.ensures.rest c.split_word.ensures.word)
      (sym c.in-None-key_fault.ensures.key),
  c.in-Ok.ensures.found,
)

pub returns-in-Err-clause-item : goal.returns-in-Err-clause-item
returns-in-Err-clause-item c =
    break_value c.args.bytes.now c.split_word.result.0.now c.split_word.result.1.now c.in-Err.left
    (here_key c.split_word.result.0.now c.args.bytes.now c.split_word.result.1.now
    (subst (λ (xs : List ℕ). IsWord c.split_word.result.0.now xs c.split_word.result.1.now) c.after_gap-here.ensures.rest c.split_word.ensures.word)
    (sym c.in-None-key_fault.ensures.key))
    c.in-Err.ensures.found

pub returns-in-Some-key_fault-clause-item : goal.returns-in-Some-key_fault-clause-item
returns-in-Some-key_fault-clause-item c =
    let word = subst (λ (xs : List ℕ). IsWord c.split_word.result.0.now xs c.split_word.result.1.now) c.after_gap-here.ensures.rest c.split_word.ensures.word in
    let left = length c.split_word.result.0.now - c.in-Some-key_fault.n in
    breaks_with WholePair Stuck c.args.bytes.now (left + length c.split_word.result.1.now) (length c.after_gap-here.result.now - c.in-Some-key_fault.n)
    (omega (arith, c.split_word.ensures.lengths, c.in-Some-key_fault.ensures.within))
    (break_key c.args.bytes.now c.split_word.result.0.now c.split_word.result.1.now left word c.in-Some-key_fault.ensures.breaks
    (λ e. some_bytes c.after_gap-here.result.now c.if-is_empty.ensures (c.after_gap-here.ensures.rest ∙ e))
    (λ more e. c.in-None.ensures.rest more (c.after_gap-here.ensures.rest ∙ e)))
