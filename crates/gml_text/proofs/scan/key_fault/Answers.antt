-- The first byte is no letter, or one behind it may not stand in a key.
use Rattle.std.proofs.Common.{◌≡◌, ◌<◌, false, get_or, length, sym, ◌∙◌, arith}
use Rattle.std.proofs.lemmas.Bool.{eqb-true}
use Rattle.gml_text.specs.Bytes.{is_letter}
use Rattle.gml_text.proofs.WordBreaks.{key_breaks-first, key_breaks-later}
use Rattle.gml_text.proofs.scan.key_fault.Goals as goal
use Rattle.gml_text.proofs.scan.key_fault.Goals.{then-is_empty-via-then-is_empty, then-is_empty-via-else-is_empty+then-not-is_letter}

no_letter : (c : goal.Joined-then-is_empty) → 0 < length c.args.word.now → is_letter (get_or c.args.word.now 0 0) ≡ false
no_letter c some = elim c.then-is_empty.branch [
  | then-is_empty-via-then-is_empty w ↦ absurd (omega (arith, eqb-true (length c.args.word.now) 0 (sym c.is_empty.ensures ∙ w.if-is_empty.true)))
  | then-is_empty-via-else-is_empty+then-not-is_letter w ↦ sym w.is_letter.ensures ∙ w.if-not-is_letter.true
]

pub returns-then-is_empty-clause-breaks : goal.returns-then-is_empty-clause-breaks
returns-then-is_empty-clause-breaks c = key_breaks-first c.args.word.now (no_letter c)

pub returns-then-not-is_key_byte-clause-breaks : goal.returns-then-not-is_key_byte-clause-breaks
returns-then-not-is_key_byte-clause-breaks c =
    key_breaks-later c.args.word.now c.loop-i.i c.loop-i-test.true (sym c.is_letter.ensures ∙ c.if-not-is_letter.false) c.loop-i.invariant
    (sym c.is_key_byte.ensures ∙ c.if-not-is_key_byte.true)
