-- What is left behind the gap is the same for the bytes not yet looked at.
use Rattle.std.proofs.Common.{◌≡◌, cond, drop}
use Rattle.gml_text.specs.Reading.{after_gap, after_comment}
use Rattle.gml_text.proofs.scan.after_gap.Given as goal

abbrev pub invariant-loop-i : goal.invariant-loop-i
invariant-loop-i l = cond l.in_comment (after_comment (drop l.i l.bytes)) (after_gap (drop l.i l.bytes)) ≡ after_gap l.bytes
