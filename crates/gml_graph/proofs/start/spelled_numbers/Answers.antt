-- One byte more, by its class and whether a number is being read.
use Rattle.std.proofs.Common.{sym, get_or}
use Rattle.gml_graph.proofs.Spelling.{step-white, step-number, step-digit, step-none, digit-below}
use Rattle.gml_graph.proofs.start.spelled_numbers.Goals.{then-is_white+in-Some+in_ok-push, then-is_white+in_default, else-is_white+in-Some-with_digit}
use Rattle.gml_graph.proofs.start.spelled_numbers.Goals as goal

pub returns-in-None : goal.returns-in-None
returns-in-None c =
    let l = c.loop-byte in
    step-none c.args.text.now l.byte-index l.numbers.items l.current c.loop-byte-test.true l.invariant.spelled c.unwrap_or.result c.unwrap_or.ensures (sym c.if-is_white.ensures) c.in-None.ensures

pub loop-byte-preserved : goal.loop-byte-preserved
loop-byte-preserved c =
    let l = c.loop-byte in
    elim c.if-is_white.branch [
      | then-is_white+in-Some+in_ok-push w ↦ record {
        spelled = rw (w.numbers-is, w.current-is, w.in_ok-push.ensures.items)
            (step-number c.args.text.now l.byte-index l.numbers.items l.current c.loop-byte-test.true l.invariant.spelled w.in-Some.number w.in-Some.is l.invariant.below (sym w.if-is_white.ensures));
        below = rw w.current-is tt;
      }
      | then-is_white+in_default w ↦ record {
        spelled = rw (w.numbers-is, w.current-is)
            (step-white c.args.text.now l.byte-index l.numbers.items l.current c.loop-byte-test.true l.invariant.spelled w.in_default.is (sym w.if-is_white.ensures));
        below = rw w.current-is l.invariant.below;
      }
      | else-is_white+in-Some-with_digit w ↦ record {
        spelled = rw (w.numbers-is, w.current-is)
            (step-digit c.args.text.now l.byte-index l.numbers.items l.current c.loop-byte-test.true l.invariant.spelled w.unwrap_or.result w.in-Some-with_digit.number w.unwrap_or.ensures (sym w.if-is_white.ensures) w.in-Some-with_digit.ensures);
        below = rw w.current-is (digit-below w.unwrap_or.result (get_or c.args.text.now l.byte-index 0) w.in-Some-with_digit.number (sym w.in-Some-with_digit.ensures));
      }
    ]
