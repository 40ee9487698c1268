use Rattle.std.proofs.Common.{◌≡◌, ◌<◌, length, ◌∙◌, sym, subst, arith}
use Rattle.face_weights.proofs.Totals.{total-face}
use Rattle.face_weights.proofs.sums.face_sums.Goals as goal

pub returns : goal.returns
returns c = λ g r n.
    let all : c.loop-number.number-index ≡ length c.args.numbers.now = omega (arith, c.loop-number-test.false, c.loop-number.auto.number-index-end) in
    record {
      number = c.loop-number.invariant.0 ∙ all ∙ n.darts;
      each = λ d l. c.loop-number.invariant.1 d (subst (λ z. d < z) (sym (all ∙ n.darts)) l) ∙ total-face g r c.args.numbers.now c.args.weights.now c.totals_of.new.totals.items n c.in_ok-totals_of.ensures.each d l;
    }
