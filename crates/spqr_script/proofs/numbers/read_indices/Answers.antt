use Rattle.std.proofs.Common.{sym}
use Rattle.spqr_script.proofs.Loops.{numbers_end, numbers_stop, numbers_more}
use Rattle.spqr_script.proofs.numbers.read_indices.Goals as goal

pub returns-in-None : goal.returns-in-None
returns-in-None c =
    numbers_stop c.args.numbers.now.items c.loop-token.numbers.items c.args.line.now c.loop-token.rest.now c.in-Some.token.now c.in-Some.after.now c.loop-token.invariant c.in-Some.ensures.0 (sym c.in-None.ensures)

pub loop-token-preserved : goal.loop-token-preserved
loop-token-preserved c =
    numbers_more c.args.numbers.now.items c.loop-token.numbers.items c.push.new.self.items c.args.line.now c.loop-token.rest.now c.in-Some.token.now c.in-Some.after.now c.in-Some-index.n c.loop-token.invariant c.in-Some.ensures.0 (sym c.in-Some-index.ensures) c.in_ok-push-in-Some-index.ensures.items

pub returns : goal.returns
returns c =
    numbers_end c.args.numbers.now.items c.loop-token.numbers.items c.args.line.now c.loop-token.rest.now c.loop-token.invariant c.in_default.ensures
