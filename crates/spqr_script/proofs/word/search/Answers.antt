use Rattle.spqr_script.proofs.Words.{search_hit, search_miss, search_end}
use Rattle.spqr_script.proofs.word.search.Goals as goal

pub returns-then-eq : goal.returns-then-eq
returns-then-eq c = search_hit c.args.words.now c.args.name.now c.loop-word.word-index c.spelling.result.now c.loop-word-test.true c.spelling.ensures c.if-eq.ensures c.loop-word.invariant

pub loop-word-preserved : goal.loop-word-preserved
loop-word-preserved c = search_miss c.args.words.now c.args.name.now c.loop-word.word-index c.spelling.result.now c.loop-word-test.true c.spelling.ensures c.if-eq.ensures c.loop-word.invariant

pub returns : goal.returns
returns c = search_end c.args.words.now c.args.name.now c.loop-word.word-index c.loop-word-test.false c.loop-word.invariant
