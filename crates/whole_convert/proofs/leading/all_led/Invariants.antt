use Rattle.whole_convert.specs.Led.{AreLedBelow}
use Rattle.whole_convert.proofs.leading.all_led.Given as goal

abbrev pub invariant-loop-j : goal.invariant-loop-j
invariant-loop-j l = AreLedBelow l.frame l.all l.q l.new.items l.j
