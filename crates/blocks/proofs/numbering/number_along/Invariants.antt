use Rattle.blocks.specs.Numbering.{IsNumbered}
use Rattle.blocks.proofs.numbering.number_along.Given as goal

abbrev pub invariant-loop-label : goal.invariant-loop-label
invariant-loop-label l = IsNumbered l.labels l.label-index l.met l.number_of l.numbers.items l.classes
