use Rattle.std.proofs.Common.{◌+◌, sym, subst, arith, List, ℕ}
use Rattle.blocks.specs.Numbering.{IsNumbered}
use Rattle.blocks.proofs.Numbered.{numbered-few, numbered-more, numbered-all}
use Rattle.blocks.proofs.numbering.number_along.Goals as goal

pub meet-classes-requires-clause-fits : goal.meet-classes-requires-clause-fits
meet-classes-requires-clause-fits c =
    omega (arith, numbered-few c.args.labels.now c.loop-label.label-index c.loop-label.met c.loop-label.number_of c.loop-label.numbers.items c.loop-label.classes c.loop-label.invariant, c.requires.few, c.loop-label-test.true)

pub loop-label-preserved : goal.loop-label-preserved
loop-label-preserved c =
    subst (λ (l : List ℕ). IsNumbered c.args.labels.now (c.loop-label.label-index + 1) c.meet-classes.new.met c.meet-classes.new.number_of l c.meet-classes.result) (sym c.in_ok-push.ensures.items)
    (numbered-more c.args.labels.now c.loop-label.label-index c.loop-label.met c.meet-classes.new.met c.loop-label.number_of c.meet-classes.new.number_of c.loop-label.numbers.items c.loop-label.classes c.meet-classes.result c.loop-label.invariant (omega (arith, c.requires.within c.loop-label.label-index c.loop-label-test.true, c.loop-label.auto.met)) (omega (arith, c.requires.within c.loop-label.label-index c.loop-label-test.true, c.loop-label.auto.number_of, c.requires.same_length)) c.meet-classes.ensures.again c.meet-classes.ensures.first)

pub returns-clause-numbering : goal.returns-clause-numbering
returns-clause-numbering c =
    numbered-all c.args.labels.now c.loop-label.met c.loop-label.number_of c.loop-label.numbers.items c.loop-label.classes
    (subst (λ (i : ℕ). IsNumbered c.args.labels.now i c.loop-label.met c.loop-label.number_of c.loop-label.numbers.items c.loop-label.classes) (omega arith) c.loop-label.invariant)
