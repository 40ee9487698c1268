-- One item more: where it is an edge, its place is noted.
use Rattle.std.proofs.Common.{arith}
use Rattle.pair_split.specs.declared.components.What.TheVariants.{Real}
use Rattle.block_obstruct.specs.Towards.{IsItem}
use Rattle.block_obstruct.proofs.Loops.{noted-none, noted-edge, noted-other}
use Rattle.block_obstruct.proofs.groups.note_own.Goals as goal
use Rattle.block_obstruct.proofs.groups.note_own.Goals.{in-Real, in_default}

pub bounds-notes-e : goal.bounds-notes-e
bounds-notes-e c = omega (arith, c.loop-i.invariant.size, c.requires.within c.in-Real.e (c.loop-i.i, c.loop-i-test.true, c.in-Real.is))

pub loop-i-init : goal.loop-i-init
loop-i-init c = noted-none (λ e m. IsItem c.args.items.now m (Real e)) c.args.items.now c.args.notes.now

pub loop-i-preserved : goal.loop-i-preserved
loop-i-preserved c = elim c.match-item.branch [
  | in-Real w ↦ rw w.notes-is (noted-edge (λ e m. IsItem c.args.items.now m (Real e)) c.args.items.now c.loop-i.i w.in-Real.e c.loop-i.i c.args.notes.now c.loop-i.notes c.loop-i.invariant c.loop-i-test.true w.in-Real.is
      (omega (arith, c.loop-i.invariant.size, c.requires.within w.in-Real.e (c.loop-i.i, c.loop-i-test.true, w.in-Real.is))) (c.loop-i-test.true, w.in-Real.is))
  | in_default w ↦ rw w.notes-is (noted-other (λ e m. IsItem c.args.items.now m (Real e)) c.args.items.now c.loop-i.i c.args.notes.now c.loop-i.notes c.loop-i.invariant (λ e q. w.in_default.not-Real e q))
]

pub returns-clause-noted : goal.returns-clause-noted
returns-clause-noted c = λ e w. c.loop-i.invariant.noted w.0 e (omega (arith, w.1, c.loop-i-test.false)) w.2
