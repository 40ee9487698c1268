-- One item more: where it is an edge, the number is noted.
use Rattle.std.proofs.Common.{◌≡◌, refl, arith}
use Rattle.block_obstruct.proofs.Loops.{noted-none, noted-edge, noted-other}
use Rattle.block_obstruct.proofs.groups.note_far.Goals as goal
use Rattle.block_obstruct.proofs.groups.note_far.Goals.{in-Real, in_default}

pub bounds-notes-e : goal.bounds-notes-e
bounds-notes-e c = omega (arith, c.loop-item.invariant.size, c.requires.within c.in-Real.e (c.loop-item.item-index, c.loop-item-test.true, c.in-Real.is))

pub loop-item-init : goal.loop-item-init
loop-item-init c = noted-none (λ e m. m ≡ c.args.number) c.args.items.now c.args.notes.now

pub loop-item-preserved : goal.loop-item-preserved
loop-item-preserved c = elim c.match-item.branch [
  | in-Real w ↦ rw w.notes-is (noted-edge (λ e m. m ≡ c.args.number) c.args.items.now c.loop-item.item-index w.in-Real.e c.args.number c.args.notes.now c.loop-item.notes c.loop-item.invariant c.loop-item-test.true w.in-Real.is
      (omega (arith, c.loop-item.invariant.size, c.requires.within w.in-Real.e (c.loop-item.item-index, c.loop-item-test.true, w.in-Real.is))) refl)
  | in_default w ↦ rw w.notes-is (noted-other (λ e m. m ≡ c.args.number) c.args.items.now c.loop-item.item-index c.args.notes.now c.loop-item.notes c.loop-item.invariant (λ e q. w.in_default.not-Real e q))
]

pub returns-clause-noted : goal.returns-clause-noted
returns-clause-noted c = λ e w. c.loop-item.invariant.noted w.0 e (omega (arith, w.1, c.loop-item-test.false)) w.2
