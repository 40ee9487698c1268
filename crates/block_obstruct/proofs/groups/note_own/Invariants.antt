use Rattle.pair_split.specs.declared.components.What.TheVariants.{Real}
use Rattle.block_obstruct.specs.Towards.{IsItem}
use Rattle.block_obstruct.proofs.Loops.{Noted}
use Rattle.block_obstruct.proofs.groups.note_own.Given as goal

abbrev pub invariant-loop-i : goal.invariant-loop-i
invariant-loop-i l = Noted (λ e m. IsItem l.fn.items m (Real e)) l.fn.items l.i l.initial.notes l.notes
