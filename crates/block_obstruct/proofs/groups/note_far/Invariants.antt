use Rattle.std.proofs.Common.{◌≡◌}
use Rattle.block_obstruct.proofs.Loops.{Noted}
use Rattle.block_obstruct.proofs.groups.note_far.Given as goal

abbrev pub invariant-loop-item : goal.invariant-loop-item
invariant-loop-item l = Noted (λ e m. m ≡ l.fn.number) l.fn.items l.item-index l.initial.notes l.notes
