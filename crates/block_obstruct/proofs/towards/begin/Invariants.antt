use Rattle.std.proofs.Common.{◌≡◌, length}
use Rattle.pair_split.specs.declared.components.What.TheVariants.{Link}
use Rattle.block_obstruct.specs.Towards.{item_in, IsItem}
use Rattle.graph_paths.proofs.Loops.{Listed}
use Rattle.block_obstruct.proofs.towards.begin.Given as goal

abbrev pub invariant-loop-i : goal.invariant-loop-i
invariant-loop-i l = Listed (λ y m. IsItem l.fn.items m (Link y)) (λ i h. (item_in l.fn.items i).what ≡ Link h) l.i (length l.initial.marks) l.initial.notes l.initial.list.items l.marks l.notes l.list.items
