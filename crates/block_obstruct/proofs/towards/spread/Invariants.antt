use Rattle.std.proofs.Common.{◌≡◌, ◌≢◌, length}
use Rattle.pair_split.specs.declared.components.What.TheVariants.{Link}
use Rattle.block_obstruct.specs.Towards.{item_in, HaveItem}
use Rattle.graph_paths.proofs.Loops.{Listed}
use Rattle.block_obstruct.proofs.towards.spread.Given as goal

abbrev pub invariant-loop-item : goal.invariant-loop-item
invariant-loop-item l = Listed (λ y m. (m ≡ l.fn.note) × (y ≢ l.fn.k) × HaveItem l.fn.items (Link y)) (λ i h. ((item_in l.fn.items i).what ≡ Link h) × (h ≢ l.fn.k)) l.item-index (length l.initial.marks) l.initial.notes l.initial.list.items l.marks l.notes l.list.items
