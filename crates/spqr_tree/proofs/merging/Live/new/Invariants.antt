use Rattle.std.proofs.Common.{◌≡◌, ◌++◌, length}
use Rattle.spqr_tree.specs.Merging.{AreHeld}
use Rattle.spqr_tree.proofs.merging.Live.new.Given as goal

abbrev pub invariant-loop-comp : goal.invariant-loop-comp
invariant-loop-comp l = AreHeld l.fn.comps.items l.live (length l.yielded) × (l.yielded ++ l.comp-iterator.rest.items ≡ l.fn.comps.items)
