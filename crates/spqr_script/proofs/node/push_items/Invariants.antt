use Rattle.std.proofs.Common.{◌≡◌, ◌++◌, drop}
use Rattle.spqr_script.specs.Node.{spaced_items}
use Rattle.spqr_script.proofs.node.push_items.Given as goal

abbrev pub invariant-loop-item : goal.invariant-loop-item
invariant-loop-item l =
    l.out.items ++ spaced_items l.part (drop l.item-index l.items) ≡ l.initial.out.items ++ spaced_items l.part l.items
