use Rattle.std.proofs.Common.{◌≡◌, ◌+◌, ◌<◌, ◌≤◌, ◌++◌, ℕ, List, length}
use Rattle.split_comp.specs.Cuts.{cut}
use Rattle.split_comp.specs.declared.items.StackCut.{StackCut}
use Rattle.split_comp.proofs.cuts.drop_later.Given as goal

abbrev pub invariant-loop-cuts : goal.invariant-loop-cuts
invariant-loop-cuts g l = ((popped : List StackCut) × (l.initial.cuts.items ≡ l.cuts.items ++ popped) × ((k : ℕ) → k < length popped → l.first < (cut popped k).start)) × (l.base ≤ length l.cuts.items) × (l.steps + length l.cuts.items ≡ l.initial.steps + length l.initial.cuts.items)

abbrev pub decreases-loop-cuts : goal.decreases-loop-cuts
decreases-loop-cuts g l = length l.cuts.items
