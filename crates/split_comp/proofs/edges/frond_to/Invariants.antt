use Rattle.std.proofs.Common.{◌≡◌, ◌+◌, ◌<◌, ℕ, false}
use Rattle.split_comp.specs.Stack.{item}
use Rattle.split_comp.specs.Sides.{is_frond_to}
use Rattle.split_comp.proofs.edges.frond_to.Given as goal

abbrev pub invariant-loop-x : goal.invariant-loop-x
invariant-loop-x g l = ((i : ℕ) → i < l.x-index → is_frond_to l.up l.low (item l.items i) ≡ false) × (l.steps ≡ l.initial.steps + l.x-index)
