-- The edges so far are drawn.
use Rattle.std.proofs.Common.{◌≡◌, ℕ, ◌<◌, true}
use Rattle.multigraph.specs.Marks.{is_marked}
use Rattle.path_rotation.proofs.settling.is_complete.Given as goal

abbrev pub invariant-loop-is_drawn : goal.invariant-loop-is_drawn
invariant-loop-is_drawn l = (e : ℕ) → e < l.is_drawn-index → is_marked l.fn.drawn e ≡ true
