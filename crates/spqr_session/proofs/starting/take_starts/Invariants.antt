use Rattle.std.proofs.Common.{◌≡◌, ℕ, List, Some}
use Rattle.spqr_session.specs.Starting.{AreStartedBelow}
use Rattle.spqr_session.proofs.starting.take_starts.Given as goal

abbrev pub invariant-loop-b : goal.invariant-loop-b
invariant-loop-b l = (lists : List (List ℕ)) × (l.named.start ≡ Some lists) × AreStartedBelow lists l.named.graph l.blocks.blocks l.b l.embedded.items
