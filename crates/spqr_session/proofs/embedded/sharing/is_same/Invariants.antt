use Rattle.std.proofs.Common.{◌≡◌, ℕ, ◌<◌}
use Rattle.multigraph.specs.Graph.{ends_of}
use Rattle.spqr_session.proofs.embedded.sharing.is_same.Given as goal

-- the edges so far have the same ends
abbrev pub invariant-loop-e : goal.invariant-loop-e
invariant-loop-e l = (d : ℕ) → d < l.e → ends_of l.one d ≡ ends_of l.other d
