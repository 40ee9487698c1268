use Rattle.std.proofs.Common.{◌≡◌, ◌++◌, map}
use Rattle.skeletons.specs.Moves as theory
use Rattle.skel_embed.specs.Values.{as_moves}
use Rattle.spqr_session.specs.History.{as_pairs}
use Rattle.spqr_session.proofs.whole_steps.push_moves.Given as goal

abbrev pub invariant-loop-one : goal.invariant-loop-one
invariant-loop-one l = as_pairs l.list.items ≡ as_pairs l.initial.list.items ++ map (λ (move : theory.Move). (l.b, move)) (as_moves l.yielded)
