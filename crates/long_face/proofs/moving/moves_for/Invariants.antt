use Rattle.std.proofs.Common.{◌≡◌}
use Rattle.skel_embed.specs.Values.{as_moves}
use Rattle.long_face.specs.Moves.{moves_towards}
use Rattle.long_face.specs.Settled.{has_want, want_or, want_at}
use Rattle.long_face.specs.Wanted.{choice_wanted}
use Rattle.long_face.proofs.moving.moves_for.Given as goal

abbrev pub invariant-loop-k : goal.invariant-loop-k
invariant-loop-k l = as_moves l.list.items ≡ moves_towards l.p.tree l.p.rotation (choice_wanted l.p.tree l.p.rotation (λ k. has_want (want_at l.wants k)) (λ k. want_or (want_at l.wants k))) l.k
