use Rattle.std.proofs.Common.{◌≡◌, true}
use Rattle.permutations.specs.Members.{is_member}
use Rattle.pair_split.specs.Tutte.{group}
use Rattle.rotations.specs.Rotation.{order_at}
use Rattle.skel_embed.proofs.runs.first_from.Given as goal

abbrev pub invariant-loop-step : goal.invariant-loop-step
invariant-loop-step l = (is_member l.at (order_at l.r l.v) ≡ true) × (group l.t l.k l.at ≡ l.key)
