use Rattle.std.proofs.Common.{◌≡◌, ◌++◌, ℕ, true, length, map, filter}
use Rattle.permutations.specs.Members.{is_member}
use Rattle.rotations.specs.Rotation.{order_at}
use Rattle.pair_split.specs.Tutte.{group}
use Rattle.skel_embed.specs.Taken.{begins_run}
use Rattle.skel_embed.proofs.choosing.keys_of_runs.Given as goal

abbrev pub invariant-loop-e : goal.invariant-loop-e
invariant-loop-e l = (l.keys.items ++ map (group l.t l.k) (filter (begins_run (group l.t l.k) (order_at l.r l.v)) l.round) ≡ map (group l.t l.k) (filter (begins_run (group l.t l.k) (order_at l.r l.v)) l.initial.round))
    × ((x : ℕ) → is_member x l.round ≡ true → is_member x (order_at l.r l.v) ≡ true)

abbrev pub decreases-loop-e : goal.decreases-loop-e
decreases-loop-e l = length l.round
