use Rattle.std.proofs.Common.{ℕ, true, ◌≡◌, take}
use Rattle.permutations.specs.Members.{is_member}
use Rattle.rotations.specs.Rotation.{order_at}
use Rattle.pair_split.specs.Tutte.{group}
use Rattle.skel_embed.specs.Steps.{BeginsRun}
use Rattle.skel_embed.proofs.runs.run_first.Given as goal

abbrev pub invariant-loop-e : goal.invariant-loop-e
invariant-loop-e l = (x : ℕ) → is_member x (take l.e-index l.e-items) ≡ true → BeginsRun (group l.t l.k) (order_at l.r l.v) l.key x → ⊥
