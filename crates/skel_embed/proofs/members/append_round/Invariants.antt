use Rattle.std.proofs.Common.{◌≡◌, ◌++◌, ◌<◌, ℕ, true, length, map}
use Rattle.permutations.specs.Members.{is_member}
use Rattle.skeletons.proofs.NodeItems.{nth_item}
use Rattle.skel_embed.proofs.members.append_round.Given as goal

abbrev pub invariant-loop-i : goal.invariant-loop-i
invariant-loop-i l = (l.keys.items ++ map (λ i. (nth_item l.items i).key) l.round ≡ l.initial.keys.items ++ map (λ i. (nth_item l.items i).key) l.initial.round) × ((i : ℕ) → is_member i l.round ≡ true → i < length l.items)

abbrev pub decreases-loop-i : goal.decreases-loop-i
decreases-loop-i l = length l.round
