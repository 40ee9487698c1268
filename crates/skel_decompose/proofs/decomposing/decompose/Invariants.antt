use Rattle.std.proofs.Common.{◌≡◌, ℕ, List}
use Rattle.skel_decompose.specs.Followers.{IsFamily, members_below}
use Rattle.skel_decompose.proofs.decomposing.decompose.Given as goal

abbrev pub invariant-loop-k : goal.invariant-loop-k
invariant-loop-k l = (family : List (List (List ℕ))) → IsFamily l.tree l.r family → l.members.items ≡ members_below family l.k
