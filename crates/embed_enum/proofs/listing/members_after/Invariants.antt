use Rattle.std.proofs.Common.{◌≡◌, ℕ, List, ◌+◌, take, drop}
use Rattle.skeletons.specs.Lists.{IsRank}
use Rattle.embed_enum.specs.Walk.{IsMemberList}
use Rattle.embed_enum.proofs.listing.members_after.Given as goal

abbrev pub invariant-loop-turn : goal.invariant-loop-turn
invariant-loop-turn l = (list : List (List (List ℕ))) (i : ℕ) → IsMemberList l.p list → IsRank list l.p.rotation i
    → IsMemberList l.walker list × IsRank list l.walker.rotation (i + l._turn) × (l.found.items ≡ take l._turn (drop (i + 1) list))
