use Rattle.std.proofs.Common.{◌≡◌, nat_lt, take, count_by}
use Rattle.embed_enum.proofs.ranking.smaller_ones.Given as goal

abbrev pub invariant-loop-y : goal.invariant-loop-y
invariant-loop-y l = l.found ≡ count_by (λ y. nat_lt y l.x) (take l.y-index l.keys)
