use Rattle.std.proofs.Common.{◌≡◌, take}
use Rattle.embed_tests.proofs.whole_graphs.copies.Given as goal

abbrev pub invariant-loop-member : goal.invariant-loop-member
invariant-loop-member l = l.copies.items ≡ take l.member-index l.all
