use Rattle.std.proofs.Common.{◌≡◌}
use Rattle.skel_embed.specs.Block.{lock_at}
use Rattle.embed_enum.specs.Digits.{radix_at, digit_at, number_to}
use Rattle.embed_enum.proofs.ranking.number.Given as goal

abbrev pub invariant-loop-k : goal.invariant-loop-k
invariant-loop-k l = l.number ≡ number_to l.k (radix_at l.p.tree (lock_at l.p.locks)) (digit_at l.p.tree (lock_at l.p.locks) l.p.rotation)
