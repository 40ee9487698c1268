use Rattle.std.proofs.Common.{◌≡◌, ◌++◌, length, take, drop}
use Rattle.skel_embed.specs.Exchanges.{exchanged}
use Rattle.skel_embed.proofs.kept.exchange_all.Given as goal

abbrev pub invariant-loop-i : goal.invariant-loop-i
invariant-loop-i l = (l.keys ≡ exchanged l.a l.b (take l.i l.initial.keys) ++ drop l.i l.initial.keys) × (length l.keys ≡ length l.initial.keys)
