use Rattle.std.proofs.Common.{◌≡◌, take}
use Rattle.skel_embed.specs.Exchanges.{exchanged}
use Rattle.long_face.proofs.exchanged.copied.Given as goal

abbrev pub invariant-loop-key : goal.invariant-loop-key
invariant-loop-key l = l.copy.items ≡ exchanged l.a l.b (take l.key-index l.keys)
