use Rattle.std.proofs.Common.{◌≡◌, take, flat_map}
use Rattle.whole_embed.specs.Around.{outer_at}
use Rattle.whole_convert.proofs.dealing.all_orders.Given as goal

abbrev pub invariant-loop-i : goal.invariant-loop-i
invariant-loop-i l = l.edges.items ≡ flat_map (outer_at l.part l.r) (take l.i l.part.vertices)
