use Rattle.std.proofs.Common.{◌≡◌, ◌*◌, ◌<◌, ◌^◌}
use Rattle.skeletons.specs.Lists.{cyclic_orders}
use Rattle.embed_enum.proofs.counting.times_orders.Given as goal

abbrev pub invariant-loop-f : goal.invariant-loop-f
invariant-loop-f l = record { so_far : l.product ≡ l.n * cyclic_orders l.f; none : l.items ≡ 0 → l.f ≡ 1; fits : l.product < 2 ^ 128 }
