-- None so far.
use Rattle.std.proofs.Common.{◌≡◌, ◌<◌, ℕ, false}
use Rattle.canonical_orders.specs.State.{can_leave}
use Rattle.canonical_orders.proofs.contour.Contour.some_free.Given as goal

abbrev pub invariant-loop-vertex : goal.invariant-loop-vertex
invariant-loop-vertex l = (v : ℕ) → v < l.vertex → can_leave l.map.graph l.self.on.items l.self.met.items v ≡ false
