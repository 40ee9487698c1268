use Rattle.std.proofs.Common.{◌<◌, ◌≤◌, ℕ, slice_index}
use Rattle.contract_obstruct.specs.Sectors.{IsCommonEdge}
use Rattle.contract_obstruct.proofs.obstructing.common_place.Given as goal

abbrev pub invariant-loop-place : goal.invariant-loop-place
invariant-loop-place l = (t : ℕ) → l.from ≤ t → t < l.place → IsCommonEdge l.level (slice_index l.order t) → ⊥
