use Rattle.std.proofs.Common.{◌≡◌, ◌<◌, ◌≤◌, ℕ, true, slice_index}
use Rattle.multigraph.specs.Graph.{is_end}
use Rattle.contractions.specs.Level.{edge_before}
use Rattle.contract_obstruct.proofs.obstructing.place_from_x.Given as goal

abbrev pub invariant-loop-place : goal.invariant-loop-place
invariant-loop-place l = (t : ℕ) → l.from ≤ t → t < l.place → is_end l.level.graph l.level.x (edge_before l.level (slice_index l.order t)) ≡ true → ⊥
