use Rattle.std.proofs.Common.{◌≡◌, not, filter, take, slice_index}
use Rattle.planarity.specs.Lift.{leaves_by}
use Rattle.contract_obstruct.proofs.lifting.spokes_apart.Given as goal

abbrev pub invariant-loop-i : goal.invariant-loop-i
invariant-loop-i l = record {
  on : l.on.items ≡ filter (λ i. leaves_by l.level.graph (slice_index l.level.kept.items) l.kind l.paths l.level.y l.m i) (take l.i-index l.i-items);
  off : l.off.items ≡ filter (λ i. not (leaves_by l.level.graph (slice_index l.level.kept.items) l.kind l.paths l.level.y l.m i)) (take l.i-index l.i-items);
}
