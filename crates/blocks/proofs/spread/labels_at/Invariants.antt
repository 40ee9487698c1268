use Rattle.std.proofs.Common.{◌≡◌, take, map, slice_index}
use Rattle.blocks.proofs.spread.labels_at.Given as goal

abbrev pub invariant-loop-place : goal.invariant-loop-place
invariant-loop-place l = l.labels.items ≡ map (slice_index l.label) (take l.place-index l.places)
