use Rattle.std.proofs.Common.{◌≡◌, ◌<◌, length, slice_index_or}
use Rattle.skeletons.specs.Items.{nth_item}
use Rattle.long_face.specs.Bonds.{AreBondNumbersUpTo}
use Rattle.long_face.proofs.bond_faces.number_pairs.Given as goal

abbrev pub invariant-loop-place : goal.invariant-loop-place
invariant-loop-place l = AreBondNumbersUpTo l.items l.keys l.place l.numbers × (l.here < length l.items) × (l.place < length l.keys → (nth_item l.items l.here).key ≡ slice_index_or l.keys l.place 0)
