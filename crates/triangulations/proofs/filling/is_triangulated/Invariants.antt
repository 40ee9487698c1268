use Rattle.std.proofs.Common.{◌≡◌, ℕ, ◌<◌, true, slice_index}
use Rattle.triangulations.specs.Cutting.{is_triangle}
use Rattle.triangulations.proofs.filling.is_triangulated.Given as goal

abbrev pub invariant-loop-dart : goal.invariant-loop-dart
invariant-loop-dart l = (d : ℕ) → d < l.dart → is_triangle (slice_index l.map.next) d ≡ true
