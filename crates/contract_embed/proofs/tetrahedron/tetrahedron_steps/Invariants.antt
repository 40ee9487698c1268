use Rattle.std.proofs.Common.{◌≡◌, ℕ, ◌<◌, length, slice_index}
use Rattle.dart_maps.specs.Map.{twin}
use Rattle.faces.specs.Euler.{tail}
use Rattle.contract_embed.specs.Steps.{first_dart}
use Rattle.contract_embed.specs.Tetrahedron.{turn}
use Rattle.contract_embed.proofs.tetrahedron.tetrahedron_steps.Given as goal

abbrev pub invariant-loop-dart : goal.invariant-loop-dart
invariant-loop-dart l = (length l.next.items ≡ l.dart) × ((d : ℕ) → d < l.dart → slice_index l.next.items d ≡ first_dart l.g (tail l.g d) (turn (tail l.g d) (tail l.g (twin d))))
