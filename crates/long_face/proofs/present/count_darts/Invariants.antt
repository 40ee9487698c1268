use Rattle.std.proofs.Common.{◌≡◌, ◌<◌, ◌==◌, ℕ, length}
use Rattle.permutations.specs.Count.{count}
use Rattle.face_weights.specs.Numbers.{number_at}
use Rattle.face_weights.specs.Sums.{weight_in}
use Rattle.long_face.proofs.present.count_darts.Given as goal

abbrev pub invariant-loop-d : goal.invariant-loop-d
invariant-loop-d l = (length l.counts.items ≡ length l.numbers) × ((t : ℕ) → t < length l.numbers → weight_in l.counts.items t ≡ count l.d (λ y. t == number_at l.numbers y))
