use Rattle.std.proofs.Common.{ℕ, ◌<◌, ◌≤◌, length}
use Rattle.long_face.specs.Heaviest.{number_in}
use Rattle.long_face.proofs.wanting.greatest.Given as goal

abbrev pub invariant-loop-i : goal.invariant-loop-i
invariant-loop-i l = (l.place < length l.numbers) × ((h : ℕ) → h < l.i → number_in l.numbers h ≤ number_in l.numbers l.place)
