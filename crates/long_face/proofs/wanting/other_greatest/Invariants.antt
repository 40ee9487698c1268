use Rattle.std.proofs.Common.{◌≢◌, ℕ, ◌<◌, ◌≤◌, length}
use Rattle.long_face.specs.Heaviest.{number_in}
use Rattle.long_face.proofs.wanting.other_greatest.Given as goal

abbrev pub invariant-loop-i : goal.invariant-loop-i
invariant-loop-i l = (l.other < length l.numbers) × (l.other ≢ l.place) × ((h : ℕ) → h < l.i → h ≢ l.place → number_in l.numbers h ≤ number_in l.numbers l.other)
