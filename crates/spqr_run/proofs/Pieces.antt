-- Reading piece by piece.
use Rattle.std.proofs.Common.{ℕ, ◌+◌, ◌<◌, ◌≤◌, List, Option, None, Some, length, refl, ap, length-append, arith}
use Rattle.std.specs.Io.KnownBytes.{Consumes}
use Rattle.spqr_run.specs.Reading.{SomeBytes}

-- what was taken so far, at most one byte more than the limit
pub record TakenSoFar (limit : ℕ) (before now : Option (List ℕ)) (bytes : List ℕ) : Type 0 where
  pub within : length bytes ≤ limit + 1
  pub consumed : Consumes before now bytes

-- one byte more than the limit was taken: the file is longer
pub longer_taken : (limit : ℕ) (before now : Option (List ℕ)) (bytes : List ℕ) → TakenSoFar limit before now bytes → limit < length bytes → SomeBytes before (λ file. limit < length file)
longer_taken limit None now bytes t h = record { bytes = bytes; are_told = tt; is_such = h }
longer_taken limit (Some file) None bytes t h = absurd t.consumed
longer_taken limit (Some file) (Some rest) bytes t h = record { bytes = file; are_told = refl; is_such = omega (arith, ap length t.consumed, length-append bytes rest) }
