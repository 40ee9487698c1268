use Rattle.std.proofs.Common.{◌≡◌, length}
use Rattle.spqr_script.specs.Line.{tokens_of}
use Rattle.spqr_script.specs.Reading.{put_behind, indices_of}
use Rattle.spqr_script.proofs.numbers.read_indices.Given as goal

abbrev pub invariant-loop-token : goal.invariant-loop-token
invariant-loop-token l =
    put_behind l.numbers.items (indices_of (tokens_of l.rest)) ≡ put_behind l.initial.numbers.items (indices_of (tokens_of l.line))

abbrev pub decreases-loop-token : goal.decreases-loop-token
decreases-loop-token l = length l.rest
