use Rattle.std.proofs.Common.{◌≡◌, [], length}
use Rattle.std.specs.List.{slice_split}
use Rattle.spqr_script.specs.Line.{tokens_of}
use Rattle.spqr_script.specs.Script.{is_semicolon}
use Rattle.spqr_script.specs.Reading.{entries_after}
use Rattle.spqr_script.proofs.rotation.read_rotation.Given as goal

abbrev pub invariant-parts : goal.invariant-parts
invariant-parts l =
    entries_after l.entries (slice_split is_semicolon (tokens_of l.rest)) ≡ entries_after [] (slice_split is_semicolon (tokens_of l.text))

abbrev pub decreases-parts : goal.decreases-parts
decreases-parts l = length l.rest
