use Rattle.std.proofs.Common.{◌≡◌, map, string_bytes, length}
use Rattle.std.specs.List.{list_all}
use Rattle.command_words.specs.Form.{is_plain}
use Rattle.command_words.proofs.forms.are_plain.Given as goal

abbrev pub invariant-loop-word : goal.invariant-loop-word
invariant-loop-word l = list_all is_plain (map string_bytes l.words) ≡ list_all is_plain (map string_bytes l.rest)

abbrev pub decreases-loop-word : goal.decreases-loop-word
decreases-loop-word l = length l.rest
