-- No byte so far is a quote.
use Rattle.std.proofs.Common.{◌≡◌, true, take}
use Rattle.std.specs.List.{list_all}
use Rattle.gml_text.specs.Bytes.{is_no_quote}
use Rattle.gml_text.proofs.scan.split_quoted.Given as goal

abbrev pub invariant-loop-i : goal.invariant-loop-i
invariant-loop-i l = list_all is_no_quote (take l.i l.bytes) ≡ true
