-- The numbers so far, with those of the bytes to come, are those of the text.
use Rattle.std.proofs.Common.{◌≡◌, ◌<◌, ◌^◌, drop}
use Rattle.std.specs.Prelude.{IfSome}
use Rattle.gml_graph.specs.Start.{spelled_numbers}
use Rattle.gml_graph.proofs.Spelling.{spelled_from}
use Rattle.gml_graph.proofs.start.spelled_numbers.Given as goal

abbrev pub invariant-loop-byte : goal.invariant-loop-byte
invariant-loop-byte l = record {
  spelled : spelled_from l.numbers.items l.current (drop l.byte-index l.text) ≡ spelled_numbers l.text;
  below : IfSome l.current (λ number. number < 2 ^ 32);
}
