-- What is left completes the documents that all of the bytes spell.
use Rattle.std.proofs.Common.{length}
use Rattle.gml_text.specs.Partial.{IsRead}
use Rattle.gml_text.proofs.reader.read.Given as goal

abbrev pub invariant-items : goal.invariant-items
invariant-items l = IsRead l.bytes l.partial l.rest

abbrev pub decreases-items : goal.decreases-items
decreases-items l = length l.rest
