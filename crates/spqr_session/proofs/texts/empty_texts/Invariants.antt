use Rattle.std.proofs.Common.{◌≡◌, replicate, []}
use Rattle.spqr_session.specs.Texts.{bytes_of}
use Rattle.spqr_session.proofs.texts.empty_texts.Given as goal

-- as many texts as turns so far
abbrev pub invariant-loop : goal.invariant-loop
invariant-loop l = bytes_of l.texts.items ≡ replicate l.counter []
