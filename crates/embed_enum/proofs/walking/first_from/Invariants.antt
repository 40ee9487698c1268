use Rattle.embed_enum.specs.Changes.{AreReset}
use Rattle.embed_enum.proofs.walking.first_from.Given as goal

abbrev pub invariant-loop-k : goal.invariant-loop-k
invariant-loop-k l = AreReset l.initial.p l.p l.from l.k
