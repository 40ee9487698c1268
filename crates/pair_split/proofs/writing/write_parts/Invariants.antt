use Rattle.std.proofs.Common.{◌≡◌, ◌+◌, take}
use Rattle.pair_split.specs.Writing.{ArePartsWritten, entry_total}
use Rattle.pair_split.proofs.writing.write_parts.Given as goal

abbrev pub invariant-loop-k : goal.invariant-loop-k
invariant-loop-k g l = ArePartsWritten l.m l.parts l.ups l.k l.comps.items × (l.steps ≡ l.initial.steps + l.k + entry_total (take l.k l.parts))
