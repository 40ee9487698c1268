use Rattle.std.proofs.Common.{◌≡◌, ◌+◌, ◌<◌, ℕ, take, slice_index_or, Contains}
use Rattle.pair_split.specs.Family.{Entry}
use Rattle.pair_split.specs.State.{layer}
use Rattle.pair_split.specs.Splitting.{state_of}
use Rattle.pair_split.specs.Writing.{entry_total}
use Rattle.pair_split.proofs.writing.note_layers.Given as goal

abbrev pub invariant-loop-k : goal.invariant-loop-k
invariant-loop-k g l = ((k : ℕ) (entry : Entry) (c : ℕ) → k < l.k → Contains (layer (state_of l.parts l.current) k) entry → entry.name ≡ l.m + c → slice_index_or l.ups c 0 ≡ k)
    × (l.steps ≡ l.initial.steps + l.k + entry_total (take l.k l.parts))
