use Rattle.std.proofs.Common.{◌≡◌, ℕ, ◌+◌, ◌<◌, ◌++◌, length, slice_index}
use Rattle.spqr_session.specs.KeptLine.{entries_of}
use Rattle.spqr_session.proofs.commands.kept_line.KeptLine.push_entries.Given as goal

-- the entries of the vertices below v are written
abbrev pub invariant-loop-v : goal.invariant-loop-v
invariant-loop-v l = record {
  written : l.self.line.items ≡ l.initial.self.line.items ++ entries_of l.part l.r 0 l.v;
  number : length l.self.places.items ≡ l.v;
  begins : (x : ℕ) → x < l.v → slice_index l.self.places.items x ≡ length l.initial.self.line.items + length (entries_of l.part l.r 0 x);
  kept : l.self.followers.items ≡ l.initial.self.followers.items;
  markable : length l.self.changed.items ≡ l.part.graph.vertex_count;
}
