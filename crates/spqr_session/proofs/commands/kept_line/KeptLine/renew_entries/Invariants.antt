use Rattle.std.proofs.Common.{◌≡◌, ℕ, ◌≤◌, List, length}
use Rattle.multigraph.specs.Marks.{is_marked}
use Rattle.spqr_session.specs.KeptLine.{AgreeUnmarked, IsWritten}
use Rattle.spqr_session.proofs.KeptLines.{IsPartly}
use Rattle.spqr_session.proofs.commands.kept_line.KeptLine.renew_entries.Given as goal

-- the entries of the vertices below v are written anew where they have changed
abbrev pub invariant-loop-v : goal.invariant-loop-v
invariant-loop-v l = record {
  partly : (b : ℕ) (q : List (List ℕ)) → IsWritten l.part b q l.initial.self.line.items l.initial.self.places.items
      → AgreeUnmarked l.part.graph l.initial.self.changed.items l.r q → IsPartly l.part b l.r q l.v l.self.line.items;
  places : l.self.places.items ≡ l.initial.self.places.items;
  followers : l.self.followers.items ≡ l.initial.self.followers.items;
  markable : length l.self.changed.items ≡ l.part.graph.vertex_count;
  due : (x : ℕ) → l.v ≤ x → is_marked l.self.changed.items x ≡ is_marked l.initial.self.changed.items x;
}
