use Rattle.std.proofs.Common.{◌≡◌, ℕ, ◌<◌, ◌≤◌, false, length, slice_index}
use Rattle.multigraph.specs.Darts.{dart_count, tail}
use Rattle.multigraph.specs.Marks.{is_marked}
use Rattle.spqr_session.specs.KeptLine.{follower}
use Rattle.spqr_session.proofs.commands.kept_line.note_followers.Given as goal

-- the darts below d are noted, the others are as before, and where a vertex is not marked its darts below d had these followers
abbrev pub invariant-loop-d : goal.invariant-loop-d
invariant-loop-d l = record {
  darts : length l.followers ≡ dart_count l.g;
  vertices : length l.changed ≡ l.g.vertex_count;
  done : (x : ℕ) → x < l.d → slice_index l.followers x ≡ follower l.g l.r x;
  due : (x : ℕ) → l.d ≤ x → slice_index l.followers x ≡ slice_index l.initial.followers x;
  same : (x : ℕ) → x < l.d → is_marked l.changed (tail l.g x) ≡ false → slice_index l.initial.followers x ≡ follower l.g l.r x;
}
