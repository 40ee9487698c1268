use Rattle.std.proofs.Common.{slice_index, arith}
use Rattle.permutations.proofs.Arrangements.{member-at}
use Rattle.path_rotation.proofs.attempts.one_of_two.Goals as goal

pub bounds-next-c : goal.bounds-next-c
bounds-next-c c = c.requires (slice_index c.args.darts.now 0) (member-at c.args.darts.now 0 0 (omega arith))
