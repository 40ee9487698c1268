use Rattle.skel_compose.specs.Followers.{HasNext}
use Rattle.skel_compose.proofs.rows.next_edges.Given as goal

abbrev pub invariant-loop-i : goal.invariant-loop-i
invariant-loop-i l = HasNext l.graph l.r l.i l.row.items
