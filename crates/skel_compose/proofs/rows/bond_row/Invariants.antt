use Rattle.skel_compose.proofs.BondRows.{AreTurns}
use Rattle.skel_compose.proofs.rows.bond_row.Given as goal

abbrev pub invariant-loop-i : goal.invariant-loop-i
invariant-loop-i l = AreTurns l.items l.i l.row.items
