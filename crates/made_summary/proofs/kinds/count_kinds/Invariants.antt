use Rattle.std.proofs.Common.{◌≡◌}
use Rattle.made_summary.specs.Kinds.{nodes_below}
use Rattle.pair_split.specs.Kinds.{is_polygon, is_bond, is_rigid}
use Rattle.made_summary.proofs.kinds.count_kinds.Given as goal

abbrev pub invariant-loop-k : goal.invariant-loop-k
invariant-loop-k l = (l.polygons ≡ nodes_below is_polygon l.tree l.k) × (l.bonds ≡ nodes_below is_bond l.tree l.k) × (l.rigid ≡ nodes_below is_rigid l.tree l.k)
