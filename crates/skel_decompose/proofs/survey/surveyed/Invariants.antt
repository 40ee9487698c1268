use Rattle.skel_compose.specs.Homes.{HasHomes}
use Rattle.skel_decompose.specs.Survey.{AreRows}
use Rattle.skel_decompose.specs.Ups.{HaveUps}
use Rattle.skel_decompose.proofs.survey.surveyed.Given as goal

abbrev pub invariant-loop-k : goal.invariant-loop-k
invariant-loop-k l = HasHomes l.g l.tree l.k 0 l.homes.items × HaveUps l.tree l.k 1 l.ups.items × AreRows l.tree l.k l.table
