use Rattle.std.proofs.Common.{◌≡◌, true}
use Rattle.permutations.specs.Relation.{connected}
use Rattle.graph_paths.specs.Search.{IsSearched, IsOnWay}
use Rattle.graph_paths.proofs.search.follow.Given as goal

abbrev pub invariant-loop : goal.invariant-loop
invariant-loop l = (s : IsSearched l.fn.g l.fn.root l.fn.notes) → connected l.fn.g.ends l.fn.root l.fn.from ≡ true → IsOnWay l.fn.g s.list l.fn.from l.along.items l.at l.counter
