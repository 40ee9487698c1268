use Rattle.std.proofs.Common.{◌≡◌, map, take}
use Rattle.pair_split.specs.Tutte.{node_at}
use Rattle.skeletons.specs.Families.{end_places}
use Rattle.spqr_tree.proofs.tree.Tree.places_of_ends.Given as goal

abbrev pub invariant-loop-item : goal.invariant-loop-item
invariant-loop-item l = l.ends.items ≡ map (end_places (node_at l.self l.k).vertices) (take l.item-index l.items)
