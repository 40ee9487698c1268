use Rattle.dart_maps.proofs.LinkNoncrossing.{link-noncrossing}
use Rattle.dart_maps.proofs.Noncrossing.{noncrossing}
use Rattle.dart_maps.proofs.Rounds.{ring-in-order}
use Rattle.dart_maps.proofs.connections_do_not_cross.Goals as goal

pub returns : goal.returns
returns c = record { at_vertex = noncrossing; order = ring-in-order; along_edge = link-noncrossing }
