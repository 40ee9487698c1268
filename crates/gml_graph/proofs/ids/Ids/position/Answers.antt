-- The index in the set is the place in the list of its keys.
use Rattle.std.proofs.Common.{w64}
use Rattle.std.proofs.lemmas.Int.{to_z-of_z}
use Rattle.gml_graph.proofs.Places.{position-equal}
use Rattle.gml_graph.proofs.ids.Ids.position.Goals as goal

pub returns-in-Some : goal.returns-in-Some
returns-in-Some c = position-equal _ _ _ _ _ c.in-Some.ensures.index (to_z-of_z w64 c.args.id c.ranges.id) c.self.view_is

pub returns-in-None : goal.returns-in-None
returns-in-None c = position-equal _ _ _ _ _ c.in-None.ensures.index (to_z-of_z w64 c.args.id c.ranges.id) c.self.view_is
