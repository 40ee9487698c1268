-- The law is its lemma.
use Rattle.gml_graph.proofs.Law.{sound_graph}
use Rattle.gml_graph.proofs.laws.sound_graph.Goals as goal

pub returns : goal.returns
returns c = sound_graph
