use Rattle.spqr_tree.proofs.SameVertices.{vertices-tell}
use Rattle.spqr_tree.proofs.laws.vertices_tell_components.Goals as goal

pub returns : goal.returns
returns c = vertices-tell
