use Rattle.multigraph.proofs.Ends.{part-on, part-from}
use Rattle.multigraph.proofs.laws.parts_on_ends.Goals as goal

pub returns : goal.returns
returns c g edges part = (part-on g edges part, λ h. part-from g part.vertices edges part h.1 h.0)
