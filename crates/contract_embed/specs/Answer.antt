-- State of a loop: what is known of a graph on the way up over its contractions.
use Rattle.multigraph.specs.Graph.{Multigraph}
use Rattle.kuratowski.specs.Subdivision.{IsSubdivision}
use Rattle.contract_obstruct.specs.Steps.{ArePlaneSteps}
use Rattle.contract_embed.specs.declared.answers.Answer.{Answer}
use Rattle.contract_embed.specs.declared.answers.Answer.TheVariants.{Plane, Not}

-- the answer is right: the steps of a plane rotation system of g, or a subdivision in g
abbrev pub IsAnswer : Multigraph → Answer → Type 0
IsAnswer g (Plane next) = ArePlaneSteps g next.items
IsAnswer g (Not s) = IsSubdivision g s.kind s.branch s.paths
