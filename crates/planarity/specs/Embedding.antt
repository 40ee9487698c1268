-- What an embedder of triconnected graphs returns.
use Rattle.multigraph.specs.Graph.{Multigraph}
use Rattle.faces.specs.Euler.{IsPlaneSystem}
use Rattle.kuratowski.specs.Subdivision.{IsWritten}
use Rattle.planarity.specs.declared.embedder.Embedded.{Embedded}
use Rattle.planarity.specs.declared.embedder.Embedded.TheVariants.{Plane, Not}

-- the result is right: a plane rotation system of g, or a subdivision of K5 or K3,3 in g in its written form
abbrev pub IsEmbedding : Multigraph → Embedded → Type 0
IsEmbedding g (Plane r) = IsPlaneSystem g r
IsEmbedding g (Not s) = IsWritten g s.kind s.branch s.paths
