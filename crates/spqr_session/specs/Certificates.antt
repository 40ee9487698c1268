-- Which blocks are planar, and what shows that the others are not.
use Rattle.std.specs.Prelude.{◌≡◌, ℕ, ◌<◌, List, length, slice_index_or, Option, None, Some}
use Rattle.multigraph.specs.Graph.{Multigraph}
use Rattle.kuratowski.specs.Subdivision.{IsWritten}
use Rattle.kuratowski.specs.declared.subdivision.Subdivision.{Subdivision}
use Rattle.faces.specs.Euler.{IsPlaneSystem}
use Rattle.spqr_session.specs.Trees.{BlockTree, tree_at}

-- the certificate of block b; none where there is none
abbrev pub certificate_at : List (Option Subdivision) → ℕ → Option Subdivision
certificate_at certificates b = slice_index_or certificates b None

-- no certificate, and the graph has a plane rotation system; or a subdivision of K5 or K3,3 in its written form in the graph,
-- and the graph has no plane rotation system
abbrev pub IsCertificate : Multigraph → Option Subdivision → Type 0
IsCertificate g None = (r : List (List ℕ)) × IsPlaneSystem g r
IsCertificate g (Some s) = IsWritten g s.kind s.branch s.paths × ((r : List (List ℕ)) → IsPlaneSystem g r → ⊥)

-- this is so for each block, in order
pub record AreCertificates (trees : List BlockTree) (certificates : List (Option Subdivision)) : Type 0 where
  pub one_each : length certificates ≡ length trees
  pub each : (b : ℕ) → b < length trees → IsCertificate (tree_at trees b).part.graph (certificate_at certificates b)
