-- What is answered of a block in its own edges.
use Rattle.std.specs.Prelude.{◌≡◌, ℕ, ◌<◌, false, List, length}
use Rattle.multigraph.specs.Graph.{Multigraph}
use Rattle.kuratowski.specs.Subdivision.{IsWritten}
use Rattle.pair_split.specs.Tutte.{Node}
use Rattle.skel_embed.specs.First.{IsFirst}
use Rattle.skel_embed.specs.Block.{lock_at}
use Rattle.skel_embed.specs.declared.planes.Outcome.{Outcome}
use Rattle.skel_embed.specs.declared.planes.Outcome.TheVariants.{Plane, Not}

-- a block with this graph and tree at the first member of the full list, and no node locked; or the graph and the tree with a
-- subdivision of K5 or K3,3 in written form in the graph
abbrev pub IsOutcome : Multigraph → List Node → Outcome → Type 0
IsOutcome g nodes (Plane p) = (p.graph ≡ g) × (p.tree ≡ nodes) × IsFirst g nodes p.rotation × ((k : ℕ) → k < length nodes → lock_at p.locks k ≡ false)
IsOutcome g nodes (Not b) = (b.graph ≡ g) × (b.tree ≡ nodes) × IsWritten g b.certificate.kind b.certificate.branch b.certificate.paths
