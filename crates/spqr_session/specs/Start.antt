-- Where a session starts: at the rotation systems that the file gives, or at the first ones; and why those of a file are refused.
use Rattle.std.specs.Prelude.{◌≡◌, ℕ, ◌<◌, List, [], length, map, filter, slice_index_or, Option, None, Some, ⊤}
use Rattle.permutations.specs.Members.{is_member}
use Rattle.multigraph.specs.Graph.{Multigraph}
use Rattle.multigraph.specs.Part.{GraphPart, IsPart}
use Rattle.blocks.specs.Blocks.{BlockStructure, IsBlockStructure, block_at}
use Rattle.faces.specs.Euler.{IsPlaneSystem}
use Rattle.gml_graph.specs.Named.{NamedGraph}
use Rattle.skel_embed.specs.First.{IsFirst}
use Rattle.skel_embed.specs.Taken.{IsGiven, IsNotPlane}
use Rattle.spqr_session.specs.Trees.{BlockTree}
use Rattle.spqr_session.specs.declared.fault.StartFault.{StartFault}
use Rattle.spqr_session.specs.declared.fault.StartFault.TheVariants.{StartGenus, Memory}

-- the lists of the part's vertices, without the edges of other parts
abbrev pub start_entries : GraphPart → List (List ℕ) → List (ℕ × List ℕ)
start_entries part lists = map (λ v. (v, filter (λ e. is_member e part.edges) (slice_index_or lists v []))) part.vertices

-- the rotation system at which a block starts: the one that the lists are, and the first where there are none
abbrev pub StartsAt : Option (List (List ℕ)) → BlockTree → List (List ℕ) → Type 0
StartsAt None tree r = IsFirst tree.part.graph tree.nodes r
StartsAt (Some lists) tree r = IsGiven tree.part (start_entries tree.part lists) r

-- block b has a plane rotation system, and the lists are one of it with these numbers of vertices, edges and faces that is not plane
pub record IsBadStart (g : Multigraph) (blocks lists : List (List ℕ)) (b v e f : ℕ) : Type 0 where
  pub within : b < length blocks
  pub part : GraphPart
  pub is_part : IsPart g (block_at blocks b) part
  pub planar : (r : List (List ℕ)) × IsPlaneSystem part.graph r
  pub not_plane : IsNotPlane part (start_entries part lists) v e f

-- the file has a start, and b is the least such block of its graph
pub record IsStartFault (named : NamedGraph) (b v e f : ℕ) : Type 0 where
  pub lists : List (List ℕ)
  pub has_start : named.start ≡ Some lists
  pub structure : BlockStructure
  pub is_structure : IsBlockStructure named.graph structure
  pub bad : IsBadStart named.graph structure.blocks lists b v e f
  pub none_before : (c x y z : ℕ) → c < b → ¬ IsBadStart named.graph structure.blocks lists c x y z

-- the fault is the correct one: memory may run out with any start
abbrev pub IsStartRefusal : NamedGraph → StartFault → Type 0
IsStartRefusal named (StartGenus b v e f) = IsStartFault named b v e f
IsStartRefusal named Memory = ⊤
