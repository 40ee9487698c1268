-- What is proved of components and their rotation systems, as statements.
use Rattle.std.specs.Prelude.{◌≡◌, ℕ, ◌<◌, true, List, [], length, slice_index, slice_index_or}
use Rattle.permutations.specs.Members.{is_member}
use Rattle.multigraph.specs.Graph.{Multigraph, IsGraph, IsWithinLimits}
use Rattle.multigraph.specs.Part.{IsPartOn}
use Rattle.blocks.specs.Blocks.{BlockStructure, IsBlockStructure}
use Rattle.faces.specs.Euler.{IsPlaneSystem}
use Rattle.skel_embed.specs.Taken.{IsGiven}
use Rattle.whole_embed.specs.Component.{Component, BlockInPlane, component_vertices, component_edges, component_of, IsComponentInPlane}
use Rattle.whole_embed.specs.Around.{outer_at}
use Rattle.whole_embed.specs.Whole.{AreArranged, whole_lists, whole_system, block_part}

-- a component is the part of the graph that its vertices and edges make
abbrev pub ComponentIsPart : Type 0
ComponentIsPart = (g : Multigraph) (s : BlockStructure) (c : ℕ) → IsGraph g → IsWithinLimits g → IsBlockStructure g s → IsPartOn g (component_vertices s c) (component_edges g s c) (component_of g s c).part

-- the rotation system of a component whose blocks are in the plane and whose cut vertices have arrangements is plane
abbrev pub WholeIsPlane : Type 0
WholeIsPlane = (k : Component) (block : ℕ → BlockInPlane) (lists : List (List ℕ)) → IsComponentInPlane k block → AreArranged k block lists → IsPlaneSystem k.part.graph (whole_system k block lists)

-- it is the one that its lists give
abbrev pub WholeIsGiven : Type 0
WholeIsGiven = (k : Component) (block : ℕ → BlockInPlane) (lists : List (List ℕ)) → IsComponentInPlane k block → AreArranged k block lists → IsGiven k.part (whole_lists k block lists) (whole_system k block lists)

-- its part in each block is the rotation system of the block
abbrev pub WholeHasParts : Type 0
WholeHasParts = (k : Component) (block : ℕ → BlockInPlane) (lists : List (List ℕ)) → IsComponentInPlane k block → AreArranged k block lists → (b : ℕ) → is_member b k.blocks ≡ true
    → block_part k (block b).part (whole_system k block lists) ≡ (block b).rotation

-- and around each cut vertex it has the arrangement
abbrev pub WholeHasArrangements : Type 0
WholeHasArrangements = (k : Component) (block : ℕ → BlockInPlane) (lists : List (List ℕ)) → IsComponentInPlane k block → AreArranged k block lists → (i : ℕ) → i < length k.cuts
    → outer_at k.part (whole_system k block lists) (slice_index k.cuts i) ≡ slice_index_or lists i []
