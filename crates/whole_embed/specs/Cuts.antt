-- What is kept of a component, why a list of edges does not become an arrangement at a cut vertex, and what is set there.
use Rattle.std.specs.Prelude.{◌≡◌, ℕ, ◌<◌, true, List, [], length, slice_set, slice_index_or, Option, None, Some, IsPermutation}
use Rattle.permutations.specs.Members.{is_member, place_of}
use Rattle.permutations.specs.Cyclic.{from_least}
use Rattle.multigraph.specs.Part.{GraphPart}
use Rattle.arrangements.specs.Arranged.{keeps}
use Rattle.arrangements.specs.Refused.{IsLeastChanged, IsLeastCrossing}
use Rattle.skel_embed.specs.Block.{BlockState}
use Rattle.whole_embed.specs.declared.members.Member.{Member}
use Rattle.whole_embed.specs.declared.faults.RegroupFault.{RegroupFault}
use Rattle.whole_embed.specs.declared.faults.RegroupFault.TheVariants.{BadRotation, BlockOrder, Cross, Memory}
use Rattle.whole_embed.specs.Component.{Component, BlockInPlane}
use Rattle.whole_embed.specs.Around.{edges_around, block_with, block_order}

-- a component, and a list of edges for each of its cut vertices, in order
pub record CutState : Type 0 where
  pub component : Component
  pub lists : List (List ℕ)

-- a part without vertices
abbrev pub no_part : GraphPart
no_part = record { graph = record { vertex_count = 0; ends = [] }; vertices = []; edges = [] }

-- a block as a part of the graph and in the plane; without tree and rotation system where it is not planar
abbrev pub in_plane : GraphPart → Option BlockState → BlockInPlane
in_plane part None = record { part = part; nodes = []; rotation = []; locks = [] }
in_plane part (Some p) = record { part = part; nodes = p.tree; rotation = p.rotation; locks = p.locks }

-- block b of a list of all blocks
abbrev pub member_at : List Member → ℕ → Member
member_at all b = slice_index_or all b (record { part = no_part; plane = None })

abbrev pub blocks_in : List Member → ℕ → BlockInPlane
blocks_in all b = in_plane (member_at all b).part (member_at all b).plane

-- the list of all blocks has the blocks of the component, each in the plane as the graph of its part
pub record HavePlanes (k : Component) (all : List Member) : Type 0 where
  pub within : (b : ℕ) → is_member b k.blocks ≡ true → b < length all
  pub plane : (b : ℕ) → is_member b k.blocks ≡ true → (p : BlockState) × ((member_at all b).plane ≡ Some p) × (p.graph ≡ (member_at all b).part.graph)

-- the lists with another one for cut vertex v
abbrev pub set_around : CutState → ℕ → List ℕ → CutState
set_around cuts v l = record cuts { lists = slice_set cuts.lists (place_of cuts.component.cuts v) l }

-- the refusal of a list of edges for cut vertex v is correct: it is not an ordering of the edges at v; or of its cyclic order,
-- block b is the least that it changes; or it changes none, and b and c are the least two blocks that cross. Memory may run out
-- for any list
abbrev pub IsRegroupRefusal : Component → (ℕ → BlockInPlane) → ℕ → List ℕ → RegroupFault → Type 0
IsRegroupRefusal k block v l (BadRotation w) = (w ≡ v) × ¬ IsPermutation (edges_around k v) l
IsRegroupRefusal k block v l (BlockOrder b) = IsPermutation (edges_around k v) l × IsLeastChanged (block_with k) (block_order block v) (from_least l) b
IsRegroupRefusal k block v l (Cross b c) = IsPermutation (edges_around k v) l
    × ((e : ℕ) → is_member e l ≡ true → keeps (block_with k) (block_order block v) (block_with k e) (from_least l) ≡ true)
    × IsLeastCrossing (block_with k) (from_least l) b c
IsRegroupRefusal k block v l Memory = Unit {0}
