-- Rotation systems of a component from those of its blocks and an arrangement at each cut vertex; all plane ones, in order.
use Rattle.std.specs.Prelude.{◌≡◌, ℕ, ◌<◌, ◌⊎◌, ◌↔◌, true, if◌then◌else◌, List, [], ◌∷◌, length, map, filter, slice_index, slice_index_or, AllPairs, Contains}
use Rattle.permutations.specs.Members.{is_member, place_of}
use Rattle.permutations.specs.Cyclic.{from_least}
use Rattle.multigraph.specs.Part.{GraphPart}
use Rattle.choice_lists.specs.Order.{is_before}
use Rattle.faces.specs.Euler.{IsPlaneSystem}
use Rattle.skeletons.specs.Choices.{Precedes}
use Rattle.skeletons.specs.Lists.{IsKept}
use Rattle.skel_embed.specs.Block.{lock_at}
use Rattle.whole_embed.specs.Component.{Component, BlockInPlane}
use Rattle.whole_embed.specs.Around.{outer_at, edges_around, block_with, block_order, arrangements_around}

-- the lists are arrangements at the cut vertices, one for each in order
pub record AreArranged (k : Component) (block : ℕ → BlockInPlane) (lists : List (List ℕ)) : Type 0 where
  pub one_each : length lists ≡ length k.cuts
  pub each : (i : ℕ) → i < length k.cuts → Contains (arrangements_around k block (slice_index k.cuts i)) (slice_index_or lists i [])

-- the cyclic order around v of the block of the first of these edges, and none where there is no edge
abbrev pub first_order : Component → (ℕ → BlockInPlane) → ℕ → List ℕ → List ℕ
first_order k block v [] = []
first_order k block v (e ∷ es) = block_order block v (block_with k e)

-- the cyclic order around v, from the least edge on: at a cut vertex its arrangement, elsewhere that of its one block
abbrev pub order_around : Component → (ℕ → BlockInPlane) → List (List ℕ) → ℕ → List ℕ
order_around k block lists v = (if is_member v k.cuts then slice_index_or lists (place_of k.cuts v) [] else first_order k block v (edges_around k v))

-- the vertices of the component, each with the cyclic order around it
abbrev pub whole_lists : Component → (ℕ → BlockInPlane) → List (List ℕ) → List (ℕ × List ℕ)
whole_lists k block lists = map (λ v. (v, order_around k block lists v)) k.part.vertices

-- the rotation system of the component with these orders, in the numbers of its part
abbrev pub whole_system : Component → (ℕ → BlockInPlane) → List (List ℕ) → List (List ℕ)
whole_system k block lists = map (λ v. map (place_of k.part.edges) (order_around k block lists v)) k.part.vertices

-- the part of a rotation system of the component in a block: around each vertex the block's edges in their order, from the
-- least on, in the numbers of the block's part
abbrev pub block_part : Component → GraphPart → List (List ℕ) → List (List ℕ)
block_part k part q = map (λ v. map (place_of part.edges) (from_least (filter (λ e. is_member e part.edges) (outer_at k.part q v)))) part.vertices

-- q is a plane rotation system of the component whose part in each block has the present choices at the locked nodes
pub record IsWholeMember (k : Component) (block : ℕ → BlockInPlane) (q : List (List ℕ)) : Type 0 where
  pub plane : IsPlaneSystem k.part.graph q
  pub kept : (b : ℕ) → is_member b k.blocks ≡ true → IsKept (block b).part.graph (block b).nodes (lock_at (block b).locks) (block b).rotation (block_part k (block b).part q)

-- the parts of q and r differ in block b and in no smaller one, and that of q comes before that of r
pub record PrecedesInBlock (k : Component) (block : ℕ → BlockInPlane) (q r : List (List ℕ)) (b : ℕ) : Type 0 where
  pub among : is_member b k.blocks ≡ true
  pub same : (a : ℕ) → is_member a k.blocks ≡ true → a < b → block_part k (block a).part q ≡ block_part k (block a).part r
  pub earlier : Precedes (block b).nodes (block_part k (block b).part q) (block_part k (block b).part r)

-- the parts of q and r in all blocks are the same, their lists differ at cut vertex v and at no smaller one, and that of q is
-- lexicographically smaller
pub record PrecedesAtCut (k : Component) (block : ℕ → BlockInPlane) (q r : List (List ℕ)) (v : ℕ) : Type 0 where
  pub among : is_member v k.cuts ≡ true
  pub parts : (b : ℕ) → is_member b k.blocks ≡ true → block_part k (block b).part q ≡ block_part k (block b).part r
  pub same : (u : ℕ) → is_member u k.cuts ≡ true → u < v → outer_at k.part q u ≡ outer_at k.part r u
  pub smaller : is_before (outer_at k.part q v) (outer_at k.part r v) ≡ true

-- q comes before r: the least block with different parts decides, and where there is none the least cut vertex with different
-- lists
abbrev pub WholePrecedes : Component → (ℕ → BlockInPlane) → List (List ℕ) → List (List ℕ) → Type 0
WholePrecedes k block q r = ((b : ℕ) × PrecedesInBlock k block q r b) ⊎ ((v : ℕ) × PrecedesAtCut k block q r v)

-- the list has exactly these rotation systems, each before all later ones
pub record IsWholeList (k : Component) (block : ℕ → BlockInPlane) (l : List (List (List ℕ))) : Type 0 where
  pub rising : AllPairs (WholePrecedes k block) l
  pub members : (q : List (List ℕ)) → Contains l q ↔ IsWholeMember k block q
