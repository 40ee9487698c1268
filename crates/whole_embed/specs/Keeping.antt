-- What is kept at the cut vertices of a component: tables of edges and blocks, which the component determines; and the lists of
-- private functions.
use Rattle.std.specs.Prelude.{◌≡◌, ℕ, ◌<◌, true, nat_lt, List, [], length, map, slice_index, slice_index_or, Some}
use Rattle.permutations.specs.Members.{is_member}
use Rattle.multigraph.specs.Graph.{incident_edges}
use Rattle.arrangements.specs.Arranged.{first_arrangement}
use Rattle.arrangements.specs.Tables.{VertexTables, rank_in}
use Rattle.skel_embed.specs.Block.{BlockState}
use Rattle.whole_embed.specs.declared.members.Member.{Member}
use Rattle.whole_embed.specs.Component.{Component, BlockInPlane}
use Rattle.whole_embed.specs.Around.{outer_at, edges_around, block_with, block_order}

-- the tables have the edges at v, and the ranks of their blocks increase as the numbers of the blocks do
pub record KeepsTables (k : Component) (v : ℕ) (t : VertexTables) : Type 0 where
  pub edges : t.edges ≡ edges_around k v
  pub ranks : (e x : ℕ) → is_member e t.edges ≡ true → is_member x t.edges ≡ true → nat_lt (rank_in t e) (rank_in t x) ≡ nat_lt (block_with k e) (block_with k x)

-- the tables of the cut vertex at place i
abbrev pub tables_at : List VertexTables → ℕ → VertexTables
tables_at tables i = slice_index_or tables i (record { edges = []; ranks = []; followers = [] })

-- such tables for each cut vertex, and a list of as many edges
pub record KeepsCuts (k : Component) (orders : List VertexTables) (lists : List (List ℕ)) : Type 0 where
  pub tables_each : length orders ≡ length k.cuts
  pub lists_each : length lists ≡ length k.cuts
  pub tables : (i : ℕ) → i < length k.cuts → KeepsTables k (slice_index k.cuts i) (tables_at orders i)
  pub long : (i : ℕ) → i < length k.cuts → length (slice_index_or lists i []) ≡ length (edges_around k (slice_index k.cuts i))

-- the first n lists are the first arrangements at their cut vertices
abbrev pub AreFirstTo : Component → (ℕ → BlockInPlane) → List (List ℕ) → ℕ → Type 0
AreFirstTo k block lists n = (i : ℕ) → i < n → slice_index_or lists i [] ≡ first_arrangement (block_with k) (block_order block (slice_index k.cuts i)) (edges_around k (slice_index k.cuts i))

-- the blocks of the edges at vertex i of the part, in the order of the edges
abbrev pub numbers_at : Component → ℕ → List ℕ
numbers_at k i = map (slice_index k.edge_blocks) (incident_edges k.part.graph i)

-- one number for each of others: they increase where those do, and none is above the count
pub record AreRanks (numbers ranks : List ℕ) : Type 0 where
  pub each : length ranks ≡ length numbers
  pub below : (p : ℕ) → p < length numbers → slice_index ranks p < length numbers
  pub same : (p q : ℕ) → p < length numbers → q < length numbers → nat_lt (slice_index ranks p) (slice_index ranks q) ≡ nat_lt (slice_index numbers p) (slice_index numbers q)

-- the block is in the plane, as the graph of its part, and v is one of its vertices
pub record HasVertex (member : Member) (v : ℕ) : Type 0 where
  pub state : BlockState
  pub plane : member.plane ≡ Some state
  pub graph : state.graph ≡ member.part.graph
  pub vertex : is_member v member.part.vertices ≡ true

-- and the edge is one of its edges at v
pub record HasAround (member : Member) (v e : ℕ) : Type 0 where
  pub block : HasVertex member v
  pub edge : is_member e (outer_at member.part block.state.rotation v) ≡ true

-- b is the number of an edge of this rank, of the numbers of the edges in order
pub record IsFoundRank (t : VertexTables) (at numbers : List ℕ) (of_rank b : ℕ) : Type 0 where
  pub place : ℕ
  pub within : place < length at
  pub rank : rank_in t (slice_index at place) ≡ of_rank
  pub is : b ≡ slice_index numbers place
