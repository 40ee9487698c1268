-- The tables of a vertex: its edges, increasing, and for each of them the rank of its block and the edge that follows it in the
-- cyclic order of its block; and how they agree with blocks and cyclic orders.
use Rattle.std.specs.Prelude.{◌≡◌, ℕ, ◌<◌, ◌^◌, nat_lt, true, List, length, slice_index}
use Rattle.permutations.specs.Members.{is_member, place_of}
use Rattle.choice_lists.specs.Order.{IsRising}
use Rattle.arrangements.specs.Arranged.{AreOrders, IsArrangement}
use Rattle.arrangements.specs.Options.{follower}

-- the edges at a vertex, increasing; by the place of each edge, the rank of its block and the edge that follows it in its block
pub record VertexTables : Type 0 where
  pub edges : List ℕ
  pub ranks : List ℕ
  pub followers : List ℕ

-- the rank of the block of an edge
abbrev pub rank_in : VertexTables → ℕ → ℕ
rank_in t e = slice_index t.ranks (place_of t.edges e)

-- the edge that follows an edge in its block
abbrev pub follow_in : VertexTables → ℕ → ℕ
follow_in t e = slice_index t.followers (place_of t.edges e)

-- the edges increase, and each has a rank, of which there are at most as many as edges, and is followed by one of them
pub record IsTables (t : VertexTables) : Type 0 where
  pub rise : IsRising nat_lt t.edges
  pub few : length t.edges < 2 ^ 32
  pub rank_each : length t.ranks ≡ length t.edges
  pub follower_each : length t.followers ≡ length t.edges
  pub rank_below : (p : ℕ) → p < length t.edges → slice_index t.ranks p < length t.edges
  pub follower_within : (p : ℕ) → p < length t.edges → is_member (slice_index t.followers p) t.edges ≡ true

-- the tables are those of these blocks, whose cyclic orders are these: the ranks increase with the blocks
pub record AreTablesOf (t : VertexTables) (block : ℕ → ℕ) (order : ℕ → List ℕ) : Type 0 where
  pub orders : AreOrders block order t.edges
  pub ranks : (e x : ℕ) → is_member e t.edges ≡ true → is_member x t.edges ≡ true → nat_lt (rank_in t e) (rank_in t x) ≡ nat_lt (block e) (block x)
  pub follows : (e : ℕ) → is_member e t.edges ≡ true → follow_in t e ≡ follower block order e

-- there are blocks and cyclic orders of which these are the tables
pub record HaveBlocks (t : VertexTables) : Type 0 where
  pub block : ℕ → ℕ
  pub order : ℕ → List ℕ
  pub are : AreTablesOf t block order

-- and of which the list is an arrangement
pub record HaveArrangement (t : VertexTables) (l : List ℕ) : Type 0 where
  pub block : ℕ → ℕ
  pub order : ℕ → List ℕ
  pub are : AreTablesOf t block order
  pub arranged : IsArrangement block order t.edges l
