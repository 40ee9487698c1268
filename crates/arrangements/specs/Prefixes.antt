-- What is noted of a prefix while an arrangement is made edge by edge, and what the functions on it give. All of it is said of any
-- blocks and cyclic orders of which the tables are, where each edge of the prefix may come after those before it.
use Rattle.std.specs.Prelude.{◌≡◌, ℕ, ◌+◌, ◌-◌, ◌<◌, ◌≤◌, ◌⊎◌, nat_lt, ◌==◌, ◌&&◌, if◌then◌else◌, Bool, true, false, List, [], ◌∷◌, ◌++◌, Option, MatchOption, length, map, take, slice_index, slice_index_or}
use Rattle.std.specs.Vec.{vec_capacity}
use Rattle.permutations.specs.Members.{is_member}
use Rattle.permutations.specs.Cyclic.{first_or, last_or}
use Rattle.arrangements.specs.Options.{follower, waiting, is_opened, is_option, IsBuilt, IsLeastOption, IsFilled}
use Rattle.arrangements.specs.Tables.{VertexTables, AreTablesOf}
use Rattle.arrangements.specs.declared.prefixes.Prefix.{Prefix}

-- for any blocks and cyclic orders of which these are the tables
abbrev pub ForBlocks : VertexTables → ((ℕ → ℕ) → (ℕ → List ℕ) → Type 0) → Type 0
ForBlocks t P = (block : ℕ → ℕ) (order : ℕ → List ℕ) → AreTablesOf t block order → P block order

-- for any of them by which each edge of the prefix may come after those before it
abbrev pub ForBuilt : VertexTables → List ℕ → ((ℕ → ℕ) → (ℕ → List ℕ) → Type 0) → Type 0
ForBuilt t prefix P = (block : ℕ → ℕ) (order : ℕ → List ℕ) → AreTablesOf t block order → IsBuilt block (follower block order) t.edges prefix → P block order

-- there are some of that kind
pub record HaveBuilt (t : VertexTables) (prefix : List ℕ) : Type 0 where
  pub block : ℕ → ℕ
  pub order : ℕ → List ℕ
  pub are : AreTablesOf t block order
  pub built : IsBuilt block (follower block order) t.edges prefix

-- e is the least edge that may come after the prefix, of those not below `from`
abbrev pub IsLeastFrom : VertexTables → List ℕ → ℕ → ℕ → Type 0
IsLeastFrom t prefix from e = ForBuilt t prefix (λ block order. IsLeastOption block (follower block order) t.edges prefix from e)

-- an edge greater than e may come after the prefix
pub record HasGreater (block follow : ℕ → ℕ) (edges prefix : List ℕ) (e : ℕ) : Type 0 where
  pub greater : ℕ
  pub option : is_option block follow edges prefix greater ≡ true
  pub above : e < greater

-- no edge greater than e may come after the prefix
abbrev pub NoneGreater : (ℕ → ℕ) → (ℕ → ℕ) → List ℕ → List ℕ → ℕ → Type 0
NoneGreater block follow edges prefix e = (o : ℕ) → is_option block follow edges prefix o ≡ true → o ≤ e

-- by place it is noted whether the edge is in the prefix, by rank whether the block is opened, and the edges that follow those
-- waiting, in their order
pub record IsPrefix (t : VertexTables) (used opened : List Bool) (stack prefix : List ℕ) (block : ℕ → ℕ) (order : ℕ → List ℕ) : Type 0 where
  pub is_used : (p : ℕ) → p < length t.edges → slice_index_or used p false ≡ is_member (slice_index t.edges p) prefix
  pub is_open : (p : ℕ) → p < length t.edges → slice_index_or opened (slice_index t.ranks p) false ≡ is_opened block (block (slice_index t.edges p)) prefix
  pub is_stack : stack ≡ map (follower block order) (waiting (follower block order) prefix)

-- there is room to note a prefix of all edges
pub record HasRoom (t : VertexTables) (s : Prefix) : Type 0 where
  pub used_each : length s.used.items ≡ length t.edges
  pub opened_each : length s.opened.items ≡ length t.edges
  pub room : length t.edges ≤ vec_capacity s.stack

-- what is noted of the prefix
pub record IsNoted (t : VertexTables) (s : Prefix) (prefix : List ℕ) : Type 0 where
  pub room : HasRoom t s
  pub depth : length s.stack.items ≤ length prefix
  pub within : (x : ℕ) → is_member x s.stack.items ≡ true → is_member x t.edges ≡ true
  pub right : ForBuilt t prefix (IsPrefix t s.used.items s.opened.items s.stack.items prefix)

-- the top of the stack, its last number
abbrev pub IsTop : List ℕ → Option ℕ → Type 0
IsTop stack top = MatchOption top (stack ≡ []) (λ t. (front : List ℕ) × (stack ≡ front ++ t ∷ []))

-- the stack without its top, where that is e
abbrev pub without_top : List ℕ → ℕ → List ℕ
without_top stack e = (if nat_lt 0 (length stack) && (last_or 0 stack == e) then take (length stack - 1) stack else stack)

-- from one place up to another, each edge is of an opened block
abbrev pub AreOpenedBetween : VertexTables → List Bool → ℕ → ℕ → Type 0
AreOpenedBetween t opened low high = (p : ℕ) → low ≤ p → p < high → slice_index_or opened (slice_index t.ranks p) false ≡ true

-- the place is the least of an edge not below `from` whose block is not opened, or the number of places
pub record IsLeastUnopened (t : VertexTables) (opened : List Bool) (from place : ℕ) : Type 0 where
  pub within : place ≤ length t.edges
  pub before : (p : ℕ) → p < place → from ≤ slice_index t.edges p → slice_index_or opened (slice_index t.ranks p) false ≡ true
  pub here : place < length t.edges → (slice_index_or opened (slice_index t.ranks place) false ≡ false) × (from ≤ slice_index t.edges place)

-- that is a place, or the top of the stack is not below `from`
abbrev pub CanGoOn : VertexTables → List ℕ → ℕ → ℕ → Type 0
CanGoOn t stack from place = (place < length t.edges) ⊎ ((front : List ℕ) × (top : ℕ) × (stack ≡ front ++ top ∷ []) × (from ≤ top))

-- k is l with the least greater edge that may come at a place, and after it at each place the least that may come
pub record IsIncreased (block follow : ℕ → ℕ) (edges l : List ℕ) (place : ℕ) (k : List ℕ) : Type 0 where
  pub same_length : length k ≡ length l
  pub same_before : take place k ≡ take place l
  pub greater : IsLeastOption block follow edges (take place l) (slice_index l place + 1) (slice_index k place)
  pub filled : IsFilled block follow edges (place + 1) k

-- the list has as many edges as there are, the least first, and each may come after those before it
pub record IsFullyBuilt (block follow : ℕ → ℕ) (edges l : List ℕ) : Type 0 where
  pub all : length l ≡ length edges
  pub least_first : first_or 0 l ≡ first_or 0 edges
  pub built : IsBuilt block follow edges l
