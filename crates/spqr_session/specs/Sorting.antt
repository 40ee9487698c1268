-- Of private functions: the lists of a start, given to the blocks of their edges.
use Rattle.std.specs.Prelude.{◌≡◌, ℕ, ◌<◌, ◌==◌, Bool, true, false, if◌then◌else◌, List, [], ◌∷◌, ◌++◌, length, map, filter, slice_index, slice_index_or}
use Rattle.permutations.specs.Members.{is_member}
use Rattle.multigraph.specs.Graph.{numbers_below}
use Rattle.blocks.specs.Blocks.{block_at}

-- these edges have block b in the table, and the others the block from before
pub record IsBlockNoted (edges : List ℕ) (b : ℕ) (old new : List ℕ) : Type 0 where
  pub long : length new ≡ length old
  pub noted : (e : ℕ) → is_member e edges ≡ true → slice_index new e ≡ b
  pub others : (e : ℕ) → is_member e edges ≡ false → slice_index new e ≡ slice_index old e

-- a table of m places has for each edge of the first n blocks the block
pub record HasBlocks (m : ℕ) (blocks : List (List ℕ)) (n : ℕ) (table : List ℕ) : Type 0 where
  pub long : length table ≡ m
  pub each : (b e : ℕ) → b < n → is_member e (block_at blocks b) ≡ true → slice_index table e ≡ b

-- the table has for an edge a block below a total
abbrev pub IsKnown : List ℕ → ℕ → ℕ → Type 0
IsKnown table total e = (e < length table) × (slice_index table e < total)

-- those of the edges that are of block b by the table, in order
abbrev pub of_block : List ℕ → ℕ → List ℕ → List ℕ
of_block table b edges = filter (λ e. slice_index table e == b) edges

-- for each block below a total, those of the edges that are of it
pub record AreWaiting (table edges : List ℕ) (total : ℕ) (waiting : List (List ℕ)) : Type 0 where
  pub counted : length waiting ≡ total
  pub each : (b : ℕ) → b < total → slice_index_or waiting b [] ≡ of_block table b edges

-- whether the list has a member
abbrev pub has_some : List ℕ → Bool
has_some [] = false
has_some (e ∷ edges) = true

-- an entry of v and the edges, where there are any
abbrev pub entry_of : ℕ → List ℕ → List (ℕ × List ℕ)
entry_of v edges = (if has_some edges then (v, edges) ∷ [] else [])

-- the edges `done` of a list for v were gone through: each block that has one of them has its entry, and the edges of others still wait
pub record AreMoved (table edges done : List ℕ) (v total : ℕ) (before lists : List (List (ℕ × List ℕ))) (waiting : List (List ℕ)) : Type 0 where
  pub waiting_each : length waiting ≡ total
  pub lists_each : length lists ≡ total
  pub moved : (b : ℕ) → b < total → has_some (of_block table b done) ≡ true → (slice_index_or waiting b [] ≡ []) × (slice_index_or lists b [] ≡ slice_index_or before b [] ++ entry_of v (of_block table b edges))
  pub left : (b : ℕ) → b < total → has_some (of_block table b done) ≡ false → (slice_index_or waiting b [] ≡ of_block table b edges) × (slice_index_or lists b [] ≡ slice_index_or before b [])

-- each block has one entry of v more, with those of the edges that are of it, where there are any
pub record AreEntered (table edges : List ℕ) (v total : ℕ) (before lists : List (List (ℕ × List ℕ))) : Type 0 where
  pub counted : length lists ≡ total
  pub each : (b : ℕ) → b < total → slice_index_or lists b [] ≡ slice_index_or before b [] ++ entry_of v (of_block table b edges)

-- those of the first n vertices whose lists have edges of block b, each with these edges, in the order of its list
abbrev pub gathered : List ℕ → List (List ℕ) → ℕ → ℕ → List (ℕ × List ℕ)
gathered table starts b n = map (λ v. (v, of_block table b (slice_index_or starts v []))) (filter (λ v. has_some (of_block table b (slice_index_or starts v []))) (numbers_below n))

-- these, for each block below a total
pub record AreGathered (table : List ℕ) (starts : List (List ℕ)) (n total : ℕ) (lists : List (List (ℕ × List ℕ))) : Type 0 where
  pub counted : length lists ≡ total
  pub each : (b : ℕ) → b < total → slice_index_or lists b [] ≡ gathered table starts b n
