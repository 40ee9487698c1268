-- How two blocks that cross are found: in a list with the rank of the block of each edge, a pass for each block.
use Rattle.std.specs.Prelude.{◌≡◌, ◌≢◌, ℕ, ◌<◌, ◌≤◌, Bool, true, List, length, slice_index}
use Rattle.permutations.specs.Members.{is_member}
use Rattle.arrangements.specs.Arranged.{of_block, cross}
use Rattle.arrangements.specs.Refused.{IsLeastCrossing}
use Rattle.arrangements.specs.Gaps.{edges_before, gap, InGaps}
use Rattle.arrangements.specs.Tables.{VertexTables, rank_in}

-- how many edges of a rank a list of ranks has
abbrev pub count_rank : ℕ → List ℕ → ℕ
count_rank b ranks = length (of_block (λ r. r) b ranks)

-- whether the blocks of two ranks cross in a list of ranks
abbrev pub cross_ranks : ℕ → ℕ → List ℕ → Bool
cross_ranks b c ranks = cross (λ r. r) b c ranks

-- a rank that no block has
abbrev pub no_gap : ℕ
no_gap = 4294967295

-- after the places before this one: by rank the gap of block b in which an edge of it was first met, or `no_gap`; how many edges
-- of b were met; and the least rank of which edges were met in two gaps, or the number of ranks
pub record IsPassed (b : ℕ) (ranks met : List ℕ) (place before least : ℕ) : Type 0 where
  pub count : before ≡ edges_before (λ r. r) b ranks place
  pub each : (p : ℕ) → p < place → slice_index ranks p ≢ b → slice_index met (slice_index ranks p) ≢ no_gap
  pub some : (c : ℕ) → c < length met → slice_index met c ≢ no_gap → (q : ℕ) × (q < place) × (slice_index ranks q ≡ c) × (slice_index met c ≡ gap (λ r. r) b ranks q)
  pub within : least ≤ length met
  pub below : (c p : ℕ) → c < least → c ≢ b → p < place → slice_index ranks p ≡ c → gap (λ r. r) b ranks p ≡ slice_index met c
  pub found : least < length met → (b ≢ least) × InGaps (λ r. r) b least ranks

-- c is the least rank of a block that crosses that of rank b
pub record IsLeastCrossed (b : ℕ) (ranks : List ℕ) (c : ℕ) : Type 0 where
  pub crosses : cross_ranks b c ranks ≡ true
  pub least : (e : ℕ) → cross_ranks b e ranks ≡ true → c ≤ e

-- the ranks are those of the two least blocks that cross
pub record IsCrossingOf (t : VertexTables) (block : ℕ → ℕ) (list : List ℕ) (r s : ℕ) : Type 0 where
  pub first : ℕ
  pub second : ℕ
  pub first_met : is_member first t.edges ≡ true
  pub second_met : is_member second t.edges ≡ true
  pub first_rank : rank_in t first ≡ r
  pub second_rank : rank_in t second ≡ s
  pub least : IsLeastCrossing block list (block first) (block second)
