-- Groups of blocks that cross, as one pass through the list of their ranks finds them. A block is unfinished while edges of it are to
-- come; each unfinished block is in one group, and the groups lie on a stack in the order in which they begin.
use Rattle.std.specs.Prelude.{◌≡◌, ◌≢◌, ℕ, ◌<◌, ◌≤◌, Bool, true, false, List, length, slice_index, slice_index_or}
use Rattle.std.specs.Vec.{vec_capacity}
use Rattle.arrangements.specs.Crossings.{cross_ranks}
use Rattle.arrangements.specs.declared.groups.Groups.{Groups}

-- by rank, the first place of its block and the last one, or a later one
pub record AreEnds (ranks first last : List ℕ) : Type 0 where
  pub begins : (p : ℕ) → p < length ranks → slice_index first (slice_index ranks p) ≤ p
  pub there : (p : ℕ) → p < length ranks → slice_index ranks (slice_index first (slice_index ranks p)) ≡ slice_index ranks p
  pub ends : (p : ℕ) → p < length ranks → p ≤ slice_index last (slice_index ranks p)

-- the rank is noted as that of a block that may cross another one
abbrev pub is_noted : List Bool → ℕ → Bool
is_noted noted r = slice_index_or noted r false

-- the block of rank r, with these first and last places, is in a group: the last one that begins no later than the block. The group ends no
-- earlier, and where the group begins with another block, both are noted
pub record IsInGroup (ranks starts ends : List ℕ) (noted : List Bool) (r first last : ℕ) : Type 0 where
  pub group : ℕ
  pub within : group < length starts
  pub begins : slice_index starts group ≤ first
  pub top : (k : ℕ) → group < k → k < length starts → first < slice_index starts k
  pub finish : last ≤ slice_index ends group
  pub own : slice_index starts group ≢ first → is_noted noted r ≡ true
  pub base : slice_index starts group ≢ first → is_noted noted (slice_index ranks (slice_index starts group)) ≡ true

-- edges of two blocks alternate at the places p, q, r and s
pub record AlternateAt (ranks : List ℕ) (p q r s : ℕ) : Type 0 where
  pub first : p < q
  pub second : q < r
  pub third : r < s
  pub within : s < length ranks
  pub one : slice_index ranks p ≡ slice_index ranks r
  pub other : slice_index ranks q ≡ slice_index ranks s
  pub differ : slice_index ranks p ≢ slice_index ranks q

-- the groups before place i: each unfinished block is in one, and two blocks are noted where a third edge of the two has come in turn
pub record AreGroups (ranks first last starts ends : List ℕ) (noted : List Bool) (i : ℕ) : Type 0 where
  pub each : length ends ≡ length starts
  pub few : length starts ≤ i
  pub started : (k : ℕ) → k < length starts → slice_index starts k < i
  pub increasing : (j k : ℕ) → j < k → k < length starts → slice_index starts j < slice_index starts k
  pub held : (p : ℕ) → p < i → p < length ranks → i ≤ slice_index last (slice_index ranks p)
      → IsInGroup ranks starts ends noted (slice_index ranks p) (slice_index first (slice_index ranks p)) (slice_index last (slice_index ranks p))
  pub found : (p q r s : ℕ) → AlternateAt ranks p q r s → r < i → (is_noted noted (slice_index ranks p) ≡ true) × (is_noted noted (slice_index ranks q) ≡ true)

-- each block that crosses another one is noted
abbrev pub AreNoted : List ℕ → List Bool → Type 0
AreNoted ranks noted = (b c : ℕ) → cross_ranks b c ranks ≡ true → is_noted noted b ≡ true

-- there is room for a list of this length
pub record HaveRoom (g : Groups) (n : ℕ) : Type 0 where
  pub first_each : length g.first.items ≡ n
  pub last_each : length g.last.items ≡ n
  pub noted_each : length g.noted.items ≡ n
  pub starts_room : n ≤ vec_capacity g.starts
  pub ends_room : n ≤ vec_capacity g.ends

-- the groups before place i, as they are noted
abbrev pub Hold : Groups → List ℕ → ℕ → Type 0
Hold g ranks i = AreGroups ranks g.first.items g.last.items g.starts.items g.ends.items g.noted.items i
