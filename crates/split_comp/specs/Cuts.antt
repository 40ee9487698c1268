-- Cuts of the stack: those that are kept are sound, and complete.
use Rattle.std.specs.Prelude.{◌≡◌, ◌≢◌, ℕ, ◌+◌, ◌<◌, ◌≤◌, ◌⊎◌, true, List, length, slice_index_or, Contains}
use Rattle.pair_split.specs.Family.{has_end}
use Rattle.split_comp.specs.Stack.{item, entry, owner, IsTreeAt}
use Rattle.split_comp.specs.declared.items.StackEntry.{StackEntry}
use Rattle.split_comp.specs.declared.items.StackCut.{StackCut}

-- no cut, for places past the end
abbrev pub no_cut : StackCut
no_cut = record { start = 0; up = 0; low = 0 }

-- cut k
abbrev pub cut : List StackCut → ℕ → StackCut
cut cuts k = slice_index_or cuts k no_cut

-- a is the least upper end among the entries from place t on
pub record IsLeastUp (stack : List StackEntry) (t a : ℕ) : Type 0 where
  pub least : (i : ℕ) → t ≤ i → i < length stack → a ≤ (item stack i).up
  pub place : ℕ
  pub from : t ≤ place
  pub within : place < length stack
  pub attained : (item stack place).up ≡ a

-- an entry from place t on, and one before it, have the end z
pub record IsAcross (stack : List StackEntry) (t z : ℕ) : Type 0 where
  pub low : ℕ
  pub low_within : low < t
  pub low_end : has_end z (entry (item stack low)) ≡ true
  pub high : ℕ
  pub high_from : t ≤ high
  pub high_within : high < length stack
  pub high_end : has_end z (entry (item stack high)) ≡ true

-- an entry before place t has the end z
pub record IsBefore (stack : List StackEntry) (t z : ℕ) : Type 0 where
  pub place : ℕ
  pub within : place < t
  pub end : has_end z (entry (item stack place)) ≡ true

-- what belongs to a dart of b starts at place t
pub record IsStart (stack : List StackEntry) (b t : ℕ) : Type 0 where
  pub place : ℕ
  pub within : place < length stack
  pub owned : owner (item stack place) ≡ b
  pub starts : (item stack place).start ≡ t

-- the entries of b start at s: b has its tree edge in the stack, and what belongs to it starts there
pub record IsFirstBelow (stack : List StackEntry) (s b : ℕ) : Type 0 where
  pub place : ℕ
  pub tree_at : IsTreeAt stack b place
  pub starts : (item stack place).start ≡ s

-- one cut is sound, at the vertex x with entries from s on, where the search is not back at the parent of x
pub record IsSoundCut (s x : ℕ) (stack : List StackEntry) (c : StackCut) : Type 0 where
  pub from : s < c.start
  pub within : c.start < length stack
  pub starts : IsStart stack c.low c.start
  pub below : (c.low ≡ x) ⊎ IsFirstBelow stack s c.low
  pub least : IsLeastUp stack c.start c.up
  pub up : c.up < x
  pub across : (z : ℕ) → x < z → IsAcross stack c.start z → z ≡ c.low
  pub own : c.low ≢ x → IsBefore stack c.start x → ⊥

-- neighbours among the cuts: places increase, upper ends increase weakly, vertices decrease weakly, and the upper end of the
-- first one is reached between the two
pub record IsChain (stack : List StackEntry) (cuts : List StackCut) : Type 0 where
  pub starts_rise : (k : ℕ) → k + 1 < length cuts → (cut cuts k).start < (cut cuts (k + 1)).start
  pub ups_rise : (k : ℕ) → k + 1 < length cuts → (cut cuts k).up ≤ (cut cuts (k + 1)).up
  pub lows_fall : (k : ℕ) → k + 1 < length cuts → (cut cuts (k + 1)).low ≤ (cut cuts k).low
  pub met : (k : ℕ) → k + 1 < length cuts → (i : ℕ) × ((cut cuts k).start ≤ i) × (i < (cut cuts (k + 1)).start) × (i < length stack) × ((item stack i).up ≡ (cut cuts k).up)

-- the cuts of the vertex x, with entries from s on, are sound
pub record AreSound (s x : ℕ) (stack : List StackEntry) (cuts : List StackCut) : Type 0 where
  pub each : (k : ℕ) → k < length cuts → IsSoundCut s x stack (cut cuts k)
  pub chain : IsChain stack cuts

-- what a cut has to meet to be of use above x: its least upper end is above x, and no vertex between is touched before it
pub record IsWanted (s : ℕ) (stack : List StackEntry) (t a b : ℕ) : Type 0 where
  pub from : s < t
  pub starts : IsStart stack b t
  pub least : IsLeastUp stack t a
  pub free : (y : ℕ) → a < y → y < b → IsBefore stack t y → ⊥

-- they are complete
abbrev pub AreComplete : ℕ → ℕ → List StackEntry → List StackCut → Type 0
AreComplete s x stack cuts =
    (t a b : ℕ) → IsWanted s stack t a b → (b ≡ x) ⊎ IsFirstBelow stack s b → a < x → Contains cuts (record { start = t; up = a; low = b })

-- one cut is sound, when the search has returned to v, and the last entry is the tree edge of w; one of v and w themselves is
-- no longer of use
pub record IsSoundAt (s v w : ℕ) (stack : List StackEntry) (c : StackCut) : Type 0 where
  pub from : s < c.start
  pub within : c.start < length stack
  pub starts : IsStart stack c.low c.start
  pub below : IsFirstBelow stack s c.low
  pub least : IsLeastUp stack c.start c.up
  pub up : c.up ≤ v
  pub across : (z : ℕ) → v < z → IsAcross stack c.start z → z ≡ c.low

pub record AreSoundAt (s v w : ℕ) (stack : List StackEntry) (cuts : List StackCut) : Type 0 where
  pub each : (k : ℕ) → k < length cuts → ((cut cuts k).up ≡ v → (cut cuts k).low ≡ w → ⊥) → IsSoundAt s v w stack (cut cuts k)
  pub up_within : (k : ℕ) → k < length cuts → (cut cuts k).up ≤ v
  pub chain : IsChain stack cuts

abbrev pub AreCompleteAt : ℕ → ℕ → ℕ → List StackEntry → List StackCut → Type 0
AreCompleteAt s v w stack cuts =
    (t a b : ℕ) → IsWanted s stack t a b → IsFirstBelow stack s b → a ≤ v → (a ≡ v → b ≡ w → ⊥) → Contains cuts (record { start = t; up = a; low = b })
