-- The stack of entries, and the current family: the entries of the stack and the rest of the edges.
use Rattle.std.specs.Prelude.{◌≡◌, ℕ, ◌+◌, ◌<◌, ◌≤◌, ◌⊎◌, Bool, true, false, if◌then◌else◌, List, ◌++◌, length, map, slice_index_or, Contains}
use Rattle.pair_split.specs.Family.{Entry, has_end, touches, IsFamily, IsTight, IsSeparation}
use Rattle.split_comp.specs.declared.items.StackEntry.{StackEntry}

-- no entry, for places past the end
abbrev pub no_item : StackEntry
no_item = record { name = 0; up = 0; low = 0; tree = false; start = 0 }

-- the entry of the stack at place i
abbrev pub item : List StackEntry → ℕ → StackEntry
item stack i = slice_index_or stack i no_item

-- an entry of the stack as an entry of a family
abbrev pub entry : StackEntry → Entry
entry x = record { name = x.name; first = x.up; second = x.low }

-- the current family
abbrev pub family : List StackEntry → List Entry → List Entry
family stack rest = map entry stack ++ rest

-- the vertex of which the entry is a dart: the upper end of a tree edge, the lower end of a frond
abbrev pub owner : StackEntry → ℕ
owner x = (if x.tree then x.up else x.low)

-- how the entries lie, where the vertices from an x on and below last x are x and those below it, and those from done on are
-- finished: what belongs to a tree edge are the entries from its start on, and these are the entries with a lower end below
-- its own; tree edges among them are not above it
pub record IsLaid (last : ℕ → ℕ) (done : ℕ) (stack : List StackEntry) : Type 0 where
  pub rises : (i : ℕ) → i < length stack → ((item stack i).up < (item stack i).low) × ((item stack i).low < last (item stack i).up)
  pub frond_start : (i : ℕ) → i < length stack → (item stack i).tree ≡ false → (item stack i).start ≡ i
  pub tree_start : (p : ℕ) → p < length stack → (item stack p).tree ≡ true → (item stack p).start < p
  pub inside : (p i : ℕ) → p < length stack → (item stack p).tree ≡ true → (item stack p).start ≤ i → i ≤ p → ((item stack p).low ≤ (item stack i).low) × ((item stack i).low < last (item stack p).low)
  pub outside : (p i : ℕ) → p < length stack → (item stack p).tree ≡ true → i < length stack → (i < (item stack p).start) ⊎ (p < i) → ((item stack i).low < (item stack p).low) ⊎ (last (item stack p).low ≤ (item stack i).low)
  pub laminar : (p i : ℕ) → p < length stack → (item stack p).tree ≡ true → (item stack p).start ≤ i → i < p → (item stack p).start ≤ (item stack i).start
  pub nearest : (p i : ℕ) → p < length stack → (item stack p).tree ≡ true → (item stack p).start ≤ i → i < p → (item stack i).tree ≡ true → (item stack p).low ≤ (item stack i).up
  pub finished : (p : ℕ) → p < length stack → (item stack p).tree ≡ true → done ≤ (item stack p).low

-- the tree edge of vertex x is at place p
pub record IsTreeAt (stack : List StackEntry) (x p : ℕ) : Type 0 where
  pub within : p < length stack
  pub tree : (item stack p).tree ≡ true
  pub low : (item stack p).low ≡ x

-- each end of an entry is a vertex of the path to v, or has its tree edge in the stack
pub record IsEnded (last : ℕ → ℕ) (v : ℕ) (stack : List StackEntry) : Type 0 where
  pub held : (i z : ℕ) → i < length stack → has_end z (entry (item stack i)) ≡ true → v < z → (p : ℕ) × IsTreeAt stack z p
  pub on_path : (i z : ℕ) → i < length stack → has_end z (entry (item stack i)) ≡ true → z ≤ v → v < last z

-- the rest of the current family: it touches no finished vertex, v, and all vertices of the path to v that the stack touches
pub record IsRest (done v : ℕ) (stack : List StackEntry) (rest : List Entry) : Type 0 where
  pub is_family : IsFamily (family stack rest)
  pub is_tight : IsTight (family stack rest)
  pub ahead : v < done
  pub free : (z : ℕ) → done ≤ z → touches rest z ≡ false
  pub on_path : (i z : ℕ) → i < length stack → has_end z (entry (item stack i)) ≡ true → z ≤ v → touches rest z ≡ true
  pub own : touches rest v ≡ true

-- a stack of entries, and the rest, where the search is at v
pub record IsStack (last : ℕ → ℕ) (done v : ℕ) (stack : List StackEntry) (rest : List Entry) : Type 0 where
  pub above : (x : ℕ) → x < last x
  pub nested : (x y : ℕ) → x ≤ y → y < last x → last y ≤ last x
  pub laid : IsLaid last done stack
  pub ended : IsEnded last v stack
  pub left : IsRest done v stack rest

-- of two darts of one vertex the earlier one has an upper end no greater than any of the later one on the path to v; and
-- where four entries are left, what comes after a frond has greater upper ends. For the first n entries
pub record IsSorted (v n : ℕ) (stack : List StackEntry) (rest : List Entry) : Type 0 where
  pub reach_rises : (r q j : ℕ) → r < q → q < n → owner (item stack r) ≡ owner (item stack q) → (item stack q).start ≤ j → j ≤ q → (item stack j).up ≤ v
      → (i : ℕ) × ((item stack r).start ≤ i) × (i ≤ r) × ((item stack i).up ≤ (item stack j).up)
  pub frond_rises : (r q j : ℕ) → 4 ≤ length (family stack rest) → r < q → q < n → owner (item stack r) ≡ owner (item stack q) → (item stack r).tree ≡ false → (item stack r).up ≤ v
      → (item stack q).start ≤ j → j ≤ q → (item stack r).up < (item stack j).up

-- a 2-separation of the current family with a side inside the stack
pub record IsBad (stack : List StackEntry) (rest : List Entry) (s : ℕ → Bool) (p q : ℕ) : Type 0 where
  pub separates : IsSeparation (family stack rest) s p q
  pub stacked : (x : Entry) → Contains rest x → s x.name ≡ false

-- no 2-separation has a side inside the stack
abbrev pub IsClean : List StackEntry → List Entry → Type 0
IsClean stack rest = (s : ℕ → Bool) (p q : ℕ) → IsBad stack rest s p q → ⊥

-- each 2-separation that has a side inside the stack has the entry at place i in it
abbrev pub IsTopped : List StackEntry → List Entry → ℕ → Type 0
IsTopped stack rest i = (s : ℕ → Bool) (p q : ℕ) → IsBad stack rest s p q → s (item stack i).name ≡ true

-- the search has returned to v: the last entry, at place h, is a tree edge with the upper end v, to which all entries from
-- place s on belong, and before s the lower ends of tree edges are greater; and each 2-separation with a side inside the stack
-- has it in that side
pub record IsAtop (last : ℕ → ℕ) (done v s h : ℕ) (stack : List StackEntry) (rest : List Entry) : Type 0 where
  pub stands : IsStack last done v stack rest
  pub size : length stack ≡ h + 1
  pub tree : (item stack h).tree ≡ true
  pub up : (item stack h).up ≡ v
  pub start : (item stack h).start ≡ s
  pub sorted : IsSorted v h stack rest
  pub topped : IsTopped stack rest h
  pub behind : (i : ℕ) → i < s → (item stack i).tree ≡ true → (item stack h).low < (item stack i).low

-- and no frond is parallel to it
pub record IsReturned (last : ℕ → ℕ) (done v s h : ℕ) (stack : List StackEntry) (rest : List Entry) : Type 0 where
  pub stands : IsStack last done v stack rest
  pub size : length stack ≡ h + 1
  pub tree : (item stack h).tree ≡ true
  pub up : (item stack h).up ≡ v
  pub start : (item stack h).start ≡ s
  pub sorted : IsSorted v h stack rest
  pub topped : IsTopped stack rest h
  pub behind : (i : ℕ) → i < s → (item stack i).tree ≡ true → (item stack h).low < (item stack i).low
  pub no_frond : (i : ℕ) → i < h → (item stack i).tree ≡ false → (item stack i).low ≡ (item stack h).low → (item stack i).up ≡ v → ⊥

-- the number for no place of the stack
abbrev pub no_place : ℕ
no_place = 4294967295

-- for each vertex that is not finished, or has its tree edge in the stack, the least place of the stack that touches it, or
-- none
pub record AreFirst (n done : ℕ) (first : List ℕ) (stack : List StackEntry) : Type 0 where
  pub places : length first ≡ n
  pub least : (i z : ℕ) → i < length stack → has_end z (entry (item stack i)) ≡ true → slice_index_or first z 0 ≤ i
  pub attained : (z : ℕ) → z < n → (z < done) ⊎ ((p : ℕ) × IsTreeAt stack z p) → (slice_index_or first z 0 ≡ no_place) ⊎ ((slice_index_or first z 0 < length stack) × (has_end z (entry (item stack (slice_index_or first z 0))) ≡ true))
