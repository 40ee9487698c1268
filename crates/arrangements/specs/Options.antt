-- Arrangements made edge by edge: which edges may come next after a prefix, which is a list of the edges so far. A block is
-- opened by a prefix that has an edge of it, and unfinished while other edges of it are missing. The edge that comes next either
-- opens a block, or it follows the last edge of the unfinished block that was opened last. `follow` is the edge that follows
-- each edge in the cyclic order of its block.
use Rattle.std.specs.Prelude.{◌≡◌, ℕ, ◌+◌, ◌<◌, ◌≤◌, Bool, true, not, ◌&&◌, ◌||◌, ◌==◌, nat_lt, List, map, length, filter, take, slice_index}
use Rattle.permutations.specs.Members.{is_member}
use Rattle.permutations.specs.Cyclic.{successor, last_or}

-- the edge that follows e in the cyclic order of its block
abbrev pub follower : (ℕ → ℕ) → (ℕ → List ℕ) → ℕ → ℕ
follower block order e = successor (order (block e)) e

-- the edges of the prefix whose followers are not in it: the last edge of each unfinished block, that of the block opened last
-- at the end
abbrev pub waiting : (ℕ → ℕ) → List ℕ → List ℕ
waiting follow l = filter (λ e. not (is_member (follow e) l)) l

-- whether block b has an edge in the prefix
abbrev pub is_opened : (ℕ → ℕ) → ℕ → List ℕ → Bool
is_opened block b l = is_member b (map block l)

-- whether e may come after the prefix: it is an edge of a block that is not opened, or follows the last edge that is waiting
abbrev pub is_option : (ℕ → ℕ) → (ℕ → ℕ) → List ℕ → List ℕ → ℕ → Bool
is_option block follow edges l e = (is_member e edges && not (is_opened block (block e) l)) || (nat_lt 0 (length (waiting follow l)) && (follow (last_or 0 (waiting follow l)) == e))

-- each edge of the list may come after those before it
abbrev pub IsBuilt : (ℕ → ℕ) → (ℕ → ℕ) → List ℕ → List ℕ → Type 0
IsBuilt block follow edges l = (i : ℕ) → i < length l → is_option block follow edges (take i l) (slice_index l i) ≡ true

-- e is the least edge that may come after the prefix, of those not below `from`
pub record IsLeastOption (block follow : ℕ → ℕ) (edges l : List ℕ) (from e : ℕ) : Type 0 where
  pub option : is_option block follow edges l e ≡ true
  pub enough : from ≤ e
  pub least : (o : ℕ) → is_option block follow edges l o ≡ true → from ≤ o → e ≤ o

-- from a place on, the list has at each place the least edge that may come
abbrev pub IsFilled : (ℕ → ℕ) → (ℕ → ℕ) → List ℕ → ℕ → List ℕ → Type 0
IsFilled block follow edges place l = (i : ℕ) → place ≤ i → i < length l → IsLeastOption block follow edges (take i l) 0 (slice_index l i)

-- from a place on, no edge greater than the one in the list may come
abbrev pub HasNoGreater : (ℕ → ℕ) → (ℕ → ℕ) → List ℕ → ℕ → List ℕ → Type 0
HasNoGreater block follow edges place l = (i o : ℕ) → place ≤ i → i < length l → is_option block follow edges (take i l) o ≡ true → o ≤ slice_index l i

-- k is l changed at the last place, after the first, at which a greater edge may come: there it has the least greater one, and
-- after it at each place the least that may come
pub record IsFollowing (block follow : ℕ → ℕ) (edges l k : List ℕ) : Type 0 where
  pub place : ℕ
  pub after_first : 1 ≤ place
  pub within : place < length l
  pub same_length : length k ≡ length l
  pub same_before : take place k ≡ take place l
  pub greater : IsLeastOption block follow edges (take place l) (slice_index l place + 1) (slice_index k place)
  pub last : HasNoGreater block follow edges (place + 1) l
  pub filled : IsFilled block follow edges (place + 1) k
