-- What is proved of arrangements, as statements.
use Rattle.std.specs.Prelude.{◌≡◌, ◌≢◌, ℕ, ◌+◌, ◌<◌, ◌⊎◌, ◌↔◌, true, List, length, Contains}
use Rattle.permutations.specs.Members.{is_member, is_distinct}
use Rattle.permutations.specs.Cyclic.{first_or, IsTurn}
use Rattle.choice_lists.specs.Order.{IsAt, Lists, is_before}
use Rattle.choice_lists.specs.Products.{IsFirst, IsLast}
use Rattle.arrangements.specs.Arranged.{keeps, cross, is_arranged, arrangements_at, first_arrangement, AreOrders, IsArrangement}
use Rattle.arrangements.specs.Refused.{Alternate, IsLeastChanged, IsLeastCrossing}
use Rattle.arrangements.specs.Options.{follower, is_option, IsBuilt, IsFilled, HasNoGreater, IsFollowing}

-- two blocks cross exactly where they alternate around the vertex
abbrev pub CrossIsAlternate : Type 0
CrossIsAlternate = (block : ℕ → ℕ) (b c : ℕ) (l : List ℕ) → is_distinct l ≡ true → b ≢ c → (cross block b c l ≡ true) ↔ Alternate block b c l

-- it doesn't matter where a list begins: a block keeps its cyclic order in each turn of it, or in none
abbrev pub KeptInEachTurn : Type 0
KeptInEachTurn = (block : ℕ → ℕ) (order : ℕ → List ℕ) (b : ℕ) (l k : List ℕ) → is_distinct l ≡ true → IsTurn l k → keeps block order b k ≡ keeps block order b l

-- and two blocks cross in each turn of it, or in none
abbrev pub CrossInEachTurn : Type 0
CrossInEachTurn = (block : ℕ → ℕ) (b c : ℕ) (l k : List ℕ) → is_distinct l ≡ true → IsTurn l k → cross block b c k ≡ cross block b c l

-- all arrangements are listed, in lexicographic order
abbrev pub ArrangementsAtAreListed : Type 0
ArrangementsAtAreListed = (block : ℕ → ℕ) (order : ℕ → List ℕ) (edges : List ℕ) → AreOrders block order edges → Lists is_before (IsArrangement block order edges) (arrangements_at block order edges)

-- there is a first one
abbrev pub FirstArrangementIsFirst : Type 0
FirstArrangementIsFirst = (block : ℕ → ℕ) (order : ℕ → List ℕ) (edges : List ℕ) → AreOrders block order edges → IsFirst (arrangements_at block order edges) (first_arrangement block order edges)

-- a cyclic order of the edges, from the least on, is an arrangement, or there is a least block whose cyclic order it changes, or
-- there is none and there are two least blocks that cross
abbrev pub ArrangedOrRefused : Type 0
ArrangedOrRefused = (block : ℕ → ℕ) (order : ℕ → List ℕ) (l : List ℕ)
    → (is_arranged block order l ≡ true) ⊎ (((b : ℕ) × IsLeastChanged block order l b) ⊎ (((e : ℕ) → is_member e l ≡ true → keeps block order (block e) l ≡ true) × ((b : ℕ) × (c : ℕ) × IsLeastCrossing block l b c)))

-- a cyclic order of the edges, from the least on, is an arrangement exactly where each edge may come after those before it
abbrev pub ArrangedByOptions : Type 0
ArrangedByOptions = (block : ℕ → ℕ) (order : ℕ → List ℕ) (edges l : List ℕ) → AreOrders block order edges → length l ≡ length edges → first_or 0 l ≡ first_or 0 edges
    → IsBuilt block (follower block order) edges l ↔ Contains (arrangements_at block order edges) l

-- while edges are missing some edge may come
abbrev pub OptionExists : Type 0
OptionExists = (block : ℕ → ℕ) (order : ℕ → List ℕ) (edges l : List ℕ) → AreOrders block order edges → IsBuilt block (follower block order) edges l → length l < length edges
    → (e : ℕ) × (is_option block (follower block order) edges l e ≡ true)

-- at each place the least edge that may come: the first arrangement
abbrev pub FilledIsFirst : Type 0
FilledIsFirst = (block : ℕ → ℕ) (order : ℕ → List ℕ) (edges l : List ℕ) → AreOrders block order edges → length l ≡ length edges
    → IsFilled block (follower block order) edges 0 l → first_arrangement block order edges ≡ l

-- changed at the last place at which a greater edge may come, and filled: the next arrangement
abbrev pub FollowingIsNext : Type 0
FollowingIsNext = (block : ℕ → ℕ) (order : ℕ → List ℕ) (edges l k : List ℕ) (i : ℕ) → AreOrders block order edges → IsAt (arrangements_at block order edges) i l
    → IsFollowing block (follower block order) edges l k → IsAt (arrangements_at block order edges) (i + 1) k

-- where there is no such place after the first: the last arrangement
abbrev pub NoGreaterIsLast : Type 0
NoGreaterIsLast = (block : ℕ → ℕ) (order : ℕ → List ℕ) (edges l : List ℕ) → AreOrders block order edges → Contains (arrangements_at block order edges) l
    → HasNoGreater block (follower block order) edges 1 l → IsLast (arrangements_at block order edges) l
