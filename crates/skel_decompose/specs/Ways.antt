-- State of the loops: ways up in a tree that is given by the parents, and lists in which each node is after its parent.
use Rattle.std.specs.Prelude.{◌≡◌, ◌≢◌, ℕ, ◌<◌, ◌⊎◌, Bool, true, false, ◌||◌, cond, List, [], ◌∷◌, length, slice_index_or, slice_set}
use Rattle.permutations.specs.Members.{is_member, is_distinct}
use Rattle.multigraph.specs.Marks.{is_marked}
use Rattle.spqr_tree.specs.Absent.{absent}
use Rattle.spqr_tree.specs.Keys.{parent_at}

-- parents are nodes, of lower ranks
abbrev pub IsFalling : List ℕ → (ℕ → ℕ) → Type 0
IsFalling parents rank = (x : ℕ) → x < length parents → parent_at parents x ≢ absent → (parent_at parents x < length parents) × (rank (parent_at parents x) < rank x)

-- what is on the list is a node, is there once, and is after its parent or has none
pub record AreDown (parents order : List ℕ) : Type 0 where
  pub within : (q : ℕ) → q < length order → slice_index_or order q 0 < length parents
  pub distinct : is_distinct order ≡ true
  pub after : (q : ℕ) → q < length order → (parent_at parents (slice_index_or order q 0) ≡ absent) ⊎ ((h : ℕ) × (h < q) × (slice_index_or order h 0 ≡ parent_at parents (slice_index_or order q 0)))

-- the way up from node k, on which each node is followed by its parent; `next` is the parent of its last node, and k where it has none
abbrev pub IsWay : List ℕ → ℕ → List ℕ → ℕ → Type 0
IsWay parents k [] next = next ≡ k
IsWay parents k (x ∷ way) next = (x ≡ k) × IsWay parents (parent_at parents x) way next

-- the climb from node k has come to x: the nodes of the list, which are the way there, were not placed, and are now
pub record IsClimbing (parents : List ℕ) (k : ℕ) (old now : List Bool) (list : List ℕ) (x : ℕ) : Type 0 where
  pub number : length now ≡ length old
  pub way : IsWay parents k list x
  pub distinct : is_distinct list ≡ true
  pub within : (y : ℕ) → is_member y list ≡ true → y < length parents
  pub unplaced : (y : ℕ) → is_member y list ≡ true → is_marked old y ≡ false
  pub placed : (y : ℕ) → is_marked now y ≡ (is_marked old y || is_member y list)
  pub inside : (x ≡ absent) ⊎ (x < length parents)
  pub above : (rank : ℕ → ℕ) → IsFalling parents rank → x ≢ absent → (y : ℕ) → is_member y list ≡ true → rank x < rank y

-- and has ended, where the way was placed already or at the root
pub record IsClimbed (parents : List ℕ) (k : ℕ) (old now : List Bool) (list : List ℕ) : Type 0 where
  pub next : ℕ
  pub climbing : IsClimbing parents k old now list next
  pub ends : (next ≡ absent) ⊎ (is_marked old next ≡ true)

-- the parents where each of the list is the parent of the next one, and the first has this one as its parent
abbrev pub turned : List ℕ → ℕ → List ℕ → List ℕ
turned parents below [] = parents
turned parents below (x ∷ way) = turned (slice_set parents x below) x way

-- those of the list that are not placed
abbrev pub others_of : List Bool → List ℕ → List ℕ
others_of placed [] = []
others_of placed (x ∷ order) = cond (is_marked placed x) (others_of placed order) (x ∷ others_of placed order)
