-- State of a loop: the walk around the tree from the node that has edge 0, over the items of each node in order, down each
-- link, and back by the first item. It gives each edge a place; the places of what is beyond a link are together.
use Rattle.std.specs.Prelude.{◌≡◌, ◌≢◌, ℕ, ◌+◌, ◌-◌, ◌<◌, ◌^◌, ◌≤◌, Bool, true, ◌==◌, List, [], ◌∷◌, ◌++◌, length, slice_index_or, slice_set}
use Rattle.permutations.specs.Count.{count, sum_below}
use Rattle.pair_split.specs.Tutte.{Node, node_at, node_item}
use Rattle.pair_split.specs.declared.components.What.{What}
use Rattle.pair_split.specs.declared.components.What.TheVariants.{Real, Link}
use Rattle.spqr_tree.specs.Absent.{absent}

-- what item i of node k represents
abbrev pub what_at : List Node → ℕ → ℕ → What
what_at nodes k i = (node_item nodes k i).what

-- how many items node k has
abbrev pub item_count : List Node → ℕ → ℕ
item_count nodes k = length (node_at nodes k).items

-- the place of edge e; absent where it has none yet
abbrev pub place_of : List ℕ → ℕ → ℕ
place_of places e = slice_index_or places e absent

-- whether edge e has no place yet
abbrev pub is_ahead : List ℕ → ℕ → Bool
is_ahead places e = place_of places e == absent

-- the bounds of node k
abbrev pub bounds_of : List (List ℕ) → ℕ → List ℕ
bounds_of bounds k = slice_index_or bounds k []

-- how many they are
abbrev pub bound_count : List (List ℕ) → ℕ → ℕ
bound_count bounds k = length (bounds_of bounds k)

-- bound i of node k: where the places of its item i + 1 begin, and where those of its item i end
abbrev pub bound_at : List (List ℕ) → ℕ → ℕ → ℕ
bound_at bounds k i = slice_index_or (bounds_of bounds k) i 0

-- the places and the bounds are those of a walk: an edge that is not the first item of a node has its place between the item's
-- bounds, and so have the bounds of the node beyond a link; an edge that is the first item comes before
pub record AreToured (nodes : List Node) (places : List ℕ) (bounds : List (List ℕ)) : Type 0 where
  pub number : length bounds ≡ length nodes
  pub each : (k : ℕ) → k < length nodes → bound_count bounds k ≡ item_count nodes k
  pub rise : (k i : ℕ) → i + 1 < bound_count bounds k → bound_at bounds k i ≤ bound_at bounds k (i + 1)
  pub within : (k i e : ℕ) → k < length nodes → i < item_count nodes k → what_at nodes k i ≡ Real e → e < length places
  pub first : (k e : ℕ) → k < length nodes → what_at nodes k 0 ≡ Real e → place_of places e < bound_at bounds k 0
  pub edges : (k i e : ℕ) → k < length nodes → i + 1 < item_count nodes k → what_at nodes k (i + 1) ≡ Real e → (bound_at bounds k i ≤ place_of places e) × (place_of places e < bound_at bounds k (i + 1))
  pub links : (k i j : ℕ) → k < length nodes → i + 1 < item_count nodes k → what_at nodes k (i + 1) ≡ Link j
      → (bound_at bounds k i ≤ bound_at bounds j 0) × ((z : ℕ) → z + 1 ≡ item_count nodes j → bound_at bounds j z ≤ bound_at bounds k (i + 1))

-- where the walk is: at a node; how many edges it visited; the places of these, and the bounds so far
pub record TourState : Type 0 where
  pub at : ℕ
  pub met : ℕ
  pub places : List ℕ
  pub bounds : List (List ℕ)

-- the places and bounds so far: of an item that was left all is right, as above
pub record ArePartly (nodes : List Node) (s : TourState) : Type 0 where
  pub number : length s.bounds ≡ length nodes
  pub here : s.at < length nodes
  pub few : (k : ℕ) → k < length nodes → bound_count s.bounds k ≤ item_count nodes k
  pub edges : (k i e : ℕ) → k < length nodes → i + 1 < bound_count s.bounds k → what_at nodes k (i + 1) ≡ Real e → (bound_at s.bounds k i ≤ place_of s.places e) × (place_of s.places e < bound_at s.bounds k (i + 1))
  pub links : (k i j : ℕ) → k < length nodes → i + 1 < bound_count s.bounds k → what_at nodes k (i + 1) ≡ Link j
      → (bound_at s.bounds k i ≤ bound_at s.bounds j 0) × ((z : ℕ) → z + 1 ≡ item_count nodes j → bound_at s.bounds j z ≤ bound_at s.bounds k (i + 1))
  pub range : (k i : ℕ) → i < bound_count s.bounds k → (0 < bound_at s.bounds k i) × (bound_at s.bounds k i ≤ s.met)
  pub rise : (k i : ℕ) → i + 1 < bound_count s.bounds k → bound_at s.bounds k i ≤ bound_at s.bounds k (i + 1)
  pub first : place_of s.places 0 ≡ 0
  pub begun : 0 < s.met
  pub left : s.met + count (length s.places) (is_ahead s.places) ≤ length s.places
  pub bounded : length s.places < 2 ^ 32
  pub within : (k i e : ℕ) → k < length nodes → i < item_count nodes k → what_at nodes k i ≡ Real e → e < length s.places

-- the walk is before the node where edge 0 was visited, and nothing else
pub record HasBegun (nodes : List Node) (m root : ℕ) (s : TourState) : Type 0 where
  pub here : s.at ≡ root
  pub met : s.met ≡ 1
  pub size : length s.places ≡ m
  pub first : place_of s.places 0 ≡ 0
  pub ahead : (e : ℕ) → e ≢ 0 → is_ahead s.places e ≡ true
  pub number : length s.bounds ≡ length nodes
  pub empty : (k : ℕ) → bound_count s.bounds k ≡ 0

-- the bounds with one more for the node where the walk is: how many edges it visited
abbrev pub noted : TourState → List (List ℕ)
noted s = slice_set s.bounds s.at (bounds_of s.bounds s.at ++ s.met ∷ [])

-- how many bounds are to be noted
abbrev pub tour_left : List Node → List (List ℕ) → ℕ
tour_left nodes bounds = sum_below (length nodes) (λ k. item_count nodes k - bound_count bounds k)

-- before a bound of the node is noted: of each node whose walk began one item was entered and not left, and those after it are
-- ahead; a node that was entered and left has all its bounds
pub record IsTouring (nodes : List Node) (s : TourState) : Type 0 where
  pub partly : ArePartly nodes s
  pub room : bound_count s.bounds s.at < item_count nodes s.at
  pub whole : (k i j : ℕ) → k < length nodes → i + 1 < bound_count s.bounds k → what_at nodes k (i + 1) ≡ Link j → bound_count s.bounds j ≡ item_count nodes j
  pub in_edge : (k i e : ℕ) → k < length nodes → i + 1 ≡ bound_count s.bounds k → i + 1 < item_count nodes k → what_at nodes k (i + 1) ≡ Real e → (bound_at s.bounds k i ≤ place_of s.places e) × (place_of s.places e < s.met)
  pub in_link : (k i j : ℕ) → k < length nodes → i + 1 ≡ bound_count s.bounds k → i + 1 < item_count nodes k → what_at nodes k (i + 1) ≡ Link j
      → (0 < bound_count s.bounds j → bound_at s.bounds k i ≤ bound_at s.bounds j 0) × (s.at ≡ k → bound_count s.bounds j ≡ item_count nodes j)
  pub ahead_edge : (k i e : ℕ) → k < length nodes → bound_count s.bounds k ≤ i → i + 1 < item_count nodes k → what_at nodes k (i + 1) ≡ Real e → is_ahead s.places e ≡ true
  pub ahead_link : (k i j : ℕ) → k < length nodes → bound_count s.bounds k ≤ i → i + 1 < item_count nodes k → what_at nodes k (i + 1) ≡ Link j → (bound_count s.bounds j ≡ 0) × (s.at ≢ j)
