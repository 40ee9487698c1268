-- The palm tree of a block in terms of the numbers of its vertices.
use Rattle.std.specs.Prelude.{◌≡◌, ◌≢◌, ℕ, ◌<◌, ◌≤◌, ◌⊎◌, true, false, not, if◌then◌else◌, List, length, Option, None, Some, slice_index}
use Rattle.multigraph.specs.Graph.{Multigraph, ends_of, other_end}
use Rattle.palm_tree.specs.PalmTree.{PalmTreeLists, number_of, parent_of, is_frond, darts_of, number_reached, dart_class}
use Rattle.pair_split.specs.Family.{Entry}
use Rattle.pair_split.specs.Skeleton.{SameEnds}
use Rattle.split_comp.specs.declared.items.Dart.{Dart}

-- the vertex with number x is at place x
pub record AreVertices (n : ℕ) (t : PalmTreeLists) (vertex : List ℕ) : Type 0 where
  pub places : length vertex ≡ n
  pub within : (x : ℕ) → x < n → slice_index vertex x < n
  pub number : (x : ℕ) → x < n → number_of t (slice_index vertex x) ≡ x

-- dart k of the vertex with number x
abbrev pub tree_dart : Multigraph → PalmTreeLists → List ℕ → ℕ → ℕ → Dart
tree_dart g t vertex x k = record {
  edge = slice_index (darts_of t (slice_index vertex x)) k;
  tree = not (is_frond t (slice_index (darts_of t (slice_index vertex x)) k));
  far = number_of t (other_end g (slice_index (darts_of t (slice_index vertex x)) k) (slice_index vertex x));
  reach = number_reached g t (slice_index vertex x) (slice_index (darts_of t (slice_index vertex x)) k);
  class = dart_class g t (slice_index vertex x) (slice_index (darts_of t (slice_index vertex x)) k);
}

-- how many darts it has
abbrev pub tree_degree : PalmTreeLists → List ℕ → ℕ → ℕ
tree_degree t vertex x = length (darts_of t (slice_index vertex x))

-- the number of a vertex that may be missing
abbrev pub number_at : PalmTreeLists → Option ℕ → ℕ
number_at t None = 0
number_at t (Some v) = number_of t v

-- the number of the parent of the vertex with number x; 0 for the root
abbrev pub tree_parent : PalmTreeLists → List ℕ → ℕ → ℕ
tree_parent t vertex x = number_at t (parent_of t (slice_index vertex x))

-- a frond from a vertex below x, or from x itself, to y
pub record IsFrondTo (degree : ℕ → ℕ) (dart : ℕ → ℕ → Dart) (last : ℕ → ℕ) (x y : ℕ) : Type 0 where
  pub from : ℕ
  pub place : ℕ
  pub above : x ≤ from
  pub below : from < last x
  pub within : place < degree from
  pub frond : (dart from place).tree ≡ false
  pub far : (dart from place).far ≡ y

-- the palm tree of a block of n vertices and m edges, by numbers: the parent of each vertex, how many darts it has, and its
-- darts in order; the vertices from x on and below last x are x and those below it
pub record IsPalm (n m : ℕ) (parent degree : ℕ → ℕ) (dart : ℕ → ℕ → Dart) : Type 0 where
  pub last : ℕ → ℕ
  pub two : 2 ≤ n
  pub above : (x : ℕ) → x < last x
  pub nested : (x y : ℕ) → x ≤ y → y < last x → last y ≤ last x
  pub within : (x : ℕ) → x < n → last x ≤ n
  pub root : last 0 ≡ n
  pub parent_less : (x : ℕ) → x < n → x ≢ 0 → (parent x < x) × (x < last (parent x))
  pub ancestors : (x y : ℕ) → x < n → y < x → x < last y → (y ≤ parent x) × (parent x < last y)
  pub dart_edge : (u k : ℕ) → u < n → k < degree u → (dart u k).edge < m
  pub dart_once : (u k w j : ℕ) → u < n → k < degree u → w < n → j < degree w → (dart u k).edge ≡ (dart w j).edge → (u ≡ w) × (k ≡ j)
  pub dart_each : (e : ℕ) → e < m → (u k : ℕ) × (u < n) × (k < degree u) × ((dart u k).edge ≡ e)
  pub tree_far : (u k : ℕ) → u < n → k < degree u → (dart u k).tree ≡ true → ((dart u k).far < n) × (u < (dart u k).far) × ((dart u k).far < last u) × (parent (dart u k).far ≡ u)
  pub tree_once : (u k j : ℕ) → u < n → k < degree u → j < degree u → (dart u k).tree ≡ true → (dart u j).tree ≡ true → (dart u k).far ≡ (dart u j).far → k ≡ j
  pub frond_far : (u k : ℕ) → u < n → k < degree u → (dart u k).tree ≡ false → ((dart u k).far < u) × (u < last (dart u k).far)
  pub frond_reach : (u k : ℕ) → u < n → k < degree u → (dart u k).tree ≡ false → ((dart u k).reach ≡ (dart u k).far) × ((dart u k).class ≡ 1)
  pub child : (u z : ℕ) → u < n → u < z → z < last u → (k : ℕ) × (k < degree u) × ((dart u k).tree ≡ true) × ((dart u k).far ≤ z) × (z < last (dart u k).far)
  pub later : (u i j : ℕ) → u < n → i < j → j < degree u → (dart u i).tree ≡ true → (dart u j).tree ≡ true → (dart u j).far < (dart u i).far
  pub in_order : (u i j : ℕ) → u < n → i < j → j < degree u → ((dart u i).reach < (dart u j).reach) ⊎ (((dart u i).reach ≡ (dart u j).reach) × ((dart u i).class ≤ (dart u j).class))
  pub some_dart : (u : ℕ) → u < n → 1 ≤ degree u
  pub root_dart : degree 0 ≡ 1
  pub tree_class : (u k : ℕ) → u < n → k < degree u → (dart u k).tree ≡ true → ((dart u k).class ≡ 0) ⊎ ((dart u k).class ≡ 2)
  pub reached : (u k : ℕ) → u < n → u ≢ 0 → k < degree u → (dart u k).tree ≡ true → ((dart u k).reach < u) × IsFrondTo degree dart last (dart u k).far (dart u k).reach
  pub least : (u k y : ℕ) → u < n → k < degree u → (dart u k).tree ≡ true → IsFrondTo degree dart last (dart u k).far y → (dart u k).reach ≤ y
  pub only_one : (u k y : ℕ) → u < n → k < degree u → (dart u k).tree ≡ true → (dart u k).class ≡ 2 → IsFrondTo degree dart last (dart u k).far y → y < u → y ≡ (dart u k).reach
  pub another : (u k : ℕ) → u < n → u ≢ 0 → k < degree u → (dart u k).tree ≡ true → (dart u k).class ≡ 0 → (y : ℕ) × IsFrondTo degree dart last (dart u k).far y × ((dart u k).reach < y) × (y < u)

-- a dart of vertex u as an entry of a family: its upper end and its lower end
abbrev pub dart_entry : ℕ → Dart → Entry
dart_entry u d = record { name = d.edge; first = (if d.tree then u else d.far); second = (if d.tree then d.far else u) }

-- the vertices with the numbers of a dart's ends are the ends of its edge
abbrev pub AreDrawn : Multigraph → List ℕ → ℕ → (ℕ → ℕ) → (ℕ → ℕ → Dart) → Type 0
AreDrawn g vertex n degree dart =
    (u k : ℕ) → u < n → k < degree u → SameEnds (slice_index vertex (dart_entry u (dart u k)).first, slice_index vertex (dart_entry u (dart u k)).second) (ends_of g (dart u k).edge)
