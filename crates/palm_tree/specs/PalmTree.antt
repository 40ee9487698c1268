-- Palm trees of a connected multigraph (Tarjan 1972): a tree grown from one vertex, in which each further edge, a frond, joins
-- a vertex to one of its ancestors. With them the low points and the order of edges that Hopcroft and Tarjan (1973) split
-- graphs by.
use Rattle.std.specs.Prelude.{◌≡◌, ◌≢◌, ℕ, zero, suc, ◌+◌, ◌<◌, ◌≤◌, ◌↔◌, ◌⊎◌, Bool, true, false, nat_lt, if◌then◌else◌, List, [], length, Option, None, Some, slice_index, slice_index_or}
use Rattle.permutations.specs.Members.{is_member, is_distinct}
use Rattle.multigraph.specs.Graph.{Multigraph, edge_count, is_end, other_end}
use Rattle.graph_theory.specs.Block.{IsOneBlock}
pub use Rattle.graph_theory.specs.Connected.{IsConnected}

-- for each vertex its number, its parent, its two low points and its darts in order; for each edge whether it is a frond
pub record PalmTreeLists : Type 0 where
  pub number : List ℕ
  pub parent : List (Option ℕ)
  pub frond : List Bool
  pub low1 : List ℕ
  pub low2 : List ℕ
  pub darts : List (List ℕ)

-- the number of vertex v
abbrev pub number_of : PalmTreeLists → ℕ → ℕ
number_of t v = slice_index t.number v

-- the parent of vertex v, where it has one
abbrev pub parent_of : PalmTreeLists → ℕ → Option ℕ
parent_of t v = slice_index_or t.parent v None

-- whether edge e is a frond
abbrev pub is_frond : PalmTreeLists → ℕ → Bool
is_frond t e = slice_index_or t.frond e false

-- the darts of vertex v, in order
abbrev pub darts_of : PalmTreeLists → ℕ → List ℕ
darts_of t v = slice_index_or t.darts v []

-- this many steps, each to the parent, lead from z to v
abbrev pub Climbs : PalmTreeLists → ℕ → ℕ → ℕ → Type 0
Climbs t zero z v = z ≡ v
Climbs t (suc k) z v = (p : ℕ) × (parent_of t z ≡ Some p) × Climbs t k p v

-- z is v or a descendant of v, so v is z or an ancestor of z
pub record IsDescendant (t : PalmTreeLists) (v z : ℕ) : Type 0 where
  pub steps : ℕ
  pub climbs : Climbs t steps z v

-- e is the parent edge of v: no frond, and it joins v to its parent
pub record IsParentEdge (g : Multigraph) (t : PalmTreeLists) (v e : ℕ) : Type 0 where
  pub is_edge : e < edge_count g
  pub no_frond : is_frond t e ≡ false
  pub at_child : is_end g v e ≡ true
  pub to_parent : parent_of t v ≡ Some (other_end g e v)

-- e is a frond with the lower end z: it joins z to an ancestor
pub record IsFrondFrom (g : Multigraph) (t : PalmTreeLists) (z e : ℕ) : Type 0 where
  pub is_edge : e < edge_count g
  pub frond : is_frond t e ≡ true
  pub at_lower : is_end g z e ≡ true
  pub to_ancestor : IsDescendant t (other_end g e z) z

-- e begins at v: it is the parent edge of a child of v, or a frond with the lower end v
abbrev pub BeginsAt : Multigraph → PalmTreeLists → ℕ → ℕ → Type 0
BeginsAt g t v e = ((c : ℕ) × IsParentEdge g t c e × (other_end g e c ≡ v)) ⊎ IsFrondFrom g t v e

-- x is a number reached from v: parent edges, descended from v, then one frond lead to the vertex with that number
pub record IsReached (g : Multigraph) (t : PalmTreeLists) (v x : ℕ) : Type 0 where
  pub lower : ℕ
  pub edge : ℕ
  pub below : IsDescendant t v lower
  pub frond : IsFrondFrom g t lower edge
  pub reached : number_of t (other_end g edge lower) ≡ x

-- x is the least of v's own number and the numbers reached from v
pub record IsLow1 (g : Multigraph) (t : PalmTreeLists) (v x : ℕ) : Type 0 where
  pub own : x ≤ number_of t v
  pub least : (y : ℕ) → IsReached g t v y → x ≤ y
  pub among : (x ≡ number_of t v) ⊎ IsReached g t v x

-- x is the least of v's own number and those numbers reached from v that are not low1 of v
pub record IsLow2 (g : Multigraph) (t : PalmTreeLists) (v x : ℕ) : Type 0 where
  pub own : x ≤ number_of t v
  pub least : (y : ℕ) → IsReached g t v y → y ≢ slice_index t.low1 v → x ≤ y
  pub among : (x ≡ number_of t v) ⊎ (IsReached g t v x × (x ≢ slice_index t.low1 v))

-- the number that the dart e of v reaches: for a frond that of the ancestor, for a parent edge low1 of the child
abbrev pub number_reached : Multigraph → PalmTreeLists → ℕ → ℕ → ℕ
number_reached g t v e = (if is_frond t e then number_of t (other_end g e v) else slice_index t.low1 (other_end g e v))

-- the class of the dart e of v among those that reach the same number: 0 for a parent edge with low2 of the child below the
-- number of v, 1 for a frond, 2 for another parent edge
abbrev pub dart_class : Multigraph → PalmTreeLists → ℕ → ℕ → ℕ
dart_class g t v e = (if is_frond t e then 1 else (if nat_lt (slice_index t.low2 (other_end g e v)) (number_of t v) then 0 else 2))

-- the numbers of v and its descendants are those from its own on, as many as there are of them
pub record AreConsecutive (g : Multigraph) (t : PalmTreeLists) (v : ℕ) : Type 0 where
  pub size : ℕ
  pub last : number_of t v + size ≤ g.vertex_count
  pub numbers : (z : ℕ) → z < g.vertex_count → IsDescendant t v z ↔ ((number_of t v ≤ number_of t z) × (number_of t z < number_of t v + size))

-- the numbers are those below the number of vertices, each once, and consecutive for a vertex and its descendants
pub record AreNumbers (g : Multigraph) (t : PalmTreeLists) : Type 0 where
  pub places : length t.number ≡ g.vertex_count
  pub below : (v : ℕ) → v < g.vertex_count → number_of t v < g.vertex_count
  pub each : (x : ℕ) → x < g.vertex_count → (v : ℕ) × (v < g.vertex_count) × (number_of t v ≡ x)
  pub differ : (u v : ℕ) → u < g.vertex_count → v < g.vertex_count → number_of t u ≡ number_of t v → u ≡ v
  pub consecutive : (v : ℕ) → v < g.vertex_count → AreConsecutive g t v

-- the root, the vertex with number 0, has no parent; each other vertex has one, and exactly one parent edge; each edge is the
-- parent edge of a vertex, or a frond
pub record AreParents (g : Multigraph) (t : PalmTreeLists) : Type 0 where
  pub places : length t.parent ≡ g.vertex_count
  pub marks : length t.frond ≡ edge_count g
  pub root : (v : ℕ) → v < g.vertex_count → (parent_of t v ≡ None) ↔ (number_of t v ≡ 0)
  pub within : (v p : ℕ) → v < g.vertex_count → parent_of t v ≡ Some p → p < g.vertex_count
  pub parent_edge : (v p : ℕ) → v < g.vertex_count → parent_of t v ≡ Some p → (e : ℕ) × IsParentEdge g t v e
  pub only_one : (v e f : ℕ) → IsParentEdge g t v e → IsParentEdge g t v f → e ≡ f
  pub tree : (e : ℕ) → e < edge_count g → is_frond t e ≡ false → (v : ℕ) × (v < g.vertex_count) × IsParentEdge g t v e
  pub fronds : (e : ℕ) → e < edge_count g → is_frond t e ≡ true → (z : ℕ) × (z < g.vertex_count) × IsFrondFrom g t z e

-- each edge is a dart of exactly one vertex, and is once among its darts: that at which it begins
pub record AreDarts (g : Multigraph) (t : PalmTreeLists) : Type 0 where
  pub places : length t.darts ≡ g.vertex_count
  pub begin : (v e : ℕ) → v < g.vertex_count → (is_member e (darts_of t v) ≡ true) ↔ BeginsAt g t v e
  pub once : (v : ℕ) → v < g.vertex_count → is_distinct (darts_of t v) ≡ true
  pub each : (e : ℕ) → e < edge_count g → (v : ℕ) × (v < g.vertex_count) × (is_member e (darts_of t v) ≡ true)
  pub only_one : (u v e : ℕ) → u < g.vertex_count → v < g.vertex_count → is_member e (darts_of t u) ≡ true → is_member e (darts_of t v) ≡ true → u ≡ v

-- the darts of v are in order: by the number reached, and where it is the same by class
abbrev pub AreInOrder : Multigraph → PalmTreeLists → ℕ → Type 0
AreInOrder g t v =
    (i j : ℕ) → i < j → j < length (darts_of t v) →
    (number_reached g t v (slice_index (darts_of t v) i) < number_reached g t v (slice_index (darts_of t v) j)) ⊎
    ((number_reached g t v (slice_index (darts_of t v) i) ≡ number_reached g t v (slice_index (darts_of t v) j)) ×
    (dart_class g t v (slice_index (darts_of t v) i) ≤ dart_class g t v (slice_index (darts_of t v) j)))

-- of two children of v the one whose parent edge is earlier among the darts of v has the greater number
abbrev pub LaterIsLess : Multigraph → PalmTreeLists → ℕ → Type 0
LaterIsLess g t v =
    (i j : ℕ) → i < j → j < length (darts_of t v) →
    is_frond t (slice_index (darts_of t v) i) ≡ false → is_frond t (slice_index (darts_of t v) j) ≡ false →
    number_of t (other_end g (slice_index (darts_of t v) j) v) < number_of t (other_end g (slice_index (darts_of t v) i) v)

-- t is a palm tree of the connected graph g, with its low points and its darts in order
pub record IsPalmTree (g : Multigraph) (t : PalmTreeLists) : Type 0 where
  pub numbers : AreNumbers g t
  pub parents : AreParents g t
  pub darts : AreDarts g t
  pub low1_places : length t.low1 ≡ g.vertex_count
  pub low2_places : length t.low2 ≡ g.vertex_count
  pub low1 : (v : ℕ) → v < g.vertex_count → IsLow1 g t v (slice_index t.low1 v)
  pub low2 : (v : ℕ) → v < g.vertex_count → IsLow2 g t v (slice_index t.low2 v)
  pub in_order : (v : ℕ) → v < g.vertex_count → AreInOrder g t v
  pub later_less : IsOneBlock g → (v : ℕ) → v < g.vertex_count → LaterIsLess g t v
