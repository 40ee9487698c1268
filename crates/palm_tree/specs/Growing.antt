-- What the passes from a finished search to a palm tree know, and what each of them does.
use Rattle.std.specs.Prelude.{◌≡◌, ℕ, ◌+◌, ◌*◌, ◌<◌, ◌≤◌, ◌⊎◌, Bool, true, false, not, cond, ◌&&◌, ◌==◌, nat_lt, if◌then◌else◌, List, [], ◌∷◌, ◌++◌, length, filter, map, None, reverse, slice_index, slice_index_or, slice_set}
use Rattle.std.specs.Bool.{beq}
use Rattle.permutations.specs.Count.{sum_below}
use Rattle.permutations.specs.Members.{is_member, is_distinct}
use Rattle.multigraph.specs.Graph.{Multigraph, edge_count}
pub use Rattle.search_forest.specs.Forest.{ForestState, is_tree_edge, upper_end, parent_at}
pub use Rattle.search_forest.specs.Low.{LowVertices, taken, Tells, LeadsFrom, IsTaken, AreLowSoFar, AreLowVertices, CanTake}
use Rattle.palm_tree.specs.PalmTree.{PalmTreeLists}

-- the vertex that the dart e leads to: for a parent edge the first low vertex of the child, for a frond the upper end
abbrev pub vertex_reached : Multigraph → ForestState → LowVertices → ℕ → ℕ
vertex_reached g s low e = (if is_tree_edge s e then slice_index low.first (slice_index s.lower e) else upper_end g s e)

-- the vertex at which the dart e begins: for a parent edge the upper end, for a frond the lower one
abbrev pub begin_of : Multigraph → ForestState → ℕ → ℕ
begin_of g s e = (if is_tree_edge s e then upper_end g s e else slice_index s.lower e)

-- the class of the dart e among those that lead to the same vertex
abbrev pub class_of : Multigraph → ForestState → LowVertices → ℕ → ℕ
class_of g s low e =
    (if is_tree_edge s e
    then (if nat_lt (slice_index s.depth (slice_index low.second (slice_index s.lower e))) (slice_index s.depth (upper_end g s e)) then 0 else 2)
    else 1)

-- what darts are sorted by
abbrev pub sort_key : Multigraph → ForestState → LowVertices → ℕ → ℕ
sort_key g s low e = 3 * slice_index s.depth (vertex_reached g s low e) + class_of g s low e

-- what the parent edge of c, a child of p, is sorted by
abbrev pub tree_key : ForestState → LowVertices → ℕ → ℕ → ℕ
tree_key s low c p =
    3 * slice_index s.depth (slice_index low.first c)
    + (if nat_lt (slice_index s.depth (slice_index low.second c)) (slice_index s.depth p) then 0 else 2)

-- whether nothing leads from v or below it past v
abbrev pub hangs : LowVertices → ℕ → Bool
hangs low v = slice_index low.first v == v

-- the edges below m, each once, such that their keys do not decrease
pub record IsSortedByKeys (m : ℕ) (key : ℕ → ℕ) (l : List ℕ) : Type 0 where
  pub distinct : is_distinct l ≡ true
  pub within : (e : ℕ) → is_member e l ≡ true → e < m
  pub each : (e : ℕ) → e < m → is_member e l ≡ true
  pub rising : (i j : ℕ) → i < j → j < length l → key (slice_index l i) ≤ key (slice_index l j)

-- of these edges the parent edges whose child is attached by a bridge, or those whose child is not
abbrev pub tree_edges : ForestState → LowVertices → Bool → List ℕ → List ℕ
tree_edges s low hanging l = filter (λ e. is_tree_edge s e && beq (hangs low (slice_index s.lower e)) hanging) l

-- the children, with the lower end of e after them where e is the parent edge of a child that is attached by a bridge,
-- or of one that is not, as is asked
abbrev pub with_child : ForestState → LowVertices → Bool → ℕ → List ℕ → List ℕ
with_child s low hanging e children =
    (if is_tree_edge s e && beq (hangs low (slice_index s.lower e)) hanging
    then children ++ slice_index s.lower e ∷ []
    else children)

-- whether c is a child of q
abbrev pub is_child : ForestState → ℕ → ℕ → Bool
is_child s q c = nat_lt 0 (slice_index s.depth c) && (slice_index s.parent c == q)

-- the sum of these sizes over the children of q that are among the members
abbrev pub size_among : Multigraph → ForestState → List ℕ → List ℕ → ℕ → ℕ
size_among g s size members q = sum_below g.vertex_count (λ c. cond (is_member c members && is_child s q c) (slice_index size c) 0)

-- the sizes where these vertices have handed theirs on to their parents
pub record AreSizesSoFar (g : Multigraph) (s : ForestState) (size handed : List ℕ) : Type 0 where
  pub places : length size ≡ g.vertex_count
  pub sum : (q : ℕ) → q < g.vertex_count → slice_index size q ≡ 1 + size_among g s size handed q
  pub total : sum_below g.vertex_count (λ c. cond (is_member c handed && nat_lt 0 (slice_index s.depth c)) 0 (slice_index size c)) ≡ g.vertex_count
  pub few : (q : ℕ) → q < g.vertex_count → slice_index size q ≤ g.vertex_count

-- how many vertices each vertex and its descendants are
abbrev pub AreSizes : Multigraph → ForestState → List ℕ → Type 0
AreSizes g s size = AreSizesSoFar g s size s.order

-- the lower ends of these edges
abbrev pub lower_ends : ForestState → List ℕ → List ℕ
lower_ends s edges = map (slice_index s.lower) edges

-- x is in the list before y
abbrev pub IsBefore : List ℕ → ℕ → ℕ → Type 0
IsBefore [] x y = ⊥
IsBefore (z ∷ l) x y = ((z ≡ x) × (is_member y l ≡ true)) ⊎ IsBefore l x y

-- each of these vertices but the root has a place after its parent, such that children of one parent follow one another, in this
-- order, as far as is filled
pub record AreOffsetsSoFar (g : Multigraph) (s : ForestState) (size : List ℕ) (given : List ℕ) (offset filled : List ℕ) : Type 0 where
  pub offset_places : length offset ≡ g.vertex_count
  pub filled_places : length filled ≡ g.vertex_count
  pub sum : (q : ℕ) → q < g.vertex_count → slice_index filled q ≡ size_among g s size given q
  pub fits : (c : ℕ) → is_member c given ≡ true → slice_index offset c + slice_index size c ≤ slice_index filled (slice_index s.parent c)
  pub covers : (q x : ℕ) → q < g.vertex_count → x < slice_index filled q → (c : ℕ) × (is_member c given ≡ true) × (slice_index s.parent c ≡ q) × (slice_index offset c ≤ x) × (x < slice_index offset c + slice_index size c)
  pub follow : (c d : ℕ) → IsBefore given c d → slice_index s.parent c ≡ slice_index s.parent d → slice_index offset c + slice_index size c ≤ slice_index offset d

-- how many numbers are filled below the parent of c
abbrev pub filled_beside : ForestState → List ℕ → ℕ → ℕ
filled_beside s filled c = slice_index filled (slice_index s.parent c)

-- the places, where c has the one after what is filled below its parent
abbrev pub place_given : ForestState → List ℕ → List ℕ → ℕ → List ℕ
place_given s filled offset c = slice_set offset c (filled_beside s filled c)

-- how many numbers are filled below each vertex, where those of c and its descendants are too
abbrev pub with_filled : ForestState → List ℕ → List ℕ → ℕ → List ℕ
with_filled s size filled c = slice_set filled (slice_index s.parent c) (filled_beside s filled c + slice_index size c)

-- each vertex but the root once
pub record AreChildren (g : Multigraph) (s : ForestState) (children : List ℕ) : Type 0 where
  pub distinct : is_distinct children ≡ true
  pub within : (c : ℕ) → is_member c children ≡ true → (c < g.vertex_count) × (0 < slice_index s.depth c)
  pub each : (c : ℕ) → c < g.vertex_count → 0 < slice_index s.depth c → is_member c children ≡ true

-- the number that v has by its place after its parent
abbrev pub number_by_place : ForestState → List ℕ → List ℕ → ℕ → ℕ
number_by_place s offset number v = slice_index number (slice_index s.parent v) + 1 + slice_index offset v

-- the numbers, where v is numbered too: the root 0, another vertex by its place after its parent
abbrev pub number_given : ForestState → List ℕ → List ℕ → ℕ → List ℕ
number_given s offset number v =
    (if nat_lt 0 (slice_index s.depth v)
    then slice_set number v (number_by_place s offset number v)
    else slice_set number v 0)

-- these vertices are numbered: the root 0, each other vertex by its place after its parent
pub record AreNumbersSoFar (g : Multigraph) (s : ForestState) (size offset done number : List ℕ) : Type 0 where
  pub places : length number ≡ g.vertex_count
  pub root : (v : ℕ) → is_member v done ≡ true → slice_index s.depth v ≡ 0 → slice_index number v ≡ 0
  pub child : (v : ℕ) → is_member v done ≡ true → 0 < slice_index s.depth v → slice_index number v ≡ slice_index number (slice_index s.parent v) + 1 + slice_index offset v
  pub few : (v : ℕ) → is_member v done ≡ true → slice_index number v + slice_index size v ≤ g.vertex_count
  pub parent_done : (v : ℕ) → is_member v done ≡ true → 0 < slice_index s.depth v → is_member (slice_index s.parent v) done ≡ true

-- the numbers of each vertex but the root, and its descendants, lie among those after its parent
abbrev pub HasRoom : Multigraph → ForestState → List ℕ → List ℕ → Type 0
HasRoom g s size offset = (c : ℕ) → c < g.vertex_count → 0 < slice_index s.depth c → slice_index offset c + slice_index size c + 1 ≤ slice_index size (slice_index s.parent c)

-- the places of these children after their parents: those of one parent follow one another, in this order, and leave no number out
pub record AreOffsets (g : Multigraph) (s : ForestState) (size children offset : List ℕ) : Type 0 where
  pub places : length offset ≡ g.vertex_count
  pub room : HasRoom g s size offset
  pub covers : (q x : ℕ) → q < g.vertex_count → x + 1 < slice_index size q → (c : ℕ) × (is_member c children ≡ true) × (slice_index s.parent c ≡ q) × (slice_index offset c ≤ x) × (x < slice_index offset c + slice_index size c)
  pub follow : (c d : ℕ) → IsBefore children c d → slice_index s.parent c ≡ slice_index s.parent d → slice_index offset c + slice_index size c ≤ slice_index offset d

-- the lists hold, for each vertex, those of these edges that begin there as darts, in their order
pub record AreListsOf (g : Multigraph) (s : ForestState) (edges : List ℕ) (lists : List (List ℕ)) : Type 0 where
  pub places : length lists ≡ g.vertex_count
  pub edges_at : (v : ℕ) → v < g.vertex_count → slice_index_or lists v [] ≡ filter (λ e. begin_of g s e == v) edges

-- the tree is what the passes have found
pub record AreFound (g : Multigraph) (s : ForestState) (low : LowVertices) (edges numbers : List ℕ) (t : PalmTreeLists) : Type 0 where
  pub number : t.number ≡ numbers
  pub parent : Tells None (parent_at s) g.vertex_count t.parent
  pub frond : Tells false (λ e. not (is_tree_edge s e)) (edge_count g) t.frond
  pub low1 : Tells 0 (λ v. slice_index numbers (slice_index low.first v)) g.vertex_count t.low1
  pub low2 : Tells 0 (λ v. slice_index numbers (slice_index low.second v)) g.vertex_count t.low2
  pub darts : AreListsOf g s edges t.darts

-- these are the edges, each once
pub record AreEdges (g : Multigraph) (edges : List ℕ) : Type 0 where
  pub distinct : is_distinct edges ≡ true
  pub within : (e : ℕ) → is_member e edges ≡ true → e < edge_count g
  pub each : (e : ℕ) → e < edge_count g → is_member e edges ≡ true

-- the children of non-root vertices in the order in which they are numbered
abbrev pub numbering_order : ForestState → LowVertices → List ℕ → List ℕ
numbering_order s low edges = lower_ends s (tree_edges s low false (reverse edges)) ++ lower_ends s (tree_edges s low true edges)

-- the vertices have been numbered, children of one parent one after another, by the order of these edges
pub record AreNumbered (g : Multigraph) (s : ForestState) (low : LowVertices) (edges number : List ℕ) : Type 0 where
  pub size : List ℕ
  pub offset : List ℕ
  pub sizes : AreSizes g s size
  pub offsets : AreOffsets g s size (numbering_order s low edges) offset
  pub numbers : AreNumbersSoFar g s size offset s.order number
