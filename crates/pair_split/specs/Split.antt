-- Split components of a graph (Tutte 1966; Hopcroft and Tarjan 1973): polygons, bonds and triconnected graphs that share
-- virtual edges, the links, and merge back into the graph.
use Rattle.std.specs.Prelude.{◌≡◌, ◌≢◌, ℕ, ◌+◌, ◌<◌, ◌⊎◌, ◌↔◌, Bool, true, false, not, ◌&&◌, ◌||◌, ◌==◌, List, [], ◌∷◌, ◌++◌, length, map, filter, slice_index_or}
use Rattle.permutations.specs.Count.{some}
use Rattle.permutations.specs.Relation.{connected}
use Rattle.multigraph.specs.Graph.{Multigraph, edge_count, ends_of}
use Rattle.graph_theory.specs.Side.{IsCommon}
use Rattle.pair_split.specs.Skeleton.{is_end_of, SameEnds, is_vertex, IsSkeleton}
use Rattle.pair_split.specs.declared.components.Kind.{Kind}
use Rattle.pair_split.specs.declared.components.Kind.TheVariants.{B}
use Rattle.pair_split.specs.declared.components.What.{What}
use Rattle.pair_split.specs.declared.components.What.TheVariants.{Real, Link}
use Rattle.pair_split.specs.declared.components.Piece.{Piece}
use Rattle.pair_split.specs.declared.components.Comp.{Comp}

-- component k; one without items where it does not exist
abbrev pub component_at : List Comp → ℕ → Comp
component_at comps k = slice_index_or comps k (record { kind = B; items = [] })

-- its items
abbrev pub items_of : List Comp → ℕ → List Piece
items_of comps k = (component_at comps k).items

-- item i of component k
abbrev pub item_at : List Comp → ℕ → ℕ → Piece
item_at comps k i = slice_index_or (items_of comps k) i (record { a = 0; b = 0; what = Real 0 })

-- the two ends of an item
abbrev pub piece_ends : Piece → ℕ × ℕ
piece_ends piece = (piece.a, piece.b)

-- the skeleton of component k: the ends of its items
abbrev pub skeleton : List Comp → ℕ → List (ℕ × ℕ)
skeleton comps k = map piece_ends (items_of comps k)

-- component k has an item i, which represents this edge or is this link
abbrev pub StandsFor : List Comp → ℕ → ℕ → What → Type 0
StandsFor comps k i what = (i < length (items_of comps k)) × ((item_at comps k i).what ≡ what)

-- the components to which links lead
abbrev pub target : What → List ℕ
target (Real e) = []
target (Link j) = j ∷ []

-- the links of one component, each as the pair of the two components
abbrev pub links_from : ℕ → List Piece → List (ℕ × ℕ)
links_from k [] = []
links_from k (piece ∷ pieces) = map (λ j. (k, j)) (target piece.what) ++ links_from k pieces

-- the links of all components, the first of which has the number k
abbrev pub all_links : ℕ → List Comp → List (ℕ × ℕ)
all_links k [] = []
all_links k (comp ∷ comps) = links_from k comp.items ++ all_links (k + 1) comps

-- whether a link joins another pair of components than k and j
abbrev pub joins_others : ℕ → ℕ → ℕ × ℕ → Bool
joins_others k j link = not (((link.0 == k) && (link.1 == j)) || ((link.0 == j) && (link.1 == k)))

-- whether component c is on j's side when the link between k and j is taken away: the other links connect it to j
abbrev pub is_beyond : List Comp → ℕ → ℕ → ℕ → Bool
is_beyond comps k j c = connected (filter (joins_others k j) (all_links 0 comps)) j c

-- whether an item represents edge e
abbrev pub is_edge : ℕ → What → Bool
is_edge e (Real f) = f == e
is_edge e (Link j) = false

-- whether one of the items represents edge e
abbrev pub has_edge : List Piece → ℕ → Bool
has_edge [] e = false
has_edge (piece ∷ pieces) e = is_edge e piece.what || has_edge pieces e

-- the side of the link from k to j: the edges in the components that are on j's side
abbrev pub side : List Comp → ℕ → ℕ → ℕ → Bool
side comps k j e = some (length comps) (λ c. is_beyond comps k j c && has_edge (items_of comps c) e)

-- each component is of its kind, and one of a single edge or two is alone
pub record AreOfKind (comps : List Comp) : Type 0 where
  pub kinds : (k : ℕ) → k < length comps → IsSkeleton (component_at comps k).kind (skeleton comps k)
  pub small_alone : (k : ℕ) → k < length comps → (component_at comps k).kind ≡ B → length comps ≡ 1

-- component k has a link to component j
abbrev pub LinksTo : List Comp → ℕ → ℕ → Type 0
LinksTo comps k j = (i : ℕ) × StandsFor comps k i (Link j)

-- no link joins two components that are both of this kind
abbrev pub NoneLinked : Kind → List Comp → Type 0
NoneLinked kind comps = (k j : ℕ) → LinksTo comps k j → (component_at comps k).kind ≡ kind → (component_at comps j).kind ≡ kind → ⊥

-- the links form a tree on the components: there are a root, for each other component a parent, and a rank that is smaller
-- at the parent, such that the linked pairs are just the pairs of a component and its parent
pub record IsTree (comps : List Comp) : Type 0 where
  pub root : ℕ
  pub parent : ℕ → ℕ
  pub rank : ℕ → ℕ
  pub root_in : root < length comps
  pub parent_in : (k : ℕ) → k < length comps → k ≢ root → parent k < length comps
  pub rank_falls : (k : ℕ) → k < length comps → k ≢ root → rank (parent k) < rank k
  pub to_parent : (k : ℕ) → k < length comps → k ≢ root → LinksTo comps k (parent k)
  pub linked : (k j : ℕ) → LinksTo comps k j → ((k ≢ root) × (parent k ≡ j)) ⊎ ((j ≢ root) × (parent j ≡ k))

-- a component has at most one link to another, where that one has a link back with the same two ends; the links form a tree
pub record AreLinked (comps : List Comp) : Type 0 where
  pub once : (k j i h : ℕ) → StandsFor comps k i (Link j) → StandsFor comps k h (Link j) → i ≡ h
  pub back : (k j i : ℕ) → StandsFor comps k i (Link j) → (h : ℕ) × StandsFor comps j h (Link k) × SameEnds (piece_ends (item_at comps k i)) (piece_ends (item_at comps j h))
  pub tree : IsTree comps

-- each edge of the graph is in exactly one component, with its own ends; each vertex is in some component
pub record CoversOnce (g : Multigraph) (comps : List Comp) : Type 0 where
  pub present : (e : ℕ) → e < edge_count g → (k i : ℕ) × StandsFor comps k i (Real e)
  pub once : (e k i j h : ℕ) → StandsFor comps k i (Real e) → StandsFor comps j h (Real e) → (k ≡ j) × (i ≡ h)
  pub edges : (e k i : ℕ) → StandsFor comps k i (Real e) → (e < edge_count g) × SameEnds (piece_ends (item_at comps k i)) (ends_of g e)
  pub vertices : (v : ℕ) → v < g.vertex_count → (k : ℕ) × (k < length comps) × (is_vertex (skeleton comps k) v ≡ true)

-- the vertices that the two sides of a link have in common are just the link's two ends
abbrev pub SidesMeetInEnds : Multigraph → List Comp → Type 0
SidesMeetInEnds g comps = (k j i : ℕ) → StandsFor comps k i (Link j) → (v : ℕ) → IsCommon g (side comps k j) v ↔ (is_end_of v (piece_ends (item_at comps k i)) ≡ true)

-- the components are split components of the graph
pub record IsSplit (g : Multigraph) (comps : List Comp) : Type 0 where
  pub of_kind : AreOfKind comps
  pub linked : AreLinked comps
  pub covers : CoversOnce g comps
  pub sides_meet : SidesMeetInEnds g comps
