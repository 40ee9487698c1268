-- What is proved of split components, as statements.
use Rattle.std.specs.Prelude.{◌≡◌, ◌≢◌, ℕ, ◌<◌, Bool, true, false, not, List, length}
use Rattle.permutations.specs.Relation.{connected}
use Rattle.multigraph.specs.Graph.{Multigraph, edge_count, is_end}
use Rattle.graph_theory.specs.Block.{IsOneBlock}
use Rattle.graph_theory.specs.Separation.{other_side, IsSeparation, AreSameSide}
use Rattle.pair_split.specs.Family.{IsSeparation as IsFamilySeparation}
use Rattle.pair_split.specs.Edges.{graph_family}
use Rattle.pair_split.specs.Skeleton.{is_end_of, is_vertex}
use Rattle.pair_split.specs.Split.{items_of, item_at, piece_ends, skeleton, all_links, is_beyond, side, LinksTo, IsTree, AreLinked, IsSplit}
use Rattle.pair_split.specs.Tutte.{has_in_group}
use Rattle.pair_split.specs.declared.components.Comp.{Comp}

-- the links connect any two components
abbrev pub LinksConnect : Type 0
LinksConnect = (comps : List Comp) → AreLinked comps → (c d : ℕ) → c < length comps → d < length comps → connected (all_links 0 comps) c d ≡ true

-- each component is on the one side of a link or on the other, and not on both
abbrev pub OnOneSide : Type 0
OnOneSide = (comps : List Comp) → AreLinked comps → (k j d : ℕ) → LinksTo comps k j → d < length comps → is_beyond comps k j d ≡ not (is_beyond comps j k d)

-- each component but k is beyond a link of k
abbrev pub BeyondALink : Type 0
BeyondALink = (comps : List Comp) → AreLinked comps → (k d : ℕ) → k < length comps → d < length comps → d ≢ k → (j : ℕ) × LinksTo comps k j × (is_beyond comps k j d ≡ true)

-- and beyond no second one
abbrev pub BeyondOneLink : Type 0
BeyondOneLink = (comps : List Comp) → AreLinked comps → (k j h d : ℕ) → LinksTo comps k j → LinksTo comps k h → j ≢ h → is_beyond comps k j d ≡ true → is_beyond comps k h d ≡ false

-- any component may be the root
abbrev pub AnyRoot : Type 0
AnyRoot = (comps : List Comp) → AreLinked comps → (r : ℕ) → r < length comps → (tree : IsTree comps) × (tree.root ≡ r)

-- viewed from a component, each edge of the graph is in the group of an item
abbrev pub InAGroup : Type 0
InAGroup = (g : Multigraph) (comps : List Comp) → IsSplit g comps → (k e : ℕ) → k < length comps → e < edge_count g
    → (i : ℕ) × (i < length (items_of comps k)) × (has_in_group comps k e (item_at comps k i).what ≡ true)

-- and in no second one
abbrev pub InOneGroup : Type 0
InOneGroup = (g : Multigraph) (comps : List Comp) → IsSplit g comps → (k e i h : ℕ) → i < length (items_of comps k) → h < length (items_of comps k) → e < edge_count g
    → has_in_group comps k e (item_at comps k i).what ≡ true → has_in_group comps k e (item_at comps k h).what ≡ true → i ≡ h

-- a vertex at which two groups of a component have an edge each is an end of both items
abbrev pub GroupsMeetInEnds : Type 0
GroupsMeetInEnds = (g : Multigraph) (comps : List Comp) → IsSplit g comps → (k i h e f v : ℕ) → i < length (items_of comps k) → h < length (items_of comps k) → i ≢ h → e < edge_count g → f < edge_count g
    → has_in_group comps k e (item_at comps k i).what ≡ true → has_in_group comps k f (item_at comps k h).what ≡ true → is_end g v e ≡ true → is_end g v f ≡ true
    → is_end_of v (piece_ends (item_at comps k i)) ≡ true

-- each side of a link has at least two edges
abbrev pub SidesHaveTwoEdges : Type 0
SidesHaveTwoEdges = (g : Multigraph) (comps : List Comp) → IsOneBlock g → IsSplit g comps → (k j : ℕ) → LinksTo comps k j
    → (e f : ℕ) × (e ≢ f) × (e < edge_count g) × (f < edge_count g) × (side comps k j e ≡ true) × (side comps k j f ≡ true)

-- the two sides of each link are a 2-separation
abbrev pub LinksAreSeparations : Type 0
LinksAreSeparations = (g : Multigraph) (comps : List Comp) → IsOneBlock g → IsSplit g comps
    → (k j : ℕ) → LinksTo comps k j → IsSeparation g (side comps k j)

-- the side of the link back is the other side
abbrev pub LinksBackAreOpposite : Type 0
LinksBackAreOpposite = (g : Multigraph) (comps : List Comp) → IsSplit g comps
    → (k j : ℕ) → LinksTo comps k j → AreSameSide g (side comps j k) (other_side (side comps k j))

-- a 2-separation of a graph is one of its family
abbrev pub SeparationsOfFamily : Type 0
SeparationsOfFamily = (g : Multigraph) (s : ℕ → Bool) → IsSeparation g s → (p q : ℕ) × IsFamilySeparation (graph_family g) s p q

-- and reversed
abbrev pub SeparationsOfGraph : Type 0
SeparationsOfGraph = (g : Multigraph) (s : ℕ → Bool) (p q : ℕ) → IsFamilySeparation (graph_family g) s p q → IsSeparation g s

-- each vertex of a component has an edge on the component's own side of each of its links
abbrev pub VerticesOnOwnSide : Type 0
VerticesOnOwnSide = (g : Multigraph) (comps : List Comp) → IsOneBlock g → IsSplit g comps → (k j v : ℕ) → LinksTo comps k j → is_vertex (skeleton comps k) v ≡ true
    → (e : ℕ) × (e < edge_count g) × (is_end g v e ≡ true) × (side comps k j e ≡ false)
