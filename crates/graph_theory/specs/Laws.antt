-- What is proved of walks, paths, cycles and blocks, as statements.
use Rattle.std.specs.Prelude.{◌≡◌, ℕ, ◌<◌, ◌↔◌, Bool, true, false, List}
use Rattle.permutations.specs.Members.{is_member}
use Rattle.permutations.specs.Relation.{connected}
use Rattle.multigraph.specs.Graph.{Multigraph, edge_count, IsGraph}
use Rattle.graph_theory.specs.Path.{IsPath, PathWithout}
use Rattle.graph_theory.specs.Joined.{joined_where, PathWhere}
use Rattle.graph_theory.specs.Block.{SameBlock}
use Rattle.graph_theory.specs.Side.{IsCommon}
use Rattle.graph_theory.specs.Triconnected.{ends_without}
use Rattle.graph_theory.specs.SearchTree.{IsSearchForest, AreLowPoints, AreLabels}

-- each edge is in the block of itself
abbrev pub BlocksReflexive : Type 0
BlocksReflexive = (g : Multigraph) (e : ℕ) → SameBlock g e e

-- where e is in the block of f, f is in the block of e
abbrev pub BlocksSymmetric : Type 0
BlocksSymmetric = (g : Multigraph) (e f : ℕ) → SameBlock g e f → SameBlock g f e

-- where e is in the block of f, and f in that of h, e is in that of h
abbrev pub BlocksTransitive : Type 0
BlocksTransitive = (g : Multigraph) → IsGraph g → (e f h : ℕ) → SameBlock g e f → SameBlock g f h → SameBlock g e h

-- a division of the edges whose sides have at most one vertex in common divides no block
abbrev pub BlocksUndivided : Type 0
BlocksUndivided = (g : Multigraph) (s : ℕ → Bool) → ((p q : ℕ) → IsCommon g s p → IsCommon g s q → p ≡ q) → (e f : ℕ) → SameBlock g e f → s e ≡ s f

-- vertices that the ends of edges connect are joined by a path
abbrev pub ConnectedByPath : Type 0
ConnectedByPath = (g : Multigraph) (x y : ℕ) → connected g.ends x y ≡ true → (es : List ℕ) × IsPath g x es y

-- vertices that are joined by a path are connected by the ends of edges
abbrev pub PathConnects : Type 0
PathConnects = (g : Multigraph) (x : ℕ) (es : List ℕ) (y : ℕ) → IsPath g x es y → connected g.ends x y ≡ true

-- vertices that edges which pass a test connect are joined by a path along such edges
abbrev pub JoinedByPath : Type 0
JoinedByPath = (g : Multigraph) (t : ℕ → Bool) (x y : ℕ) → joined_where g t x y ≡ true → PathWhere g t x y

-- and such a path connects
abbrev pub PathJoins : Type 0
PathJoins = (g : Multigraph) (t : ℕ → Bool) (x y : ℕ) → PathWhere g t x y → joined_where g t x y ≡ true

-- a vertex that is not removed, and one that is connected with it without those that are, are joined by a path that
-- visits none of these
abbrev pub ConnectedByPathWithout : Type 0
ConnectedByPathWithout = (g : Multigraph) (removed : List ℕ) (x y : ℕ) → is_member x removed ≡ false
    → connected (ends_without g removed) x y ≡ true → PathWithout g removed x y

-- and such a path connects without them
abbrev pub PathConnectsWithout : Type 0
PathConnectsWithout = (g : Multigraph) (removed : List ℕ) (x y : ℕ) → PathWithout g removed x y → connected (ends_without g removed) x y ≡ true

-- in a search forest two edges are in the same block exactly where their lower ends have the same label
abbrev pub LabelsTellBlocks : Type 0
LabelsTellBlocks =
    (g : Multigraph) → IsGraph g → (parent depth parent_edge lower low label : ℕ → ℕ)
    → IsSearchForest g parent depth parent_edge lower → AreLowPoints g parent depth parent_edge lower low → AreLabels g parent depth low label
    → (e f : ℕ) → e < edge_count g → f < edge_count g → (label (lower e) ≡ label (lower f)) ↔ SameBlock g e f
