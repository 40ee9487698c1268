-- What is proved of trees of blocks, as statements.
use Rattle.std.specs.Prelude.{◌≡◌, ℕ, Bool, List}
use Rattle.multigraph.specs.Graph.{Multigraph}
use Rattle.graph_theory.specs.Block.{IsOneBlock}
use Rattle.pair_split.specs.Split.{side, LinksTo}
use Rattle.pair_split.specs.Tutte.{Node, components, IsTutte}
use Rattle.graph_theory.specs.Separation.{IsGood, AreSameSide}

-- the two sides of each link are a good 2-separation
abbrev pub LinksAreGood : Type 0
LinksAreGood = (g : Multigraph) (nodes : List Node) → IsOneBlock g → IsTutte g nodes → (k j : ℕ) → LinksTo (components nodes) k j → IsGood g (side (components nodes) k j)

-- each side of a good 2-separation is that of a link
abbrev pub GoodAreLinks : Type 0
GoodAreLinks = (g : Multigraph) (nodes : List Node) → IsOneBlock g → IsTutte g nodes → (s : ℕ → Bool) → IsGood g s
    → (k j : ℕ) × LinksTo (components nodes) k j × AreSameSide g s (side (components nodes) k j)

-- two links of which sides have the same edges are the same link, passed in the same direction
abbrev pub SidesTellLinks : Type 0
SidesTellLinks = (g : Multigraph) (nodes : List Node) → IsOneBlock g → IsTutte g nodes → (k j h i : ℕ) → LinksTo (components nodes) k j → LinksTo (components nodes) h i
    → AreSameSide g (side (components nodes) k j) (side (components nodes) h i) → (k ≡ h) × (j ≡ i)

-- two trees of one block are equal
abbrev pub TreesAreEqual : Type 0
TreesAreEqual = (g : Multigraph) (a b : List Node) → IsOneBlock g → IsTutte g a → IsTutte g b → a ≡ b
