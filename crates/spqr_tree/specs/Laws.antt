-- A component is determined by its vertices.
use Rattle.std.specs.Prelude.{◌≡◌, ℕ, ◌<◌, List, length}
use Rattle.multigraph.specs.Graph.{Multigraph}
use Rattle.graph_theory.specs.Block.{IsOneBlock}
use Rattle.pair_split.specs.Skeleton.{is_vertex}
use Rattle.pair_split.specs.Split.{skeleton, IsSplit, NoneLinked}
use Rattle.pair_split.specs.declared.components.Comp.{Comp}
use Rattle.pair_split.specs.declared.components.Kind.TheVariants.{S, P}

-- split components of a block, no two polygons and no two bonds of them linked: two with the same vertices are the same one
abbrev pub VerticesTellComponents : Type 0
VerticesTellComponents = (g : Multigraph) (comps : List Comp) → IsOneBlock g → IsSplit g comps → NoneLinked S comps → NoneLinked P comps → (k j : ℕ) → k < length comps → j < length comps
    → ((v : ℕ) → is_vertex (skeleton comps k) v ≡ is_vertex (skeleton comps j) v) → k ≡ j
