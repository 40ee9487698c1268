-- The groups in their order, and the nodes made of them.
use Rattle.std.specs.Prelude.{◌≡◌, ℕ, ◌+◌, ◌<◌, Bool, true, List, length, map}
use Rattle.multigraph.specs.Graph.{Multigraph}
use Rattle.multigraph.specs.Part.{Rises}
use Rattle.pair_split.specs.Split.{component_at, items_of, item_at, IsSplit, NoneLinked}
use Rattle.pair_split.specs.Tutte.{Node, node_at, piece_of, is_before}
use Rattle.pair_split.specs.declared.components.Kind.TheVariants.{S, P}
use Rattle.pair_split.specs.declared.components.Piece.{Piece}
use Rattle.pair_split.specs.declared.components.Comp.{Comp}
use Rattle.spqr_tree.specs.Merged.{how_many}
use Rattle.spqr_tree.specs.Ranking.{Rank, rank_at, AreVertices}
use Rattle.spqr_tree.specs.Absent.{absent}

-- split components, of which no two polygons and no two bonds are linked, in order of their vertices; each piece has its lesser
-- end first
pub record IsArranged (g : Multigraph) (comps : List Comp) (ranks : List Rank) : Type 0 where
  pub split : IsSplit g comps
  pub no_polygons : NoneLinked S comps
  pub no_bonds : NoneLinked P comps
  pub number : length ranks ≡ length comps
  pub few : length comps < absent
  pub vertices : (k : ℕ) → k < length comps → AreVertices (items_of comps k) (rank_at ranks k).0
  pub rise : (k : ℕ) → k + 1 < length comps → is_before (rank_at ranks k).0 (rank_at ranks (k + 1)).0 ≡ true
  pub ends_rise : (k i : ℕ) → k < length comps → i < length (items_of comps k) → (item_at comps k i).a < (item_at comps k i).b

-- the node is made of the component, with these ends as its vertices
pub record IsMadeOf (comp : Comp) (ends : List ℕ) (node : Node) : Type 0 where
  pub kind : node.kind ≡ comp.kind
  pub vertices : node.vertices ≡ ends
  pub rise : Rises (map (λ item. item.key) node.items)
  pub pieces : (t : Piece → Bool) → how_many t (map piece_of node.items) ≡ how_many t comp.items

-- the nodes are made of the components, each with the vertices of its rank
pub record AreNodes (comps : List Comp) (ranks : List Rank) (nodes : List Node) : Type 0 where
  pub number : length nodes ≡ length comps
  pub each : (k : ℕ) → k < length comps → IsMadeOf (component_at comps k) (rank_at ranks k).0 (node_at nodes k)
