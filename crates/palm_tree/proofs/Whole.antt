-- What the passes have found is a palm tree.
use Rattle.std.proofs.Common.{ℕ, List}
use Rattle.multigraph.specs.Graph.{Multigraph, edge_count, IsGraph}
use Rattle.palm_tree.specs.PalmTree.{PalmTreeLists, IsPalmTree}
use Rattle.search_forest.specs.Forest.{ForestState}
use Rattle.search_forest.specs.Searching.{IsOver, IsOneTree}
use Rattle.palm_tree.specs.Growing.{LowVertices, sort_key, numbering_order, IsSortedByKeys, AreLowVertices, AreNumbered, AreFound}
use Rattle.palm_tree.proofs.Palm.{are-darts}
use Rattle.palm_tree.proofs.LowPoints.{low1, low2}
use Rattle.palm_tree.proofs.Numbered.{are-numbers, are-parents}
use Rattle.palm_tree.proofs.Sorted.{sorted-edges, are-children}
use Rattle.palm_tree.proofs.Ordered.{darts-in_order, later-less}

pub is-palm_tree : (g : Multigraph) → IsGraph g → (s : ForestState) → IsOver g s → IsOneTree g s → (low : LowVertices) → AreLowVertices g s low → (edges : List ℕ) → IsSortedByKeys (edge_count g) (sort_key g s low) edges → (number : List ℕ) → AreNumbered g s low edges number → (t : PalmTreeLists) → AreFound g s low edges number t → IsPalmTree g t
is-palm_tree g gg s o one low w edges q number m t f =
    let c = numbering_order s low edges in
    let e = sorted-edges g (sort_key g s low) edges q in
    let k = are-children g gg s o low edges e in
    record {
      numbers = are-numbers g gg s o one low m.size m.offset c number m.sizes k m.offsets m.numbers edges t f;
      parents = are-parents g gg s o one low m.size m.offset c number m.sizes k m.offsets m.numbers edges t f;
      darts = are-darts g gg s o low edges number t f e;
      low1_places = f.low1.places;
      low2_places = f.low2.places;
      low1 = low1 g gg s o low w m.size m.offset c number m.sizes k m.offsets m.numbers edges t f;
      low2 = low2 g gg s o low w m.size m.offset c number m.sizes k m.offsets m.numbers edges t f;
      in_order = darts-in_order g gg s o low w edges q m.size m.offset number m.sizes k m.offsets m.numbers t f;
      later_less = later-less g gg s o low w edges q m.size m.offset number m.sizes k m.offsets m.numbers t f;
    }
