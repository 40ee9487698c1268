-- The depths of the first low vertices are the low points of the search forest.
use Rattle.std.proofs.Common.{ℕ, inl, inr, ◌==◌, get_or, ap}
use Rattle.std.proofs.lemmas.Bool.{ne_eqb, eq-eqb, both_ways}
use Rattle.multigraph.specs.Graph.{Multigraph, IsGraph}
use Rattle.graph_theory.specs.SearchTree.{LeadsTo, AreLowPoints}
use Rattle.search_forest.specs.Forest.{ForestState}
use Rattle.search_forest.specs.Searching.{IsOver}
use Rattle.search_forest.specs.Low.{LowVertices, LeadsFrom, AreLowVertices}
use Rattle.search_forest.proofs.Grown.{order-member}
use Rattle.blocks.specs.Finding.{low_depth}

-- they are
pub over-low : (g : Multigraph) → IsGraph g → (s : ForestState) → IsOver g s → (low : LowVertices) → AreLowVertices g s low → AreLowPoints g (λ v. get_or s.parent v 0) (λ v. get_or s.depth v 0) (λ v. get_or s.parent_edge v 0) (λ e. get_or s.lower e 0) (low_depth s low)
over-low g gg s o low w = record {
  at_frond = λ e l n. (w.fronds e l l (ne_eqb (get_or s.parent_edge (get_or s.lower e 0) 0) e n)).first;
  at_parent = λ v l d. (w.first_handed v (order-member g gg s o v l) d).first;
  witness = λ v l. elim (w.first_among v l) [ inl e ↦ inl (ap (λ (z : ℕ). get_or s.depth z 0) e) | inr r ↦ inr (leads v (get_or low.first v 0) r) ];
}
  where
    leads : (v x : ℕ) → LeadsFrom g s v x → LeadsTo g (λ v. get_or s.parent v 0) (λ v. get_or s.depth v 0) (λ v. get_or s.parent_edge v 0) (λ e. get_or s.lower e 0) v (get_or s.depth x 0)
    leads v x r = record {
      edge = r.edge;
      edge_in = r.edge_in;
      frond = λ q. both_ways (get_or s.parent_edge (get_or s.lower r.edge 0) 0 == r.edge) r.frond (eq-eqb (get_or s.parent_edge (get_or s.lower r.edge 0) 0) r.edge q);
      below = r.below;
      reached = ap (λ (z : ℕ). get_or s.depth z 0) r.upper;
    }
