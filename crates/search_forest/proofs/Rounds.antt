-- The search of a whole graph, one tree after another.
use Rattle.std.proofs.Common.{◌≡◌, ℕ, ◌+◌, ◌*◌, ◌<◌, true, false, [], length, subst, sym, arith}
use Rattle.multigraph.specs.Graph.{Multigraph, edge_count, IsGraph}
use Rattle.multigraph.specs.Marks.{is_marked}
use Rattle.search_forest.specs.Forest.{ForestState, root_noted, IsForest}
use Rattle.search_forest.specs.Searching.{IsOver, looks_ahead}
use Rattle.search_forest.proofs.Root.{root-forest}
use Rattle.search_forest.proofs.Start.{over-looks}
use Rattle.search_forest.proofs.Orders.{order-each}

-- the state after a root was visited is between turns
pub root-noted : (g : Multigraph) (s new : ForestState) (r : ℕ) → IsForest g s → r < g.vertex_count → is_marked s.visited r ≡ false → s.path ≡ [] → new ≡ root_noted s r → IsForest g new
root-noted g s new r k l u e en = subst (IsForest g) (sym en) (root-forest g s r k l u e)

-- a search from each vertex is over
pub whole-over : (g : Multigraph) (s : ForestState) (n : ℕ) → IsForest g s → s.path ≡ [] → ((u : ℕ) → u < n → is_marked s.visited u ≡ true) → n ≡ g.vertex_count → IsOver g s
whole-over g s n k e v q = record { forest = k; empty = e; visited = λ u l. v u (omega (arith, l, q)) }

-- the turns of the search of all trees
pub whole-counted : (g : Multigraph) → IsGraph g → (s : ForestState) (old new : ℕ) → IsOver g s → new + looks_ahead g s ≡ old + 2 * edge_count g + g.vertex_count + length s.order → new ≡ old + 2 * edge_count g + 2 * g.vertex_count
whole-counted g gg s old new o e = omega (arith, e, over-looks g s o, order-each g s o)
