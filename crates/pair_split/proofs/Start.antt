-- The state in which nothing is split yet.
use Rattle.std.proofs.Common.{◌≢◌, ℕ, zero, suc, ◌≤◌, inl, [], refl, sym, arith, Contains}
use Rattle.std.proofs.lemmas.List.Elements.{All-nil}
use Rattle.multigraph.specs.Graph.{Multigraph, IsGraph}
use Rattle.pair_split.specs.Family.{Entry, IsFamily}
use Rattle.pair_split.specs.Edges.{graph_family}
use Rattle.pair_split.specs.State.{layer, start_state, IsSplitState}
use Rattle.pair_split.proofs.Elements.{contains-none}
use Rattle.pair_split.proofs.GraphFamily.{graph-is_family, graph-contains, graph-entry}
use Rattle.pair_split.proofs.Layers.{layer-in}

-- no entry is a family
pub empty-family : IsFamily []
empty-family = record { names_once = refl; no_loops = All-nil (λ entry. entry.first ≢ entry.second) }

module _ (g : Multigraph) (ok : IsGraph g) where
  start-families : (k : ℕ) → IsFamily (layer (start_state g) k)
  start-families zero = graph-is_family g ok
  start-families (suc k) = empty-family

  -- the only layer is the family of the graph
  only-layer : (k : ℕ) (entry : Entry) → Contains (layer (start_state g) k) entry → Contains (graph_family g) entry
  only-layer zero entry c = c
  only-layer (suc k) entry c = absurd (contains-none entry c)

  -- nothing is split at the start
  pub state-start : IsSplitState g (start_state g)
  state-start = record {
    families = start-families;
    own_names = λ c l. absurd (omega (arith, l));
    kinds = λ c l. absurd (omega (arith, l));
    none_small = λ c l. absurd (omega (arith, l));
    edges_listed = λ e l. (0, graph-contains g e l);
    own_listed = λ c l. absurd (omega (arith, l));
    nothing_else = λ k entry c. let w = graph-entry g entry (only-layer k entry c) in inl (w.0, w.1, sym w.2);
    once = λ k j x y c d n. let a : k ≤ 0 = layer-in (start_state g) k x c in let b : j ≤ 0 = layer-in (start_state g) j y d in omega arith;
    place = λ n. n;
    placed = record { finished = λ k entry l c. absurd (omega (arith, l)); current = λ entry c. refl; unused = λ j l. refl };
    parted = λ c l. absurd (omega (arith, l));
  }
