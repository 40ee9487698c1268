-- How a search begins, how many turns it takes, and that every vertex was visited at its end.
use Rattle.std.proofs.Common.{◌≡◌, ℕ, ◌+◌, ◌*◌, ◌<◌, ◌≤◌, inl, inr, true, false, [], length, get_or, replicate, refl, sym, ◌∙◌, subst, arith}
use Rattle.std.proofs.lemmas.Bool.{both_ways}
use Rattle.std.proofs.lemmas.List.{get_or_default, length-replicate}
use Rattle.permutations.proofs.Relation.{same-tests, connected-value}
use Rattle.multigraph.specs.Graph.{Multigraph, edge_count, ends_of, is_end, incident_edges, IsGraph}
use Rattle.multigraph.specs.Marks.{is_marked}
use Rattle.multigraph.proofs.Incident.{incident-has}
use Rattle.multigraph.proofs.OtherEnd.{is_end-first, is_end-second}
use Rattle.graph_theory.specs.Connected.{IsConnected}
use Rattle.graph_theory.proofs.Ends.{end-cases, end-in}
use Rattle.search_forest.specs.Forest.{ForestState, fresh, root_noted, degree, IsForest}
use Rattle.search_forest.specs.Searching.{IsOver, looks_ahead, turns_left}
use Rattle.search_forest.proofs.Writes.{marked-same}
use Rattle.search_forest.proofs.Fresh.{fresh-forest, marked-none}
use Rattle.search_forest.proofs.Root.{root-forest, root-roots}
use Rattle.search_forest.proofs.Over.{off-empty, upper-visited}
use Rattle.search_forest.proofs.Orders.{order-each}
use Rattle.search_forest.proofs.Degrees.{degree-sum, looks-all, looks-none}

-- the state where the first vertex was visited is between turns
pub start-forest : (g : Multigraph) → 0 < g.vertex_count → IsForest g (root_noted (fresh g) 0)
start-forest g l = root-forest g (fresh g) 0 (fresh-forest g) l (marked-none g.vertex_count 0) refl

-- and this vertex alone is a root
pub start-root : (g : Multigraph) → 0 < g.vertex_count → (v : ℕ) → is_marked (root_noted (fresh g) 0).visited v ≡ true → get_or (root_noted (fresh g) 0).depth v 0 ≡ 0 → v ≡ 0
start-root g l v h d = elim (root-roots g (fresh g) 0 (fresh-forest g) l (marked-none g.vertex_count 0) refl v h d) [ inl q ↦ q | inr o ↦ absurd (both_ways (is_marked (fresh g).visited v) (marked-none g.vertex_count v) o.0) ]

module _ (g : Multigraph) (gg : IsGraph g) (s : ForestState) (k : IsForest g s) (empty : s.path ≡ []) where
  -- an edge at a visited vertex was seen
  visited-seen : (e v : ℕ) → e < edge_count g → is_end g v e ≡ true → is_marked s.visited v ≡ true → is_marked s.seen e ≡ true
  visited-seen e v l i h = from (incident-has g v e l i)
    where
      done : get_or s.position v 0 ≡ degree g v
      done = elim (k.looked.finished v h) [ inl a ↦ a | inr p ↦ absurd (off-empty s.path empty v p) ]

      from : (q : ℕ) × (q < length (incident_edges g v)) × (get_or (incident_edges g v) q e ≡ e) → is_marked s.seen e ≡ true
      from c =
          let f : get_or (incident_edges g v) c.0 0 ≡ e = get_or_default (incident_edges g v) c.0 0 e c.1 ∙ c.2 in
          subst (λ (z : ℕ). is_marked s.seen z ≡ true) f (k.looked.looked v (end-in g gg e v l i) c.0 (omega (arith, done, c.1)))

  -- an end of a seen edge was visited
  seen-visited : (e z : ℕ) → is_end g z e ≡ true → is_marked s.seen e ≡ true → is_marked s.visited z ≡ true
  seen-visited e z i h = elim (end-cases g e (get_or s.lower e 0) z (k.edges.lower_end e h) i) [
    | inl q ↦ subst (λ (x : ℕ). is_marked s.visited x ≡ true) (sym q) (k.edges.lower_visited e h)
    | inr q ↦ subst (λ (x : ℕ). is_marked s.visited x ≡ true) (sym q) (upper-visited g s.visited s.parent s.depth s.parent_edge s.seen s.lower k.grown k.edges e h)
  ]

  -- of the two ends of an edge both were visited or none
  ends-alike : (e : ℕ) → e < edge_count g → is_marked s.visited (ends_of g e).0 ≡ is_marked s.visited (ends_of g e).1
  ends-alike e l = same-tests (is_marked s.visited (ends_of g e).0) (is_marked s.visited (ends_of g e).1)
      (λ h. seen-visited e (ends_of g e).1 (is_end-second g e) (visited-seen e (ends_of g e).0 l (is_end-first g e) h))
      (λ h. seen-visited e (ends_of g e).0 (is_end-first g e) (visited-seen e (ends_of g e).1 l (is_end-second g e) h))

  -- where the graph is connected, the search is over
  pub explored-over : IsConnected g → is_marked s.visited 0 ≡ true → IsOver g s
  explored-over c v = record {
    forest = k;
    empty = empty;
    visited = λ u l.
        let z : 0 < g.vertex_count = omega arith in
        sym (connected-value g.ends (is_marked s.visited) (λ e d m. subst (λ (r : ℕ × ℕ). is_marked s.visited r.0 ≡ is_marked s.visited r.1) (get_or_default g.ends e (0, 0) d m) (ends-alike e m)) 0 u (c 0 u z l)) ∙ v;
  }

-- no look is left when the search is over
pub over-looks : (g : Multigraph) (s : ForestState) → IsOver g s → looks_ahead g s ≡ 0
over-looks g s o = looks-none g s.position g.vertex_count (λ v l. elim (o.forest.looked.finished v (o.visited v l)) [ inl a ↦ a | inr p ↦ absurd (off-empty s.path o.empty v p) ])

-- at its begin two looks are left for each edge
pub fresh-looks : (g : Multigraph) → IsGraph g → looks_ahead g (fresh g) ≡ 2 * edge_count g
fresh-looks g gg = looks-all g g.vertex_count g.vertex_count ∙ degree-sum g gg

-- how many turns the search from the first vertex can take
pub start-turns : (g : Multigraph) → IsGraph g → turns_left g (root_noted (fresh g) 0) ≤ 4 * edge_count g + 1
start-turns g gg = omega (arith, fresh-looks g gg)

-- the first vertex was visited then
pub start-marked : (g : Multigraph) → 0 < g.vertex_count → is_marked (root_noted (fresh g) 0).visited 0 ≡ true
start-marked g l = marked-same (replicate g.vertex_count false) 0 (omega (arith, length-replicate g.vertex_count false))

-- the turns of the whole search from the first vertex: one for each end of an edge, and one for each vertex
pub start-counted : (g : Multigraph) → IsGraph g → (s : ForestState) (old new : ℕ) → IsOver g s
    → new + looks_ahead g s + length (root_noted (fresh g) 0).order ≡ old + looks_ahead g (root_noted (fresh g) 0) + length (root_noted (fresh g) 0).path + length s.order → new ≡ old + 2 * edge_count g + g.vertex_count
start-counted g gg s old new o e = omega (arith, e, over-looks g s o, fresh-looks g gg, order-each g s o)
