-- What a finished search has found: a search forest.
use Rattle.std.proofs.Common.{◌≡◌, ℕ, ◌+◌, ◌<◌, inl, inr, Bool, true, List, [], length, get_or, ap, ◌∙◌, subst, arith}
use Rattle.std.proofs.lemmas.List.{get_or_default}
use Rattle.multigraph.specs.Graph.{Multigraph, edge_count, ends_of, other_end, incident_edges, IsGraph}
use Rattle.multigraph.specs.Marks.{is_marked}
use Rattle.multigraph.proofs.Incident.{incident-has}
use Rattle.multigraph.proofs.OtherEnd.{is_end-first}
use Rattle.graph_theory.specs.SearchTree.{IsSearchForest}
use Rattle.search_forest.specs.Forest.{ForestState, degree, OnPath, IsForest, IsGrown, IsSeen}
use Rattle.search_forest.specs.Searching.{IsOver}
use Rattle.search_forest.proofs.Ancestors.{chain}

-- the other end of a seen edge was visited
pub upper-visited : (g : Multigraph) (visited : List Bool) (parent depth parent_edge : List ℕ) (seen : List Bool) (lower : List ℕ) → IsGrown g visited parent depth parent_edge seen lower → IsSeen g visited parent depth seen lower → (e : ℕ) → is_marked seen e ≡ true → is_marked visited (other_end g e (get_or lower e 0)) ≡ true
upper-visited g visited parent depth parent_edge seen lower t d e h =
    let u = d.upper_above e h in
    subst (λ (k : ℕ). is_marked visited k ≡ true) u.2
    (chain g visited parent depth parent_edge seen lower t (u.0 + 1) (get_or lower e 0) (d.lower_visited e h) (omega (arith, u.1))).0

-- nothing is on an empty path
pub off-empty : (path : List ℕ) → path ≡ [] → (v : ℕ) → OnPath path v → ⊥
off-empty path e v o = absurd (omega (arith, o.within, ap length e))

-- where the search is over, every edge was seen
module _ (g : Multigraph) (gg : IsGraph g) (s : ForestState) (k : IsForest g s) (empty : s.path ≡ []) (all : (v : ℕ) → v < g.vertex_count → is_marked s.visited v ≡ true) where
  pub all-seen : (e : ℕ) → e < edge_count g → is_marked s.seen e ≡ true
  all-seen e l = from (incident-has g v e l (is_end-first g e))
    where
      v : ℕ
      v = (ends_of g e).0

      vl : v < g.vertex_count
      vl = gg.first_in e l

      done : get_or s.position v 0 ≡ degree g v
      done = elim (k.looked.finished v (all v vl)) [ inl a ↦ a | inr p ↦ absurd (off-empty s.path empty v p) ]

      from : (q : ℕ) × (q < length (incident_edges g v)) × (get_or (incident_edges g v) q e ≡ e) → is_marked s.seen e ≡ true
      from c =
          let f : get_or (incident_edges g v) c.0 0 ≡ e = get_or_default (incident_edges g v) c.0 0 e c.1 ∙ c.2 in
          subst (λ (z : ℕ). is_marked s.seen z ≡ true) f (k.looked.looked v vl c.0 (omega (arith, done, c.1)))

  -- and it is a search forest
  pub all-forest : IsSearchForest g (λ v. get_or s.parent v 0) (λ v. get_or s.depth v 0) (λ v. get_or s.parent_edge v 0) (λ e. get_or s.lower e 0)
  all-forest = record {
    parent_in = λ v l d. k.grown.parent_in v (all v l) d;
    parent_depth = λ v l d. k.grown.parent_depth v (all v l) d;
    parent_edge_in = λ v l d. k.grown.edge_in v (all v l) d;
    parent_edge_end = λ v l d. k.grown.edge_end v (all v l) d;
    parent_edge_leads = λ v l d. k.grown.edge_leads v (all v l) d;
    parent_edge_lower = λ v l d. k.grown.edge_lower v (all v l) d;
    lower_end = λ e l. k.edges.lower_end e (all-seen e l);
    upper_above = λ e l. k.edges.upper_above e (all-seen e l);
  }

-- every edge was seen
pub over-seen : (g : Multigraph) → IsGraph g → (s : ForestState) → IsOver g s → (e : ℕ) → e < edge_count g → is_marked s.seen e ≡ true
over-seen g gg s o = all-seen g gg s o.forest o.empty o.visited

-- the search forest
pub over-forest : (g : Multigraph) → IsGraph g → (s : ForestState) → IsOver g s → IsSearchForest g (λ v. get_or s.parent v 0) (λ v. get_or s.depth v 0) (λ v. get_or s.parent_edge v 0) (λ e. get_or s.lower e 0)
over-forest g gg s o = all-forest g gg s o.forest o.empty o.visited
