-- An edge was seen that leads to an ancestor: what holds between turns is kept.
use Rattle.std.proofs.Common.{◌≡◌, ◌≢◌, ℕ, ◌+◌, ◌<◌, ◌⊎◌, inl, inr, Bool, true, false, List, length, get_or, set, sym, ap, ◌∙◌, subst, arith, length-set}
use Rattle.permutations.specs.Permutation.{iterate}
use Rattle.multigraph.specs.Graph.{Multigraph, edge_count, is_end, other_end, incident_edges}
use Rattle.search_forest.specs.Forest.{ForestState, frond_noted, IsForest}
use Rattle.multigraph.specs.Marks.{is_marked}
use Rattle.search_forest.specs.Forest.{IsGrown, IsSeen}
use Rattle.search_forest.proofs.Writes.{number-same, number-other, marked-cases, marked-kept, marks-differ}
use Rattle.search_forest.proofs.Ancestors.{path-up}

-- edge e was seen for the first time at v, at place j + i + 1 of the path, and leads to the vertex at place j
pub record IsFrond (g : Multigraph) (s : ForestState) (v e j i : ℕ) : Type 0 where
  pub edge_in : e < edge_count g
  pub unseen : is_marked s.seen e ≡ false
  pub is_end : is_end g v e ≡ true
  pub vertex_in : v < g.vertex_count
  pub within : j + (i + 1) < length s.path
  pub here : get_or s.path (j + (i + 1)) 0 ≡ v
  pub there : get_or s.path j 0 ≡ other_end g e v

module _ (g : Multigraph) (s : ForestState) (v e j i : ℕ) (k : IsForest g s) (f : IsFrond g s v e j i) where
  seen' : List Bool
  seen' = set s.seen e true

  lower' : List ℕ
  lower' = set s.lower e v

  e-in : e < length s.seen
  e-in = omega (arith, f.edge_in, k.places.seen)

  -- a seen edge is another one
  other : (q : ℕ) → is_marked s.seen q ≡ true → q ≢ e
  other q h = marks-differ s.seen q e h f.unseen

  lower-kept : (q : ℕ) → is_marked s.seen q ≡ true → get_or lower' q 0 ≡ get_or s.lower q 0
  unfolding lower'
  lower-kept q h = number-other s.lower e q v (other q h)

  lower-here : get_or lower' e 0 ≡ v
  unfolding lower'
  lower-here = number-same s.lower e v (omega (arith, f.edge_in, k.places.lower))

  seen-kept : (q : ℕ) → is_marked s.seen q ≡ true → is_marked seen' q ≡ true
  unfolding seen'
  seen-kept q h = marked-kept s.seen e q e-in h

  seen-cases : (q : ℕ) → is_marked seen' q ≡ true → (q ≡ e) ⊎ (is_marked s.seen q ≡ true)
  unfolding seen'
  seen-cases q h = marked-cases s.seen e q h

  -- the depth of v is its place on the path
  depth-here : get_or s.depth v 0 ≡ j + (i + 1)
  depth-here = ap (λ (z : ℕ). get_or s.depth z 0) (sym f.here) ∙ k.on_path.deep (j + (i + 1)) f.within

  visited-here : is_marked s.visited v ≡ true
  visited-here = subst (λ (z : ℕ). is_marked s.visited z ≡ true) f.here (k.on_path.visits (j + (i + 1)) f.within)

  -- the edge leads to a proper ancestor
  upper-here : iterate (λ q. get_or s.parent q 0) (i + 1) v ≡ other_end g e v
  upper-here = ap (iterate (λ q. get_or s.parent q 0) (i + 1)) (sym f.here) ∙ (path-up g s.visited s.parent s.depth s.path k.on_path (i + 1) j f.within ∙ f.there)

  grown : IsGrown g s.visited s.parent s.depth s.parent_edge seen' lower'
  grown = record {
    parent_in = k.grown.parent_in;
    parent_visited = k.grown.parent_visited;
    parent_depth = k.grown.parent_depth;
    edge_in = k.grown.edge_in;
    edge_end = k.grown.edge_end;
    edge_leads = k.grown.edge_leads;
    edge_seen = λ u h d. seen-kept (get_or s.parent_edge u 0) (k.grown.edge_seen u h d);
    edge_lower = λ u h d. lower-kept (get_or s.parent_edge u 0) (k.grown.edge_seen u h d) ∙ k.grown.edge_lower u h d;
  }

  edges : IsSeen g s.visited s.parent s.depth seen' lower'
  edges = record {
    lower_end = λ q h. elim (seen-cases q h) [
      | inl n ↦ subst (λ (z : ℕ). is_end g (get_or lower' z 0) z ≡ true) (sym n) (subst (λ (z : ℕ). is_end g z e ≡ true) (sym lower-here) f.is_end)
      | inr o ↦ subst (λ (z : ℕ). is_end g z q ≡ true) (sym (lower-kept q o)) (k.edges.lower_end q o)
    ];
    lower_visited = λ q h. elim (seen-cases q h) [
      | inl n ↦ subst (λ (z : ℕ). is_marked s.visited (get_or lower' z 0) ≡ true) (sym n) (subst (λ (z : ℕ). is_marked s.visited z ≡ true) (sym lower-here) visited-here)
      | inr o ↦ subst (λ (z : ℕ). is_marked s.visited z ≡ true) (sym (lower-kept q o)) (k.edges.lower_visited q o)
    ];
    upper_above = λ q h. elim (seen-cases q h) [
      | inl n ↦ subst (λ (z : ℕ). (c : ℕ) × (c < get_or s.depth (get_or lower' z 0) 0) × (iterate (λ r. get_or s.parent r 0) (c + 1) (get_or lower' z 0) ≡ other_end g z (get_or lower' z 0))) (sym n)
          (subst (λ (z : ℕ). (c : ℕ) × (c < get_or s.depth z 0) × (iterate (λ r. get_or s.parent r 0) (c + 1) z ≡ other_end g e z)) (sym lower-here) (i, omega (arith, depth-here), upper-here))
      | inr o ↦ subst (λ (z : ℕ). (c : ℕ) × (c < get_or s.depth z 0) × (iterate (λ r. get_or s.parent r 0) (c + 1) z ≡ other_end g q z)) (sym (lower-kept q o)) (k.edges.upper_above q o)
    ];
  }

  -- what holds between turns is kept
  pub frond-forest : IsForest g (frond_noted s v e)
  unfolding seen' lower'
  frond-forest = record {
    places = record {
      visited = k.places.visited;
      parent = k.places.parent;
      depth = k.places.depth;
      parent_edge = k.places.parent_edge;
      position = k.places.position;
      seen = length-set s.seen e true ∙ k.places.seen;
      lower = length-set s.lower e v ∙ k.places.lower;
    };
    on_path = k.on_path;
    grown = grown;
    looked = record { within = k.looked.within; looked = λ u l q h. seen-kept (get_or (incident_edges g u) q 0) (k.looked.looked u l q h); finished = k.looked.finished };
    edges = edges;
    ordered = k.ordered;
  }
