-- An edge is seen for the first time at the last vertex of the path: where it leads.
use Rattle.std.proofs.Common.{◌≡◌, ℕ, ◌+◌, ◌-◌, ◌<◌, inl, inr, true, false, length, get_or, refl, sym, ap, ◌∙◌, subst, arith}
use Rattle.std.proofs.lemmas.Bool.{cases_lt, both_ways}
use Rattle.std.proofs.lemmas.List.{get_or_default}
use Rattle.multigraph.specs.Graph.{Multigraph, edge_count, is_end, other_end, incident_edges, IsGraph}
use Rattle.multigraph.specs.Marks.{is_marked}
use Rattle.multigraph.proofs.Incident.{incident-has}
use Rattle.multigraph.proofs.OtherEnd.{other_end-is_end}
use Rattle.graph_theory.proofs.Ends.{other-differs, end-in}
use Rattle.search_forest.specs.Forest.{ForestState, degree, OnPath, IsForest}
use Rattle.search_forest.proofs.Frond.{IsFrond}
use Rattle.search_forest.proofs.Child.{IsChild}

-- a visited vertex with an unseen edge is on the path
unseen-on : (g : Multigraph) (s : ForestState) (w e : ℕ) → IsForest g s → w < g.vertex_count → is_marked s.visited w ≡ true → e < edge_count g → is_end g w e ≡ true → is_marked s.seen e ≡ false → OnPath s.path w
unseen-on g s w e k l h m i u = elim (k.looked.finished w h) [
  | inl a ↦ absurd (at a (incident-has g w e m i))
  | inr o ↦ o
]
  where
    at : get_or s.position w 0 ≡ degree g w → (q : ℕ) × (q < length (incident_edges g w)) × (get_or (incident_edges g w) q e ≡ e) → ⊥
    at a c =
        let f : get_or (incident_edges g w) c.0 0 ≡ e = get_or_default (incident_edges g w) c.0 0 e c.1 ∙ c.2 in
        both_ways (is_marked s.seen e) u (subst (λ (z : ℕ). is_marked s.seen z ≡ true) f (k.looked.looked w l c.0 (omega (arith, a, c.1))))

module _ (g : Multigraph) (gg : IsGraph g) (s : ForestState) (v e p : ℕ) (k : IsForest g s) (last : length s.path ≡ p + 1) (here : get_or s.path p 0 ≡ v) (m : e < edge_count g) (i : is_end g v e ≡ true) (u : is_marked s.seen e ≡ false) where
  w : ℕ
  w = other_end g e v

  wl : w < g.vertex_count
  unfolding w
  wl = end-in g gg e w m (other_end-is_end g e v)

  -- to a vertex that was visited: to an ancestor
  pub frond-at : is_marked s.visited (other_end g e v) ≡ true → (b : ℕ) × (c : ℕ) × IsFrond g s v e b c
  unfolding w
  frond-at h = made (unseen-on g s w e k wl h m (other_end-is_end g e v) u)
    where
      made : OnPath s.path (other_end g e v) → (b : ℕ) × (c : ℕ) × IsFrond g s v e b c
      made o = elim (cases_lt o.place p) [
        | inl a ↦ from (p - (o.place + 1)) (omega arith)
        | inr c ↦ absurd (other-differs g gg e v m i (sym o.is ∙ (ap (λ (z : ℕ). get_or s.path z 0) (omega (arith, o.within, last)) ∙ here)))
      ]
        where
          from : (c : ℕ) → o.place + (c + 1) ≡ p → (b : ℕ) × (c : ℕ) × IsFrond g s v e b c
          from c q = (
            o.place,
            c,
            record {
              edge_in = m;
              unseen = u;
              is_end = i;
              vertex_in = end-in g gg e v m i;
              within = omega (arith, last);
              here = ap (λ (z : ℕ). get_or s.path z 0) q ∙ here;
              there = o.is;
            },
          )

  -- to a vertex that was not visited: to a child
  pub child-at : is_marked s.visited (other_end g e v) ≡ false → IsChild g s v e (other_end g e v) p
  unfolding w
  child-at h = record {
    edge_in = m;
    unseen = u;
    is_end = i;
    leads = refl;
    vertex_in = end-in g gg e v m i;
    child_in = wl;
    unvisited = h;
    last = last;
    here = here;
  }
