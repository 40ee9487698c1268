-- Where each name of a state lies in the current family, and the vertices that two sides of the graph have in common as told
-- by the current family.
use Rattle.std.proofs.Common.{◌≡◌, ◌≢◌, ℕ, zero, suc, ◌+◌, ◌<◌, ◌≤◌, ◌⊎◌, ◌==◌, inl, inr, Bool, true, not, length, refl, sym, ap, ◌∙◌, subst, arith, Contains}
use Rattle.std.proofs.lemmas.Bool.{eq-eqb, eqb-true, ne_eqb, both_ways, not-true, not_from_false, or_left}
use Rattle.multigraph.specs.Graph.{Multigraph, edge_count, is_end}
use Rattle.graph_theory.specs.Side.{IsCommon}
use Rattle.pair_split.specs.Family.{Entry, has_end, on_side, is_common, IsTight}
use Rattle.pair_split.specs.Edges.{graph_entry, graph_family}
use Rattle.pair_split.specs.State.{SplitState, own_at, layer, IsBeyond, IsSplitState}
use Rattle.pair_split.proofs.Sides.{entry-from_one, one-from_entry, common-from, common-inside, common-outside}
use Rattle.pair_split.proofs.GraphFamily.{graph-contains}
use Rattle.pair_split.proofs.GraphSides.{family-common}
use Rattle.pair_split.proofs.Layers.{layer-in, layer-cases, current-layer}

module _ (g : Multigraph) (state : SplitState) (s : IsSplitState g state) where
  -- a test that is the same on each layer as at its virtual edge is the same at a name and at its place
  along : (u : ℕ → Bool) → ((k : ℕ) (entry : Entry) → k < length state.parts → Contains (layer state k) entry → u entry.name ≡ u (edge_count g + k))
      → (fuel k : ℕ) (entry : Entry) → length state.parts < k + fuel → Contains (layer state k) entry → u entry.name ≡ u (s.place entry.name)
  along u h zero k entry l c = absurd (omega (arith, l, layer-in state k entry c))
  along u h (suc fuel) k entry l c = elim (layer-cases state k entry c) [
    | inr w ↦ ap u (sym (s.placed.current entry w.1))
    | inl w ↦
        let o = s.own_listed k w in
        let n : (own_at state k).name ≡ edge_count g + k = s.own_names k w in
        let up : u (own_at state k).name ≡ u (s.place (own_at state k).name) = along u h fuel o.0 (own_at state k) (omega (arith, l, o.1)) o.2 in
        h k entry w c ∙ ap u (sym n) ∙ up ∙ ap (λ x. u (s.place x)) n ∙ ap u (sym (s.placed.finished k entry w c))
  ]

  pub constant-place : (u : ℕ → Bool) → ((k : ℕ) (entry : Entry) → k < length state.parts → Contains (layer state k) entry → u entry.name ≡ u (edge_count g + k))
      → (k : ℕ) (entry : Entry) → Contains (layer state k) entry → u entry.name ≡ u (s.place entry.name)
  constant-place u h k entry c = along u h (suc (length state.parts)) k entry (omega arith) c

  -- the place of a name is the name of an entry of the current family
  pub record PlacedIn (name : ℕ) : Type 0 where
    pub top : Entry
    pub within : Contains state.current top
    pub there : s.place name ≡ top.name

  placed_in : (fuel k : ℕ) (entry : Entry) → length state.parts < k + fuel → Contains (layer state k) entry → PlacedIn entry.name
  placed_in zero k entry l c = absurd (omega (arith, l, layer-in state k entry c))
  placed_in (suc fuel) k entry l c = elim (layer-cases state k entry c) [
    | inr w ↦ record { top = entry; within = w.1; there = s.placed.current entry w.1 }
    | inl w ↦
        let o = s.own_listed k w in
        let p = placed_in fuel o.0 (own_at state k) (omega (arith, l, o.1)) o.2 in
        record { top = p.top; within = p.within; there = s.placed.finished k entry w c ∙ ap s.place (sym (s.own_names k w)) ∙ p.there }
  ]

  -- each edge lies in an entry of the current family
  pub edge-placed : (e : ℕ) → e < edge_count g → PlacedIn e
  edge-placed e l = let w = s.edges_listed e l in placed_in (suc (length state.parts)) w.0 (graph_entry g e) (omega arith) w.1

  -- an entry of the current family is an edge of the graph, or the virtual edge of a finished component
  current-cases : (entry : Entry) → Contains state.current entry → ((e : ℕ) × (e < edge_count g) × (entry ≡ graph_entry g e)) ⊎ ((c : ℕ) × (c < length state.parts) × (entry ≡ own_at state c))
  current-cases entry c = s.nothing_else (length state.parts) entry (current-layer state entry c)

  -- what lies in the virtual edge of component c, which is in the current family, is beyond it
  beyond-place : (c : ℕ) → c < length state.parts → Contains state.current (own_at state c) → IsBeyond (edge_count g) state c (λ n. s.place n == edge_count g + c)
  beyond-place c l w = record {
    own = eq-eqb (s.place (edge_count g + c)) (edge_count g + c) (ap s.place (sym (s.own_names c l)) ∙ s.placed.current (own_at state c) w ∙ s.own_names c l);
    last = ne_eqb (s.place (edge_count g + length state.parts)) (edge_count g + c) (λ e. omega (arith, e, l, s.placed.unused (length state.parts) (omega arith)));
    layer_by_layer = λ k entry h n. elim (layer-cases state k entry h) [
      | inl b ↦ ap (λ x. x == edge_count g + c) (s.placed.finished k entry b h)
      | inr b ↦ ne_eqb (s.place entry.name) (edge_count g + c) (λ e. n (sym (s.placed.current entry b.1) ∙ e))
          ∙ sym (ne_eqb (s.place (edge_count g + k)) (edge_count g + c) (λ e. omega (arith, e, l, b.0, s.placed.unused k (omega (arith, b.0)))))
    ];
  }

  -- two edges at a vertex that lie in different entries: the vertex is an end of the entry in which the first lies
  end-of_place : (v e f : ℕ) → e < edge_count g → f < edge_count g → is_end g v e ≡ true → is_end g v f ≡ true → s.place e ≢ s.place f
      → (top : Entry) → Contains state.current top → s.place e ≡ top.name → has_end v top ≡ true
  end-of_place v e f l k i j n top w p = elim (current-cases top w) [
    | inl h ↦
        let d = s.edges_listed e l in
        let here : (e == h.0) ≡ (s.place e == h.0) = constant-place (λ x. x == h.0) (apart h) d.0 (graph_entry g e) d.1 in
        let same : e ≡ h.0 = eqb-true e h.0 (here ∙ eq-eqb (s.place e) h.0 (p ∙ ap (λ (x : Entry). x.name) h.2)) in
        subst (λ (x : Entry). has_end v x ≡ true) (sym h.2) (subst (λ x. is_end g v x ≡ true) same i)
    | inr h ↦ subst (λ (x : Entry). has_end v x ≡ true) (sym h.2)
        ((s.parted h.0 h.1 (λ x. s.place x == edge_count g + h.0) (beyond-place h.0 h.1 (subst (Contains state.current) h.2 w)) v).0
        (record {
          inside = e;
          outside = f;
          inside_edge = l;
          outside_edge = k;
          inside_end = i;
          outside_end = j;
          inside_side = eq-eqb (s.place e) (edge_count g + h.0) (at-own h);
          outside_side = ne_eqb (s.place f) (edge_count g + h.0) (λ q. n (at-own h ∙ sym q));
        }))
  ]
    where
      -- an edge of the current family is in no finished component
      apart : (h : (x : ℕ) × (x < edge_count g) × (top ≡ graph_entry g x)) → (c : ℕ) (entry : Entry) → c < length state.parts → Contains (layer state c) entry → (entry.name == h.0) ≡ (edge_count g + c == h.0)
      apart h c entry b q = ne_eqb entry.name h.0 (λ r. omega (arith, b, s.once c (length state.parts) entry top q (current-layer state top w) (r ∙ sym (ap (λ (x : Entry). x.name) h.2))))
          ∙ sym (ne_eqb (edge_count g + c) h.0 (λ r. omega (arith, r, h.1)))

      at-own : (h : (c : ℕ) × (c < length state.parts) × (top ≡ own_at state c)) → s.place e ≡ edge_count g + h.0
      at-own h = p ∙ ap (λ (x : Entry). x.name) h.2 ∙ s.own_names h.0 h.1

  -- an end of an entry of the current family is an end of an edge that lies in it
  pub record EdgeIn (v : ℕ) (top : Entry) : Type 0 where
    pub edge : ℕ
    pub edge_in : edge < edge_count g
    pub end : is_end g v edge ≡ true
    pub there : s.place edge ≡ top.name

  pub edge_in : (v : ℕ) (top : Entry) → Contains state.current top → has_end v top ≡ true → EdgeIn v top
  edge_in v top w i = elim (current-cases top w) [
    | inl h ↦ record {
      edge = h.0;
      edge_in = h.1;
      end = subst (λ (x : Entry). has_end v x ≡ true) h.2 i;
      there = ap s.place (sym (ap (λ (x : Entry). x.name) h.2)) ∙ s.placed.current top w;
    }
    | inr h ↦
        let c = (s.parted h.0 h.1 (λ x. s.place x == edge_count g + h.0) (beyond-place h.0 h.1 (subst (Contains state.current) h.2 w)) v).1 (subst (λ (x : Entry). has_end v x ≡ true) h.2 i) in
        record {
          edge = c.inside;
          edge_in = c.inside_edge;
          end = c.inside_end;
          there = eqb-true (s.place c.inside) (edge_count g + h.0) c.inside_side ∙ sym (ap (λ (x : Entry). x.name) h.2 ∙ s.own_names h.0 h.1);
        }
  ]

  -- what the sides of the graph have in common, where each edge is on the side of its place, the current family tells
  pub common-current : (cut : ℕ → Bool) (v : ℕ) → IsCommon g (λ n. cut (s.place n)) v → is_common state.current cut v ≡ true
  common-current cut v c =
      let p = edge-placed c.inside c.inside_edge in
      let q = edge-placed c.outside c.outside_edge in
      let n : s.place c.inside ≢ s.place c.outside = λ e. both_ways (cut (s.place c.outside)) c.outside_side (ap cut (sym e) ∙ c.inside_side) in
      common-from state.current cut v
      (record { entry = p.top; within = p.within; side = ap cut (sym p.there) ∙ c.inside_side; end = end-of_place v c.inside c.outside c.inside_edge c.outside_edge c.inside_end c.outside_end n p.top p.within p.there })
      (record { entry = q.top; within = q.within; side = not_from_false (cut q.top.name) (ap cut (sym q.there) ∙ c.outside_side); end = end-of_place v c.outside c.inside c.outside_edge c.inside_edge c.outside_end c.inside_end (λ e. n (sym e)) q.top q.within q.there })

  -- and the other way round
  pub current-common : (cut : ℕ → Bool) (v : ℕ) → is_common state.current cut v ≡ true → IsCommon g (λ n. cut (s.place n)) v
  current-common cut v h =
      let i = common-inside state.current cut v h in
      let o = common-outside state.current cut v h in
      let e = edge_in v i.entry i.within i.end in
      let f = edge_in v o.entry o.within o.end in
      record {
        inside = e.edge;
        outside = f.edge;
        inside_edge = e.edge_in;
        outside_edge = f.edge_in;
        inside_end = e.end;
        outside_end = f.end;
        inside_side = ap cut e.there ∙ i.side;
        outside_side = ap cut f.there ∙ not-true (cut o.entry.name) o.side;
      }

  -- a side of the current family with an entry is one of the graph with an edge
  side-edge : (cut : ℕ → Bool) → 1 ≤ length (on_side cut state.current) → 1 ≤ length (on_side (λ n. cut (s.place n)) (graph_family g))
  side-edge cut l =
      let x = entry-from_one state.current cut l in
      let e = edge_in x.entry.first x.entry x.within (or_left (x.entry.first == x.entry.first) (x.entry.second == x.entry.first) (eq-eqb x.entry.first x.entry.first refl)) in
      one-from_entry (graph_family g) (λ n. cut (s.place n)) (record { entry = graph_entry g e.edge; within = graph-contains g e.edge e.edge_in; side = ap cut e.there ∙ x.side })

  -- the current family is tight where the graph is
  pub state-tight : IsTight (graph_family g) → IsTight state.current
  state-tight tight cut i o =
      let t = tight (λ n. cut (s.place n)) (side-edge cut i) (side-edge (λ n. not (cut n)) o) in
      (t.0, t.1, t.2, common-current cut t.0 (family-common g (λ n. cut (s.place n)) t.0 t.3), common-current cut t.1 (family-common g (λ n. cut (s.place n)) t.1 t.4))
