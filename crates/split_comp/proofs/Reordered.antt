-- The state of splitting does not depend on the order of the current family.
use Rattle.std.proofs.Common.{◌≡◌, ℕ, ◌<◌, inl, inr, List, length, sym, ap, ◌∙◌, subst, arith, Contains}
use Rattle.std.proofs.lemmas.Bool.{cases_lt, cases_eq}
use Rattle.multigraph.specs.Graph.{Multigraph}
use Rattle.pair_split.specs.Family.{Entry, IsFamily}
use Rattle.pair_split.specs.Edges.{graph_entry}
use Rattle.pair_split.specs.State.{SplitState, own_at, layer, IsSplitState}
use Rattle.pair_split.proofs.SameEntries.{IsWithin}
use Rattle.pair_split.proofs.Layers.{layer-part, layer-current, layer-cases, layer-past, current-layer}
use Rattle.pair_split.proofs.Start.{empty-family}

module _ (g : Multigraph) (state : SplitState) (current : List Entry) (s : IsSplitState g state) (family : IsFamily current) (into : IsWithin state.current current) (back : IsWithin current state.current) where
  abbrev new : SplitState
  new = record { parts = state.parts; current = current }

  abbrev r : ℕ
  r = length state.parts

  layer-old : (k : ℕ) → k < r → layer new k ≡ layer state k
  layer-old k l = layer-part new k l ∙ sym (layer-part state k l)

  -- what is in a layer of the one is in that of the other
  to : (k : ℕ) (x : Entry) → Contains (layer state k) x → Contains (layer new k) x
  to k x c = elim (layer-cases state k x c) [
    | inl l ↦ subst (λ (z : List Entry). Contains z x) (sym (layer-old k l)) c
    | inr e ↦ subst (λ (z : ℕ). Contains (layer new z) x) (sym e.0) (current-layer new x (into x e.1))
  ]

  from : (k : ℕ) (x : Entry) → Contains (layer new k) x → Contains (layer state k) x
  from k x c = elim (layer-cases new k x c) [
    | inl l ↦ subst (λ (z : List Entry). Contains z x) (layer-old k l) c
    | inr e ↦ subst (λ (z : ℕ). Contains (layer state z) x) (sym e.0) (current-layer state x (back x e.1))
  ]

  pub state-reordered : IsSplitState g new
  state-reordered = record {
    families = λ k. elim (cases_lt k r) [
      | inl l ↦ subst IsFamily (sym (layer-old k l)) (s.families k)
      | inr l ↦ elim (cases_eq k r) [ inl e ↦ subst IsFamily (sym (ap (layer new) e ∙ layer-current new)) family | inr n ↦ subst IsFamily (sym (layer-past new k (omega (arith, l, n)))) empty-family ]
    ];
    own_names = s.own_names;
    kinds = s.kinds;
    none_small = s.none_small;
    edges_listed = λ e l. let w = s.edges_listed e l in (w.0, to w.0 (graph_entry g e) w.1);
    own_listed = λ c l. let w = s.own_listed c l in (w.0, w.1, to w.0 (own_at state c) w.2);
    nothing_else = λ k x c. s.nothing_else k x (from k x c);
    once = λ k j x y a b e. s.once k j x y (from k x a) (from j y b) e;
    place = s.place;
    placed = record {
      finished = λ k x l c. s.placed.finished k x l (from k x c);
      current = λ x c. s.placed.current x (back x c);
      unused = s.placed.unused;
    };
    parted = λ c l t b v. s.parted c l t (record { own = b.own; last = b.last; layer_by_layer = λ k x d n. b.layer_by_layer k x (to k x d) n }) v;
  }
