-- The codes of `regroup`: which is the lowest that applies, and that a list that no code refuses is an arrangement.
use Rattle.std.proofs.Common.{◌≡◌, ℕ, ◌<◌, ◌≤◌, ◌⊎◌, inl, inr, Bool, true, false, List, refl, sym, ap, ◌∙◌, subst, arith, Contains, IsPermutation}
use Rattle.std.proofs.lemmas.Bool.{cases_Bool, cases_lt, cases_order, true≢false}
use Rattle.permutations.specs.Members.{is_member}
use Rattle.permutations.specs.Cyclic.{from_least}
use Rattle.permutations.proofs.NormalForm.{from_least-member}
use Rattle.multigraph.specs.Graph.{incident_edges}
use Rattle.rotations.proofs.Membership.{incident-distinct}
use Rattle.gml_graph.specs.Arranged.{is_arrangement}
use Rattle.gml_graph.proofs.Arranged.{arranged-passes, passes-arranged}
use Rattle.arrangements.specs.Arranged.{keeps, cross, IsArrangement}
use Rattle.arrangements.specs.Refused.{IsLeastChanged, IsLeastCrossing}
use Rattle.arrangements.proofs.Refusals.{kept-or_changed, apart-or_crossing}
use Rattle.arrangements.proofs.Laws.{arrangements_are_listed}
use Rattle.whole_embed.specs.Component.{Component, BlockInPlane, IsComponentInPlane}
use Rattle.whole_embed.specs.Around.{edges_around, block_with, block_order, arrangements_around}
use Rattle.whole_embed.proofs.Assembly.{assembled}
use Rattle.whole_embed.proofs.Reasons.{around-order}
use Rattle.spqr_session.specs.Setting.{Setting, IsSetting}
use Rattle.spqr_session.specs.State.{State, component_at, is_planar_component}
use Rattle.spqr_session.specs.Codes.{code_number, code_numbers, IsLowest, NoneApplies}
use Rattle.spqr_session.specs.Components.{blocks_of}
use Rattle.spqr_session.specs.Commands.Regroup.{component_number, OrdersEdges, KeepsOrders, RegroupApplies}
use Rattle.spqr_session.specs.Wholes.{AreEntries}
use Rattle.spqr_session.specs.declared.code.Code.{Code}
use Rattle.spqr_session.specs.declared.code.Code.TheVariants.{NoBlock, NoNode, WrongKind, BadOrder, NonPlanar, BadRotation, NotGenusZero, NothingToUndo, NothingToRedo, CountOver, RankOut, Locked, LockedIn, Parallel, NoComponent, NoCut, BlockOrder, Cross}
use Rattle.spqr_session.proofs.Carried.{TellsOne}
use Rattle.spqr_session.proofs.ComponentParts.{component-below, cut-there, around-rises, around-cut, component-in_plane}

-- there is one least block whose cyclic order is changed
pub changed-one : (block : ℕ → ℕ) (order : ℕ → List ℕ) (l : List ℕ) (b c : ℕ) → IsLeastChanged block order l b → IsLeastChanged block order l c → b ≡ c
changed-one block order l b c p q = elim (cases_order b c) [
  | inl e ↦ e
  | inr (inl less) ↦ absurd (apart b c less p q)
  | inr (inr more) ↦ absurd (apart c b more q p)
]
  where
    apart : (b c : ℕ) → b < c → IsLeastChanged block order l b → IsLeastChanged block order l c → ⊥
    apart b c less p q = true≢false (sym (subst (λ (z : ℕ). keeps block order z l ≡ true) p.of_edge (q.least p.edge p.met (omega (arith, less, p.of_edge)))) ∙ p.changed)

-- and one least pair of blocks that cross
pub crossing-one : (block : ℕ → ℕ) (l : List ℕ) (b c d e : ℕ) → IsLeastCrossing block l b c → IsLeastCrossing block l d e → (b ≡ d) × (c ≡ e)
crossing-one block l b c d e p q = both (p.least d e q.crosses) (q.least b c p.crosses)
  where
    both : (b < d) ⊎ ((b ≡ d) × (c ≤ e)) → (d < b) ⊎ ((d ≡ b) × (e ≤ c)) → (b ≡ d) × (c ≡ e)
    both (inl x) (inl y) = absurd (omega (arith, x, y))
    both (inl x) (inr y) = absurd (omega (arith, x, y.0))
    both (inr x) (inl y) = absurd (omega (arith, x.0, y))
    both (inr x) (inr y) = (x.0, omega (arith, x.1, y.1))

module _ (setting : Setting) (v : ℕ) (edges : List ℕ) (s : State) where
  abbrev k : Component
  k = component_at setting (component_number setting v)

  abbrev block : ℕ → BlockInPlane
  block = blocks_of setting s.present

  abbrev planar : Bool
  planar = is_planar_component setting (component_number setting v)

  -- which codes may apply, and why
  abbrev pub RegroupReason : Code → Type 0
  RegroupReason code =
      ((v < setting.named.graph.vertex_count) × (is_planar_component setting (component_number setting v) ≡ false) × (code ≡ NonPlanar))
      ⊎ ((v < setting.named.graph.vertex_count) × (IsPermutation (incident_edges setting.named.graph v) edges → ⊥) × (code ≡ BadRotation v))
      ⊎ ((is_member v setting.structure.cut_vertices ≡ false) × (code ≡ NoCut))
      ⊎ ((b : ℕ) × OrdersEdges setting v edges × IsLeastChanged (block_with (component_at setting (component_number setting v))) (block_order (blocks_of setting s.present) v) (from_least edges) b × (code ≡ BlockOrder b))
      ⊎ ((b : ℕ) × (c : ℕ) × OrdersEdges setting v edges × IsLeastCrossing (block_with (component_at setting (component_number setting v))) (from_least edges) b c × (code ≡ Cross b c))

  pub regroup-reason : (code : Code) → RegroupApplies setting v edges s code → RegroupReason code
  regroup-reason NoBlock a = absurd a
  regroup-reason NoNode a = absurd a
  regroup-reason WrongKind a = absurd a
  regroup-reason BadOrder a = absurd a
  regroup-reason NonPlanar a = inl (a.0, a.1, refl)
  regroup-reason (BadRotation w) a = inr (inl (a.0, a.2, ap (λ (z : ℕ). BadRotation z) a.1))
  regroup-reason (NotGenusZero x e f) a = absurd a
  regroup-reason NothingToUndo a = absurd a
  regroup-reason NothingToRedo a = absurd a
  regroup-reason CountOver a = absurd a
  regroup-reason (RankOut n) a = absurd a
  regroup-reason (Locked x) a = absurd a
  regroup-reason (LockedIn b x) a = absurd a
  regroup-reason (Parallel x y) a = absurd a
  regroup-reason NoComponent a = absurd a
  regroup-reason NoCut a = inr (inr (inl (a, refl)))
  regroup-reason (BlockOrder b) a = inr (inr (inr (inl (b, a.0, a.1, refl))))
  regroup-reason (Cross b c) a = inr (inr (inr (inr (b, c, a.0, a.2, refl))))

  -- ---- codes of one number are one

  -- a reason for a code of this number
  only-five : (code : Code) → RegroupReason code → code_number code ≡ 5 → code ≡ NonPlanar
  only-five code (inl r) e = r.2
  only-five code (inr (inl r)) e = absurd (omega (arith, e, ap code_number r.2))
  only-five code (inr (inr (inl r))) e = absurd (omega (arith, e, ap code_number r.1))
  only-five code (inr (inr (inr (inl r)))) e = absurd (omega (arith, e, ap code_number r.3))
  only-five code (inr (inr (inr (inr r)))) e = absurd (omega (arith, e, ap code_number r.4))

  only-six : (code : Code) → RegroupReason code → code_number code ≡ 6 → code ≡ BadRotation v
  only-six code (inl r) e = absurd (omega (arith, e, ap code_number r.2))
  only-six code (inr (inl r)) e = r.2
  only-six code (inr (inr (inl r))) e = absurd (omega (arith, e, ap code_number r.1))
  only-six code (inr (inr (inr (inl r)))) e = absurd (omega (arith, e, ap code_number r.3))
  only-six code (inr (inr (inr (inr r)))) e = absurd (omega (arith, e, ap code_number r.4))

  only-fifteen : (code : Code) → RegroupReason code → code_number code ≡ 15 → code ≡ NoCut
  only-fifteen code (inl r) e = absurd (omega (arith, e, ap code_number r.2))
  only-fifteen code (inr (inl r)) e = absurd (omega (arith, e, ap code_number r.2))
  only-fifteen code (inr (inr (inl r))) e = r.1
  only-fifteen code (inr (inr (inr (inl r)))) e = absurd (omega (arith, e, ap code_number r.3))
  only-fifteen code (inr (inr (inr (inr r)))) e = absurd (omega (arith, e, ap code_number r.4))

  only-sixteen : (b : ℕ) → IsLeastChanged (block_with k) (block_order block v) (from_least edges) b → (code : Code) → RegroupReason code → code_number code ≡ 16 → code ≡ BlockOrder b
  only-sixteen b h code (inl r) e = absurd (omega (arith, e, ap code_number r.2))
  only-sixteen b h code (inr (inl r)) e = absurd (omega (arith, e, ap code_number r.2))
  only-sixteen b h code (inr (inr (inl r))) e = absurd (omega (arith, e, ap code_number r.1))
  only-sixteen b h code (inr (inr (inr (inl r)))) e = r.3 ∙ ap (λ (z : ℕ). BlockOrder z) (changed-one (block_with k) (block_order block v) (from_least edges) r.0 b r.2 h)
  only-sixteen b h code (inr (inr (inr (inr r)))) e = absurd (omega (arith, e, ap code_number r.4))

  only-seventeen : (b c : ℕ) → IsLeastCrossing (block_with k) (from_least edges) b c → (code : Code) → RegroupReason code → code_number code ≡ 17 → code ≡ Cross b c
  only-seventeen b c h code (inl r) e = absurd (omega (arith, e, ap code_number r.2))
  only-seventeen b c h code (inr (inl r)) e = absurd (omega (arith, e, ap code_number r.2))
  only-seventeen b c h code (inr (inr (inl r))) e = absurd (omega (arith, e, ap code_number r.1))
  only-seventeen b c h code (inr (inr (inr (inl r)))) e = absurd (omega (arith, e, ap code_number r.3))
  only-seventeen b c h code (inr (inr (inr (inr r)))) e = (let q = crossing-one (block_with k) (from_least edges) r.0 r.1 b c r.3 h in r.4 ∙ λ i. Cross (q.0 i) (q.1 i))

  same-code : (x y : Code) → RegroupReason x → RegroupReason y → code_number x ≡ code_number y → y ≡ x
  same-code x y (inl r) q e = only-five y q (sym e ∙ ap code_number r.2) ∙ sym r.2
  same-code x y (inr (inl r)) q e = only-six y q (sym e ∙ ap code_number r.2) ∙ sym r.2
  same-code x y (inr (inr (inl r))) q e = only-fifteen y q (sym e ∙ ap code_number r.1) ∙ sym r.1
  same-code x y (inr (inr (inr (inl r)))) q e = only-sixteen r.0 r.2 y q (sym e ∙ ap code_number r.3) ∙ sym r.3
  same-code x y (inr (inr (inr (inr r)))) q e = only-seventeen r.0 r.1 r.3 y q (sym e ∙ ap code_number r.4) ∙ sym r.4

  pub regroup-tells : TellsOne (RegroupApplies setting v edges s)
  regroup-tells x y p q e = ap code_numbers (sym (same-code x y (regroup-reason x p) (regroup-reason y q) e))

  -- ---- the lowest code

  least-five : (code : Code) → RegroupReason code → 5 ≤ code_number code
  least-five code (inl r) = omega (arith, ap code_number r.2)
  least-five code (inr (inl r)) = omega (arith, ap code_number r.2)
  least-five code (inr (inr (inl r))) = omega (arith, ap code_number r.1)
  least-five code (inr (inr (inr (inl r)))) = omega (arith, ap code_number r.3)
  least-five code (inr (inr (inr (inr r)))) = omega (arith, ap code_number r.4)

  pub lowest-not_planar : v < setting.named.graph.vertex_count → is_planar_component setting (component_number setting v) ≡ false → IsLowest (RegroupApplies setting v edges s) NonPlanar
  lowest-not_planar l f = record { met = (l, f); least = λ code a. least-five code (regroup-reason code a) }

  module _ (there : v < setting.named.graph.vertex_count → is_planar_component setting (component_number setting v) ≡ true) where
    least-six : (code : Code) → RegroupReason code → 6 ≤ code_number code
    least-six code (inl r) = absurd (true≢false (sym (there r.0) ∙ r.1))
    least-six code (inr (inl r)) = omega (arith, ap code_number r.2)
    least-six code (inr (inr (inl r))) = omega (arith, ap code_number r.1)
    least-six code (inr (inr (inr (inl r)))) = omega (arith, ap code_number r.3)
    least-six code (inr (inr (inr (inr r)))) = omega (arith, ap code_number r.4)

    pub lowest-no_order : v < setting.named.graph.vertex_count → (IsPermutation (incident_edges setting.named.graph v) edges → ⊥) → IsLowest (RegroupApplies setting v edges s) (BadRotation v)
    lowest-no_order l n = record { met = (l, refl, n); least = λ code a. least-six code (regroup-reason code a) }

    module _ (order : v < setting.named.graph.vertex_count → IsPermutation (incident_edges setting.named.graph v) edges) where
      least-fifteen : (code : Code) → RegroupReason code → 15 ≤ code_number code
      least-fifteen code (inl r) = absurd (true≢false (sym (there r.0) ∙ r.1))
      least-fifteen code (inr (inl r)) = absurd (r.1 (order r.0))
      least-fifteen code (inr (inr (inl r))) = omega (arith, ap code_number r.1)
      least-fifteen code (inr (inr (inr (inl r)))) = omega (arith, ap code_number r.3)
      least-fifteen code (inr (inr (inr (inr r)))) = omega (arith, ap code_number r.4)

      pub lowest-no_cut : is_member v setting.structure.cut_vertices ≡ false → IsLowest (RegroupApplies setting v edges s) NoCut
      lowest-no_cut f = record { met = f; least = λ code a. least-fifteen code (regroup-reason code a) }

  -- of an ordering of the edges at a cut vertex
  module _ (h : OrdersEdges setting v edges) where
    least-sixteen : (code : Code) → RegroupReason code → 16 ≤ code_number code
    least-sixteen code (inl r) = absurd (true≢false (sym h.planar ∙ r.1))
    least-sixteen code (inr (inl r)) = absurd (r.1 h.ordering)
    least-sixteen code (inr (inr (inl r))) = absurd (true≢false (sym h.cut ∙ r.0))
    least-sixteen code (inr (inr (inr (inl r)))) = omega (arith, ap code_number r.3)
    least-sixteen code (inr (inr (inr (inr r)))) = omega (arith, ap code_number r.4)

    pub lowest-changed : (b : ℕ) → IsLeastChanged (block_with (component_at setting (component_number setting v))) (block_order (blocks_of setting s.present) v) (from_least edges) b → IsLowest (RegroupApplies setting v edges s) (BlockOrder b)
    lowest-changed b c = record { met = (h, c); least = λ code a. least-sixteen code (regroup-reason code a) }

    -- that changes no block
    module _ (kept : KeepsOrders (component_at setting (component_number setting v)) setting s.present v edges) where
      not-changed : (b : ℕ) → IsLeastChanged (block_with k) (block_order block v) (from_least edges) b → ⊥
      not-changed b c = true≢false (sym (kept c.edge (sym (from_least-member edges c.edge) ∙ c.met)) ∙ ap (λ (z : ℕ). keeps (block_with k) (block_order block v) z (from_least edges)) c.of_edge ∙ c.changed)

      least-seventeen : (code : Code) → RegroupReason code → 17 ≤ code_number code
      least-seventeen code (inl r) = absurd (true≢false (sym h.planar ∙ r.1))
      least-seventeen code (inr (inl r)) = absurd (r.1 h.ordering)
      least-seventeen code (inr (inr (inl r))) = absurd (true≢false (sym h.cut ∙ r.0))
      least-seventeen code (inr (inr (inr (inl r)))) = absurd (not-changed r.0 r.2)
      least-seventeen code (inr (inr (inr (inr r)))) = omega (arith, ap code_number r.4)

      pub lowest-crossing : (b c : ℕ) → IsLeastCrossing (block_with (component_at setting (component_number setting v))) (from_least edges) b c → IsLowest (RegroupApplies setting v edges s) (Cross b c)
      lowest-crossing b c x = record { met = (h, kept, x); least = λ code a. least-seventeen code (regroup-reason code a) }

      none-refused : ((b c : ℕ) → cross (block_with k) b c (from_least edges) ≡ false) → (code : Code) → RegroupReason code → ⊥
      none-refused apart code (inl r) = true≢false (sym h.planar ∙ r.1)
      none-refused apart code (inr (inl r)) = r.1 h.ordering
      none-refused apart code (inr (inr (inl r))) = true≢false (sym h.cut ∙ r.0)
      none-refused apart code (inr (inr (inr (inl r)))) = not-changed r.0 r.2
      none-refused apart code (inr (inr (inr (inr r)))) = (let c = r.3 in true≢false (sym c.crosses ∙ apart r.0 r.1))

  -- ---- on a setting

  module _ (is : IsSetting setting) (right : AreEntries setting s.present.entries) where
    -- with its blocks the component is in the plane
    pub regroup-in_plane : v < setting.named.graph.vertex_count → is_planar_component setting (component_number setting v) ≡ true → IsComponentInPlane (component_at setting (component_number setting v)) (blocks_of setting s.present)
    regroup-in_plane l t = component-in_plane setting is s.present.entries right (component_number setting v) t (component-below setting is v l)

    module _ (h : OrdersEdges setting v edges) where
      inside : v < setting.named.graph.vertex_count
      inside = is.structure.cut_vertices.vertices v h.cut

      in-plane : IsComponentInPlane k block
      in-plane = regroup-in_plane inside h.planar

      among : is_member v k.cuts ≡ true
      among = cut-there setting is v h.cut

      -- an ordering of the edges of the component at v
      pub orders-around : IsPermutation (edges_around (component_at setting (component_number setting v)) v) edges
      orders-around = subst (λ (l : List ℕ). IsPermutation l edges) (sym (around-cut setting is v h.cut)) h.ordering

      -- an arrangement is not refused
      pub arranged-none : Contains (arrangements_around (component_at setting (component_number setting v)) (blocks_of setting s.present) v) (from_least edges) → NoneApplies (RegroupApplies setting v edges s)
      arranged-none c code a =
          let w = assembled k block in-plane in
          let x : IsArrangement (block_with k) (block_order block v) (edges_around k v) (from_least edges) =
          ((arrangements_are_listed (block_with k) (block_order block v) (edges_around k v) (w.orders v (w.cuts_in v among))).exactly (from_least edges)).0 c in
          none-refused h (λ e m. x.kept e (from_least-member edges e ∙ m)) x.apart code (regroup-reason code a)

      -- an ordering is refused, or it is an arrangement
      pub ordered-found : ((code : Code) × IsLowest (RegroupApplies setting v edges s) code) ⊎ Contains (arrangements_around (component_at setting (component_number setting v)) (blocks_of setting s.present) v) (from_least edges)
      ordered-found = elim (kept-or_changed (block_with k) (block_order block v) (from_least edges)) [
        | inr c ↦ inl (BlockOrder c.0, lowest-changed h c.0 c.1)
        | inl kept ↦ elim (apart-or_crossing (block_with k) (from_least edges)) [
          | inr x ↦ inl (Cross x.0 x.1, lowest-crossing h (λ e m. kept e (from_least-member edges e ∙ m)) x.0 x.1 x.2)
          | inl apart ↦ inr (
              let w = assembled k block in-plane in
              let round = around-order k v edges (around-rises setting is (component_number setting v) v (w.cuts_in v among)) orders-around in
              ((arrangements_are_listed (block_with k) (block_order block v) (edges_around k v) (w.orders v (w.cuts_in v among))).exactly (from_least edges)).1
              (record { all = round.arranged; least_first = round.least_first; kept = kept; apart = apart })
              )
        ]
      ]

    -- a list is refused, or it is an ordering and an arrangement
    abbrev pub RegroupFound : Type 0
    RegroupFound = ((code : Code) × IsLowest (RegroupApplies setting v edges s) code)
        ⊎ (OrdersEdges setting v edges × Contains (arrangements_around (component_at setting (component_number setting v)) (blocks_of setting s.present) v) (from_least edges))

    pub regroup-found : RegroupFound
    regroup-found = elim (cases_lt v setting.named.graph.vertex_count) [
      | inr out ↦ inl (
        NoCut,
        lowest-no_cut (λ l. absurd (omega (arith, l, out))) (λ l. absurd (omega (arith, l, out)))
            (elim (cases_Bool (is_member v setting.structure.cut_vertices)) [ inl m ↦ absurd (omega (arith, out, is.structure.cut_vertices.vertices v m)) | inr n ↦ n ]),
      )
      | inl l ↦ elim (cases_Bool planar) [
        | inr f ↦ inl (NonPlanar, lowest-not_planar l f)
        | inl t ↦ elim (cases_Bool (is_arrangement (incident_edges setting.named.graph v) edges)) [
          | inr bad ↦ inl (BadRotation v, lowest-no_order (λ w. t) l (λ p. true≢false (sym (arranged-passes (incident_edges setting.named.graph v) edges (incident-distinct setting.named.graph v) p) ∙ bad)))
          | inl good ↦ ordered t (passes-arranged (incident_edges setting.named.graph v) edges good)
        ]
      ]
    ]
      where
        ordered : is_planar_component setting (component_number setting v) ≡ true → IsPermutation (incident_edges setting.named.graph v) edges → RegroupFound
        ordered t p = elim (cases_Bool (is_member v setting.structure.cut_vertices)) [
          | inr n ↦ inl (NoCut, lowest-no_cut (λ w. t) (λ w. p) n)
          | inl m ↦ (let h : OrdersEdges setting v edges = record { cut = m; planar = t; ordering = p } in elim (ordered-found h) [ inl x ↦ inl x | inr c ↦ inr (h, c) ])
        ]
