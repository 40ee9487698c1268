-- One side of a 2-separation of the current family made a finished component.
use Rattle.std.proofs.Common.{◌≡◌, ◌≢◌, ℕ, ◌+◌, ◌<◌, ◌≤◌, ◌⊎◌, ◌&&◌, ◌↔◌, nat_lt, inl, inr, Bool, true, false, not, cond, List, [], ◌∷◌, length, filter, refl, sym, ap, ap₂, ◌∙◌, subst, arith, Contains}
use Rattle.std.proofs.lemmas.Bool.{cases_Bool, cases_eq, cases_lt, both_ways, not-true, not_from_false, lt-ltb, le-ltb, false_from_ne_true}
use Rattle.std.proofs.lemmas.List.{length-append, get_or_append_left}
use Rattle.std.proofs.lemmas.List.Elements.{All-cons, All-tail, All-contains}
use Rattle.std.proofs.Math.Seq.{get_or-append_seam}
use Rattle.permutations.specs.Members.{is_member}
use Rattle.permutations.proofs.Members.{distinct-head, distinct-tail, distinct-cons}
use Rattle.permutations.proofs.Filter.{filter-yes, filter-no}
use Rattle.multigraph.specs.Graph.{Multigraph, edge_count}
use Rattle.graph_theory.specs.Side.{IsCommon}
use Rattle.pair_split.specs.Family.{Entry, has_end, names, on_side, off_side, is_common, IsFamily, IsSeparation}
use Rattle.pair_split.specs.Skeleton.{IsSkeleton}
use Rattle.pair_split.specs.Edges.{graph_entry, family_skeleton}
use Rattle.pair_split.specs.State.{Part, SplitState, part_at, own_at, part_family, layer, split_off, IsBeyond, IsPlaced, IsSplitState}
use Rattle.pair_split.specs.declared.components.Kind.{Kind}
use Rattle.pair_split.specs.declared.components.Kind.TheVariants.{B}
use Rattle.pair_split.proofs.Elements.{contains-here, contains-later, contains-cases, contains-filter, filter-contains}
use Rattle.pair_split.proofs.Names.{name-member, member-name}
use Rattle.pair_split.proofs.Replaced.{end-cases, first-end, second-end}
use Rattle.pair_split.proofs.GraphSides.{common-same}
use Rattle.pair_split.proofs.Layers.{no_part, layer-part, layer-current, layer-in, layer-cases, layer-past, current-layer}
use Rattle.pair_split.proofs.Places.{constant-place, edge-placed, common-current, current-common}
use Rattle.pair_split.proofs.Start.{empty-family}

-- an entry is no loop
abbrev NoLoop : Entry → Type 0
NoLoop entry = entry.first ≢ entry.second

-- an entry with a name of its own in front of a family makes a family
pub family-cons : (x : Entry) (entries : List Entry) → x.first ≢ x.second → is_member x.name (names entries) ≡ false → IsFamily entries → IsFamily (x ∷ entries)
family-cons x entries n m f = record {
  names_once = distinct-cons x.name (names entries) m f.names_once;
  no_loops = All-cons NoLoop x entries n f.no_loops;
}

-- what is kept of a family is a family
pub kept-family : (p : Entry → Bool) (entries : List Entry) → IsFamily entries → IsFamily (filter p entries)
kept-family p [] f = f
kept-family p (x ∷ entries) f =
    let rest : IsFamily (filter p entries) = kept-family p entries (record { names_once = distinct-tail x.name (names entries) f.names_once; no_loops = All-tail NoLoop x entries f.no_loops }) in
    elim (cases_Bool (p x)) [
      | inl t ↦ subst IsFamily (sym (filter-yes p x entries t))
          (family-cons x (filter p entries) (All-contains NoLoop (x ∷ entries) x f.no_loops (contains-here x entries))
          (false_from_ne_true (is_member x.name (names (filter p entries))) (λ m.
          let w = member-name (filter p entries) x.name m in
          let c = filter-contains p w.0 entries w.1 in
          both_ways (is_member x.name (names entries)) (distinct-head x.name (names entries) f.names_once) (subst (λ n. is_member n (names entries) ≡ true) w.2 (name-member entries w.0 c.0)))) rest)
      | inr n ↦ subst IsFamily (sym (filter-no p x entries n)) rest
    ]

module _ (g : Multigraph) (state : SplitState) (s : IsSplitState g state) (cut : ℕ → Bool) (kind : Kind) (v : Entry) (named : v.name ≡ edge_count g + length state.parts)
    (c : IsSeparation state.current cut v.first v.second) (of_kind : IsSkeleton kind (family_skeleton (v ∷ on_side cut state.current))) (large : kind ≢ B) where
  -- the number of components finished before
  abbrev r : ℕ
  r = length state.parts

  -- the state afterwards
  abbrev new : SplitState
  new = split_off state cut kind v

  -- the component that is new
  abbrev fresh : Part
  fresh = record { kind = kind; own = v; entries = on_side cut state.current }

  more : length new.parts ≡ r + 1
  more = length-append state.parts (fresh ∷ [])

  -- the components finished before stay
  part-old : (k : ℕ) → k < r → part_at new k ≡ part_at state k
  part-old k l = get_or_append_left state.parts (fresh ∷ []) no_part k l

  part-new : part_at new r ≡ fresh
  part-new = get_or-append_seam state.parts fresh [] no_part

  -- their layers stay
  layer-old : (k : ℕ) → k < r → layer new k ≡ layer state k
  layer-old k l = layer-part new k (omega (arith, l, more)) ∙ ap (λ (part : Part). part.entries) (part-old k l) ∙ sym (layer-part state k l)

  -- the layer of the new component is the side that was cut off
  layer-side : layer new r ≡ on_side cut state.current
  layer-side = layer-part new r (omega (arith, more)) ∙ ap (λ (part : Part). part.entries) part-new

  -- the last layer is the rest
  layer-rest : layer new (r + 1) ≡ v ∷ off_side cut state.current
  layer-rest = ap (layer new) (sym more) ∙ layer-current new

  -- names in use are smaller than the new one
  old-name : (k : ℕ) (x : Entry) → Contains (layer state k) x → x.name < edge_count g + r
  old-name k x w = elim (s.nothing_else k x w) [
    | inl h ↦ omega (arith, h.1, ap (λ (z : Entry). z.name) h.2)
    | inr h ↦ omega (arith, h.1, ap (λ (z : Entry). z.name) h.2, s.own_names h.0 h.1)
  ]

  -- where a name that was in layer k is now
  abbrev index : ℕ → ℕ → ℕ
  index k name = cond (nat_lt k r) k (cond (cut name) r (r + 1))

  index-old : (k name : ℕ) → k < r → index k name ≡ k
  index-old k name l = rw (lt-ltb k r l) refl

  index-side : (k name : ℕ) → k ≡ r → cut name ≡ true → index k name ≡ r
  index-side k name e t = rw (le-ltb k r (omega (arith, e)), t) refl

  index-rest : (k name : ℕ) → k ≡ r → cut name ≡ false → index k name ≡ r + 1
  index-rest k name e t = rw (le-ltb k r (omega (arith, e)), t) refl

  -- each entry of a layer is in a layer now
  moved : (k : ℕ) (x : Entry) → Contains (layer state k) x → Contains (layer new (index k x.name)) x
  moved k x w = elim (layer-cases state k x w) [
    | inl l ↦ subst (λ (z : List Entry). Contains z x) (sym (ap (layer new) (index-old k x.name l) ∙ layer-old k l)) w
    | inr e ↦ elim (cases_Bool (cut x.name)) [
      | inl t ↦ subst (λ (z : List Entry). Contains z x) (sym (ap (layer new) (index-side k x.name e.0 t) ∙ layer-side)) (contains-filter (λ z. cut z.name) x state.current e.1 t)
      | inr t ↦ subst (λ (z : List Entry). Contains z x) (sym (ap (layer new) (index-rest k x.name e.0 t) ∙ layer-rest))
          (contains-later x v (off_side cut state.current) (contains-filter (λ z. not (cut z.name)) x state.current e.1 (not_from_false (cut x.name) t)))
    ]
  ]

  new-in : Contains (layer new (r + 1)) v
  new-in = subst (λ (z : List Entry). Contains z v) (sym layer-rest) (contains-here v (off_side cut state.current))

  -- what is in a layer now: an entry that was in one, or the new virtual edge
  moved-cases : (k : ℕ) (x : Entry) → Contains (layer new k) x → ((j : ℕ) × Contains (layer state j) x × (k ≡ index j x.name)) ⊎ ((k ≡ r + 1) × (x ≡ v))
  moved-cases k x w = elim (cases_lt k r) [
    | inl l ↦ inl (k, subst (λ (z : List Entry). Contains z x) (layer-old k l) w, sym (index-old k x.name l))
    | inr l ↦ elim (cases_eq k r) [
      | inl e ↦ let f = filter-contains (λ z. cut z.name) x state.current (subst (λ (z : List Entry). Contains z x) (ap (layer new) e ∙ layer-side) w) in
          inl (r, current-layer state x f.0, e ∙ sym (index-side r x.name refl f.1))
      | inr n ↦ let e : k ≡ r + 1 = omega (arith, l, n, layer-in new k x w, more) in elim (contains-cases x v (off_side cut state.current) (subst (λ (z : List Entry). Contains z x) (ap (layer new) e ∙ layer-rest) w)) [
        | inl q ↦ inr (e, sym q)
        | inr q ↦ let f = filter-contains (λ z. not (cut z.name)) x state.current q in
            inl (r, current-layer state x f.0, e ∙ sym (index-rest r x.name refl (not-true (cut x.name) f.1)))
      ]
    ]
  ]

  -- an entry of the current family now: the new virtual edge, or one that was off the side
  rest-cases : (x : Entry) → Contains new.current x → (x ≡ v) ⊎ (Contains state.current x × (cut x.name ≡ false))
  rest-cases x w = elim (contains-cases x v (off_side cut state.current) w) [
    | inl q ↦ inl (sym q)
    | inr q ↦ let f = filter-contains (λ z. not (cut z.name)) x state.current q in inr (f.0, not-true (cut x.name) f.1)
  ]

  families : (k : ℕ) → IsFamily (layer new k)
  families k = elim (cases_lt k r) [
    | inl l ↦ subst IsFamily (sym (layer-old k l)) (s.families k)
    | inr l ↦ elim (cases_eq k r) [
      | inl e ↦ subst IsFamily (sym (ap (layer new) e ∙ layer-side)) (kept-family (λ z. cut z.name) state.current current-family)
      | inr n ↦ elim (cases_eq k (r + 1)) [
        | inl e ↦ subst IsFamily (sym (ap (layer new) e ∙ layer-rest)) (family-cons v (off_side cut state.current) c.differ
            (false_from_ne_true (is_member v.name (names (off_side cut state.current))) (λ m.
            let w = member-name (off_side cut state.current) v.name m in
            let f = filter-contains (λ z. not (cut z.name)) w.0 state.current w.1 in
            omega (arith, w.2, named, old-name r w.0 (current-layer state w.0 f.0))))
            (kept-family (λ z. not (cut z.name)) state.current current-family))
        | inr d ↦ subst IsFamily (sym (layer-past new k (omega (arith, l, n, d, more)))) empty-family
      ]
    ]
  ]
    where
      current-family : IsFamily state.current
      current-family = subst IsFamily (layer-current state) (s.families r)

  -- what holds of the components finished before and of the new one holds of all
  each : (P : Part → ℕ → Type 0) → ((k : ℕ) → k < r → P (part_at state k) k) → P fresh r → (k : ℕ) → k < length new.parts → P (part_at new k) k
  each P old here k l = elim (cases_lt k r) [
    | inl b ↦ subst (λ (z : Part). P z k) (sym (part-old k b)) (old k b)
    | inr b ↦ let e : r ≡ k = omega (arith, b, l, more) in subst (λ z. P (part_at new z) z) e (subst (λ (z : Part). P z r) (sym part-new) here)
  ]

  -- the place of a name now, from what it was
  abbrev onward : ℕ → ℕ
  onward n = cond (cut n && nat_lt n (edge_count g + r)) (edge_count g + r) n

  onward-side : (n : ℕ) → cut n ≡ true → n < edge_count g + r → onward n ≡ edge_count g + r
  onward-side n t l = rw (t, lt-ltb n (edge_count g + r) l) refl

  onward-rest : (n : ℕ) → cut n ≡ false → onward n ≡ n
  onward-rest n t = rw t refl

  onward-unused : (n : ℕ) → edge_count g + r ≤ n → onward n ≡ n
  onward-unused n l = elim (cases_Bool (cut n)) [ inl t ↦ rw (t, le-ltb n (edge_count g + r) l) refl | inr t ↦ onward-rest n t ]

  placed-finished : (k : ℕ) (x : Entry) → k < length new.parts → Contains (layer new k) x → onward (s.place x.name) ≡ onward (s.place (edge_count g + k))
  placed-finished k x l w = elim (moved-cases k x w) [
    | inr h ↦ absurd (omega (arith, l, h.0, more))
    | inl h ↦ elim (layer-cases state h.0 x h.1) [
      | inl b ↦ ap onward (s.placed.finished h.0 x b h.1 ∙ ap (λ z. s.place (edge_count g + z)) (sym (h.2 ∙ index-old h.0 x.name b)))
      | inr b ↦ elim (cases_Bool (cut x.name)) [
        | inr t ↦ absurd (omega (arith, l, more, h.2, index-rest h.0 x.name b.0 t))
        | inl t ↦ ap onward (s.placed.current x b.1) ∙ onward-side x.name t (old-name h.0 x h.1)
            ∙ sym (ap (λ z. onward (s.place (edge_count g + z))) (h.2 ∙ index-side h.0 x.name b.0 t) ∙ place-new)
      ]
    ]
  ]
    where
      place-new : onward (s.place (edge_count g + r)) ≡ edge_count g + r
      place-new = ap onward (s.placed.unused r (omega arith)) ∙ onward-unused (edge_count g + r) (omega arith)

  placed-current : (x : Entry) → Contains new.current x → onward (s.place x.name) ≡ x.name
  placed-current x w = elim (rest-cases x w) [
    | inl e ↦ ap (λ (z : Entry). onward (s.place z.name)) e ∙ ap (λ n. onward (s.place n)) named
        ∙ ap onward (s.placed.unused r (omega arith)) ∙ onward-unused (edge_count g + r) (omega arith) ∙ sym named ∙ ap (λ (z : Entry). z.name) (sym e)
    | inr h ↦ ap onward (s.placed.current x h.0) ∙ onward-rest x.name h.1
  ]

  -- where each name lies now
  placed : IsPlaced (edge_count g) new (λ n. onward (s.place n))
  placed = record {
    finished = placed-finished;
    current = placed-current;
    unused = λ j l. ap onward (s.placed.unused j (omega (arith, l, more))) ∙ onward-unused (edge_count g + j) (omega (arith, l, more));
  }

  -- a name of a layer is not the new one
  not-new : (k : ℕ) (x : Entry) → Contains (layer state k) x → x.name ≢ edge_count g + r
  not-new k x w e = omega (arith, e, old-name k x w)

  -- what is beyond the virtual edge of a component finished before
  beyond-old : (d : ℕ) (t : ℕ → Bool) → d < r → IsBeyond (edge_count g) new d t → IsBeyond (edge_count g) state d t
  beyond-old d t l b = record { own = b.own; last = off; layer_by_layer = step }
    where
      off-rest : t (edge_count g + (r + 1)) ≡ false
      off-rest = ap (λ n. t (edge_count g + n)) (sym more) ∙ b.last

      off : t (edge_count g + r) ≡ false
      off = ap t (sym named) ∙ b.layer_by_layer (r + 1) v new-in (λ e. omega (arith, e, named, l)) ∙ off-rest

      step : (k : ℕ) (x : Entry) → Contains (layer state k) x → x.name ≢ edge_count g + d → t x.name ≡ t (edge_count g + k)
      step k x w n =
          let here : t x.name ≡ t (edge_count g + index k x.name) = b.layer_by_layer (index k x.name) x (moved k x w) n in
          elim (layer-cases state k x w) [
            | inl i ↦ here ∙ ap (λ z. t (edge_count g + z)) (index-old k x.name i)
            | inr i ↦ elim (cases_Bool (cut x.name)) [
              | inl y ↦ here ∙ ap (λ z. t (edge_count g + z)) (index-side k x.name i.0 y ∙ sym i.0)
              | inr y ↦ here ∙ ap (λ z. t (edge_count g + z)) (index-rest k x.name i.0 y) ∙ off-rest ∙ sym off ∙ ap (λ z. t (edge_count g + z)) (sym i.0)
            ]
          ]

  -- what is beyond the virtual edge of the new component is what lies on the side that was cut off
  beyond-new : (t : ℕ → Bool) → IsBeyond (edge_count g) new r t → (e : ℕ) → e < edge_count g → t e ≡ cut (s.place e)
  beyond-new t b e l =
      let w = s.edges_listed e l in
      let p = edge-placed g state s e l in
      constant-place g state s t below w.0 (graph_entry g e) w.1 ∙ ap t p.there ∙ at-top p.top p.within ∙ ap cut (sym p.there)
    where
      below : (k : ℕ) (x : Entry) → k < r → Contains (layer state k) x → t x.name ≡ t (edge_count g + k)
      below k x i w = b.layer_by_layer (index k x.name) x (moved k x w) (not-new k x w) ∙ ap (λ z. t (edge_count g + z)) (index-old k x.name i)

      at-top : (x : Entry) → Contains state.current x → t x.name ≡ cut x.name
      at-top x i =
          let w : Contains (layer state r) x = current-layer state x i in
          let here : t x.name ≡ t (edge_count g + index r x.name) = b.layer_by_layer (index r x.name) x (moved r x w) (not-new r x w) in
          elim (cases_Bool (cut x.name)) [
            | inl y ↦ here ∙ ap (λ z. t (edge_count g + z)) (index-side r x.name refl y) ∙ b.own ∙ sym y
            | inr y ↦ here ∙ ap (λ z. t (edge_count g + z)) (index-rest r x.name refl y ∙ sym more) ∙ b.last ∙ sym y
          ]

  -- the ends of the new virtual edge are what the side that was cut off and the rest have in common
  ends-common : (x : ℕ) → (is_common state.current cut x ≡ true) ↔ (has_end x v ≡ true)
  ends-common x = (
    λ h. elim (c.no_other x h) [ inl e ↦ first-end x v e | inr e ↦ second-end x v e ],
    λ h. elim (end-cases x v h) [
      | inl e ↦ subst (λ z. is_common state.current cut z ≡ true) (sym e) c.first_common
      | inr e ↦ subst (λ z. is_common state.current cut z ≡ true) (sym e) c.second_common
    ],
  )

  parted-new : (t : ℕ → Bool) → IsBeyond (edge_count g) new r t → (x : ℕ) → IsCommon g t x ↔ (has_end x v ≡ true)
  parted-new t b x = (
    λ h. (ends-common x).0 (common-current g state s cut x (common-same g t (λ n. cut (s.place n)) (beyond-new t b) x h)),
    λ h. common-same g (λ n. cut (s.place n)) t (λ e l. sym (beyond-new t b e l)) x (current-common g state s cut x ((ends-common x).1 h)),
  )

  parted : (d : ℕ) → d < length new.parts → (t : ℕ → Bool) → IsBeyond (edge_count g) new d t → (x : ℕ) → IsCommon g t x ↔ (has_end x (own_at new d) ≡ true)
  parted d l = each (λ part k. (t : ℕ → Bool) → IsBeyond (edge_count g) new k t → (x : ℕ) → IsCommon g t x ↔ (has_end x part.own ≡ true))
      (λ k i t b x. s.parted k i t (beyond-old k t i b) x) parted-new d l

  -- the virtual edge of a component stands in a later one
  own-listed : (d : ℕ) → d < length new.parts → (k : ℕ) × (d < k) × Contains (layer new k) (own_at new d)
  own-listed = each (λ part d. (k : ℕ) × (d < k) × Contains (layer new k) part.own) old (r + 1, omega arith, new-in)
    where
      old : (d : ℕ) → d < r → (k : ℕ) × (d < k) × Contains (layer new k) (own_at state d)
      old d l =
          let w = s.own_listed d l in
          (index w.0 (own_at state d).name, later w.0 (own_at state d) w.1 w.2, moved w.0 (own_at state d) w.2)
        where
          later : (k : ℕ) (x : Entry) → d < k → Contains (layer state k) x → d < index k x.name
          later k x b i = elim (layer-cases state k x i) [
            | inl h ↦ omega (arith, b, index-old k x.name h)
            | inr h ↦ elim (cases_Bool (cut x.name)) [ inl y ↦ omega (arith, b, h.0, index-side k x.name h.0 y) | inr y ↦ omega (arith, b, h.0, index-rest k x.name h.0 y) ]
          ]

  nothing-else : (k : ℕ) (x : Entry) → Contains (layer new k) x → ((e : ℕ) × (e < edge_count g) × (x ≡ graph_entry g e)) ⊎ ((d : ℕ) × (d < length new.parts) × (x ≡ own_at new d))
  nothing-else k x w = elim (moved-cases k x w) [
    | inl h ↦ elim (s.nothing_else h.0 x h.1) [
      | inl a ↦ inl a
      | inr a ↦ inr (a.0, omega (arith, a.1, more), a.2 ∙ ap (λ (part : Part). part.own) (sym (part-old a.0 a.1)))
    ]
    | inr h ↦ inr (r, omega (arith, more), h.1 ∙ ap (λ (part : Part). part.own) (sym part-new))
  ]

  once : (k j : ℕ) (x y : Entry) → Contains (layer new k) x → Contains (layer new j) y → x.name ≡ y.name → k ≡ j
  once k j x y w u e = elim (moved-cases k x w) [
    | inl a ↦ elim (moved-cases j y u) [
      | inl b ↦ a.2 ∙ ap₂ index (s.once a.0 b.0 x y a.1 b.1 e) e ∙ sym b.2
      | inr b ↦ absurd (not-new a.0 x a.1 (e ∙ ap (λ (z : Entry). z.name) b.1 ∙ named))
    ]
    | inr a ↦ elim (moved-cases j y u) [
      | inl b ↦ absurd (not-new b.0 y b.1 (sym e ∙ ap (λ (z : Entry). z.name) a.1 ∙ named))
      | inr b ↦ a.0 ∙ sym b.0
    ]
  ]

  -- a side of a 2-separation that is of its kind with a virtual edge may be made a component
  pub state-split_off : IsSplitState g (split_off state cut kind v)
  state-split_off = record {
    families = families;
    own_names = each (λ part d. part.own.name ≡ edge_count g + d) s.own_names named;
    kinds = each (λ part d. IsSkeleton part.kind (family_skeleton (part_family part))) s.kinds of_kind;
    none_small = each (λ part d. part.kind ≢ B) s.none_small large;
    edges_listed = λ e l. let w = s.edges_listed e l in (index w.0 e, moved w.0 (graph_entry g e) w.1);
    own_listed = own-listed;
    nothing_else = nothing-else;
    once = once;
    place = λ n. onward (s.place n);
    placed = placed;
    parted = parted;
  }
