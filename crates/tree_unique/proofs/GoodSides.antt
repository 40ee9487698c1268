-- Each side of a good 2-separation of a block is the side of a link of its tree.
use Rattle.std.proofs.Common.{◌≡◌, ◌≢◌, ℕ, ◌<◌, ◌≤◌, ◌⊎◌, ◌==◌, ◌&&◌, ◌||◌, inl, inr, Bool, true, false, not, List, length, refl, sym, ap, ◌∙◌, subst, arith}
use Rattle.std.proofs.lemmas.Bool.{not-false, cases_Bool, cases_eq, both_ways, and_from, and_parts, or_cases, or_left, or_right, or_from, eq-eqb, eqb-true, ne_eqb, not-true, not_from_false, not_from_true}
use Rattle.permutations.specs.Count.{some}
use Rattle.permutations.proofs.Relation.{same-tests}
use Rattle.permutations.proofs.Search.{some-from, some-witness, some-none}
use Rattle.multigraph.specs.Graph.{Multigraph, edge_count, is_end}
use Rattle.graph_theory.specs.Block.{IsOneBlock}
use Rattle.graph_theory.specs.Side.{IsCommon}
use Rattle.pair_split.specs.Skeleton.{IsOfKind, IsPolygon, IsBond}
use Rattle.pair_split.specs.Split.{component_at, items_of, item_at, piece_ends, skeleton, side, LinksTo, IsSplit}
use Rattle.pair_split.specs.declared.components.Comp.{Comp}
use Rattle.pair_split.specs.declared.components.Kind.{Kind}
use Rattle.pair_split.specs.declared.components.Kind.TheVariants.{S, P, R, B}
use Rattle.pair_split.proofs.Groups.{what-cases, side-other}
use Rattle.pair_split.proofs.TreeSides.{link-back}
use Rattle.graph_theory.specs.Separation.{other_side, IsGood, AreSameSide}
use Rattle.graph_theory.proofs.Counting.{Two, two-of}
use Rattle.tree_unique.proofs.Toward.{sink}
use Rattle.tree_unique.proofs.Items.{end-cases, other-end, first-end, second-end, is_at, place, place-in, ends-differ, PlaceAt, at-edge, edges-at, chosen, chosen-in, link-place, place-link, place-real, skeleton-length}
use Rattle.tree_unique.proofs.SkeletonKinds.{IsSimpleAt, polygon-two, bond-ends, rigid-simple, rigid-apart}
use Rattle.pair_split.proofs.Separations.{separation-from, link-separation}

module _ (g : Multigraph) (block : IsOneBlock g) (comps : List Comp) (s : IsSplit g comps) (x : ℕ → Bool) (good : IsGood g x) where
  abbrev m : ℕ
  m = edge_count g

  -- whether the side of a link has no edges of both sides
  abbrev is_inside : ℕ → ℕ → Bool
  is_inside k j = not (some m (λ e. side comps k j e && x e) && some m (λ e. side comps k j e && not (x e)))

  -- where it has, the side of the link back has not
  turn : (k j : ℕ) → LinksTo comps k j → is_inside k j ≡ false → is_inside j k ≡ true
  turn k j l h = elim (cases_Bool (is_inside j k)) [
    | inl y ↦ y
    | inr n ↦
        let b = and_parts (some m (λ e. side comps k j e && x e)) (some m (λ e. side comps k j e && not (x e))) (not-false (some m (λ e. side comps k j e && x e) && some m (λ e. side comps k j e && not (x e))) h) in
        let c = and_parts (some m (λ e. side comps j k e && x e)) (some m (λ e. side comps j k e && not (x e))) (not-false (some m (λ e. side comps j k e && x e) && some m (λ e. side comps j k e && not (x e))) n) in
        absurd (good.uncrossed (side comps k j) (link-separation g block comps s k j l) (record {
          both = at (side comps k j) x (λ e. x e && side comps k j e) b.0 (λ e d y z. and_from (x e) (side comps k j e) z y);
          first_alone = at (side comps j k) x (λ e. x e && not (side comps k j e)) c.0 (λ e d y z. and_from (x e) (not (side comps k j e)) z (near e d y));
          second_alone = at (side comps k j) (other_side x) (λ e. not (x e) && side comps k j e) b.1 (λ e d y z. and_from (not (x e)) (side comps k j e) z y);
          neither = at (side comps j k) (other_side x) (λ e. not (x e) && not (side comps k j e)) c.1 (λ e d y z. and_from (not (x e)) (not (side comps k j e)) z (near e d y));
        }))
  ]
    where
      near : (e : ℕ) → e < m → side comps j k e ≡ true → not (side comps k j e) ≡ true
      near e d y = sym (side-other g comps s j k e (link-back comps s.linked k j l) d) ∙ y

      at : (a b p : ℕ → Bool) → some m (λ e. a e && b e) ≡ true → ((e : ℕ) → e < m → a e ≡ true → b e ≡ true → p e ≡ true) → some m p ≡ true
      at a b p t f = let w = some-witness m (λ e. a e && b e) t in let q = and_parts (a w.0) (b w.0) w.2 in some-from m p w.0 w.1 (f w.0 w.1 q.0 q.1)

  -- a component of which each link's side lies inside or outside
  centre : (k : ℕ) × (k < length comps) × ((j : ℕ) → LinksTo comps k j → is_inside k j ≡ true)
  centre = sink comps s.linked is_inside turn

  -- it is the side of a link
  abbrev Found : Type 0
  Found = (k j : ℕ) × LinksTo comps k j × AreSameSide g x (side comps k j)

  module _ (k : ℕ) (lk : k < length comps) (inside : (j : ℕ) → LinksTo comps k j → is_inside k j ≡ true) where
    abbrev size : ℕ
    size = length (items_of comps k)

    abbrev pl : ℕ → ℕ
    pl e = place g comps s k lk e

    -- edges of one place are on one side
    whole : (e f : ℕ) → e < m → f < m → pl e ≡ pl f → x e ≡ x f
    whole e f b c p = elim (what-cases (item_at comps k (pl f)).what) [
      | inl r ↦ ap x (place-real g comps s k lk (pl f) e r.0 b p r.1 ∙ sym (place-real g comps s k lk (pl f) f r.0 c refl r.1))
      | inr r ↦
          let l : LinksTo comps k r.0 = (pl f, (place-in g comps s k lk f c, r.1)) in
          let on_e : side comps k r.0 e ≡ true = place-link g comps s k lk r.0 e l b p in
          let on_f : side comps k r.0 f ≡ true = place-link g comps s k lk r.0 f l c refl in
          elim (cases_Bool (x e)) [
            | inl y ↦ elim (cases_Bool (x f)) [ inl z ↦ y ∙ sym z | inr z ↦ absurd (split r.0 l e f b c on_e on_f y z) ]
            | inr y ↦ elim (cases_Bool (x f)) [ inl z ↦ absurd (split r.0 l f e c b on_f on_e z y) | inr z ↦ y ∙ sym z ]
          ]
    ]
      where
        split : (j : ℕ) → LinksTo comps k j → (e f : ℕ) → e < m → f < m → side comps k j e ≡ true → side comps k j f ≡ true → x e ≡ true → x f ≡ false → ⊥
        split j l e f b c on_e on_f y z = both_ways (is_inside k j)
            (not_from_true (some m (λ e. side comps k j e && x e) && some m (λ e. side comps k j e && not (x e)))
            (and_from (some m (λ e. side comps k j e && x e)) (some m (λ e. side comps k j e && not (x e)))
            (some-from m (λ e. side comps k j e && x e) e b (and_from (side comps k j e) (x e) on_e y))
            (some-from m (λ e. side comps k j e && not (x e)) f c (and_from (side comps k j f) (not (x f)) on_f (not_from_false (x f) z)))))
            (inside j l)

    -- whether the edges of a place are on the side
    t : ℕ → Bool
    t i = x (chosen g comps s k lk i)

    t-edge : (e i : ℕ) → e < m → pl e ≡ i → t i ≡ x e
    unfolding t
    t-edge e i b p =
        let c = chosen-in g comps s k lk i (subst (λ z. z < size) p (place-in g comps s k lk e b)) in
        whole (chosen g comps s k lk i) e c.0 b (c.1 ∙ sym p)

    edge-t : (i : ℕ) → i < size → x (chosen g comps s k lk i) ≡ t i
    unfolding t
    edge-t i l = refl

    -- one place is all of the side, and the item a link; or another place is on it
    alone : (y : ℕ → Bool) → Two m y → ((e f : ℕ) → e < m → f < m → pl e ≡ pl f → y e ≡ y f) → ((j : ℕ) × LinksTo comps k j × AreSameSide g y (side comps k j))
        ⊎ ((i h : ℕ) × (i < size) × (h < size) × (i ≢ h) × (y (chosen g comps s k lk i) ≡ true) × (y (chosen g comps s k lk h) ≡ true))
    alone y w same = elim (cases_Bool (some size other)) [
      | inl o ↦
          let h = some-witness size other o in
          let p = and_parts (y (chosen g comps s k lk h.0)) (not (h.0 == pl w.first)) h.2 in
          inr (
            pl w.first,
            h.0,
            place-in g comps s k lk w.first w.first_in,
            h.1,
            (λ e. both_ways (h.0 == pl w.first) (not-true (h.0 == pl w.first) p.1) (eq-eqb h.0 (pl w.first) (sym e))),
            on (pl w.first) w.first w.first_in refl w.first_on,
            p.0,
          )
      | inr o ↦ elim (what-cases (item_at comps k (pl w.first)).what) [
        | inl r ↦ absurd (w.differ (place-real g comps s k lk (pl w.first) w.first r.0 w.first_in refl r.1 ∙ sym (place-real g comps s k lk (pl w.first) w.second r.0 w.second_in (only o w.second w.second_in w.second_on) r.1)))
        | inr r ↦
            let l : LinksTo comps k r.0 = (pl w.first, (place-in g comps s k lk w.first w.first_in, r.1)) in
            inl (
              r.0,
              l,
              λ e b. same-tests (y e) (side comps k r.0 e)
                  (λ h. place-link g comps s k lk r.0 e l b (only o e b h))
                  (λ h. same e w.first b w.first_in (link-place g comps s k lk r.0 e l b h) ∙ w.first_on),
            )
      ]
    ]
      where
        other : ℕ → Bool
        other h = y (chosen g comps s k lk h) && not (h == pl w.first)

        on : (i e : ℕ) → e < m → pl e ≡ i → y e ≡ true → y (chosen g comps s k lk i) ≡ true
        on i e b p h = let c = chosen-in g comps s k lk i (subst (λ z. z < size) p (place-in g comps s k lk e b)) in same (chosen g comps s k lk i) e c.0 b (c.1 ∙ sym p) ∙ h

        only : some size other ≡ false → (e : ℕ) → e < m → y e ≡ true → pl e ≡ pl w.first
        only o e b h = elim (cases_eq (pl e) (pl w.first)) [
          | inl q ↦ q
          | inr n ↦ absurd (both_ways (other (pl e)) (some-none size other o (pl e) (place-in g comps s k lk e b))
              (and_from (y (chosen g comps s k lk (pl e))) (not (pl e == pl w.first)) (on (pl e) e b refl h) (not_from_false (pl e == pl w.first) (ne_eqb (pl e) (pl w.first) n))))
        ]

    -- the two common vertices
    abbrev p : ℕ
    p = good.separation.first

    abbrev q : ℕ
    q = good.separation.second

    -- a common vertex is one of the two
    common-two : (v e f : ℕ) → e < m → f < m → is_end g v e ≡ true → is_end g v f ≡ true → x e ≡ true → x f ≡ false → (v ≡ p) ⊎ (v ≡ q)
    common-two v e f b c ve vf y z =
        good.separation.no_other v (record { inside = e; outside = f; inside_edge = b; outside_edge = c; inside_end = ve; outside_end = vf; inside_side = y; outside_side = z })

    module _ (i1 i2 h1 h2 : ℕ) (li1 : i1 < size) (li2 : i2 < size) (lh1 : h1 < size) (lh2 : h2 < size) (ni : i1 ≢ i2) (nh : h1 ≢ h2)
        (ti1 : t i1 ≡ true) (ti2 : t i2 ≡ true) (th1 : t h1 ≡ false) (th2 : t h2 ≡ false) where
      -- the ends of an item are p and q, or there is another one
      off-or_both : (i : ℕ) → i < size → ((u : ℕ) × (is_at comps k i u ≡ true) × (u ≢ p) × (u ≢ q)) ⊎ ((is_at comps k i p ≡ true) × (is_at comps k i q ≡ true))
      off-or_both i l = elim (among a) [
        | inl o ↦ inl (a, first-end (piece_ends (item_at comps k i)), o.0, o.1)
        | inr ap ↦ elim (among b) [
          | inl o ↦ inl (b, second-end (piece_ends (item_at comps k i)), o.0, o.1)
          | inr bp ↦ inr (both a b (ends-differ g comps s k lk i l) (first-end (piece_ends (item_at comps k i))) (second-end (piece_ends (item_at comps k i))) ap bp)
        ]
      ]
        where
          a : ℕ
          a = (piece_ends (item_at comps k i)).0

          b : ℕ
          b = (piece_ends (item_at comps k i)).1

          among : (u : ℕ) → ((u ≢ p) × (u ≢ q)) ⊎ ((u ≡ p) ⊎ (u ≡ q))
          among u = elim (cases_eq u p) [ inl e ↦ inr (inl e) | inr e ↦ elim (cases_eq u q) [ inl f ↦ inr (inr f) | inr f ↦ inl (e, f) ] ]

          both : (c d : ℕ) → c ≢ d → is_at comps k i c ≡ true → is_at comps k i d ≡ true → (c ≡ p) ⊎ (c ≡ q) → (d ≡ p) ⊎ (d ≡ q) → (is_at comps k i p ≡ true) × (is_at comps k i q ≡ true)
          both c d n y z (inl e) (inl f) = absurd (n (e ∙ sym f))
          both c d n y z (inr e) (inr f) = absurd (n (e ∙ sym f))
          both c d n y z (inl e) (inr f) = (subst (λ v. is_at comps k i v ≡ true) e y, subst (λ v. is_at comps k i v ≡ true) f z)
          both c d n y z (inr e) (inl f) = (subst (λ v. is_at comps k i v ≡ true) f z, subst (λ v. is_at comps k i v ≡ true) e y)

      -- of two items one has an end that is neither
      off-one : IsSimpleAt comps k → (i h : ℕ) → i < size → h < size → i ≢ h → t i ≡ t h → (d u : ℕ) × (d < size) × (t d ≡ t i) × (is_at comps k d u ≡ true) × (u ≢ p) × (u ≢ q)
      off-one simple i h li lh n same = elim (off-or_both i li) [
        | inl w ↦ (i, w.0, li, refl, w.1, w.2, w.3)
        | inr y ↦ elim (off-or_both h lh) [
          | inl w ↦ (h, w.0, lh, sym same, w.1, w.2, w.3)
          | inr z ↦ absurd (n (simple i h p q li lh good.separation.differ y.0 y.1 z.0 z.1))
        ]
      ]

      -- a triconnected component has no such side
      not-rigid : IsOfKind R (skeleton comps k) → ⊥
      not-rigid r =
          let u = off-one (rigid-simple comps k r) i1 i2 li1 li2 ni (ti1 ∙ sym ti2) in
          let w = off-one (rigid-simple comps k r) h1 h2 lh1 lh2 nh (th1 ∙ sym th2) in
          rigid-apart comps k r t p q only u.0 u.1 u.2 (u.3 ∙ ti1) u.4 u.5 u.6 w.0 w.1 w.2 (w.3 ∙ th1) w.4 w.5 w.6
        where
          only : (i h v : ℕ) → i < size → h < size → t i ≡ true → t h ≡ false → is_at comps k i v ≡ true → is_at comps k h v ≡ true → (v ≡ p) ⊎ (v ≡ q)
          only i h v li lh y z a b =
              let e : PlaceAt g comps s k lk i v = at-edge g comps s k lk i v li a in
              let f : PlaceAt g comps s k lk h v = at-edge g comps s k lk h v lh b in
              common-two v e.edge f.edge e.edge_in f.edge_in e.end f.end (sym (t-edge e.edge i e.edge_in e.place_is) ∙ y) (sym (t-edge f.edge h f.edge_in f.place_is) ∙ z)

      -- an edge of each side at the first common vertex
      corner : IsCommon g x p
      corner = good.separation.first_common

      abbrev e1 : ℕ
      e1 = corner.inside

      abbrev f1 : ℕ
      f1 = corner.outside

      abbrev i : ℕ
      i = pl e1

      abbrev h : ℕ
      h = pl f1

      apart : i ≢ h
      apart c = both_ways (x f1) corner.outside_side (sym (whole e1 f1 corner.inside_edge corner.outside_edge c) ∙ corner.inside_side)

      at_i : is_at comps k i p ≡ true
      at_i = edges-at g comps s k lk e1 f1 p corner.inside_edge corner.outside_edge apart corner.inside_end corner.outside_end

      at_h : is_at comps k h p ≡ true
      at_h = edges-at g comps s k lk f1 e1 p corner.outside_edge corner.inside_edge (λ c. apart (sym c)) corner.outside_end corner.inside_end

      -- the side of these two items
      z : ℕ → Bool
      z e = (pl e == i) || (pl e == h)

      z-in : (e : ℕ) → (pl e ≡ i) ⊎ (pl e ≡ h) → z e ≡ true
      unfolding z
      z-in e (inl c) = or_left (pl e == i) (pl e == h) (eq-eqb (pl e) i c)
      z-in e (inr c) = or_right (pl e == i) (pl e == h) (eq-eqb (pl e) h c)

      z-out : (e : ℕ) → pl e ≢ i → pl e ≢ h → z e ≡ false
      unfolding z
      z-out e a b = or_from (pl e == i) (pl e == h) (ne_eqb (pl e) i a) (ne_eqb (pl e) h b)

      z-on : (e : ℕ) → z e ≡ true → (pl e ≡ i) ⊎ (pl e ≡ h)
      unfolding z
      z-on e c = elim (or_cases (pl e == i) (pl e == h) c) [ inl a ↦ inl (eqb-true (pl e) i a) | inr a ↦ inr (eqb-true (pl e) h a) ]

      z-off : (e : ℕ) → z e ≡ false → (pl e ≢ i) × (pl e ≢ h)
      z-off e c = ((λ a. both_ways (z e) c (z-in e (inl a))), (λ a. both_ways (z e) c (z-in e (inr a))))

      -- another place on the side, and another one off it
      more : (a b c : ℕ) → a ≢ b → (r : ℕ) × (r ≢ c) × ((r ≡ a) ⊎ (r ≡ b))
      more a b c n = elim (cases_eq a c) [ inr o ↦ (a, o, inl refl) | inl o ↦ (b, (λ y. n (o ∙ sym y)), inr refl) ]

      on : (r : ℕ) × (r < size) × (r ≢ i) × (t r ≡ true)
      on = let w = more i1 i2 i ni in (w.0, elim w.2 [ inl c ↦ subst (λ v. v < size) (sym c) li1 | inr c ↦ subst (λ v. v < size) (sym c) li2 ], w.1, elim w.2 [ inl c ↦ ap t c ∙ ti1 | inr c ↦ ap t c ∙ ti2 ])

      off : (r : ℕ) × (r < size) × (r ≢ h) × (t r ≡ false)
      off = let w = more h1 h2 h nh in (w.0, elim w.2 [ inl c ↦ subst (λ v. v < size) (sym c) lh1 | inr c ↦ subst (λ v. v < size) (sym c) lh2 ], w.1, elim w.2 [ inl c ↦ ap t c ∙ th1 | inr c ↦ ap t c ∙ th2 ])

      t-i : t i ≡ true
      t-i = t-edge e1 i corner.inside_edge refl ∙ corner.inside_side

      t-h : t h ≡ false
      t-h = t-edge f1 h corner.outside_edge refl ∙ corner.outside_side

      on_h : on.0 ≢ h
      on_h c = both_ways (t h) t-h (sym (ap t c) ∙ on.3)

      off_i : off.0 ≢ i
      off_i c = both_ways (t off.0) off.3 (ap t c ∙ t-i)

      abbrev e2 : ℕ
      e2 = chosen g comps s k lk on.0

      abbrev f2 : ℕ
      f2 = chosen g comps s k lk off.0

      e2_is : (e2 < m) × (pl e2 ≡ on.0)
      e2_is = chosen-in g comps s k lk on.0 on.1

      f2_is : (f2 < m) × (pl f2 ≡ off.0)
      f2_is = chosen-in g comps s k lk off.0 off.1

      z-e2 : z e2 ≡ false
      z-e2 = z-out e2 (λ c. on.2 (sym e2_is.1 ∙ c)) (λ c. on_h (sym e2_is.1 ∙ c))

      z-f2 : z f2 ≡ false
      z-f2 = z-out f2 (λ c. off_i (sym f2_is.1 ∙ c)) (λ c. off.2 (sym f2_is.1 ∙ c))

      x-e2 : x e2 ≡ true
      x-e2 = sym (t-edge e2 on.0 e2_is.0 e2_is.1) ∙ on.3

      x-f2 : x f2 ≡ false
      x-f2 = sym (t-edge f2 off.0 f2_is.0 f2_is.1) ∙ off.3

      -- where the two items meet the others in two vertices at most, that side crosses
      crossed : (a b : ℕ) → ((r d v : ℕ) → (r ≡ i) ⊎ (r ≡ h) → d < size → d ≢ i → d ≢ h → is_at comps k r v ≡ true → is_at comps k d v ≡ true → (v ≡ a) ⊎ (v ≡ b)) → ⊥
      crossed a b only = good.uncrossed z
          (separation-from g block z
          (record { first = e1; second = f1; differ = λ c. apart (ap pl c); first_in = corner.inside_edge; second_in = corner.outside_edge; first_on = z-in e1 (inl refl); second_on = z-in f1 (inr refl) })
          (record { first = e2; second = f2; differ = λ c. both_ways (x f2) x-f2 (sym (ap x c) ∙ x-e2); first_in = e2_is.0; second_in = f2_is.0; first_on = not_from_false (z e2) z-e2; second_on = not_from_false (z f2) z-f2 })
          a b (λ v c.
          let o = z-off c.outside c.outside_side in
          let w = z-on c.inside c.inside_side in
          let n : pl c.inside ≢ pl c.outside = λ d. elim w [ inl y ↦ o.0 (sym d ∙ y) | inr y ↦ o.1 (sym d ∙ y) ] in
          only (pl c.inside) (pl c.outside) v w (place-in g comps s k lk c.outside c.outside_edge) o.0 o.1
          (edges-at g comps s k lk c.inside c.outside v c.inside_edge c.outside_edge n c.inside_end c.outside_end)
          (edges-at g comps s k lk c.outside c.inside v c.outside_edge c.inside_edge (λ d. n (sym d)) c.outside_end c.inside_end)))
          (record {
            both = some-from m (λ e. x e && z e) e1 corner.inside_edge (and_from (x e1) (z e1) corner.inside_side (z-in e1 (inl refl)));
            first_alone = some-from m (λ e. x e && not (z e)) e2 e2_is.0 (and_from (x e2) (not (z e2)) x-e2 (not_from_false (z e2) z-e2));
            second_alone = some-from m (λ e. not (x e) && z e) f1 corner.outside_edge (and_from (not (x f1)) (z f1) (not_from_false (x f1) corner.outside_side) (z-in f1 (inr refl)));
            neither = some-from m (λ e. not (x e) && not (z e)) f2 f2_is.0 (and_from (not (x f2)) (not (z f2)) (not_from_false (x f2) x-f2) (not_from_false (z f2) z-f2));
          })

      li : i < size
      li = place-in g comps s k lk e1 corner.inside_edge

      lh : h < size
      lh = place-in g comps s k lk f1 corner.outside_edge

      -- two items of a bond meet the others in its poles
      not-bond : IsBond (skeleton comps k) → ⊥
      not-bond b = crossed (piece_ends (item_at comps k i)).0 (piece_ends (item_at comps k i)).1
          (λ r d v w ld n o y c. end-cases v (piece_ends (item_at comps k i)) (bond-ends comps k b d i v ld li c))

      -- two neighbouring items of a polygon meet the others in their other ends
      not-polygon : IsPolygon (skeleton comps k) → ⊥
      not-polygon b = crossed a.0 c.0 only
        where
          a : (y : ℕ) × (y ≢ p) × ((v : ℕ) → is_at comps k i v ≡ true → (v ≡ p) ⊎ (v ≡ y))
          a = other-end g comps s k lk i p li at_i

          c : (y : ℕ) × (y ≢ p) × ((v : ℕ) → is_at comps k h v ≡ true → (v ≡ p) ⊎ (v ≡ y))
          c = other-end g comps s k lk h p lh at_h

          -- no other item has the vertex between them as an end
          between : (d v : ℕ) → d < size → d ≢ i → d ≢ h → is_at comps k d v ≡ true → v ≢ p
          between d v ld n o y e = elim (polygon-two comps k b p i h d li lh ld apart at_i at_h (subst (λ u. is_at comps k d u ≡ true) e y)) [ inl r ↦ n r | inr r ↦ o r ]

          only : (r d v : ℕ) → (r ≡ i) ⊎ (r ≡ h) → d < size → d ≢ i → d ≢ h → is_at comps k r v ≡ true → is_at comps k d v ≡ true → (v ≡ a.0) ⊎ (v ≡ c.0)
          only r d v w ld n o y u = elim w [
            | inl e ↦ elim (a.2 v (subst (λ j. is_at comps k j v ≡ true) e y)) [ inl f ↦ absurd (between d v ld n o u f) | inr f ↦ inl f ]
            | inr e ↦ elim (c.2 v (subst (λ j. is_at comps k j v ≡ true) e y)) [ inl f ↦ absurd (between d v ld n o u f) | inr f ↦ inr f ]
          ]

      -- so no component has
      none : ⊥
      none = by_kind (component_at comps k).kind (s.of_kind.kinds k lk).of_kind
        where
          by_kind : (kind : Kind) → IsOfKind kind (skeleton comps k) → ⊥
          by_kind S o = not-polygon o
          by_kind P o = not-bond o
          by_kind R o = not-rigid o
          by_kind B o = absurd (few o.few)
            where
              few : length (skeleton comps k) ≤ 2 → ⊥
              few l = absurd (omega (arith, l, skeleton-length comps k, li1, li2, lh1, ni, (λ (e : i1 ≡ h1). both_ways (t h1) th1 (sym (ap t e) ∙ ti1)), (λ (e : i2 ≡ h1). both_ways (t h1) th1 (sym (ap t e) ∙ ti2))))

    found : Found
    found = elim (alone x (two-of m x good.separation.two_inside) whole) [
      | inl w ↦ (k, w.0, w.1, w.2)
      | inr a ↦ elim (alone (other_side x) (two-of m (other_side x) good.separation.two_outside) (λ e f b c r. ap not (whole e f b c r))) [
        | inl w ↦ (w.0, k, link-back comps s.linked k w.0 w.1, λ e b. turned (x e) (side comps k w.0 e) (w.2 e b) ∙ sym (side-other g comps s w.0 k e (link-back comps s.linked k w.0 w.1) b))
        | inr b ↦ absurd (none a.0 a.1 b.0 b.1 a.2 a.3 b.2 b.3 a.4 b.4 (sym (edge-t a.0 a.2) ∙ a.5) (sym (edge-t a.1 a.3) ∙ a.6)
            (sym (edge-t b.0 b.2) ∙ not-true (x (chosen g comps s k lk b.0)) b.5) (sym (edge-t b.1 b.3) ∙ not-true (x (chosen g comps s k lk b.1)) b.6))
      ]
    ]
      where
        turned : (a b : Bool) → not a ≡ b → a ≡ not b
        turned a b h = grind (arith, h, cases_Bool a)

  -- each side of a good 2-separation is that of a link
  pub good-link : Found
  good-link = found centre.0 centre.1 centre.2
