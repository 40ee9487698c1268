-- A side that crosses a link so that the two parts of a component's own side share one vertex between them: then the component
-- is a polygon.
use Rattle.std.proofs.Common.{◌≡◌, ◌≢◌, ℕ, ◌<◌, ◌≤◌, ◌⊎◌, ◌==◌, ◌||◌, inl, inr, Bool, true, false, not, List, length, sym, ap, ◌∙◌, subst}
use Rattle.std.proofs.lemmas.Bool.{cases_Bool, cases_eq, both_ways, or_cases, or_left, or_parts, or_from, eq-eqb, ne_eqb, eqb-true, not-true, not-false, not_from_false, not_from_true}
use Rattle.multigraph.specs.Graph.{Multigraph, edge_count, is_end}
use Rattle.graph_theory.specs.Block.{IsOneBlock}
use Rattle.pair_split.specs.Skeleton.{IsBond, IsRigid}
use Rattle.pair_split.specs.Split.{items_of, item_at, piece_ends, skeleton, IsSplit}
use Rattle.pair_split.specs.declared.components.Comp.{Comp}
use Rattle.graph_theory.specs.Separation.{other_side}
use Rattle.graph_theory.proofs.Counting.{two-others}
use Rattle.tree_unique.proofs.Items.{end-of_two, is_at, place, place-in, PlaceAt, at-edge, edges-at_place, vertex-at}
use Rattle.tree_unique.proofs.SkeletonKinds.{bond-ends, rigid-simple, rigid-apart, fourth-vertex}
use Rattle.tree_unique.proofs.Splits.{HalfAt, Halves, halves, IsParted, parted-other, NoneParted, parted-none, find-parted, colour, colour-own, coloured, colour-other, ColouredAt, coloured-at}

module _ (g : Multigraph) (block : IsOneBlock g) (comps : List Comp) (s : IsSplit g comps) (k : ℕ) (l : k < length comps) (h : ℕ) (lh : h < length (items_of comps k)) where
  abbrev size : ℕ
  size = length (items_of comps k)

  abbrev pl : ℕ → ℕ
  pl e = place g comps s k l e

  -- apart from place h, edges on the side and edges off it share only u, which is no end of item h; of the ends p and q of
  -- item h the one has only edges on the side, the other only edges off it
  pub record IsRing (x : ℕ → Bool) (u p q : ℕ) : Type 0 where
    pub only : (v e f : ℕ) → e < edge_count g → f < edge_count g → is_end g v e ≡ true → is_end g v f ≡ true → pl e ≢ h → pl f ≢ h → x e ≡ true → x f ≡ false → v ≡ u
    pub between_off : is_at comps k h u ≡ false
    pub front : is_at comps k h p ≡ true
    pub back : is_at comps k h q ≡ true
    pub differ : p ≢ q
    pub front_side : (e : ℕ) → e < edge_count g → pl e ≢ h → is_end g p e ≡ true → x e ≡ true
    pub back_side : (e : ℕ) → e < edge_count g → pl e ≢ h → is_end g q e ≡ true → x e ≡ false

  ring-other : (x : ℕ → Bool) (u p q : ℕ) → IsRing x u p q → IsRing (other_side x) u q p
  ring-other x u p q r = record {
    only = λ v e f b c ve vf n o y z. r.only v f e c b vf ve o n (not-false (x f) z) (not-true (x e) y);
    between_off = r.between_off;
    front = r.back;
    back = r.front;
    differ = λ e. r.differ (sym e);
    front_side = λ e b n v. not_from_false (x e) (r.back_side e b n v);
    back_side = λ e b n v. not_from_true (x e) (r.front_side e b n v);
  }

  -- an end of item h is not the vertex between
  off-between : (x : ℕ → Bool) (u p q v : ℕ) → IsRing x u p q → is_at comps k h v ≡ true → v ≢ u
  off-between x u p q v r a e = both_ways (is_at comps k h u) r.between_off (sym (ap (is_at comps k h) e) ∙ a)

  -- where no place is parted: a triconnected component has no vertex of the side's colour but p, q and u
  ring-colour : IsRigid (skeleton comps k) → (x : ℕ → Bool) (u p q : ℕ) → IsRing x u p q → NoneParted g block comps s k l x h
      → (i v : ℕ) → i < size → colour g block comps s k l x h i ≡ true → is_at comps k i v ≡ true → v ≢ p → v ≢ u → ⊥
  ring-colour rigid x u p q r none i v li ti ai vp vu = rigid-apart comps k rigid (colour g block comps s k l x h) p u only i v li ti ai vp vu
      h q lh (colour-own g block comps s k l x h) r.back (λ e. r.differ (sym e)) (off-between x u p q q r r.back)
    where
      only : (i d v : ℕ) → i < size → d < size → colour g block comps s k l x h i ≡ true → colour g block comps s k l x h d ≡ false → is_at comps k i v ≡ true → is_at comps k d v ≡ true → (v ≡ p) ⊎ (v ≡ u)
      only i d v li ld ti td ai ad =
          let a : ColouredAt g block comps s k l x h i v = coloured-at g block comps s k l x h none i v li (coloured g block comps s k l x h i ti) ai in
          elim (cases_eq d h) [
            | inl e ↦ elim (end-of_two (piece_ends (item_at comps k h)) p q v r.differ r.front r.back (subst (λ z. is_at comps k z v ≡ true) e ad)) [
              | inl f ↦ inl f
              | inr f ↦ absurd (both_ways (x a.edge) (r.back_side a.edge a.edge_in a.place_not (subst (λ z. is_end g z a.edge ≡ true) f a.end)) (a.side ∙ ti))
            ]
            | inr n ↦
                let b : ColouredAt g block comps s k l x h d v = coloured-at g block comps s k l x h none d v ld n ad in
                inr (r.only v a.edge b.edge a.edge_in b.edge_in a.end b.end a.place_not b.place_not (a.side ∙ ti) (b.side ∙ td))
          ]

  -- so it has no fourth vertex
  ring-none : IsRigid (skeleton comps k) → (x : ℕ → Bool) (u p q : ℕ) → IsRing x u p q → NoneParted g block comps s k l x h → ⊥
  ring-none rigid x u p q r none =
      let w = fourth-vertex (skeleton comps k) rigid.four p q u in
      let i = vertex-at comps k w.0 w.1 in
      let n : i.0 ≢ h = λ e. elim (end-of_two (piece_ends (item_at comps k h)) p q w.0 r.differ r.front r.back (subst (λ z. is_at comps k z w.0 ≡ true) e i.2)) [ inl f ↦ w.2 f | inr f ↦ w.3 f ] in
      elim (cases_Bool (colour g block comps s k l x h i.0)) [
        | inl y ↦ ring-colour rigid x u p q r none i.0 w.0 i.1 y i.2 w.2 w.4
        | inr y ↦ ring-colour rigid (other_side x) u q p (ring-other x u p q r) (λ e f b c m o. ap not (none e f b c m o)) i.0 w.0 i.1 (colour-other g block comps s k l x h i.0 n y) i.2 w.3 w.4
      ]

  -- a parted place: an end of the item at the side, another one off it, and the vertex between inside
  pub record IsBroken (x : ℕ → Bool) (u i : ℕ) : Type 0 where
    pub on_end : ℕ
    pub off_end : ℕ
    pub on_at : is_at comps k i on_end ≡ true
    pub off_at : is_at comps k i off_end ≡ true
    pub on_edge : ℕ
    pub off_edge : ℕ
    pub on_in : on_edge < edge_count g
    pub off_in : off_edge < edge_count g
    pub on_place : pl on_edge ≡ i
    pub off_place : pl off_edge ≡ i
    pub on_side : x on_edge ≡ true
    pub off_side : x off_edge ≡ false
    pub on_touch : is_end g on_end on_edge ≡ true
    pub off_touch : is_end g off_end off_edge ≡ true
    pub inner : ℕ
    pub inner_in : inner < edge_count g
    pub inner_place : pl inner ≡ i
    pub inner_touch : is_end g u inner ≡ true
    pub between_off : is_at comps k i u ≡ false

  broken-other : (x : ℕ → Bool) (u i : ℕ) → IsBroken x u i → IsBroken (other_side x) u i
  broken-other x u i b = record {
    on_end = b.off_end;
    off_end = b.on_end;
    on_at = b.off_at;
    off_at = b.on_at;
    on_edge = b.off_edge;
    off_edge = b.on_edge;
    on_in = b.off_in;
    off_in = b.on_in;
    on_place = b.off_place;
    off_place = b.on_place;
    on_side = not_from_false (x b.off_edge) b.off_side;
    off_side = not_from_true (x b.on_edge) b.on_side;
    on_touch = b.off_touch;
    off_touch = b.on_touch;
    inner = b.inner;
    inner_in = b.inner_in;
    inner_place = b.inner_place;
    inner_touch = b.inner_touch;
    between_off = b.between_off;
  }

  module _ (x : ℕ → Bool) (u p q : ℕ) (r : IsRing x u p q) (i : ℕ) (n : i ≢ h) (w : IsParted g block comps s k l x i) where
    a : Halves g block comps s k l x i
    a = halves g block comps s k l x i w

    b : Halves g block comps s k l (other_side x) i
    b = halves g block comps s k l (other_side x) i (parted-other g block comps s k l x i w)

    not_h : (e : ℕ) → pl e ≡ i → pl e ≢ h
    not_h e m o = n (sym m ∙ o)

    -- a vertex of both halves is the one between
    meets : (c d : ℕ) → HalfAt g block comps s k l x i c → HalfAt g block comps s k l (other_side x) i d → c ≡ d → c ≡ u
    meets c d y z e = r.only c y.edge z.edge y.edge_in z.edge_in y.end (subst (λ v. is_end g v z.edge ≡ true) (sym e) z.end) (not_h y.edge y.place_is) (not_h z.edge z.place_is) y.on (not-true (x z.edge) z.on)

    on-end : (c : ℕ) → HalfAt g block comps s k l x i c → (c ≡ u) ⊎ (is_at comps k i c ≡ true)
    on-end c y = elim y.kind [ inl e ↦ inr e | inr o ↦ inl (r.only c y.edge o.edge y.edge_in o.edge_in y.end o.end (not_h y.edge y.place_is) (not_h o.edge o.place_is) y.on o.off) ]

    off-end : (c : ℕ) → HalfAt g block comps s k l (other_side x) i c → (c ≡ u) ⊎ (is_at comps k i c ≡ true)
    off-end c y = elim y.kind [
      | inl e ↦ inr e
      | inr o ↦ inl (r.only c o.edge y.edge o.edge_in y.edge_in o.end y.end (not_h o.edge o.place_is) (not_h y.edge y.place_is) (not-false (x o.edge) o.off) (not-true (x y.edge) y.on))
    ]

    -- two different ends of the item that the side has are not both touched off it
    ends-apart : is_at comps k i a.first ≡ true → is_at comps k i a.second ≡ true → (d : ℕ) → HalfAt g block comps s k l (other_side x) i d → is_at comps k i d ≡ true → d ≡ u
    ends-apart y z d m o = elim (end-of_two (piece_ends (item_at comps k i)) a.first a.second d a.differ y z o) [
      | inl e ↦ e ∙ meets a.first d a.first_half m (sym e)
      | inr e ↦ e ∙ meets a.second d a.second_half m (sym e)
    ]

    at-u : (c : ℕ) → (c ≡ u) ⊎ (is_at comps k i c ≡ true) → is_at comps k i u ≡ true → is_at comps k i c ≡ true
    at-u c (inl e) t = ap (is_at comps k i) e ∙ t
    at-u c (inr e) t = e

    between-off : is_at comps k i u ≡ false
    between-off = elim (cases_Bool (is_at comps k i u)) [
      | inr f ↦ f
      | inl t ↦
          let y = at-u a.first (on-end a.first a.first_half) t in
          let z = at-u a.second (on-end a.second a.second_half) t in
          absurd (b.differ (ends-apart y z b.first b.first_half (at-u b.first (off-end b.first b.first_half) t) ∙ sym (ends-apart y z b.second b.second_half (at-u b.second (off-end b.second b.second_half) t))))
    ]

    -- an end of the item at the side
    pick-on : (c : ℕ) × HalfAt g block comps s k l x i c × (is_at comps k i c ≡ true)
    pick-on = elim (on-end a.first a.first_half) [
      | inr e ↦ (a.first, a.first_half, e)
      | inl e ↦ elim (on-end a.second a.second_half) [ inr f ↦ (a.second, a.second_half, f) | inl f ↦ absurd (a.differ (e ∙ sym f)) ]
    ]

    pick-off : (c : ℕ) × HalfAt g block comps s k l (other_side x) i c × (is_at comps k i c ≡ true)
    pick-off = elim (off-end b.first b.first_half) [
      | inr e ↦ (b.first, b.first_half, e)
      | inl e ↦ elim (off-end b.second b.second_half) [ inr f ↦ (b.second, b.second_half, f) | inl f ↦ absurd (b.differ (e ∙ sym f)) ]
    ]

    pick-inner : (e : ℕ) × (e < edge_count g) × (pl e ≡ i) × (is_end g u e ≡ true)
    pick-inner = elim (on-end a.first a.first_half) [
      | inl e ↦ (a.first_half.edge, a.first_half.edge_in, a.first_half.place_is, subst (λ v. is_end g v a.first_half.edge ≡ true) e a.first_half.end)
      | inr y ↦ elim (on-end a.second a.second_half) [
        | inl e ↦ (a.second_half.edge, a.second_half.edge_in, a.second_half.place_is, subst (λ v. is_end g v a.second_half.edge ≡ true) e a.second_half.end)
        | inr z ↦ absurd (both_ways (is_at comps k i u) between-off (sym (ap (is_at comps k i) (ends-apart y z pick-off.0 pick-off.1 pick-off.2)) ∙ pick-off.2))
      ]
    ]

    pub broken : IsBroken x u i
    broken = record {
      on_end = pick-on.0;
      off_end = pick-off.0;
      on_at = pick-on.2;
      off_at = pick-off.2;
      on_edge = pick-on.1.edge;
      off_edge = pick-off.1.edge;
      on_in = pick-on.1.edge_in;
      off_in = pick-off.1.edge_in;
      on_place = pick-on.1.place_is;
      off_place = pick-off.1.place_is;
      on_side = pick-on.1.on;
      off_side = not-true (x pick-off.1.edge) pick-off.1.on;
      on_touch = pick-on.1.end;
      off_touch = pick-off.1.end;
      inner = pick-inner.0;
      inner_in = pick-inner.1;
      inner_place = pick-inner.2;
      inner_touch = pick-inner.3;
      between_off = between-off;
    }

  -- at most one place is parted
  broken-once : (x : ℕ → Bool) (u i d : ℕ) → IsBroken x u i → IsBroken x u d → i ≡ d
  broken-once x u i d b c = elim (cases_eq i d) [
    | inl e ↦ e
    | inr n ↦ absurd (both_ways (is_at comps k i u) b.between_off
        (edges-at_place g comps s k l i b.inner c.inner u b.inner_in c.inner_in b.inner_place (λ q. n (sym q ∙ c.inner_place)) b.inner_touch c.inner_touch))
  ]

  -- the component is no bond
  pub ring-bond : IsBond (skeleton comps k) → 3 ≤ size → (x : ℕ → Bool) (u p q : ℕ) → IsRing x u p q → ⊥
  ring-bond bond three x u p q r =
      let w = two-others size h three in
      w.4 (broken-once x u w.0 w.1 (broken x u p q r w.0 w.5 (parted w.0 w.2 w.5)) (broken x u p q r w.1 w.6 (parted w.1 w.3 w.6)))
    where
      parted : (i : ℕ) → i < size → i ≢ h → IsParted g block comps s k l x i
      parted i li n =
          let y : PlaceAt g comps s k l i p = at-edge g comps s k l i p li (bond-ends comps k bond h i p lh li r.front) in
          let z : PlaceAt g comps s k l i q = at-edge g comps s k l i q li (bond-ends comps k bond h i q lh li r.back) in
          record {
            on = y.edge;
            off = z.edge;
            on_in = y.edge_in;
            off_in = z.edge_in;
            on_place = y.place_is;
            off_place = z.place_is;
            on_side = r.front_side y.edge y.edge_in (λ e. n (sym y.place_is ∙ e)) y.end;
            off_side = r.back_side z.edge z.edge_in (λ e. n (sym z.place_is ∙ e)) z.end;
          }

  -- with the parted place made one of the side, no place is parted, and the vertex between is the end that was off it
  ring-mended : IsRigid (skeleton comps k) → (x : ℕ → Bool) (u p q : ℕ) → IsRing x u p q → (i : ℕ) → i ≢ h → (b : IsBroken x u i) → b.off_end ≢ q → ⊥
  ring-mended rigid x u p q r i n b m = ring-none rigid more b.off_end p q ring none
    where
      more : ℕ → Bool
      more e = x e || (pl e == i)

      not_h : (e : ℕ) → pl e ≡ i → pl e ≢ h
      not_h e o t = n (sym o ∙ t)

      -- the ends of the item
      at-i : (v : ℕ) → is_at comps k i v ≡ true → (v ≡ b.on_end) ⊎ (v ≡ b.off_end)
      at-i v a = elim (cases_eq b.on_end b.off_end) [
        | inr d ↦ end-of_two (piece_ends (item_at comps k i)) b.on_end b.off_end v d b.on_at b.off_at a
        | inl e ↦ absurd (both_ways (is_at comps k i u) b.between_off (subst (λ z. is_at comps k i z ≡ true)
            (r.only b.on_end b.on_edge b.off_edge b.on_in b.off_in b.on_touch (subst (λ z. is_end g z b.off_edge ≡ true) (sym e) b.off_touch) (not_h b.on_edge b.on_place) (not_h b.off_edge b.off_place) b.on_side b.off_side) b.on_at))
      ]

      -- an edge off the new side
      off-parts : (e : ℕ) → more e ≡ false → (x e ≡ false) × (pl e ≢ i)
      off-parts e o = let w = or_parts (x e) (pl e == i) o in (w.0, λ t. both_ways (pl e == i) w.1 (eq-eqb (pl e) i t))

      only : (v e f : ℕ) → e < edge_count g → f < edge_count g → is_end g v e ≡ true → is_end g v f ≡ true → pl e ≢ h → pl f ≢ h → more e ≡ true → more f ≡ false → v ≡ b.off_end
      only v e f c d ve vf o t y z = let w = off-parts f z in elim (cases_eq (pl e) i) [
        | inl j ↦ elim (at-i v (edges-at_place g comps s k l i e f v c d j w.1 ve vf)) [
          | inr a ↦ a
          | inl a ↦ absurd (both_ways (is_at comps k i u) b.between_off (subst (λ z. is_at comps k i z ≡ true)
              (r.only b.on_end b.on_edge f b.on_in d b.on_touch (subst (λ z. is_end g z f ≡ true) a vf) (not_h b.on_edge b.on_place) t b.on_side w.0) b.on_at))
        ]
        | inr j ↦
            let on : x e ≡ true = elim (or_cases (x e) (pl e == i) y) [ inl a ↦ a | inr a ↦ absurd (j (eqb-true (pl e) i a)) ] in
            let at_u : v ≡ u = r.only v e f c d ve vf o t on w.0 in
            absurd (both_ways (is_at comps k i u) b.between_off (edges-at_place g comps s k l i b.inner e u b.inner_in c b.inner_place j b.inner_touch (subst (λ z. is_end g z e ≡ true) at_u ve)))
      ]

      ring : IsRing more b.off_end p q
      ring = record {
        only = only;
        between_off = elim (cases_Bool (is_at comps k h b.off_end)) [
          | inr f ↦ f
          | inl t ↦ elim (end-of_two (piece_ends (item_at comps k h)) p q b.off_end r.differ r.front r.back t) [
            | inr e ↦ absurd (m e)
            | inl e ↦ absurd (both_ways (x b.off_edge) b.off_side (r.front_side b.off_edge b.off_in (not_h b.off_edge b.off_place) (subst (λ z. is_end g z b.off_edge ≡ true) e b.off_touch)))
          ]
        ];
        front = r.front;
        back = r.back;
        differ = r.differ;
        front_side = λ e c o v. or_left (x e) (pl e == i) (r.front_side e c o v);
        back_side = λ e c o v. or_from (x e) (pl e == i) (r.back_side e c o v) (ne_eqb (pl e) i (λ j.
            let d : PlaceAt g comps s k l h q = at-edge g comps s k l h q lh r.back in
            elim (at-i q (edges-at_place g comps s k l i e d.edge q c d.edge_in j (λ t. n (sym t ∙ d.place_is)) v d.end)) [
              | inr a ↦ m (sym a)
              | inl a ↦ both_ways (x b.on_edge) (r.back_side b.on_edge b.on_in (not_h b.on_edge b.on_place) (subst (λ z. is_end g z b.on_edge ≡ true) (sym a) b.on_touch)) b.on_side
            ]));
      }

      none : NoneParted g block comps s k l more h
      none = parted-none g block comps s k l more h (λ d t w.
          let o = off-parts w.off w.off_side in
          let j : d ≢ i = λ e. o.1 (w.off_place ∙ e) in
          let on : x w.on ≡ true = elim (or_cases (x w.on) (pl w.on == i) w.on_side) [ inl y ↦ y | inr y ↦ absurd (j (sym w.on_place ∙ eqb-true (pl w.on) i y)) ] in
          j (broken-once x u d i (broken x u p q r d t (record { on = w.on; off = w.off; on_in = w.on_in; off_in = w.off_in; on_place = w.on_place; off_place = w.off_place; on_side = on; off_side = o.0 })) b))

  -- nor is it triconnected
  pub ring-rigid : IsRigid (skeleton comps k) → (x : ℕ → Bool) (u p q : ℕ) → IsRing x u p q → ⊥
  unfolding broken-other
  ring-rigid rigid x u p q r = elim (find-parted g block comps s k l x h) [
    | inl none ↦ ring-none rigid x u p q r none
    | inr w ↦ let b : IsBroken x u w.0 = broken x u p q r w.0 w.1 w.2 in
        elim (cases_eq b.off_end q) [
          | inr n ↦ ring-mended rigid x u p q r w.0 w.1 b n
          | inl e ↦ ring-mended rigid (other_side x) u q p (ring-other x u p q r) w.0 w.1 (broken-other x u w.0 b) (λ f.
              w.1 (rigid-simple comps k rigid w.0 h p q (subst (λ z. z < size) b.on_place (place-in g comps s k l b.on_edge b.on_in)) lh r.differ
              (subst (λ z. is_at comps k w.0 z ≡ true) f b.on_at) (subst (λ z. is_at comps k w.0 z ≡ true) e b.off_at) r.front r.back))
        ]
  ]
