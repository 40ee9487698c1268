-- Split components contracted along a map are split components, where each is of its kind.
use Rattle.std.proofs.Common.{◌≡◌, ◌≢◌, ℕ, ◌<◌, ◌==◌, inl, inr, Bool, true, List, length, refl, sym, ap, ◌∙◌, subst, arith}
use Rattle.std.proofs.lemmas.Bool.{cases_lt, both_ways, eq-eqb, eqb-true}
use Rattle.std.proofs.lemmas.List.{get_or-map, length-map}
use Rattle.permutations.specs.Count.{some, least}
use Rattle.permutations.proofs.Search.{some-from, least-below, least-passes}
use Rattle.multigraph.specs.Graph.{Multigraph, edge_count, ends_of, is_end}
use Rattle.graph_theory.specs.Side.{IsCommon}
use Rattle.pair_split.specs.Skeleton.{is_end_of, SameEnds, is_vertex, IsSkeleton}
use Rattle.pair_split.specs.Split.{component_at, items_of, item_at, piece_ends, skeleton, StandsFor, is_beyond, side, LinksTo, AreLinked, CoversOnce, SidesMeetInEnds, IsSplit}
use Rattle.pair_split.specs.declared.components.Kind.TheVariants.{B}
use Rattle.pair_split.specs.declared.components.What.{What}
use Rattle.pair_split.specs.declared.components.What.TheVariants.{Real, Link}
use Rattle.pair_split.specs.declared.components.Comp.{Comp}
use Rattle.pair_split.proofs.Links.{no_piece, stands-in, side-home}
use Rattle.pair_split.proofs.Subtrees.{link-in}
use Rattle.spqr_tree.specs.Merged.{is_outer, relinked}
use Rattle.pair_split.proofs.TreeSides.{link-from, beyond-far, beyond-near}
use Rattle.pair_split.proofs.LinkSides.{IsOther, other-cases, beyond-respects, beyond-is}
use Rattle.spqr_tree.proofs.MergeTouch.{ends-same, side-where}
use Rattle.spqr_tree.proofs.JoinedBonds.{same-trans}
use Rattle.spqr_tree.proofs.JoinedPolygons.{end-vertex}
use Rattle.spqr_tree.proofs.JoinedMerging.{link-outer, outer-link}
use Rattle.spqr_tree.proofs.JoinedGrows.{vertex-item}
use Rattle.spqr_tree.proofs.MergeItems.{IsContraction, origin, arrives, arrives-once, renamed-link, renamed-real}
use Rattle.spqr_tree.proofs.MergeTree.{contracted-tree}

module _ (g : Multigraph) (comps : List Comp) (split : IsSplit g comps) (f : ℕ → ℕ) (others : List Comp) (c : IsContraction comps f others) where
  -- the links of the components
  abbrev a : AreLinked comps
  a = split.linked

  -- a link between two groups has all of a group on one side
  group-beyond : (x y u v : ℕ) → f x ≢ f y → u < length comps → v < length comps → f u ≡ f v → is_beyond comps x y u ≡ is_beyond comps x y v
  group-beyond x y u v n l m e = c.joined (f v) (c.into v m) (is_beyond comps x y)
      (λ p q s fp fq. beyond-respects comps a x y p q s ((λ i j. n (ap f (sym i) ∙ fp ∙ sym fq ∙ ap f j)), (λ i j. n (ap f (sym j) ∙ fq ∙ sym fp ∙ ap f i)))) u v l m e refl

  -- two links between the same two groups are one
  links-same : (x y u v : ℕ) → LinksTo comps x y → LinksTo comps u v → f x ≢ f y → f u ≡ f x → f v ≡ f y → (u ≡ x) × (v ≡ y)
  links-same x y u v s w n e i = elim (other-cases x y u v) [
    | inl o ↦ absurd (both_ways (is_beyond comps x y u)
        (group-beyond x y u x n (link-from comps a u v w) (link-from comps a x y s) e ∙ beyond-near comps a x y s)
        (beyond-respects comps a x y u v w o ∙ group-beyond x y v y n (link-in comps a u v w) (link-in comps a x y s) i ∙ beyond-far comps a x y))
    | inr r ↦ elim r [ inl p ↦ p | inr p ↦ absurd (n (sym e ∙ ap f p.0)) ]
  ]

  -- where a link of the others comes from
  pub record LinkOrigin (h i j : ℕ) : Type 0 where
    pub near : ℕ
    pub place : ℕ
    pub far : ℕ
    pub stands : StandsFor comps near place (Link far)
    pub near_led : f near ≡ h
    pub far_led : f far ≡ j
    pub differ : f near ≢ f far
    pub ends : SameEnds (piece_ends (item_at others h i)) (piece_ends (item_at comps near place))

  pub link-origin : (h i j : ℕ) → StandsFor others h i (Link j) → LinkOrigin h i j
  link-origin h i j s =
      let o = origin comps f others c h i s.0 in
      let r = renamed-link f (item_at comps o.home o.place).what j (o.what ∙ s.1) in
      record {
        near = o.home;
        place = o.place;
        far = r.0;
        stands = (o.place_in, r.1);
        near_led = o.led;
        far_led = r.2;
        differ = λ z. outer-link f h r.0 (item_at comps o.home o.place).what r.1 o.outer (sym z ∙ o.led);
        ends = o.ends;
      }

  -- where a link between two groups goes
  link-arrives : (x i y : ℕ) → StandsFor comps x i (Link y) → f x ≢ f y → (j : ℕ) × StandsFor others (f x) j (Link (f y)) × SameEnds (piece_ends (item_at comps x i)) (piece_ends (item_at others (f x) j))
  link-arrives x i y s n =
      let w = arrives comps f others c x i (stands-in comps x i (Link y) s) s.0 (link-outer f (f x) y (item_at comps x i).what s.1 (λ z. n (sym z))) in
      (w.0, (w.1.0, w.1.1 ∙ ap (relinked f) s.1), w.2)

  contracted-linked : AreLinked others
  contracted-linked = record { once = once; back = back; tree = contracted-tree comps a f others c }
    where
      once : (k j i h : ℕ) → StandsFor others k i (Link j) → StandsFor others k h (Link j) → i ≡ h
      once k j i h s w = arrives-once comps f others c k i h (Link j) (λ x m y n lx ly fx fy lm ln om on hm hn.
          let p = renamed-link f (item_at comps x m).what j hm in
          let q = renamed-link f (item_at comps y n).what j hn in
          let e = links-same y q.0 x p.0 (n, (ln, q.1)) (m, (lm, p.1)) (λ z. outer-link f k q.0 (item_at comps y n).what q.1 on (sym z ∙ fy)) (fx ∙ sym fy) (p.2 ∙ sym q.2) in
          (e.0, a.once y q.0 m n (subst (λ z. StandsFor comps z m (Link q.0)) e.0 (subst (λ z. StandsFor comps x m (Link z)) e.1 (lm, p.1))) (ln, q.1))) s w

      back : (k j i : ℕ) → StandsFor others k i (Link j) → (h : ℕ) × StandsFor others j h (Link k) × SameEnds (piece_ends (item_at others k i)) (piece_ends (item_at others j h))
      back k j i s =
          let o = link-origin k i j s in
          let r = a.back o.near o.far o.place o.stands in
          let w = link-arrives o.far r.0 o.near r.1 (λ z. o.differ (sym z)) in
          subst (λ (p : ℕ × ℕ). (h : ℕ) × StandsFor others p.1 h (Link p.0) × SameEnds (piece_ends (item_at others k i)) (piece_ends (item_at others p.1 h))) (λ z. (o.near_led z, o.far_led z)) (
            w.0,
            w.1,
            same-trans (piece_ends (item_at others k i)) (piece_ends (item_at comps o.near o.place)) (piece_ends (item_at others (f o.far) w.0)) o.ends
                (same-trans (piece_ends (item_at comps o.near o.place)) (piece_ends (item_at comps o.far r.0)) (piece_ends (item_at others (f o.far) w.0)) r.2 w.2),
          )

  -- the edge where an edge item comes from
  real-origin : (h i e : ℕ) → StandsFor others h i (Real e) → (x j : ℕ) × (f x ≡ h) × StandsFor comps x j (Real e) × SameEnds (piece_ends (item_at others h i)) (piece_ends (item_at comps x j))
  real-origin h i e s = let o = origin comps f others c h i s.0 in
      (o.home, o.place, o.led, (o.place_in, renamed-real f (item_at comps o.home o.place).what e (o.what ∙ s.1)), o.ends)

  -- and where it goes
  real-arrives : (x i e : ℕ) → StandsFor comps x i (Real e) → (j : ℕ) × StandsFor others (f x) j (Real e)
  real-arrives x i e s =
      let w = arrives comps f others c x i (stands-in comps x i (Real e) s) s.0 (ap (is_outer f (f x)) s.1) in
      (w.0, (w.1.0, w.1.1 ∙ ap (relinked f) s.1))

  -- a vertex of a component has an edge
  vertex-edge : (k v : ℕ) → is_vertex (skeleton comps k) v ≡ true → (e : ℕ) × (e < edge_count g) × (is_end g v e ≡ true)
  vertex-edge k v h = let i = vertex-item (items_of comps k) v h in at (item_at comps k i.0).what i.0 i.1 i.2 refl
    where
      at : (w : What) (i : ℕ) → i < length (items_of comps k) → is_end_of v (piece_ends (item_at comps k i)) ≡ true → (item_at comps k i).what ≡ w → (e : ℕ) × (e < edge_count g) × (is_end g v e ≡ true)
      at (Real e) i l h q = let w = split.covers.edges e k i (l, q) in (e, w.0, sym (ends-same (piece_ends (item_at comps k i)) (ends_of g e) v w.1) ∙ h)
      at (Link j) i l h q = let w = (split.sides_meet k j i (l, q) v).1 h in (w.inside, w.inside_edge, w.inside_end)

  contracted-covers : CoversOnce g others
  contracted-covers = record { present = present; once = once; edges = edges; vertices = vertices }
    where
      present : (e : ℕ) → e < edge_count g → (k i : ℕ) × StandsFor others k i (Real e)
      present e l = let s = split.covers.present e l in let w = real-arrives s.0 s.1 e s.2 in (f s.0, w.0, w.1)

      once : (e k i j h : ℕ) → StandsFor others k i (Real e) → StandsFor others j h (Real e) → (k ≡ j) × (i ≡ h)
      once e k i j h s w =
          let o = real-origin k i e s in
          let r = real-origin j h e w in
          let same : k ≡ j = sym o.2 ∙ ap f (split.covers.once e o.0 o.1 r.0 r.1 o.3 r.3).0 ∙ r.2 in (
            same,
            arrives-once comps f others c k i h (Real e) (λ x m y n lx ly fx fy lm ln om on hm hn.
                split.covers.once e x m y n (lm, renamed-real f (item_at comps x m).what e hm) (ln, renamed-real f (item_at comps y n).what e hn)) s (subst (λ z. StandsFor others z h (Real e)) (sym same) w),
          )

      edges : (e k i : ℕ) → StandsFor others k i (Real e) → (e < edge_count g) × SameEnds (piece_ends (item_at others k i)) (ends_of g e)
      edges e k i s = let o = real-origin k i e s in let w = split.covers.edges e o.0 o.1 o.3 in
          (w.0, same-trans (piece_ends (item_at others k i)) (piece_ends (item_at comps o.0 o.1)) (ends_of g e) o.4 w.1)

      vertices : (v : ℕ) → v < g.vertex_count → (k : ℕ) × (k < length others) × (is_vertex (skeleton others k) v ≡ true)
      vertices v l =
          let r = split.covers.vertices v l in
          let e = vertex-edge r.0 v r.2 in
          let s = present e.0 e.1 in (
            s.0,
            stands-in others s.0 s.1 (Real e.0) s.2,
            end-vertex (skeleton others s.0) s.1 v (subst (λ z. s.1 < z) (sym (length-map (items_of others s.0) piece_ends)) s.2.0)
                (ap (is_end_of v) (get_or-map piece_ends (items_of others s.0) s.1 no_piece (0, 0) s.2.0) ∙ ends-same (piece_ends (item_at others s.0 s.1)) (ends_of g e.0) v (edges e.0 s.0 s.1 s.2).1 ∙ e.2),
          )

  -- a member of each group
  some-member : ℕ → ℕ
  some-member h = least (length comps) (λ x. f x == h)

  member-some : (h : ℕ) → h < length others → some (length comps) (λ x. f x == h) ≡ true
  member-some h l = let w = c.onto h l in some-from (length comps) (λ x. f x == h) w.0 w.1 (eq-eqb (f w.0) h w.2)

  member-in : (h : ℕ) → h < length others → some-member h < length comps
  unfolding some-member
  member-in h l = least-below (length comps) (λ x. f x == h) (member-some h l)

  member-led : (h : ℕ) → h < length others → f (some-member h) ≡ h
  unfolding some-member
  member-led h l = eqb-true (f (some-member h)) h (least-passes (length comps) (λ x. f x == h) (member-some h l))

  module _ (k i j : ℕ) (s : StandsFor others k i (Link j)) where
    -- the link from which this one comes
    from : LinkOrigin k i j
    from = link-origin k i j s

    abbrev raw : LinksTo comps from.near from.far
    raw = (from.place, from.stands)

    -- the side of a group is that of its members
    sided : ℕ → Bool
    sided h = is_beyond comps from.near from.far (some-member h)

    sided-of : (d : ℕ) → d < length comps → sided (f d) ≡ is_beyond comps from.near from.far d
    unfolding sided
    sided-of d l = group-beyond from.near from.far (some-member (f d)) d from.differ (member-in (f d) (c.into d l)) l (member-led (f d) (c.into d l))

    -- a group is on the far side of the link where its members are
    contracted-beyond : (d : ℕ) → d < length comps → is_beyond others k j (f d) ≡ is_beyond comps from.near from.far d
    contracted-beyond d l = beyond-is others contracted-linked k j (i, s) sided
        (ap sided (sym from.far_led) ∙ sided-of from.far (link-in comps a from.near from.far raw) ∙ beyond-far comps a from.near from.far)
        (ap sided (sym from.near_led) ∙ sided-of from.near (link-from comps a from.near from.far raw) ∙ beyond-near comps a from.near from.far raw)
        respects (f d) (c.into d l) ∙ sided-of d l
      where
        respects : (p q : ℕ) → LinksTo others p q → IsOther k j p q → sided p ≡ sided q
        respects p q w n =
            let o = link-origin p w.0 q w.1 in
            let link : LinksTo comps o.near o.far = (o.place, o.stands) in
            ap sided (sym o.near_led) ∙ sided-of o.near (link-from comps a o.near o.far link)
            ∙ beyond-respects comps a from.near from.far o.near o.far link (
              (λ e h. n.0 (sym o.near_led ∙ ap f e ∙ from.near_led) (sym o.far_led ∙ ap f h ∙ from.far_led)),
              (λ e h. n.1 (sym o.near_led ∙ ap f e ∙ from.far_led) (sym o.far_led ∙ ap f h ∙ from.near_led)),
            )
            ∙ sym (sided-of o.far (link-in comps a o.near o.far link)) ∙ ap sided o.far_led

    -- so the link has the same two sides
    contracted-side : (e : ℕ) → e < edge_count g → side others k j e ≡ side comps from.near from.far e
    contracted-side e l =
        let h = split.covers.present e l in
        let w = real-arrives h.0 h.1 e h.2 in
        side-home others k j (f h.0) w.0 e w.1 (λ d m z. (contracted-covers.once e d m (f h.0) w.0 z w.1).0)
        ∙ contracted-beyond h.0 (stands-in comps h.0 h.1 (Real e) h.2) ∙ sym (side-where g comps split from.near from.far h.0 h.1 e h.2)

  -- sides that agree on the edges have the same common vertices
  common-along : (s t : ℕ → Bool) (v : ℕ) → ((e : ℕ) → e < edge_count g → s e ≡ t e) → IsCommon g s v → IsCommon g t v
  common-along s t v h w = record {
    inside = w.inside;
    outside = w.outside;
    inside_edge = w.inside_edge;
    outside_edge = w.outside_edge;
    inside_end = w.inside_end;
    outside_end = w.outside_end;
    inside_side = sym (h w.inside w.inside_edge) ∙ w.inside_side;
    outside_side = sym (h w.outside w.outside_edge) ∙ w.outside_side;
  }

  contracted-meet : SidesMeetInEnds g others
  contracted-meet k j i s v =
      let o = from k i j s in
      let same = ends-same (piece_ends (item_at others k i)) (piece_ends (item_at comps o.near o.place)) v o.ends in
      let meet = split.sides_meet o.near o.far o.place o.stands v in (
        (λ w. same ∙ meet.0 (common-along (side others k j) (side comps o.near o.far) v (contracted-side k i j s) w)),
        (λ w. common-along (side comps o.near o.far) (side others k j) v (λ e l. sym (contracted-side k i j s e l)) (meet.1 (sym same ∙ w))),
      )

  -- where each is of its kind, they are split components
  pub contracted-split : ((x : ℕ) → x < length comps → (component_at others (f x)).kind ≡ (component_at comps x).kind)
      → ((h : ℕ) → h < length others → IsSkeleton (component_at others h).kind (skeleton others h)) → IsSplit g others
  contracted-split same kinds = record {
    of_kind = record { kinds = kinds; small_alone = alone };
    linked = contracted-linked;
    covers = contracted-covers;
    sides_meet = contracted-meet;
  }
    where
      alone : (h : ℕ) → h < length others → (component_at others h).kind ≡ B → length others ≡ 1
      alone h l e =
          let x = c.onto h l in
          let one = split.of_kind.small_alone x.0 x.1 (sym (same x.0 x.1) ∙ ap (λ z. (component_at others z).kind) x.2 ∙ e) in
          elim (cases_lt 1 (length others)) [
            | inl m ↦
                let p = c.onto 0 (omega (arith, m)) in
                let q = c.onto 1 m in
                let z : p.0 ≡ q.0 = omega (arith, one, p.1, q.1) in
                absurd (omega (arith, p.2, q.2, ap f z))
            | inr m ↦ omega (arith, l, m)
          ]
