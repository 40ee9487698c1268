-- The two sides of each link of a block's tree are a good 2-separation.
use Rattle.std.proofs.Common.{◌≡◌, ◌≢◌, ℕ, ◌<◌, ◌⊎◌, ◌&&◌, ◌||◌, inl, inr, Bool, true, false, not, List, length, refl, sym, ap, ◌∙◌, arith}
use Rattle.std.proofs.lemmas.Bool.{cases_Bool, both_ways, and_from, and_parts, or_left, or_right, or_cases, not-true, not_from_false, not_from_true, false_from_ne_true}
use Rattle.permutations.specs.Count.{some}
use Rattle.permutations.proofs.Search.{some-witness, some-none, some-ext}
use Rattle.multigraph.specs.Graph.{Multigraph, edge_count, is_end}
use Rattle.graph_theory.specs.Block.{IsOneBlock}
use Rattle.graph_theory.specs.Side.{IsCommon}
use Rattle.pair_split.specs.Skeleton.{IsOfKind}
use Rattle.pair_split.specs.Split.{component_at, skeleton, side, LinksTo, IsSplit}
use Rattle.pair_split.specs.declared.components.Comp.{Comp}
use Rattle.pair_split.specs.declared.components.Kind.{Kind}
use Rattle.pair_split.specs.declared.components.Kind.TheVariants.{S, P, R, B}
use Rattle.pair_split.proofs.GraphFamily.{one_block-tight}
use Rattle.pair_split.proofs.Groups.{side-other}
use Rattle.pair_split.proofs.LargeSides.{three-items}
use Rattle.pair_split.proofs.Subtrees.{link-in}
use Rattle.pair_split.proofs.TreeSides.{link-from, link-back, link-differs}
use Rattle.pair_split.proofs.Separations.{link-separation}
use Rattle.graph_theory.specs.Separation.{other_side, IsSeparation, DoCross, IsGood, AreSameSide}
use Rattle.tree_unique.proofs.Corners.{first_common, all_four, AreCorners, bond-type, ring-type, RingType}
use Rattle.tree_unique.proofs.Sides.{touches, vertex_bound, end-below, EdgeAt, touches-from, touching, touches-ext, both, corner-tests}
use Rattle.tree_unique.proofs.Items.{is_at, place, link-place, place-link}
use Rattle.tree_unique.proofs.BondType.{MeetInEnds, bond-rigid, bond-polygon}
use Rattle.tree_unique.proofs.RingType.{IsRing, ring-bond, ring-rigid}

-- not twice
twice : (a b : Bool) → (not (not a) && b) ≡ (a && b)
twice a b = grind (arith, cases_Bool a)

-- whether an edge of each corner has the end v
abbrev pub in_all : Multigraph → (ℕ → Bool) → (ℕ → Bool) → ℕ → Bool
in_all g s x v = all_four (touches g (both s x) v) (touches g (both s (other_side x)) v) (touches g (both (other_side s) (other_side x)) v) (touches g (both (other_side s) x) v)

-- whether some vertex is touched by all four corners
abbrev pub is_bond_type : Multigraph → (ℕ → Bool) → (ℕ → Bool) → Bool
is_bond_type g s x = some (vertex_bound g) (in_all g s x)

-- the other side of the first division has the same type
pub type-other : (g : Multigraph) (s t x : ℕ → Bool) → AreSameSide g t (other_side s) → is_bond_type g t x ≡ is_bond_type g s x
type-other g s t x h = some-ext (vertex_bound g) (in_all g t x) (in_all g s x) (λ v l. turned
    (touches-ext g (both t x) (both (other_side s) x) v (λ e b. ap (λ (c : Bool). c && x e) (h e b)))
    (touches-ext g (both t (other_side x)) (both (other_side s) (other_side x)) v (λ e b. ap (λ (c : Bool). c && not (x e)) (h e b)))
    (touches-ext g (both (other_side t) (other_side x)) (both s (other_side x)) v (λ e b. ap (λ (c : Bool). not c && not (x e)) (h e b) ∙ twice (s e) (not (x e))))
    (touches-ext g (both (other_side t) x) (both s x) v (λ e b. ap (λ (c : Bool). not c && x e) (h e b) ∙ twice (s e) (x e))))
  where
    turned : {a b c d p q r u : Bool} → a ≡ u → b ≡ r → c ≡ q → d ≡ p → all_four a b c d ≡ all_four p q r u
    turned {a} {b} {c} {d} {p} {q} {r} {u} e f i j = grind (arith, e, f, i, j, cases_Bool p, cases_Bool q, cases_Bool r, cases_Bool u)

-- crossing, seen from the other side
pub cross-other : (g : Multigraph) (s t x : ℕ → Bool) → AreSameSide g t (other_side s) → DoCross g s x → DoCross g t x
cross-other g s t x h c = record {
  both = at (λ e. not (s e) && x e) (λ e. t e && x e) c.second_alone (λ e b. ap (λ (z : Bool). z && x e) (sym (h e b)));
  first_alone = at (λ e. not (s e) && not (x e)) (λ e. t e && not (x e)) c.neither (λ e b. ap (λ (z : Bool). z && not (x e)) (sym (h e b)));
  second_alone = at (λ e. s e && x e) (λ e. not (t e) && x e) c.both (λ e b. sym (ap (λ (z : Bool). not z && x e) (h e b) ∙ twice (s e) (x e)));
  neither = at (λ e. s e && not (x e)) (λ e. not (t e) && not (x e)) c.first_alone (λ e b. sym (ap (λ (z : Bool). not z && not (x e)) (h e b) ∙ twice (s e) (not (x e))));
}
  where
    at : (p q : ℕ → Bool) → some (edge_count g) p ≡ true → ((e : ℕ) → e < edge_count g → p e ≡ q e) → some (edge_count g) q ≡ true
    at p q y e = sym (some-ext (edge_count g) p q e) ∙ y

module _ (g : Multigraph) (block : IsOneBlock g) (comps : List Comp) (s : IsSplit g comps) where
  -- a component with a link is not small
  not-small : (k j : ℕ) → LinksTo comps k j → (component_at comps k).kind ≢ B
  not-small k j l e = link-differs comps s.linked k j l (omega (arith, s.of_kind.small_alone k (link-from comps s.linked k j l) e, link-from comps s.linked k j l, link-in comps s.linked k j l))

  -- a 2-separation that crosses a link, seen at the component k: its own side is that of the link from j to it
  module _ (k j : ℕ) (l : LinksTo comps k j) (x : ℕ → Bool) (separation : IsSeparation g x) (cross : DoCross g (side comps j k) x) where
    abbrev h : ℕ
    h = l.0

    lk : k < length comps
    lk = link-from comps s.linked k j l

    abbrev own : ℕ → Bool
    own = side comps j k

    abbrev n : ℕ
    n = vertex_bound g

    abbrev a : ℕ → Bool
    a v = touches g (both own x) v

    abbrev b : ℕ → Bool
    b v = touches g (both own (other_side x)) v

    abbrev c : ℕ → Bool
    c v = touches g (both (other_side own) (other_side x)) v

    abbrev d : ℕ → Bool
    d v = touches g (both (other_side own) x) v

    corners : AreCorners n a b c d
    corners = corner-tests g block own x (link-separation g block comps s j k (link-back comps s.linked k j l)) separation cross

    -- the edges of the own side are those of the other places
    own-place : (e : ℕ) → e < edge_count g → own e ≡ true → place g comps s k lk e ≢ h
    own-place e b y p = both_ways (side comps k j e) (side-other g comps s k j e l b ∙ not_from_true (own e) y) (place-link g comps s k lk j e l b p)

    place-own : (e : ℕ) → e < edge_count g → place g comps s k lk e ≢ h → own e ≡ true
    place-own e b m = side-other g comps s j k e (link-back comps s.linked k j l) b ∙ not_from_false (side comps k j e) (false_from_ne_true (side comps k j e) (λ y. m (link-place g comps s k lk j e l b y)))

    touches-own : (z : ℕ → Bool) (v e : ℕ) → e < edge_count g → is_end g v e ≡ true → place g comps s k lk e ≢ h → z e ≡ true → touches g (both own z) v ≡ true
    touches-own z v e b t m y = touches-from g (both own z) v (record { edge = e; edge_in = b; on = and_from (own e) (z e) (place-own e b m) y; end = t })

    -- a common vertex of the link is an end of it, and the other way round
    pub end-common : (v : ℕ) → is_at comps k h v ≡ true → first_common (a v) (b v) (c v) (d v) ≡ true
    end-common v t =
        let m : IsCommon g (side comps k j) v = (s.sides_meet k j h l.1 v).1 t in
        let i : own m.outside ≡ true = side-other g comps s j k m.outside (link-back comps s.linked k j l) m.outside_edge ∙ not_from_false (side comps k j m.outside) m.outside_side in
        let o : own m.inside ≡ false = side-other g comps s j k m.inside (link-back comps s.linked k j l) m.inside_edge ∙ not_from_true (side comps k j m.inside) m.inside_side in
        and_from (a v || b v) (c v || d v)
        (elim (cases_Bool (x m.outside)) [
          | inl y ↦ or_left (a v) (b v) (touches-from g (both own x) v (record { edge = m.outside; edge_in = m.outside_edge; end = m.outside_end; on = and_from (own m.outside) (x m.outside) i y }))
          | inr y ↦ or_right (a v) (b v) (touches-from g (both own (other_side x)) v (record { edge = m.outside; edge_in = m.outside_edge; end = m.outside_end; on = and_from (own m.outside) (not (x m.outside)) i (not_from_false (x m.outside) y) }))
        ])
        (elim (cases_Bool (x m.inside)) [
          | inl y ↦ or_right (c v) (d v) (touches-from g (both (other_side own) x) v (record { edge = m.inside; edge_in = m.inside_edge; end = m.inside_end; on = and_from (not (own m.inside)) (x m.inside) (not_from_false (own m.inside) o) y }))
          | inr y ↦ or_left (c v) (d v) (touches-from g (both (other_side own) (other_side x)) v (record { edge = m.inside; edge_in = m.inside_edge; end = m.inside_end; on = and_from (not (own m.inside)) (not (x m.inside)) (not_from_false (own m.inside) o) (not_from_false (x m.inside) y) }))
        ])

    -- a vertex touched by the own side and by the other one is an end of the link
    at-link : (v : ℕ) → first_common (a v) (b v) (c v) (d v) ≡ true → is_at comps k h v ≡ true
    at-link v f =
        let p = and_parts (a v || b v) (c v || d v) f in
        let i = inside (or_cases (a v) (b v) p.0) in
        let o = outside (or_cases (c v) (d v) p.1) in
        (s.sides_meet k j h l.1 v).0 (record {
          inside = o.0;
          outside = i.0;
          inside_edge = o.1;
          outside_edge = i.1;
          inside_end = o.2;
          outside_end = i.2;
          inside_side = side-other g comps s k j o.0 l o.1 ∙ o.3;
          outside_side = side-other g comps s k j i.0 l i.1 ∙ not_from_true (own i.0) i.3;
        })
      where
        inside : (a v ≡ true) ⊎ (b v ≡ true) → (e : ℕ) × (e < edge_count g) × (is_end g v e ≡ true) × (own e ≡ true)
        inside (inl t) = let w : EdgeAt g (both own x) v = touching g (both own x) v t in (w.edge, w.edge_in, w.end, (and_parts (own w.edge) (x w.edge) w.on).0)
        inside (inr t) = let w : EdgeAt g (both own (other_side x)) v = touching g (both own (other_side x)) v t in (w.edge, w.edge_in, w.end, (and_parts (own w.edge) (not (x w.edge)) w.on).0)

        outside : (c v ≡ true) ⊎ (d v ≡ true) → (e : ℕ) × (e < edge_count g) × (is_end g v e ≡ true) × (not (own e) ≡ true)
        outside (inl t) = let w : EdgeAt g (both (other_side own) (other_side x)) v = touching g (both (other_side own) (other_side x)) v t in (w.edge, w.edge_in, w.end, (and_parts (not (own w.edge)) (not (x w.edge)) w.on).0)
        outside (inr t) = let w : EdgeAt g (both (other_side own) x) v = touching g (both (other_side own) x) v t in (w.edge, w.edge_in, w.end, (and_parts (not (own w.edge)) (x w.edge) w.on).0)

    -- an edge of the own side that is on the side, and one that is off it
    pub own-on : (e : ℕ) × (e < edge_count g) × (own e ≡ true) × (x e ≡ true)
    own-on = let w = some-witness (edge_count g) (λ e. own e && x e) cross.both in let p = and_parts (own w.0) (x w.0) w.2 in (w.0, w.1, p.0, p.1)

    pub own-off : (e : ℕ) × (e < edge_count g) × (own e ≡ true) × (x e ≡ false)
    own-off = let w = some-witness (edge_count g) (λ e. own e && not (x e)) cross.first_alone in let p = and_parts (own w.0) (not (x w.0)) w.2 in (w.0, w.1, p.0, not-true (x w.0) p.1)

    -- bond type: the component is a bond
    pub bond-kind : is_bond_type g own x ≡ true → (component_at comps k).kind ≡ P
    bond-kind t = by_kind (component_at comps k).kind refl (s.of_kind.kinds k lk).of_kind
      where
        w : (v : ℕ) × (v < n) × (in_all g own x v ≡ true)
        w = some-witness n (in_all g own x) t

        meet : MeetInEnds g block comps s k lk x h
        meet v e f i o ve vf m q y z = at-link v (common (bond-type n a b c d corners w.0 w.1 w.2 v (end-below g v e i ve) (inl (touches-own x v e i ve m y, touches-own (other_side x) v f o vf q (not_from_false (x f) z)))))
          where
            common : all_four (a v) (b v) (c v) (d v) ≡ true → first_common (a v) (b v) (c v) (d v) ≡ true
            common r = grind (arith, r, cases_Bool (a v), cases_Bool (b v), cases_Bool (c v), cases_Bool (d v))

        by_kind : (kind : Kind) → (component_at comps k).kind ≡ kind → IsOfKind kind (skeleton comps k) → (component_at comps k).kind ≡ P
        by_kind S e p =
            let q = and_parts (a w.0 && b w.0) (c w.0 && d w.0) w.2 in
            let r = and_parts (a w.0) (b w.0) q.0 in
            let u : EdgeAt g (both own x) w.0 = touching g (both own x) w.0 r.0 in
            let v : EdgeAt g (both own (other_side x)) w.0 = touching g (both own (other_side x)) w.0 r.1 in
            let z : EdgeAt g (both (other_side own) (other_side x)) w.0 = touching g (both (other_side own) (other_side x)) w.0 (and_parts (c w.0) (d w.0) q.1).0 in
            let up = and_parts (own u.edge) (x u.edge) u.on in
            let vp = and_parts (own v.edge) (not (x v.edge)) v.on in
            let zp = and_parts (not (own z.edge)) (not (x z.edge)) z.on in
            absurd (bond-polygon g block comps s k lk p h (l.1).0 x meet w.0 u.edge v.edge z.edge u.edge_in v.edge_in z.edge_in (own-place u.edge u.edge_in up.0) (own-place v.edge v.edge_in vp.0)
            (link-place g comps s k lk j z.edge l z.edge_in (side-other g comps s k j z.edge l z.edge_in ∙ zp.0)) up.1 (not-true (x v.edge) vp.1) u.end v.end z.end)
        by_kind P e p = e
        by_kind R e p = absurd (bond-rigid g block comps s k lk p h (l.1).0 x meet own-on.0 own-off.0 own-on.1 own-off.1 (own-place own-on.0 own-on.1 own-on.2) (own-place own-off.0 own-off.1 own-off.2) own-on.3 own-off.3)
        by_kind B e p = absurd (not-small k j l e)

    -- ring type: the component is a polygon
    pub ring-kind : is_bond_type g own x ≡ false → (component_at comps k).kind ≡ S
    ring-kind t = by_kind (component_at comps k).kind refl (s.of_kind.kinds k lk).of_kind
      where
        w : RingType n a b c d corners
        w = ring-type n a b c d corners (some-none n (in_all g own x) t)

        front : (a w.front ≡ true) × (b w.front ≡ false) × (d w.front ≡ true)
        front = (grind (arith, w.front_at, cases_Bool (a w.front), cases_Bool (d w.front)), grind (arith, w.front_at, cases_Bool (a w.front), cases_Bool (d w.front), cases_Bool (b w.front)), grind (arith, w.front_at, cases_Bool (a w.front), cases_Bool (d w.front)))

        back : (b w.back ≡ true) × (a w.back ≡ false) × (c w.back ≡ true)
        back = (grind (arith, w.back_at, cases_Bool (b w.back), cases_Bool (c w.back)), grind (arith, w.back_at, cases_Bool (b w.back), cases_Bool (c w.back), cases_Bool (a w.back)), grind (arith, w.back_at, cases_Bool (b w.back), cases_Bool (c w.back)))

        ring : IsRing g block comps s k lk h (l.1).0 x w.between w.front w.back
        ring = record {
          only = λ v e f i o ve vf m q y z. w.between_only v (end-below g v e i ve) (touches-own x v e i ve m y) (touches-own (other_side x) v f o vf q (not_from_false (x f) z));
          between_off = false_from_ne_true (is_at comps k h w.between) (λ y. both_ways (first_common (a w.between) (b w.between) (c w.between) (d w.between)) w.between_not (end-common w.between y));
          front = at-link w.front (and_from (a w.front || b w.front) (c w.front || d w.front) (or_left (a w.front) (b w.front) front.0) (or_right (c w.front) (d w.front) front.2));
          back = at-link w.back (and_from (a w.back || b w.back) (c w.back || d w.back) (or_right (a w.back) (b w.back) back.0) (or_left (c w.back) (d w.back) back.2));
          differ = λ e. both_ways (a w.back) back.1 (sym (ap a e) ∙ front.0);
          front_side = λ e i m v. elim (cases_Bool (x e)) [
            | inl y ↦ y
            | inr y ↦ absurd (both_ways (b w.front) front.1 (touches-own (other_side x) w.front e i v m (not_from_false (x e) y)))
          ];
          back_side = λ e i m v. false_from_ne_true (x e) (λ y. both_ways (a w.back) back.1 (touches-own x w.back e i v m y));
        }

        by_kind : (kind : Kind) → (component_at comps k).kind ≡ kind → IsOfKind kind (skeleton comps k) → (component_at comps k).kind ≡ S
        by_kind S e p = e
        by_kind P e p = absurd (ring-bond g block comps s k lk h (l.1).0 p (three-items g comps s (one_block-tight g block) k j l) x w.between w.front w.back ring)
        by_kind R e p = absurd (ring-rigid g block comps s k lk h (l.1).0 p x w.between w.front w.back ring)
        by_kind B e p = absurd (not-small k j l e)

  -- where no link joins two polygons or two bonds, no 2-separation crosses the sides of a link
  pub link-good : ((k j : ℕ) → LinksTo comps k j → (component_at comps k).kind ≡ S → (component_at comps j).kind ≡ S → ⊥)
      → ((k j : ℕ) → LinksTo comps k j → (component_at comps k).kind ≡ P → (component_at comps j).kind ≡ P → ⊥)
      → (k j : ℕ) → LinksTo comps k j → IsGood g (side comps k j)
  link-good no_polygons no_bonds k j l = record { separation = link-separation g block comps s k j l; uncrossed = uncrossed }
    where
      back : LinksTo comps j k
      back = link-back comps s.linked k j l

      other : AreSameSide g (side comps j k) (other_side (side comps k j))
      other e b = side-other g comps s j k e back b

      uncrossed : (x : ℕ → Bool) → IsSeparation g x → DoCross g (side comps k j) x → ⊥
      uncrossed x i c =
          let c' : DoCross g (side comps j k) x = cross-other g (side comps k j) (side comps j k) x other c in
          let same : is_bond_type g (side comps j k) x ≡ is_bond_type g (side comps k j) x = type-other g (side comps k j) (side comps j k) x other in
          elim (cases_Bool (is_bond_type g (side comps k j) x)) [
            | inl t ↦ no_bonds k j l (bond-kind k j l x i c' (same ∙ t)) (bond-kind j k back x i c t)
            | inr t ↦ no_polygons k j l (ring-kind k j l x i c' (same ∙ t)) (ring-kind j k back x i c t)
          ]
