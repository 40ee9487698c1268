-- A skeleton is of one kind only.
use Rattle.std.proofs.Common.{◌≡◌, ◌≢◌, ℕ, suc, ◌<◌, ◌⊎◌, ◌==◌, ◌||◌, inl, inr, Bool, true, false, List, [], ◌∷◌, length, slice_index_or, refl, sym, subst, arith}
use Rattle.std.proofs.lemmas.Bool.{both_ways, or_cases, or_left, or_from, or_parts, eq-eqb, ne_eqb, eqb-true, true≢false}
use Rattle.std.proofs.lemmas.List.Elements.{All-get_or}
use Rattle.multigraph.specs.Graph.{Multigraph}
use Rattle.pair_split.specs.Skeleton.{is_end_of, SameEnds, is_vertex, HasPoles, IsPolygon, IsRigid, IsOfKind}
use Rattle.pair_split.specs.Split.{items_of, skeleton, IsSplit}
use Rattle.pair_split.specs.declared.components.Comp.{Comp}
use Rattle.pair_split.specs.declared.components.Kind.{Kind}
use Rattle.pair_split.specs.declared.components.Kind.TheVariants.{S, P, R, B}
use Rattle.pair_split.proofs.Groups.{same-end}
use Rattle.pair_split.proofs.LargeSides.{ThreeVertices, three-vertices}
use Rattle.graph_theory.proofs.Counting.{Two, two-of}
use Rattle.tree_unique.proofs.Items.{other-end, end-cases, is_at, vertex-at}
use Rattle.tree_unique.proofs.SkeletonKinds.{degree-count, polygon-two, rigid-apart, fourth-vertex}

-- a vertex is an end of a pair
vertex-pair : (skel : List (ℕ × ℕ)) (v : ℕ) → is_vertex skel v ≡ true → (i : ℕ) × (i < length skel) × (is_end_of v (slice_index_or skel i (0, 0)) ≡ true)
vertex-pair [] v h = absurd (true≢false (sym h))
vertex-pair (ends ∷ skel) v h = elim (or_cases (is_end_of v ends) (is_vertex skel v) h) [
  | inl a ↦ (0, omega arith, a)
  | inr a ↦ let w = vertex-pair skel v a in (suc w.0, omega (arith, w.1), w.2)
]

-- two poles are not three vertices
poles-three : (skel : List (ℕ × ℕ)) → HasPoles skel → ThreeVertices skel → ⊥
poles-three skel h t = pick (pole t.a t.a_vertex) (pole t.b t.b_vertex) (pole t.c t.c_vertex)
  where
    pole : (v : ℕ) → is_vertex skel v ≡ true → (v ≡ h.poles.0) ⊎ (v ≡ h.poles.1)
    pole v a = let w = vertex-pair skel v a in end-cases v h.poles (same-end h.poles (slice_index_or skel w.0 (0, 0)) v (All-get_or (SameEnds h.poles) skel w.0 (0, 0) w.1 h.joined) w.2)

    pick : (t.a ≡ h.poles.0) ⊎ (t.a ≡ h.poles.1) → (t.b ≡ h.poles.0) ⊎ (t.b ≡ h.poles.1) → (t.c ≡ h.poles.0) ⊎ (t.c ≡ h.poles.1) → ⊥
    pick x y z = grind (arith, t.ab, t.bc, t.ca, x, y, z)

module _ (g : Multigraph) (comps : List Comp) (s : IsSplit g comps) (k : ℕ) (l : k < length comps) where
  -- a polygon is not triconnected: a vertex is parted from the others by its two neighbours
  polygon-rigid : IsPolygon (skeleton comps k) → IsRigid (skeleton comps k) → ⊥
  polygon-rigid p r =
      rigid-apart comps k r t y.0 z.0 only w.first v w.first_in (or_left (w.first == w.first) (w.first == w.second) (eq-eqb w.first w.first refl)) w.first_on (λ e. y.1 (sym e)) (λ e. z.1 (sym e))
      d.0 u.0 d.1 (or_from (d.0 == w.first) (d.0 == w.second) (ne_eqb d.0 w.first first) (ne_eqb d.0 w.second second)) d.2 u.3 u.4
    where
      three : ThreeVertices (skeleton comps k)
      three = three-vertices 3 (skeleton comps k) (omega arith) p.three

      v : ℕ
      v = three.a

      w : Two (length (items_of comps k)) (λ i. is_at comps k i v)
      w = two-of (length (items_of comps k)) (λ i. is_at comps k i v) (omega (arith, degree-count comps k v, p.degrees v three.a_vertex))

      y : (y : ℕ) × (y ≢ v) × ((x : ℕ) → is_at comps k w.first x ≡ true → (x ≡ v) ⊎ (x ≡ y))
      y = other-end g comps s k l w.first v w.first_in w.first_on

      z : (y : ℕ) × (y ≢ v) × ((x : ℕ) → is_at comps k w.second x ≡ true → (x ≡ v) ⊎ (x ≡ y))
      z = other-end g comps s k l w.second v w.second_in w.second_on

      t : ℕ → Bool
      t i = (i == w.first) || (i == w.second)

      only : (i h x : ℕ) → i < length (items_of comps k) → h < length (items_of comps k) → t i ≡ true → t h ≡ false → is_at comps k i x ≡ true → is_at comps k h x ≡ true → (x ≡ y.0) ⊎ (x ≡ z.0)
      only i h x li lh a b c e = elim (or_cases (i == w.first) (i == w.second) a) [
        | inl q ↦ elim (y.2 x (subst (λ j. is_at comps k j x ≡ true) (eqb-true i w.first q) c)) [ inl f ↦ absurd (between f) | inr f ↦ inl f ]
        | inr q ↦ elim (z.2 x (subst (λ j. is_at comps k j x ≡ true) (eqb-true i w.second q) c)) [ inl f ↦ absurd (between f) | inr f ↦ inr f ]
      ]
        where
          between : x ≡ v → ⊥
          between f =
              let n = or_parts (h == w.first) (h == w.second) b in
              elim (polygon-two comps k p v w.first w.second h w.first_in w.second_in lh w.differ w.first_on w.second_on (subst (λ j. is_at comps k h j ≡ true) f e)) [
                | inl q ↦ both_ways (h == w.first) n.0 (eq-eqb h w.first q)
                | inr q ↦ both_ways (h == w.second) n.1 (eq-eqb h w.second q)
              ]

      u : (x : ℕ) × (is_vertex (skeleton comps k) x ≡ true) × (x ≢ v) × (x ≢ y.0) × (x ≢ z.0)
      u = fourth-vertex (skeleton comps k) r.four v y.0 z.0

      d : (i : ℕ) × (i < length (items_of comps k)) × (is_at comps k i u.0 ≡ true)
      d = vertex-at comps k u.0 u.1

      first : d.0 ≢ w.first
      first e = elim (y.2 u.0 (subst (λ j. is_at comps k j u.0 ≡ true) e d.2)) [ inl f ↦ u.2 f | inr f ↦ u.3 f ]

      second : d.0 ≢ w.second
      second e = elim (z.2 u.0 (subst (λ j. is_at comps k j u.0 ≡ true) e d.2)) [ inl f ↦ u.2 f | inr f ↦ u.4 f ]

  -- so a skeleton is of one kind
  pub kind-once : (a b : Kind) → IsOfKind a (skeleton comps k) → IsOfKind b (skeleton comps k) → a ≡ b
  kind-once S S x y = refl
  kind-once S P x y = absurd (poles-three (skeleton comps k) y.two (three-vertices 3 (skeleton comps k) (omega arith) x.three))
  kind-once S R x y = absurd (polygon-rigid x y)
  kind-once S B x y = absurd (poles-three (skeleton comps k) y.two (three-vertices 3 (skeleton comps k) (omega arith) x.three))
  kind-once P S x y = absurd (poles-three (skeleton comps k) x.two (three-vertices 3 (skeleton comps k) (omega arith) y.three))
  kind-once P P x y = refl
  kind-once P R x y = absurd (poles-three (skeleton comps k) x.two (three-vertices 4 (skeleton comps k) (omega arith) y.four))
  kind-once P B x y = absurd (omega (arith, x.three, y.few))
  kind-once R S x y = absurd (polygon-rigid y x)
  kind-once R P x y = absurd (poles-three (skeleton comps k) y.two (three-vertices 4 (skeleton comps k) (omega arith) x.four))
  kind-once R R x y = refl
  kind-once R B x y = absurd (poles-three (skeleton comps k) y.two (three-vertices 4 (skeleton comps k) (omega arith) x.four))
  kind-once B S x y = absurd (poles-three (skeleton comps k) x.two (three-vertices 3 (skeleton comps k) (omega arith) y.three))
  kind-once B P x y = absurd (omega (arith, y.three, x.few))
  kind-once B R x y = absurd (poles-three (skeleton comps k) x.two (three-vertices 4 (skeleton comps k) (omega arith) y.four))
  kind-once B B x y = refl
