-- Where no two bonds and no two polygons are linked, no two components have the same vertices.
use Rattle.std.proofs.Common.{◌≡◌, ◌≢◌, ℕ, zero, suc, ◌<◌, ◌≤◌, inl, inr, Bool, true, false, ◌==◌, List, [], ◌∷◌, length, filter, slice_index_or, refl, sym, ap, ◌∙◌, subst, arith}
use Rattle.std.proofs.lemmas.Bool.{cases_Bool, cases_eq, both_ways, not-true, or_cases, or_left, or_right, eq-eqb, eqb-true}
use Rattle.permutations.proofs.Relation.{connected-least, kernel-equivalence}
use Rattle.multigraph.specs.Graph.{Multigraph}
use Rattle.pair_split.specs.Edges.{graph_family}
use Rattle.pair_split.specs.Family.{IsTight}
use Rattle.pair_split.specs.Skeleton.{is_end_of, SameEnds, is_vertex, IsPolygon, IsOfKind, HasVertices}
use Rattle.pair_split.specs.Split.{component_at, items_of, item_at, piece_ends, skeleton, StandsFor, is_beyond, LinksTo, IsSplit, NoneLinked}
use Rattle.pair_split.specs.declared.components.Comp.{Comp}
use Rattle.pair_split.specs.declared.components.Kind.{Kind}
use Rattle.pair_split.specs.declared.components.Kind.TheVariants.{S, P, R, B}
use Rattle.pair_split.specs.declared.components.What.TheVariants.{Real, Link}
use Rattle.pair_split.specs.declared.components.What.{What}
use Rattle.spqr_tree.proofs.JoinedBonds.{same-sym, same-trans}
use Rattle.pair_split.proofs.TreeSides.{beyond-some, beyond-other, link-back, link-from}
use Rattle.pair_split.proofs.Groups.{same-end, same-end_back}
use Rattle.pair_split.proofs.LargeSides.{three-vertices, vertex-item, node-touch}
use Rattle.pair_split.proofs.GraphFamily.{one_block-tight}
use Rattle.spqr_tree.specs.Laws.{VerticesTellComponents}
use Rattle.std.proofs.lemmas.List.{get_or-map, length-map}
use Rattle.std.proofs.lemmas.List.Elements.{All-from_get_or, All-get_or}
use Rattle.spqr_tree.proofs.JoinedPolygons.{end-vertex}
use Rattle.spqr_tree.proofs.MergeCounts.{number-cons, number-two}
use Rattle.spqr_tree.proofs.MergeTouch.{touches}

-- elements at three places that pass are three
number-three : {X : Type 0} (o : X) (t : X → Bool) (xs : List X) (i j k : ℕ) → i < length xs → j < length xs → k < length xs → i ≢ j → i ≢ k → j ≢ k
    → t (slice_index_or xs i o) ≡ true → t (slice_index_or xs j o) ≡ true → t (slice_index_or xs k o) ≡ true → 3 ≤ length (filter t xs)
number-three o t [] i j k li lj lk ij ik jk a b c = absurd (omega (arith, li))
number-three o t (x ∷ xs) zero zero k li lj lk ij ik jk a b c = absurd (ij refl)
number-three o t (x ∷ xs) zero (suc j) zero li lj lk ij ik jk a b c = absurd (ik refl)
number-three o t (x ∷ xs) zero (suc j) (suc k) li lj lk ij ik jk a b c = rw a (omega (arith, number-two o t xs j k (omega (arith, lj)) (omega (arith, lk)) (λ e. jk (ap suc e)) b c))
number-three o t (x ∷ xs) (suc i) zero zero li lj lk ij ik jk a b c = absurd (jk refl)
number-three o t (x ∷ xs) (suc i) zero (suc k) li lj lk ij ik jk a b c = rw b (omega (arith, number-two o t xs i k (omega (arith, li)) (omega (arith, lk)) (λ e. ik (ap suc e)) a c))
number-three o t (x ∷ xs) (suc i) (suc j) zero li lj lk ij ik jk a b c = rw c (omega (arith, number-two o t xs i j (omega (arith, li)) (omega (arith, lj)) (λ e. ij (ap suc e)) a b))
number-three o t (x ∷ xs) (suc i) (suc j) (suc k) li lj lk ij ik jk a b c =
    omega (arith, number-cons t x xs, number-three o t xs i j k (omega (arith, li)) (omega (arith, lj)) (omega (arith, lk)) (λ e. ij (ap suc e)) (λ e. ik (ap suc e)) (λ e. jk (ap suc e)) a b c)

-- the number that a piece names
abbrev number_of : What → ℕ
number_of (Real e) = e
number_of (Link j) = j

-- three different vertices are not all ends of one pair
three-ends : (ends : ℕ × ℕ) (a b c : ℕ) → a ≢ b → b ≢ c → c ≢ a → is_end_of a ends ≡ true → is_end_of b ends ≡ true → is_end_of c ends ≡ true → ⊥
three-ends ends a b c ab bc ca h i j = elim (or_cases (ends.0 == a) (ends.1 == a) h) [
  | inl p ↦ elim (or_cases (ends.0 == b) (ends.1 == b) i) [
    | inl q ↦ ab (sym (eqb-true ends.0 a p) ∙ eqb-true ends.0 b q)
    | inr q ↦ elim (or_cases (ends.0 == c) (ends.1 == c) j) [
      | inl r ↦ ca (sym (eqb-true ends.0 c r) ∙ eqb-true ends.0 a p)
      | inr r ↦ bc (sym (eqb-true ends.1 b q) ∙ eqb-true ends.1 c r)
    ]
  ]
  | inr p ↦ elim (or_cases (ends.0 == b) (ends.1 == b) i) [
    | inr q ↦ ab (sym (eqb-true ends.1 a p) ∙ eqb-true ends.1 b q)
    | inl q ↦ elim (or_cases (ends.0 == c) (ends.1 == c) j) [
      | inl r ↦ bc (sym (eqb-true ends.0 b q) ∙ eqb-true ends.0 c r)
      | inr r ↦ ca (sym (eqb-true ends.1 c r) ∙ eqb-true ends.1 a p)
    ]
  ]
]

-- pairs whose first ends are both among the ends of a third are the same
both-ends : (p q : ℕ × ℕ) → p.0 ≢ p.1 → is_end_of p.0 q ≡ true → is_end_of p.1 q ≡ true → SameEnds p q
both-ends p q n h i = elim (or_cases (q.0 == p.0) (q.1 == p.0) h) [
  | inl a ↦ elim (or_cases (q.0 == p.1) (q.1 == p.1) i) [
    | inl b ↦ absurd (n (sym (eqb-true q.0 p.0 a) ∙ eqb-true q.0 p.1 b))
    | inr b ↦ inl (sym (eqb-true q.0 p.0 a), sym (eqb-true q.1 p.1 b))
  ]
  | inr a ↦ elim (or_cases (q.0 == p.1) (q.1 == p.1) i) [
    | inl b ↦ inr (sym (eqb-true q.1 p.0 a), sym (eqb-true q.0 p.1 b))
    | inr b ↦ absurd (n (sym (eqb-true q.1 p.0 a) ∙ eqb-true q.1 p.1 b))
  ]
]

-- a polygon has no two edges with the same ends
polygon-simple : (skel : List (ℕ × ℕ)) (ends : ℕ × ℕ) (i j : ℕ) → IsPolygon skel → i < length skel → j < length skel → i ≢ j
    → ((v : ℕ) → is_end_of v ends ≡ true → (is_end_of v (slice_index_or skel i (0, 0)) ≡ true) × (is_end_of v (slice_index_or skel j (0, 0)) ≡ true) × (is_vertex skel v ≡ true))
    → ((v : ℕ) → is_end_of v (slice_index_or skel i (0, 0)) ≡ true → is_end_of v ends ≡ true)
    → ((v : ℕ) → is_end_of v (slice_index_or skel j (0, 0)) ≡ true → is_end_of v ends ≡ true) → ⊥
polygon-simple skel ends i j p li lj n there from_i from_j = let t = three-vertices 3 skel (omega arith) p.three in three-ends ends t.a t.b t.c t.ab t.bc t.ca (inside t.a t.a_vertex) (inside t.b t.b_vertex) (inside t.c t.c_vertex)
  where
    -- an edge with one of the ends has both its ends among them
    closed : (k : ℕ) → k < length skel → (v : ℕ) → is_end_of v ends ≡ true → is_end_of v (slice_index_or skel k (0, 0)) ≡ true → (w : ℕ) → is_end_of w (slice_index_or skel k (0, 0)) ≡ true → is_end_of w ends ≡ true
    closed k lk v h m w o = elim (cases_eq k i) [
      | inl e ↦ from_i w (subst (λ z. is_end_of w (slice_index_or skel z (0, 0)) ≡ true) e o)
      | inr a ↦ elim (cases_eq k j) [
        | inl e ↦ from_j w (subst (λ z. is_end_of w (slice_index_or skel z (0, 0)) ≡ true) e o)
        | inr b ↦ absurd (omega (arith, number-three (0, 0) (is_end_of v) skel i j k li lj lk n (λ e. a (sym e)) (λ e. b (sym e)) (there v h).0 (there v h).1 m, p.degrees v (there v h).2))
      ]
    ]

    same : (k : ℕ) → k < length skel → is_end_of (slice_index_or skel k (0, 0)).0 ends ≡ is_end_of (slice_index_or skel k (0, 0)).1 ends
    same k lk = elim (cases_Bool (is_end_of (slice_index_or skel k (0, 0)).0 ends)) [
      | inl a ↦ a ∙ sym (closed k lk (slice_index_or skel k (0, 0)).0 a (first k) (slice_index_or skel k (0, 0)).1 (second k))
      | inr a ↦ elim (cases_Bool (is_end_of (slice_index_or skel k (0, 0)).1 ends)) [
        | inl b ↦ absurd (both_ways (is_end_of (slice_index_or skel k (0, 0)).0 ends) a (closed k lk (slice_index_or skel k (0, 0)).1 b (second k) (slice_index_or skel k (0, 0)).0 (first k)))
        | inr b ↦ a ∙ sym b
      ]
    ]
      where
        first : (k : ℕ) → is_end_of (slice_index_or skel k (0, 0)).0 (slice_index_or skel k (0, 0)) ≡ true
        first k = or_left ((slice_index_or skel k (0, 0)).0 == (slice_index_or skel k (0, 0)).0) ((slice_index_or skel k (0, 0)).1 == (slice_index_or skel k (0, 0)).0) (eq-eqb (slice_index_or skel k (0, 0)).0 (slice_index_or skel k (0, 0)).0 refl)

        second : (k : ℕ) → is_end_of (slice_index_or skel k (0, 0)).1 (slice_index_or skel k (0, 0)) ≡ true
        second k = or_right ((slice_index_or skel k (0, 0)).0 == (slice_index_or skel k (0, 0)).1) ((slice_index_or skel k (0, 0)).1 == (slice_index_or skel k (0, 0)).1) (eq-eqb (slice_index_or skel k (0, 0)).1 (slice_index_or skel k (0, 0)).1 refl)

    pole : is_end_of ends.0 ends ≡ true
    pole = or_left (ends.0 == ends.0) (ends.1 == ends.0) (eq-eqb ends.0 ends.0 refl)

    inside : (v : ℕ) → is_vertex skel v ≡ true → is_end_of v ends ≡ true
    inside v h = sym (same_test (connected-least skel (λ a b. is_end_bit a == is_end_bit b) (kernel-equivalence is_end_bit) (All-from_get_or (λ link. (is_end_bit link.0 == is_end_bit link.1) ≡ true) skel (0, 0) (λ k l. eq-eqb (is_end_bit (slice_index_or skel k (0, 0)).0) (is_end_bit (slice_index_or skel k (0, 0)).1) (ap bit (same k l)))) ends.0 v (p.connects ends.0 v (there ends.0 pole).2 h))) ∙ pole
      where
        bit : Bool → ℕ
        bit true = 1
        bit false = 0

        is_end_bit : ℕ → ℕ
        is_end_bit v = bit (is_end_of v ends)

        bits : (a b : Bool) → bit a ≡ bit b → a ≡ b
        bits true true e = refl
        bits false false e = refl
        bits true false e = absurd (omega (arith, e))
        bits false true e = absurd (omega (arith, e))

        same_test : (is_end_bit ends.0 == is_end_bit v) ≡ true → is_end_of ends.0 ends ≡ is_end_of v ends
        same_test t = bits (is_end_of ends.0 ends) (is_end_of v ends) (eqb-true (is_end_bit ends.0) (is_end_bit v) t)

-- split components, of which no two polygons and no two bonds are linked
module _ (g : Multigraph) (comps : List Comp) (split : IsSplit g comps) (tight : IsTight (graph_family g))
    (no_polygons : NoneLinked S comps) (no_bonds : NoneLinked P comps) where
  -- the ends of an item, in the skeleton
  ends-at : (k i : ℕ) → i < length (items_of comps k) → slice_index_or (skeleton comps k) i (0, 0) ≡ piece_ends (item_at comps k i)
  ends-at k i l = get_or-map piece_ends (items_of comps k) i (record { a = 0; b = 0; what = Real 0 }) (0, 0) l

  place-in : (k i : ℕ) → i < length (items_of comps k) → i < length (skeleton comps k)
  place-in k i l = subst (λ z. i < z) (sym (length-map (items_of comps k) piece_ends)) l

  -- an end of an item is a vertex
  place-vertex : (k i v : ℕ) → i < length (items_of comps k) → is_end_of v (piece_ends (item_at comps k i)) ≡ true → is_vertex (skeleton comps k) v ≡ true
  place-vertex k i v l h = end-vertex (skeleton comps k) i v (place-in k i l) (subst (λ z. is_end_of v z ≡ true) (sym (ends-at k i l)) h)

  -- the two ends of an item differ
  ends-differ : (k i : ℕ) → k < length comps → i < length (items_of comps k) → (piece_ends (item_at comps k i)).0 ≢ (piece_ends (item_at comps k i)).1
  ends-differ k i lk l = subst (λ (z : ℕ × ℕ). z.0 ≢ z.1) (ends-at k i l) (All-get_or (λ (z : ℕ × ℕ). z.0 ≢ z.1) (skeleton comps k) i (0, 0) (place-in k i l) (split.of_kind.kinds k lk).no_loops)

  -- a vertex of a component on the far side of its link, and of one on the near side, is one of the link's ends
  common-end : (k h x v : ℕ) → (l : LinksTo comps k h) → is_vertex (skeleton comps k) v ≡ true → is_beyond comps k h x ≡ true → is_vertex (skeleton comps x) v ≡ true → is_end_of v (piece_ends (item_at comps k l.0)) ≡ true
  common-end k h x v l a b c =
      let near = node-touch g comps split tight k h v l a in
      let i = vertex-item (items_of comps x) v c in
      let far = touches g comps split k h x i.0 v l b i.1 i.2 in
      (split.sides_meet k h l.0 l.1 v).0 (record {
        inside = far.edge;
        outside = near.0;
        inside_edge = far.below;
        outside_edge = near.1;
        inside_end = far.end;
        outside_end = near.2;
        inside_side = far.beyond;
        outside_side = near.3;
      })

  -- a component with at least three vertices does not have all of them at the ends of one pair
  module _ (k j : ℕ) (lk : k < length comps) (lj : j < length comps) (same : (v : ℕ) → is_vertex (skeleton comps k) v ≡ is_vertex (skeleton comps j) v) (n : k ≢ j) where
    abbrev towards : (h : ℕ) × LinksTo comps k h × (is_beyond comps k h j ≡ true)
    towards = beyond-some comps split.linked k j lk lj (λ e. n (sym e))

    abbrev h : ℕ
    h = towards.0

    abbrev ends : ℕ × ℕ
    ends = piece_ends (item_at comps k towards.1.0)

    all-ends : (v : ℕ) → is_vertex (skeleton comps k) v ≡ true → is_end_of v ends ≡ true
    all-ends v a = common-end k h j v towards.1 a towards.2 (sym (same v) ∙ a)

    not-three : (m : ℕ) → 3 ≤ m → HasVertices m (skeleton comps k) → ⊥
    not-three m l o = let t = three-vertices m (skeleton comps k) l o in three-ends ends t.a t.b t.c t.ab t.bc t.ca (all-ends t.a t.a_vertex) (all-ends t.b t.b_vertex) (all-ends t.c t.c_vertex)

    not-small : (x : ℕ) → x < length comps → (component_at comps x).kind ≡ B → ⊥
    not-small x l e = omega (arith, split.of_kind.small_alone x l e, lk, lj, n)

    -- so it is a bond
    is_bond : (kind : Kind) → (component_at comps k).kind ≡ kind → IsOfKind kind (skeleton comps k) → (component_at comps k).kind ≡ P
    is_bond S e o = absurd (not-three 3 (omega arith) o.three)
    is_bond P e o = e
    is_bond R e o = absurd (not-three 4 (omega arith) o.four)
    is_bond B e o = absurd (not-small k lk e)

    bond : (component_at comps k).kind ≡ P
    bond = is_bond (component_at comps k).kind refl (split.of_kind.kinds k lk).of_kind

    -- the neighbour has two items with the same ends
    two-items : (x : ℕ) (l : LinksTo comps h x) → is_beyond comps h x j ≡ true → (b : LinksTo comps h k) → h < length comps → ⊥
    two-items x l o b lh = by_kind (component_at comps h).kind refl (split.of_kind.kinds h lh).of_kind
      where
        first : ℕ × ℕ
        first = piece_ends (item_at comps h b.0)

        second : ℕ × ℕ
        second = piece_ends (item_at comps h l.0)

        back : (i : ℕ) × StandsFor comps h i (Link k) × SameEnds ends (piece_ends (item_at comps h i))
        back = split.linked.back k h towards.1.0 towards.1.1

        back_is : back.0 ≡ b.0
        back_is = split.linked.once h k back.0 b.0 back.1 b.1

        same-first : SameEnds ends first
        same-first = subst (λ z. SameEnds ends (piece_ends (item_at comps h z))) back_is back.2

        in_first : (v : ℕ) → is_end_of v ends ≡ true → is_end_of v first ≡ true
        in_first v a = same-end_back ends first v same-first a

        in_second : (v : ℕ) → is_end_of v ends ≡ true → is_end_of v second ≡ true
        in_second v a = common-end h x j v l (place-vertex h b.0 v (b.1).0 (in_first v a)) o (sym (same v) ∙ place-vertex k towards.1.0 v (towards.1.1).0 a)

        apart : ends.0 ≢ ends.1
        apart = ends-differ k towards.1.0 lk (towards.1.1).0

        one : is_end_of ends.0 ends ≡ true
        one = or_left (ends.0 == ends.0) (ends.1 == ends.0) (eq-eqb ends.0 ends.0 refl)

        other : is_end_of ends.1 ends ≡ true
        other = or_right (ends.0 == ends.1) (ends.1 == ends.1) (eq-eqb ends.1 ends.1 refl)

        same-second : SameEnds ends second
        same-second = both-ends ends second apart (in_second ends.0 one) (in_second ends.1 other)

        places : b.0 ≢ l.0
        places e = both_ways (is_beyond comps h x j)
            (subst (λ z. is_beyond comps h z j ≡ false) (ap number_of (sym (b.1).1 ∙ ap (λ z. (item_at comps h z).what) e ∙ (l.1).1)) (not-true (is_beyond comps h k j) (sym (beyond-other comps split.linked k h j towards.1 lj) ∙ towards.2))) o

        by_kind : (kind : Kind) → (component_at comps h).kind ≡ kind → IsOfKind kind (skeleton comps h) → ⊥
        by_kind S e p = polygon-simple (skeleton comps h) ends b.0 l.0 p (place-in h b.0 (b.1).0) (place-in h l.0 (l.1).0) places
            (λ v a. (subst (λ z. is_end_of v z ≡ true) (sym (ends-at h b.0 (b.1).0)) (in_first v a), subst (λ z. is_end_of v z ≡ true) (sym (ends-at h l.0 (l.1).0)) (in_second v a), place-vertex h b.0 v (b.1).0 (in_first v a)))
            (λ v a. same-end ends first v same-first (subst (λ z. is_end_of v z ≡ true) (ends-at h b.0 (b.1).0) a))
            (λ v a. same-end ends second v same-second (subst (λ z. is_end_of v z ≡ true) (ends-at h l.0 (l.1).0) a))
        by_kind P e p = no_bonds k h towards.1 bond e
        by_kind R e p = places (p.simple b.0 l.0 (place-in h b.0 (b.1).0) (place-in h l.0 (l.1).0)
            (subst (λ z. SameEnds z (slice_index_or (skeleton comps h) l.0 (0, 0))) (sym (ends-at h b.0 (b.1).0)) (subst (SameEnds first) (sym (ends-at h l.0 (l.1).0)) (same-trans first ends second (same-sym ends first same-first) same-second))))
        by_kind B e p = not-small h lh e

  -- no two components have the same vertices
  pub same-vertices : (k j : ℕ) → k < length comps → j < length comps → ((v : ℕ) → is_vertex (skeleton comps k) v ≡ is_vertex (skeleton comps j) v) → k ≢ j → ⊥
  same-vertices k j lk lj same n = elim (cases_eq w.0 j) [
    | inl e ↦ no_bonds k j (subst (LinksTo comps k) e w.1) (bond k j lk lj same n) (bond j k lj lk (λ v. sym (same v)) (λ q. n (sym q)))
    | inr m ↦ let x = beyond-some comps split.linked w.0 j near lj (λ q. m (sym q)) in two-items k j lk lj same n x.0 x.1 x.2 back near
  ]
    where
      w : (h : ℕ) × LinksTo comps k h × (is_beyond comps k h j ≡ true)
      w = towards k j lk lj same n

      back : LinksTo comps w.0 k
      back = link-back comps split.linked k w.0 w.1

      near : w.0 < length comps
      near = link-from comps split.linked w.0 k back

-- in a block, components with the same vertices are the same one
pub vertices-tell : VerticesTellComponents
vertices-tell g comps block split no_polygons no_bonds k j lk lj same = elim (cases_eq k j) [
  | inl e ↦ e
  | inr n ↦ absurd (same-vertices g comps split (one_block-tight g block) no_polygons no_bonds k j lk lj same n)
]
