-- Sums over the items at the vertices of a node, and what they say of a polygon: two items meet at a vertex, and the sum of their places tells
-- the one by the other.
use Rattle.std.proofs.Common.{◌≡◌, ◌≢◌, ℕ, ◌+◌, ◌-◌, ◌*◌, ◌<◌, ◌≤◌, Bool, true, false, ◌||◌, ◌==◌, cond, inl, inr, List, length, slice_index_or, slice_set, refl, sym, ap, ap₂, ◌∙◌, subst, arith, eq-eqb, eqb-true}
use Rattle.std.proofs.lemmas.Bool.{cases_eq, or_cases, or_left, or_right}
use Rattle.std.proofs.lemmas.List.{length-set, get_or-set_same, get_or-set_other}
use Rattle.permutations.specs.Cyclic.{successor}
use Rattle.permutations.specs.Members.{place_of}
use Rattle.permutations.proofs.Places.{place-of}
use Rattle.permutations.proofs.Relation.{same-tests}
use Rattle.permutations.proofs.Count.{count-single}
use Rattle.permutations.proofs.Sums.{sum_below-ext, sum_below-add, sum_below-times, sum_below-le, sum_below-const}
use Rattle.permutations.specs.Count.{sum_below}
use Rattle.permutations.proofs.Successor.{successor-member}
use Rattle.multigraph.specs.Graph.{Multigraph, IsWithinLimits}
use Rattle.rotations.specs.Rotation.{order_at, IsRotationSystem}
use Rattle.pair_split.specs.Skeleton.{is_end_of, IsPolygon}
use Rattle.pair_split.specs.Split.{skeleton}
use Rattle.pair_split.specs.Tutte.{Node, components, node_at, node_item}
use Rattle.pair_split.specs.declared.components.Item.{Item}
use Rattle.pair_split.specs.declared.components.Kind.TheVariants.{S}
use Rattle.skeletons.specs.Items.{ends_item, nth_item, has_vertex, IsBlockTree}
use Rattle.skeletons.specs.Families.{skeleton_graph}
use Rattle.skeletons.specs.Moves.{IsNodeOfKind}
use Rattle.skeletons.proofs.NodeItems.{item-vertex}
use Rattle.skeletons.proofs.Places.{round-item, item-round}
use Rattle.skeleton_runs.proofs.Sturdy.{polygon-two}
use Rattle.skeleton_planes.proofs.Linked.{dart-at}
use Rattle.skeleton_planes.proofs.OneSystem.{kind-of}
use Rattle.skeleton_planes.proofs.PolygonSkeleton.{pair-in, pair-end, next-other}
use Rattle.skeleton_planes.proofs.RunTests.{end_of}
use Rattle.skel_compose.specs.Followers.{IsItemEnd}
use Rattle.skel_compose.specs.EndSums.{end_sum, AreEndSums}
use Rattle.skel_compose.proofs.Found.{items-few}

-- the sum over items that are few is small
pub end_sum-small : (items : List Item) (v count : ℕ) → count ≤ 50000 → end_sum items v count ≤ count * 50000
end_sum-small items v count few = subst (λ z. end_sum items v count ≤ z) (sum_below-const count 50000) (sum_below-le count (λ i. cond (ends_item v (nth_item items i)) i 0) (λ i. 50000) (λ i l. at i (ends_item v (nth_item items i)) l))
  where
    at : (i : ℕ) (t : Bool) → i < count → cond t i 0 ≤ 50000
    at i true l = omega (arith, l, few)
    at i false l = omega arith

-- sums cleared, vertex by vertex
pub clear-more : (vertices sums : List ℕ) (q : ℕ) → q < length vertices → ((p : ℕ) → p < q → slice_index_or sums (slice_index_or vertices p 0) 0 ≡ 0) → slice_index_or vertices q 0 < length sums
    → (p : ℕ) → p < q + 1 → slice_index_or (slice_set sums (slice_index_or vertices q 0) 0) (slice_index_or vertices p 0) 0 ≡ 0
clear-more vertices sums q inside old within p l = elim (cases_eq (slice_index_or vertices p 0) (slice_index_or vertices q 0)) [
  | inl e ↦ ap (λ z. slice_index_or (slice_set sums (slice_index_or vertices q 0) 0) z 0) e ∙ get_or-set_same sums (slice_index_or vertices q 0) 0 0 within
  | inr n ↦ get_or-set_other sums (slice_index_or vertices q 0) (slice_index_or vertices p 0) 0 0 n ∙ old p (elim (cases_eq p q) [ inl e ↦ absurd (n (ap (λ z. slice_index_or vertices z 0) e)) | inr d ↦ omega (arith, l, d) ])
]

-- all of them
pub cleared : (nodes : List Node) (k : ℕ) (sums : List ℕ) (q : ℕ) → length (node_at nodes k).vertices ≤ q → ((v : ℕ) → has_vertex nodes k v ≡ true → v < length sums)
    → ((p : ℕ) → p < q → slice_index_or sums (slice_index_or (node_at nodes k).vertices p 0) 0 ≡ 0) → AreEndSums nodes k 0 sums
cleared nodes k sums q e within zeros v h = let p = place-of (node_at nodes k).vertices v h in (within v h, ap (λ z. slice_index_or sums z 0) (sym p.2) ∙ zeros p.0 (omega (arith, p.1, e)))

-- the ends of an item at which its place is added, and the sums there
module _ (g : Multigraph) (nodes : List Node) (b : IsBlockTree g nodes) (limits : IsWithinLimits g) (k : ℕ) (l : k < length nodes) (count : ℕ) (m : count < length (node_at nodes k).items) (sums : List ℕ) (old : AreEndSums nodes k count sums)
    (items : List Item) (e : items ≡ (node_at nodes k).items) where
  abbrev first_end : ℕ
  first_end = (nth_item items count).a

  abbrev second_end : ℕ
  second_end = (nth_item items count).b

  few : count ≤ 50000
  few = let n = items-few g nodes b k l limits in omega (arith, m, n)

  first-has : has_vertex nodes k (nth_item items count).a ≡ true
  first-has = subst (λ (z : List Item). has_vertex nodes k (nth_item z count).a ≡ true) (sym e) (item-vertex g nodes b.tree k (node_item nodes k count).a count l m (or_left ((node_item nodes k count).a == (node_item nodes k count).a) ((node_item nodes k count).b == (node_item nodes k count).a) (eq-eqb (node_item nodes k count).a (node_item nodes k count).a refl)))

  second-has : has_vertex nodes k (nth_item items count).b ≡ true
  second-has = subst (λ (z : List Item). has_vertex nodes k (nth_item z count).b ≡ true) (sym e) (item-vertex g nodes b.tree k (node_item nodes k count).b count l m (or_right ((node_item nodes k count).a == (node_item nodes k count).b) ((node_item nodes k count).b == (node_item nodes k count).b) (eq-eqb (node_item nodes k count).b (node_item nodes k count).b refl)))

  differ : (nth_item items count).a ≢ (nth_item items count).b
  differ q = let r = b.tree.in_order.ends_rise k count m in omega (arith, r, ap (λ (z : List Item). (nth_item z count).a) e, ap (λ (z : List Item). (nth_item z count).b) e, q)

  small : (v : ℕ) → has_vertex nodes k v ≡ true → slice_index_or sums v 0 + count ≤ 2500050000
  small v h = omega (arith, (old v h).1, end_sum-small (node_at nodes k).items v count few, few)

  pub first-in : (nth_item items count).a < length sums
  first-in = (old first_end first-has).0

  pub first-small : slice_index_or sums (nth_item items count).a 0 + count ≤ 2500050000
  first-small = small first_end first-has

  pub second-in : (nth_item items count).b < length (slice_set sums (nth_item items count).a (slice_index_or sums (nth_item items count).a 0 + count))
  second-in = subst (λ n. second_end < n) (sym (length-set sums first_end (slice_index_or sums first_end 0 + count))) ((old second_end second-has).0)

  pub second-small : slice_index_or (slice_set sums (nth_item items count).a (slice_index_or sums (nth_item items count).a 0 + count)) (nth_item items count).b 0 + count ≤ 2500050000
  second-small = subst (λ n. n + count ≤ 2500050000) (sym (get_or-set_other sums first_end second_end (slice_index_or sums first_end 0 + count) 0 (λ q. differ (sym q)))) (small second_end second-has)

-- the sum over two numbers
one-of : (n p : ℕ) → p < n → sum_below n (λ y. cond (y == p) p 0) ≡ p
one-of n p l = omega (arith, sum_below-times n (λ y. y == p) p, ap (λ z. p * z) (count-single n p l))

sum-two : (n : ℕ) (s : ℕ → Bool) (p q : ℕ) → p < n → q < n → p ≢ q → ((y : ℕ) → y < n → s y ≡ ((y == p) || (y == q))) → sum_below n (λ y. cond (s y) y 0) ≡ p + q
sum-two n s p q lp lq two is = sum_below-ext n (λ y. cond (s y) y 0) (λ y. cond (y == p) p 0 + cond (y == q) q 0) each ∙ sum_below-add n (λ y. cond (y == p) p 0) (λ y. cond (y == q) q 0) ∙ ap₂ (λ a b. a + b) (one-of n p lp) (one-of n q lq)
  where
    at : (y : ℕ) (a b : Bool) → (a ≡ true → y ≡ p) → (b ≡ true → y ≡ q) → cond (a || b) y 0 ≡ cond a p 0 + cond b q 0
    at y true true f h = absurd (two (sym (f refl) ∙ h refl))
    at y true false f h = let e : y ≡ p = f refl in omega (arith, e)
    at y false true f h = let e : y ≡ q = h refl in omega (arith, e)
    at y false false f h = refl

    each : (y : ℕ) → y < n → cond (s y) y 0 ≡ cond (y == p) p 0 + cond (y == q) q 0
    each y l = ap (λ (t : Bool). cond t y 0) (is y l) ∙ at y (y == p) (y == q) (eqb-true y p) (eqb-true y q)

-- a polygon, with a rotation system of its skeleton
module _ (g : Multigraph) (nodes : List Node) (b : IsBlockTree g nodes) (k : ℕ) (is : IsNodeOfKind nodes k S) (s : List (List ℕ)) (system : IsRotationSystem (skeleton_graph nodes k) s) (i v : ℕ) (m : IsItemEnd nodes k i v) where
  polygon : IsPolygon (skeleton (components nodes) k)
  polygon = kind-of g nodes b k S is

  abbrev pairs : List (ℕ × ℕ)
  pairs = skeleton (components nodes) k

  has : has_vertex nodes k v ≡ true
  has = item-vertex g nodes b.tree k v i is.0 m.is_item m.end

  abbrev next : ℕ
  next = successor (order_at s (place_of (node_at nodes k).vertices v)) i

  next-in : (successor (order_at s (place_of (node_at nodes k).vertices v)) i < length (node_at nodes k).items) × (ends_item v (node_item nodes k (successor (order_at s (place_of (node_at nodes k).vertices v)) i)) ≡ true)
  next-in = round-item g nodes b.tree k is.0 s v next system has
      (successor-member (order_at s (place_of (node_at nodes k).vertices v)) i (item-round g nodes b.tree k is.0 s v i system has m.is_item m.end))

  -- an end of an item as one of its pair
  pair-has : (j : ℕ) → j < length (node_at nodes k).items → ends_item v (node_item nodes k j) ≡ true → is_end_of v (slice_index_or pairs j (0, 0)) ≡ true
  pair-has j l h =
      let z = dart-at nodes k j v h in
      subst (λ x. is_end_of x (slice_index_or pairs j (0, 0)) ≡ true) z.2 (subst (λ x. is_end_of (end_of nodes k z.0) (slice_index_or pairs x (0, 0)) ≡ true) z.1 (pair-end g nodes b k is.0 z.0 (subst (λ x. x < length (node_at nodes k).items) (sym z.1) l)))

  -- the next item is another one
  differs : successor (order_at s (place_of (node_at nodes k).vertices v)) i ≢ i
  differs =
      let z = dart-at nodes k i v m.end in
      subst (λ x. successor (order_at s (place_of (node_at nodes k).vertices x)) i ≢ i) z.2
      (subst (λ x. successor (order_at s (place_of (node_at nodes k).vertices (end_of nodes k z.0))) x ≢ x) z.1
      (next-other g nodes b k is.0 s system polygon z.0 (subst (λ x. x < length (node_at nodes k).items) (sym z.1) m.is_item)))

  -- the two are all that meet there
  both : (j : ℕ) → j < length (node_at nodes k).items → ends_item v (node_item nodes k j) ≡ ((j == i) || (j == successor (order_at s (place_of (node_at nodes k).vertices v)) i))
  both j l = same-tests (ends_item v (node_item nodes k j)) ((j == i) || (j == next))
      (λ t. elim (polygon-two pairs v i next j polygon (pair-in g nodes b k is.0 i m.is_item) (pair-in g nodes b k is.0 next next-in.0) (pair-in g nodes b k is.0 j l) (λ e. differs (sym e)) (pair-has i m.is_item m.end) (pair-has next next-in.0 next-in.1) (pair-has j l t)) [
        | inl e ↦ or_left (j == i) (j == next) (eq-eqb j i e)
        | inr e ↦ or_right (j == i) (j == next) (eq-eqb j next e)
      ])
      (λ t. elim (or_cases (j == i) (j == next) t) [
        | inl e ↦ subst (λ x. ends_item v (node_item nodes k x) ≡ true) (sym (eqb-true j i e)) m.end
        | inr e ↦ subst (λ x. ends_item v (node_item nodes k x) ≡ true) (sym (eqb-true j next e)) next-in.1
      ])

  pub polygon-sum : end_sum (node_at nodes k).items v (length (node_at nodes k).items) ≡ i + successor (order_at s (place_of (node_at nodes k).vertices v)) i
  polygon-sum = sum-two (length (node_at nodes k).items) (λ j. ends_item v (node_item nodes k j)) i next m.is_item next-in.0 (λ e. differs (sym e)) both

  -- what is read at the vertex
  pub sum-in : (sums : List ℕ) → AreEndSums nodes k (length (node_at nodes k).items) sums → v < length sums
  sum-in sums a = (a v has).0

  pub sum-is : (sums : List ℕ) → AreEndSums nodes k (length (node_at nodes k).items) sums → slice_index_or sums v 0 ≡ i + successor (order_at s (place_of (node_at nodes k).vertices v)) i
  sum-is sums a = (a v has).1 ∙ polygon-sum

  -- so the sum without the one is the other
  pub other-is : (sums : List ℕ) → AreEndSums nodes k (length (node_at nodes k).items) sums → slice_index_or sums v 0 - i ≡ successor (order_at s (place_of (node_at nodes k).vertices v)) i
  other-is sums a = omega (arith, sum-is sums a)

  pub other-in : successor (order_at s (place_of (node_at nodes k).vertices v)) i < length (node_at nodes k).items
  other-in = next-in.0
