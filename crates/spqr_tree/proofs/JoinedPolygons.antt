-- Two polygons with an edge each that have the same ends, and no other vertex in common: without these two edges they are one polygon.
use Rattle.std.proofs.Common.{◌≡◌, ◌≢◌, ℕ, ◌+◌, ◌<◌, ◌≤◌, ◌==◌, ◌&&◌, ◌||◌, inl, inr, Bool, true, false, not, cond, List, [], ◌∷◌, length, filter, slice_index_or, refl, sym, ap, ◌∙◌, subst, arith, All}
use Rattle.std.proofs.lemmas.Bool.{cases_Bool, cases_lt, and_parts, and_from, or_cases, or_parts, or_left, or_right, both_ways, eq-eqb, eqb-true, true_from_ne_false, true≢false}
use Rattle.std.proofs.lemmas.List.{get_or_default}
use Rattle.permutations.specs.Relation.{connected}
use Rattle.permutations.proofs.Relation.{same-tests, connected-reflexive, connected-symmetric, connected-transitive, connected-closed, connected-links}
use Rattle.pair_split.specs.Skeleton.{is_end_of, SameEnds, is_vertex, degree, IsPolygon}
use Rattle.spqr_tree.proofs.MergeCounts.{number-cons, number-from, number-some, number-none}
use Rattle.spqr_tree.proofs.MergeTouch.{ends-same}
use Rattle.spqr_tree.proofs.JoinedBonds.{AreJoined}
use Rattle.spqr_tree.proofs.JoinedParity.{crosses, crosses-even}

-- a vertex has an edge
pub vertex-degree : (skeleton : List (ℕ × ℕ)) (v : ℕ) → is_vertex skeleton v ≡ true → 1 ≤ degree skeleton v
vertex-degree [] v h = absurd (true≢false (sym h))
vertex-degree (ends ∷ skeleton) v h = elim (or_cases (is_end_of v ends) (is_vertex skeleton v) h) [
  | inl a ↦ rw a (omega arith)
  | inr a ↦ omega (arith, number-cons (is_end_of v) ends skeleton, vertex-degree skeleton v a)
]

-- where there is an edge at v, v is a vertex
pub degree-vertex : (skeleton : List (ℕ × ℕ)) (v : ℕ) → 1 ≤ degree skeleton v → is_vertex skeleton v ≡ true
degree-vertex [] v l = absurd (omega (arith, l))
degree-vertex (ends ∷ skeleton) v l = elim (cases_Bool (is_end_of v ends)) [
  | inl a ↦ or_left (is_end_of v ends) (is_vertex skeleton v) a
  | inr a ↦ or_right (is_end_of v ends) (is_vertex skeleton v) (degree-vertex skeleton v (rw a at l))
]

-- an end of an edge is a vertex
pub end-vertex : (skeleton : List (ℕ × ℕ)) (i v : ℕ) → i < length skeleton → is_end_of v (slice_index_or skeleton i (0, 0)) ≡ true → is_vertex skeleton v ≡ true
end-vertex skeleton i v l h = degree-vertex skeleton v (number-from (0, 0) (is_end_of v) skeleton i l h)

-- in a polygon each number has two edges or none
pub polygon-degree : (skeleton : List (ℕ × ℕ)) → IsPolygon skeleton → (v : ℕ) → degree skeleton v ≡ cond (is_vertex skeleton v) 1 0 + cond (is_vertex skeleton v) 1 0
polygon-degree skeleton b v = elim (cases_Bool (is_vertex skeleton v)) [
  | inl t ↦ rw t (b.degrees v t)
  | inr t ↦ rw t (elim (cases_lt 0 (degree skeleton v)) [ inl l ↦ absurd (both_ways (is_vertex skeleton v) t (degree-vertex skeleton v l)) | inr l ↦ omega (arith, l) ])
]

-- whether two pairs are the same pair
same_pair : ℕ × ℕ → ℕ × ℕ → Bool
same_pair x y = (x.0 == y.0) && (x.1 == y.1)

same_pair-own : (x : ℕ × ℕ) → same_pair x x ≡ true
unfolding same_pair
same_pair-own x = and_from (x.0 == x.0) (x.1 == x.1) (eq-eqb x.0 x.0 refl) (eq-eqb x.1 x.1 refl)

-- a value of the first number that is one of the second number, at one pair, is so at the same pair
same_pair-value : (s : ℕ → Bool) (x y : ℕ × ℕ) → same_pair x y ≡ true → s y.0 ≡ s y.1 → s x.0 ≡ s x.1
unfolding same_pair
same_pair-value s x y h e = let w = and_parts (x.0 == y.0) (x.1 == y.1) h in ap s (eqb-true x.0 y.0 w.0) ∙ e ∙ sym (ap s (eqb-true x.1 y.1 w.1))

-- the test does not depend on the order of the ends
crosses-same : (s : ℕ → Bool) (x y : ℕ × ℕ) → SameEnds x y → crosses s x ≡ crosses s y
crosses-same s x y (inl e) = rw (e.0, e.1) refl
crosses-same s x y (inr e) = rw (e.0, e.1) (grind (arith, cases_Bool (s y.0), cases_Bool (s y.1)))

crosses-not : (s : ℕ → Bool) (x : ℕ × ℕ) → crosses s x ≡ false → s x.0 ≡ s x.1
crosses-not s x h = grind (arith, h, cases_Bool (s x.0), cases_Bool (s x.1))

-- nor does it matter for two equal values
value-same : (s : ℕ → Bool) (x y : ℕ × ℕ) → SameEnds x y → s x.0 ≡ s x.1 → s y.0 ≡ s y.1
value-same s x y (inl e) h = sym (ap s e.0) ∙ h ∙ ap s e.1
value-same s x y (inr e) h = sym (ap s e.1) ∙ sym h ∙ ap s e.0

-- what a test that fails and one that passes count
counts-none : (x : Bool) → x ≡ false → cond {A = ℕ} x 1 0 ≡ 0
counts-none x e = rw e refl

counts-one : (x : Bool) → x ≡ true → cond {A = ℕ} x 1 0 ≡ 1
counts-one x e = rw e refl

module _ (one other : List (ℕ × ℕ)) (p q : ℕ × ℕ) (whole : List (ℕ × ℕ)) (j : AreJoined one other p q whole) (b : IsPolygon one) (c : IsPolygon other)
    (one-loops : All (λ ends. ends.0 ≢ ends.1) one) (other-loops : All (λ ends. ends.0 ≢ ends.1) other)
    (apart : (v : ℕ) → is_vertex one v ≡ true → is_vertex other v ≡ true → is_end_of v p ≡ true) where
  -- the ends of the edge p are vertices of both
  end-one : (v : ℕ) → is_end_of v p ≡ true → is_vertex one v ≡ true
  end-one v h = end-vertex one j.first.0 v j.first.1 (subst (λ (x : ℕ × ℕ). is_end_of v x ≡ true) (sym j.first.2) h)

  end-other : (v : ℕ) → is_end_of v p ≡ true → is_vertex other v ≡ true
  end-other v h = end-vertex other j.second.0 v j.second.1 (subst (λ (x : ℕ × ℕ). is_end_of v x ≡ true) (sym j.second.2) (sym (ends-same p q v j.same) ∙ h))

  -- how many edges there are at v
  sum : (v : ℕ) → degree whole v + (cond (is_end_of v p) 1 0 + cond (is_end_of v p) 1 0) ≡ degree one v + degree other v
  sum v = subst (λ (x : Bool). degree whole v + (cond (is_end_of v p) 1 0 + cond x 1 0) ≡ degree one v + degree other v) (sym (ends-same p q v j.same)) (j.counts (is_end_of v))

  -- at a vertex of the one or the other there are two
  two : (v : ℕ) → (is_vertex one v || is_vertex other v) ≡ true → degree whole v ≡ 2
  two v h = at (is_vertex one v) (is_vertex other v) (is_end_of v p) (degree whole v) (degree one v) (degree other v) h (apart v) (end-one v) (end-other v) (sum v) (polygon-degree one b v) (polygon-degree other c v)
    where
      at : (x y e : Bool) (w d f : ℕ) → (x || y) ≡ true → (x ≡ true → y ≡ true → e ≡ true) → (e ≡ true → x ≡ true) → (e ≡ true → y ≡ true)
          → w + (cond e 1 0 + cond e 1 0) ≡ d + f → d ≡ cond x 1 0 + cond x 1 0 → f ≡ cond y 1 0 + cond y 1 0 → w ≡ 2
      at true true true w d f h a m n s i k = omega (arith, s, i, k)
      at true true false w d f h a m n s i k = absurd (true≢false (sym (a refl refl)))
      at true false true w d f h a m n s i k = absurd (true≢false (sym (n refl)))
      at true false false w d f h a m n s i k = omega (arith, s, i, k)
      at false true true w d f h a m n s i k = absurd (true≢false (sym (m refl)))
      at false true false w d f h a m n s i k = omega (arith, s, i, k)
      at false false e w d f h a m n s i k = absurd (true≢false (sym h))

  -- a vertex of the whole is one of the one or the other
  either : (v : ℕ) → is_vertex whole v ≡ true → (is_vertex one v || is_vertex other v) ≡ true
  either v h = true_from_ne_false (is_vertex one v || is_vertex other v) (λ f. let w = or_parts (is_vertex one v) (is_vertex other v) f in absurd (omega (arith, vertex-degree whole v h, sum v, none one b v w.0, none other c v w.1)))
    where
      none : (skeleton : List (ℕ × ℕ)) → IsPolygon skeleton → (v : ℕ) → is_vertex skeleton v ≡ false → degree skeleton v ≡ 0
      none skeleton d v f = polygon-degree skeleton d v ∙ ap (λ (z : Bool). cond z 1 0 + cond z 1 0) f

  -- and those are vertices of the whole
  whole-vertex : (v : ℕ) → (is_vertex one v || is_vertex other v) ≡ true → is_vertex whole v ≡ true
  whole-vertex v h = degree-vertex whole v (omega (arith, two v h))

  module _ (s : ℕ → Bool) (o : (i : ℕ) → i < length whole → s (slice_index_or whole i (0, 0)).0 ≡ s (slice_index_or whole i (0, 0)).1) where
    -- a test that the edges of the whole respect is respected by the edges p and q
    bridged : s p.0 ≡ s p.1
    bridged = elim (cases_Bool (crosses s p)) [
      | inr f ↦ crosses-not s p f
      | inl t ↦
          let h = crosses-even s one one-loops (λ v. cond (is_vertex one v) 1 0) (polygon-degree one b) in
          let k = crosses-even s other other-loops (λ v. cond (is_vertex other v) 1 0) (polygon-degree other c) in
          let same : crosses s q ≡ true = sym (crosses-same s p q j.same) ∙ t in
          absurd (omega (
            arith,
            h.1,
            k.1,
            number-from (0, 0) (crosses s) one j.first.0 j.first.1 (ap (crosses s) j.first.2 ∙ t),
            number-from (0, 0) (crosses s) other j.second.0 j.second.1 (ap (crosses s) j.second.2 ∙ same),
            j.counts (crosses s),
            counts-one (crosses s p) t,
            counts-one (crosses s q) same,
            number-none (0, 0) (crosses s) whole (λ i l. level (s (slice_index_or whole i (0, 0)).0) (s (slice_index_or whole i (0, 0)).1) (o i l)),
          ))
    ]
      where
        level : (x y : Bool) → x ≡ y → ((x && not y) || (y && not x)) ≡ false
        level x y e = grind (arith, e, cases_Bool x, cases_Bool y)

    -- an edge of either is p or q or one of the whole
    respected : (x : ℕ × ℕ) → 1 ≤ length (filter (same_pair x) one) + length (filter (same_pair x) other) → s x.0 ≡ s x.1
    respected x l = elim (cases_Bool (same_pair x p)) [
      | inl t ↦ same_pair-value s x p t bridged
      | inr f ↦ elim (cases_Bool (same_pair x q)) [
        | inl t ↦ same_pair-value s x q t (value-same s p q j.same bridged)
        | inr g ↦ let w = number-some (0, 0) (same_pair x) whole (omega (arith, l, j.counts (same_pair x), counts-none (same_pair x p) f, counts-none (same_pair x q) g)) in
            same_pair-value s x (slice_index_or whole w.0 (0, 0)) w.2 (o w.0 w.1)
      ]
    ]

    -- so it is the same at all vertices of the one, and at all of the other
    one-value : (u v : ℕ) → is_vertex one u ≡ true → is_vertex one v ≡ true → s u ≡ s v
    one-value u v h k = connected-closed one s (λ i d l. subst (λ (x : ℕ × ℕ). s x.0 ≡ s x.1) (get_or_default one i (0, 0) d l)
        (respected (slice_index_or one i (0, 0)) (omega (arith, number-from (0, 0) (same_pair (slice_index_or one i (0, 0))) one i l (same_pair-own (slice_index_or one i (0, 0))))))) u v (b.connects u v h k)

    other-value : (u v : ℕ) → is_vertex other u ≡ true → is_vertex other v ≡ true → s u ≡ s v
    other-value u v h k = connected-closed other s (λ i d l. subst (λ (x : ℕ × ℕ). s x.0 ≡ s x.1) (get_or_default other i (0, 0) d l)
        (respected (slice_index_or other i (0, 0)) (omega (arith, number-from (0, 0) (same_pair (slice_index_or other i (0, 0))) other i l (same_pair-own (slice_index_or other i (0, 0))))))) u v (c.connects u v h k)

    -- and at all of the whole
    whole-value : (v : ℕ) → is_vertex whole v ≡ true → s v ≡ s p.0
    whole-value v h = elim (or_cases (is_vertex one v) (is_vertex other v) (either v h)) [
      | inl a ↦ one-value v p.0 a (end-one p.0 own)
      | inr a ↦ other-value v p.0 a (end-other p.0 own)
    ]
      where
        own : is_end_of p.0 p ≡ true
        own = or_left (p.0 == p.0) (p.1 == p.0) (eq-eqb p.0 p.0 refl)

  -- two polygons joined are a polygon
  pub polygons-joined : IsPolygon whole
  polygons-joined = record {
    connects = λ u v h k. value u v k ∙ sym (value u u h) ∙ connected-reflexive whole u;
    degrees = λ v h. two v (either v h);
    three = record {
      vertices = b.three.vertices;
      enough = b.three.enough;
      distinct = b.three.distinct;
      are_vertices = λ i d l. whole-vertex (slice_index_or b.three.vertices i d) (or_left (is_vertex one (slice_index_or b.three.vertices i d)) (is_vertex other (slice_index_or b.three.vertices i d)) (b.three.are_vertices i d l));
    };
  }
    where
      linked : (i : ℕ) → i < length whole → connected whole (slice_index_or whole i (0, 0)).0 (slice_index_or whole i (0, 0)).1 ≡ true
      linked i l = connected-links whole i (0, 0) l

      value : (u v : ℕ) → is_vertex whole v ≡ true → connected whole u v ≡ connected whole u p.0
      value u v k = whole-value (connected whole u) (λ i l. same-tests (connected whole u (slice_index_or whole i (0, 0)).0) (connected whole u (slice_index_or whole i (0, 0)).1)
          (λ h. connected-transitive whole u (slice_index_or whole i (0, 0)).0 (slice_index_or whole i (0, 0)).1 h (linked i l))
          (λ h. connected-transitive whole u (slice_index_or whole i (0, 0)).1 (slice_index_or whole i (0, 0)).0 h (connected-symmetric whole (slice_index_or whole i (0, 0)).0 (slice_index_or whole i (0, 0)).1 (linked i l)))) v k
