-- The set of the pairs of vertices that are joined, while edges are added.
use Rattle.std.proofs.Common.{◌≡◌, ℕ, ◌+◌, ◌*◌, ◌<◌, inl, inr, Bool, true, cond, ◌&&◌, ◌||◌, ◌==◌, [], min, max, refl, sym, ap, ap₂, ◌∙◌, arith}
use Rattle.std.specs.Ordering.{nat_cmp, ordering_then, is_eq}
use Rattle.std.specs.declared.cmp.Ordering.{Ordering}
use Rattle.std.specs.BTreeSet.{BTreeSet, contains}
use Rattle.std.specs.BTreeMap.{is_at}
use Rattle.std.proofs.lemmas.Bool.{cases_Bool, cases_eq, cases_order, lt-ltb, le-ltb, eq-eqb, eqb-true, ne_eqb, or_cases, or_left, or_right, and_from, and_parts}
use Rattle.permutations.specs.Count.{some}
use Rattle.permutations.proofs.Search.{some-more, some-ext}
use Rattle.permutations.proofs.Relation.{same-tests}
use Rattle.dart_maps.specs.Map.{twin}
use Rattle.dart_maps.proofs.Darts.{twin-below, twin-back}
use Rattle.multigraph.specs.Graph.{Multigraph, edge_count, ends_of}
use Rattle.faces.specs.Euler.{tail}
use Rattle.faces.proofs.DartLemmas.{tail-first, tail-second}
use Rattle.drawn_maps.proofs.Drawn.{twin-last, tail-old, tail-new, tail-new_second, more-edges}
use Rattle.triangulations.specs.Cutting.{second_head, cut_graph}
use Rattle.triangulations.specs.Pairs.{pair_cmp, ordered, has_pair, is_pair, AddsPair, KnowsEdges, KnowsPairs}

-- numbers compare as equal where they are
number-test : (x y : ℕ) → is_eq (nat_cmp x y) ≡ (x == y)
number-test x y = elim (cases_order x y) [
  | inl e ↦ rw (le-ltb x y (omega (arith, e)), eq-eqb x y e) refl
  | inr w ↦ elim w [
    | inl l ↦ rw (lt-ltb x y l, ne_eqb x y (λ e. omega (arith, l, e))) refl
    | inr l ↦ rw (le-ltb x y (omega (arith, l)), ne_eqb x y (λ e. omega (arith, l, e))) refl
  ]
]

-- and pairs where both parts are
both-test : (x y : ℕ) (o : Ordering) (r : Bool) → is_eq o ≡ r → is_eq (ordering_then (nat_cmp x y) o) ≡ ((x == y) && r)
both-test x y o r h = elim (cases_order x y) [
  | inl e ↦ rw (le-ltb x y (omega (arith, e)), eq-eqb x y e) h
  | inr w ↦ elim w [
    | inl l ↦ rw (lt-ltb x y l, ne_eqb x y (λ e. omega (arith, l, e))) refl
    | inr l ↦ rw (le-ltb x y (omega (arith, l)), ne_eqb x y (λ e. omega (arith, l, e))) refl
  ]
]

-- ordered pairs are equal where the two pairs have the same members
pub ordered-test : (a b u v : ℕ) → is_at (pair_cmp (ordered a b)) (ordered u v) ≡ is_pair a b u v
ordered-test a b u v = both-test (min a b) (min u v) (nat_cmp (max a b) (max u v)) (max a b == max u v) (number-test (max a b) (max u v)) ∙ same-tests ((min a b == min u v) && (max a b == max u v)) (is_pair a b u v)
    (λ t. let w = and_parts (min a b == min u v) (max a b == max u v) t in there (eqb-true (min a b) (min u v) w.0) (eqb-true (max a b) (max u v) w.1))
    back
  where
    there : min a b ≡ min u v → max a b ≡ max u v → is_pair a b u v ≡ true
    there i j = elim (cases_eq a u) [
      | inl e ↦ or_left ((a == u) && (b == v)) ((a == v) && (b == u)) (and_from (a == u) (b == v) (eq-eqb a u e) (eq-eqb b v (omega (arith, i, j, e))))
      | inr n ↦ or_right ((a == u) && (b == v)) ((a == v) && (b == u)) (and_from (a == v) (b == u) (eq-eqb a v (omega (arith, i, j, n))) (eq-eqb b u (omega (arith, i, j, n))))
    ]

    back : is_pair a b u v ≡ true → ((min a b == min u v) && (max a b == max u v)) ≡ true
    back t = elim (or_cases ((a == u) && (b == v)) ((a == v) && (b == u)) t) [
      | inl r ↦ let w = and_parts (a == u) (b == v) r in let e = eqb-true a u w.0 in let f = eqb-true b v w.1 in
          and_from (min a b == min u v) (max a b == max u v) (eq-eqb (min a b) (min u v) (omega (arith, e, f))) (eq-eqb (max a b) (max u v) (omega (arith, e, f)))
      | inr r ↦ let w = and_parts (a == v) (b == u) r in let e = eqb-true a v w.0 in let f = eqb-true b u w.1 in
          and_from (min a b == min u v) (max a b == max u v) (eq-eqb (min a b) (min u v) (omega (arith, e, f))) (eq-eqb (max a b) (max u v) (omega (arith, e, f)))
    ]

-- a set after a pair was put in
pub pair-added : (old new : BTreeSet (ℕ × ℕ)) (key : ℕ × ℕ) (a b : ℕ) → key ≡ ordered a b → ((q : ℕ × ℕ) → contains pair_cmp new q ≡ cond (is_at (pair_cmp key) q) true (contains pair_cmp old q)) → AddsPair old a b new
pair-added old new key a b e h u v = h (ordered u v) ∙ ap (λ k. cond (is_at (pair_cmp k) (ordered u v)) true (has_pair old u v)) e ∙ ap (λ t. cond t true (has_pair old u v)) (ordered-test a b u v) ∙ either (is_pair a b u v) (has_pair old u v)
  where
    either : (t s : Bool) → cond t true s ≡ (t || s)
    either t s = elim (cases_Bool t) [ inl i ↦ rw i refl | inr i ↦ rw i refl ]

-- a search two numbers further
some-two : (k : ℕ) (p : ℕ → Bool) → some (2 * (k + 1)) p ≡ ((some (2 * k) p || p (2 * k)) || p (2 * k + 1))
some-two k p = let e : 2 * (k + 1) ≡ 2 * k + 1 + 1 = omega arith in ap (λ z. some z p) e ∙ some-more (2 * k + 1) p ∙ ap (λ t. t || p (2 * k + 1)) (some-more (2 * k) p)

-- one pair more
one-more : (s : Bool) (a b u v : ℕ) → ((s || ((a == u) && (b == v))) || ((b == u) && (a == v))) ≡ (is_pair a b u v || s)
one-more s a b u v = grind (arith, cases_Bool s, cases_Bool (a == u), cases_Bool (b == v), cases_Bool (b == u), cases_Bool (a == v))

-- one edge more
pub knows-more : (g : Multigraph) (k : ℕ) (old new : BTreeSet (ℕ × ℕ)) → KnowsEdges g k old → AddsPair old (ends_of g k).0 (ends_of g k).1 new → KnowsEdges g (k + 1) new
knows-more g k old new w more u v = more u v ∙ ap (λ s. is_pair (ends_of g k).0 (ends_of g k).1 u v || s) (w u v) ∙ sym (some-two k joins ∙ ap₂ (λ x y. (some (2 * k) joins || x) || y) first second ∙ one-more (some (2 * k) joins) (ends_of g k).0 (ends_of g k).1 u v)
  where
    joins : ℕ → Bool
    joins d = (tail g d == u) && (tail g (twin d) == v)

    head-first : tail g (twin (2 * k)) ≡ (ends_of g k).1
    head-first = ap (tail g) (twin-last k) ∙ tail-second g k

    head-second : tail g (twin (2 * k + 1)) ≡ (ends_of g k).0
    head-second = ap (tail g) (sym (twin-back (2 * k) (2 * k + 1) (twin-last k))) ∙ tail-first g k

    first : joins (2 * k) ≡ (((ends_of g k).0 == u) && ((ends_of g k).1 == v))
    first = ap₂ (λ x y. (x == u) && (y == v)) (tail-first g k) head-first

    second : joins (2 * k + 1) ≡ (((ends_of g k).1 == u) && ((ends_of g k).0 == v))
    second = ap₂ (λ x y. (x == u) && (y == v)) (tail-second g k) head-second

-- an edge is added to a graph of which the pairs are known
pub knows-cut : (m : ℕ) (h : Multigraph) (next : ℕ → ℕ) (d : ℕ) (old new : BTreeSet (ℕ × ℕ)) → edge_count h ≡ m → KnowsPairs h old → AddsPair old (tail h d) (second_head h next d) new → KnowsPairs (cut_graph h next d) new
knows-cut m h next d old new e w more u v =
    more u v ∙ ap (λ s. is_pair a z u v || s) (w u v ∙ ap (λ n. some (2 * n) (joins h)) e ∙ some-ext (2 * m) (joins h) (joins cut) same) ∙ sym (ap (λ n. some (2 * n) (joins cut)) (more-edges m h h.vertex_count (a, z) e)
    ∙ some-two m (joins cut) ∙ ap₂ (λ x y. (some (2 * m) (joins cut) || x) || y) first second ∙ one-more (some (2 * m) (joins cut)) a z u v)
  where
    a : ℕ
    a = tail h d

    z : ℕ
    z = second_head h next d

    cut : Multigraph
    cut = cut_graph h next d

    joins : Multigraph → ℕ → Bool
    joins g c = (tail g c == u) && (tail g (twin c) == v)

    same : (c : ℕ) → c < 2 * m → joins h c ≡ joins cut c
    same c l = sym (ap₂ (λ x y. (x == u) && (y == v)) (tail-old m h h.vertex_count (a, z) e c l) (tail-old m h h.vertex_count (a, z) e (twin c) (twin-below m c l)))

    head-first : tail cut (twin (2 * m)) ≡ z
    head-first = ap (tail cut) (twin-last m) ∙ tail-new_second m h h.vertex_count (a, z) e

    head-second : tail cut (twin (2 * m + 1)) ≡ a
    head-second = ap (tail cut) (sym (twin-back (2 * m) (2 * m + 1) (twin-last m))) ∙ tail-new m h h.vertex_count (a, z) e

    first : joins cut (2 * m) ≡ ((a == u) && (z == v))
    first = ap₂ (λ x y. (x == u) && (y == v)) (tail-new m h h.vertex_count (a, z) e) head-first

    second : joins cut (2 * m + 1) ≡ ((z == u) && (a == v))
    second = ap₂ (λ x y. (x == u) && (y == v)) (tail-new_second m h h.vertex_count (a, z) e) head-second
