-- The palm tree of a block, by the numbers of its vertices: the intervals of descendants, the darts, and what fronds reach.
use Rattle.std.proofs.Common.{◌≡◌, ◌≢◌, ℕ, zero, suc, ◌+◌, ◌-◌, ◌<◌, ◌≤◌, ◌⊎◌, ◌↔◌, inl, inr, Bool, true, false, not, ◌&&◌, ◌==◌, ltb, leb, List, [], ◌∷◌, length, Option, None, Some, slice_index, refl, sym, ap, ◌∙◌, subst, arith}
use Rattle.std.proofs.lemmas.Bool.{cases_Bool, cases_lt, cases_eq, both_ways, false_from_ne_true, true≢false, and_from, and_parts, not-true, not-false, eq-eqb, eqb-true, ne_eqb, lt-ltb, ltb-true, ltb-false, le-leb, leb-true}
use Rattle.std.proofs.lemmas.List.{get_or_default}
use Rattle.permutations.specs.Members.{is_member, is_distinct}
use Rattle.permutations.proofs.Members.{distinct-head, distinct-tail}
use Rattle.permutations.proofs.Arrangements.{member-at, contains-from_member}
use Rattle.multigraph.specs.Graph.{Multigraph, edge_count, ends_of, is_end, other_end, IsGraph}
use Rattle.multigraph.proofs.OtherEnd.{is_end-cases, other_end-of_first, other_end-of_second, other_end-in, other_end-differs, other_end-twice, end-in}
use Rattle.graph_theory.specs.Block.{IsOneBlock}
use Rattle.graph_theory.specs.Side.{IsCommon}
use Rattle.graph_theory.proofs.Ends.{end-cases}
use Rattle.graph_theory.proofs.Crossings.{TwoCommon}
use Rattle.palm_tree.specs.PalmTree.{PalmTreeLists, number_of, parent_of, is_frond, darts_of, Climbs, IsDescendant, IsParentEdge, IsFrondFrom, BeginsAt, IsReached, IsLow1, IsLow2, AreParents, IsPalmTree}
use Rattle.pair_split.specs.Skeleton.{SameEnds}
use Rattle.pair_split.proofs.GraphSides.{block-two_common}
use Rattle.split_comp.specs.declared.items.Dart.{Dart}
use Rattle.split_comp.specs.Palm.{AreVertices, tree_dart, tree_degree, number_at, tree_parent, IsFrondTo, IsPalm, dart_entry, AreDrawn}
use Rattle.split_comp.proofs.Begins.{begins-edge, begins-end}

-- the number in an answer
held : ℕ → Option ℕ → ℕ
held d None = d
held d (Some x) = x

-- whether there is an answer
told : Option ℕ → Bool
told None = false
told (Some x) = true

some-same : (x y : ℕ) → Some x ≡ Some y → x ≡ y
unfolding held
some-same x y e = ap (held 0) e

some-differs : (x : ℕ) → Some x ≡ None → ⊥
unfolding told
some-differs x e = true≢false (ap told e)

option-cases : (o : Option ℕ) → (o ≡ None) ⊎ ((x : ℕ) × (o ≡ Some x))
option-cases None = inl refl
option-cases (Some x) = inr (x, refl)

-- a list without repetition has different numbers at different places
distinct-places : (l : List ℕ) (i j : ℕ) → is_distinct l ≡ true → i < j → j < length l → slice_index l i ≢ slice_index l j
distinct-places [] i j d a b e = absurd (omega arith)
distinct-places (z ∷ l) i zero d a b e = absurd (omega arith)
distinct-places (z ∷ l) zero (suc j) d a b e = both_ways (is_member z l) (distinct-head z l d) (ap (λ (k : ℕ). is_member k l) e ∙ member-at l j 0 (omega arith))
distinct-places (z ∷ l) (suc i) (suc j) d a b e = distinct-places l i j (distinct-tail z l d) (omega arith) (omega arith) e

-- steps to the parent from z to y, and on to x
climbs-join : (t : PalmTreeLists) (k x y z : ℕ) → Climbs t k z y → IsDescendant t x y → IsDescendant t x z
climbs-join t zero x y z c d = subst (λ (w : ℕ). IsDescendant t x w) (sym c) d
climbs-join t (suc k) x y z c d = let r = climbs-join t k x y c.0 c.2 d in record { steps = suc r.steps; climbs = (c.0, c.1, r.climbs) }

-- a descendant of a descendant is one
descends-join : (t : PalmTreeLists) (x y z : ℕ) → IsDescendant t x y → IsDescendant t y z → IsDescendant t x z
descends-join t x y z a b = climbs-join t b.steps x y z b.climbs a

descends-self : (t : PalmTreeLists) (v : ℕ) → IsDescendant t v v
descends-self t v = record { steps = 0; climbs = refl }

-- a vertex that is reached by steps to the parent is one of the graph
climbs-in : (g : Multigraph) (t : PalmTreeLists) → AreParents g t → (k z v : ℕ) → z < g.vertex_count → Climbs t k z v → v < g.vertex_count
climbs-in g t p zero z v l c = omega (arith, l, c)
climbs-in g t p (suc k) z v l c = climbs-in g t p k c.0 v (p.within z c.0 l c.1) c.2

-- the last vertex before v on the way up to it
climbs-child : (t : PalmTreeLists) (k z v : ℕ) → Climbs t (suc k) z v → (c : ℕ) × (parent_of t c ≡ Some v) × IsDescendant t c z
climbs-child t zero z v c = (z, c.1 ∙ ap (λ (w : ℕ). Some w) c.2, descends-self t z)
climbs-child t (suc k) z v c = let r = climbs-child t k c.0 v c.2 in (r.0, r.1, record { steps = suc r.2.steps; climbs = (c.0, c.1, r.2.climbs) })

module _ (g : Multigraph) (t : PalmTreeLists) (vertex : List ℕ) (graph : IsGraph g) (p : IsPalmTree g t) (a : AreVertices g.vertex_count t vertex) where
  abbrev n : ℕ
  n = g.vertex_count

  -- the vertex with a number
  abbrev at : ℕ → ℕ
  at x = slice_index vertex x

  abbrev up : ℕ → ℕ
  up x = tree_parent t vertex x

  abbrev degree : ℕ → ℕ
  degree = tree_degree t vertex

  abbrev dart : ℕ → ℕ → Dart
  dart = tree_dart g t vertex

  at-number : (v : ℕ) → v < n → at (number_of t v) ≡ v
  at-number v l = p.numbers.differ (at (number_of t v)) v (a.within (number_of t v) (p.numbers.below v l)) l (a.number (number_of t v) (p.numbers.below v l))

  at-same : (x y : ℕ) → x < n → y < n → at x ≡ at y → x ≡ y
  at-same x y l m e = sym (a.number x l) ∙ (ap (number_of t) e ∙ a.number y m)

  -- how many descendants the vertex with a number has, and itself
  size : (x : ℕ) → (x < n) ⊎ (n ≤ x) → ℕ
  size x (inl l) = (p.numbers.consecutive (at x) (a.within x l)).size
  size x (inr m) = 1

  size-numbers : (x : ℕ) (c : (x < n) ⊎ (n ≤ x)) → x < n → (x + size x c ≤ n) × ((z : ℕ) → z < n → IsDescendant t (at x) z ↔ ((x ≤ number_of t z) × (number_of t z < x + size x c)))
  unfolding size
  size-numbers x (inl l) h =
      let s = p.numbers.consecutive (at x) (a.within x l) in (
        omega (arith, s.last, a.number x l),
        λ z m. subst (λ (k : ℕ). IsDescendant t (at x) z ↔ ((k ≤ number_of t z) × (number_of t z < k + s.size))) (a.number x l) (s.numbers z m),
      )
  size-numbers x (inr m) h = absurd (omega arith)

  size-out : (x : ℕ) (c : (x < n) ⊎ (n ≤ x)) → n ≤ x → size x c ≡ 1
  unfolding size
  size-out x (inl l) h = absurd (omega arith)
  size-out x (inr m) h = refl

  -- the numbers of a vertex and its descendants end before this one
  last : ℕ → ℕ
  last x = x + size x (cases_lt x n)

  last-in : (x : ℕ) → x < n → last x ≤ n
  unfolding last
  last-in x l = (size-numbers x (cases_lt x n) l).0

  last-out : (x : ℕ) → n ≤ x → last x ≡ x + 1
  unfolding last
  last-out x h = omega (arith, size-out x (cases_lt x n) h)

  below-in : (x y : ℕ) → x ≤ y → y < last x → x < n → y < n
  below-in x y l m h = omega (arith, m, last-in x h)

  descends-below : (x y : ℕ) → x < n → y < n → IsDescendant t (at x) (at y) → (x ≤ y) × (y < last x)
  unfolding last
  descends-below x y l m d =
      let r = ((size-numbers x (cases_lt x n) l).1 (at y) (a.within y m)).0 d in
      (omega (arith, r.0, a.number y m), omega (arith, r.1, a.number y m))

  below-descends : (x y : ℕ) → x < n → y < n → x ≤ y → y < last x → IsDescendant t (at x) (at y)
  unfolding last
  below-descends x y l m h k = ((size-numbers x (cases_lt x n) l).1 (at y) (a.within y m)).1 (omega (arith, h, a.number y m), omega (arith, k, a.number y m))

  last-above : (x : ℕ) → x < last x
  last-above x = elim (cases_lt x n) [ inl l ↦ (descends-below x x l l (descends-self t (at x))).1 | inr m ↦ omega (arith, last-out x m) ]

  last-nested : (x y : ℕ) → x ≤ y → y < last x → last y ≤ last x
  last-nested x y h k = elim (cases_lt x n) [
    | inl l ↦ inside l (below-in x y h k l)
    | inr m ↦ let e : x ≡ y = omega (arith, h, k, last-out x m) in omega (arith, ap last e)
  ]
    where
      inside : x < n → y < n → last y ≤ last x
      inside l m =
          let within : last y - 1 < n = omega (arith, last-in y m, last-above y) in
          let d = below-descends y (last y - 1) m within (omega (arith, last-above y)) (omega (arith, last-above y)) in
          let r = descends-below x (last y - 1) l within (descends-join t (at x) (at y) (at (last y - 1)) (below-descends x y l m h k) d) in
          omega (arith, r.1, last-above y)

  -- parents
  parent-in : (x : ℕ) → x < n → x ≢ 0 → (up x < n) × (parent_of t (at x) ≡ Some (at (up x)))
  parent-in x l z = elim (option-cases (parent_of t (at x))) [
    | inl e ↦ absurd (z (sym (a.number x l) ∙ (p.parents.root (at x) (a.within x l)).0 e))
    | inr s ↦
        let m : s.0 < n = p.parents.within (at x) s.0 (a.within x l) s.1 in
        let e : up x ≡ number_of t s.0 = ap (number_at t) s.1 in
        (omega (arith, e, p.numbers.below s.0 m), s.1 ∙ ap (λ (w : ℕ). Some w) (sym (ap (slice_index vertex) e ∙ at-number s.0 m)))
  ]

  parent-descends : (x : ℕ) → x < n → x ≢ 0 → IsDescendant t (at (up x)) (at x)
  parent-descends x l z = record { steps = 1; climbs = (at (up x), (parent-in x l z).1, refl) }

  parent-less : (x : ℕ) → x < n → x ≢ 0 → (up x < x) × (x < last (up x))
  parent-less x l z =
      let q = parent-in x l z in
      let r = descends-below (up x) x q.0 l (parent-descends x l z) in
      let e = p.parents.parent_edge (at x) (at (up x)) (a.within x l) q.1 in
      let end : other_end g e.0 (at x) ≡ at (up x) = some-same (other_end g e.0 (at x)) (at (up x)) (sym e.1.to_parent ∙ q.1) in
      let apart : up x ≢ x = λ s. other_end-differs g e.0 (at x) graph e.1.is_edge e.1.at_child (end ∙ ap (slice_index vertex) s) in
      (omega (arith, r.0, apart), r.1)

  from-root : (fuel x : ℕ) → x < fuel → x < n → IsDescendant t (at 0) (at x)
  from-root zero x f l = absurd (omega arith)
  from-root (suc fuel) x f l = elim (cases_eq x 0) [
    | inl e ↦ subst (λ (k : ℕ). IsDescendant t (at 0) (at k)) (sym e) (descends-self t (at 0))
    | inr z ↦ descends-join t (at 0) (at (up x)) (at x) (from-root fuel (up x) (omega (arith, f, (parent-less x l z).0)) (parent-in x l z).0) (parent-descends x l z)
  ]

  last-root : 0 < n → last 0 ≡ n
  last-root l =
      let m : n - 1 < n = omega (arith, l) in
      omega (arith, (descends-below 0 (n - 1) l m (from-root n (n - 1) m m)).1, last-in 0 l)

  -- whose interval has x in it, has the parent of x in it
  ancestors-up : (x y : ℕ) → x < n → y < x → x < last y → (y ≤ up x) × (up x < last y)
  ancestors-up x y l h k = let d = below-descends y x (omega (arith, l, h)) l (omega (arith, h)) k in step d.steps d.climbs
    where
      z : x ≢ 0
      z e = omega (arith, e, h)

      step : (j : ℕ) → Climbs t j (at x) (at y) → (y ≤ up x) × (up x < last y)
      step zero e = absurd (omega (arith, h, at-same x y l (omega (arith, l, h)) e))
      step (suc j) c =
          let e : c.0 ≡ at (up x) = some-same c.0 (at (up x)) (sym c.1 ∙ (parent-in x l z).1) in
          descends-below y (up x) (omega (arith, l, h)) (parent-in x l z).0 (subst (IsDescendant t (at y)) e (record { steps = j; climbs = c.2 }))

  -- darts
  module _ (u k : ℕ) (l : u < n) (m : k < degree u) where
    dart-begins : BeginsAt g t (at u) (dart u k).edge
    dart-begins = (p.darts.begin (at u) (dart u k).edge (a.within u l)).0 (member-at (darts_of t (at u)) k 0 m)

    dart-edge : (dart u k).edge < edge_count g
    dart-edge = begins-edge g t (at u) (dart u k).edge dart-begins

    dart-end : is_end g (at u) (dart u k).edge ≡ true
    dart-end = begins-end g t (at u) (dart u k).edge dart-begins

    far-in : (dart u k).far < n
    far-in = p.numbers.below (other_end g (dart u k).edge (at u)) (other_end-in g (dart u k).edge (at u) graph dart-edge)

    far-at : at (dart u k).far ≡ other_end g (dart u k).edge (at u)
    far-at = at-number (other_end g (dart u k).edge (at u)) (other_end-in g (dart u k).edge (at u) graph dart-edge)

    -- the number of an end is u or the far one
    dart-ends : (x : ℕ) → x < n → is_end g (at x) (dart u k).edge ≡ true → (x ≡ u) ⊎ (x ≡ (dart u k).far)
    dart-ends x h e = elim (end-cases g (dart u k).edge (at u) (at x) dart-end e) [
      | inl s ↦ inl (at-same x u h l s)
      | inr s ↦ inr (at-same x (dart u k).far h far-in (s ∙ sym far-at))
    ]

    drawn-ends : SameEnds (at u, at (dart u k).far) (ends_of g (dart u k).edge) × SameEnds (at (dart u k).far, at u) (ends_of g (dart u k).edge)
    drawn-ends = elim (is_end-cases g (at u) (dart u k).edge dart-end) [
      | inl e ↦ let f = far-at ∙ other_end-of_first g (dart u k).edge (at u) e in (inl (sym e, f), inr (f, sym e))
      | inr e ↦ let f = far-at ∙ other_end-of_second g (dart u k).edge (at u) e (graph.no_loop (dart u k).edge dart-edge) in (inr (sym e, f), inl (f, sym e))
    ]

    -- a tree edge is the parent edge of its far end
    tree-child : (dart u k).tree ≡ true → IsParentEdge g t (at (dart u k).far) (dart u k).edge × (parent_of t (at (dart u k).far) ≡ Some (at u))
    tree-child h = elim dart-begins [
      | inl c ↦
          let q : other_end g (dart u k).edge (at u) ≡ c.0 = ap (other_end g (dart u k).edge) (sym c.2) ∙ other_end-twice g (dart u k).edge c.0 graph c.1.is_edge c.1.at_child in
          let e : c.0 ≡ at (dart u k).far = sym (far-at ∙ q) in
          (subst (λ (w : ℕ). IsParentEdge g t w (dart u k).edge) e c.1, ap (parent_of t) (sym e) ∙ (c.1.to_parent ∙ ap (λ (w : ℕ). Some w) c.2))
      | inr f ↦ absurd (both_ways (is_frond t (dart u k).edge) (not-true (is_frond t (dart u k).edge) h) f.frond)
    ]

    tree-parent : (dart u k).tree ≡ true → up (dart u k).far ≡ u
    tree-parent h = ap (number_at t) (tree-child h).1 ∙ a.number u l

    tree-root : (dart u k).tree ≡ true → (dart u k).far ≢ 0
    tree-root h z = some-differs (at u) (sym (tree-child h).1 ∙ (p.parents.root (at (dart u k).far) (a.within (dart u k).far far-in)).1 (a.number (dart u k).far far-in ∙ z))

    tree-far : (dart u k).tree ≡ true → ((dart u k).far < n) × (u < (dart u k).far) × ((dart u k).far < last u) × (up (dart u k).far ≡ u)
    tree-far h =
        let r = parent-less (dart u k).far far-in (tree-root h) in
        let e = tree-parent h in
        (far-in, omega (arith, r.0, e), omega (arith, r.1, ap last e), e)

    -- any other is a frond
    frond-from : (dart u k).tree ≡ false → IsFrondFrom g t (at u) (dart u k).edge
    frond-from h = elim dart-begins [
      | inl c ↦ absurd (both_ways (is_frond t (dart u k).edge) c.1.no_frond (not-false (is_frond t (dart u k).edge) h))
      | inr f ↦ f
    ]

    frond-far : (dart u k).tree ≡ false → ((dart u k).far < u) × (u < last (dart u k).far)
    frond-far h =
        let f = frond-from h in
        let r = descends-below (dart u k).far u far-in l (subst (λ (w : ℕ). IsDescendant t w (at u)) (sym far-at) f.to_ancestor) in
        let apart : (dart u k).far ≢ u = λ e. other_end-differs g (dart u k).edge (at u) graph f.is_edge f.at_lower (sym far-at ∙ ap (slice_index vertex) e) in
        (omega (arith, r.0, apart), r.1)

    frond-reach : (dart u k).tree ≡ false → ((dart u k).reach ≡ (dart u k).far) × ((dart u k).class ≡ 1)
    frond-reach h =
        let q : is_frond t (dart u k).edge ≡ true = not-false (is_frond t (dart u k).edge) h in
        (rw q refl, rw q refl)

    -- a tree edge reaches the low point of its far end
    tree-reach : (dart u k).tree ≡ true → (dart u k).reach ≡ slice_index t.low1 (at (dart u k).far)
    tree-reach h =
        let q : is_frond t (dart u k).edge ≡ false = not-true (is_frond t (dart u k).edge) h in
        let s : (dart u k).reach ≡ slice_index t.low1 (other_end g (dart u k).edge (at u)) = rw q refl in
        s ∙ ap (slice_index t.low1) (sym far-at)

    tree-class : (dart u k).tree ≡ true → (((dart u k).class ≡ 0) × (slice_index t.low2 (at (dart u k).far) < u)) ⊎ (((dart u k).class ≡ 2) × (u ≤ slice_index t.low2 (at (dart u k).far)))
    tree-class h =
        let q : is_frond t (dart u k).edge ≡ false = not-true (is_frond t (dart u k).edge) h in
        let s : slice_index t.low2 (at (dart u k).far) ≡ slice_index t.low2 (other_end g (dart u k).edge (at u)) = ap (slice_index t.low2) far-at in
        elim (cases_Bool (ltb (slice_index t.low2 (other_end g (dart u k).edge (at u))) (number_of t (at u)))) [
          | inl less ↦ inl (rw (q, less) refl, omega (arith, s, a.number u l, ltb-true (slice_index t.low2 (other_end g (dart u k).edge (at u))) (number_of t (at u)) less))
          | inr more ↦ inr (rw (q, more) refl, omega (arith, s, a.number u l, ltb-false (slice_index t.low2 (other_end g (dart u k).edge (at u))) (number_of t (at u)) more))
        ]

    -- the low points of its far end
    low1-far : (dart u k).tree ≡ true → IsLow1 g t (at (dart u k).far) (dart u k).reach
    low1-far h = subst (IsLow1 g t (at (dart u k).far)) (sym (tree-reach h)) (p.low1 (at (dart u k).far) (a.within (dart u k).far far-in))

    low2-far : IsLow2 g t (at (dart u k).far) (slice_index t.low2 (at (dart u k).far))
    low2-far = p.low2 (at (dart u k).far) (a.within (dart u k).far far-in)

  -- an edge that begins at a vertex is one of its darts
  dart-place : (u e : ℕ) → u < n → BeginsAt g t (at u) e → (k : ℕ) × (k < degree u) × ((dart u k).edge ≡ e)
  dart-place u e l b =
      let c = contains-from_member (darts_of t (at u)) e ((p.darts.begin (at u) e (a.within u l)).1 b) in
      (c.0, c.1, get_or_default (darts_of t (at u)) c.0 0 e c.1 ∙ c.2)

  dart-each : (e : ℕ) → e < edge_count g → (u k : ℕ) × (u < n) × (k < degree u) × ((dart u k).edge ≡ e)
  dart-each e l =
      let w = p.darts.each e l in
      let m : number_of t w.0 < n = p.numbers.below w.0 w.1 in
      let d = dart-place (number_of t w.0) e m (subst (λ (v : ℕ). BeginsAt g t v e) (sym (at-number w.0 w.1)) ((p.darts.begin w.0 e w.1).0 w.2)) in
      (number_of t w.0, d.0, m, d.1, d.2)

  same-place : (u k j : ℕ) → u < n → k < degree u → j < degree u → (dart u k).edge ≡ (dart u j).edge → k ≡ j
  same-place u k j l m h e = elim (cases_lt k j) [
    | inl q ↦ absurd (distinct-places (darts_of t (at u)) k j (p.darts.once (at u) (a.within u l)) q h e)
    | inr q ↦ elim (cases_eq k j) [
      | inl s ↦ s
      | inr s ↦ absurd (distinct-places (darts_of t (at u)) j k (p.darts.once (at u) (a.within u l)) (omega (arith, q, s)) m (sym e))
    ]
  ]

  dart-once : (u k w j : ℕ) → u < n → k < degree u → w < n → j < degree w → (dart u k).edge ≡ (dart w j).edge → (u ≡ w) × (k ≡ j)
  dart-once u k w j l m lw mj e =
      let s : u ≡ w = at-same u w l lw (p.darts.only_one (at u) (at w) (dart w j).edge (a.within u l) (a.within w lw) (subst (λ (z : ℕ). is_member z (darts_of t (at u)) ≡ true) e (member-at (darts_of t (at u)) k 0 m)) (member-at (darts_of t (at w)) j 0 mj)) in
      (s, same-place u k j l m (omega (arith, mj, ap degree s)) (e ∙ ap (λ (z : ℕ). (dart z j).edge) (sym s)))

  tree-once : (u k j : ℕ) → u < n → k < degree u → j < degree u → (dart u k).tree ≡ true → (dart u j).tree ≡ true → (dart u k).far ≡ (dart u j).far → k ≡ j
  tree-once u k j l m h s r e = same-place u k j l m h (p.parents.only_one (at (dart u j).far) (dart u k).edge (dart u j).edge
      (subst (λ (z : ℕ). IsParentEdge g t (at z) (dart u k).edge) e (tree-child u k l m s).0)
      (tree-child u j l h r).0)

  -- below each child begins one of the darts
  child-dart : (u z : ℕ) → u < n → u < z → z < last u → (k : ℕ) × (k < degree u) × ((dart u k).tree ≡ true) × ((dart u k).far ≤ z) × (z < last (dart u k).far)
  child-dart u z l h k = let d = below-descends u z l zl (omega (arith, h)) k in step d.steps d.climbs
    where
      zl : z < n
      zl = below-in u z (omega (arith, h)) k l

      placed : (c e : ℕ) → c < n → IsParentEdge g t c e → parent_of t c ≡ Some (at u) → IsDescendant t c (at z) → (k : ℕ) × (k < degree u) × ((dart u k).edge ≡ e) → (k : ℕ) × (k < degree u) × ((dart u k).tree ≡ true) × ((dart u k).far ≤ z) × (z < last (dart u k).far)
      placed c e cl q o d k =
          let tree : (dart u k.0).tree ≡ true = ap (λ (w : ℕ). not (is_frond t w)) k.2 ∙ ap not q.no_frond in
          let other : other_end g e c ≡ at u = some-same (other_end g e c) (at u) (sym q.to_parent ∙ o) in
          let end : other_end g e (at u) ≡ c = ap (other_end g e) (sym other) ∙ other_end-twice g e c graph q.is_edge q.at_child in
          let far : at (dart u k.0).far ≡ c = far-at u k.0 l k.1 ∙ (ap (λ (w : ℕ). other_end g w (at u)) k.2 ∙ end) in
          let r = descends-below (dart u k.0).far z (far-in u k.0 l k.1) zl (subst (λ (w : ℕ). IsDescendant t w (at z)) (sym far) d) in
          (k.0, k.1, tree, r.0, r.1)

      step : (j : ℕ) → Climbs t j (at z) (at u) → (k : ℕ) × (k < degree u) × ((dart u k).tree ≡ true) × ((dart u k).far ≤ z) × (z < last (dart u k).far)
      step zero e = absurd (omega (arith, h, at-same z u zl l e))
      step (suc j) c =
          let r = climbs-child t j (at z) (at u) c in
          let cl : r.0 < n = climbs-in g t p.parents r.2.steps (at z) r.0 (a.within z zl) r.2.climbs in
          let e = p.parents.parent_edge r.0 (at u) cl r.1 in
          let other : other_end g e.0 r.0 ≡ at u = some-same (other_end g e.0 r.0) (at u) (sym e.1.to_parent ∙ r.1) in
          placed r.0 e.0 cl e.1 r.1 r.2 (dart-place u e.0 l (inl (r.0, e.1, other)))

  -- what is reached from a vertex, by numbers
  frond-reached : (c y : ℕ) → c < n → IsFrondTo degree dart last c y → IsReached g t (at c) y
  frond-reached c y l f =
      let m : f.from < n = below-in c f.from f.above f.below l in
      record {
        lower = at f.from;
        edge = (dart f.from f.place).edge;
        below = below-descends c f.from l m f.above f.below;
        frond = frond-from f.from f.place m f.within f.frond;
        reached = f.far;
      }

  reached-frond : (c y : ℕ) → c < n → IsReached g t (at c) y → IsFrondTo degree dart last c y
  reached-frond c y l r =
      let zl : r.lower < n = end-in g r.lower r.edge graph r.frond.is_edge r.frond.at_lower in
      let xl : number_of t r.lower < n = p.numbers.below r.lower zl in
      let e : at (number_of t r.lower) ≡ r.lower = at-number r.lower zl in
      let k = dart-place (number_of t r.lower) r.edge xl (inr (subst (λ (w : ℕ). IsFrondFrom g t w r.edge) (sym e) r.frond)) in
      let d = descends-below c (number_of t r.lower) l xl (subst (IsDescendant t (at c)) (sym e) r.below) in
      record {
        from = number_of t r.lower;
        place = k.0;
        above = d.0;
        below = d.1;
        within = k.1;
        frond = ap (λ (w : ℕ). not (is_frond t w)) k.2 ∙ ap not r.frond.frond;
        far = ap (λ (w : ℕ). number_of t (other_end g w (at (number_of t r.lower)))) k.2 ∙ (ap (λ (w : ℕ). number_of t (other_end g r.edge w)) e ∙ r.reached);
      }

  -- the number reached is the least one
  reach-least : (u k y : ℕ) → u < n → k < degree u → (dart u k).tree ≡ true → IsFrondTo degree dart last (dart u k).far y → (dart u k).reach ≤ y
  reach-least u k y l m h f = (low1-far u k l m h).least y (frond-reached (dart u k).far y (far-in u k l m) f)

  reach-only : (u k y : ℕ) → u < n → k < degree u → (dart u k).tree ≡ true → (dart u k).class ≡ 2 → IsFrondTo degree dart last (dart u k).far y → y < u → y ≡ (dart u k).reach
  reach-only u k y l m h c f less = elim (tree-class u k l m h) [
    | inl w ↦ absurd (omega (arith, c, w.0))
    | inr w ↦ elim (cases_eq y (dart u k).reach) [
      | inl e ↦ e
      | inr d ↦ absurd (omega (arith, w.1, less, (low2-far u k l m).least y (frond-reached (dart u k).far y (far-in u k l m) f) (λ e. d (e ∙ sym (tree-reach u k l m h)))))
    ]
  ]

  reach-another : (u k : ℕ) → u < n → k < degree u → (dart u k).tree ≡ true → (dart u k).class ≡ 0 → (y : ℕ) × IsFrondTo degree dart last (dart u k).far y × ((dart u k).reach < y) × (y < u)
  reach-another u k l m h c = elim (tree-class u k l m h) [
    | inr w ↦ absurd (omega (arith, c, w.0))
    | inl w ↦ elim (low2-far u k l m).among [
      | inl e ↦ absurd (omega (arith, e, w.1, a.number (dart u k).far (far-in u k l m), (tree-far u k l m h).1))
      | inr r ↦
          let apart : slice_index t.low2 (at (dart u k).far) ≢ (dart u k).reach = λ e. r.1 (e ∙ tree-reach u k l m h) in
          let least : (dart u k).reach ≤ slice_index t.low2 (at (dart u k).far) = (low1-far u k l m h).least (slice_index t.low2 (at (dart u k).far)) r.0 in
          (slice_index t.low2 (at (dart u k).far), reached-frond (dart u k).far (slice_index t.low2 (at (dart u k).far)) (far-in u k l m) r.0, omega (arith, apart, least), w.1)
    ]
  ]

  -- where some frond from below the child reaches a number less than u, so does the least one
  reach-from : (u k y : ℕ) → u < n → k < degree u → (dart u k).tree ≡ true → y < u → IsFrondTo degree dart last (dart u k).far y → ((dart u k).reach < u) × IsFrondTo degree dart last (dart u k).far (dart u k).reach
  reach-from u k y l m h less f = elim (low1-far u k l m h).among [
    | inl e ↦ absurd (omega (arith, e, reach-least u k y l m h f, less, a.number (dart u k).far (far-in u k l m), (tree-far u k l m h).1))
    | inr r ↦ (omega (arith, reach-least u k y l m h f, less), reached-frond (dart u k).far (dart u k).reach (far-in u k l m) r)
  ]

  -- the lower end of an edge
  low-of : (e : ℕ) → (e < edge_count g) ⊎ (edge_count g ≤ e) → ℕ
  low-of e (inl l) = let d = dart-each e l in (dart_entry d.0 (dart d.0 d.1)).second
  low-of e (inr m) = 0

  low-dart : (u k : ℕ) → u < n → k < degree u → (c : ((dart u k).edge < edge_count g) ⊎ (edge_count g ≤ (dart u k).edge)) → low-of (dart u k).edge c ≡ (dart_entry u (dart u k)).second
  unfolding low-of
  low-dart u k l m (inl q) =
      let d = dart-each (dart u k).edge q in
      let s = dart-once d.0 d.1 u k d.2 d.3 l m d.4 in
      ap (λ (z : ℕ × ℕ). (dart_entry z.0 (dart z.0 z.1)).second) (λ i. (s.0 i, s.1 i))
  low-dart u k l m (inr q) = absurd (omega (arith, q, dart-edge u k l m))

  low : ℕ → ℕ
  low e = low-of e (cases_lt e (edge_count g))

  low-tree : (u k : ℕ) → u < n → k < degree u → (dart u k).tree ≡ true → low (dart u k).edge ≡ (dart u k).far
  unfolding low
  low-tree u k l m h = low-dart u k l m (cases_lt (dart u k).edge (edge_count g)) ∙ rw h refl

  low-frond : (u k : ℕ) → u < n → k < degree u → (dart u k).tree ≡ false → low (dart u k).edge ≡ u
  unfolding low
  low-frond u k l m h = low-dart u k l m (cases_lt (dart u k).edge (edge_count g)) ∙ rw h refl

  -- whether its lower end is c or below it
  inside : ℕ → ℕ → Bool
  inside c e = leb c (low e) && ltb (low e) (last c)

  inside-true : (c e : ℕ) → inside c e ≡ true → (c ≤ low e) × (low e < last c)
  unfolding inside
  inside-true c e h = let w = and_parts (leb c (low e)) (ltb (low e) (last c)) h in (leb-true c (low e) w.0, ltb-true (low e) (last c) w.1)

  inside-from : (c e : ℕ) → c ≤ low e → low e < last c → inside c e ≡ true
  unfolding inside
  inside-from c e h k = and_from (leb c (low e)) (ltb (low e) (last c)) (le-leb c (low e) h) (lt-ltb (low e) (last c) k)

  -- what an edge with the lower end elsewhere touches is not c or below it
  outside-end : (c u k x : ℕ) → u < n → k < degree u → x < n → inside c (dart u k).edge ≡ false → is_end g (at x) (dart u k).edge ≡ true → c ≤ x → x < last c → ⊥
  outside-end c u k x l m xl o e h s = elim (cases_Bool (dart u k).tree) [
    | inl y ↦
        let w = low-tree u k l m y in
        let f = tree-far u k l m y in
        elim (dart-ends u k l m x xl e) [
          | inl q ↦ both_ways (inside c (dart u k).edge) o (inside-from c (dart u k).edge (omega (arith, w, f.1, h, q)) (omega (arith, w, f.2, ap last q, last-nested c x h s)))
          | inr q ↦ both_ways (inside c (dart u k).edge) o (inside-from c (dart u k).edge (omega (arith, w, h, q)) (omega (arith, w, s, q)))
        ]
    | inr y ↦
        let w = low-frond u k l m y in
        let f = frond-far u k l m y in
        elim (dart-ends u k l m x xl e) [
          | inl q ↦ both_ways (inside c (dart u k).edge) o (inside-from c (dart u k).edge (omega (arith, w, h, q)) (omega (arith, w, s, q)))
          | inr q ↦ both_ways (inside c (dart u k).edge) o (inside-from c (dart u k).edge (omega (arith, w, f.0, h, q)) (omega (arith, w, f.1, ap last q, last-nested c x h s)))
        ]
  ]

  -- what an edge with the lower end c or below it touches besides is the parent of c, or reached by a frond
  inside-end : (c i j x : ℕ) → c < n → c ≢ 0 → i < n → j < degree i → x < n → inside c (dart i j).edge ≡ true → is_end g (at x) (dart i j).edge ≡ true → ((c ≤ x) × (x < last c) → ⊥) → (x ≡ up c) ⊎ ((x < up c) × IsFrondTo degree dart last c x)
  inside-end c i j x cl cz l m xl o e not_in = elim (cases_Bool (dart i j).tree) [
    | inl y ↦ elim (dart-ends i j l m x xl e) [
      | inr q ↦ absurd (not_in (omega (arith, q, low-tree i j l m y, w.0), omega (arith, q, low-tree i j l m y, w.1)))
      | inl q ↦ elim (cases_eq (dart i j).far c) [
        | inl s ↦ inl (q ∙ (sym (tree-far i j l m y).3 ∙ ap (λ (z : ℕ). up z) s))
        | inr s ↦
            let r = ancestors-up (dart i j).far c (far-in i j l m) (omega (arith, s, low-tree i j l m y, w.0)) (omega (arith, low-tree i j l m y, w.1)) in
            absurd (not_in (omega (arith, q, r.0, (tree-far i j l m y).3), omega (arith, q, r.1, (tree-far i j l m y).3)))
      ]
    ]
    | inr y ↦ elim (dart-ends i j l m x xl e) [
      | inl q ↦ absurd (not_in (omega (arith, q, low-frond i j l m y, w.0), omega (arith, q, low-frond i j l m y, w.1)))
      | inr q ↦ above y q
    ]
  ]
    where
      w : (c ≤ low (dart i j).edge) × (low (dart i j).edge < last c)
      w = inside-true c (dart i j).edge o

      above : (dart i j).tree ≡ false → x ≡ (dart i j).far → (x ≡ up c) ⊎ ((x < up c) × IsFrondTo degree dart last c x)
      above y q =
          let b = low-frond i j l m y in
          let f = frond-far i j l m y in
          let less : x < c = elim (cases_lt x c) [ inl h ↦ h | inr h ↦ absurd (not_in (h, omega (arith, q, f.0, b, w.1))) ] in
          let r = ancestors-up c x cl less (omega (arith, b, w.0, f.1, ap last q)) in
          let frond : IsFrondTo degree dart last c x = record { from = i; place = j; above = omega (arith, b, w.0); below = omega (arith, b, w.1); within = m; frond = y; far = sym q } in
          elim (cases_eq x (up c)) [ inl s ↦ inl s | inr s ↦ inr (omega (arith, r.0, s), frond) ]

  -- what the edges with the lower end c or below it have in common with the others
  common-up : (c v : ℕ) → c < n → c ≢ 0 → IsCommon g (inside c) v → (x : ℕ) × (x < n) × (at x ≡ v) × ((x ≡ up c) ⊎ ((x < up c) × IsFrondTo degree dart last c x))
  common-up c v cl cz h =
      let vl : v < n = end-in g v h.inside graph h.inside_edge h.inside_end in
      let xl : number_of t v < n = p.numbers.below v vl in
      let e : at (number_of t v) ≡ v = at-number v vl in
      let i = dart-each h.inside h.inside_edge in
      let o = dart-each h.outside h.outside_edge in (
        number_of t v,
        xl,
        e,
        inside-end c i.0 i.1 (number_of t v) cl cz i.2 i.3 xl (ap (inside c) i.4 ∙ h.inside_side) (subst (λ (z : ℕ × ℕ). is_end g z.0 z.1 ≡ true) (λ q. (sym e q, sym i.4 q)) h.inside_end)
            (λ s. outside-end c o.0 o.1 (number_of t v) o.2 o.3 xl (ap (inside c) o.4 ∙ h.outside_side) (subst (λ (z : ℕ × ℕ). is_end g z.0 z.1 ≡ true) (λ q. (sym e q, sym o.4 q)) h.outside_end) s.0 s.1),
      )

  module _ (block : IsOneBlock g) (two : 2 ≤ edge_count g) where
    -- where some edge has its lower end elsewhere, a frond leads from c or below it past the parent of c
    leaves : (u k f : ℕ) → u < n → k < degree u → (dart u k).tree ≡ true → f < edge_count g → inside (dart u k).far f ≡ false → (y : ℕ) × (y < u) × IsFrondTo degree dart last (dart u k).far y
    leaves u k f l m h fl o = choose (block-two_common g block (inside c) (dart u k).edge f (dart-edge u k l m) fl (inside-from c (dart u k).edge (omega (arith, low-tree u k l m h)) (omega (arith, low-tree u k l m h, last-above c))) o)
      where
        c : ℕ
        c = (dart u k).far

        parent : up c ≡ u
        parent = tree-parent u k l m h

        choose : TwoCommon g (inside c) → (y : ℕ) × (y < u) × IsFrondTo degree dart last (dart u k).far y
        choose s =
            let x = common-up c s.first (far-in u k l m) (tree-root u k l m h) s.first_common in
            let y = common-up c s.second (far-in u k l m) (tree-root u k l m h) s.second_common in
            elim x.3 [
              | inr r ↦ (x.0, omega (arith, r.0, parent), r.1)
              | inl e ↦ elim y.3 [
                | inr r ↦ (y.0, omega (arith, r.0, parent), r.1)
                | inl q ↦ absurd (s.differ (sym x.2 ∙ (ap (slice_index vertex) (e ∙ sym q) ∙ y.2)))
              ]
            ]

    -- a vertex with a parent is touched by another edge than its parent edge
    another-edge : (u e : ℕ) → u < n → IsParentEdge g t (at u) e → (f : ℕ) × (f < edge_count g) × (is_end g (at u) f ≡ true) × (f ≢ e)
    another-edge u e l q = elim (cases_eq e 0) [ inl z ↦ by 1 (omega (arith, two)) (λ s. omega (arith, s, z)) | inr z ↦ by 0 (omega (arith, two)) (λ s. z (sym s)) ]
      where
        touched : IsCommon g (λ k. k == e) (at u) → (f : ℕ) × (f < edge_count g) × (is_end g (at u) f ≡ true) × (f ≢ e)
        touched h = (h.outside, h.outside_edge, h.outside_end, λ s. both_ways (h.outside == e) h.outside_side (eq-eqb h.outside e s))

        end-of : (v : ℕ) → IsCommon g (λ k. k == e) v → (v ≡ at u) ⊎ (v ≡ other_end g e (at u))
        end-of v h = end-cases g e (at u) v q.at_child (subst (λ (k : ℕ). is_end g v k ≡ true) (eqb-true h.inside e h.inside_side) h.inside_end)

        choose : TwoCommon g (λ k. k == e) → (f : ℕ) × (f < edge_count g) × (is_end g (at u) f ≡ true) × (f ≢ e)
        choose s = elim (end-of s.first s.first_common) [
          | inl x ↦ touched (subst (IsCommon g (λ k. k == e)) x s.first_common)
          | inr x ↦ elim (end-of s.second s.second_common) [
            | inl y ↦ touched (subst (IsCommon g (λ k. k == e)) y s.second_common)
            | inr y ↦ absurd (s.differ (x ∙ sym y))
          ]
        ]

        by : (f : ℕ) → f < edge_count g → f ≢ e → (f : ℕ) × (f < edge_count g) × (is_end g (at u) f ≡ true) × (f ≢ e)
        by f fl d = choose (block-two_common g block (λ k. k == e) e f q.is_edge fl (eq-eqb e e refl) (ne_eqb f e d))

    two-vertices : 2 ≤ n
    two-vertices = omega (arith, graph.first_in 0 (omega (arith, two)), graph.second_in 0 (omega (arith, two)), graph.no_loop 0 (omega (arith, two)))

    some-dart : (u : ℕ) → u < n → 1 ≤ degree u
    some-dart u l = elim (cases_eq u 0) [
      | inl z ↦ subst (λ (w : ℕ). 1 ≤ degree w) (sym z) (let c = child-dart 0 1 (omega (arith, two-vertices)) (omega arith) (omega (arith, two-vertices, last-root (omega (arith, two-vertices)))) in omega (arith, c.1))
      | inr z ↦ from (p.parents.parent_edge (at u) (at (up u)) (a.within u l) (parent-in u l z).1)
    ]
      where
        from : (e : ℕ) × IsParentEdge g t (at u) e → 1 ≤ degree u
        from e =
            let f = another-edge u e.0 l e.1 in
            let d = dart-each f.0 f.1 in
            let s : is_end g (at u) (dart d.0 d.1).edge ≡ true = subst (λ (w : ℕ). is_end g (at u) w ≡ true) (sym d.4) f.2 in
            elim (dart-ends d.0 d.1 d.2 d.3 u l s) [
              | inl q ↦ omega (arith, d.3, ap degree q)
              | inr q ↦ elim (cases_Bool (dart d.0 d.1).tree) [
                | inl y ↦ absurd (f.3 (p.parents.only_one (at u) f.0 e.0 (subst (λ (w : ℕ × ℕ). IsParentEdge g t (at w.0) w.1) (λ i. (sym q i, d.4 i)) (tree-child d.0 d.1 d.2 d.3 y).0) e.1))
                | inr y ↦
                    let r = frond-far d.0 d.1 d.2 d.3 y in
                    omega (arith, (child-dart u d.0 l (omega (arith, r.0, q)) (omega (arith, r.1, ap last q))).1)
              ]
            ]

    root-dart : degree 0 ≡ 1
    root-dart = elim (cases_lt 1 (degree 0)) [
      | inr h ↦ omega (arith, h, some-dart 0 zero_in)
      | inl h ↦
          let less = p.later_less block (at 0) (a.within 0 zero_in) 0 1 (omega arith) h (not-true (is_frond t (dart 0 0).edge) (is_tree 0 (omega (arith, h)))) (not-true (is_frond t (dart 0 1).edge) (is_tree 1 h)) in
          let o : inside (dart 0 0).far (dart 0 1).edge ≡ false = false_from_ne_true (inside (dart 0 0).far (dart 0 1).edge) (λ s. omega (arith, (inside-true (dart 0 0).far (dart 0 1).edge s).0, low-tree 0 1 zero_in h (is_tree 1 h), less)) in
          absurd (omega (arith, (leaves 0 0 (dart 0 1).edge zero_in (omega (arith, h)) (is_tree 0 (omega (arith, h))) (dart-edge 0 1 zero_in h) o).1))
    ]
      where
        zero_in : 0 < n
        zero_in = omega (arith, two-vertices)

        is_tree : (k : ℕ) → k < degree 0 → (dart 0 k).tree ≡ true
        is_tree k m = elim (cases_Bool (dart 0 k).tree) [ inl y ↦ y | inr y ↦ absurd (omega (arith, (frond-far 0 k zero_in m y).0)) ]

    reached-up : (u k : ℕ) → u < n → u ≢ 0 → k < degree u → (dart u k).tree ≡ true → ((dart u k).reach < u) × IsFrondTo degree dart last (dart u k).far (dart u k).reach
    reached-up u k l z m h = elim (cases_Bool (inside (dart u k).far e)) [
      | inl i ↦ absurd (omega (arith, (inside-true (dart u k).far e i).0, low-parent, (tree-far u k l m h).1))
      | inr o ↦ let y = leaves u k e l m h is_edge o in reach-from u k y.0 l m h y.1 y.2
    ]
      where
        -- the parent edge of u
        parent : (e : ℕ) × IsParentEdge g t (at u) e
        parent = p.parents.parent_edge (at u) (at (up u)) (a.within u l) (parent-in u l z).1

        e : ℕ
        e = parent.0

        is_edge : e < edge_count g
        is_edge = parent.1.is_edge

        low-parent : low e ≡ u
        low-parent =
            let d = dart-each e is_edge in
            let y : (dart d.0 d.1).tree ≡ true = ap (λ (w : ℕ). not (is_frond t w)) d.4 ∙ ap not parent.1.no_frond in
            let s : is_end g (at u) (dart d.0 d.1).edge ≡ true = subst (λ (w : ℕ). is_end g (at u) w ≡ true) (sym d.4) parent.1.at_child in
            elim (dart-ends d.0 d.1 d.2 d.3 u l s) [
              | inr q ↦ ap low (sym d.4) ∙ (low-tree d.0 d.1 d.2 d.3 y ∙ sym q)
              | inl q ↦
                  let c = tree-child d.0 d.1 d.2 d.3 y in
                  let f = tree-far d.0 d.1 d.2 d.3 y in
                  let up_far : other_end g e (at u) ≡ at (dart d.0 d.1).far = ap (λ (w : ℕ × ℕ). other_end g w.0 (at w.1)) (λ i. (sym d.4 i, q i)) ∙ sym (far-at d.0 d.1 d.2 d.3) in
                  let both : at (up u) ≡ at (dart d.0 d.1).far = some-same (at (up u)) (at (dart d.0 d.1).far) (sym (parent-in u l z).1 ∙ (parent.1.to_parent ∙ ap (λ (w : ℕ). Some w) up_far)) in
                  absurd (omega (arith, f.1, q, (parent-less u l z).0, at-same (up u) (dart d.0 d.1).far (parent-in u l z).0 f.0 both))
            ]

    facts : IsPalm n (edge_count g) up degree dart
    facts = record {
      last = last;
      two = two-vertices;
      above = last-above;
      nested = last-nested;
      within = last-in;
      root = last-root (omega (arith, two-vertices));
      parent_less = parent-less;
      ancestors = ancestors-up;
      dart_edge = dart-edge;
      dart_once = dart-once;
      dart_each = dart-each;
      tree_far = tree-far;
      tree_once = tree-once;
      frond_far = frond-far;
      frond_reach = frond-reach;
      child = child-dart;
      later = λ u i j l h m s r. p.later_less block (at u) (a.within u l) i j h m (not-true (is_frond t (dart u i).edge) s) (not-true (is_frond t (dart u j).edge) r);
      in_order = λ u i j l h m. p.in_order (at u) (a.within u l) i j h m;
      some_dart = some-dart;
      root_dart = root-dart;
      tree_class = λ u k l m h. elim (tree-class u k l m h) [ inl c ↦ inl c.0 | inr c ↦ inr c.0 ];
      reached = reached-up;
      least = reach-least;
      only_one = reach-only;
      another = λ u k l z m h c. reach-another u k l m h c;
    }

  drawn : AreDrawn g vertex n degree dart
  drawn u k l m = elim (cases_Bool (dart u k).tree) [ inl y ↦ rw y (drawn-ends u k l m).0 | inr y ↦ rw y (drawn-ends u k l m).1 ]

-- the palm tree of a block of two edges or more, by numbers
pub palm-facts : (g : Multigraph) (t : PalmTreeLists) (vertex : List ℕ) → IsGraph g → IsOneBlock g → IsPalmTree g t → 2 ≤ edge_count g → AreVertices g.vertex_count t vertex
    → IsPalm g.vertex_count (edge_count g) (tree_parent t vertex) (tree_degree t vertex) (tree_dart g t vertex)
palm-facts g t vertex graph block p two a = facts g t vertex graph p a block two

-- the vertices with the numbers of a dart's ends are the ends of its edge
pub palm-drawn : (g : Multigraph) (t : PalmTreeLists) (vertex : List ℕ) → IsGraph g → IsPalmTree g t → AreVertices g.vertex_count t vertex
    → AreDrawn g vertex g.vertex_count (tree_degree t vertex) (tree_dart g t vertex)
palm-drawn g t vertex graph p a = drawn g t vertex graph p a
