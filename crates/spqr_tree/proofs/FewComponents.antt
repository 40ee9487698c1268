-- There are at most as many split components as edges, and one: each has at least three pieces, and a tree has few links.
use Rattle.std.proofs.Common.{◌≡◌, ◌≢◌, ℕ, zero, suc, ◌+◌, ◌<◌, ◌≤◌, inl, inr, Bool, true, false, not, cond, ◌&&◌, ◌==◌, List, [], ◌∷◌, length, filter, slice_index_or, refl, sym, ap, ◌∙◌, arith}
use Rattle.std.proofs.lemmas.Bool.{cases_Bool, cases_eq, both_ways, and_parts, not-true, eq-eqb, eqb-true, ne_eqb}
use Rattle.permutations.specs.Count.{sum_below}
use Rattle.permutations.proofs.Sums.{sum_below-ext, sum_below-add, sum_below-le, sum_below-const, sum_below-term, sum_below-exchange}
use Rattle.multigraph.specs.Graph.{Multigraph, edge_count}
use Rattle.pair_split.specs.Edges.{graph_family}
use Rattle.pair_split.specs.Family.{IsTight}
use Rattle.pair_split.specs.Split.{items_of, item_at, StandsFor, IsTree, IsSplit}
use Rattle.pair_split.specs.declared.components.Piece.{Piece}
use Rattle.pair_split.specs.declared.components.Comp.{Comp}
use Rattle.pair_split.specs.declared.components.What.{What}
use Rattle.pair_split.specs.declared.components.What.TheVariants.{Real, Link}
use Rattle.pair_split.proofs.TreeSides.{beyond-some}
use Rattle.pair_split.proofs.LargeSides.{three-items}
use Rattle.pair_split.proofs.Subtrees.{link-in}
use Rattle.spqr_tree.proofs.MergeCounts.{number-cons, number-some, number-once, sum-once}

-- one where the test holds
abbrev one : Bool → ℕ
one t = cond t 1 0

-- what passes is at most what passes under each of the names
classes-le : {X : Type 0} (o : X) (t : X → Bool) (name : X → ℕ) (n : ℕ) (xs : List X) → ((i : ℕ) → i < length xs → t (slice_index_or xs i o) ≡ true → name (slice_index_or xs i o) < n)
    → length (filter t xs) ≤ sum_below n (λ j. length (filter (λ x. t x && (name x == j)) xs))
classes-le o t name n [] b = omega arith
classes-le o t name n (x ∷ xs) b = omega (
  arith,
  number-cons t x xs,
  classes-le o t name n xs (λ i l h. b (suc i) (omega (arith, l)) h),
  head,
  sum_below-add n (λ j. one (t x && (name x == j))) (λ j. length (filter (λ y. t y && (name y == j)) xs)),
  sum_below-ext n (λ j. length (filter (λ y. t y && (name y == j)) (x ∷ xs))) (λ j. one (t x && (name x == j)) + length (filter (λ y. t y && (name y == j)) xs)) (λ j l. number-cons (λ y. t y && (name y == j)) x xs),
)
  where
    head : one (t x) ≤ sum_below n (λ j. one (t x && (name x == j)))
    head = elim (cases_Bool (t x)) [
      | inr f ↦ rw f (omega arith)
      | inl h ↦ omega (arith, own h, sum_below-term n (λ j. one (t x && (name x == j))) (name x) (b 0 (omega arith) h))
    ]
      where
        own : t x ≡ true → one (t x) ≡ one (t x && (name x == name x))
        own h = rw (h, eq-eqb (name x) (name x) refl) refl

-- a number is one of those below n at most once
once-below : (n : ℕ) (c : Bool) (a : ℕ) → sum_below n (λ j. one (c && (a == j))) ≤ one c
once-below n true a = sum-once n (λ j. one (a == j)) (λ j l. small (a == j)) (λ i j l k p q. sym (eqb-true a i (passes (a == i) p)) ∙ eqb-true a j (passes (a == j) q))
  where
    small : (b : Bool) → one b ≤ 1
    small true = omega arith
    small false = omega arith

    passes : (b : Bool) → 1 ≤ one b → b ≡ true
    passes true l = refl
    passes false l = absurd (omega (arith, l))
once-below n false a = omega (arith, sum_below-const n 0)

-- all numbers below n but one of them
all-but : (n r : ℕ) → r < n → sum_below n (λ k. one (not (k == r))) + 1 ≤ n
all-but n r l = omega (
  arith,
  sum_below-add n (λ k. one (not (k == r))) (λ k. one (k == r)),
  sum_below-ext n (λ k. one (not (k == r)) + one (k == r)) (λ k. 1) (λ k b. whole (k == r)),
  sum_below-const n 1,
  sum_below-term n (λ k. one (k == r)) r l,
  ap one (eq-eqb r r refl),
)
  where
    whole : (b : Bool) → one (not b) + one b ≡ 1
    whole true = refl
    whole false = refl

-- whether a piece is an edge
abbrev real_what : What → Bool
real_what (Real e) = true
real_what (Link j) = false

abbrev is_real : Piece → Bool
is_real piece = real_what piece.what

-- the number that a piece names
abbrev name_what : What → ℕ
name_what (Real e) = e
name_what (Link j) = j

abbrev name_of : Piece → ℕ
name_of piece = name_what piece.what

real-is : (w : What) (e : ℕ) → real_what w ≡ true → name_what w ≡ e → w ≡ Real e
real-is (Real f) e h q = ap Real q
real-is (Link j) e h q = absurd (both_ways false refl h)

link-is : (w : What) (j : ℕ) → real_what w ≡ false → name_what w ≡ j → w ≡ Link j
link-is (Real f) j h q = absurd (both_ways true h refl)
link-is (Link i) j h q = ap Link q

-- pieces are edges or links
two-kinds : (pieces : List Piece) → length pieces ≡ length (filter is_real pieces) + length (filter (λ x. not (is_real x)) pieces)
two-kinds [] = refl
two-kinds (x ∷ xs) = omega (arith, two-kinds xs, number-cons is_real x xs, number-cons (λ y. not (is_real y)) x xs, whole (is_real x))
  where
    whole : (b : Bool) → one b + one (not b) ≡ 1
    whole true = refl
    whole false = refl

module _ (g : Multigraph) (comps : List Comp) (s : IsSplit g comps) (tight : IsTight (graph_family g)) where
  abbrev t : IsTree comps
  t = s.linked.tree

  abbrev n : ℕ
  n = length comps

  abbrev none : Piece
  none = record { a = 0; b = 0; what = Real 0 }

  -- the pieces of component k that are edge e, and that are links to j
  abbrev edges_at : ℕ → ℕ → ℕ
  edges_at k e = length (filter (λ x. is_real x && (name_of x == e)) (items_of comps k))

  abbrev links_at : ℕ → ℕ → ℕ
  links_at k j = length (filter (λ x. not (is_real x) && (name_of x == j)) (items_of comps k))

  edge-stands : (k e i : ℕ) → i < length (items_of comps k) → (is_real (item_at comps k i) && (name_of (item_at comps k i) == e)) ≡ true → StandsFor comps k i (Real e)
  edge-stands k e i l h = let p = and_parts (is_real (item_at comps k i)) (name_of (item_at comps k i) == e) h in (l, real-is (item_at comps k i).what e p.0 (eqb-true (name_of (item_at comps k i)) e p.1))

  link-stands : (k j i : ℕ) → i < length (items_of comps k) → (not (is_real (item_at comps k i)) && (name_of (item_at comps k i) == j)) ≡ true → StandsFor comps k i (Link j)
  link-stands k j i l h = let p = and_parts (not (is_real (item_at comps k i))) (name_of (item_at comps k i) == j) h in (l, link-is (item_at comps k i).what j (not-true (is_real (item_at comps k i)) p.0) (eqb-true (name_of (item_at comps k i)) j p.1))

  -- an edge stands once
  edges-once : (e : ℕ) → sum_below n (λ k. edges_at k e) ≤ 1
  edges-once e = sum-once n (λ k. edges_at k e)
      (λ k l. number-once none (λ x. is_real x && (name_of x == e)) (items_of comps k) (λ i j b c p q. (s.covers.once e k i k j (edge-stands k e i b p) (edge-stands k e j c q)).1))
      (λ k j l b p q.
      let u = number-some none (λ x. is_real x && (name_of x == e)) (items_of comps k) p in
      let v = number-some none (λ x. is_real x && (name_of x == e)) (items_of comps j) q in
      (s.covers.once e k u.0 j v.0 (edge-stands k e u.0 u.1 u.2) (edge-stands j e v.0 v.1 v.2)).0)

  -- so there are as many pieces that are edges as edges, at most
  edges-few : sum_below n (λ k. length (filter is_real (items_of comps k))) ≤ edge_count g
  edges-few = omega (
    arith,
    sum_below-le n (λ k. length (filter is_real (items_of comps k))) (λ k. sum_below (edge_count g) (edges_at k)) (λ k l. classes-le none is_real name_of (edge_count g) (items_of comps k) (λ i b h. (s.covers.edges (name_of (item_at comps k i)) k i (b, real-is (item_at comps k i).what (name_of (item_at comps k i)) h refl)).0)),
    sum_below-exchange n (edge_count g) edges_at,
    sum_below-le (edge_count g) (λ e. sum_below n (λ k. edges_at k e)) (λ e. 1) (λ e l. edges-once e),
    sum_below-const (edge_count g) 1,
  )

  -- whether j is the parent of k, and the other way round
  abbrev up : ℕ → ℕ → ℕ
  up k j = one (not (k == t.root) && (t.parent k == j))

  -- a component has at most one link to another, which is its parent or its child
  links-once : (k j : ℕ) → links_at k j ≤ up k j + up j k
  links-once k j = by_size (links_at k j) refl
    where
      few : links_at k j ≤ 1
      few = number-once none (λ x. not (is_real x) && (name_of x == j)) (items_of comps k) (λ i h b c p q. s.linked.once k j i h (link-stands k j i b p) (link-stands k j h c q))

      parent : (x y : ℕ) → x ≢ t.root → t.parent x ≡ y → up x y ≡ 1
      parent x y a e = rw (ne_eqb x t.root a, eq-eqb (t.parent x) y e) refl

      by_size : (c : ℕ) → links_at k j ≡ c → links_at k j ≤ up k j + up j k
      by_size zero e = omega (arith, e)
      by_size (suc c) e =
          let w = number-some none (λ x. not (is_real x) && (name_of x == j)) (items_of comps k) (omega (arith, e)) in
          elim (t.linked k j (w.0, link-stands k j w.0 w.1 w.2)) [
            | inl p ↦ omega (arith, few, parent k j p.0 p.1)
            | inr p ↦ omega (arith, few, parent j k p.0 p.1)
          ]

  parents-few : sum_below n (λ k. sum_below n (up k)) + 1 ≤ n
  parents-few = omega (
    arith,
    sum_below-le n (λ k. sum_below n (up k)) (λ k. one (not (k == t.root))) (λ k l. once-below n (not (k == t.root)) (t.parent k)),
    all-but n t.root t.root_in,
  )

  links-few : sum_below n (λ k. length (filter (λ x. not (is_real x)) (items_of comps k))) + 2 ≤ n + n
  links-few = omega (
    arith,
    sum_below-le n (λ k. length (filter (λ x. not (is_real x)) (items_of comps k))) (λ k. sum_below n (links_at k)) (λ k l. classes-le none (λ x. not (is_real x)) name_of n (items_of comps k)
        (λ i b h. link-in comps s.linked k (name_of (item_at comps k i)) (i, (b, link-is (item_at comps k i).what (name_of (item_at comps k i)) (not-true (is_real (item_at comps k i)) h) refl)))),
    sum_below-le n (λ k. sum_below n (links_at k)) (λ k. sum_below n (up k) + sum_below n (λ j. up j k))
        (λ k l. omega (arith, sum_below-le n (links_at k) (λ j. up k j + up j k) (λ j b. links-once k j), sum_below-add n (up k) (λ j. up j k))),
    sum_below-add n (λ k. sum_below n (up k)) (λ k. sum_below n (λ j. up j k)),
    sum_below-exchange n n (λ k j. up j k),
    parents-few,
  )

  -- each component has at least three pieces, where there are two components
  three-each : 2 ≤ n → (k : ℕ) → k < n → 3 ≤ length (items_of comps k)
  three-each l k b = elim (cases_eq k 0) [
    | inl e ↦ let w = beyond-some comps s.linked k 1 b (omega (arith, l)) (λ q. omega (arith, q, e)) in three-items g comps s tight k w.0 w.1
    | inr a ↦ let w = beyond-some comps s.linked k 0 b (omega (arith, l)) (λ q. a (sym q)) in three-items g comps s tight k w.0 w.1
  ]

  -- so there are fewer components than edges, but for a single one
  pub few-components : length comps ≤ edge_count g + 1
  few-components = by_size (length comps) refl
    where
      by_size : (c : ℕ) → length comps ≡ c → length comps ≤ edge_count g + 1
      by_size zero e = omega (arith, e)
      by_size (suc zero) e = omega (arith, e)
      by_size (suc (suc c)) e = omega (
        arith,
        edges-few,
        links-few,
        sum_below-const n 3,
        sum_below-le n (λ k. 3) (λ k. length (items_of comps k)) (λ k l. three-each (omega (arith, e)) k l),
        sum_below-ext n (λ k. length (items_of comps k)) (λ k. length (filter is_real (items_of comps k)) + length (filter (λ x. not (is_real x)) (items_of comps k))) (λ k l. two-kinds (items_of comps k)),
        sum_below-add n (λ k. length (filter is_real (items_of comps k))) (λ k. length (filter (λ x. not (is_real x)) (items_of comps k))),
      )
