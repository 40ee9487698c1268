-- Keys in the numbers of a block, and that they are an arrangement of a node's keys exactly where they are one in the numbers
-- of the whole graph.
use Rattle.std.proofs.Common.{◌≡◌, ℕ, ◌<◌, ◌==◌, true, false, List, [], ◌∷◌, length, slice_index, get_or, Option, None, Some, All, IsPermutation, inl, inr, refl, sym, ap₂, ◌∙◌, subst, arith}
use Rattle.std.specs.List.Sorted.{IsSorted}
use Rattle.std.specs.Ordering.{nat_cmp}
use Rattle.std.proofs.lemmas.Bool.{cases_Bool, eq-eqb, eqb-true, false_from_ne_true}
use Rattle.std.proofs.lemmas.List.{get_or_default}
use Rattle.std.proofs.lemmas.List.Elements.{All-head, All-tail, Contains-get_or}
use Rattle.std.proofs.lemmas.List.Sorted.{All-permutation, Contains-permutation, IsPermutation-map, IsPermutation-sym, IsPermutation-trans}
use Rattle.permutations.specs.Count.{some, least}
use Rattle.permutations.specs.Members.{is_distinct}
use Rattle.permutations.proofs.Arrangements.{all-member, permutation-distinct}
use Rattle.permutations.proofs.Search.{least-is, least-none, least-passes, none-some}
use Rattle.permutations.proofs.Places.{told-distinct}
use Rattle.permutations.proofs.Mapped.{distinct-map}
use Rattle.kuratowski.proofs.Sorting.{sorted-risen}
use Rattle.multigraph.specs.Part.{Rises, IsNumbered, IsPlace}
use Rattle.multigraph.proofs.Places.{rises-once}
use Rattle.graph_theory.proofs.Rising.{HasAll, rises-same}
use Rattle.spqr_session.specs.Trees.{BlockTree}
use Rattle.gml_graph.specs.Arranged.{is_arrangement}
use Rattle.spqr_session.specs.Commands.Permute.{outer_edges, inner_edges}
use Rattle.gml_graph.proofs.Arranged.{arranged-passes, passes-arranged}
use Rattle.spqr_session.proofs.MovesCarried.{inner-of_outer}

-- ---- one key

-- where an edge stands at a place, this is the least place at which it stands
pub edge-found : (edges : List ℕ) (x k : ℕ) (answer : Option ℕ) → IsPlace edges x answer → answer ≡ Some k → k ≡ least (length edges) (λ i. slice_index edges i == x)
edge-found edges x k answer p e =
    let at = (p.some k).0 e in
    sym (least-is (length edges) (λ i. slice_index edges i == x) k at.0 (eq-eqb (slice_index edges k) x at.1)
    (λ y l. false_from_ne_true (slice_index edges y == x) (λ t. once y l ((p.some y).1 (within y l at.0, eqb-true (slice_index edges y) x t)))))
  where
    within : (y : ℕ) → y < k → k < length edges → y < length edges
    within y l m = omega (arith, l, m)

    once : (y : ℕ) → y < k → answer ≡ Some y → ⊥
    once y l f = let same : k ≡ y = (let both : Some k ≡ Some y = sym e ∙ f in cc) in omega (arith, l, same)

-- where it stands nowhere, there is none
pub edge-missed : (edges : List ℕ) (x n : ℕ) (answer : Option ℕ) → IsPlace edges x answer → answer ≡ None → length edges ≡ n → n ≡ least (length edges) (λ i. slice_index edges i == x)
edge-missed edges x n answer p e m =
    sym (least-none (length edges) (λ i. slice_index edges i == x) (none-some (length edges) (λ i. slice_index edges i == x) (λ y l. false_from_ne_true (slice_index edges y == x) (λ t. p.none.0 e y l (eqb-true (slice_index edges y) x t)))) ∙ m)

-- a least place below the length is one at which the edge stands
place-holds : (edges : List ℕ) (x : ℕ) → least (length edges) (λ i. slice_index edges i == x) < length edges → slice_index edges (least (length edges) (λ i. slice_index edges i == x)) ≡ x
place-holds edges x l = elim (cases_Bool (some (length edges) (λ i. slice_index edges i == x))) [
  | inl s ↦ eqb-true (slice_index edges (least (length edges) (λ i. slice_index edges i == x))) x (least-passes (length edges) (λ i. slice_index edges i == x) s)
  | inr n ↦ absurd (omega (arith, l, least-none (length edges) (λ i. slice_index edges i == x) n))
]

-- ---- a copy sorted

-- each number of a list stands in an arrangement of it
all-there : (l m : List ℕ) → IsPermutation l m → HasAll l m
all-there l m p i h = let c = Contains-permutation l m (get_or l i 0) p (Contains-get_or l i 0 h) in (c.0, c.1, get_or_default m c.0 0 (get_or l i 0) c.1 ∙ c.2)

-- keys that are the others when sorted are an arrangement of them
pub sorted-arranged : (own keys sorted : List ℕ) → IsPermutation keys sorted → own ≡ sorted → IsPermutation own keys
sorted-arranged own keys sorted p e = subst (λ (l : List ℕ). IsPermutation l keys) (sym e) (IsPermutation-sym keys sorted p)

-- and an arrangement of rising ones is these when sorted
pub arranged-sorted : (own keys sorted : List ℕ) → Rises own → IsPermutation keys sorted → IsSorted nat_cmp sorted → IsPermutation own keys → own ≡ sorted
arranged-sorted own keys sorted r p s q =
    let risen = sorted-risen keys sorted (permutation-distinct own keys q (told-distinct own (rises-once own r))) p s in
    let a = IsPermutation-trans own keys sorted q p in
    rises-same own sorted r risen.rises (all-there own sorted a) (all-there sorted own (IsPermutation-sym own sorted a))

-- ---- in the block and in the whole graph

-- keys that the block has are told back
outer-of_inner : (tree : BlockTree) (keys : List ℕ) → All (λ x. x < length tree.part.edges) (inner_edges tree keys) → outer_edges tree (inner_edges tree keys) ≡ keys
outer-of_inner tree [] h = refl
outer-of_inner tree (x ∷ xs) h =
    let first = least (length tree.part.edges) (λ i. slice_index tree.part.edges i == x) in
    ap₂ (λ (y : ℕ) (ys : List ℕ). y ∷ ys) (place-holds tree.part.edges x (All-head (λ y. y < length tree.part.edges) first (inner_edges tree xs) h)) (outer-of_inner tree xs (All-tail (λ y. y < length tree.part.edges) first (inner_edges tree xs) h))

module _ (tree : BlockTree) (numbered : IsNumbered tree.part) (own keys : List ℕ) (once : is_distinct own ≡ true) (within : All (λ x. x < length tree.part.edges) own) where
  apart : (i j : ℕ) → i < length tree.part.edges → j < length tree.part.edges → slice_index tree.part.edges i ≡ slice_index tree.part.edges j → i ≡ j
  apart = rises-once tree.part.edges numbered.edges_rise

  outer-once : is_distinct (outer_edges tree own) ≡ true
  outer-once = distinct-map (slice_index tree.part.edges) own
      (λ y z a b e. apart y z (all-member (λ x. x < length tree.part.edges) own y within a) (all-member (λ x. x < length tree.part.edges) own z within b) e) once

  -- an arrangement in the numbers of the block is one in those of the graph
  pub order-right : IsPermutation own (inner_edges tree keys) → is_arrangement (outer_edges tree own) keys ≡ true
  order-right p =
      arranged-passes (outer_edges tree own) keys outer-once
      (subst (λ (xs : List ℕ). IsPermutation (outer_edges tree own) xs) (outer-of_inner tree keys (All-permutation (λ x. x < length tree.part.edges) own (inner_edges tree keys) p within))
      (IsPermutation-map (slice_index tree.part.edges) own (inner_edges tree keys) p))

  -- and back
  order-back : is_arrangement (outer_edges tree own) keys ≡ true → IsPermutation own (inner_edges tree keys)
  order-back a =
      subst (λ (xs : List ℕ). IsPermutation xs (inner_edges tree keys)) (inner-of_outer tree own apart within)
      (IsPermutation-map (λ e. least (length tree.part.edges) (λ i. slice_index tree.part.edges i == e)) (outer_edges tree own) keys (passes-arranged (outer_edges tree own) keys a))

  -- so where there is none in the block, there is none in the graph
  pub order-wrong : (IsPermutation own (inner_edges tree keys) → ⊥) → is_arrangement (outer_edges tree own) keys ≡ false
  order-wrong n = false_from_ne_true (is_arrangement (outer_edges tree own) keys) (λ a. n (order-back a))
