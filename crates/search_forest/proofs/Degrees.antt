-- The degrees of the vertices sum up to twice the number of edges, and the looks that are left at the ends of a search.
use Rattle.std.proofs.Common.{◌≡◌, ℕ, zero, suc, ◌+◌, ◌*◌, ◌<◌, inl, inr, Bool, true, false, ◌||◌, ◌==◌, cond, List, [], ◌∷◌, length, filter, get_or, replicate, refl, sym, ap, ◌∙◌, arith, length-append}
use Rattle.std.proofs.lemmas.Bool.{cases_Bool, eq-eqb, eqb-true, false_from_ne_true}
use Rattle.permutations.specs.Count.{count, sum_below}
use Rattle.permutations.proofs.Count.{count-ext, count-single}
use Rattle.permutations.proofs.Sums.{sum_below-ext, sum_below-const, count-exchange}
use Rattle.permutations.proofs.Relation.{same-tests}
use Rattle.multigraph.specs.Graph.{Multigraph, edge_count, ends_of, is_end, numbers_below, IsGraph}
use Rattle.multigraph.proofs.Below.{filter_below-suc}
use Rattle.search_forest.specs.Forest.{degree, looks_left}
use Rattle.search_forest.proofs.Fresh.{number-none}

-- as many numbers below k are kept as pass the test
kept-count : (p : ℕ → Bool) (k : ℕ) → length (filter p (numbers_below k)) ≡ count k p
kept-count p zero = refl
kept-count p (suc k) = elim (cases_Bool (p k)) [
  | inl t ↦ ap (length {A = ℕ}) (filter_below-suc p k) ∙ (length-append (filter p (numbers_below k)) (cond (p k) (k ∷ []) []) ∙ one (kept-count p k) t)
  | inr f ↦ ap (length {A = ℕ}) (filter_below-suc p k) ∙ (length-append (filter p (numbers_below k)) (cond (p k) (k ∷ []) []) ∙ none (kept-count p k) f)
]
  where
    one : length (filter p (numbers_below k)) ≡ count k p → p k ≡ true → length (filter p (numbers_below k)) + length (cond (p k) (k ∷ []) []) ≡ count (suc k) p
    one i t = rw t (omega (arith, i))

    none : length (filter p (numbers_below k)) ≡ count k p → p k ≡ false → length (filter p (numbers_below k)) + length (cond (p k) (k ∷ []) []) ≡ count (suc k) p
    none i f = rw f (omega (arith, i))

-- where no number passes both tests, the numbers that pass one of them are as many as those that pass each
count-apart : (n : ℕ) (p q : ℕ → Bool) → ((x : ℕ) → x < n → p x ≡ true → q x ≡ false) → count n (λ x. p x || q x) ≡ count n p + count n q
count-apart zero p q h = refl
count-apart (suc n) p q h = elim (cases_Bool (p n)) [
  | inl a ↦ let b : q n ≡ false = h n (omega arith) a in rw (a, b) (omega (arith, count-apart n p q (λ x l t. h x (omega arith) t)))
  | inr a ↦ elim (cases_Bool (q n)) [
    | inl b ↦ rw (a, b) (omega (arith, count-apart n p q (λ x l t. h x (omega arith) t)))
    | inr b ↦ rw (a, b) (omega (arith, count-apart n p q (λ x l t. h x (omega arith) t)))
  ]
]

-- one number below n is a
count-one : (n a : ℕ) → a < n → count n (λ x. a == x) ≡ 1
count-one n a l = count-ext n (λ x. a == x) (λ x. x == a) (λ x m. same-tests (a == x) (x == a) (λ t. eq-eqb x a (sym (eqb-true a x t))) (λ t. eq-eqb a x (sym (eqb-true x a t)))) ∙ count-single n a l

-- an edge has two ends
two-ends : (g : Multigraph) → IsGraph g → (e : ℕ) → e < edge_count g → count g.vertex_count (λ v. is_end g v e) ≡ 2
two-ends g gg e l =
    omega (
      arith,
      count-apart g.vertex_count (λ v. (ends_of g e).0 == v) (λ v. (ends_of g e).1 == v) (λ v m t. false_from_ne_true ((ends_of g e).1 == v) (λ r. gg.no_loop e l (eqb-true (ends_of g e).0 v t ∙ sym (eqb-true (ends_of g e).1 v r)))),
      count-one g.vertex_count (ends_of g e).0 (gg.first_in e l),
      count-one g.vertex_count (ends_of g e).1 (gg.second_in e l),
    )

-- the sum of the degrees is twice the number of edges
pub degree-sum : (g : Multigraph) → IsGraph g → sum_below g.vertex_count (degree g) ≡ 2 * edge_count g
degree-sum g gg =
    omega (
      arith,
      sum_below-ext g.vertex_count (degree g) (λ v. count (edge_count g) (is_end g v)) (λ v l. kept-count (is_end g v) (edge_count g)),
      count-exchange g.vertex_count (edge_count g) (λ v e. is_end g v e),
      sum_below-ext (edge_count g) (λ e. count g.vertex_count (λ v. is_end g v e)) (λ e. 2) (two-ends g gg),
      sum_below-const (edge_count g) 2,
    )

-- where no edge was looked at, as many looks are left as the sum of the degrees
pub looks-all : (g : Multigraph) (n k : ℕ) → looks_left g (replicate n 0) k ≡ sum_below k (degree g)
looks-all g n zero = refl
looks-all g n (suc k) = omega (arith, looks-all g n k, number-none n k)

-- where all edges at all vertices were looked at, none is left
pub looks-none : (g : Multigraph) (position : List ℕ) (k : ℕ) → ((v : ℕ) → v < k → get_or position v 0 ≡ degree g v) → looks_left g position k ≡ 0
looks-none g position zero h = refl
looks-none g position (suc k) h = omega (arith, looks-none g position k (λ v l. h v (omega arith)), h k (omega arith))
