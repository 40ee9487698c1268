-- Two bonds with an edge each that have the same ends: without these two edges they are one bond.
use Rattle.std.proofs.Common.{◌≡◌, ℕ, ◌+◌, ◌<◌, ◌==◌, ◌&&◌, ◌||◌, inl, inr, Bool, true, not, cond, List, length, filter, slice_index_or, refl, sym, ap, ◌∙◌, subst, arith}
use Rattle.std.proofs.lemmas.Bool.{and_parts, and_from, or_cases, or_left, or_right, eq-eqb, eqb-true, true_from_ne_false}
use Rattle.std.proofs.lemmas.List.{get_or_default}
use Rattle.pair_split.specs.Skeleton.{SameEnds, IsBond}
use Rattle.spqr_tree.proofs.MergeCounts.{number-from, number-all, number-none}

-- the same ends, the other way round
pub same-sym : (p q : ℕ × ℕ) → SameEnds p q → SameEnds q p
same-sym p q (inl e) = inl (sym e.0, sym e.1)
same-sym p q (inr e) = inr (sym e.1, sym e.0)

-- the same ends, one after the other
pub same-trans : (p q r : ℕ × ℕ) → SameEnds p q → SameEnds q r → SameEnds p r
same-trans p q r (inl e) (inl f) = inl (e.0 ∙ f.0, e.1 ∙ f.1)
same-trans p q r (inl e) (inr f) = inr (e.0 ∙ f.0, e.1 ∙ f.1)
same-trans p q r (inr e) (inl f) = inr (e.0 ∙ f.1, e.1 ∙ f.0)
same-trans p q r (inr e) (inr f) = inl (e.0 ∙ f.1, e.1 ∙ f.0)

-- whether two pairs have the same ends
abbrev pub same_ends : ℕ × ℕ → ℕ × ℕ → Bool
same_ends p q = ((p.0 == q.0) && (p.1 == q.1)) || ((p.0 == q.1) && (p.1 == q.0))

pub same_ends-from : (p q : ℕ × ℕ) → SameEnds p q → same_ends p q ≡ true
same_ends-from p q (inl e) = or_left ((p.0 == q.0) && (p.1 == q.1)) ((p.0 == q.1) && (p.1 == q.0)) (and_from (p.0 == q.0) (p.1 == q.1) (eq-eqb p.0 q.0 e.0) (eq-eqb p.1 q.1 e.1))
same_ends-from p q (inr e) = or_right ((p.0 == q.0) && (p.1 == q.1)) ((p.0 == q.1) && (p.1 == q.0)) (and_from (p.0 == q.1) (p.1 == q.0) (eq-eqb p.0 q.1 e.0) (eq-eqb p.1 q.0 e.1))

pub same_ends-true : (p q : ℕ × ℕ) → same_ends p q ≡ true → SameEnds p q
same_ends-true p q h = elim (or_cases ((p.0 == q.0) && (p.1 == q.1)) ((p.0 == q.1) && (p.1 == q.0)) h) [
  | inl a ↦ let w = and_parts (p.0 == q.0) (p.1 == q.1) a in inl (eqb-true p.0 q.0 w.0, eqb-true p.1 q.1 w.1)
  | inr a ↦ let w = and_parts (p.0 == q.1) (p.1 == q.0) a in inr (eqb-true p.0 q.1 w.0, eqb-true p.1 q.0 w.1)
]

-- the whole skeleton: the edges of two others, without the edge p of the one and the edge q of the other, which have the same ends
pub record AreJoined (one other : List (ℕ × ℕ)) (p q : ℕ × ℕ) (whole : List (ℕ × ℕ)) : Type 0 where
  pub first : (i : ℕ) × (i < length one) × (slice_index_or one i (0, 0) ≡ p)
  pub second : (i : ℕ) × (i < length other) × (slice_index_or other i (0, 0) ≡ q)
  pub same : SameEnds p q
  pub counts : (t : ℕ × ℕ → Bool) → length (filter t whole) + (cond (t p) 1 0 + cond (t q) 1 0) ≡ length (filter t one) + length (filter t other)

module _ (one other : List (ℕ × ℕ)) (p q : ℕ × ℕ) (whole : List (ℕ × ℕ)) (j : AreJoined one other p q whole) where
  -- what all edges of the two have, the edges of the whole have
  pub joined-all : (t : ℕ × ℕ → Bool) → ((i : ℕ) → i < length one → t (slice_index_or one i (0, 0)) ≡ true) → ((i : ℕ) → i < length other → t (slice_index_or other i (0, 0)) ≡ true)
      → (i : ℕ) → i < length whole → t (slice_index_or whole i (0, 0)) ≡ true
  joined-all t f h i l = true_from_ne_false (t (slice_index_or whole i (0, 0))) (λ e. absurd (omega (
    arith,
    number-from (0, 0) (λ x. not (t x)) whole i l (ap not e),
    number-none (0, 0) (λ x. not (t x)) one (λ k m. ap not (f k m)),
    number-none (0, 0) (λ x. not (t x)) other (λ k m. ap not (h k m)),
    j.counts (λ x. not (t x)),
  )))

  -- two bonds joined are a bond
  pub bonds-joined : IsBond one → IsBond other → IsBond whole
  bonds-joined b c = record {
    two = record { poles = poles; differ = b.two.differ; joined = λ i d l. subst (SameEnds poles) (get_or_default whole i (0, 0) d l) (same_ends-true poles (slice_index_or whole i (0, 0)) (joined-all (same_ends poles) in-one in-other i l)) };
    three = omega (arith, b.three, c.three, all whole, all one, all other, j.counts (λ x. true));
  }
    where
      poles : ℕ × ℕ
      poles = b.two.poles

      in-one : (i : ℕ) → i < length one → same_ends poles (slice_index_or one i (0, 0)) ≡ true
      in-one i l = same_ends-from poles (slice_index_or one i (0, 0)) (b.two.joined i (0, 0) l)

      to-first : SameEnds poles p
      to-first = subst (SameEnds poles) j.first.2 (b.two.joined j.first.0 (0, 0) j.first.1)

      to-second : SameEnds c.two.poles q
      to-second = subst (SameEnds c.two.poles) j.second.2 (c.two.joined j.second.0 (0, 0) j.second.1)

      across : SameEnds poles c.two.poles
      across = same-trans poles q c.two.poles (same-trans poles p q to-first j.same) (same-sym c.two.poles q to-second)

      in-other : (i : ℕ) → i < length other → same_ends poles (slice_index_or other i (0, 0)) ≡ true
      in-other i l = same_ends-from poles (slice_index_or other i (0, 0)) (same-trans poles c.two.poles (slice_index_or other i (0, 0)) across (c.two.joined i (0, 0) l))

      all : (l : List (ℕ × ℕ)) → length (filter (λ x. true) l) ≡ length l
      all l = number-all (0, 0) (λ x. true) l (λ i m. refl)
