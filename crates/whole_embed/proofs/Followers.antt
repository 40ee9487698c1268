-- The member of a list that follows another one: none of the members is between them. So its place is the next one, in each list that
-- has the members in their order.
use Rattle.std.proofs.Common.{◌≡◌, ℕ, ◌+◌, ◌<◌, ◌⊎◌, inl, inr, List, [], length, slice_index_or, AllPairs, Contains, ◌↔◌, refl, sym, ap, ◌∙◌, subst, arith}
use Rattle.std.proofs.lemmas.Bool.{cases_eq, cases_lt, cases_order}
use Rattle.skeletons.specs.Lists.{IsRank}
use Rattle.embed_enum.proofs.Places.{rank-contains, contains-rank}

-- q follows p among those with the property M: it comes after p, and before all others that do
pub record Succeeds (Before : List (List ℕ) → List (List ℕ) → Type 0) (M : List (List ℕ) → Type 0) (p q : List (List ℕ)) : Type 0 where
  pub member : M q
  pub after : Before p q
  pub none_between : (s : List (List ℕ)) → M s → Before p s → (q ≡ s) ⊎ Before q s

-- nothing with the property comes after p
abbrev pub IsEnd : (List (List ℕ) → List (List ℕ) → Type 0) → (List (List ℕ) → Type 0) → List (List ℕ) → Type 0
IsEnd Before M p = (s : List (List ℕ)) → M s → Before p s → ⊥

module _ (Before : List (List ℕ) → List (List ℕ) → Type 0) (apart : (p q : List (List ℕ)) → Before p q → Before q p → ⊥) (M : List (List ℕ) → Type 0)
    (l : List (List (List ℕ))) (rising : AllPairs Before l) (members : (q : List (List ℕ)) → Contains l q ↔ M q) where
  -- of two places the lower is that of the member that comes before
  pub lower-before : (p q : List (List ℕ)) (i j : ℕ) → IsRank l p i → IsRank l q j → i < j → Before p q
  lower-before p q i j a b k = subst (λ z. Before z q) a.is_there (subst (λ z. Before (slice_index_or l i []) z) b.is_there (rising i j [] k b.within))

  -- and back
  pub before-lower : (p q : List (List ℕ)) (i j : ℕ) → IsRank l p i → IsRank l q j → Before p q → i < j
  before-lower p q i j a b h = elim (cases_order i j) [
    | inl e ↦ let t : p ≡ q = sym a.is_there ∙ ap (λ z. slice_index_or l z []) e ∙ b.is_there in absurd (apart p q h (subst (λ z. Before z p) t (subst (λ z. Before p z) (sym t) h)))
    | inr (inl k) ↦ k
    | inr (inr k) ↦ absurd (apart p q h (lower-before q p j i b a k))
  ]

  -- the place of the member that follows is the next one
  pub succeeds-rank : (p q : List (List ℕ)) (i : ℕ) → IsRank l p i → Succeeds Before M p q → IsRank l q (i + 1)
  succeeds-rank p q i a f =
      let w = contains-rank l q ((members q).1 f.member) in
      let up : i < w.0 = before-lower p q i w.0 a w.1 f.after in
      elim (cases_eq w.0 (i + 1)) [
        | inl e ↦ subst (λ z. IsRank l q z) e w.1
        | inr n ↦ absurd (between w.0 w.1 (omega (arith, up, n)))
      ]
    where
      between : (j : ℕ) → IsRank l q j → i + 1 < j → ⊥
      between j b k =
          let inside : j < length l = b.within in
          let s : List (List ℕ) = slice_index_or l (i + 1) [] in
          let c : IsRank l s (i + 1) = record { within = omega (arith, k, inside); is_there = refl } in
          let earlier : Before s q = lower-before s q (i + 1) j c b k in
          elim (f.none_between s ((members s).0 (rank-contains l s (i + 1) c)) (lower-before p s i (i + 1) a c (omega arith))) [
            | inl e ↦ apart s q earlier (subst (λ z. Before q z) e (subst (λ z. Before z q) (sym e) earlier))
            | inr h ↦ apart s q earlier h
          ]

  -- where nothing comes after, the place is the last
  pub end-rank : (p : List (List ℕ)) (i : ℕ) → IsRank l p i → IsEnd Before M p → i + 1 ≡ length l
  end-rank p i a none = elim (cases_lt (i + 1) (length l)) [
    | inr k ↦ let b : i < length l = a.within in omega (arith, k, b)
    | inl k ↦
        let s : List (List ℕ) = slice_index_or l (i + 1) [] in
        let c : IsRank l s (i + 1) = record { within = k; is_there = refl } in
        absurd (none s ((members s).0 (rank-contains l s (i + 1) c)) (lower-before p s i (i + 1) a c (omega arith)))
  ]
