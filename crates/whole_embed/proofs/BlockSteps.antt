-- What the first member of a block's list, the next and the last one are, without places: nothing comes before the first, nothing is
-- between a member and the next, and nothing comes after the last.
use Rattle.std.proofs.Common.{◌≡◌, ℕ, ◌+◌, ◌<◌, ◌⊎◌, inl, inr, List, length, sym, ◌∙◌, subst, arith}
use Rattle.std.proofs.lemmas.Bool.{cases_eq}
use Rattle.skeletons.specs.Choices.{Precedes}
use Rattle.skeletons.specs.Lists.{IsKept, IsRank}
use Rattle.skeleton_choices.proofs.Listed.{list-exists}
use Rattle.skel_embed.specs.Block.{BlockState, lock_at, IsBlockState}
use Rattle.embed_enum.specs.Walk.{IsMemberList}
use Rattle.embed_enum.proofs.Places.{rank-contains, contains-rank, lower-before, ranks-order, last-none, present-rank}

module _ (s : BlockState) (h : IsBlockState s) where
  -- in the list of the block
  abbrev pub Kept : List (List ℕ) → Type 0
  Kept q = IsKept s.graph s.tree (lock_at s.locks) s.rotation q

  -- it has a list
  pub state-list : (l : List (List (List ℕ))) × IsMemberList s l
  state-list = let w = list-exists s.graph s.tree (lock_at s.locks) s.rotation h.block h.plane in (w.0, w.1)

  -- what is at a place is kept
  pub rank-kept : (l : List (List (List ℕ))) (q : List (List ℕ)) (i : ℕ) → IsMemberList s l → IsRank l q i → Kept q
  rank-kept l q i m k = (m.members q).0 (rank-contains l q i k)

  -- at the place after p: after p and before all others there
  pub place-follows : (p q : List (List ℕ)) (l : List (List (List ℕ))) (i : ℕ) → IsMemberList s l → IsRank l p i → IsRank l q (i + 1)
      → Precedes s.tree p q × ((r : List (List ℕ)) → Kept r → Precedes s.tree p r → (q ≡ r) ⊎ Precedes s.tree q r)
  place-follows p q l i m a b = (lower-before s.tree (IsKept s.graph s.tree (lock_at s.locks) s.rotation) l p q i (i + 1) m a b (omega arith), between)
    where
      between : (r : List (List ℕ)) → Kept r → Precedes s.tree p r → (q ≡ r) ⊎ Precedes s.tree q r
      between r n f =
          let w = contains-rank l r ((m.members r).1 n) in
          let up : i < w.0 = (ranks-order s.graph s.tree (lock_at s.locks) s.rotation p r l i w.0 m a w.1).0 f in
          elim (cases_eq w.0 (i + 1)) [
            | inl e ↦ let c : IsRank l r (i + 1) = subst (λ z. IsRank l r z) e w.1 in inl (sym b.is_there ∙ c.is_there)
            | inr d ↦ inr (lower-before s.tree (IsKept s.graph s.tree (lock_at s.locks) s.rotation) l q r (i + 1) w.0 m b w.1 (omega (arith, up, d)))
          ]

  -- at the first place: before all others
  pub place-first : (q : List (List ℕ)) (l : List (List (List ℕ))) → IsMemberList s l → IsRank l q 0 → (r : List (List ℕ)) → Kept r → (q ≡ r) ⊎ Precedes s.tree q r
  place-first q l m b r n =
      let w = contains-rank l r ((m.members r).1 n) in
      elim (cases_eq w.0 0) [
        | inl e ↦ let c : IsRank l r 0 = subst (λ z. IsRank l r z) e w.1 in inl (sym b.is_there ∙ c.is_there)
        | inr d ↦ inr (lower-before s.tree (IsKept s.graph s.tree (lock_at s.locks) s.rotation) l q r 0 w.0 m b w.1 (omega (arith, d)))
      ]

  -- at the last place: none comes after
  pub place-last : (p : List (List ℕ)) (l : List (List (List ℕ))) (i : ℕ) → IsMemberList s l → IsRank l p i → i + 1 ≡ length l → (r : List (List ℕ)) → Kept r → Precedes s.tree p r → ⊥
  place-last p l i m a e r n f = (last-none s.graph s.tree (lock_at s.locks) s.rotation p l i m a).0 e r n f

  -- the place of the present one
  pub present-place : (l : List (List (List ℕ))) → IsMemberList s l → (i : ℕ) × IsRank l s.rotation i
  present-place l m = present-rank s l h m
