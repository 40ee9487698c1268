-- The marks by which labels are spread, for one vertex more.
use Rattle.std.proofs.Common.{◌≡◌, ℕ, ◌+◌, ◌<◌, ◌≤◌, ◌⊎◌, inl, inr, Bool, true, false, List, [], ◌∷◌, ◌++◌, length, get_or, sym, ◌∙◌, subst, arith, length-append}
use Rattle.std.proofs.lemmas.Bool.{cases_lt}
use Rattle.std.proofs.lemmas.List.{get_or_append_left, get_or_push}
use Rattle.search_forest.specs.Forest.{ForestState}
use Rattle.search_forest.specs.Low.{LowVertices}
use Rattle.multigraph.specs.Marks.{is_marked}
use Rattle.blocks.specs.Finding.{low_depth, AreHeads, AreRoots}

-- a place of a list with one mark more
marked-place : (marks : List Bool) (k : ℕ) (b : Bool) (v : ℕ) → length marks ≡ k → v < k + 1 → ((v < k) × (is_marked (marks ++ b ∷ []) v ≡ is_marked marks v)) ⊎ ((v ≡ k) × (is_marked (marks ++ b ∷ []) v ≡ b))
marked-place marks k b v e l = elim (cases_lt v k) [
  | inl a ↦ inl (a, get_or_append_left marks (b ∷ []) false v (omega arith))
  | inr c ↦ let q : v ≡ k = omega arith in inr (q, get_or_push marks b false v (e ∙ sym q))
]

-- one vertex more
pub heads-more : (s : ForestState) (low : LowVertices) (k : ℕ) (heads : List Bool) (b : Bool) → AreHeads s low k heads
    → (b ≡ true → (get_or s.depth k 0 ≡ 0) ⊎ (get_or s.depth (get_or s.parent k 0) 0 ≤ low_depth s low k))
    → (b ≡ false → (0 < get_or s.depth k 0) × (low_depth s low k < get_or s.depth (get_or s.parent k 0) 0))
    → AreHeads s low (k + 1) (heads ++ b ∷ [])
heads-more s low k heads b h raised not_raised = record {
  places = omega (arith, length-append heads (b ∷ []), h.places);
  head = λ v l t. elim (marked-place heads k b v h.places l) [
    | inl a ↦ h.head v a.0 (sym a.1 ∙ t)
    | inr c ↦ subst (λ (z : ℕ). (get_or s.depth z 0 ≡ 0) ⊎ (get_or s.depth (get_or s.parent z 0) 0 ≤ low_depth s low z)) (sym c.0) (raised (sym c.1 ∙ t))
  ];
  other = λ v l t. elim (marked-place heads k b v h.places l) [
    | inl a ↦ h.other v a.0 (sym a.1 ∙ t)
    | inr c ↦ subst (λ (z : ℕ). (0 < get_or s.depth z 0) × (low_depth s low z < get_or s.depth (get_or s.parent z 0) 0)) (sym c.0) (not_raised (sym c.1 ∙ t))
  ];
}

-- one root more, or none
pub roots-more : (s : ForestState) (k : ℕ) (roots : List Bool) (b : Bool) → AreRoots s k roots → (b ≡ true → get_or s.depth k 0 ≡ 0) → (b ≡ false → 0 < get_or s.depth k 0) → AreRoots s (k + 1) (roots ++ b ∷ [])
roots-more s k roots b h is_root other = record {
  places = omega (arith, length-append roots (b ∷ []), h.places);
  root = λ v l t. elim (marked-place roots k b v h.places l) [
    | inl a ↦ h.root v a.0 (sym a.1 ∙ t)
    | inr c ↦ subst (λ (z : ℕ). get_or s.depth z 0 ≡ 0) (sym c.0) (is_root (sym c.1 ∙ t))
  ];
  other = λ v l t. elim (marked-place roots k b v h.places l) [
    | inl a ↦ h.other v a.0 (sym a.1 ∙ t)
    | inr c ↦ subst (λ (z : ℕ). 0 < get_or s.depth z 0) (sym c.0) (other (sym c.1 ∙ t))
  ];
}
