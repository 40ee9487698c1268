-- A minimal side of a 2-separation, with one entry in place of the other side, is a prime family.
use Rattle.std.proofs.Common.{◌≡◌, ℕ, ◌+◌, ◌≤◌, inl, inr, Bool, false, not, cond, List, [], ◌∷◌, length, refl, sym, ap, ◌∙◌, subst, arith}
use Rattle.std.proofs.lemmas.Bool.{cases_Bool, both_ways, not_from_true, not_from_false, true_from_ne_false}
use Rattle.pair_split.specs.Minimal.{IsMinimal}
use Rattle.pair_split.specs.Family.{Entry, on_side, off_side, IsTight, IsSeparation, IsPrime}
use Rattle.pair_split.proofs.Sides.{on_side-ext, off_other, separation-other, length-sides}
use Rattle.pair_split.proofs.Replaced.{replaced, lifted, lifted-not, lifted-inside, replaced-common, replaced-tight}

-- how many entries a lifted side has
lifted-count : (entries : List Entry) (cut : ℕ → Bool) (v : Entry) (s : ℕ → Bool)
    → length (on_side (lifted cut v s) entries) ≡ length (on_side s (off_side cut entries)) + cond (s v.name) (length (on_side cut entries)) 0
lifted-count [] cut v s = elim (cases_Bool (s v.name)) [ inl h ↦ rw h refl | inr h ↦ rw h refl ]
lifted-count (e ∷ entries) cut v s = let rest = lifted-count entries cut v s in elim (cases_Bool (cut e.name)) [
  | inl h ↦ elim (cases_Bool (s v.name)) [ inl k ↦ grind (arith, rest, h, k) | inr k ↦ grind (arith, rest, h, k) ]
  | inr h ↦ elim (cases_Bool (s e.name)) [ inl k ↦ grind (arith, rest, h, k, cases_Bool (s v.name)) | inr k ↦ grind (arith, rest, h, k, cases_Bool (s v.name)) ]
]

-- a lifted side has no fewer entries: the new one stands for two or more
lifted-no_fewer : (entries : List Entry) (cut : ℕ → Bool) (v : Entry) (s : ℕ → Bool) → 1 ≤ length (on_side cut entries) → length (on_side s (replaced cut v entries)) ≤ length (on_side (lifted cut v s) entries)
lifted-no_fewer entries cut v s l = elim (cases_Bool (s v.name)) [
  | inl h ↦ grind (arith, lifted-count entries cut v s, h, l)
  | inr h ↦ grind (arith, lifted-count entries cut v s, h)
]

-- a 2-separation of the new family is one of the old family, lifted
pub lifted-separation : (entries : List Entry) (cut : ℕ → Bool) (v : Entry) (s : ℕ → Bool) (p q : ℕ)
    → IsSeparation entries cut v.first v.second → IsSeparation (replaced cut v entries) s p q → IsSeparation entries (lifted cut v s) p q
lifted-separation entries cut v s p q c d = record {
  differ = d.differ;
  first_common = sym (replaced-common entries cut v c s p) ∙ d.first_common;
  second_common = sym (replaced-common entries cut v c s q) ∙ d.second_common;
  no_other = λ x h. d.no_other x (replaced-common entries cut v c s x ∙ h);
  two_inside = omega (arith, d.two_inside, lifted-no_fewer entries cut v s some);
  two_outside = subst (λ (l : List Entry). 2 ≤ length l) (on_side-ext entries (lifted cut v (λ n. not (s n))) (λ n. not (lifted cut v s n)) (lifted-not cut v s))
      (omega (arith, d.two_outside, lifted-no_fewer entries cut v (λ n. not (s n)) some));
}
  where
    some : 1 ≤ length (on_side cut entries)
    some = omega (arith, c.two_inside)

module _ (entries : List Entry) (cut : ℕ → Bool) (v : Entry) (c : IsSeparation entries cut v.first v.second) where
  -- the other side
  abbrev other : ℕ → Bool
  other n = not (cut n)

  -- the side with the new entry, as what is left when the other side is replaced
  kept : replaced other v entries ≡ v ∷ on_side cut entries
  kept = ap (λ (l : List Entry). v ∷ l) (off_other entries cut)

  -- a side and one entry in place of the other side make a tight family
  pub part-tight : IsTight entries → IsTight (v ∷ on_side cut entries)
  part-tight t = subst IsTight kept (replaced-tight entries other v (separation-other entries cut v.first v.second c) t)

  -- a 2-separation of it that has the new entry off its side is one of the whole family, inside the side, and has fewer entries
  unseparated : IsMinimal entries cut → (s : ℕ → Bool) (p q : ℕ) → s v.name ≡ false → IsSeparation (v ∷ on_side cut entries) s p q → ⊥
  unseparated least s p q off d =
      let e : IsSeparation (replaced other v entries) s p q = subst (λ (l : List Entry). IsSeparation l s p q) (sym kept) d in
      let up = lifted-separation entries other v s p q (separation-other entries cut v.first v.second c) e in
      let few = least (lifted other v s) p q up (λ entry w h. true_from_ne_false (cut entry.name) (λ n. both_ways (s v.name) off (sym (lifted-inside other v s entry.name (not_from_false (cut entry.name) n)) ∙ h))) in
      let fewer : length (on_side (lifted other v s) entries) ≡ length (on_side s (on_side cut entries)) = lifted-count entries other v s ∙ few-count in
      let whole = length-sides (v ∷ on_side cut entries) s in
      absurd (omega (arith, few, fewer, whole, d.two_outside, without))
    where
      few-count : length (on_side s (off_side other entries)) + cond (s v.name) (length (on_side other entries)) 0 ≡ length (on_side s (on_side cut entries))
      few-count = rw (off, off_other entries cut) (omega arith)

      without : length (on_side s (v ∷ on_side cut entries)) ≡ length (on_side s (on_side cut entries))
      without = rw off refl

  -- a minimal side of a 2-separation and one entry in place of the other side make a prime family
  pub minimal-prime : IsTight entries → IsMinimal entries cut → IsPrime (v ∷ on_side cut entries)
  minimal-prime tight least = record {
    tight = part-tight tight;
    none = λ s p q d. elim (cases_Bool (s v.name)) [
      | inl on ↦ unseparated least (λ n. not (s n)) p q (not_from_true (s v.name) on) (separation-other (v ∷ on_side cut entries) s p q d)
      | inr off ↦ unseparated least s p q off d
    ];
  }
