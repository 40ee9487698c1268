-- A 2-separation of a family, with all of one side replaced by one entry between the two common vertices.
use Rattle.std.proofs.Common.{◌≡◌, ℕ, ◌≤◌, ◌⊎◌, inl, inr, Bool, true, false, not, cond, ◌==◌, List, ◌∷◌, length, refl, sym, ap, ◌∙◌, subst, arith}
use Rattle.std.proofs.lemmas.Bool.{cases_Bool, both_ways, or_cases, not-true, not_from_false, or_left, or_right, eq-eqb, eqb-true}
use Rattle.permutations.proofs.Relation.{same-tests}
use Rattle.pair_split.specs.Family.{Entry, has_end, off_side, is_common, IsTight, IsSeparation}
use Rattle.pair_split.proofs.Elements.{contains-here, contains-later, contains-cases, contains-filter, filter-contains}
use Rattle.pair_split.proofs.Sides.{OnSide, Touching, one-from_entry, entry-from_one, common-from, common-inside, common-outside, touching-weaker, on_side-ext}

-- the family with the side cut replaced by one entry
abbrev pub replaced : (ℕ → Bool) → Entry → List Entry → List Entry
replaced cut v entries = v ∷ off_side cut entries

-- a side of the new family as one of the old: the entries that were replaced are where the new one is
abbrev pub lifted : (ℕ → Bool) → Entry → (ℕ → Bool) → ℕ → Bool
lifted cut v s n = cond (cut n) (s v.name) (s n)

-- the lifted side, inside what was replaced
pub lifted-inside : (cut : ℕ → Bool) (v : Entry) (s : ℕ → Bool) (n : ℕ) → cut n ≡ true → lifted cut v s n ≡ s v.name
lifted-inside cut v s n h = rw h refl

-- the lifted side, elsewhere
pub lifted-outside : (cut : ℕ → Bool) (v : Entry) (s : ℕ → Bool) (n : ℕ) → cut n ≡ false → lifted cut v s n ≡ s n
lifted-outside cut v s n h = rw h refl

-- the other side, lifted
pub lifted-not : (cut : ℕ → Bool) (v : Entry) (s : ℕ → Bool) (n : ℕ) → lifted cut v (λ k. not (s k)) n ≡ not (lifted cut v s n)
lifted-not cut v s n = elim (cases_Bool (cut n)) [ inl h ↦ rw h refl | inr h ↦ rw h refl ]

-- the new entry has no ends but its two
pub end-cases : (x : ℕ) (entry : Entry) → has_end x entry ≡ true → (x ≡ entry.first) ⊎ (x ≡ entry.second)
end-cases x entry h = elim (or_cases (entry.first == x) (entry.second == x) h) [ inl a ↦ inl (sym (eqb-true entry.first x a)) | inr b ↦ inr (sym (eqb-true entry.second x b)) ]

-- its two ends are ends of it
pub first-end : (x : ℕ) (entry : Entry) → x ≡ entry.first → has_end x entry ≡ true
first-end x entry h = or_left (entry.first == x) (entry.second == x) (eq-eqb entry.first x (sym h))

pub second-end : (x : ℕ) (entry : Entry) → x ≡ entry.second → has_end x entry ≡ true
second-end x entry h = or_right (entry.first == x) (entry.second == x) (eq-eqb entry.second x (sym h))

module _ (entries : List Entry) (cut : ℕ → Bool) (v : Entry) (c : IsSeparation entries cut v.first v.second) where
  -- an end of the new entry is touched by what was replaced
  end-touched : (x : ℕ) → has_end x v ≡ true → Touching entries cut x
  end-touched x h = elim (end-cases x v h) [
    | inl e ↦ subst (λ (z : ℕ). Touching entries cut z) (sym e) (common-inside entries cut v.first c.first_common)
    | inr e ↦ subst (λ (z : ℕ). Touching entries cut z) (sym e) (common-inside entries cut v.second c.second_common)
  ]

  -- a vertex that a side of the new family touches is touched by the lifted one
  touched-lifted : (s : ℕ → Bool) (x : ℕ) → Touching (replaced cut v entries) s x → Touching entries (lifted cut v s) x
  touched-lifted s x t = elim (contains-cases t.entry v (off_side cut entries) t.within) [
    | inl e ↦ let w = end-touched x (subst (λ (z : Entry). has_end x z ≡ true) (sym e) t.end) in
        record { entry = w.entry; within = w.within; side = lifted-inside cut v s w.entry.name w.side ∙ (ap (λ (z : Entry). s z.name) e ∙ t.side); end = w.end }
    | inr r ↦ let w = filter-contains (λ e. not (cut e.name)) t.entry entries r in
        record { entry = t.entry; within = w.0; side = lifted-outside cut v s t.entry.name (not-true (cut t.entry.name) w.1) ∙ t.side; end = t.end }
  ]

  -- a vertex that the lifted side touches is touched by the side of the new family, outside of what was replaced, or lies
  -- on what was replaced
  lifted-touched : (s : ℕ → Bool) (x : ℕ) → Touching entries (lifted cut v s) x → (Touching (replaced cut v entries) s x × Touching entries (λ n. not (cut n)) x) ⊎ (Touching entries cut x × (s v.name ≡ true))
  lifted-touched s x t = elim (cases_Bool (cut t.entry.name)) [
    | inl i ↦ inr (record { entry = t.entry; within = t.within; side = i; end = t.end }, sym (lifted-inside cut v s t.entry.name i) ∙ t.side)
    | inr o ↦ inl (
      record {
        entry = t.entry;
        within = contains-later t.entry v (off_side cut entries) (contains-filter (λ e. not (cut e.name)) t.entry entries t.within (not_from_false (cut t.entry.name) o));
        side = sym (lifted-outside cut v s t.entry.name o) ∙ t.side;
        end = t.end;
      },
      record { entry = t.entry; within = t.within; side = not_from_false (cut t.entry.name) o; end = t.end },
    )
  ]

  -- common vertices of a side of the new family are common for the lifted one
  pub common-lifted : (s : ℕ → Bool) (x : ℕ) → is_common (replaced cut v entries) s x ≡ true → is_common entries (lifted cut v s) x ≡ true
  common-lifted s x h = common-from entries (lifted cut v s) x
      (touched-lifted s x (common-inside (replaced cut v entries) s x h))
      (touching-weaker entries (lifted cut v (λ n. not (s n))) (λ n. not (lifted cut v s n)) x (λ n e. sym (lifted-not cut v s n) ∙ e)
      (touched-lifted (λ n. not (s n)) x (common-outside (replaced cut v entries) s x h)))

  -- where the new entry is on the side: a vertex that the lifted sides share is shared by those of the new family
  both-touched : (s : ℕ → Bool) (x : ℕ) → s v.name ≡ true → Touching entries (lifted cut v s) x → Touching entries (lifted cut v (λ n. not (s n))) x
      → Touching (replaced cut v entries) s x × Touching (replaced cut v entries) (λ n. not (s n)) x
  both-touched s x on i o = elim (lifted-touched (λ n. not (s n)) x o) [
    | inr w ↦ absurd (both_ways (s v.name) (not-true (s v.name) w.1) on)
    | inl w ↦ elim (lifted-touched s x i) [
      | inl u ↦ (u.0, w.0)
      | inr u ↦ (record { entry = v; within = contains-here v (off_side cut entries); side = on; end = elim (c.no_other x (common-from entries cut x u.0 w.1)) [ inl e ↦ first-end x v e | inr e ↦ second-end x v e ] }, w.0)
    ]
  ]

  -- common vertices of a lifted side are common in the new family
  pub lifted-common : (s : ℕ → Bool) (x : ℕ) → is_common entries (lifted cut v s) x ≡ true → is_common (replaced cut v entries) s x ≡ true
  lifted-common s x h = elim (cases_Bool (s v.name)) [
    | inl on ↦ let t = both-touched s x on inside outside in common-from (replaced cut v entries) s x t.0 t.1
    | inr off ↦ let t = both-touched (λ n. not (s n)) x (not_from_false (s v.name) off) outside
        (touching-weaker entries (lifted cut v s) (lifted cut v (λ n. not (not (s n)))) x (λ n e. twice n ∙ e) inside) in
        common-from (replaced cut v entries) s x (touching-weaker (replaced cut v entries) (λ n. not (not (s n))) s x (λ n e. grind (arith, cases_Bool (s n), e)) t.1) t.0
  ]
    where
      inside : Touching entries (lifted cut v s) x
      inside = common-inside entries (lifted cut v s) x h

      outside : Touching entries (lifted cut v (λ n. not (s n))) x
      outside = touching-weaker entries (λ n. not (lifted cut v s n)) (lifted cut v (λ n. not (s n))) x (λ n e. lifted-not cut v s n ∙ e) (common-outside entries (lifted cut v s) x h)

      twice : (n : ℕ) → lifted cut v (λ k. not (not (s k))) n ≡ lifted cut v s n
      twice n = grind (arith, cases_Bool (s n), cases_Bool (s v.name))

  -- a side of the new family and the lifted one have the same common vertices
  pub replaced-common : (s : ℕ → Bool) (x : ℕ) → is_common (replaced cut v entries) s x ≡ is_common entries (lifted cut v s) x
  replaced-common s x = same-tests (is_common (replaced cut v entries) s x) (is_common entries (lifted cut v s) x) (common-lifted s x) (lifted-common s x)

  -- a side of the new family that has an entry has one when it is lifted
  entry-lifted : (s : ℕ → Bool) → OnSide (replaced cut v entries) s → OnSide entries (lifted cut v s)
  entry-lifted s o = elim (contains-cases o.entry v (off_side cut entries) o.within) [
    | inl e ↦ let w = entry-from_one entries cut (omega (arith, c.two_inside)) in
        record { entry = w.entry; within = w.within; side = lifted-inside cut v s w.entry.name w.side ∙ (ap (λ (z : Entry). s z.name) e ∙ o.side) }
    | inr r ↦ let w = filter-contains (λ e. not (cut e.name)) o.entry entries r in
        record { entry = o.entry; within = w.0; side = lifted-outside cut v s o.entry.name (not-true (cut o.entry.name) w.1) ∙ o.side }
  ]

  -- the new family is tight where the old one is
  pub replaced-tight : IsTight entries → IsTight (replaced cut v entries)
  replaced-tight tight s a b =
      let i = one-from_entry entries (lifted cut v s) (entry-lifted s (entry-from_one (replaced cut v entries) s a)) in
      let o = one-from_entry entries (lifted cut v (λ n. not (s n))) (entry-lifted (λ n. not (s n)) (entry-from_one (replaced cut v entries) (λ n. not (s n)) b)) in
      let t = tight (lifted cut v s) i (subst (λ (l : List Entry). 1 ≤ length l) (on_side-ext entries (lifted cut v (λ n. not (s n))) (λ n. not (lifted cut v s n)) (lifted-not cut v s)) o) in
      (t.0, t.1, t.2, lifted-common s t.0 t.3, lifted-common s t.1 t.4)
