-- In a tight family of two or more entries each vertex has at least two of them.
use Rattle.std.proofs.Common.{◌≡◌, ◌≢◌, ℕ, ◌≤◌, ◌⊎◌, inl, inr, Bool, true, ◌==◌, List, length, refl, sym, ◌∙◌, subst, arith, Contains}
use Rattle.std.proofs.lemmas.Bool.{both_ways, eq-eqb, eqb-true, not-true}
use Rattle.pair_split.specs.Family.{Entry, has_end, IsFamily, is_common, IsTight}
use Rattle.pair_split.proofs.Sides.{one-from_entry, common-inside, common-outside, length-sides}
use Rattle.pair_split.proofs.Names.{same-name, one-name}
use Rattle.pair_split.proofs.Replaced.{end-cases}

-- of two numbers with two different values, each is one of the values
pub one-of_two : (a b p q x : ℕ) → p ≢ q → (p ≡ a) ⊎ (p ≡ b) → (q ≡ a) ⊎ (q ≡ b) → (x ≡ a) ⊎ (x ≡ b) → (x ≡ p) ⊎ (x ≡ q)
one-of_two a b p q x n (inl i) (inl j) k = absurd (n (i ∙ sym j))
one-of_two a b p q x n (inl i) (inr j) (inl k) = inl (k ∙ sym i)
one-of_two a b p q x n (inl i) (inr j) (inr k) = inr (k ∙ sym j)
one-of_two a b p q x n (inr i) (inl j) (inl k) = inr (k ∙ sym j)
one-of_two a b p q x n (inr i) (inl j) (inr k) = inl (k ∙ sym i)
one-of_two a b p q x n (inr i) (inr j) k = absurd (n (i ∙ sym j))

-- another entry at an end of the entry e
pub record Another (entries : List Entry) (e : Entry) (x : ℕ) : Type 0 where
  pub entry : Entry
  pub within : Contains entries entry
  pub end : has_end x entry ≡ true
  pub other : entry.name ≢ e.name

-- the side of the entry e alone
abbrev pub named : Entry → ℕ → Bool
named e n = n == e.name

-- each end of an entry is an end of another one
pub tight-degree : (entries : List Entry) → IsFamily entries → IsTight entries → 2 ≤ length entries → (e : Entry) (x : ℕ) → Contains entries e → has_end x e ≡ true → Another entries e x
tight-degree entries family tight two e x c h =
    let on = one-from_entry entries (named e) (record { entry = e; within = c; side = eq-eqb e.name e.name refl }) in
    let t = tight (named e) on (omega (arith, on, two, one-name entries e.name family.names_once, length-sides entries (named e))) in
    outside (elim (one-of_two e.first e.second t.0 t.1 x t.2 (end-cases t.0 e (inside t.0 t.3)) (end-cases t.1 e (inside t.1 t.4)) (end-cases x e h)) [
      | inl i ↦ subst (λ (z : ℕ). is_common entries (named e) z ≡ true) (sym i) t.3
      | inr i ↦ subst (λ (z : ℕ). is_common entries (named e) z ≡ true) (sym i) t.4
    ])
  where
    inside : (z : ℕ) → is_common entries (named e) z ≡ true → has_end z e ≡ true
    inside z k = let w = common-inside entries (named e) z k in
        subst (λ (f : Entry). has_end z f ≡ true) (same-name entries family.names_once w.entry e w.within c (eqb-true w.entry.name e.name w.side)) w.end

    outside : is_common entries (named e) x ≡ true → Another entries e x
    outside k = let w = common-outside entries (named e) x k in
        record { entry = w.entry; within = w.within; end = w.end; other = λ i. both_ways (w.entry.name == e.name) (not-true (w.entry.name == e.name) w.side) (eq-eqb w.entry.name e.name i) }
