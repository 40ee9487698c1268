-- Least upper ends, and entries on both sides of a place.
use Rattle.std.proofs.Common.{◌≡◌, ℕ, zero, suc, ◌+◌, ◌<◌, ◌≤◌, ◌⊎◌, inl, inr, true, List, length, refl, sym, ap, subst, arith}
use Rattle.std.proofs.lemmas.Bool.{cases_Bool, cases_lt, cases_eq}
use Rattle.pair_split.specs.Family.{Entry, has_end}
use Rattle.split_comp.specs.declared.items.StackEntry.{StackEntry}
use Rattle.split_comp.specs.Stack.{item, entry, IsTreeAt, IsStack}
use Rattle.split_comp.specs.Cuts.{IsLeastUp}
use Rattle.split_comp.proofs.Entries.{item-ends}

-- the least upper end in a stretch of the stack
pub record IsLeastIn (stack : List StackEntry) (t n a : ℕ) : Type 0 where
  pub least : (i : ℕ) → t ≤ i → i < n → a ≤ (item stack i).up
  pub place : ℕ
  pub from : t ≤ place
  pub within : place < n
  pub attained : (item stack place).up ≡ a

-- there is one
pub least-in : (stack : List StackEntry) (t n : ℕ) → t < n → (a : ℕ) × IsLeastIn stack t n a
least-in stack t zero l = absurd (omega (arith, l))
least-in stack t (suc n) l = elim (cases_eq t n) [
  | inl e ↦ ((item stack n).up, record { least = λ i m w. omega (arith, ap (λ (k : ℕ). (item stack k).up) (same i m w e)); place = n; from = omega (arith, e); within = omega arith; attained = refl })
  | inr d ↦
      let r = least-in stack t n (omega (arith, l, d)) in
      elim (cases_lt (item stack n).up r.0) [
        | inl g ↦ ((item stack n).up, record { least = λ i m w. elim (cases_eq i n) [ inl e ↦ omega (arith, ap (λ (k : ℕ). (item stack k).up) e) | inr b ↦ omega (arith, g, r.1.least i m (omega (arith, w, b))) ]; place = n; from = omega (arith, l); within = omega arith; attained = refl })
        | inr g ↦ (r.0, record { least = λ i m w. elim (cases_eq i n) [ inl e ↦ omega (arith, g, ap (λ (k : ℕ). (item stack k).up) e) | inr b ↦ r.1.least i m (omega (arith, w, b)) ]; place = r.1.place; from = r.1.from; within = omega (arith, r.1.within); attained = r.1.attained })
      ]
]
  where
    same : (i : ℕ) → t ≤ i → i < suc n → t ≡ n → i ≡ n
    same i m w e = omega (arith, m, w, e)

-- two least upper ends are the same
pub least-same : (stack : List StackEntry) (t a b : ℕ) → IsLeastUp stack t a → IsLeastUp stack t b → a ≡ b
least-same stack t a b x y = omega (arith, x.least y.place y.from y.within, y.attained, y.least x.place x.from x.within, x.attained)

module _ (last : ℕ → ℕ) (done v : ℕ) (stack : List StackEntry) (rest : List Entry) (s : IsStack last done v stack rest) where
  -- an entry that touches a vertex with a tree edge belongs to it
  pub touching-tree : (z p i : ℕ) → IsTreeAt stack z p → i < length stack → has_end z (entry (item stack i)) ≡ true → ((item stack p).start ≤ i) × (i ≤ p)
  touching-tree z p i t l h = elim (cases_lt i (item stack p).start) [
    | inl a ↦ absurd (apart (s.laid.outside p i t.within t.tree l (inl a)))
    | inr a ↦ elim (cases_lt p i) [ inl b ↦ absurd (apart (s.laid.outside p i t.within t.tree l (inr b))) | inr b ↦ (a, b) ]
  ]
    where
      inside : (z ≤ (item stack i).low) × ((item stack i).low < last z)
      inside = elim (item-ends z (item stack i) h) [
        | inl e ↦ (omega (arith, e, (s.laid.rises i l).0), subst (λ (k : ℕ). (item stack i).low < last k) (sym e) (s.laid.rises i l).1)
        | inr e ↦ (omega (arith, e), subst (λ (k : ℕ). (item stack i).low < last k) (sym e) (s.above (item stack i).low))
      ]

      apart : ((item stack i).low < (item stack p).low) ⊎ (last (item stack p).low ≤ (item stack i).low) → ⊥
      apart (inl a) = omega (arith, a, t.low, inside.0)
      apart (inr a) = omega (arith, inside.1, subst (λ (k : ℕ). last k ≤ (item stack i).low) t.low a)

  -- where the last entry belongs to a dart that starts at t, no vertex with a tree edge is met on both sides of t
  pub top-apart : (h t : ℕ) → length stack ≡ h + 1 → (item stack h).start ≡ t → (z i j : ℕ) → v < z → i < t → t ≤ j → j < length stack → has_end z (entry (item stack i)) ≡ true → has_end z (entry (item stack j)) ≡ true → ⊥
  top-apart h t n b z i j g l m w x y =
      let p = s.ended.held j z w y g in
      let a = touching-tree z p.0 i p.1 (omega (arith, l, m, w)) x in
      let c = touching-tree z p.0 j p.1 w y in
      elim (cases_eq p.0 h) [
        | inl e ↦ omega (arith, a.0, ap (λ (k : ℕ). (item stack k).start) e, b, l)
        | inr d ↦ elim (cases_Bool (item stack h).tree) [
          | inl q ↦ omega (arith, a.0, l, s.laid.laminar h p.0 (omega (arith, n)) q (omega (arith, b, m, c.1)) (omega (arith, p.1.within, n, d)), b)
          | inr q ↦ omega (arith, s.laid.frond_start h (omega (arith, n)) q, b, m, c.1, p.1.within, n, d)
        ]
      ]
