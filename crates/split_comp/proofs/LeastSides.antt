-- A side that each bad side holds: it is minimal, and with one entry in its place each bad side holds that entry.
use Rattle.std.proofs.Common.{◌≡◌, ℕ, inl, inr, Bool, true, false, List, ◌∷◌, refl, sym, ap, ◌∙◌, Contains}
use Rattle.std.proofs.lemmas.Bool.{cases_Bool, both_ways}
use Rattle.pair_split.specs.Family.{Entry, off_side}
use Rattle.pair_split.specs.Minimal.{IsMinimal}
use Rattle.pair_split.proofs.Elements.{length-weaker}
use Rattle.pair_split.proofs.SameEntries.{same-separation}
use Rattle.pair_split.proofs.Replaced.{lifted, lifted-inside, lifted-outside}
use Rattle.pair_split.proofs.Minimal.{lifted-separation}
use Rattle.split_comp.specs.declared.items.StackEntry.{StackEntry}
use Rattle.split_comp.specs.Stack.{item, entry, family, IsBad, IsTopped}
use Rattle.split_comp.specs.Sides.{IsLeast}
use Rattle.split_comp.proofs.Entries.{family-cases, rest-contains}
use Rattle.split_comp.proofs.Renewed.{IsRenewed, end-old, left-within, within-left, family-new}

-- a side that each bad side holds is minimal
pub least-minimal : (stack : List StackEntry) (rest : List Entry) (side : ℕ → Bool) → ((y : Entry) → Contains rest y → side y.name ≡ false) → IsLeast stack rest side → IsMinimal (family stack rest) side
least-minimal stack rest side off least s p q c inside = length-weaker (λ (e : Entry). side e.name) (λ (e : Entry). s e.name) (family stack rest) weaker
  where
    stacked : (y : Entry) → Contains rest y → s y.name ≡ false
    stacked y d = elim (cases_Bool (s y.name)) [
      | inr f ↦ f
      | inl t ↦ absurd (both_ways (side y.name) (off y d) (inside y (elim-rest y d) t))
    ]
      where
        elim-rest : (y : Entry) → Contains rest y → Contains (family stack rest) y
        elim-rest y d = rest-contains stack rest y d

    weaker : (e : Entry) → Contains (family stack rest) e → side e.name ≡ true → s e.name ≡ true
    weaker e d t = elim (family-cases stack rest e d) [
      | inl w ↦ ap (λ (x : Entry). s x.name) w.2 ∙ least s p q (record { separates = c; stacked = stacked }) w.0 w.1 (ap (λ (x : Entry). side x.name) (sym w.2) ∙ t)
      | inr r ↦ absurd (both_ways (side e.name) (off e r) t)
    ]

-- with one entry in its place, each bad side holds it
pub split_off-topped : (last : ℕ → ℕ) (done v k j : ℕ) (keeps : StackEntry → Bool) (side : ℕ → Bool) (x : StackEntry) (old new : List StackEntry) (rest : List Entry) → IsRenewed last done v k j keeps side x old new rest → IsLeast old rest side → IsTopped new rest j
split_off-topped last done v k j keeps side x old new rest r least s p q b = elim (cases_Bool (s x.name)) [
  | inl t ↦ ap (λ (y : StackEntry). s y.name) r.top ∙ t
  | inr f ↦
      let up = lifted-separation (family old rest) side (entry x) s p q r.separates
      (same-separation (family new rest) (entry x ∷ off_side side (family old rest)) s p q (family-new last done v k j keeps side x old new rest r).names_once
      (within-left last done v k j keeps side x old new rest r) (left-within last done v k j keeps side x old new rest r) b.separates) in
      let bad : IsBad old rest (lifted side (entry x) s) p q = record { separates = up; stacked = λ y c. lifted-outside side (entry x) s y.name (r.cut.off y c) ∙ b.stacked y c } in
      let o = end-old last done v k j keeps side x old new rest r x.up (inl refl) in
      let on : side (item old o.0).name ≡ true = r.cut.from o.0 o.1 o.2 ∙ o.3 in
      absurd (both_ways (s x.name) f (sym (lifted-inside side (entry x) s (item old o.0).name on) ∙ least (lifted side (entry x) s) p q bad o.0 o.2 on))
]
