-- Exchanging two entries of a list, as an exchange of what follows two numbers.
use Rattle.std.proofs.Common.{◌≡◌, ℕ, ◌<◌, inl, inr, List, length, slice_index, sym, ◌∙◌, subst}
use Rattle.std.specs.List.{SwappedAt}
use Rattle.std.proofs.lemmas.Bool.{cases_eq}
use Rattle.permutations.specs.Exchange.{exchange}
use Rattle.permutations.proofs.Permutations.{exchange-left, exchange-right, exchange-other}
use Rattle.contract_embed.specs.Steps.{AgreeBelow}

-- the list with two entries exchanged
pub swapped-agree : (xs ys : List ℕ) (p q : ℕ) → p < length xs → q < length xs → SwappedAt xs ys p q → (f : ℕ → ℕ) → AgreeBelow (length xs) (slice_index xs) f → AgreeBelow (length xs) (slice_index ys) (exchange p q f)
swapped-agree xs ys p q lp lq w f h d l = elim (cases_eq d p) [
  | inl e ↦ subst (λ z. slice_index ys z ≡ exchange p q f z) (sym e) (w.0 0 ∙ h q lq ∙ sym (exchange-left p q f))
  | inr n ↦ elim (cases_eq d q) [
    | inl e ↦ subst (λ z. slice_index ys z ≡ exchange p q f z) (sym e) (w.1 0 ∙ h p lp ∙ sym (exchange-right p q f))
    | inr m ↦ w.2 d 0 n m ∙ h d l ∙ sym (exchange-other p q f d n m)
  ]
]
