-- Lists of a function of the first numbers, one number further.
use Rattle.std.proofs.Common.{◌≡◌, ℕ, ◌+◌, inl, inr, List, [], ◌∷◌, ◌++◌, sym, ap, ◌∙◌, arith, length-append}
use Rattle.std.proofs.lemmas.Bool.{cases_lt}
use Rattle.std.proofs.lemmas.List.{get_or_append_left, get_or_push}
use Rattle.search_forest.specs.Low.{Tells}

-- one number further
pub tells-more : {A : Type 0} (d : A) (f : ℕ → A) (k : ℕ) (l : List A) (x : A) → Tells d f k l → x ≡ f k → Tells d f (k + 1) (l ++ x ∷ [])
tells-more d f k l x t e = record {
  places = length-append l (x ∷ []) ∙ ap (λ (n : ℕ). n + 1) t.places;
  at = λ j m. elim (cases_lt j k) [
    | inl a ↦ get_or_append_left l (x ∷ []) d j (omega (arith, t.places)) ∙ t.at j a
    | inr b ↦ let q : j ≡ k = omega arith in get_or_push l x d j (t.places ∙ sym q) ∙ (e ∙ ap f (sym q))
  ];
}
