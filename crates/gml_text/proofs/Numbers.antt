-- What completes a number, a byte further on.
use Rattle.std.proofs.Common.{◌≡◌, ℕ, ◌+◌, ◌<◌, false, Option, Some, None, List, [], ◌∷◌, length, get_or, drop, refl, ap, ◌∙◌}
use Rattle.std.proofs.lemmas.List.{drop_more}
use Rattle.gml_text.specs.Recognised.{step, passes}
use Rattle.gml_text.specs.declared.number.Part.{Part}

-- nothing completes what is no beginning
pub passes-none : (bytes : List ℕ) → passes None bytes ≡ false
passes-none [] = refl
passes-none (b ∷ bs) = refl

-- from an index on: the byte there, and then those after it
pub passes-drop : (part : Part) (bytes : List ℕ) (i : ℕ) → i < length bytes → passes (Some part) (drop i bytes) ≡ passes (step part (get_or bytes i 0)) (drop (i + 1) bytes)
passes-drop part bytes i within = ap (passes (Some part)) (drop_more bytes i 0 within)

-- where no number goes on with the byte at an index, none is completed
pub passes-stuck : (part : Part) (bytes : List ℕ) (i : ℕ) → i < length bytes → step part (get_or bytes i 0) ≡ None → passes (Some part) (drop i bytes) ≡ false
passes-stuck part bytes i within stuck =
    passes-drop part bytes i within ∙ ap (λ (next : Option Part). passes next (drop (i + 1) bytes)) stuck ∙ passes-none (drop (i + 1) bytes)
