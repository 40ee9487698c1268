-- Entries whose vertices and lists are kept apart.
use Rattle.std.proofs.Common.{◌≡◌, ℕ, ◌<◌, List, [], ◌∷◌, ◌++◌, length, get_or, refl, ap, arith}
use Rattle.std.specs.List.{zip}
use Rattle.std.proofs.lemmas.Slice.Zip.{length-zip, get_or-zip}
use Rattle.rotations.specs.Entries.{entry}

module _ (vertices : List ℕ) (lists : List (List ℕ)) (same : length lists ≡ length vertices) where
  pub zipped-length : length (zip vertices lists) ≡ length vertices
  zipped-length = omega (arith, length-zip vertices lists, same)

  pub zipped-entry : (k : ℕ) → k < length vertices → entry (zip vertices lists) k ≡ (get_or vertices k 0, get_or lists k [])
  zipped-entry k l = get_or-zip vertices lists k (0, []) l (omega (arith, l, same))

-- one entry more
pub zipped-more : (vertices : List ℕ) (lists : List (List ℕ)) (v : ℕ) (list : List ℕ) → length lists ≡ length vertices → zip (vertices ++ v ∷ []) (lists ++ list ∷ []) ≡ zip vertices lists ++ (v, list) ∷ []
zipped-more [] [] v list same = refl
zipped-more [] (x ∷ lists) v list same = absurd (omega (arith, same))
zipped-more (x ∷ vertices) [] v list same = absurd (omega (arith, same))
zipped-more (x ∷ vertices) (y ∷ lists) v list same = ap (λ (z : List (ℕ × List ℕ)). (x, y) ∷ z) (zipped-more vertices lists v list (omega (arith, same)))
