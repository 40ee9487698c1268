-- The lines of vertices and their points, one after another.
use Rattle.std.proofs.Common.{◌≡◌, ℕ, ◌+◌, ◌<◌, ◌≤◌, List, ◌∷◌, ◌++◌, length, drop, slice_index, slice_index_or, sym, ap, ap₂, ◌∙◌, append_assoc, add-one}
use Rattle.std.proofs.Math.Seq.{drop-cons}
use Rattle.std.proofs.lemmas.List.{append-nil, drop_all}
use Rattle.spqr_script.specs.Answers.Draw.{point_text, point_texts}

points-from : (vertices : List ℕ) (points : List (ℕ × ℕ)) (v : ℕ) → v < length vertices → v < length points
    → point_texts (drop v vertices) (drop v points) ≡ point_text (slice_index vertices v) (slice_index_or points v (0, 0)) ++ point_texts (drop (v + 1) vertices) (drop (v + 1) points)
points-from vertices points v l m = ap₂ point_texts first second
  where
    first : drop v vertices ≡ slice_index vertices v ∷ drop (v + 1) vertices
    first = rw add-one (drop-cons vertices v 0 l)

    second : drop v points ≡ slice_index_or points v (0, 0) ∷ drop (v + 1) points
    second = rw add-one (drop-cons points v (0, 0) m)

-- one line more
pub points-more : (vertices : List ℕ) (points : List (ℕ × ℕ)) (so_far longer due : List ℕ) (v : ℕ) → v < length vertices → v < length points
    → so_far ++ point_texts (drop v vertices) (drop v points) ≡ due → longer ≡ so_far ++ point_text (slice_index vertices v) (slice_index_or points v (0, 0))
    → longer ++ point_texts (drop (v + 1) vertices) (drop (v + 1) points) ≡ due
points-more vertices points so_far longer due v l m is then =
    let line : List ℕ = point_text (slice_index vertices v) (slice_index_or points v (0, 0)) in
    let rest : List ℕ = point_texts (drop (v + 1) vertices) (drop (v + 1) points) in
    ap (λ (t : List ℕ). t ++ rest) then ∙ append_assoc so_far line rest ∙ ap (λ (t : List ℕ). so_far ++ t) (sym (points-from vertices points v l m)) ∙ is

-- no line is left
pub points-end : (vertices : List ℕ) (points : List (ℕ × ℕ)) (so_far due : List ℕ) (v : ℕ) → length vertices ≤ v → so_far ++ point_texts (drop v vertices) (drop v points) ≡ due → so_far ≡ due
points-end vertices points so_far due v l is =
    sym (append-nil so_far) ∙ sym (ap (λ (vs : List ℕ). so_far ++ point_texts vs (drop v points)) (drop_all v vertices l)) ∙ is
