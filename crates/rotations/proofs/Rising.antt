-- Entries with rising vertices.
use Rattle.std.proofs.Common.{◌≡◌, ℕ, ◌+◌, ◌-◌, ◌<◌, Bool, true, false, List, [], ◌∷◌, ◌++◌, length, if◌then◌else◌, sym, subst, inl, inr, arith}
use Rattle.std.proofs.lemmas.List.{length_push, get_or_push, get_or_append_left}
use Rattle.std.proofs.lemmas.Bool.{cases_lt, cases_eq}
use Rattle.rotations.specs.Entries.{entry, IsRising, IsAbove}

-- every vertex of the entries is below one that is above the last
pub above-all : (l : List (ℕ × List ℕ)) (v : ℕ) → IsRising l → IsAbove l v → (i : ℕ) → i < length l → (entry l i).0 < v
above-all l v rising above i m = elim (cases_eq i (length l - 1)) [
  | inl e ↦ subst (λ (k : ℕ). (entry l k).0 < v) (sym e) (above (omega arith))
  | inr n ↦ omega (arith, rising i (length l - 1) (omega arith) (omega arith), above (omega arith))
]

-- one entry more, for a vertex above the last
pub rising-push : (l : List (ℕ × List ℕ)) (v : ℕ) (es : List ℕ) → IsRising l → IsAbove l v → IsRising (l ++ (v, es) ∷ [])
rising-push l v es rising above i j below within =
    let long : length (l ++ (v, es) ∷ []) ≡ length l + 1 = length_push l (v, es) in
    let i_in : i < length l = omega arith in
    let ei : entry (l ++ (v, es) ∷ []) i ≡ entry l i = get_or_append_left l ((v, es) ∷ []) (0, []) i i_in in
    elim (cases_lt j (length l)) [
      | inl j_in ↦ let ej : entry (l ++ (v, es) ∷ []) j ≡ entry l j = get_or_append_left l ((v, es) ∷ []) (0, []) j j_in in
          subst (λ (p : (ℕ × List ℕ)). p.0 < (entry (l ++ (v, es) ∷ []) j).0) (sym ei) (subst (λ (p : (ℕ × List ℕ)). (entry l i).0 < p.0) (sym ej) (rising i j below j_in))
      | inr j_out ↦ let at_end : length l ≡ j = omega arith in let ej : entry (l ++ (v, es) ∷ []) j ≡ (v, es) = get_or_push l (v, es) (0, []) j at_end in
          subst (λ (p : (ℕ × List ℕ)). p.0 < (entry (l ++ (v, es) ∷ []) j).0) (sym ei) (subst (λ (p : (ℕ × List ℕ)). (entry l i).0 < p.0) (sym ej) (above-all l v rising above i i_in))
    ]

-- the same, where the entry may have found no memory
pub rising-pushed : (stored : Bool) (l : List (ℕ × List ℕ)) (v : ℕ) (es : List ℕ) → IsRising l → IsAbove l v → IsRising (if stored then l ++ (v, es) ∷ [] else l)
rising-pushed true l v es rising above = rising-push l v es rising above
rising-pushed false l v es rising above = rising
