-- Lists kept as one: each is found, and changed in its place.
use Rattle.std.proofs.Common.{◌≡◌, ℕ, zero, suc, ◌+◌, ◌-◌, ◌<◌, ◌≤◌, List, [], ◌∷◌, ◌++◌, length, take, drop, slice_index_or, slice_set, refl, sym, ap, ◌∙◌, subst, arith, append_assoc, append-nil}
use Rattle.std.proofs.lemmas.List.{length-append, take-append-drop, drop_more, take_more, set_split}
use Rattle.multigraph.specs.Flat.{joined, ends_from, cut_from, start_at, AreFlat}

-- lists joined with others
joined-append : {X : Type 0} (us vs : List (List X)) → joined (us ++ vs) ≡ joined us ++ joined vs
joined-append [] vs = refl
joined-append {X} (u ∷ us) vs = ap (λ (z : List X). u ++ z) (joined-append us vs) ∙ sym (append_assoc u (joined us) (joined vs))

-- a prefix and the rest
take-prefix : {X : Type 0} (prefix rest : List X) (n : ℕ) → length prefix ≡ n → take n (prefix ++ rest) ≡ prefix
take-prefix {X} [] rest n e = subst (λ z. take z rest ≡ []) e refl
take-prefix {X} (x ∷ prefix) rest n e = subst (λ z. take z (x ∷ (prefix ++ rest)) ≡ x ∷ prefix) e (ap (λ (z : List X). x ∷ z) (take-prefix prefix rest (length prefix) refl))

drop-prefix : {X : Type 0} (prefix rest : List X) (n : ℕ) → length prefix ≡ n → drop n (prefix ++ rest) ≡ rest
drop-prefix {X} [] rest n e = subst (λ z. drop z rest ≡ rest) e refl
drop-prefix {X} (x ∷ prefix) rest n e = subst (λ z. drop z (x ∷ (prefix ++ rest)) ≡ rest) e (drop-prefix prefix rest (length prefix) refl)

-- the lists are cut off again
cut-ends : {X : Type 0} (lists : List (List X)) (place : ℕ) → cut_from place (ends_from place lists) (joined lists) ≡ lists
cut-ends {X} [] place = refl
cut-ends {X} (x ∷ xs) place =
    let n : length x ≡ (place + length x) - place = omega arith in
    ap (λ (z : List X). z ∷ cut_from (place + length x) (ends_from (place + length x) xs) (drop ((place + length x) - place) (x ++ joined xs))) (take-prefix x (joined xs) ((place + length x) - place) n)
    ∙ ap (λ (z : List X). x ∷ cut_from (place + length x) (ends_from (place + length x) xs) z) (drop-prefix x (joined xs) ((place + length x) - place) n)
    ∙ ap (λ (z : List (List X)). x ∷ z) (cut-ends xs (place + length x))

ends-length : {X : Type 0} (lists : List (List X)) (place : ℕ) → length (ends_from place lists) ≡ length lists
ends-length [] place = refl
ends-length (x ∷ xs) place = let e = ends-length xs (place + length x) in omega (arith, e)

-- each end, as the length of what is before it
end-at : {X : Type 0} (lists : List (List X)) (k place : ℕ) → k < length lists → slice_index_or (ends_from place lists) k 0 ≡ place + length (joined (take (suc k) lists))
end-at {X} [] k place h = absurd (omega (arith, h))
end-at {X} (x ∷ xs) zero place h = ap (λ (z : List X). place + length z) (sym (append-nil x))
end-at {X} (x ∷ xs) (suc k) place h =
    let e = end-at xs k (place + length x) (omega (arith, h)) in
    let s : (place + length x) + length (joined (take (suc k) xs)) ≡ place + length (x ++ joined (take (suc k) xs)) = omega (arith, length-append x (joined (take (suc k) xs))) in
    e ∙ s

-- a list of the same length in the place of one
ends-set : {X : Type 0} (lists : List (List X)) (k : ℕ) (y : List X) (place : ℕ) → k < length lists → length y ≡ length (slice_index_or lists k []) → ends_from place (slice_set lists k y) ≡ ends_from place lists
ends-set [] k y place h e = absurd (omega (arith, h))
ends-set (x ∷ xs) zero y place h e = ap (λ n. (place + n) ∷ ends_from (place + n) xs) e
ends-set (x ∷ xs) (suc k) y place h e = ap (λ (z : List ℕ). (place + length x) ∷ z) (ends-set xs k y (place + length x) (omega (arith, h)) e)

-- one list more
ends-more : {X : Type 0} (us : List (List X)) (x : List X) (place : ℕ) → ends_from place (us ++ x ∷ []) ≡ ends_from place us ++ (place + length (joined us ++ x)) ∷ []
ends-more [] x place = refl
ends-more (u ∷ us) x place =
    let n : (place + length u) + length (joined us ++ x) ≡ place + length ((u ++ joined us) ++ x) = omega (arith, length-append u (joined us ++ x), ap length (append_assoc u (joined us) x)) in
    ap (λ (z : List ℕ). (place + length u) ∷ z) (ends-more us x (place + length u)) ∙ ap (λ z. (place + length u) ∷ (ends_from (place + length u) us ++ z ∷ [])) n

module _ {X : Type 0} (lists : List (List X)) (k : ℕ) (h : k < length lists) where
  -- before list k, it, and after it
  joined-at : joined lists ≡ joined (take k lists) ++ (slice_index_or lists k [] ++ joined (drop (k + 1) lists))
  joined-at = ap joined (sym (take-append-drop k lists)) ∙ joined-append (take k lists) (drop k lists) ∙ ap (λ (z : List (List X)). joined (take k lists) ++ joined z) (drop_more lists k [] h)

  joined-next : joined (take (k + 1) lists) ≡ joined (take k lists) ++ slice_index_or lists k []
  joined-next = ap joined (take_more lists k [] h) ∙ joined-append (take k lists) (slice_index_or lists k [] ∷ []) ∙ ap (λ (z : List X). joined (take k lists) ++ z) (append-nil (slice_index_or lists k []))

  start-next : start_at lists (k + 1) ≡ start_at lists k + length (slice_index_or lists k [])
  start-next = ap length joined-next ∙ length-append (joined (take k lists)) (slice_index_or lists k [])

-- what is kept is cut into the lists
pub flat-view : {X : Type 0} (lists : List (List X)) (values : List X) (ends : List ℕ) → AreFlat lists values ends → cut_from 0 ends values ≡ lists
flat-view lists values ends f = ap (cut_from 0 ends) f.values_are ∙ ap (λ (z : List ℕ). cut_from 0 z (joined lists)) f.ends_are ∙ cut-ends lists 0

pub flat-again : {X : Type 0} (lists : List (List X)) (values : List X) (ends : List ℕ) → AreFlat lists values ends → AreFlat (cut_from 0 ends values) values ends
flat-again {X} lists values ends f = subst (λ (z : List (List X)). AreFlat z values ends) (sym (flat-view lists values ends f)) f

-- one list more
pub flat-push : {X : Type 0} (lists : List (List X)) (values : List X) (ends : List ℕ) (x : List X) → AreFlat lists values ends → AreFlat (lists ++ x ∷ []) (values ++ x) (ends ++ length (values ++ x) ∷ [])
flat-push {X} lists values ends x f = record {
  values_are = ap (λ (z : List X). z ++ x) f.values_are ∙ ap (λ (z : List X). joined lists ++ z) (sym (append-nil x)) ∙ sym (joined-append lists (x ∷ []));
  ends_are = ap (λ (z : List ℕ). z ++ length (values ++ x) ∷ []) f.ends_are ∙ ap (λ (z : List X). ends_from 0 lists ++ length (z ++ x) ∷ []) f.values_are
      ∙ ap (λ z. ends_from 0 lists ++ z ∷ []) from-0 ∙ sym (ends-more lists x 0);
}
  where
    from-0 : length (joined lists ++ x) ≡ 0 + length (joined lists ++ x)
    from-0 = omega arith

module _ {X : Type 0} (lists : List (List X)) (values : List X) (ends : List ℕ) (f : AreFlat lists values ends) where
  pub ends-count : length ends ≡ length lists
  ends-count = ap length f.ends_are ∙ ends-length lists 0

  module _ (k : ℕ) (h : k < length lists) where
    pub end-is : slice_index_or ends k 0 ≡ start_at lists (k + 1)
    end-is =
        let s : suc k ≡ k + 1 = omega arith in
        let z : 0 + length (joined (take (suc k) lists)) ≡ start_at lists (suc k) = omega arith in
        ap (λ (l : List ℕ). slice_index_or l k 0) f.ends_are ∙ end-at lists k 0 h ∙ z ∙ ap (start_at lists) s

    parts : values ≡ joined (take k lists) ++ (slice_index_or lists k [] ++ joined (drop (k + 1) lists))
    parts = f.values_are ∙ joined-at lists k h

    pub start-within : start_at lists (k + 1) ≤ length values
    start-within = omega (
      arith,
      start-next lists k h,
      ap length parts,
      length-append (joined (take k lists)) (slice_index_or lists k [] ++ joined (drop (k + 1) lists)),
      length-append (slice_index_or lists k []) (joined (drop (k + 1) lists)),
    )

    pub start-grows : start_at lists k ≤ start_at lists (k + 1)
    start-grows = omega (arith, start-next lists k h)

    prefix-is : take (start_at lists k) values ≡ joined (take k lists)
    prefix-is = ap (take (start_at lists k)) parts ∙ take-prefix (joined (take k lists)) (slice_index_or lists k [] ++ joined (drop (k + 1) lists)) (start_at lists k) refl

    rest-is : drop (start_at lists k) values ≡ slice_index_or lists k [] ++ joined (drop (k + 1) lists)
    rest-is = ap (drop (start_at lists k)) parts ∙ drop-prefix (joined (take k lists)) (slice_index_or lists k [] ++ joined (drop (k + 1) lists)) (start_at lists k) refl

    module _ (s e : ℕ) (starts : s ≡ start_at lists k) (ends_at : e ≡ start_at lists (k + 1)) where
      fits : length (slice_index_or lists k []) ≡ e - s
      fits = omega (arith, start-next lists k h, starts, ends_at)

      prefix-now : take s values ≡ joined (take k lists)
      prefix-now = ap (λ z. take z values) starts ∙ prefix-is

      rest-now : drop s values ≡ slice_index_or lists k [] ++ joined (drop (k + 1) lists)
      rest-now = ap (λ z. drop z values) starts ∙ rest-is

      after-now : drop (e - s) (drop s values) ≡ joined (drop (k + 1) lists)
      after-now = ap (drop (e - s)) rest-now ∙ drop-prefix (slice_index_or lists k []) (joined (drop (k + 1) lists)) (e - s) fits

      -- list k is found between its start and its end
      pub piece-of : take (e - s) (drop s values) ≡ slice_index_or lists k []
      piece-of = ap (take (e - s)) rest-now ∙ take-prefix (slice_index_or lists k []) (joined (drop (k + 1) lists)) (e - s) fits

      module _ (y : List X) (same : length y ≡ length (slice_index_or lists k [])) where
        -- another list of its length in its place
        pub flat-put : AreFlat (slice_set lists k y) (take s values ++ (y ++ drop (e - s) (drop s values))) ends
        flat-put = record {
          values_are = ap (λ (z : List X). z ++ (y ++ drop (e - s) (drop s values))) prefix-now ∙ ap (λ (z : List X). joined (take k lists) ++ (y ++ z)) after-now
              ∙ ap (λ z. joined (take k lists) ++ (y ++ joined (drop z lists))) next ∙ sym (joined-append (take k lists) (y ∷ drop (suc k) lists)) ∙ ap joined (sym (set_split lists k y h));
          ends_are = f.ends_are ∙ sym (ends-set lists k y 0 h same);
        }
          where
            next : k + 1 ≡ suc k
            next = omega arith

        pub put-length : length (take s values ++ (y ++ drop (e - s) (drop s values))) ≡ length values
        put-length = omega (
          arith,
          same,
          ap length prefix-now,
          ap length after-now,
          ap length parts,
          length-append (take s values) (y ++ drop (e - s) (drop s values)),
          length-append y (drop (e - s) (drop s values)),
          length-append (joined (take k lists)) (slice_index_or lists k [] ++ joined (drop (k + 1) lists)),
          length-append (slice_index_or lists k []) (joined (drop (k + 1) lists)),
        )
