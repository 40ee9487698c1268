-- Lists kept as one: each is found, and changed in its place.
use Rattle.std.proofs.Common.{◌≡◌, ℕ, zero, suc, ◌+◌, ◌-◌, ◌<◌, ◌≤◌, List, [], ◌∷◌, ◌++◌, length, take, drop, slice_index_or, slice_set, refl, sym, ap, ◌∙◌, subst, arith, append_assoc, append-nil}
use Rattle.std.specs.List.{concat}
use Rattle.std.proofs.lemmas.List.{length-append, take-append-drop, drop_more, take_more, set_split}
use Rattle.std.proofs.lemmas.List.Folds.{concat-append}
use Rattle.skel_embed.specs.Flat.{ends_from, cut_from, lists_in, start_at, AreFlat}
use Rattle.skel_embed.proofs.KeptLists.{take-front, drop-front}

-- the lists are cut off again
cut-ends : (lists : List (List ℕ)) (place : ℕ) → cut_from place (ends_from place lists) (concat lists) ≡ lists
cut-ends [] place = refl
cut-ends (x ∷ xs) place =
    let n : length x ≡ (place + length x) - place = omega arith in
    ap (λ (z : List ℕ). z ∷ cut_from (place + length x) (ends_from (place + length x) xs) (drop ((place + length x) - place) (x ++ concat xs))) (take-front x (concat xs) ((place + length x) - place) n)
    ∙ ap (λ (z : List ℕ). x ∷ cut_from (place + length x) (ends_from (place + length x) xs) z) (drop-front x (concat xs) ((place + length x) - place) n)
    ∙ ap (λ (z : List (List ℕ)). x ∷ z) (cut-ends xs (place + length x))

pub ends-length : (lists : List (List ℕ)) (place : ℕ) → length (ends_from place lists) ≡ length lists
ends-length [] place = refl
ends-length (x ∷ xs) place = let e = ends-length xs (place + length x) in omega (arith, e)

-- each end, as the length of what is before it
end-at : (lists : List (List ℕ)) (k place : ℕ) → k < length lists → slice_index_or (ends_from place lists) k 0 ≡ place + length (concat (take (suc k) lists))
end-at [] k place h = absurd (omega (arith, h))
end-at (x ∷ xs) zero place h = ap (λ (z : List ℕ). place + length z) (sym (append-nil x))
end-at (x ∷ xs) (suc k) place h =
    let e = end-at xs k (place + length x) (omega (arith, h)) in
    let s : (place + length x) + length (concat (take (suc k) xs)) ≡ place + length (x ++ concat (take (suc k) xs)) = omega (arith, length-append x (concat (take (suc k) xs))) in
    e ∙ s

-- a list of the same length in the place of one
ends-set : (lists : List (List ℕ)) (k : ℕ) (y : List ℕ) (place : ℕ) → k < length lists → length y ≡ length (slice_index_or lists k []) → ends_from place (slice_set lists k y) ≡ ends_from place lists
ends-set [] k y place h e = absurd (omega (arith, h))
ends-set (x ∷ xs) zero y place h e = ap (λ n. (place + n) ∷ ends_from (place + n) xs) e
ends-set (x ∷ xs) (suc k) y place h e = ap (λ (z : List ℕ). (place + length x) ∷ z) (ends-set xs k y (place + length x) (omega (arith, h)) e)

-- lists of the same lengths
pub ends-alike : (xs ys : List (List ℕ)) (place : ℕ) → length xs ≡ length ys → ((k : ℕ) → k < length xs → length (slice_index_or xs k []) ≡ length (slice_index_or ys k [])) → ends_from place xs ≡ ends_from place ys
ends-alike [] [] place e h = refl
ends-alike [] (y ∷ ys) place e h = absurd (omega (arith, e))
ends-alike (x ∷ xs) [] place e h = absurd (omega (arith, e))
ends-alike (x ∷ xs) (y ∷ ys) place e h =
    let n : length x ≡ length y = h 0 (omega arith) in
    ap (λ (z : List ℕ). (place + length x) ∷ z) (ends-alike xs ys (place + length x) (omega (arith, e)) (λ k l. h (suc k) (omega (arith, l)))) ∙ ap (λ m. (place + m) ∷ ends_from (place + m) ys) n

-- one list more
ends-more : (us : List (List ℕ)) (x : List ℕ) (place : ℕ) → ends_from place (us ++ x ∷ []) ≡ ends_from place us ++ (place + length (concat us ++ x)) ∷ []
ends-more [] x place = refl
ends-more (u ∷ us) x place =
    let n : (place + length u) + length (concat us ++ x) ≡ place + length ((u ++ concat us) ++ x) = omega (arith, length-append u (concat us ++ x), ap length (append_assoc u (concat us) x)) in
    ap (λ (z : List ℕ). (place + length u) ∷ z) (ends-more us x (place + length u)) ∙ ap (λ z. (place + length u) ∷ (ends_from (place + length u) us ++ z ∷ [])) n

module _ (lists : List (List ℕ)) (k : ℕ) (h : k < length lists) where
  -- before list k, it, and after it
  concat-at : concat lists ≡ concat (take k lists) ++ (slice_index_or lists k [] ++ concat (drop (k + 1) lists))
  concat-at = ap concat (sym (take-append-drop k lists)) ∙ concat-append (take k lists) (drop k lists) ∙ ap (λ (z : List (List ℕ)). concat (take k lists) ++ concat z) (drop_more lists k [] h)

  pub concat-next : concat (take (k + 1) lists) ≡ concat (take k lists) ++ slice_index_or lists k []
  concat-next = ap concat (take_more lists k [] h) ∙ concat-append (take k lists) (slice_index_or lists k [] ∷ []) ∙ ap (λ (z : List ℕ). concat (take k lists) ++ z) (append-nil (slice_index_or lists k []))

  pub start-next : start_at lists (k + 1) ≡ start_at lists k + length (slice_index_or lists k [])
  start-next = ap length concat-next ∙ length-append (concat (take k lists)) (slice_index_or lists k [])

-- what is kept is cut into the lists
pub flat-view : (lists : List (List ℕ)) (keys ends : List ℕ) → AreFlat lists keys ends → cut_from 0 ends keys ≡ lists
flat-view lists keys ends f = ap (cut_from 0 ends) f.keys_are ∙ ap (λ (z : List ℕ). cut_from 0 z (concat lists)) f.ends_are ∙ cut-ends lists 0

pub flat-again : (lists : List (List ℕ)) (keys ends : List ℕ) → AreFlat lists keys ends → AreFlat (cut_from 0 ends keys) keys ends
flat-again lists keys ends f = subst (λ (z : List (List ℕ)). AreFlat z keys ends) (sym (flat-view lists keys ends f)) f

-- one list more
pub flat-more : (lists : List (List ℕ)) (i : ℕ) (keys ends x : List ℕ) → i < length lists → x ≡ slice_index_or lists i [] → AreFlat (take i lists) keys ends → AreFlat (take (i + 1) lists) (keys ++ x) (ends ++ length (keys ++ x) ∷ [])
flat-more lists i keys ends x h e f = record {
  keys_are = ap (λ (z : List ℕ). z ++ x) f.keys_are ∙ ap (λ (z : List ℕ). concat (take i lists) ++ z) e ∙ sym (concat-next lists i h);
  ends_are = ap (λ (z : List ℕ). z ++ length (keys ++ x) ∷ []) f.ends_are ∙ ap (λ (z : List ℕ). ends_from 0 (take i lists) ++ length (z ++ x) ∷ []) f.keys_are
      ∙ ap (λ z. ends_from 0 (take i lists) ++ z ∷ []) from-0 ∙ sym (ends-more (take i lists) x 0) ∙ ap (λ (z : List ℕ). ends_from 0 (take i lists ++ z ∷ [])) e ∙ ap (ends_from 0) (sym (take_more lists i [] h));
}
  where
    from-0 : length (concat (take i lists) ++ x) ≡ 0 + length (concat (take i lists) ++ x)
    from-0 = omega arith

-- a list more at the end
pub flat-push : (lists : List (List ℕ)) (keys ends x : List ℕ) → AreFlat lists keys ends → AreFlat (lists ++ x ∷ []) (keys ++ x) (ends ++ length (keys ++ x) ∷ [])
flat-push lists keys ends x f = record {
  keys_are = ap (λ (z : List ℕ). z ++ x) f.keys_are ∙ sym (concat-append lists (x ∷ []) ∙ ap (λ (z : List ℕ). concat lists ++ z) (append-nil x));
  ends_are = ap (λ (z : List ℕ). z ++ length (keys ++ x) ∷ []) f.ends_are ∙ ap (λ (z : List ℕ). ends_from 0 lists ++ length (z ++ x) ∷ []) f.keys_are ∙ ap (λ z. ends_from 0 lists ++ z ∷ []) from-0 ∙ sym (ends-more lists x 0);
}
  where
    from-0 : length (concat lists ++ x) ≡ 0 + length (concat lists ++ x)
    from-0 = omega arith

module _ (lists : List (List ℕ)) (keys ends : List ℕ) (f : AreFlat lists keys ends) where
  pub ends-count : length ends ≡ length lists
  ends-count = ap length f.ends_are ∙ ends-length lists 0

  module _ (k : ℕ) (h : k < length lists) where
    pub end-is : slice_index_or ends k 0 ≡ start_at lists (k + 1)
    end-is =
        let s : suc k ≡ k + 1 = omega arith in
        let z : 0 + length (concat (take (suc k) lists)) ≡ start_at lists (suc k) = omega arith in
        ap (λ (l : List ℕ). slice_index_or l k 0) f.ends_are ∙ end-at lists k 0 h ∙ z ∙ ap (start_at lists) s

    parts : keys ≡ concat (take k lists) ++ (slice_index_or lists k [] ++ concat (drop (k + 1) lists))
    parts = f.keys_are ∙ concat-at lists k h

    pub start-within : start_at lists (k + 1) ≤ length keys
    start-within = omega (
      arith,
      start-next lists k h,
      ap length parts,
      length-append (concat (take k lists)) (slice_index_or lists k [] ++ concat (drop (k + 1) lists)),
      length-append (slice_index_or lists k []) (concat (drop (k + 1) lists)),
    )

    pub start-grows : start_at lists k ≤ start_at lists (k + 1)
    start-grows = omega (arith, start-next lists k h)

    front-is : take (start_at lists k) keys ≡ concat (take k lists)
    front-is = ap (take (start_at lists k)) parts ∙ take-front (concat (take k lists)) (slice_index_or lists k [] ++ concat (drop (k + 1) lists)) (start_at lists k) refl

    rest-is : drop (start_at lists k) keys ≡ slice_index_or lists k [] ++ concat (drop (k + 1) lists)
    rest-is = ap (drop (start_at lists k)) parts ∙ drop-front (concat (take k lists)) (slice_index_or lists k [] ++ concat (drop (k + 1) lists)) (start_at lists k) refl

    module _ (s e : ℕ) (starts : s ≡ start_at lists k) (ends_at : e ≡ start_at lists (k + 1)) where
      fits : length (slice_index_or lists k []) ≡ e - s
      fits = omega (arith, start-next lists k h, starts, ends_at)

      front-now : take s keys ≡ concat (take k lists)
      front-now = ap (λ z. take z keys) starts ∙ front-is

      rest-now : drop s keys ≡ slice_index_or lists k [] ++ concat (drop (k + 1) lists)
      rest-now = ap (λ z. drop z keys) starts ∙ rest-is

      back-now : drop (e - s) (drop s keys) ≡ concat (drop (k + 1) lists)
      back-now = ap (drop (e - s)) rest-now ∙ drop-front (slice_index_or lists k []) (concat (drop (k + 1) lists)) (e - s) fits

      -- list k is found between its start and its end
      pub piece-of : take (e - s) (drop s keys) ≡ slice_index_or lists k []
      piece-of = ap (take (e - s)) rest-now ∙ take-front (slice_index_or lists k []) (concat (drop (k + 1) lists)) (e - s) fits

      module _ (y : List ℕ) (same : length y ≡ length (slice_index_or lists k [])) where
        -- another list of its length in its place
        pub flat-put : AreFlat (slice_set lists k y) (take s keys ++ (y ++ drop (e - s) (drop s keys))) ends
        flat-put = record {
          keys_are = ap (λ (z : List ℕ). z ++ (y ++ drop (e - s) (drop s keys))) front-now ∙ ap (λ (z : List ℕ). concat (take k lists) ++ (y ++ z)) back-now
              ∙ ap (λ z. concat (take k lists) ++ (y ++ concat (drop z lists))) next ∙ sym (concat-append (take k lists) (y ∷ drop (suc k) lists)) ∙ ap concat (sym (set_split lists k y h));
          ends_are = f.ends_are ∙ sym (ends-set lists k y 0 h same);
        }
          where
            next : k + 1 ≡ suc k
            next = omega arith

        pub put-length : length (take s keys ++ (y ++ drop (e - s) (drop s keys))) ≡ length keys
        put-length = omega (
          arith,
          same,
          ap length front-now,
          ap length back-now,
          ap length parts,
          length-append (take s keys) (y ++ drop (e - s) (drop s keys)),
          length-append y (drop (e - s) (drop s keys)),
          length-append (concat (take k lists)) (slice_index_or lists k [] ++ concat (drop (k + 1) lists)),
          length-append (slice_index_or lists k []) (concat (drop (k + 1) lists)),
        )

-- the list of one node changed in the keys that are lent, where its bounds are those of the lists that were told
module _ (keys m ends : List ℕ) (flat : AreFlat (lists_in keys ends) keys ends) (lent : m ≡ keys) (told : List (List ℕ)) (is : told ≡ lists_in keys ends) (k : ℕ) (h : k < length (lists_in keys ends)) (s e : ℕ) (starts : s ≡ start_at told k) (ends_at : e ≡ start_at told (k + 1)) where
  lent-flat : AreFlat (lists_in keys ends) m ends
  lent-flat = subst (λ (z : List ℕ). AreFlat (lists_in keys ends) z ends) (sym lent) flat

  begins : s ≡ start_at (lists_in keys ends) k
  begins = starts ∙ ap (λ (z : List (List ℕ)). start_at z k) is

  finishes : e ≡ start_at (lists_in keys ends) (k + 1)
  finishes = ends_at ∙ ap (λ (z : List (List ℕ)). start_at z (k + 1)) is

  pub lent-piece : take (e - s) (drop s m) ≡ slice_index_or (lists_in keys ends) k []
  lent-piece = piece-of (lists_in keys ends) m ends lent-flat k h s e begins finishes

  module _ (y : List ℕ) (same : length y ≡ length (slice_index_or (lists_in keys ends) k [])) where
    pub lent-length : length (take s m ++ (y ++ drop (e - s) (drop s m))) ≡ length m
    lent-length = put-length (lists_in keys ends) m ends lent-flat k h s e begins finishes y same

    after : AreFlat (slice_set (lists_in keys ends) k y) (take s m ++ (y ++ drop (e - s) (drop s m))) ends
    after = flat-put (lists_in keys ends) m ends lent-flat k h s e begins finishes y same

    module _ (new : List ℕ) (n : new ≡ take s m ++ (y ++ drop (e - s) (drop s m))) where
      pub lent-again : AreFlat (lists_in new ends) new ends
      lent-again = subst (λ (z : List ℕ). AreFlat (lists_in z ends) z ends) (sym n) (flat-again (slice_set (lists_in keys ends) k y) (take s m ++ (y ++ drop (e - s) (drop s m))) ends after)

      pub lent-put : lists_in new ends ≡ slice_set (lists_in keys ends) k y
      lent-put = ap (λ (z : List ℕ). lists_in z ends) n ∙ flat-view (slice_set (lists_in keys ends) k y) (take s m ++ (y ++ drop (e - s) (drop s m))) ends after
