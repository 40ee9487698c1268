-- One more, or one less, at each vertex of a list, step by step.
use Rattle.std.proofs.Common.{◌≡◌, ◌≢◌, ℕ, ◌+◌, ◌-◌, ◌<◌, inl, inr, Bool, true, false, ◌||◌, cond, List, [], ◌∷◌, ◌++◌, length, map, take, drop, slice_index, slice_set, sym, ap, ◌∙◌, subst, arith}
use Rattle.std.proofs.lemmas.Bool.{cases_Bool, cases_eq, ne_eqb}
use Rattle.std.proofs.Math.Seq.{take-append_seam}
use Rattle.std.proofs.lemmas.List.{map-append, take_more, take-append-drop, get_or-set_same, get_or-set_other, length-set}
use Rattle.permutations.specs.Members.{is_member, is_distinct}
use Rattle.permutations.proofs.Members.{member-append, member-head, member-append_left, member-append_right, distinct-append_left}
use Rattle.permutations.proofs.Chains.{apart-front}

-- the first k + 1 images
pub images-take : (f : ℕ → ℕ) (l : List ℕ) (k : ℕ) → k < length l → map f (take (k + 1) l) ≡ map f (take k l) ++ f (slice_index l k) ∷ []
images-take f l k h = ap (map f) (take_more l k 0 h) ∙ map-append f (take k l) (slice_index l k ∷ [])

-- the image of the next member is not among those so far
pub image-new : (f : ℕ → ℕ) (l : List ℕ) (k : ℕ) → k < length l → is_distinct (map f l) ≡ true → is_member (f (slice_index l k)) (map f (take k l)) ≡ false
image-new f l k h d = apart-front (map f (take k l)) (f (slice_index l k)) [] (subst (λ (v : List ℕ). is_distinct v ≡ true) (images-take f l k h)
    (distinct-append_left (map f (take (k + 1) l)) (map f (drop (k + 1) l)) (subst (λ (v : List ℕ). is_distinct v ≡ true) (ap (map f) (sym (take-append-drop (k + 1) l)) ∙ map-append f (take (k + 1) l) (drop (k + 1) l)) d)))

-- one more at each of these vertices
pub record IsRaised (vertices before after : List ℕ) : Type 0 where
  pub each : length after ≡ length before
  pub counted : (v : ℕ) → slice_index after v ≡ slice_index before v + cond (is_member v vertices) 1 0

-- at one vertex more
pub raised-more : (u : ℕ) (vertices before now : List ℕ) → is_member u vertices ≡ false → u < length before → IsRaised vertices before now → IsRaised (vertices ++ u ∷ []) before (slice_set now u (slice_index now u + 1))
raised-more u vertices before now n l r = record {
  each = length-set now u (slice_index now u + 1) ∙ r.each;
  counted = λ v. elim (cases_eq v u) [
    | inl e ↦ ap (slice_index (slice_set now u (slice_index now u + 1))) e ∙ get_or-set_same now u (slice_index now u + 1) 0 (omega (arith, l, r.each)) ∙ here v e (is_member u vertices) (is_member v (vertices ++ u ∷ [])) n (inside v e) (r.counted u)
    | inr e ↦ get_or-set_other now u v (slice_index now u + 1) 0 e ∙ r.counted v ∙ ap (λ (b : Bool). slice_index before v + cond b 1 0) (outside v e)
  ];
}
  where
    inside : (v : ℕ) → v ≡ u → is_member v (vertices ++ u ∷ []) ≡ true
    inside v e = ap (λ (z : ℕ). is_member z (vertices ++ u ∷ [])) e ∙ member-append_right u vertices (u ∷ []) (member-head u [])

    outside : (v : ℕ) → v ≢ u → is_member v vertices ≡ is_member v (vertices ++ u ∷ [])
    outside v e = sym (member-append v vertices (u ∷ []) ∙ rw (ne_eqb u v (λ q. e (sym q))) (none (is_member v vertices)))
      where
        none : (b : Bool) → (b || (false || false)) ≡ b
        none b = grind (arith, cases_Bool b)

    here : (v : ℕ) → v ≡ u → (a b : Bool) → a ≡ false → b ≡ true → slice_index now u ≡ slice_index before u + cond a 1 0 → slice_index now u + 1 ≡ slice_index before v + cond b 1 0
    here v e a b p q s = ap (λ (k : ℕ). k + 1) (s ∙ ap (λ (z : Bool). slice_index before u + cond z 1 0) p) ∙ (let y : slice_index before v ≡ slice_index before u = ap (slice_index before) e in let z : slice_index before u + 0 + 1 ≡ slice_index before v + 1 = omega (arith, y) in z) ∙ ap (λ (z : Bool). slice_index before v + cond z 1 0) (sym q)

-- one less at each of these vertices
pub lowered-more : (u : ℕ) (vertices before now : List ℕ) → is_member u vertices ≡ false → u < length before → IsRaised vertices now before → 0 < slice_index before u → IsRaised (vertices ++ u ∷ []) (slice_set now u (slice_index now u - 1)) before
lowered-more u vertices before now n l r p = record {
  each = sym (length-set now u (slice_index now u - 1) ∙ sym r.each);
  counted = λ v. elim (cases_eq v u) [
    | inl e ↦ here v e (is_member u vertices) (is_member v (vertices ++ u ∷ [])) n (inside v e) (r.counted u)
    | inr e ↦ r.counted v ∙ ap (λ (b : Bool). slice_index now v + cond b 1 0) (outside v e) ∙ ap (λ (k : ℕ). k + cond (is_member v (vertices ++ u ∷ [])) 1 0) (sym (get_or-set_other now u v (slice_index now u - 1) 0 e))
  ];
}
  where
    inside : (v : ℕ) → v ≡ u → is_member v (vertices ++ u ∷ []) ≡ true
    inside v e = ap (λ (z : ℕ). is_member z (vertices ++ u ∷ [])) e ∙ member-append_right u vertices (u ∷ []) (member-head u [])

    outside : (v : ℕ) → v ≢ u → is_member v vertices ≡ is_member v (vertices ++ u ∷ [])
    outside v e = sym (member-append v vertices (u ∷ []) ∙ rw (ne_eqb u v (λ q. e (sym q))) (none (is_member v vertices)))
      where
        none : (b : Bool) → (b || (false || false)) ≡ b
        none b = grind (arith, cases_Bool b)

    here : (v : ℕ) → v ≡ u → (a b : Bool) → a ≡ false → b ≡ true → slice_index before u ≡ slice_index now u + cond a 1 0 → slice_index before v ≡ slice_index (slice_set now u (slice_index now u - 1)) v + cond b 1 0
    here v e a b i q s =
        let t : slice_index before u ≡ slice_index now u + 0 = s ∙ ap (λ (z : Bool). slice_index now u + cond z 1 0) i in
        let x : slice_index (slice_set now u (slice_index now u - 1)) v ≡ slice_index now u - 1 = ap (slice_index (slice_set now u (slice_index now u - 1))) e ∙ get_or-set_same now u (slice_index now u - 1) 0 (omega (arith, l, r.each)) in
        let y : slice_index before v ≡ slice_index before u = ap (slice_index before) e in
        let z : slice_index before v ≡ slice_index (slice_set now u (slice_index now u - 1)) v + 1 = omega (arith, t, x, y, p) in
        z ∙ ap (λ (w : Bool). slice_index (slice_set now u (slice_index now u - 1)) v + cond w 1 0) (sym q)

-- at a vertex that is none of them nothing has changed
pub raised-at : (u v : ℕ) (vertices before after : List ℕ) → v ≡ u → is_member u vertices ≡ false → IsRaised vertices before after → slice_index after v ≡ slice_index before v
raised-at u v vertices before after e n r = r.counted v ∙ ap (λ (b : Bool). slice_index before v + cond b 1 0) (ap (λ (z : ℕ). is_member z vertices) e ∙ n) ∙ (let z : slice_index before v + 0 ≡ slice_index before v = omega arith in z)

-- the image of a member is among the images
pub image-in : (f : ℕ → ℕ) (l : List ℕ) (k : ℕ) → k < length l → is_member (f (slice_index l k)) (map f l) ≡ true
image-in f l k h = ap (λ (v : List ℕ). is_member (f (slice_index l k)) v) (ap (map f) (sym (take-append-drop (k + 1) l)) ∙ map-append f (take (k + 1) l) (drop (k + 1) l))
    ∙ member-append_left (f (slice_index l k)) (map f (take (k + 1) l)) (map f (drop (k + 1) l))
    (ap (is_member (f (slice_index l k))) (images-take f l k h) ∙ member-append_right (f (slice_index l k)) (map f (take k l)) (f (slice_index l k) ∷ []) (member-head (f (slice_index l k)) []))

-- a part that is as long as the whole is the whole
pub whole-again : (n : ℕ) (a b : List ℕ) → n ≡ length a → take n (a ++ b) ≡ a
whole-again n a b e = ap (λ (k : ℕ). take k (a ++ b)) e ∙ take-append_seam a b
