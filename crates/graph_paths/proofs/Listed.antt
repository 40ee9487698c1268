-- Numbers on a list, each once: one more is put on it, and there are no more than marks.
use Rattle.std.proofs.Common.{◌≡◌, ◌≢◌, ℕ, ◌<◌, ◌≤◌, inl, inr, Bool, true, false, List, [], ◌∷◌, ◌++◌, length, set, slice_index_or, refl, sym, ap, ◌∙◌, subst, arith, append-nil, append_assoc}
use Rattle.std.proofs.lemmas.Bool.{cases_Bool, cases_eq, both_ways, true≢false}
use Rattle.std.proofs.lemmas.List.{length-set, get_or-set_same, get_or-set_other, get_or_append_left}
use Rattle.permutations.specs.Members.{is_member}
use Rattle.permutations.proofs.Count.{count-within}
use Rattle.permutations.proofs.Members.{member-head, member-cases, member-append_left, member-append_right, member-append_cases, no_member-cons, distinct-append}
use Rattle.permutations.proofs.Arrangements.{count-list}
use Rattle.permutations.proofs.Relation.{same-tests}
use Rattle.graph_paths.specs.Listing.{note_of, AreListed, Grows}

-- no number more
pub grows-none : (P : ℕ → ℕ → Type 0) (l n : List ℕ) → Grows P l n l n
grows-none P l n = record { appended = []; is = sym (append-nil l); kept = λ x m. refl; noted = λ x m f. absurd (both_ways (is_member x l) f m) }

-- what stood on the list stands there still
pub grows-member : (P : ℕ → ℕ → Type 0) (l n k o : List ℕ) → Grows P l n k o → (x : ℕ) → is_member x l ≡ true → is_member x k ≡ true
grows-member P l n k o a x m = subst (λ (z : List ℕ). is_member x z ≡ true) (sym a.is) (member-append_left x l a.appended m)

-- more numbers, and then more
pub grows-next : (P Q : ℕ → ℕ → Type 0) (l n k o j p : List ℕ) → Grows P l n k o → Grows Q k o j p → ((x m : ℕ) → Q x m → P x m) → Grows P l n j p
grows-next P Q l n k o j p a b h = record {
  appended = a.appended ++ b.appended;
  is = b.is ∙ (ap (λ (z : List ℕ). z ++ b.appended) a.is ∙ append_assoc l a.appended b.appended);
  kept = λ x m. b.kept x (grows-member P l n k o a x m) ∙ a.kept x m;
  noted = λ x m f. elim (cases_Bool (is_member x k)) [
    | inl y ↦ subst (λ (z : ℕ). P x z) (sym (b.kept x y)) (a.noted x y f)
    | inr y ↦ h x (note_of p x) (b.noted x m y)
  ];
}

-- a number appended to a list is no other member
push-other : (list : List ℕ) (x y : ℕ) → x ≢ y → is_member y (list ++ x ∷ []) ≡ is_member y list
push-other list x y n = same-tests (is_member y (list ++ x ∷ [])) (is_member y list)
    (λ m. elim (member-append_cases y list (x ∷ []) m) [ inl a ↦ a | inr b ↦ elim (member-cases y x [] b) [ inl e ↦ absurd (n e) | inr f ↦ absurd (true≢false (sym f)) ] ])
    (λ m. member-append_left y list (x ∷ []) m)

-- the number appended to a list is a member
pub push-same : (list : List ℕ) (x : ℕ) → is_member x (list ++ x ∷ []) ≡ true
push-same list x = member-append_right x list (x ∷ []) (member-head x [])

-- a number without a mark does not stand on the list
pub unmarked : (marks : List Bool) (notes list : List ℕ) (x : ℕ) → AreListed marks notes list → x < length marks → slice_index_or marks x false ≡ false → is_member x list ≡ false
unmarked marks notes list x a l h = sym (a.marked x l) ∙ h

-- one number more, with its note
pub listed-more : (marks : List Bool) (notes list : List ℕ) (x note : ℕ) → AreListed marks notes list → x < length marks → slice_index_or marks x false ≡ false → AreListed (set marks x true) (set notes x note) (list ++ x ∷ [])
listed-more marks notes list x note a l h = record {
  notes_each = length-set notes x note ∙ (a.notes_each ∙ sym (length-set marks x true));
  within = λ y m. elim (member-append_cases y list (x ∷ []) m) [
    | inl b ↦ omega (arith, a.within y b, length-set marks x true)
    | inr b ↦ elim (member-cases y x [] b) [ inl e ↦ omega (arith, l, e, length-set marks x true) | inr f ↦ absurd (true≢false (sym f)) ]
  ];
  marked = λ y m. elim (cases_eq x y) [
    | inl e ↦ subst (λ (z : ℕ). slice_index_or (set marks x true) z false ≡ is_member z (list ++ x ∷ [])) e (get_or-set_same marks x true false l ∙ sym (push-same list x))
    | inr n ↦ get_or-set_other marks x y true false (λ e. n (sym e)) ∙ (a.marked y (omega (arith, m, length-set marks x true)) ∙ sym (push-other list x y n))
  ];
  once = distinct-append list (x ∷ []) a.once refl (λ z m. no_member-cons z x [] (λ e. both_ways (is_member x list) (unmarked marks notes list x a l h) (subst (λ (w : ℕ). is_member w list ≡ true) (sym e) m)) refl);
}

pub grows-more : (marks : List Bool) (notes list : List ℕ) (x note : ℕ) → AreListed marks notes list → x < length marks → slice_index_or marks x false ≡ false → Grows (λ y m. (y ≡ x) × (m ≡ note)) list notes (list ++ x ∷ []) (set notes x note)
grows-more marks notes list x note a l h = record {
  appended = x ∷ [];
  is = refl;
  kept = λ y m. get_or-set_other notes x y note 0 (λ e. both_ways (is_member x list) (unmarked marks notes list x a l h) (subst (λ (w : ℕ). is_member w list ≡ true) e m));
  noted = λ y m f. elim (member-append_cases y list (x ∷ []) m) [
    | inl b ↦ absurd (both_ways (is_member y list) f b)
    | inr b ↦ elim (member-cases y x [] b) [
      | inl e ↦ (sym e, ap (note_of (set notes x note)) (sym e) ∙ get_or-set_same notes x note 0 (omega (arith, l, a.notes_each)))
      | inr g ↦ absurd (true≢false (sym g))
    ]
  ];
}

-- there are no more numbers on the list than marks
pub listed-few : (marks : List Bool) (notes list : List ℕ) → AreListed marks notes list → length list ≤ length marks
listed-few marks notes list a = omega (arith, count-list (length marks) (λ x. is_member x list) list a.once a.within (λ x m. refl), count-within (length marks) (λ x. is_member x list))

-- what stands at a place stands there still when more is appended to the list
pub stays : (P : ℕ → ℕ → Type 0) (l n k o : List ℕ) → Grows P l n k o → (p : ℕ) → p < length l → slice_index_or k p 0 ≡ slice_index_or l p 0
stays P l n k o a p b = ap (λ (z : List ℕ). slice_index_or z p 0) a.is ∙ get_or_append_left l a.appended 0 p b
