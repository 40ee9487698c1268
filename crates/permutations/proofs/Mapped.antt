-- The members of a list under a function.
use Rattle.std.proofs.Common.{◌≡◌, ℕ, inl, inr, true, List, [], ◌∷◌, map, refl, sym, subst}
use Rattle.std.proofs.lemmas.Bool.{both_ways, true≢false, false_from_ne_true}
use Rattle.permutations.specs.Members.{is_member, is_distinct}
use Rattle.permutations.proofs.Members.{member-head, member-tail, member-cases, distinct-head, distinct-tail, distinct-cons}

-- the image of a member is among the images
pub member-map : (f : ℕ → ℕ) (l : List ℕ) (x : ℕ) → is_member x l ≡ true → is_member (f x) (map f l) ≡ true
member-map f [] x h = absurd (true≢false (sym h))
member-map f (y ∷ l) x h = elim (member-cases x y l h) [
  | inl e ↦ subst (λ (z : ℕ). is_member (f z) (f y ∷ map f l) ≡ true) e (member-head (f y) (map f l))
  | inr m ↦ member-tail (f x) (f y) (map f l) (member-map f l x m)
]

-- what is among the images is the image of a member
pub map-member : (f : ℕ → ℕ) (l : List ℕ) (y : ℕ) → is_member y (map f l) ≡ true → (x : ℕ) × (is_member x l ≡ true) × (f x ≡ y)
map-member f [] y h = absurd (true≢false (sym h))
map-member f (x ∷ l) y h = elim (member-cases y (f x) (map f l) h) [
  | inl e ↦ (x, member-head x l, e)
  | inr m ↦ let w = map-member f l y m in (w.0, member-tail w.0 x l w.1, w.2)
]

-- different members with different images give a list without repetition
pub distinct-map : (f : ℕ → ℕ) (l : List ℕ) → ((x y : ℕ) → is_member x l ≡ true → is_member y l ≡ true → f x ≡ f y → x ≡ y) → is_distinct l ≡ true → is_distinct (map f l) ≡ true
distinct-map f [] once d = refl
distinct-map f (x ∷ l) once d = distinct-cons (f x) (map f l)
    (false_from_ne_true (is_member (f x) (map f l)) (λ m.
    let w = map-member f l (f x) m in
    both_ways (is_member x l) (distinct-head x l d) (subst (λ (z : ℕ). is_member z l ≡ true) (once w.0 x (member-tail w.0 x l w.1) (member-head x l) w.2) w.1)))
    (distinct-map f l (λ y z m n. once y z (member-tail y x l m) (member-tail z x l n)) (distinct-tail x l d))
