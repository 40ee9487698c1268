-- Cyclic orders under other numbers.
use Rattle.std.proofs.Common.{◌≡◌, ℕ, ◌≤◌, inl, inr, Bool, true, false, ◌==◌, List, [], ◌∷◌, map, filter, refl, sym, ap, ap₂, ◌∙◌, arith}
use Rattle.std.proofs.lemmas.Bool.{cases_Bool, cases_eq, eq-eqb, ne_eqb, both_ways}
use Rattle.permutations.specs.Members.{is_member}
use Rattle.permutations.specs.Cyclic.{first_or, successor_from, successor}
use Rattle.permutations.proofs.Members.{member-head, member-tail}
use Rattle.permutations.proofs.Filter.{filter-yes, filter-no}

-- the first value is that of the first member
first-map : (f : ℕ → ℕ) (start : ℕ) (l : List ℕ) → first_or (f start) (map f l) ≡ f (first_or start l)
first-map f start [] = refl
first-map f start (x ∷ xs) = refl

-- the value that follows the value of x
successor_from-map : (f : ℕ → ℕ) (start : ℕ) (l : List ℕ) (x : ℕ) → ((z : ℕ) → is_member z l ≡ true → f z ≡ f x → z ≡ x) → successor_from (f start) (map f l) (f x) ≡ f (successor_from start l x)
successor_from-map f start [] x h = refl
successor_from-map f start (y ∷ ys) x h = elim (cases_eq y x) [
  | inl e ↦
      let a : (f y == f x) ≡ true = eq-eqb (f y) (f x) (ap f e) in
      let b : (y == x) ≡ true = eq-eqb y x e in
      rw (a, b) (first-map f start ys)
  | inr n ↦
      let a : (f y == f x) ≡ false = ne_eqb (f y) (f x) (λ q. n (h y (member-head y ys) q)) in
      let b : (y == x) ≡ false = ne_eqb y x n in
      rw (a, b) (successor_from-map f start ys x (λ z m. h z (member-tail z y ys m)))
]

-- is the value of the member that follows x
pub successor-map : (f : ℕ → ℕ) (l : List ℕ) (x : ℕ) → ((z : ℕ) → is_member z l ≡ true → f z ≡ f x → z ≡ x) → successor (map f l) (f x) ≡ f (successor l x)
successor-map f l x h = ap (λ start. successor_from start (map f l) (f x)) (first-map f x l) ∙ successor_from-map f (first_or x l) l x h

-- the values that pass are those of the members whose values pass
pub filter-map : (f : ℕ → ℕ) (p : ℕ → Bool) (l : List ℕ) → filter p (map f l) ≡ map f (filter (λ z. p (f z)) l)
filter-map f p [] = refl
filter-map f p (x ∷ xs) = elim (cases_Bool (p (f x))) [
  | inl t ↦ filter-yes p (f x) (map f xs) t ∙ ap (λ k. f x ∷ k) (filter-map f p xs) ∙ sym (ap (map f) (filter-yes (λ z. p (f z)) x xs t))
  | inr t ↦ filter-no p (f x) (map f xs) t ∙ filter-map f p xs ∙ sym (ap (map f) (filter-no (λ z. p (f z)) x xs t))
]

-- values of values that are the members
pub map-back : (f b : ℕ → ℕ) (l : List ℕ) → ((z : ℕ) → is_member z l ≡ true → f (b z) ≡ z) → map f (map b l) ≡ l
map-back f b [] h = refl
map-back f b (x ∷ xs) h = ap₂ (λ y ys. y ∷ ys) (h x (member-head x xs)) (map-back f b xs (λ z m. h z (member-tail z x xs m)))

-- lists with the same members, each of which begins with its least member, begin with the same one
pub first-same : (l k : List ℕ) → ((z : ℕ) → is_member z l ≡ is_member z k) → ((z : ℕ) → is_member z l ≡ true → first_or 0 l ≤ z) → ((z : ℕ) → is_member z k ≡ true → first_or 0 k ≤ z) → first_or 0 l ≡ first_or 0 k
first-same [] [] same a b = refl
first-same [] (y ∷ ys) same a b = absurd (both_ways false refl (same y ∙ member-head y ys))
first-same (x ∷ xs) [] same a b = absurd (both_ways false refl (sym (same x) ∙ member-head x xs))
first-same (x ∷ xs) (y ∷ ys) same a b =
    let one : x ≤ y = a y (same y ∙ member-head y ys) in
    let two : y ≤ x = b x (sym (same x) ∙ member-head x xs) in
    omega (arith, one, two)
