-- The members of a list that pass a test: members, repetition, test after test, the list reversed.
use Rattle.std.proofs.Common.{◌≡◌, ℕ, inl, inr, Bool, true, false, ◌&&◌, List, [], ◌∷◌, filter, refl, sym, ap, ◌∙◌, arith}
use Rattle.std.proofs.lemmas.Bool.{cases_Bool, cases_eq, and_parts, eq-eqb, ne_eqb}
use Rattle.permutations.specs.Members.{is_member, is_distinct}
use Rattle.permutations.proofs.Members.{member-head, member-tail, distinct-head, distinct-tail, distinct-cons}

-- a first member that passes is kept
pub filter-yes : {X : Type 0} (p : X → Bool) (x : X) (l : List X) → p x ≡ true → filter p (x ∷ l) ≡ x ∷ filter p l
filter-yes p x l h = rw h refl

-- a first member that fails is left out
pub filter-no : {X : Type 0} (p : X → Bool) (x : X) (l : List X) → p x ≡ false → filter p (x ∷ l) ≡ filter p l
filter-no p x l h = rw h refl

-- the members that are kept are those that pass
pub member-filter : (p : ℕ → Bool) (l : List ℕ) (x : ℕ) → is_member x (filter p l) ≡ (is_member x l && p x)
member-filter p [] x = refl
member-filter p (y ∷ l) x = elim (cases_eq y x) [
  | inl e ↦ elim (cases_Bool (p y)) [
    | inl t ↦ rw (t, eq-eqb y x e) (sym (ap p (sym e) ∙ t))
    | inr f ↦ rw (f, eq-eqb y x e) (member-filter p l x ∙ failing (is_member x l) (p x) (ap p (sym e) ∙ f))
  ]
  | inr n ↦ elim (cases_Bool (p y)) [
    | inl t ↦ rw (t, ne_eqb y x n) (member-filter p l x)
    | inr f ↦ rw (f, ne_eqb y x n) (member-filter p l x)
  ]
]
  where
    failing : (a b : Bool) → b ≡ false → (a && b) ≡ b
    failing a b h = grind (arith, cases_Bool a)

-- a member that passes is kept
pub filter-member : (p : ℕ → Bool) (l : List ℕ) (x : ℕ) → is_member x l ≡ true → p x ≡ true → is_member x (filter p l) ≡ true
filter-member p l x h k = grind (arith, member-filter p l x)

-- what is kept was a member, and passes
pub member-filter_parts : (p : ℕ → Bool) (l : List ℕ) (x : ℕ) → is_member x (filter p l) ≡ true → (is_member x l ≡ true) × (p x ≡ true)
member-filter_parts p l x h = and_parts (is_member x l) (p x) (sym (member-filter p l x) ∙ h)

-- who is no member is not kept
pub no_member-filter : (p : ℕ → Bool) (l : List ℕ) (x : ℕ) → is_member x l ≡ false → is_member x (filter p l) ≡ false
no_member-filter p l x h = grind (arith, member-filter p l x)

-- a filter makes no repetition
pub distinct-filter : (p : ℕ → Bool) (l : List ℕ) → is_distinct l ≡ true → is_distinct (filter p l) ≡ true
distinct-filter p [] h = refl
distinct-filter p (x ∷ l) h = elim (cases_Bool (p x)) [
  | inl t ↦ rw t (distinct-cons x (filter p l) (no_member-filter p l x (distinct-head x l h)) (distinct-filter p l (distinct-tail x l h)))
  | inr f ↦ rw f (distinct-filter p l (distinct-tail x l h))
]

-- where all members pass, all are kept
pub filter-all : (p : ℕ → Bool) (l : List ℕ) → ((x : ℕ) → is_member x l ≡ true → p x ≡ true) → filter p l ≡ l
filter-all p [] h = refl
filter-all p (x ∷ l) h = rw (h x (member-head x l)) (ap (λ (k : List ℕ). x ∷ k) (filter-all p l (λ y m. h y (member-tail y x l m))))

-- where all members fail, none is kept
pub filter-none : (p : ℕ → Bool) (l : List ℕ) → ((x : ℕ) → is_member x l ≡ true → p x ≡ false) → filter p l ≡ []
filter-none p [] h = refl
filter-none p (x ∷ l) h = rw (h x (member-head x l)) (filter-none p l (λ y m. h y (member-tail y x l m)))

-- tests that agree on the members keep the same
pub filter-ext : (p q : ℕ → Bool) (l : List ℕ) → ((x : ℕ) → is_member x l ≡ true → p x ≡ q x) → filter p l ≡ filter q l
filter-ext p q [] h = refl
filter-ext p q (x ∷ l) h = rw (h x (member-head x l), filter-ext p q l (λ y m. h y (member-tail y x l m))) refl

-- one test after the other
pub filter-filter : (p q : ℕ → Bool) (l : List ℕ) → filter p (filter q l) ≡ filter (λ x. q x && p x) l
filter-filter p q [] = refl
filter-filter p q (x ∷ l) = elim (cases_Bool (q x)) [
  | inl t ↦ elim (cases_Bool (p x)) [ inl s ↦ rw (t, s) (ap (λ (k : List ℕ). x ∷ k) (filter-filter p q l)) | inr s ↦ rw (t, s) (filter-filter p q l) ]
  | inr f ↦ rw f (filter-filter p q l)
]
