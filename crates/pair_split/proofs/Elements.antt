-- Elements of a list by name, and how many of them pass a test.
use Rattle.std.proofs.Common.{◌≡◌, ◌≢◌, ℕ, zero, suc, ◌+◌, ◌<◌, ◌≤◌, ◌⊎◌, slice_index_or, inl, inr, Bool, true, not, ◌||◌, List, [], ◌∷◌, length, filter, map, refl, sym, ap, ◌∙◌, subst, arith, Contains}
use Rattle.std.proofs.lemmas.Bool.{cases_Bool}
use Rattle.permutations.proofs.Filter.{filter-yes, filter-no}

-- the first element is one
pub contains-here : {X : Type 0} (x : X) (xs : List X) → Contains (x ∷ xs) x
contains-here x xs = (0, omega arith, refl)

-- an element of the rest is one
pub contains-later : {X : Type 0} (x y : X) (xs : List X) → Contains xs x → Contains (y ∷ xs) x
contains-later x y xs c = (suc c.0, omega (arith, c.1), c.2)

-- an element is the first one or one of the rest
pub contains-cases : {X : Type 0} (x y : X) (xs : List X) → Contains (y ∷ xs) x → (y ≡ x) ⊎ Contains xs x
contains-cases {X} x y xs c = go c.0 c.1 c.2
  where
    go : (k : ℕ) → k < length (y ∷ xs) → slice_index_or (y ∷ xs) k x ≡ x → (y ≡ x) ⊎ Contains xs x
    go zero l e = inl e
    go (suc k) l e = inr (k, omega (arith, l), e)

-- no element is in the empty list
pub contains-none : {X : Type 0} (x : X) → Contains [] x → ⊥
contains-none x c = absurd (omega (arith, c.1))

-- an element that passes is kept
pub contains-filter : {X : Type 0} (p : X → Bool) (x : X) (xs : List X) → Contains xs x → p x ≡ true → Contains (filter p xs) x
contains-filter p x [] c h = absurd (contains-none x c)
contains-filter p x (y ∷ xs) c h = elim (contains-cases x y xs c) [
  | inl e ↦ subst (λ (l : List _). Contains l x) (sym (filter-yes p y xs (ap p e ∙ h))) (subst (λ z. Contains (y ∷ filter p xs) z) e (contains-here y (filter p xs)))
  | inr r ↦ elim (cases_Bool (p y)) [
    | inl t ↦ subst (λ (l : List _). Contains l x) (sym (filter-yes p y xs t)) (contains-later x y (filter p xs) (contains-filter p x xs r h))
    | inr f ↦ subst (λ (l : List _). Contains l x) (sym (filter-no p y xs f)) (contains-filter p x xs r h)
  ]
]

-- what is kept was an element, and passes
pub filter-contains : {X : Type 0} (p : X → Bool) (x : X) (xs : List X) → Contains (filter p xs) x → Contains xs x × (p x ≡ true)
filter-contains p x [] c = absurd (contains-none x c)
filter-contains p x (y ∷ xs) c = elim (cases_Bool (p y)) [
  | inl t ↦ elim (contains-cases x y (filter p xs) (subst (λ (l : List _). Contains l x) (filter-yes p y xs t) c)) [
    | inl e ↦ (subst (λ z. Contains (y ∷ xs) z) e (contains-here y xs), ap p (sym e) ∙ t)
    | inr r ↦ let d = filter-contains p x xs r in (contains-later x y xs d.0, d.1)
  ]
  | inr f ↦ let d = filter-contains p x xs (subst (λ (l : List _). Contains l x) (filter-no p y xs f) c) in (contains-later x y xs d.0, d.1)
]

-- a list that is not empty has an element
pub some-element : {X : Type 0} (xs : List X) → 1 ≤ length xs → (x : X) × Contains xs x
some-element [] l = absurd (omega (arith, l))
some-element (x ∷ xs) l = (x, contains-here x xs)

-- a list with an element is not empty
pub element-some : {X : Type 0} (x : X) (xs : List X) → Contains xs x → 1 ≤ length xs
element-some x xs c = omega (arith, c.1)

-- how many pass a test and how many fail
pub length-parts : {X : Type 0} (p : X → Bool) (xs : List X) → length (filter p xs) + length (filter (λ x. not (p x)) xs) ≡ length xs
length-parts p [] = refl
length-parts p (x ∷ xs) = elim (cases_Bool (p x)) [
  | inl t ↦ rw t (omega (arith, length-parts p xs))
  | inr f ↦ rw f (omega (arith, length-parts p xs))
]

-- a weaker test keeps no fewer
pub length-weaker : {X : Type 0} (p q : X → Bool) (xs : List X) → ((x : X) → Contains xs x → p x ≡ true → q x ≡ true) → length (filter p xs) ≤ length (filter q xs)
length-weaker p q [] h = omega arith
length-weaker p q (x ∷ xs) h = let rest : length (filter p xs) ≤ length (filter q xs) = length-weaker p q xs (λ y c. h y (contains-later y x xs c)) in elim (cases_Bool (p x)) [
  | inl t ↦ rw (t, h x (contains-here x xs) t) (omega (arith, rest))
  | inr f ↦ elim (cases_Bool (q x)) [ inl s ↦ rw (f, s) (omega (arith, rest)) | inr s ↦ rw (f, s) rest ]
]

-- tests that agree on the elements keep the same
pub filter-same : {X : Type 0} (p q : X → Bool) (xs : List X) → ((x : X) → Contains xs x → p x ≡ q x) → filter p xs ≡ filter q xs
filter-same p q [] h = refl
filter-same p q (x ∷ xs) h = rw (h x (contains-here x xs), filter-same p q xs (λ y c. h y (contains-later y x xs c))) refl

-- a test that one of two others passes keeps no more than the two together
pub length-either : {X : Type 0} (p q : X → Bool) (xs : List X) → length (filter (λ x. p x || q x) xs) ≤ length (filter p xs) + length (filter q xs)
length-either p q [] = omega arith
length-either p q (x ∷ xs) = elim (cases_Bool (p x)) [
  | inl t ↦ elim (cases_Bool (q x)) [ inl s ↦ rw (t, s) (omega (arith, length-either p q xs)) | inr s ↦ rw (t, s) (omega (arith, length-either p q xs)) ]
  | inr f ↦ elim (cases_Bool (q x)) [ inl s ↦ rw (f, s) (omega (arith, length-either p q xs)) | inr s ↦ rw (f, s) (length-either p q xs) ]
]

-- two different elements that pass are two
pub two-pass : {X : Type 0} (p : X → Bool) (x y : X) (xs : List X) → (x ≢ y) → Contains xs x → Contains xs y → p x ≡ true → p y ≡ true → 2 ≤ length (filter p xs)
two-pass p x y [] n c d s t = absurd (contains-none x c)
two-pass p x y (z ∷ xs) n c d s t = elim (contains-cases x z xs c) [
  | inl e ↦ elim (contains-cases y z xs d) [
    | inl f ↦ absurd (n (sym e ∙ f))
    | inr f ↦ rw (ap p e ∙ s) (omega (arith, element-some y (filter p xs) (contains-filter p y xs f t)))
  ]
  | inr e ↦ elim (contains-cases y z xs d) [
    | inl f ↦ rw (ap p f ∙ t) (omega (arith, element-some x (filter p xs) (contains-filter p x xs e s)))
    | inr f ↦ elim (cases_Bool (p z)) [ inl u ↦ rw u (omega (arith, two-pass p x y xs n e f s t)) | inr u ↦ rw u (two-pass p x y xs n e f s t) ]
  ]
]

-- the image of an element is one of the images
pub contains-map : {X Y : Type 0} (f : X → Y) (x : X) (xs : List X) → Contains xs x → Contains (map f xs) (f x)
contains-map f x [] c = absurd (contains-none x c)
contains-map f x (y ∷ xs) c = elim (contains-cases x y xs c) [
  | inl e ↦ subst (λ z. Contains (map f (y ∷ xs)) (f z)) e (contains-here (f y) (map f xs))
  | inr r ↦ contains-later (f x) (f y) (map f xs) (contains-map f x xs r)
]

-- each of the images is one of an element
pub map-contains : {X Y : Type 0} (f : X → Y) (y : Y) (xs : List X) → Contains (map f xs) y → (x : X) × Contains xs x × (f x ≡ y)
map-contains f y [] c = absurd (contains-none y c)
map-contains f y (x ∷ xs) c = elim (contains-cases y (f x) (map f xs) c) [
  | inl e ↦ (x, contains-here x xs, e)
  | inr r ↦ let w = map-contains f y xs r in (w.0, contains-later w.0 x xs w.1, w.2)
]
