-- Members and their places, by recursion on the list; lists that rise, by recursion.
use Rattle.std.proofs.Common.{◌≡◌, ℕ, zero, suc, ◌+◌, ◌<◌, ◌⊎◌, inl, inr, Bool, true, false, List, [], ◌∷◌, ◌++◌, length, map, reverse, slice_index_or, Contains, refl, sym, ap, ◌∙◌, subst, arith}
use Rattle.std.proofs.lemmas.List.{reverse-append}
use Rattle.std.proofs.lemmas.Bool.{both_ways}
use Rattle.choice_lists.specs.Order.{IsRising, IsAt}
pub use Rattle.choice_lists.specs.Falling.{At, Above, Ascends}

-- x stands at some place
abbrev pub Has : {X : Type 0} → List X → X → Type 0
Has l x = (i : ℕ) × At l i x

-- from the public form
pub at-from : {X : Type 0} (l : List X) (i : ℕ) (x : X) → i < length l → slice_index_or l i x ≡ x → At l i x
at-from [] i x h e = absurd (omega arith)
at-from (y ∷ l) zero x h e = e
at-from (y ∷ l) (suc i) x h e = at-from l i x (omega arith) e

-- a place with a member is one of the list
pub at-within : {X : Type 0} (l : List X) (i : ℕ) (x : X) → At l i x → i < length l
at-within [] i x a = absurd a
at-within (y ∷ l) zero x a = omega arith
at-within (y ∷ l) (suc i) x a = let h : i < length l = at-within l i x a in omega arith

-- what stands there
pub at-get : {X : Type 0} (l : List X) (i : ℕ) (x d : X) → At l i x → slice_index_or l i d ≡ x
at-get [] i x d a = absurd a
at-get (y ∷ l) zero x d a = a
at-get (y ∷ l) (suc i) x d a = at-get l i x d a

-- to the public form
pub at-is : {X : Type 0} (l : List X) (i : ℕ) (x : X) → At l i x → IsAt l i x
at-is l i x a = (at-within l i x a, at-get l i x x a)

-- a member of the public form has a place
pub has-from : {X : Type 0} (l : List X) (x : X) → Contains l x → Has l x
has-from l x c = (c.0, at-from l c.0 x c.1 c.2)

-- and back
pub contains-from : {X : Type 0} (l : List X) (x : X) → Has l x → Contains l x
contains-from l x h = (h.0, at-within l h.0 x h.1, at-get l h.0 x x h.1)

-- one member at one place
pub at-same : {X : Type 0} (l : List X) (i : ℕ) (x y : X) → At l i x → At l i y → x ≡ y
at-same l i x y a b = sym (at-get l i x x a) ∙ at-get l i y x b

-- at each place of the list stands a member
pub at-any : {X : Type 0} (l : List X) (i : ℕ) → i < length l → (x : X) × At l i x
at-any [] i h = absurd (omega arith)
at-any (y ∷ l) zero h = (y, refl)
at-any (y ∷ l) (suc i) h = at-any l i (omega arith)

-- the place is named by an equal number
pub at-place : {X : Type 0} (l : List X) (i j : ℕ) (x : X) → i ≡ j → At l i x → At l j x
at-place l i j x e a = subst (λ (z : ℕ). At l z x) e a

-- members of the front keep their place
pub at-left : {X : Type 0} (xs ys : List X) (i : ℕ) (x : X) → At xs i x → At (xs ++ ys) i x
at-left [] ys i x a = absurd a
at-left (y ∷ xs) ys zero x a = a
at-left (y ∷ xs) ys (suc i) x a = at-left xs ys i x a

-- members of the back stand behind the front
pub at-right : {X : Type 0} (xs ys : List X) (i : ℕ) (x : X) → At ys i x → At (xs ++ ys) (length xs + i) x
at-right [] ys i x a = at-place ys i (0 + i) x (omega arith) a
at-right (y ∷ xs) ys i x a = at-place (y ∷ (xs ++ ys)) (suc (length xs + i)) (length (y ∷ xs) + i) x (omega arith) (at-right xs ys i x a)

-- a member of two lists joined stands in the front or behind it
pub at-append : {X : Type 0} (xs ys : List X) (k : ℕ) (x : X) → At (xs ++ ys) k x → At xs k x ⊎ ((i : ℕ) × (k ≡ length xs + i) × At ys i x)
at-append [] ys k x a = inr (k, omega arith, a)
at-append (y ∷ xs) ys zero x a = inl a
at-append (y ∷ xs) ys (suc k) x a = elim (at-append xs ys k x a) [
  | inl b ↦ inl b
  | inr b ↦ let e : k ≡ length xs + b.0 = b.1 in inr (b.0, omega arith, b.2)
]

-- images stand at the places of their members
pub at-map : {X Y : Type 0} (f : X → Y) (l : List X) (i : ℕ) (x : X) → At l i x → At (map f l) i (f x)
at-map f [] i x a = absurd a
at-map f (y ∷ l) zero x a = ap f a
at-map f (y ∷ l) (suc i) x a = at-map f l i x a

-- what stands among images is an image
pub at-map_back : {X Y : Type 0} (f : X → Y) (l : List X) (i : ℕ) (y : Y) → At (map f l) i y → (x : X) × At l i x × (f x ≡ y)
at-map_back f [] i y a = absurd a
at-map_back f (x ∷ l) zero y a = (x, refl, a)
at-map_back f (x ∷ l) (suc i) y a = at-map_back f l i y a

-- from the public form
pub ascends-from : {X : Type 0} (before : X → X → Bool) (l : List X) → IsRising before l → Ascends before l
ascends-from before [] h = tt
ascends-from before (x ∷ l) h = (
  λ i y a. subst (λ z. before x z ≡ true) (at-get l i y x a) (h 0 (suc i) x (omega arith) (let w : i < length l = at-within l i y a in omega arith)),
  ascends-from before l (λ i j d a b. h (suc i) (suc j) d (omega arith) (omega arith)),
)

-- to the public form
pub rising-from : {X : Type 0} (before : X → X → Bool) (l : List X) → Ascends before l → IsRising before l
rising-from before [] h i j d a b = absurd (omega arith)
rising-from before (x ∷ l) h i zero d a b = absurd (omega arith)
rising-from before (x ∷ l) h zero (suc j) d a b = let m = at-any l j (omega arith) in subst (λ z. before x z ≡ true) (sym (at-get l j m.0 d m.1)) (h.0 j m.0 m.1)
rising-from before (x ∷ l) h (suc i) (suc j) d a b = rising-from before l h.1 i j d (omega arith) (omega arith)

-- two rising lists, the second above the first, make one
pub ascends-append : {X : Type 0} (before : X → X → Bool) (xs ys : List X) → Ascends before xs → Ascends before ys
    → ((i : ℕ) (x : X) → At xs i x → Above before x ys) → Ascends before (xs ++ ys)
ascends-append before [] ys a b h = b
ascends-append before (x ∷ xs) ys a b h = (front, ascends-append before xs ys a.1 b (λ i y k. h (suc i) y k))
  where
    front : Above before x (xs ++ ys)
    front i y k = elim (at-append xs ys i y k) [
      | inl l ↦ a.0 i y l
      | inr r ↦ h 0 x refl r.0 y r.2
    ]

-- images rise where the images of two that rise do
pub ascends-map : {X Y : Type 0} (before : X → X → Bool) (above : Y → Y → Bool) (f : X → Y) (l : List X) → Ascends before l
    → ((x y : X) → before x y ≡ true → above (f x) (f y) ≡ true) → Ascends above (map f l)
ascends-map before above f [] a h = tt
ascends-map before above f (x ∷ l) a h = (
  λ i z k. let m = at-map_back f l i z k in subst (λ v. above (f x) v ≡ true) m.2 (h x m.0 (a.0 i m.0 m.1)),
  ascends-map before above f l a.1 h,
)

-- in a rising list a member stands once
pub ascends-once : {X : Type 0} (before : X → X → Bool) (l : List X) → ((x : X) → before x x ≡ false) → Ascends before l
    → (i j : ℕ) (x : X) → At l i x → At l j x → i ≡ j
ascends-once before [] n a i j x k m = absurd k
ascends-once before (y ∷ l) n a zero zero x k m = refl
ascends-once before (y ∷ l) n a zero (suc j) x k m = absurd (both_ways (before y x) (subst (λ z. before y z ≡ false) k (n y)) (a.0 j x m))
ascends-once before (y ∷ l) n a (suc i) zero x k m = absurd (both_ways (before y x) (subst (λ z. before y z ≡ false) m (n y)) (a.0 i x k))
ascends-once before (y ∷ l) n a (suc i) (suc j) x k m = ap suc (ascends-once before l n a.1 i j x k m)

-- the members of a list written backwards are its members
pub reverse-has : {X : Type 0} (l : List X) (i : ℕ) (x : X) → At (reverse l) i x → Has l x
reverse-has [] i x a = absurd a
reverse-has {X} (y ∷ l) i x a =
    elim (at-append (reverse l) (y ∷ []) i x (subst (λ (z : List X). At z i x) (reverse-append (y ∷ []) l) a)) [
      | inl b ↦ let m = reverse-has l i x b in (suc m.0, m.1)
      | inr b ↦ (0, one b.0 b.2)
    ]
  where
    one : (j : ℕ) → At (y ∷ []) j x → y ≡ x
    one zero e = e
    one (suc j) e = absurd e

-- a rising list written backwards falls
pub ascends-reverse : {X : Type 0} (before : X → X → Bool) (l : List X) → Ascends before l → Ascends (λ x y. before y x) (reverse l)
ascends-reverse before [] a = tt
ascends-reverse {X} before (x ∷ l) a =
    subst (λ (z : List X). Ascends (λ u v. before v u) z) (sym (reverse-append (x ∷ []) l))
    (ascends-append (λ u v. before v u) (reverse l) (x ∷ []) (ascends-reverse before l a.1) (λ i y m. absurd m, tt) above)
  where
    above : (i : ℕ) (y : X) → At (reverse l) i y → Above (λ u v. before v u) y (x ∷ [])
    above i y m zero z e = let h = reverse-has l i y m in subst (λ w. before w y ≡ true) e (a.0 h.0 y h.1)
    above i y m (suc j) z e = absurd e

-- the back of a rising list rises
pub ascends-back : {X : Type 0} (before : X → X → Bool) (xs ys : List X) → Ascends before (xs ++ ys) → Ascends before ys
ascends-back before [] ys a = a
ascends-back before (x ∷ xs) ys a = ascends-back before xs ys a.1

-- the front of a rising list rises
pub ascends-front : {X : Type 0} (before : X → X → Bool) (xs ys : List X) → Ascends before (xs ++ ys) → Ascends before xs
ascends-front before [] ys a = tt
ascends-front before (x ∷ xs) ys a = (λ i y m. a.0 i y (at-left xs ys i y m), ascends-front before xs ys a.1)

-- a member of the front comes before a member of the back
pub ascends-across : {X : Type 0} (before : X → X → Bool) (xs ys : List X) → Ascends before (xs ++ ys) → (i : ℕ) (x : X) → At xs i x → Above before x ys
ascends-across before [] ys a i x m j y k = absurd m
ascends-across before (z ∷ xs) ys a zero x m j y k = subst (λ v. before v y ≡ true) m (a.0 (length xs + j) y (at-right xs ys j y k))
ascends-across before (z ∷ xs) ys a (suc i) x m j y k = ascends-across before xs ys a.1 i x m j y k
