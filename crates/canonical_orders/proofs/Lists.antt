-- Lists: the last member, members in turn, and images of the members.
use Rattle.std.proofs.Common.{◌≡◌, ◌⊎◌, ℕ, inl, inr, true, false, List, [], ◌∷◌, ◌++◌, All, map, reverse, refl, sym, ap, ◌∙◌, subst, append_assoc}
use Rattle.std.proofs.lemmas.Bool.{both_ways, true≢false, false_from_ne_true}
use Rattle.std.proofs.lemmas.List.{reverse-append}
use Rattle.std.proofs.lemmas.List.Elements.{All-nil, All-cons}
use Rattle.permutations.specs.Members.{is_member, is_distinct}
use Rattle.permutations.specs.Cyclic.{first_or, last_or}
use Rattle.permutations.proofs.Members.{member-head, member-tail, member-cases, no_member-head, no_member-tail, distinct-head, distinct-tail, distinct-cons}
use Rattle.permutations.proofs.Mapped.{member-map}
use Rattle.permutations.proofs.Successor.{first_or-append}
use Rattle.canonical_orders.specs.Contours.{Successive}

-- the last member of a list that ends in z
pub last-append : (d : ℕ) (k : List ℕ) (z : ℕ) → last_or d (k ++ z ∷ []) ≡ z
last-append d k z = ap (first_or d) (reverse-append k (z ∷ []))

-- the last of a list with a first member is that of the rest, or this member
pub last-cons : (d x : ℕ) (r : List ℕ) → last_or d (x ∷ r) ≡ last_or x r
last-cons d x r = ap (first_or d) (reverse-append (x ∷ []) r) ∙ first_or-append d (reverse r) (x ∷ [])

-- the last member after a cut
pub last-cut : (d : ℕ) (a : List ℕ) (x : ℕ) (b : List ℕ) → last_or d (a ++ x ∷ b) ≡ last_or x b
last-cut d [] x b = last-cons d x b
last-cut d (y ∷ a) x b = last-cons d y (a ++ x ∷ b) ∙ last-cut y a x b

-- the last member is one
pub last-member : (x : ℕ) (r : List ℕ) → is_member (last_or x r) (x ∷ r) ≡ true
last-member x [] = member-head x []
last-member x (y ∷ r) = subst (λ (z : ℕ). is_member z (x ∷ y ∷ r) ≡ true) (sym (last-cons x y r)) (member-tail (last_or y r) x (y ∷ r) (last-member y r))

-- a list with a first member ends in its last one
pub ends-with : (x : ℕ) (r : List ℕ) → (k : List ℕ) × (x ∷ r ≡ k ++ last_or x r ∷ [])
ends-with x [] = ([], refl)
ends-with x (y ∷ r) = let w = ends-with y r in (x ∷ w.0, ap (λ (l : List ℕ). x ∷ l) w.1 ∙ ap (λ (z : ℕ). x ∷ (w.0 ++ z ∷ [])) (sym (last-cons x y r)))

-- the first of a list that goes on with z is one of it or z
pub first-member : (z : ℕ) (a : List ℕ) → is_member (first_or z a) (a ++ z ∷ []) ≡ true
first-member z [] = member-head z []
first-member z (x ∷ a) = member-head x (a ++ z ∷ [])

-- another relation of the members in turn
pub turn-map : (R S : ℕ → ℕ → Type 0) (l : List ℕ) → ((x y : ℕ) → is_member x l ≡ true → is_member y l ≡ true → R x y → S x y) → Successive R l → Successive S l
turn-map R S [] f s = tt
turn-map R S (a ∷ []) f s = tt
turn-map R S (a ∷ b ∷ l) f s = (
  f a b (member-head a (b ∷ l)) (member-tail b a (b ∷ l) (member-head b l)) s.0,
  turn-map R S (b ∷ l) (λ x y p q. f x y (member-tail x a (b ∷ l) p) (member-tail y a (b ∷ l) q)) s.1,
)

-- images of members in turn
pub turn-image : (R S : ℕ → ℕ → Type 0) (f : ℕ → ℕ) (l : List ℕ) → ((x y : ℕ) → is_member x l ≡ true → is_member y l ≡ true → R x y → S (f x) (f y)) → Successive R l → Successive S (map f l)
turn-image R S f [] g s = tt
turn-image R S f (a ∷ []) g s = tt
turn-image R S f (a ∷ b ∷ l) g s = (
  g a b (member-head a (b ∷ l)) (member-tail b a (b ∷ l) (member-head b l)) s.0,
  turn-image R S f (b ∷ l) (λ x y p q. g x y (member-tail x a (b ∷ l) p) (member-tail y a (b ∷ l) q)) s.1,
)

-- a member after the first has one before it
pub turn-before : (R : ℕ → ℕ → Type 0) (x : ℕ) (l : List ℕ) (e : ℕ) → Successive R (x ∷ l) → is_member e l ≡ true → (c : ℕ) × (is_member c (x ∷ l) ≡ true) × R c e
turn-before R x [] e s h = absurd (true≢false (sym h))
turn-before R x (y ∷ l) e s h = elim (member-cases e y l h) [
  | inl q ↦ (x, member-head x (y ∷ l), subst (R x) q s.0)
  | inr q ↦ let w = turn-before R y l e s.1 q in (w.0, member-tail w.0 x (y ∷ l) w.1, w.2)
]

-- a member is the last or has one after it
pub turn-after : (R : ℕ → ℕ → Type 0) (x : ℕ) (l : List ℕ) (e : ℕ) → Successive R (x ∷ l) → is_member e (x ∷ l) ≡ true → (e ≡ last_or x l) ⊎ ((d : ℕ) × (is_member d l ≡ true) × R e d)
turn-after R x [] e s h = elim (member-cases e x [] h) [ inl q ↦ inl (sym q) | inr q ↦ absurd (true≢false (sym q)) ]
turn-after R x (y ∷ l) e s h = elim (member-cases e x (y ∷ l) h) [
  | inl q ↦ inr (y, member-head y l, subst (λ (z : ℕ). R z y) q s.0)
  | inr q ↦ elim (turn-after R y l e s.1 q) [
    | inl z ↦ inl (z ∙ sym (last-cons x y l))
    | inr w ↦ inr (w.0, member-tail w.0 y l w.1, w.2)
  ]
]

-- what holds of the last, and of each member where it holds of the next, holds of all
pub turn-backward : (R : ℕ → ℕ → Type 0) (P : ℕ → Type 0) (x : ℕ) (l : List ℕ) → Successive R (x ∷ l) → P (last_or x l) → ((c d : ℕ) → is_member c (x ∷ l) ≡ true → is_member d l ≡ true → R c d → P d → P c) → (e : ℕ) → is_member e (x ∷ l) ≡ true → P e
turn-backward R P x [] s p f e h = elim (member-cases e x [] h) [ inl q ↦ subst P q p | inr q ↦ absurd (true≢false (sym q)) ]
turn-backward R P x (y ∷ l) s p f e h =
    let later : (c : ℕ) → is_member c (y ∷ l) ≡ true → P c = turn-backward R P y l s.1 (subst P (last-cons x y l) p) (λ c d m n r q. f c d (member-tail c x (y ∷ l) m) (member-tail d y l n) r q) in
    elim (member-cases e x (y ∷ l) h) [
      | inl q ↦ subst P q (f x y (member-head x (y ∷ l)) (member-head y l) s.0 (later y (member-head y l)))
      | inr q ↦ later e q
    ]

-- what holds of the first, and of each member where it holds of the one before, holds of all
pub turn-forward : (R : ℕ → ℕ → Type 0) (P : ℕ → Type 0) (x : ℕ) (l : List ℕ) → Successive R (x ∷ l) → P x → ((c d : ℕ) → R c d → P c → P d) → (e : ℕ) → is_member e (x ∷ l) ≡ true → P e
turn-forward R P x [] s p f e h = elim (member-cases e x [] h) [ inl q ↦ subst P q p | inr q ↦ absurd (true≢false (sym q)) ]
turn-forward R P x (y ∷ l) s p f e h = elim (member-cases e x (y ∷ l) h) [
  | inl q ↦ subst P q p
  | inr q ↦ turn-forward R P y l s.1 (f x y s.0 p) f e q
]

-- where images have no repetition, members with one image are equal
pub image-once : (f : ℕ → ℕ) (l : List ℕ) → is_distinct (map f l) ≡ true → (x y : ℕ) → is_member x l ≡ true → is_member y l ≡ true → f x ≡ f y → x ≡ y
image-once f [] d x y h k e = absurd (true≢false (sym h))
image-once f (a ∷ l) d x y h k e = elim (member-cases x a l h) [
  | inl p ↦ elim (member-cases y a l k) [
    | inl q ↦ sym p ∙ q
    | inr q ↦ absurd (both_ways (is_member (f a) (map f l)) (distinct-head (f a) (map f l) d) (subst (λ (z : ℕ). is_member z (map f l) ≡ true) (sym e ∙ ap f (sym p)) (member-map f l y q)))
  ]
  | inr p ↦ elim (member-cases y a l k) [
    | inl q ↦ absurd (both_ways (is_member (f a) (map f l)) (distinct-head (f a) (map f l) d) (subst (λ (z : ℕ). is_member z (map f l) ≡ true) (e ∙ ap f (sym q)) (member-map f l x p)))
    | inr q ↦ image-once f l (distinct-tail (f a) (map f l) d) x y p q e
  ]
]

-- and the list has none either
pub image-distinct : (f : ℕ → ℕ) (l : List ℕ) → is_distinct (map f l) ≡ true → is_distinct l ≡ true
image-distinct f [] d = refl
image-distinct f (a ∷ l) d = distinct-cons a l (false_from_ne_true (is_member a l) (λ m. both_ways (is_member (f a) (map f l)) (distinct-head (f a) (map f l) d) (member-map f l a m))) (image-distinct f l (distinct-tail (f a) (map f l) d))

-- images of images
pub map-through : (f g k : ℕ → ℕ) (l : List ℕ) → ((x : ℕ) → is_member x l ≡ true → f (g x) ≡ k x) → map f (map g l) ≡ map k l
map-through f g k [] h = refl
map-through f g k (x ∷ l) h = ap (λ (z : ℕ). z ∷ map f (map g l)) (h x (member-head x l)) ∙ ap (λ (r : List ℕ). k x ∷ r) (map-through f g k l (λ z m. h z (member-tail z x l m)))

-- a list cut twice, read with its second part as one
pub cut-between : (f : List ℕ) (z : ℕ) (b : List ℕ) → (f ++ z ∷ []) ++ b ≡ f ++ z ∷ b
cut-between f z b = append_assoc f (z ∷ []) b

-- a list without its first member
rest_of : List ℕ → List ℕ
rest_of [] = []
rest_of (x ∷ l) = l

-- a list has one rest after a member that is not in the part before it
pub cut-rest : (x : ℕ) (a b k d : List ℕ) → is_member x a ≡ false → is_member x k ≡ false → a ++ x ∷ b ≡ k ++ x ∷ d → b ≡ d
unfolding rest_of
cut-rest x [] b [] d h i e = ap rest_of e
cut-rest x [] b (y ∷ k) d h i e = absurd (no_member-head x y k i (sym (ap (first_or 0) e)))
cut-rest x (y ∷ a) b [] d h i e = absurd (no_member-head x y a h (ap (first_or 0) e))
cut-rest x (y ∷ a) b (z ∷ k) d h i e = cut-rest x a b k d (no_member-tail x y a h) (no_member-tail x z k i) (ap rest_of e)

-- what holds of each member holds of all
pub member-all : (P : ℕ → Type 0) (l : List ℕ) → ((x : ℕ) → is_member x l ≡ true → P x) → All P l
member-all P [] f = All-nil P
member-all P (x ∷ l) f = All-cons P x l (f x (member-head x l)) (member-all P l (λ z m. f z (member-tail z x l m)))
