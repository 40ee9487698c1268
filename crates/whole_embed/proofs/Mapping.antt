-- Lists of numbers under other numbers.
use Rattle.std.proofs.Common.{◌≡◌, ℕ, suc, inl, inr, Bool, true, false, List, [], ◌∷◌, length, map, filter, IsPermutation, refl, sym, ap, ap₂, ◌∙◌, subst, arith}
use Rattle.std.proofs.lemmas.Bool.{cases_Bool, both_ways}
use Rattle.permutations.specs.Members.{is_member, is_distinct}
use Rattle.permutations.specs.Cyclic.{first_or, IsTurn, FollowsAround}
use Rattle.permutations.proofs.Members.{member-head, member-tail}
use Rattle.permutations.proofs.Mapped.{member-map, map-member, distinct-map}
use Rattle.permutations.proofs.Arrangements.{permutation-member, permutation-distinct, permutation-from_members}
use Rattle.permutations.proofs.Turned.{IsTurn-map}
use Rattle.permutations.proofs.Filter.{filter-yes, filter-no, filter-ext}
use Rattle.permutations.proofs.CyclicOrder.{around-member}

abbrev head-of : List ℕ → ℕ
head-of [] = 0
head-of (x ∷ l) = x

abbrev tail-of : List ℕ → List ℕ
tail-of [] = []
tail-of (x ∷ l) = l

-- a list without members is empty
pub no-members : (l : List ℕ) → ((x : ℕ) → is_member x l ≡ true → ⊥) → l ≡ []
no-members [] h = refl
no-members (x ∷ l) h = absurd (h x (member-head x l))

-- two tests that imply each other are equal
pub same-test : (a b : Bool) → (a ≡ true → b ≡ true) → (b ≡ true → a ≡ true) → a ≡ b
same-test true b f h = sym (f refl)
same-test false true f h = h refl
same-test false false f h = refl

-- lists with equal images, where different members have different ones, are equal
pub map-injective : (f : ℕ → ℕ) (l k : List ℕ) → ((x y : ℕ) → is_member x l ≡ true → is_member y k ≡ true → f x ≡ f y → x ≡ y) → map f l ≡ map f k → l ≡ k
map-injective f [] [] h e = refl
map-injective f [] (y ∷ k) h e = absurd (let z : 0 ≡ suc (length (map f k)) = ap length e in omega (arith, z))
map-injective f (x ∷ l) [] h e = absurd (let z : suc (length (map f l)) ≡ 0 = ap length e in omega (arith, z))
map-injective f (x ∷ l) (y ∷ k) h e = ap₂ ◌∷◌ (h x y (member-head x l) (member-head y k) (ap head-of e)) (map-injective f l k (λ a b m n. h a b (member-tail a x l m) (member-tail b y k n)) (ap tail-of e))

-- there and back
pub map-back : (f g : ℕ → ℕ) (l : List ℕ) → ((x : ℕ) → is_member x l ≡ true → g (f x) ≡ x) → map g (map f l) ≡ l
map-back f g [] h = refl
map-back f g (x ∷ l) h = ap₂ ◌∷◌ (h x (member-head x l)) (map-back f g l (λ y m. h y (member-tail y x l m)))

-- a permutation under other numbers
pub permuted-map : (f : ℕ → ℕ) (l k : List ℕ) → is_distinct l ≡ true → ((x y : ℕ) → is_member x l ≡ true → is_member y l ≡ true → f x ≡ f y → x ≡ y) → IsPermutation l k → IsPermutation (map f l) (map f k)
permuted-map f l k d once p = permutation-from_members (map f l) (map f k) (distinct-map f l once d)
    (distinct-map f k (λ x y m n. once x y (sym (permutation-member l k x p) ∙ m) (sym (permutation-member l k y p) ∙ n)) (permutation-distinct l k p d))
    (λ z. same-test (is_member z (map f l)) (is_member z (map f k))
    (λ m. let w = map-member f l z m in subst (λ u. is_member u (map f k) ≡ true) w.2 (member-map f k w.0 (permutation-member l k w.0 p ∙ w.1)))
    (λ m. let w = map-member f k z m in subst (λ u. is_member u (map f l) ≡ true) w.2 (member-map f l w.0 (sym (permutation-member l k w.0 p) ∙ w.1))))

-- the first of the images
pub first-map : (f : ℕ → ℕ) (l k : List ℕ) → ((x : ℕ) → is_member x l ≡ is_member x k) → first_or 0 l ≡ first_or 0 k → first_or 0 (map f l) ≡ first_or 0 (map f k)
first-map f [] [] h e = refl
first-map f [] (y ∷ k) h e = absurd (both_ways (is_member y (y ∷ k)) (sym (h y)) (member-head y k))
first-map f (x ∷ l) [] h e = absurd (both_ways (is_member x (x ∷ l)) (h x) (member-head x l))
first-map f (x ∷ l) (y ∷ k) h e = ap f e

-- the images that pass a test, back
filter-back : (f g : ℕ → ℕ) (p : ℕ → Bool) (l : List ℕ) → ((x : ℕ) → is_member x l ≡ true → g (f x) ≡ x) → map g (filter p (map f l)) ≡ filter (λ x. p (f x)) l
filter-back f g p [] h = refl
filter-back f g p (x ∷ l) h = elim (cases_Bool (p (f x))) [
  | inl y ↦ ap (map g) (filter-yes p (f x) (map f l) y) ∙ ap₂ ◌∷◌ (h x (member-head x l)) (filter-back f g p l (λ z m. h z (member-tail z x l m))) ∙ sym (filter-yes (λ z. p (f z)) x l y)
  | inr n ↦ ap (map g) (filter-no p (f x) (map f l) n) ∙ filter-back f g p l (λ z m. h z (member-tail z x l m)) ∙ sym (filter-no (λ z. p (f z)) x l n)
]

-- what comes in an order around the images comes in that order around the list
pub around-back : (f g : ℕ → ℕ) (l k : List ℕ) → ((x : ℕ) → is_member x l ≡ true → g (f x) ≡ x) → FollowsAround (map f l) k → FollowsAround l (map g k)
around-back f g l k h a =
    subst (λ (z : List ℕ). IsTurn z (map g k)) (filter-back f g (λ x. is_member x k) l h ∙ filter-ext (λ x. is_member (f x) k) (λ x. is_member x (map g k)) l same)
    (IsTurn-map g (filter (λ x. is_member x k) (map f l)) k a)
  where
    same : (x : ℕ) → is_member x l ≡ true → is_member (f x) k ≡ is_member x (map g k)
    same x m = same-test (is_member (f x) k) (is_member x (map g k))
        (λ n. subst (λ z. is_member z (map g k) ≡ true) (h x m) (member-map g k (f x) n))
        (λ n.
        let w = map-member g k x n in
        let u = map-member f l w.0 (around-member (map f l) k w.0 a w.1) in
        let e : u.0 ≡ x = sym (h u.0 u.1) ∙ ap g u.2 ∙ w.2 in
        subst (λ z. is_member z k ≡ true) (sym u.2 ∙ ap f e) w.1)
