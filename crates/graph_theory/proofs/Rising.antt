-- Rising lists: the first number is the least, and lists with the same members are equal.
use Rattle.std.proofs.Common.{◌≡◌, ℕ, zero, suc, ◌<◌, ◌≤◌, inl, inr, true, List, [], ◌∷◌, length, get_or, refl, sym, ap, ap₂, arith}
use Rattle.std.proofs.lemmas.Bool.{cases_eq}
use Rattle.permutations.specs.Members.{is_member}
use Rattle.permutations.proofs.Arrangements.{member-at}
use Rattle.permutations.proofs.Places.{place-of}
use Rattle.multigraph.specs.Part.{Rises}

-- the first number of a rising list is its least
pub rises-first : (l : List ℕ) (x : ℕ) → Rises l → is_member x l ≡ true → get_or l 0 0 ≤ x
rises-first l x r h = from (place-of l x h)
  where
    from : (i : ℕ) × (i < length l) × (get_or l i 0 ≡ x) → get_or l 0 0 ≤ x
    from w = elim (cases_eq w.0 0) [
      | inl e ↦ omega (arith, w.2, ap (λ (k : ℕ). get_or l k 0) e)
      | inr n ↦ omega (arith, w.2, r 0 w.0 (omega arith) w.1)
    ]

-- each number of the first list stands in the second
abbrev pub HasAll : List ℕ → List ℕ → Type 0
HasAll l m = (i : ℕ) → i < length l → (j : ℕ) × (j < length m) × (get_or m j 0 ≡ get_or l i 0)

-- the first numbers of two rising lists, each of which stands in the other
first-same : (x y : ℕ) (xs ys : List ℕ) → Rises (x ∷ xs) → Rises (y ∷ ys) → HasAll (x ∷ xs) (y ∷ ys) → HasAll (y ∷ ys) (x ∷ xs) → x ≡ y
first-same x y xs ys r q a b = both (at_least y ys q x (a 0 (omega arith))) (at_least x xs r y (b 0 (omega arith)))
  where
    at_least : (y : ℕ) (ys : List ℕ) → Rises (y ∷ ys) → (x : ℕ) → (j : ℕ) × (j < length (y ∷ ys)) × (get_or (y ∷ ys) j 0 ≡ x) → y ≤ x
    at_least y ys q x (zero, l, e) = omega (arith, e)
    at_least y ys q x (suc j, l, e) = omega (arith, e, q 0 (suc j) (omega arith) l)

    both : y ≤ x → x ≤ y → x ≡ y
    both l m = omega (arith, l, m)

-- what stands behind the first number of the one stands behind that of the other
rest-has : (x y : ℕ) (xs ys : List ℕ) → Rises (x ∷ xs) → x ≡ y → HasAll (x ∷ xs) (y ∷ ys) → HasAll xs ys
rest-has x y xs ys r e a i l = pick (a (suc i) (omega (arith, l)))
  where
    pick : (j : ℕ) × (j < length (y ∷ ys)) × (get_or (y ∷ ys) j 0 ≡ get_or xs i 0) → (j : ℕ) × (j < length ys) × (get_or ys j 0 ≡ get_or xs i 0)
    pick (zero, m, q) = absurd (omega (arith, e, q, r 0 (suc i) (omega arith) (omega (arith, l))))
    pick (suc j, m, q) = (j, omega (arith, m), q)

-- the numbers behind the first rise
pub rises-rest : (x : ℕ) (xs : List ℕ) → Rises (x ∷ xs) → Rises xs
rises-rest x xs r i j l m = r (suc i) (suc j) (omega (arith, l)) (omega (arith, m))

-- rising lists each of which has the numbers of the other are equal
pub rises-same : (l m : List ℕ) → Rises l → Rises m → HasAll l m → HasAll m l → l ≡ m
rises-same [] [] r q a b = refl
rises-same [] (y ∷ ys) r q a b = absurd (omega (arith, (b 0 (omega arith)).1))
rises-same (x ∷ xs) [] r q a b = absurd (omega (arith, (a 0 (omega arith)).1))
rises-same (x ∷ xs) (y ∷ ys) r q a b =
    let e : x ≡ y = first-same x y xs ys r q a b in
    ap₂ (λ (z : ℕ) (zs : List ℕ). z ∷ zs) e (rises-same xs ys (rises-rest x xs r) (rises-rest y ys q) (rest-has x y xs ys r e a) (rest-has y x ys xs q (sym e) b))

-- each member of the first list is one of the second
abbrev pub HasMembers : List ℕ → List ℕ → Type 0
HasMembers l m = (x : ℕ) → is_member x l ≡ true → is_member x m ≡ true

-- so are those of which each has the members of the other
pub members-same : (l m : List ℕ) → Rises l → Rises m → HasMembers l m → HasMembers m l → l ≡ m
members-same l m r q to from = rises-same l m r q (all l m to) (all m l from)
  where
    all : (l m : List ℕ) → HasMembers l m → HasAll l m
    all l m to i b = place-of m (get_or l i 0) (to (get_or l i 0) (member-at l i 0 b))
