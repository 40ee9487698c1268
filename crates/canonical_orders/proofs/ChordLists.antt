-- Lists in which each member and the next one are related, and cyclic lists of this kind.
use Rattle.std.proofs.Common.{◌≡◌, ◌≢◌, ℕ, inl, inr, Bool, true, List, [], ◌∷◌, ◌++◌, map, refl, sym, ap, ◌∙◌, subst, append_assoc}
use Rattle.std.proofs.lemmas.List.{map-append, reverse-append}
use Rattle.std.proofs.lemmas.Bool.{both_ways, true≢false}
use Rattle.permutations.specs.Members.{is_member, is_distinct}
use Rattle.permutations.specs.Cyclic.{first_or, last_or}
use Rattle.permutations.specs.Relation.{IsEquivalence}
use Rattle.permutations.proofs.Members.{member-head, member-tail, member-cases, distinct-append_apart}
use Rattle.permutations.proofs.Mapped.{member-map}
use Rattle.canonical_orders.specs.Contours.{Successive}

-- all but the first
pub successive-tail : (R : ℕ → ℕ → Type 0) (a : ℕ) (l : List ℕ) → Successive R (a ∷ l) → Successive R l
successive-tail R a [] s = tt
successive-tail R a (b ∷ l) s = s.1

-- a first part
pub successive-left : (R : ℕ → ℕ → Type 0) (xs ys : List ℕ) → Successive R (xs ++ ys) → Successive R xs
successive-left R [] ys s = tt
successive-left R (a ∷ []) ys s = tt
successive-left R (a ∷ b ∷ l) ys s = (s.0, successive-left R (b ∷ l) ys s.1)

-- the rest
pub successive-right : (R : ℕ → ℕ → Type 0) (xs ys : List ℕ) → Successive R (xs ++ ys) → Successive R ys
successive-right R [] ys s = s
successive-right R (a ∷ xs) ys s = successive-right R xs ys (successive-tail R a (xs ++ ys) s)

-- two lists one after the other
pub successive-join : (R : ℕ → ℕ → Type 0) (xs : List ℕ) (a b : ℕ) (ys : List ℕ) → Successive R (xs ++ a ∷ []) → R a b → Successive R (b ∷ ys) → Successive R ((xs ++ a ∷ []) ++ b ∷ ys)
successive-join R [] a b ys s r t = (r, t)
successive-join R (c ∷ []) a b ys s r t = (s.0, (r, t))
successive-join R (c ∷ d ∷ xs) a b ys s r t = (s.0, successive-join R (d ∷ xs) a b ys s.1 r t)

-- two members, one after the other
pub successive-at : (R : ℕ → ℕ → Type 0) (xs : List ℕ) (a b : ℕ) (ys : List ℕ) → Successive R (xs ++ a ∷ b ∷ ys) → R a b
successive-at R xs a b ys s = (successive-right R xs (a ∷ b ∷ ys) s).0

-- the first member and the one after it
pub successive-first : (R : ℕ → ℕ → Type 0) (a : ℕ) (l : List ℕ) (v : ℕ) (k : List ℕ) → Successive R (a ∷ (l ++ v ∷ k)) → R a (first_or v l)
successive-first R a [] v k s = s.0
successive-first R a (b ∷ l) v k s = s.0

-- the member before z
pub successive-before : (R : ℕ → ℕ → Type 0) (a : ℕ) (l : List ℕ) (z : ℕ) (k : List ℕ) → Successive R ((a ∷ l) ++ z ∷ k) → (e : ℕ) × (is_member e (a ∷ l) ≡ true) × R e z
successive-before R a [] z k s = (a, member-head a [], s.0)
successive-before R a (b ∷ l) z k s = let w = successive-before R b l z k s.1 in (w.0, member-tail w.0 a (b ∷ l) w.1, w.2)

-- an equivalence that holds of each member and the next relates the first member to each
pub successive-related : (R : ℕ → ℕ → Type 0) (r : ℕ → ℕ → Bool) → IsEquivalence r → (a : ℕ) (l : List ℕ)
    → ((x y : ℕ) → is_member x (a ∷ l) ≡ true → is_member y (a ∷ l) ≡ true → R x y → r x y ≡ true)
    → Successive R (a ∷ l) → (e : ℕ) → is_member e (a ∷ l) ≡ true → r a e ≡ true
successive-related R r q a [] h s e m = elim (member-cases e a [] m) [
  | inl i ↦ subst (λ (z : ℕ). r a z ≡ true) i (q.reflexive a)
  | inr n ↦ absurd (true≢false (sym n))
]
successive-related R r q a (b ∷ l) h s e m = elim (member-cases e a (b ∷ l) m) [
  | inl i ↦ subst (λ (z : ℕ). r a z ≡ true) i (q.reflexive a)
  | inr n ↦ q.transitive a b e
      (h a b (member-head a (b ∷ l)) (member-tail b a (b ∷ l) (member-head b l)) s.0)
      (successive-related R r q b l (λ x y i j. h x y (member-tail x a (b ∷ l) i) (member-tail y a (b ∷ l) j)) s.1 e n)
]

-- each member and the next one are related, and the last and the first
abbrev pub Around : (ℕ → ℕ → Type 0) → List ℕ → Type 0
Around R [] = Unit {0}
Around R (a ∷ l) = Successive R (a ∷ (l ++ a ∷ []))

-- the list itself
pub around-successive : (R : ℕ → ℕ → Type 0) (l : List ℕ) → Around R l → Successive R l
around-successive R [] s = tt
around-successive R (a ∷ l) s = successive-left R (a ∷ l) (a ∷ []) s

-- its last member and its first
pub around-closing : (R : ℕ → ℕ → Type 0) (l : List ℕ) (u : ℕ) → Around R (l ++ u ∷ []) → R u (first_or u l)
around-closing R [] u s = s.0
around-closing R (a ∷ l) u s = successive-at R (a ∷ l) u a [] (subst (λ (k : List ℕ). Successive R (a ∷ k)) (append_assoc l (u ∷ []) (a ∷ [])) s)

-- written from its second member on
pub around-turn : (R : ℕ → ℕ → Type 0) (a : ℕ) (l : List ℕ) → Around R (a ∷ l) → Around R (l ++ a ∷ [])
around-turn R a [] s = s
around-turn R a (b ∷ l) s = successive-join R (b ∷ l) a b [] s.1 s.0 tt

-- the last member of a list that ends with x
pub last-append : (d : ℕ) (l : List ℕ) (x : ℕ) → last_or d (l ++ x ∷ []) ≡ x
last-append d l x = ap (first_or d) (reverse-append l (x ∷ []))

-- a list that is not empty, cut before its last member
pub last-cut : (a : ℕ) (l : List ℕ) → (front : List ℕ) × (a ∷ l ≡ front ++ last_or a (a ∷ l) ∷ [])
last-cut a [] = ([], refl)
last-cut a (b ∷ l) = let w = last-cut b l in (a ∷ w.0, ap (λ (k : List ℕ). a ∷ k) (w.1 ∙ ap (λ (z : ℕ). w.0 ++ z ∷ []) (sym (ap (λ (k : List ℕ). last_or a (a ∷ k)) w.1 ∙ last-append a (a ∷ w.0) (last_or b (b ∷ l))))))

-- the same for what follows a first member
pub last-cut_rest : (a b : ℕ) (l : List ℕ) → (front : List ℕ) × (b ∷ l ≡ front ++ last_or a (a ∷ b ∷ l) ∷ [])
last-cut_rest a b l = let w = last-cut b l in (w.0, w.1 ∙ ap (λ (z : ℕ). w.0 ++ z ∷ []) (sym (ap (λ (k : List ℕ). last_or a (a ∷ k)) w.1 ∙ last-append a (a ∷ w.0) (last_or b (b ∷ l)))))

-- from its last member to its first a cyclic list
pub around-closed : (R : ℕ → ℕ → Type 0) (a : ℕ) (l : List ℕ) → Successive R (a ∷ l) → R (last_or a (a ∷ l)) a → Around R (a ∷ l)
around-closed R a l s r =
    let w = last-cut a l in
    subst (λ (k : List ℕ). Successive R (k ++ a ∷ [])) (sym w.1)
    (successive-join R w.0 (last_or a (a ∷ l)) a [] (subst (Successive R) w.1 s) r tt)

-- the first member of a list that is not empty
pub first-append : (l : List ℕ) (v : ℕ) (k : List ℕ) (d : ℕ) → first_or d (l ++ v ∷ k) ≡ first_or v l
first-append [] v k d = refl
first-append (a ∷ l) v k d = refl

-- it is a member
pub first-member : (l : List ℕ) (v : ℕ) (k : List ℕ) → is_member (first_or v l) (l ++ v ∷ k) ≡ true
first-member [] v k = member-head v k
first-member (a ∷ l) v k = member-head a (l ++ v ∷ k)

-- the members of two parts of a list have different values, where no value comes twice
pub values-apart : (t : ℕ → ℕ) (xs ys : List ℕ) → is_distinct (map t (xs ++ ys)) ≡ true → (x y : ℕ) → is_member x xs ≡ true → is_member y ys ≡ true → t x ≢ t y
values-apart t xs ys d x y m n e = both_ways (is_member (t x) (map t ys))
    (distinct-append_apart (map t xs) (map t ys) (ap is_distinct (sym (map-append t xs ys)) ∙ d) (t x) (member-map t xs x m))
    (subst (λ (z : ℕ). is_member z (map t ys) ≡ true) (sym e) (member-map t ys y n))
