-- Which of two members of a list is before the other.
use Rattle.std.proofs.Common.{◌≡◌, ℕ, zero, suc, ◌<◌, ◌⊎◌, inl, inr, Bool, true, List, [], ◌∷◌, ◌++◌, length, map, filter, reverse, get_or, refl, sym, ap, ◌∙◌, subst, arith}
use Rattle.std.proofs.lemmas.Bool.{cases_Bool, true≢false}
use Rattle.std.proofs.lemmas.List.{reverse-append}
use Rattle.permutations.specs.Members.{is_member}
use Rattle.permutations.proofs.Members.{member-head, member-tail, member-cases, member-append_left, member-append_right, member-append_cases, member-reverse}
use Rattle.permutations.proofs.Arrangements.{member-at}
use Rattle.permutations.proofs.Filter.{filter-yes, filter-no, member-filter_parts, filter-member}
use Rattle.permutations.proofs.Places.{place-of}
use Rattle.permutations.proofs.Mapped.{member-map}
use Rattle.palm_tree.specs.Growing.{IsBefore}

-- a member at an earlier place stands before
pub before-places : (l : List ℕ) (i j : ℕ) → i < j → j < length l → IsBefore l (get_or l i 0) (get_or l j 0)
before-places [] i j a b = absurd (omega arith)
before-places (z ∷ l) i zero a b = absurd (omega arith)
before-places (z ∷ l) zero (suc j) a b = inl (refl, member-at l j 0 (omega arith))
before-places (z ∷ l) (suc i) (suc j) a b = inr (before-places l i j (omega arith) (omega arith))

-- who stands before another is a member, and the other too
pub before-first : (l : List ℕ) (x y : ℕ) → IsBefore l x y → is_member x l ≡ true
before-first [] x y b = absurd b
before-first (z ∷ l) x y (inl p) = subst (λ (k : ℕ). is_member k (z ∷ l) ≡ true) p.0 (member-head z l)
before-first (z ∷ l) x y (inr b) = member-tail x z l (before-first l x y b)

pub before-second : (l : List ℕ) (x y : ℕ) → IsBefore l x y → is_member y l ≡ true
before-second [] x y b = absurd b
before-second (z ∷ l) x y (inl p) = member-tail y z l p.1
before-second (z ∷ l) x y (inr b) = member-tail y z l (before-second l x y b)

-- in a list joined of two
pub before-left : (l k : List ℕ) (x y : ℕ) → IsBefore l x y → IsBefore (l ++ k) x y
before-left [] k x y b = absurd b
before-left (z ∷ l) k x y (inl p) = inl (p.0, member-append_left y l k p.1)
before-left (z ∷ l) k x y (inr b) = inr (before-left l k x y b)

pub before-right : (l k : List ℕ) (x y : ℕ) → IsBefore k x y → IsBefore (l ++ k) x y
before-right [] k x y b = b
before-right (z ∷ l) k x y b = inr (before-right l k x y b)

pub before-across : (l k : List ℕ) (x y : ℕ) → is_member x l ≡ true → is_member y k ≡ true → IsBefore (l ++ k) x y
before-across [] k x y a b = absurd (true≢false (sym a))
before-across (z ∷ l) k x y a b = by (member-cases x z l a) (before-across l k x y)
  where
    by : (z ≡ x) ⊎ (is_member x l ≡ true) → (is_member x l ≡ true → is_member y k ≡ true → IsBefore (l ++ k) x y) → IsBefore (z ∷ (l ++ k)) x y
    by (inl p) r = inl (p, member-append_right y l k b)
    by (inr p) r = inr (r p b)

pub before-cases : (l k : List ℕ) (x y : ℕ) → IsBefore (l ++ k) x y → IsBefore l x y ⊎ (IsBefore k x y ⊎ ((is_member x l ≡ true) × (is_member y k ≡ true)))
before-cases [] k x y b = inr (inl b)
before-cases (z ∷ l) k x y (inl p) = elim (member-append_cases y l k p.1) [
  | inl a ↦ inl (inl (p.0, a))
  | inr a ↦ inr (inr (subst (λ (i : ℕ). is_member i (z ∷ l) ≡ true) p.0 (member-head z l), a))
]
before-cases (z ∷ l) k x y (inr b) = elim (before-cases l k x y b) [
  | inl a ↦ inl (inr a)
  | inr r ↦ elim r [ inl a ↦ inr (inl a) | inr a ↦ inr (inr (member-tail x z l a.0, a.1)) ]
]

-- with one more at the end
pub before-push : (l : List ℕ) (z x y : ℕ) → IsBefore (l ++ z ∷ []) x y → IsBefore l x y ⊎ ((is_member x l ≡ true) × (z ≡ y))
before-push l z x y b = elim (before-cases l (z ∷ []) x y b) [
  | inl a ↦ inl a
  | inr r ↦ elim r [
    | inl a ↦ absurd (elim a [ inl p ↦ true≢false (sym p.1) | inr q ↦ q ])
    | inr a ↦ inr (a.0, elim (member-cases y z [] a.1) [ inl e ↦ e | inr m ↦ absurd (true≢false (sym m)) ])
  ]
]

-- in a list reversed
pub before-reverse : (l : List ℕ) (x y : ℕ) → IsBefore l x y → IsBefore (reverse l) y x
before-reverse [] x y b = absurd b
before-reverse (z ∷ l) x y (inl p) = subst (λ (k : List ℕ). IsBefore k y x) (sym (reverse-append (z ∷ []) l)) (before-across (reverse l) (z ∷ []) y x (member-reverse y l ∙ p.1) (subst (λ (k : ℕ). is_member k (z ∷ []) ≡ true) p.0 (member-head z [])))
before-reverse (z ∷ l) x y (inr b) = subst (λ (k : List ℕ). IsBefore k y x) (sym (reverse-append (z ∷ []) l)) (before-left (reverse l) (z ∷ []) y x (before-reverse l x y b))

-- among the members that pass a test
pub before-filter : (p : ℕ → Bool) (l : List ℕ) (x y : ℕ) → IsBefore l x y → p x ≡ true → p y ≡ true → IsBefore (filter p l) x y
before-filter p [] x y b s t = absurd b
before-filter p (z ∷ l) x y (inl q) s t = subst (λ (k : List ℕ). IsBefore k x y) (sym (filter-yes p z l (ap p q.0 ∙ s))) (inl (q.0, filter-member p l y q.1 t))
before-filter p (z ∷ l) x y (inr b) s t = elim (cases_Bool (p z)) [
  | inl a ↦ subst (λ (k : List ℕ). IsBefore k x y) (sym (filter-yes p z l a)) (inr (before-filter p l x y b s t))
  | inr a ↦ subst (λ (k : List ℕ). IsBefore k x y) (sym (filter-no p z l a)) (before-filter p l x y b s t)
]

pub filter-before : (p : ℕ → Bool) (l : List ℕ) (x y : ℕ) → IsBefore (filter p l) x y → IsBefore l x y
filter-before p [] x y b = absurd b
filter-before p (z ∷ l) x y b = elim (cases_Bool (p z)) [
  | inl a ↦ elim (subst (λ (k : List ℕ). IsBefore k x y) (filter-yes p z l a) b) [ inl q ↦ inl (q.0, (member-filter_parts p l y q.1).0) | inr c ↦ inr (filter-before p l x y c) ]
  | inr a ↦ inr (filter-before p l x y (subst (λ (k : List ℕ). IsBefore k x y) (filter-no p z l a) b))
]

pub before-map : (f : ℕ → ℕ) (l : List ℕ) (x y : ℕ) → IsBefore l x y → IsBefore (map f l) (f x) (f y)
before-map f [] x y b = absurd b
before-map f (z ∷ l) x y (inl p) = inl (ap f p.0, member-map f l y p.1)
before-map f (z ∷ l) x y (inr b) = inr (before-map f l x y b)

-- the places of two members of which one stands before the other
pub before-at : (l : List ℕ) (x y : ℕ) → IsBefore l x y → (i j : ℕ) × (i < j) × (j < length l) × (get_or l i 0 ≡ x) × (get_or l j 0 ≡ y)
before-at [] x y b = absurd b
before-at (z ∷ l) x y (inl p) = let w = place-of l y p.1 in (0, suc w.0, omega arith, omega (arith, w.1), p.0, w.2)
before-at (z ∷ l) x y (inr b) = let w = before-at l x y b in (suc w.0, suc w.1, omega (arith, w.2), omega (arith, w.3), w.4, w.5)
