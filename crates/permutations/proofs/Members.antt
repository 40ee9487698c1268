-- Membership and lists without repetition: appending, reversing, and cutting a list at a member.
use Rattle.std.proofs.Common.{◌≡◌, ◌≢◌, ℕ, ◌⊎◌, inl, inr, Bool, true, false, not, ◌||◌, ◌==◌, List, [], ◌∷◌, ◌++◌, reverse, refl, sym, ap, ◌∙◌, subst, arith}
use Rattle.std.proofs.lemmas.Bool.{cases_Bool, both_ways, false_from_ne_true, and_parts, or_cases, eq-eqb, eqb-true, true≢false}
use Rattle.std.proofs.lemmas.List.{reverse-append}
use Rattle.permutations.specs.Members.{is_member, is_distinct}

-- the first member is one
pub member-head : (x : ℕ) (xs : List ℕ) → is_member x (x ∷ xs) ≡ true
member-head x xs = grind (arith, eq-eqb x x refl)

-- a member of the rest is one
pub member-tail : (x y : ℕ) (xs : List ℕ) → is_member x xs ≡ true → is_member x (y ∷ xs) ≡ true
member-tail x y xs h = grind (arith, h)

-- a member is the first or one of the rest
pub member-cases : (x y : ℕ) (xs : List ℕ) → is_member x (y ∷ xs) ≡ true → (y ≡ x) ⊎ (is_member x xs ≡ true)
member-cases x y xs h = elim (or_cases (y == x) (is_member x xs) h) [ inl a ↦ inl (eqb-true y x a) | inr b ↦ inr b ]

-- who is no member differs from the first
pub no_member-head : (x y : ℕ) (xs : List ℕ) → is_member x (y ∷ xs) ≡ false → y ≢ x
no_member-head x y xs h e = both_ways (is_member x (y ∷ xs)) h (grind (arith, eq-eqb y x e))

-- who is no member is none of the rest
pub no_member-tail : (x y : ℕ) (xs : List ℕ) → is_member x (y ∷ xs) ≡ false → is_member x xs ≡ false
no_member-tail x y xs h = grind (arith, h)

-- who differs from the first and is none of the rest is no member
pub no_member-cons : (x y : ℕ) (xs : List ℕ) → y ≢ x → is_member x xs ≡ false → is_member x (y ∷ xs) ≡ false
no_member-cons x y xs n h = grind (arith, h, cases_Bool (y == x), eqb-true y x)

-- a member of two lists joined is one of either
pub member-append : (x : ℕ) (xs ys : List ℕ) → is_member x (xs ++ ys) ≡ (is_member x xs || is_member x ys)
member-append x [] ys = refl
member-append x (z ∷ xs) ys = grind (arith, member-append x xs ys)

-- a member of the front is one of the whole
pub member-append_left : (x : ℕ) (xs ys : List ℕ) → is_member x xs ≡ true → is_member x (xs ++ ys) ≡ true
member-append_left x xs ys h = grind (arith, member-append x xs ys)

-- a member of the back is one of the whole
pub member-append_right : (x : ℕ) (xs ys : List ℕ) → is_member x ys ≡ true → is_member x (xs ++ ys) ≡ true
member-append_right x xs ys h = grind (arith, member-append x xs ys)

-- a member of the whole is one of the front or one of the back
pub member-append_cases : (x : ℕ) (xs ys : List ℕ) → is_member x (xs ++ ys) ≡ true → (is_member x xs ≡ true) ⊎ (is_member x ys ≡ true)
member-append_cases x xs ys h = or_cases (is_member x xs) (is_member x ys) (sym (member-append x xs ys) ∙ h)

-- who is none of the front and none of the back is none of the whole
pub no_member-append : (x : ℕ) (xs ys : List ℕ) → is_member x xs ≡ false → is_member x ys ≡ false → is_member x (xs ++ ys) ≡ false
no_member-append x xs ys a b = grind (arith, member-append x xs ys)

-- who is none of the whole is none of the front
pub no_member-append_left : (x : ℕ) (xs ys : List ℕ) → is_member x (xs ++ ys) ≡ false → is_member x xs ≡ false
no_member-append_left x xs ys h = grind (arith, member-append x xs ys)

-- who is none of the whole is none of the back
pub no_member-append_right : (x : ℕ) (xs ys : List ℕ) → is_member x (xs ++ ys) ≡ false → is_member x ys ≡ false
no_member-append_right x xs ys h = grind (arith, member-append x xs ys)

-- a member of a list of two parts joined is one of them joined the other way
pub member-append_comm : (x : ℕ) (xs ys : List ℕ) → is_member x (xs ++ ys) ≡ is_member x (ys ++ xs)
member-append_comm x xs ys = grind (arith, member-append x xs ys, member-append x ys xs)

-- the first of a list without repetition is none of the rest
pub distinct-head : (x : ℕ) (xs : List ℕ) → is_distinct (x ∷ xs) ≡ true → is_member x xs ≡ false
distinct-head x xs h = grind (arith, and_parts (not (is_member x xs)) (is_distinct xs) h)

-- the rest of a list without repetition has none
pub distinct-tail : (x : ℕ) (xs : List ℕ) → is_distinct (x ∷ xs) ≡ true → is_distinct xs ≡ true
distinct-tail x xs h = (and_parts (not (is_member x xs)) (is_distinct xs) h).1

-- a new member in front makes no repetition
pub distinct-cons : (x : ℕ) (xs : List ℕ) → is_member x xs ≡ false → is_distinct xs ≡ true → is_distinct (x ∷ xs) ≡ true
distinct-cons x xs a b = grind (arith, a, b)

-- the front of a list without repetition has none
pub distinct-append_left : (xs ys : List ℕ) → is_distinct (xs ++ ys) ≡ true → is_distinct xs ≡ true
distinct-append_left [] ys h = refl
distinct-append_left (x ∷ xs) ys h =
    distinct-cons x xs (no_member-append_left x xs ys (distinct-head x (xs ++ ys) h)) (distinct-append_left xs ys (distinct-tail x (xs ++ ys) h))

-- the back of a list without repetition has none
pub distinct-append_right : (xs ys : List ℕ) → is_distinct (xs ++ ys) ≡ true → is_distinct ys ≡ true
distinct-append_right [] ys h = h
distinct-append_right (x ∷ xs) ys h = distinct-append_right xs ys (distinct-tail x (xs ++ ys) h)

-- front and back of a list without repetition have no member in common
pub distinct-append_apart : (xs ys : List ℕ) → is_distinct (xs ++ ys) ≡ true → (z : ℕ) → is_member z xs ≡ true → is_member z ys ≡ false
distinct-append_apart [] ys h z m = absurd (true≢false (sym m))
distinct-append_apart (x ∷ xs) ys h z m = elim (member-cases z x xs m) [
  | inl e ↦ subst (λ (w : ℕ). is_member w ys ≡ false) e (no_member-append_right x xs ys (distinct-head x (xs ++ ys) h))
  | inr t ↦ distinct-append_apart xs ys (distinct-tail x (xs ++ ys) h) z t
]

-- two lists without repetition and with no common member have none when they are joined
pub distinct-append : (xs ys : List ℕ) → is_distinct xs ≡ true → is_distinct ys ≡ true → ((z : ℕ) → is_member z xs ≡ true → is_member z ys ≡ false) → is_distinct (xs ++ ys) ≡ true
distinct-append [] ys a b c = b
distinct-append (x ∷ xs) ys a b c =
    distinct-cons x (xs ++ ys)
    (no_member-append x xs ys (distinct-head x xs a) (c x (member-head x xs)))
    (distinct-append xs ys (distinct-tail x xs a) b (λ z m. c z (member-tail z x xs m)))

-- joined the other way, two lists have no repetition either
pub distinct-append_comm : (xs ys : List ℕ) → is_distinct (xs ++ ys) ≡ true → is_distinct (ys ++ xs) ≡ true
distinct-append_comm xs ys h =
    distinct-append ys xs (distinct-append_right xs ys h) (distinct-append_left xs ys h)
    (λ z m. false_from_ne_true (is_member z xs) (λ t. both_ways (is_member z ys) (distinct-append_apart xs ys h z t) m))

-- the members of a list reversed are its members
pub member-reverse : (x : ℕ) (xs : List ℕ) → is_member x (reverse xs) ≡ is_member x xs
member-reverse x [] = refl
member-reverse x (y ∷ xs) =
    ap (is_member x) (reverse-append (y ∷ []) xs) ∙ member-append x (reverse xs) (y ∷ []) ∙
    (ap (λ (b : Bool). b || ((y == x) || false)) (member-reverse x xs) ∙ either (is_member x xs) (y == x))
  where
    either : (a b : Bool) → (a || (b || false)) ≡ (b || a)
    either a b = grind (arith, cases_Bool a, cases_Bool b)

-- a list without repetition has none when it is reversed
pub distinct-reverse : (xs : List ℕ) → is_distinct xs ≡ true → is_distinct (reverse xs) ≡ true
distinct-reverse [] h = refl
distinct-reverse (x ∷ xs) h =
    subst (λ (l : List ℕ). is_distinct l ≡ true) (sym (reverse-append (x ∷ []) xs))
    (distinct-append (reverse xs) (x ∷ []) (distinct-reverse xs (distinct-tail x xs h)) refl
    (λ z m. no_member-cons z x [] (λ e. both_ways (is_member z xs) (subst (λ (w : ℕ). is_member w xs ≡ false) e (distinct-head x xs h)) (sym (member-reverse z xs) ∙ m)) refl))

-- a list with x among its members, cut at the first x
pub record CutAt (x : ℕ) (xs : List ℕ) : Type 0 where
  pub front : List ℕ
  pub back : List ℕ
  pub is : xs ≡ front ++ x ∷ back
  pub first : is_member x front ≡ false

-- a list can be cut at each of its members
pub cut_at : (x : ℕ) (xs : List ℕ) → is_member x xs ≡ true → CutAt x xs
cut_at x [] h = absurd (true≢false (sym h))
cut_at x (y ∷ xs) h = elim (cases_Bool (y == x)) [
  | inl e ↦ record { front = []; back = xs; is = ap (λ (z : ℕ). z ∷ xs) (eqb-true y x e); first = refl }
  | inr n ↦ later (elim (or_cases (y == x) (is_member x xs) h) [ inl a ↦ absurd (both_ways (y == x) n a) | inr b ↦ cut_at x xs b ]) n
]
  where
    later : CutAt x xs → (y == x) ≡ false → CutAt x (y ∷ xs)
    later c n = record {
      front = y ∷ c.front;
      back = c.back;
      is = ap (λ (l : List ℕ). y ∷ l) c.is;
      first = grind (arith, n, c.first);
    }

-- three different numbers are a list without repetition
pub distinct-three : (a b c : ℕ) → a ≢ b → a ≢ c → b ≢ c → is_distinct (a ∷ b ∷ c ∷ []) ≡ true
distinct-three a b c ab ac bc = distinct-cons a (b ∷ c ∷ []) (no_member-cons a b (c ∷ []) (λ e. ab (sym e)) (no_member-cons a c [] (λ e. ac (sym e)) refl))
    (distinct-cons b (c ∷ []) (no_member-cons b c [] (λ e. bc (sym e)) refl) refl)

-- and so are four
pub distinct-four : (a b c d : ℕ) → a ≢ b → a ≢ c → a ≢ d → b ≢ c → b ≢ d → c ≢ d → is_distinct (a ∷ b ∷ c ∷ d ∷ []) ≡ true
distinct-four a b c d ab ac ad bc bd cd =
    distinct-cons a (b ∷ c ∷ d ∷ []) (no_member-cons a b (c ∷ d ∷ []) (λ e. ab (sym e)) (no_member-cons a c (d ∷ []) (λ e. ac (sym e)) (no_member-cons a d [] (λ e. ad (sym e)) refl)))
    (distinct-three b c d bc bd cd)
