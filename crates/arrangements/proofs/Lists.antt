-- Equal lists as a test, tests of all members, members of filtered lists, and the next member of an increasing list.
use Rattle.std.proofs.Common.{◌≡◌, ℕ, zero, suc, ◌+◌, ◌<◌, ◌≤◌, ◌⊎◌, inl, inr, Bool, true, false, ◌==◌, List, [], ◌∷◌, ◌++◌, length, filter, take, drop, get_or, refl, sym, ap, ap₂, ◌∙◌, subst, arith, append_assoc, length-append}
use Rattle.std.proofs.lemmas.Bool.{cases_Bool, both_ways, and_parts, and_from, and_cases, eq-eqb, eqb-true, true≢false, true_from_ne_false}
use Rattle.std.proofs.lemmas.List.{take-append-drop, drop_more, take_at, reverse-append}
use Rattle.std.specs.List.{list_all}
use Rattle.permutations.specs.Members.{is_member, is_distinct}
use Rattle.permutations.specs.Cyclic.{first_or, last_or, successor}
use Rattle.permutations.proofs.Members.{member-head, member-tail, member-cases, member-append_left, member-append_right, member-append_cases, no_member-cons, distinct-head, distinct-tail, distinct-cons, distinct-append, CutAt, cut_at}
use Rattle.permutations.proofs.Successor.{successor-cut}
use Rattle.permutations.proofs.Filter.{filter-yes, filter-no}
use Rattle.choice_lists.proofs.Places.{At, Has, at-place, Ascends}
use Rattle.arrangements.specs.Arranged.{same_list}

-- a list is the same as itself
pub same-itself : (l : List ℕ) → same_list l l ≡ true
same-itself [] = refl
same-itself (x ∷ l) = and_from (x == x) (same_list l l) (eq-eqb x x refl) (same-itself l)

-- equal lists pass the test
pub equal-same : (l k : List ℕ) → l ≡ k → same_list l k ≡ true
equal-same l k e = subst (λ (z : List ℕ). same_list l z ≡ true) e (same-itself l)

-- lists that pass the test are equal
pub same-equal : (l k : List ℕ) → same_list l k ≡ true → l ≡ k
same-equal [] [] h = refl
same-equal [] (y ∷ k) h = absurd (true≢false (sym h))
same-equal (x ∷ l) [] h = absurd (true≢false (sym h))
same-equal (x ∷ l) (y ∷ k) h = let p = and_parts (x == y) (same_list l k) h in ap₂ (λ (u : ℕ) (v : List ℕ). u ∷ v) (eqb-true x y p.0) (same-equal l k p.1)

-- where all pass a member does
pub all-passes : (p : ℕ → Bool) (l : List ℕ) (x : ℕ) → list_all p l ≡ true → is_member x l ≡ true → p x ≡ true
all-passes p [] x h m = absurd (true≢false (sym m))
all-passes p (y ∷ l) x h m = let s = and_parts (p y) (list_all p l) h in elim (member-cases x y l m) [
  | inl e ↦ subst (λ (z : ℕ). p z ≡ true) e s.0
  | inr t ↦ all-passes p l x s.1 t
]

-- where each member passes all do
pub passes-all : (p : ℕ → Bool) (l : List ℕ) → ((x : ℕ) → is_member x l ≡ true → p x ≡ true) → list_all p l ≡ true
passes-all p [] h = refl
passes-all p (y ∷ l) h = and_from (p y) (list_all p l) (h y (member-head y l)) (passes-all p l (λ x m. h x (member-tail x y l m)))

-- where not all pass some member fails
pub some-fails : (p : ℕ → Bool) (l : List ℕ) → list_all p l ≡ false → (x : ℕ) × (is_member x l ≡ true) × (p x ≡ false)
some-fails p [] h = absurd (true≢false h)
some-fails p (y ∷ l) h = elim (and_cases (p y) (list_all p l) h) [
  | inl f ↦ (y, member-head y l, f)
  | inr f ↦ let r = some-fails p l f in (r.0, member-tail r.0 y l r.1, r.2)
]

-- a list cut before a place
pub cut-place : (l : List ℕ) (i : ℕ) → i < length l → l ≡ take i l ++ get_or l i 0 ∷ drop (i + 1) l
cut-place l i h = sym (take-append-drop i l) ∙ ap (λ (z : List ℕ). take i l ++ z) (drop_more l i 0 h)

-- what is at the cut
pub place-cut : (p : List ℕ) (e : ℕ) (q : List ℕ) → get_or (p ++ e ∷ q) (length p) 0 ≡ e
place-cut [] e q = refl
place-cut (x ∷ p) e q = place-cut p e q

-- what is before the cut
pub take-cut : (p q : List ℕ) → take (length p) (p ++ q) ≡ p
take-cut p q = take_at p q (length p) refl

-- a place within the front is one of the whole list
pub within-cut : (p : List ℕ) (e : ℕ) (q : List ℕ) → length p < length (p ++ e ∷ q)
within-cut p e q = omega (arith, length-append p (e ∷ q))

-- one member more at the end of the front
pub move-cut : (p : List ℕ) (e : ℕ) (q : List ℕ) → (p ++ e ∷ []) ++ q ≡ p ++ e ∷ q
move-cut p e q = append_assoc p (e ∷ []) q

-- a member that passes is in the filtered list
pub has-filter : {X : Type 0} (p : X → Bool) (l : List X) (x : X) → Has l x → p x ≡ true → Has (filter p l) x
has-filter p [] x h t = absurd h.1
has-filter {X} p (y ∷ l) x h t = at h (has-filter p l x)
  where
    later : Has (filter p l) x → Has (filter p (y ∷ l)) x
    later m = elim (cases_Bool (p y)) [
      | inl e ↦ subst (λ (z : List X). Has z x) (sym (filter-yes p y l e)) (suc m.0, m.1)
      | inr e ↦ subst (λ (z : List X). Has z x) (sym (filter-no p y l e)) m
    ]

    at : Has (y ∷ l) x → (Has l x → p x ≡ true → Has (filter p l) x) → Has (filter p (y ∷ l)) x
    at (zero, e) r = subst (λ (z : List X). Has z x) (sym (filter-yes p y l (subst (λ (z : X). p z ≡ true) (sym e) t))) (0, e)
    at (suc i, e) r = later (r (i, e) t)

-- a member of the filtered list is one of the list and passes
pub filter-has : {X : Type 0} (p : X → Bool) (l : List X) (x : X) → Has (filter p l) x → Has l x × (p x ≡ true)
filter-has p [] x h = absurd h.1
filter-has {X} p (y ∷ l) x h = elim (cases_Bool (p y)) [
  | inl e ↦ here e (filter-has p l x) (subst (λ (z : List X). Has z x) (filter-yes p y l e) h)
  | inr e ↦ let r = filter-has p l x (subst (λ (z : List X). Has z x) (filter-no p y l e) h) in ((suc r.0.0, r.0.1), r.1)
]
  where
    here : p y ≡ true → (Has (filter p l) x → Has l x × (p x ≡ true)) → Has (y ∷ filter p l) x → Has (y ∷ l) x × (p x ≡ true)
    here e g (zero, m) = ((0, m), subst (λ (z : X). p z ≡ true) m e)
    here e g (suc i, m) = let r = g (i, m) in ((suc r.0.0, r.0.1), r.1)

-- in an increasing list a member comes before those at later places
pub ascends-at : {X : Type 0} (before : X → X → Bool) (l : List X) → Ascends before l → (i j : ℕ) (x y : X) → i < j → At l i x → At l j y → before x y ≡ true
ascends-at before [] a i j x y h m n = absurd m
ascends-at before (z ∷ l) a zero zero x y h m n = absurd (omega (arith, h))
ascends-at {X} before (z ∷ l) a zero (suc j) x y h m n = subst (λ (v : X). before v y ≡ true) m (a.0 j y n)
ascends-at before (z ∷ l) a (suc i) zero x y h m n = absurd (omega (arith, h))
ascends-at before (z ∷ l) a (suc i) (suc j) x y h m n = ascends-at before l a.1 i j x y (omega (arith, h)) m n

-- in an increasing list, where x comes before y and no member between them, y is at the next place
pub next-place : {X : Type 0} (before : X → X → Bool) (l : List X) → ((x y : X) → before x y ≡ true → before y x ≡ false) → Ascends before l
    → (i : ℕ) (x y : X) → At l i x → Has l y → before x y ≡ true → ((z : X) → Has l z → before x z ≡ true → before z y ≡ true → ⊥) → At l (i + 1) y
next-place before [] p a i x y m h b n = absurd m
next-place {X} before (w ∷ l) p a i x y m h b n = at i h m (λ j k q. next-place before l p a.1 j x y k q b (λ z v t r. n z (suc v.0, v.1) t r))
  where
    never : (z : X) → before z z ≡ true → ⊥
    never z t = both_ways (before z z) (p z z t) t

    -- y follows directly, or a member between them is first after x
    first : (k : List X) → Ascends before k → Has k y → ((z : X) → Has k z → before z y ≡ true → ⊥) → At k 0 y
    first [] c h q = absurd h.1
    first (v ∷ k) c (zero, e) q = e
    first (v ∷ k) c (suc j, e) q = absurd (q v (0, refl) (c.0 j y e))

    at : (i : ℕ) → Has (w ∷ l) y → At (w ∷ l) i x → ((j : ℕ) → At l j x → Has l y → At l (j + 1) y) → At (w ∷ l) (i + 1) y
    at zero (zero, e) m r = absurd (never y (subst (λ (z : X). before z y ≡ true) (sym m ∙ e) b))
    at zero (suc j, e) m r = first l a.1 (j, e) (λ z k t. n z (suc k.0, k.1) (subst (λ (v : X). before v z ≡ true) m (a.0 k.0 z k.1)) t)
    at (suc i) (zero, e) m r = absurd (both_ways (before y x) (p x y b) (subst (λ (v : X). before v x ≡ true) e (a.0 i x m)))
    at (suc i) (suc j, e) m r = at-place (w ∷ l) (suc (i + 1)) (suc i + 1) y (omega arith) (r i m (j, e))

-- a list without repetition is no longer than one that has all its members
pub no-longer : (l k : List ℕ) → is_distinct l ≡ true → ((x : ℕ) → is_member x l ≡ true → is_member x k ≡ true) → length l ≤ length k
no-longer [] k d m = omega arith
no-longer (y ∷ l) k d m = at (cut_at y k (m y (member-head y l))) (λ c. no-longer l c (distinct-tail y l d))
  where
    at : CutAt y k → ((c : List ℕ) → ((x : ℕ) → is_member x l ≡ true → is_member x c ≡ true) → length l ≤ length c) → length (y ∷ l) ≤ length k
    at c fewer = omega (arith, ap length c.is, length-append c.front (y ∷ c.back), length-append c.front c.back, fewer (c.front ++ c.back) rest)
      where
        rest : (x : ℕ) → is_member x l ≡ true → is_member x (c.front ++ c.back) ≡ true
        rest x n = elim (member-append_cases x c.front (y ∷ c.back) (subst (λ (z : List ℕ). is_member x z ≡ true) c.is (m x (member-tail x y l n)))) [
          | inl a ↦ member-append_left x c.front c.back a
          | inr b ↦ elim (member-cases x y c.back b) [
            | inl e ↦ absurd (both_ways (is_member y l) (distinct-head y l d) (subst (λ (z : ℕ). is_member z l ≡ true) (sym e) n))
            | inr t ↦ member-append_right x c.front c.back t
          ]
        ]

-- where it is as long it has all members of the other
pub members-back : (l k : List ℕ) → is_distinct l ≡ true → ((x : ℕ) → is_member x l ≡ true → is_member x k ≡ true) → length k ≤ length l → (x : ℕ) → is_member x k ≡ true → is_member x l ≡ true
members-back l k d m h x n = true_from_ne_false (is_member x l) (λ f. absurd (omega (arith, no-longer (x ∷ l) k (distinct-cons x l f d) more)))
  where
    more : (z : ℕ) → is_member z (x ∷ l) ≡ true → is_member z k ≡ true
    more z q = elim (member-cases z x l q) [ inl e ↦ subst (λ (v : ℕ). is_member v k ≡ true) e n | inr t ↦ m z t ]

-- a member of the one list that is none of the other, or there is none
pub missing : (k l : List ℕ) → ((x : ℕ) × (is_member x k ≡ true) × (is_member x l ≡ false)) ⊎ ((x : ℕ) → is_member x k ≡ true → is_member x l ≡ true)
missing [] l = inr (λ x m. absurd (true≢false (sym m)))
missing (y ∷ k) l = elim (cases_Bool (is_member y l)) [
  | inr n ↦ inl (y, member-head y k, n)
  | inl t ↦ elim (missing k l) [
    | inl w ↦ inl (w.0, member-tail w.0 y k w.1, w.2)
    | inr a ↦ inr (λ x m. elim (member-cases x y k m) [ inl e ↦ subst (λ (z : ℕ). is_member z l ≡ true) e t | inr r ↦ a x r ])
  ]
]

-- one member more at the end makes no repetition
pub distinct-more : (l : List ℕ) (e : ℕ) → is_distinct l ≡ true → is_member e l ≡ false → is_distinct (l ++ e ∷ []) ≡ true
distinct-more l e d n = distinct-append l (e ∷ []) d refl (λ z m. no_member-cons z e [] (λ q. both_ways (is_member e l) n (subst (λ (v : ℕ). is_member v l ≡ true) (sym q) m)) refl)

-- a member of a list with one more at the end
pub member-more : (l : List ℕ) (e x : ℕ) → is_member x (l ++ e ∷ []) ≡ true → (is_member x l ≡ true) ⊎ (e ≡ x)
member-more l e x m = elim (member-append_cases x l (e ∷ []) m) [
  | inl a ↦ inl a
  | inr b ↦ elim (member-cases x e [] b) [ inl q ↦ inr q | inr n ↦ absurd (true≢false (sym n)) ]
]

-- the last member is at or after each place where a list can be cut
pub last-after : (a : List ℕ) (x : ℕ) (b front : List ℕ) (t : ℕ) → a ++ x ∷ b ≡ front ++ t ∷ [] → is_member t (x ∷ b) ≡ true
last-after [] x b front t h = subst (λ (z : List ℕ). is_member t z ≡ true) (sym h) (member-append_right t front (t ∷ []) (member-head t []))
last-after (y ∷ a) x b [] t h = absurd (omega (arith, ap length h, length-append a (x ∷ b)))
last-after (y ∷ a) x b (z ∷ front) t h = let r : a ++ x ∷ b ≡ front ++ t ∷ [] = cc in last-after a x b front t r

-- the last of a list with one more at the end
pub last_or-more : (front : List ℕ) (t d : ℕ) → last_or d (front ++ t ∷ []) ≡ t
last_or-more front t d = ap (first_or d) (reverse-append front (t ∷ []))

-- where what follows t around a list is not in its front, which has t, the front ends with t and that comes next
pub comes-next : (front rest : List ℕ) (t e : ℕ) → is_distinct (front ++ rest) ≡ true → is_member t front ≡ true → successor (front ++ rest) t ≡ e → is_member e front ≡ false
    → (r : List ℕ) × (rest ≡ e ∷ r)
comes-next front rest t e d m h n = at c.back rest (sym (ap (λ (z : List ℕ). successor (z ++ rest) t) c.is ∙ ap (λ (z : List ℕ). successor z t) (append_assoc c.front (t ∷ c.back) rest) ∙ successor-cut c.front t (c.back ++ rest) c.first) ∙ h) inside
  where
    c : CutAt t front
    c = cut_at t front m

    inside : (x : ℕ) → is_member x (c.front ++ t ∷ c.back) ≡ true → is_member x front ≡ true
    inside x k = subst (λ (z : List ℕ). is_member x z ≡ true) (sym c.is) k

    among : (u : List ℕ) (v : List ℕ) → is_member (first_or t u) (u ++ t ∷ v) ≡ true
    among [] v = member-head t v
    among (x ∷ u) v = member-head x (u ++ t ∷ v)

    at : (back rest : List ℕ) → first_or (first_or t c.front) (back ++ rest) ≡ e → ((x : ℕ) → is_member x (c.front ++ t ∷ back) ≡ true → is_member x front ≡ true) → (r : List ℕ) × (rest ≡ e ∷ r)
    at (y ∷ back) rest q k = absurd (both_ways (is_member e front) n (subst (λ (z : ℕ). is_member z front ≡ true) q (k y (member-append_right y c.front (t ∷ y ∷ back) (member-tail y t (y ∷ back) (member-head y back))))))
    at [] [] q k = absurd (both_ways (is_member e front) n (subst (λ (z : ℕ). is_member z front ≡ true) q (k (first_or t c.front) (among c.front []))))
    at [] (y ∷ rest) q k = (rest, ap (λ (z : ℕ). z ∷ rest) q)
