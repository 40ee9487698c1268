-- The possible choices of a bond and of a rigid node: in order, numbered, the last the mirror image of the first.
use Rattle.std.proofs.Common.{◌≡◌, ◌≢◌, ℕ, zero, suc, ◌+◌, ◌*◌, ◌<◌, ◌≤◌, ◌↔◌, ◌⊎◌, inl, inr, Bool, true, false, nat_lt, List, [], ◌∷◌, ◌++◌, length, reverse, IsPermutation, refl, sym, ap, ◌∙◌, subst, arith}
use Rattle.std.proofs.lemmas.Bool.{cases_Bool, both_ways, lt-ltb, le-ltb, ltb-true, eq-eqb}
use Rattle.std.proofs.lemmas.List.{length-map, length-reverse, reverse-reverse, reverse-append}
use Rattle.std.proofs.lemmas.List.Sorted.{IsPermutation-refl, IsPermutation-cons, IsPermutation-reverse, IsPermutation-trans, length_permutation}
use mathlib.Core.Path.{fun_ext}
use Rattle.permutations.specs.Members.{is_member, is_distinct}
use Rattle.permutations.specs.Cyclic.{first_or, last_or, from_least}
use Rattle.permutations.proofs.Members.{member-head, member-reverse, distinct-head, distinct-tail}
use Rattle.permutations.proofs.NormalForm.{mirror-from_least}
use Rattle.choice_lists.specs.Order.{IsRising, IsAt, Lists, lexicographic, is_before}
use Rattle.choice_lists.specs.Arrangements.{factorial, arrangements, factorial_number, IsNextArrangement}
use Rattle.choice_lists.specs.Choices.{mirror_choice, IsBondChoice, bond_choices, rigid_choices, IsChoiceList}
use Rattle.choice_lists.specs.Products.{IsFirst, IsLast}
use Rattle.choice_lists.proofs.Places.{At, Has, at-is, at-same, at-place, at-map, at-map_back, has-from, contains-from, Above, Ascends, ascends-from, rising-from, ascends-map, ascends-reverse, ascends-once}
use Rattle.choice_lists.proofs.Orders.{linear-before, never-itself, before-lexicographic}
use Rattle.choice_lists.proofs.Products.{first-at, at-last}
use Rattle.choice_lists.proofs.Smaller.{smaller, smaller-none, smaller-permuted, ascends-distinct, permutation-tail}
use Rattle.choice_lists.proofs.Arrangements.{arrangements-length, arrangements-ascend, arrangement-is, arrangement-at, rising-number, falling-number}
use Rattle.choice_lists.proofs.NextArrangement.{next-follows}

-- a list that rises in the lexicographic order of numbers rises in the order of lists of numbers
pub ascends-before : (l : List (List ℕ)) → Ascends (lexicographic nat_lt) l → Ascends is_before l
ascends-before l a = subst (λ (t : List ℕ → List ℕ → Bool). Ascends t l) (fun_ext (λ xs. fun_ext (λ ys. sym (before-lexicographic xs ys)))) a

-- the arrangements of rising keys rise
pub arrangements-rise : (keys : List ℕ) → Ascends nat_lt keys → Ascends is_before (arrangements keys)
arrangements-rise keys a = ascends-before (arrangements keys) (arrangements-ascend (length keys) keys a)

-- nothing comes before itself
pub before-never : (c : List ℕ) → is_before c c ≡ false
before-never c = never-itself is_before linear-before.apart c

-- an arrangement stands at one place, the one that its number says
pub arrangement-place : (keys a : List ℕ) (i : ℕ) → Ascends nat_lt keys → At (arrangements keys) i a → i ≡ factorial_number a
arrangement-place keys a i r m =
    ascends-once is_before (arrangements keys) before-never (arrangements-rise keys r) i (factorial_number a) a m
    (arrangement-at (length keys) keys a refl r (arrangement-is (length keys) keys refl i a m))

-- the list of the arrangements
pub arrangements-list : (keys : List ℕ) → IsRising nat_lt keys → Lists is_before (IsPermutation keys) (arrangements keys)
arrangements-list keys h = record {
  rises = rising-from is_before (arrangements keys) (arrangements-rise keys (ascends-from nat_lt keys h));
  exactly = λ a. (
    λ c. let m = has-from (arrangements keys) a c in arrangement-is (length keys) keys refl m.0 a m.1,
    λ p. contains-from (arrangements keys) a (factorial_number a, arrangement-at (length keys) keys a refl (ascends-from nat_lt keys h) p),
  );
}

-- the first arrangement is the keys as they rise
pub first-arrangement : (keys : List ℕ) → Ascends nat_lt keys → At (arrangements keys) 0 keys
first-arrangement keys r =
    at-place (arrangements keys) (factorial_number keys) 0 keys (rising-number keys r) (arrangement-at (length keys) keys keys refl r (IsPermutation-refl keys))

-- the last is the keys as they fall
pub last-arrangement : (keys : List ℕ) → Ascends nat_lt keys → (i : ℕ) × At (arrangements keys) i (reverse keys) × (i + 1 ≡ length (arrangements keys))
last-arrangement keys r = (
  factorial_number (reverse keys),
  arrangement-at (length keys) keys (reverse keys) refl r (IsPermutation-reverse keys),
  falling-number (reverse keys) (ascends-reverse nat_lt keys r) ∙ ap factorial (length-reverse keys) ∙ sym (arrangements-length (length keys) keys refl),
)

-- the next arrangement stands at the next place
pub next_arrangement-at : (keys a b : List ℕ) (i : ℕ) → Ascends nat_lt keys → At (arrangements keys) i a → IsNextArrangement a b → At (arrangements keys) (i + 1) b
next_arrangement-at keys a b i r m n =
    let f = next-follows a b n in
    let p = arrangement-is (length keys) keys refl i a m in
    at-place (arrangements keys) (factorial_number b) (i + 1) b (omega (arith, f.number, arrangement-place keys a i r m))
    (arrangement-at (length keys) keys b refl r (IsPermutation-trans keys a b p f.same))

-- the choices of a bond rise
pub bond-ascends : (key : ℕ) (keys : List ℕ) → Ascends nat_lt (key ∷ keys) → Ascends is_before (bond_choices (key ∷ keys))
bond-ascends key keys r = ascends-map is_before is_before (λ a. key ∷ a) (arrangements keys) (arrangements-rise keys r.1) (λ a b h. before-cons key a b h)
  where
    before-cons : (k : ℕ) (a b : List ℕ) → is_before a b ≡ true → is_before (k ∷ a) (k ∷ b) ≡ true
    before-cons k a b h = rw (le-ltb k k (omega arith), eq-eqb k k refl) h

-- the first key in front changes no number
pub bond-number : (key : ℕ) (keys a : List ℕ) → Ascends nat_lt (key ∷ keys) → IsPermutation keys a → factorial_number (key ∷ a) ≡ factorial_number a
bond-number key keys a r p =
    let s : smaller key a ≡ 0 = smaller-permuted key keys a p ∙ smaller-none key keys (λ i y m. let l : key < y = ltb-true key y (r.0 i y m) in omega arith) in
    omega (arith, ap (λ z. z * factorial (length a)) s)

-- each member is a choice, at the place that its number says
pub bond-is : (key : ℕ) (keys : List ℕ) → Ascends nat_lt (key ∷ keys) → (i : ℕ) (c : List ℕ) → At (bond_choices (key ∷ keys)) i c → IsBondChoice (key ∷ keys) c
bond-is key keys r i c m =
    let a = at-map_back (λ (z : List ℕ). key ∷ z) (arrangements keys) i c m in
    subst (λ (z : List ℕ). IsBondChoice (key ∷ keys) z) a.2
    (record { arranged = IsPermutation-cons key keys a.0 (arrangement-is (length keys) keys refl i a.0 a.1); least_first = refl })

-- each choice is a member
pub bond-at : (key : ℕ) (keys : List ℕ) → Ascends nat_lt (key ∷ keys) → (c : List ℕ) → IsBondChoice (key ∷ keys) c → At (bond_choices (key ∷ keys)) (factorial_number c) c
bond-at key keys r [] h = absurd (omega (arith, length_permutation (key ∷ keys) [] h.arranged))
bond-at key keys r (x ∷ a) h =
    let e : x ≡ key = h.least_first in
    let p : IsPermutation keys a = permutation-tail key keys a (ascends-distinct (key ∷ keys) r) (subst (λ z. IsPermutation (key ∷ keys) (z ∷ a)) e h.arranged) in
    subst (λ z. At (bond_choices (key ∷ keys)) (factorial_number (z ∷ a)) (z ∷ a)) (sym e)
    (at-place (bond_choices (key ∷ keys)) (factorial_number a) (factorial_number (key ∷ a)) (key ∷ a) (sym (bond-number key keys a r p))
    (at-map (λ (z : List ℕ). key ∷ z) (arrangements keys) (factorial_number a) a (arrangement-at (length keys) keys a refl r.1 p)))

-- the list of the choices
pub bond-list : (key : ℕ) (keys : List ℕ) → IsRising nat_lt (key ∷ keys) → Lists is_before (IsBondChoice (key ∷ keys)) (bond_choices (key ∷ keys))
bond-list key keys h = record {
  rises = rising-from is_before (bond_choices (key ∷ keys)) (bond-ascends key keys r);
  exactly = λ c. (
    λ m. let k = has-from (bond_choices (key ∷ keys)) c m in bond-is key keys r k.0 c k.1,
    λ b. contains-from (bond_choices (key ∷ keys)) c (factorial_number c, bond-at key keys r c b),
  );
}
  where
    r : Ascends nat_lt (key ∷ keys)
    r = ascends-from nat_lt (key ∷ keys) h

-- their number
pub bond-length : (key : ℕ) (keys : List ℕ) → length (bond_choices (key ∷ keys)) ≡ factorial (length keys)
bond-length key keys = length-map (arrangements keys) (λ (z : List ℕ). key ∷ z) ∙ arrangements-length (length keys) keys refl

-- the first is the keys as they rise, the last its mirror image
pub bond-first : (key : ℕ) (keys : List ℕ) → Ascends nat_lt (key ∷ keys) → At (bond_choices (key ∷ keys)) 0 (key ∷ keys)
bond-first key keys r = at-map (λ (z : List ℕ). key ∷ z) (arrangements keys) 0 keys (first-arrangement keys r.1)

pub bond-last : (key : ℕ) (keys : List ℕ) → Ascends nat_lt (key ∷ keys) → IsLast (bond_choices (key ∷ keys)) (mirror_choice (key ∷ keys))
bond-last key keys r =
    let l = last-arrangement keys r.1 in
    at-last (bond_choices (key ∷ keys)) l.0 (key ∷ reverse keys) (at-map (λ (z : List ℕ). key ∷ z) (arrangements keys) l.0 (reverse keys) l.1)
    (l.2 ∙ sym (length-map (arrangements keys) (λ (z : List ℕ). key ∷ z)))

-- the next choice stands at the next place
pub bond-next : (key : ℕ) (keys a b : List ℕ) (i : ℕ) → Ascends nat_lt (key ∷ keys) → At (bond_choices (key ∷ keys)) i (key ∷ a) → IsNextArrangement a b
    → At (bond_choices (key ∷ keys)) (i + 1) (key ∷ b)
bond-next key keys a b i r m n =
    let w = at-map_back (λ (z : List ℕ). key ∷ z) (arrangements keys) i (key ∷ a) m in
    let e : w.0 ≡ a = ap rest_of w.2 in
    at-map (λ (z : List ℕ). key ∷ z) (arrangements keys) (i + 1) b (next_arrangement-at keys a b i r.1 (subst (λ (z : List ℕ). At (arrangements keys) i z) e w.1) n)
  where
    rest_of : List ℕ → List ℕ
    rest_of [] = []
    rest_of (x ∷ xs) = xs

-- the mirror image of the mirror image
pub mirror-mirror : (c : List ℕ) → mirror_choice (mirror_choice c) ≡ c
mirror-mirror [] = refl
mirror-mirror (x ∷ c) = ap (λ (z : List ℕ). x ∷ z) (reverse-reverse c)

-- a choice comes before its mirror image, or the other way, where they differ
before-or : (c d : List ℕ) → c ≢ d → is_before c d ≡ false → is_before d c ≡ true
before-or c d n h = elim (cases_Bool (is_before d c)) [
  | inl e ↦ e
  | inr e ↦ absurd (n (linear-before.one_of_three c d h e))
]

-- where a choice comes before its mirror image it is the first of the two
rigid-before : (c : List ℕ) → is_before c (mirror_choice c) ≡ true → rigid_choices c ≡ c ∷ mirror_choice c ∷ []
rigid-before c h = rw h refl

-- and where not the second
rigid-behind : (c : List ℕ) → is_before c (mirror_choice c) ≡ false → rigid_choices c ≡ mirror_choice c ∷ c ∷ []
rigid-behind c h = rw h refl

-- a list of two in order
two-ascend : (c d : List ℕ) → is_before c d ≡ true → Ascends is_before (c ∷ d ∷ [])
two-ascend c d h = (above, (λ i y m. absurd m, tt))
  where
    above : Above is_before c (d ∷ [])
    above zero y e = subst (λ z. is_before c z ≡ true) e h
    above (suc i) y e = absurd e

-- the two choices of a rigid node rise
pub rigid-ascends : (c : List ℕ) → mirror_choice c ≢ c → Ascends is_before (rigid_choices c)
rigid-ascends c n = elim (cases_Bool (is_before c (mirror_choice c))) [
  | inl e ↦ subst (λ (z : List (List ℕ)). Ascends is_before z) (sym (rigid-before c e)) (two-ascend c (mirror_choice c) e)
  | inr e ↦ subst (λ (z : List (List ℕ)). Ascends is_before z) (sym (rigid-behind c e)) (two-ascend (mirror_choice c) c (before-or c (mirror_choice c) (λ s. n (sym s)) e))
]

-- they are the choice and its mirror image
pub rigid-has : (c d : List ℕ) → Has (rigid_choices c) d ↔ ((d ≡ c) ⊎ (d ≡ mirror_choice c))
rigid-has c d = elim (cases_Bool (is_before c (mirror_choice c))) [
  | inl e ↦ subst (λ (z : List (List ℕ)). Has z d ↔ ((d ≡ c) ⊎ (d ≡ mirror_choice c))) (sym (rigid-before c e)) (two c (mirror_choice c))
  | inr e ↦ subst (λ (z : List (List ℕ)). Has z d ↔ ((d ≡ c) ⊎ (d ≡ mirror_choice c))) (sym (rigid-behind c e)) (
    λ h. swapped ((two (mirror_choice c) c).0 h),
    λ h. (two (mirror_choice c) c).1 (back h),
  )
]
  where
    two : (u v : List ℕ) → Has (u ∷ v ∷ []) d ↔ ((d ≡ u) ⊎ (d ≡ v))
    two u v = (to, from)
      where
        to : Has (u ∷ v ∷ []) d → (d ≡ u) ⊎ (d ≡ v)
        to (zero, e) = inl (sym e)
        to (suc zero, e) = inr (sym e)
        to (suc (suc i), e) = absurd e

        from : (d ≡ u) ⊎ (d ≡ v) → Has (u ∷ v ∷ []) d
        from (inl e) = (0, sym e)
        from (inr e) = (1, sym e)

    swapped : (d ≡ mirror_choice c) ⊎ (d ≡ c) → (d ≡ c) ⊎ (d ≡ mirror_choice c)
    swapped (inl e) = inr e
    swapped (inr e) = inl e

    back : (d ≡ c) ⊎ (d ≡ mirror_choice c) → (d ≡ mirror_choice c) ⊎ (d ≡ c)
    back (inl e) = inr e
    back (inr e) = inl e

-- the two are the same list from either
pub rigid-same : (c : List ℕ) → mirror_choice c ≢ c → rigid_choices (mirror_choice c) ≡ rigid_choices c
rigid-same c n = elim (cases_Bool (is_before c (mirror_choice c))) [
  | inl e ↦
      rigid-behind (mirror_choice c) (subst (λ z. is_before (mirror_choice c) z ≡ false) (sym (mirror-mirror c)) (linear-before.apart c (mirror_choice c) e))
      ∙ ap (λ z. z ∷ mirror_choice c ∷ []) (mirror-mirror c) ∙ sym (rigid-before c e)
  | inr e ↦
      rigid-before (mirror_choice c) (subst (λ z. is_before (mirror_choice c) z ≡ true) (sym (mirror-mirror c)) (before-or c (mirror_choice c) (λ s. n (sym s)) e))
      ∙ ap (λ z. mirror_choice c ∷ z ∷ []) (mirror-mirror c) ∙ sym (rigid-behind c e)
]

-- the last of the two is the mirror image of the first
pub rigid-ends : (c : List ℕ) → (x : List ℕ) → IsFirst (rigid_choices c) x → IsLast (rigid_choices c) (mirror_choice x)
rigid-ends c x f = elim (cases_Bool (is_before c (mirror_choice c))) [
  | inl e ↦
      let a : At (c ∷ mirror_choice c ∷ []) 0 x = subst (λ (z : List (List ℕ)). At z 0 x) (rigid-before c e) (first-at (rigid_choices c) x f) in
      subst (λ (z : List (List ℕ)). IsLast z (mirror_choice x)) (sym (rigid-before c e)) (record { others = c ∷ []; is = ap (λ z. c ∷ mirror_choice z ∷ []) a })
  | inr e ↦
      let a : At (mirror_choice c ∷ c ∷ []) 0 x = subst (λ (z : List (List ℕ)). At z 0 x) (rigid-behind c e) (first-at (rigid_choices c) x f) in
      subst (λ (z : List (List ℕ)). IsLast z (mirror_choice x)) (sym (rigid-behind c e))
      (record { others = mirror_choice c ∷ []; is = ap (λ z. mirror_choice c ∷ z ∷ []) (sym (mirror-mirror c) ∙ ap mirror_choice a) })
]

-- two
pub rigid-length : (c : List ℕ) → length (rigid_choices c) ≡ 2
rigid-length c = elim (cases_Bool (is_before c (mirror_choice c))) [
  | inl e ↦ ap length (rigid-before c e)
  | inr e ↦ ap length (rigid-behind c e)
]

-- the first members decide
decided : (d : ℕ) (xs ys : List ℕ) → length xs ≡ length ys → first_or d xs < first_or d ys → is_before xs ys ≡ true
decided d [] [] e h = absurd (omega arith)
decided d [] (y ∷ ys) e h = refl
decided d (x ∷ xs) [] e h = absurd (omega arith)
decided d (x ∷ xs) (y ∷ ys) e h = rw (lt-ltb x y h) refl

-- with one first key in front
decided-behind : (k : ℕ) (xs ys : List ℕ) → length xs ≡ length ys → first_or k xs < first_or k ys → is_before (k ∷ xs) (k ∷ ys) ≡ true
decided-behind k xs ys e h = rw (le-ltb k k (omega arith), eq-eqb k k refl) (decided k xs ys e h)

-- the choice is the first of the two where the key behind the first is smaller than the last key
pub rigid-first : (key : ℕ) (keys : List ℕ) → first_or key keys < last_or key keys → IsAt (rigid_choices (key ∷ keys)) 0 (key ∷ keys)
rigid-first key keys h =
    let b : is_before (key ∷ keys) (key ∷ reverse keys) ≡ true = decided-behind key keys (reverse keys) (sym (length-reverse keys)) h in
    at-is (rigid_choices (key ∷ keys)) 0 (key ∷ keys) (subst (λ (z : List (List ℕ)). At z 0 (key ∷ keys)) (sym (rigid-before (key ∷ keys) b)) refl)

-- and the second where it is greater
pub rigid-second : (key : ℕ) (keys : List ℕ) → last_or key keys < first_or key keys → IsAt (rigid_choices (key ∷ keys)) 1 (key ∷ keys)
rigid-second key keys h =
    let b : is_before (key ∷ reverse keys) (key ∷ keys) ≡ true = decided-behind key (reverse keys) keys (length-reverse keys) h in
    let f : is_before (key ∷ keys) (key ∷ reverse keys) ≡ false = linear-before.apart (key ∷ reverse keys) (key ∷ keys) b in
    at-is (rigid_choices (key ∷ keys)) 1 (key ∷ keys) (subst (λ (z : List (List ℕ)). At z 1 (key ∷ keys)) (sym (rigid-behind (key ∷ keys) f)) refl)

-- a choice of three different keys or more is not its own mirror image
pub mirror-differs : (c : List ℕ) → is_distinct c ≡ true → 3 ≤ length c → mirror_choice c ≢ c
mirror-differs [] d l e = absurd (omega arith)
mirror-differs (k ∷ []) d l e = absurd (omega arith)
mirror-differs (k ∷ a ∷ t) d l e = last-is (reverse t) (reverse-reverse t)
    (ap rest_of (sym e) ∙ reverse-append (a ∷ []) t) (distinct-head a t (distinct-tail k (a ∷ t) d)) (omega (arith, length-reverse t))
  where
    rest_of : List ℕ → List ℕ
    rest_of [] = []
    rest_of (x ∷ xs) = xs

    last-is : (u : List ℕ) → reverse u ≡ t → a ∷ t ≡ u ++ a ∷ [] → is_member a t ≡ false → 0 < length u → ⊥
    last-is [] r q m n = absurd (omega arith)
    last-is (z ∷ u) r q m n =
        let s : a ≡ z = ap (first_or 0) q in
        both_ways (is_member a t) m (subst (λ (w : List ℕ). is_member a w ≡ true) r (member-reverse a (z ∷ u) ∙ subst (λ v. is_member v (z ∷ u) ≡ true) (sym s) (member-head z u)))

-- the mirror image is the cyclic order the other way round, written from its least key
pub mirror-is : (x : ℕ) (c : List ℕ) → is_distinct (x ∷ c) ≡ true → ((z : ℕ) → is_member z c ≡ true → x ≤ z) → from_least (reverse (x ∷ c)) ≡ mirror_choice (x ∷ c)
mirror-is x c d h = mirror-from_least x c d h

-- the choices of any node rise
pub choice_list-ascends : (l : List (List ℕ)) → IsChoiceList l → Ascends is_before l
choice_list-ascends l (inl b) = subst (λ (z : List (List ℕ)). Ascends is_before z) (sym b.is) (bond-ascends b.key b.keys (ascends-from nat_lt (b.key ∷ b.keys) b.rise))
choice_list-ascends l (inr (inl r)) = subst (λ (z : List (List ℕ)). Ascends is_before z) (sym r.is) (rigid-ascends r.choice r.two_ways)
choice_list-ascends l (inr (inr e)) = subst (λ (z : List (List ℕ)). Ascends is_before z) (sym e) (λ i y m. absurd m, tt)

-- and the last is the mirror image of the first
pub choice_list-ends : (l : List (List ℕ)) → IsChoiceList l → (x : List ℕ) → IsFirst l x → IsLast l (mirror_choice x)
choice_list-ends l (inl b) x f =
    let r = ascends-from nat_lt (b.key ∷ b.keys) b.rise in
    let e : b.key ∷ b.keys ≡ x = at-same (bond_choices (b.key ∷ b.keys)) 0 (b.key ∷ b.keys) x (bond-first b.key b.keys r) (subst (λ (z : List (List ℕ)). At z 0 x) b.is (first-at l x f)) in
    subst (λ (z : List (List ℕ)). IsLast z (mirror_choice x)) (sym b.is) (subst (λ (z : List ℕ). IsLast (bond_choices (b.key ∷ b.keys)) (mirror_choice z)) e (bond-last b.key b.keys r))
choice_list-ends l (inr (inl r)) x f =
    subst (λ (z : List (List ℕ)). IsLast z (mirror_choice x)) (sym r.is) (rigid-ends r.choice x (subst (λ (z : List (List ℕ)). IsFirst z x) r.is f))
choice_list-ends l (inr (inr e)) x f =
    let a : At ([] ∷ []) 0 x = subst (λ (z : List (List ℕ)). At z 0 x) e (first-at l x f) in
    subst (λ (z : List (List ℕ)). IsLast z (mirror_choice x)) (sym e) (record { others = []; is = ap (λ z. mirror_choice z ∷ []) a })
