-- The arrangements of rising keys: all of them, in order, as many as the factorial, at the places that their numbers say.
use Rattle.std.proofs.Common.{◌≡◌, ℕ, zero, suc, ◌+◌, ◌*◌, ◌/◌, ◌%◌, ◌<◌, true, nat_lt, List, [], ◌∷◌, length, map, slice_index_or, IsPermutation, refl, sym, ap, ap₂, ◌∙◌, subst, arith, add-mul, div-add-mod', mod-lt}
use Rattle.std.proofs.lemmas.Nat.{div_below, mul-le}
use Rattle.std.proofs.lemmas.Bool.{ltb-true}
use Rattle.std.proofs.lemmas.List.{length-map}
use Rattle.std.proofs.lemmas.List.Sorted.{IsPermutation-refl, IsPermutation-cons, IsPermutation-sym, IsPermutation-trans, length_permutation}
use Rattle.permutations.specs.Members.{is_distinct}
use Rattle.permutations.proofs.Arrangements.{permutation-distinct}
use Rattle.choice_lists.specs.Order.{lexicographic}
use Rattle.choice_lists.specs.Arrangements.{factorial, each_first, arrangements_of, factorial_number, numbered_of, lehmer_code}
use Rattle.choice_lists.proofs.Places.{At, Has, at-get, at-any, at-place, at-map, at-map_back, Ascends, ascends-map}
use Rattle.choice_lists.proofs.Orders.{linear-numbers, never-itself}
use Rattle.choice_lists.proofs.Branches.{AllLong, branched-length, branched-at, branched-back, branched-ascends}
use Rattle.choice_lists.proofs.Numbers.{factorial-positive, factorial-product}
use Rattle.choice_lists.specs.Numbers.{radix_number, AreDigitsBelow, from_one_to}
use Rattle.choice_lists.proofs.Smaller.{smaller, smaller-none, smaller-all, smaller-permuted, smaller-bound, has-permuted, ascends-distinct, permutation-tail}
use Rattle.choice_lists.proofs.TakenOut.{taken, each_first-at, each_first-length, each_first-ascends}

-- the branches of the arrangements of n + 1 keys
abbrev pub branches : ℕ → List ℕ → List (ℕ × List (List ℕ))
branches n keys = map (λ p. (p.0, arrangements_of n p.1)) (each_first keys)

-- a branch for each key
branches-count : (n : ℕ) (keys : List ℕ) → length (branches n keys) ≡ length keys
branches-count n keys = let f : ℕ × List ℕ → ℕ × List (List ℕ) = λ (p : ℕ × List ℕ). (p.0, arrangements_of n p.1) in length-map (each_first keys) f ∙ each_first-length keys

-- as many as the factorial
pub arrangements-length : (n : ℕ) (keys : List ℕ) → length keys ≡ n → length (arrangements_of n keys) ≡ factorial n
arrangements-length zero keys e = refl
arrangements-length (suc n) keys e =
    branched-length (branches n keys) (factorial n)
    (λ q b a. let m = at-map_back (λ (p : ℕ × List ℕ). (p.0, arrangements_of n p.1)) (each_first keys) q b a in
    ap (λ (p : ℕ × List (List ℕ)). length p.1) (sym m.2) ∙ arrangements-length n m.0.1 (omega (arith, e, (taken keys q m.0 m.1).long)))
    ∙ ap (λ z. z * factorial n) (omega (arith, e, branches-count n keys))

-- each branch has the factorial
branches-long : (n : ℕ) (keys : List ℕ) → length keys ≡ suc n → AllLong (branches n keys) (factorial n)
branches-long n keys e q b a =
    let m = at-map_back (λ (p : ℕ × List ℕ). (p.0, arrangements_of n p.1)) (each_first keys) q b a in
    ap (λ (p : ℕ × List (List ℕ)). length p.1) (sym m.2) ∙ arrangements-length n m.0.1 (omega (arith, e, (taken keys q m.0 m.1).long))

-- in lexicographic order
pub arrangements-ascend : (n : ℕ) (keys : List ℕ) → Ascends nat_lt keys → Ascends (lexicographic nat_lt) (arrangements_of n keys)
arrangements-ascend zero keys a = (λ i y m. absurd m, tt)
arrangements-ascend (suc n) keys a =
    let rest = λ (l : List ℕ) (r : Ascends nat_lt l). arrangements-ascend n l r in
    branched-ascends nat_lt (branches n keys) (never-itself nat_lt linear-numbers.apart)
    (ascends-map (λ (p s : ℕ × List ℕ). nat_lt p.0 s.0) (λ (p s : ℕ × List (List ℕ)). nat_lt p.0 s.0) (λ (p : ℕ × List ℕ). (p.0, arrangements_of n p.1)) (each_first keys) (each_first-ascends keys a) (λ x y e. e))
    (λ q b k. let m = at-map_back (λ (p : ℕ × List ℕ). (p.0, arrangements_of n p.1)) (each_first keys) q b k in
    subst (λ (p : ℕ × List (List ℕ)). Ascends (lexicographic nat_lt) p.1) m.2 (rest m.0.1 ((taken keys q m.0 m.1).rise a)))

-- a list without members
empty : {X : Type 0} (l : List X) → length l ≡ 0 → [] ≡ l
empty [] e = refl
empty (x ∷ l) e = absurd (omega arith)

-- each is an arrangement of the keys
pub arrangement-is : (n : ℕ) (keys : List ℕ) → length keys ≡ n → (i : ℕ) (a : List ℕ) → At (arrangements_of n keys) i a → IsPermutation keys a
arrangement-is zero keys e zero a h = subst (λ (z : List ℕ). IsPermutation keys z) h (subst (λ (z : List ℕ). IsPermutation z []) (empty keys e) (IsPermutation-refl []))
arrangement-is zero keys e (suc i) a h = absurd h
arrangement-is (suc n) keys e i a h =
    let b = branched-back (branches n keys) i a h in
    let m = at-map_back (λ (p : ℕ × List ℕ). (p.0, arrangements_of n p.1)) (each_first keys) b.q b.b b.branch in
    let t = taken keys b.q m.0 m.1 in
    let w : m.0.0 ∷ b.v ≡ a = ap (λ (p : ℕ × List (List ℕ)). p.0 ∷ b.v) m.2 ∙ b.is in
    let r : At (arrangements_of n m.0.1) b.r b.v = subst (λ (p : ℕ × List (List ℕ)). At p.1 b.r b.v) (sym m.2) b.rest in
    subst (λ (z : List ℕ). IsPermutation keys z) w
    (IsPermutation-trans keys (m.0.0 ∷ m.0.1) (m.0.0 ∷ b.v) t.all (IsPermutation-cons m.0.0 m.0.1 b.v (arrangement-is n m.0.1 (omega (arith, e, t.long)) b.r b.v r)))

-- each arrangement stands at the place that its number says
pub arrangement-at : (n : ℕ) (keys a : List ℕ) → length keys ≡ n → Ascends nat_lt keys → IsPermutation keys a → At (arrangements_of n keys) (factorial_number a) a
arrangement-at zero keys [] e r p = refl
arrangement-at zero keys (x ∷ b) e r p = absurd (omega (arith, length_permutation keys (x ∷ b) p))
arrangement-at (suc n) keys [] e r p = absurd (omega (arith, length_permutation keys [] p))
arrangement-at (suc n) keys (x ∷ b) e r p =
    let h : Has keys x = has-permuted keys (x ∷ b) x p (0, refl) in
    let o = each_first-at keys h.0 x h.1 in
    let t = taken keys h.0 (x, o.0) o.1 in
    let l : length o.0 ≡ n = omega (arith, e, t.long) in
    let s : IsPermutation (x ∷ o.0) (x ∷ b) = IsPermutation-trans (x ∷ o.0) keys (x ∷ b) (IsPermutation-sym keys (x ∷ o.0) t.all) p in
    let d : is_distinct (x ∷ o.0) ≡ true = permutation-distinct keys (x ∷ o.0) t.all (ascends-distinct keys r) in
    let k : IsPermutation o.0 b = permutation-tail x o.0 b d s in
    let q : h.0 ≡ smaller x b = sym (t.digit r) ∙ sym (smaller-permuted x o.0 b k) in
    let f : n ≡ length b = omega (arith, l, length_permutation o.0 b k) in
    at-place (arrangements_of (suc n) keys) (h.0 * factorial n + factorial_number b) (factorial_number (x ∷ b)) (x ∷ b)
    (ap₂ (λ u v. u * factorial v + factorial_number b) q f)
    (branched-at (branches n keys) (factorial n) h.0 (factorial_number b) (x, arrangements_of n o.0) b (branches-long n keys e)
    (at-map (λ (p : ℕ × List ℕ). (p.0, arrangements_of n p.1)) (each_first keys) h.0 (x, o.0) o.1)
    (arrangement-at n o.0 b l (t.rise r) k))

-- what is read at a place stands there
at-read : {X : Type 0} (l : List X) (i : ℕ) (d : X) → i < length l → At l i (slice_index_or l i d)
at-read l i d h = let m = at-any l i h in subst (λ z. At l i z) (sym (at-get l i m.0 d m.1)) m.1

-- the arrangement with the number i stands at place i
pub numbered-at : (n : ℕ) (keys : List ℕ) (i : ℕ) → length keys ≡ n → i < factorial n → At (arrangements_of n keys) i (numbered_of n keys i)
numbered-at zero keys zero e h = refl
numbered-at zero keys (suc i) e h = absurd (omega arith)
numbered-at (suc n) keys i e h =
    let f : 0 < factorial n = factorial-positive n in
    let q : i / factorial n < n + 1 = div_below i (factorial n) (n + 1) f h in
    let p : ℕ × List ℕ = slice_index_or (each_first keys) (i / factorial n) (0, []) in
    let a : At (each_first keys) (i / factorial n) p = at-read (each_first keys) (i / factorial n) (0, []) (omega (arith, q, e, each_first-length keys)) in
    let t = taken keys (i / factorial n) p a in
    at-place (arrangements_of (suc n) keys) (i / factorial n * factorial n + i % factorial n) i (numbered_of (suc n) keys i) (div-add-mod' i (factorial n))
    (branched-at (branches n keys) (factorial n) (i / factorial n) (i % factorial n) (p.0, arrangements_of n p.1) (numbered_of n p.1 (i % factorial n)) (branches-long n keys e)
    (at-map (λ (s : ℕ × List ℕ). (s.0, arrangements_of n s.1)) (each_first keys) (i / factorial n) p a)
    (numbered-at n p.1 (i % factorial n) (omega (arith, e, t.long)) (mod-lt i f)))

-- of rising keys the number is 0
pub rising-number : (l : List ℕ) → Ascends nat_lt l → factorial_number l ≡ 0
rising-number [] a = refl
rising-number (x ∷ l) a =
    let s : smaller x l ≡ 0 = smaller-none x l (λ i y m. let k : x < y = ltb-true x y (a.0 i y m) in omega arith) in
    omega (arith, ap (λ z. z * factorial (length l)) s, rising-number l a.1)

-- of falling keys it is the last
pub falling-number : (l : List ℕ) → Ascends (λ x y. nat_lt y x) l → factorial_number l + 1 ≡ factorial (length l)
falling-number [] a = refl
falling-number (x ∷ l) a =
    let s : smaller x l ≡ length l = smaller-all x l (λ i y m. ltb-true y x (a.0 i y m)) in
    omega (arith, ap (λ z. z * factorial (length l)) s, falling-number l a.1, add-mul (length l) 1 (factorial (length l)))

-- a number is below the factorial
pub number-below : (l : List ℕ) → factorial_number l < factorial (length l)
number-below [] = omega arith
number-below (x ∷ l) =
    omega (arith, number-below l, mul-le (smaller x l) (factorial (length l)) (length l) (factorial (length l)) (smaller-bound x l) (omega arith), add-mul (length l) 1 (factorial (length l)))

-- its digits are the Lehmer code, in the radices n, n - 1, .. , 1
pub lehmer-below : (l : List ℕ) → AreDigitsBelow (from_one_to (length l)) (lehmer_code l)
lehmer-below [] = tt
lehmer-below (x ∷ l) = (omega (arith, smaller-bound x l), lehmer-below l)

pub lehmer-number : (l : List ℕ) → factorial_number l ≡ radix_number (from_one_to (length l)) (lehmer_code l)
lehmer-number [] = refl
lehmer-number (x ∷ l) = ap₂ (λ u v. smaller x l * u + v) (sym (factorial-product (length l))) (lehmer-number l)
