-- The arrangement that follows: it has the next number; the last one has none.
use Rattle.std.proofs.Common.{◌≡◌, ◌≢◌, ℕ, zero, suc, ◌+◌, ◌*◌, ◌<◌, ◌≤◌, ◌⊎◌, inl, inr, true, false, nat_lt, List, [], ◌∷◌, ◌++◌, length, reverse, All, IsPermutation, refl, sym, ap, ap₂, subst, arith, add-mul, length-append}
use Rattle.std.proofs.lemmas.Bool.{cases_lt, lt-ltb, ltb-true}
use Rattle.std.proofs.lemmas.List.{length-reverse}
use Rattle.std.proofs.lemmas.List.Sorted.{IsPermutation-cons, IsPermutation-middle, IsPermutation-reverse, IsPermutation-sym, IsPermutation-trans, length_permutation}
use Rattle.permutations.specs.Members.{is_member, is_distinct}
use Rattle.permutations.proofs.Members.{no_member-head, no_member-tail, distinct-head, distinct-tail}
use Rattle.choice_lists.specs.Arrangements.{factorial, factorial_number, IsNextArrangement}
pub use Rattle.choice_lists.specs.Falling.{Falls}
use Rattle.choice_lists.proofs.Places.{At, at-get, at-within, Above, Ascends, ascends-from, rising-from, ascends-append, ascends-reverse, ascends-front, ascends-back, ascends-across}
use Rattle.choice_lists.proofs.Smaller.{smaller, smaller-yes, smaller-no, smaller-none, smaller-all, smaller-append, smaller-permuted}
use Rattle.choice_lists.proofs.TakenOut.{two-swapped}
use Rattle.choice_lists.proofs.Arrangements.{rising-number, falling-number, number-below}

-- all members are smaller than x
abbrev pub Below : List ℕ → ℕ → Type 0
Below l x = (i y : ℕ) → At l i y → y < x

-- facts of one step
record Step (x : ℕ) (upper : List ℕ) (y : ℕ) (lower : List ℕ) : Type 0 where
  pub falls : Falls (upper ++ y ∷ lower)
  pub greater : x < y
  pub below : Below lower x

-- all in front of y are greater
upper-greater : (x : ℕ) (upper : List ℕ) (y : ℕ) (lower : List ℕ) → Step x upper y lower → (i z : ℕ) → At upper i z → y < z
upper-greater x upper y lower s i z a = ltb-true y z (ascends-across (λ u v. nat_lt v u) upper (y ∷ lower) s.falls i z a 0 y refl)

-- with x in the place of y it still falls
still-falls : (x : ℕ) (upper : List ℕ) (y : ℕ) (lower : List ℕ) → Step x upper y lower → Falls (upper ++ x ∷ lower)
still-falls x upper y lower s =
    ascends-append (λ u v. nat_lt v u) upper (x ∷ lower) (ascends-front (λ u v. nat_lt v u) upper (y ∷ lower) s.falls)
    (λ i z a. lt-ltb z x (s.below i z a), (ascends-back (λ u v. nat_lt v u) upper (y ∷ lower) s.falls).1)
    above
  where
    above : (i z : ℕ) → At upper i z → Above (λ u v. nat_lt v u) z (x ∷ lower)
    above i z a zero w e = lt-ltb w z (omega (arith, upper-greater x upper y lower s i z a, s.greater, e))
    above i z a (suc j) w e = lt-ltb w z (omega (arith, upper-greater x upper y lower s i z a, s.greater, s.below j w e))

-- behind x stand as many smaller ones as `lower` has
smaller-before : (x : ℕ) (upper : List ℕ) (y : ℕ) (lower : List ℕ) → Step x upper y lower → smaller x (upper ++ y ∷ lower) ≡ length lower
smaller-before x upper y lower s = omega (
  arith,
  smaller-append x upper (y ∷ lower),
  smaller-none x upper (λ i z a. omega (arith, upper-greater x upper y lower s i z a, s.greater)),
  smaller-no x y lower (omega (arith, s.greater)),
  smaller-all x lower s.below,
)

-- behind y stands one more
smaller-after : (x : ℕ) (upper : List ℕ) (y : ℕ) (lower : List ℕ) → Step x upper y lower → smaller y (reverse (upper ++ x ∷ lower)) ≡ length lower + 1
smaller-after x upper y lower s = omega (
  arith,
  smaller-permuted y (upper ++ x ∷ lower) (reverse (upper ++ x ∷ lower)) (IsPermutation-reverse (upper ++ x ∷ lower)),
  smaller-append y upper (x ∷ lower),
  smaller-none y upper (λ i z a. omega (arith, upper-greater x upper y lower s i z a)),
  smaller-yes y x lower s.greater,
  smaller-all y lower (λ i z a. omega (arith, s.below i z a, s.greater)),
)

-- what falls both ways round rises
turned-rises : (l : List ℕ) → Falls l → Ascends nat_lt (reverse l)
turned-rises l f = ascends-reverse (λ u v. nat_lt v u) l f

-- as long
same-length : (x : ℕ) (upper : List ℕ) (y : ℕ) (lower : List ℕ) → length (reverse (upper ++ x ∷ lower)) ≡ length (upper ++ y ∷ lower)
same-length x upper y lower = omega (arith, length-reverse (upper ++ x ∷ lower), length-append upper (x ∷ lower), length-append upper (y ∷ lower))

-- the number goes one up
step-number : (x : ℕ) (upper : List ℕ) (y : ℕ) (lower : List ℕ) → Step x upper y lower
    → factorial_number (y ∷ reverse (upper ++ x ∷ lower)) ≡ factorial_number (x ∷ (upper ++ y ∷ lower)) + 1
step-number x upper y lower s =
    let n = length (upper ++ y ∷ lower) in
    let a : smaller x (upper ++ y ∷ lower) * factorial n ≡ length lower * factorial n = ap (λ z. z * factorial n) (smaller-before x upper y lower s) in
    let b : smaller y (reverse (upper ++ x ∷ lower)) * factorial (length (reverse (upper ++ x ∷ lower))) ≡ (length lower + 1) * factorial n =
    ap₂ (λ u v. u * factorial v) (smaller-after x upper y lower s) (same-length x upper y lower) in
    omega (
      arith,
      a,
      b,
      add-mul (length lower) 1 (factorial n),
      falling-number (upper ++ y ∷ lower) s.falls,
      rising-number (reverse (upper ++ x ∷ lower)) (turned-rises (upper ++ x ∷ lower) (still-falls x upper y lower s)),
    )

-- the same members
step-permutation : (x : ℕ) (upper : List ℕ) (y : ℕ) (lower : List ℕ) → IsPermutation (x ∷ (upper ++ y ∷ lower)) (y ∷ reverse (upper ++ x ∷ lower))
step-permutation x upper y lower =
    IsPermutation-trans (x ∷ (upper ++ y ∷ lower)) (x ∷ y ∷ (upper ++ lower)) (y ∷ reverse (upper ++ x ∷ lower))
    (IsPermutation-cons x (upper ++ y ∷ lower) (y ∷ (upper ++ lower)) (IsPermutation-middle upper y lower))
    (IsPermutation-trans (x ∷ y ∷ (upper ++ lower)) (y ∷ x ∷ (upper ++ lower)) (y ∷ reverse (upper ++ x ∷ lower))
    (two-swapped x y (upper ++ lower))
    (IsPermutation-cons y (x ∷ (upper ++ lower)) (reverse (upper ++ x ∷ lower))
    (IsPermutation-trans (x ∷ (upper ++ lower)) (upper ++ x ∷ lower) (reverse (upper ++ x ∷ lower))
    (IsPermutation-sym (upper ++ x ∷ lower) (x ∷ (upper ++ lower)) (IsPermutation-middle upper x lower))
    (IsPermutation-reverse (upper ++ x ∷ lower)))))

-- both facts
pub record Follows (a b : List ℕ) : Type 0 where
  pub number : factorial_number b ≡ factorial_number a + 1
  pub same : IsPermutation a b

-- a member in front changes nothing
follows-cons : (z : ℕ) (a b : List ℕ) → Follows a b → Follows (z ∷ a) (z ∷ b)
follows-cons z a b f = record {
  number = omega (
    arith,
    ap₂ (λ u v. u * factorial v) (smaller-permuted z a b f.same) (length_permutation a b f.same),
    f.number,
  );
  same = IsPermutation-cons z a b f.same;
}

-- nor do several
follows-front : (front a b : List ℕ) → Follows a b → Follows (front ++ a) (front ++ b)
follows-front [] a b f = f
follows-front (z ∷ front) a b f = follows-cons z (front ++ a) (front ++ b) (follows-front front a b f)

-- what holds of all, at each place
all-at : (P : ℕ → Type 0) (l : List ℕ) → All P l → (i y : ℕ) → At l i y → P y
all-at P l h i y a = subst P (at-get l i y y a) (h i y (at-within l i y a))

-- the next arrangement has the next number
pub next-follows : (a b : List ℕ) → IsNextArrangement a b → Follows a b
next-follows a b n =
    subst (λ (z : List ℕ). Follows z b) (sym n.before) (subst (λ (z : List ℕ). Follows (n.front ++ n.x ∷ (n.upper ++ n.y ∷ n.lower)) z) (sym n.after)
    (follows-front n.front (n.x ∷ (n.upper ++ n.y ∷ n.lower)) (n.y ∷ reverse (n.upper ++ n.x ∷ n.lower)) (record {
      number = step-number n.x n.upper n.y n.lower s;
      same = step-permutation n.x n.upper n.y n.lower;
    })))
  where
    s : Step n.x n.upper n.y n.lower
    s = record { falls = ascends-from (λ u v. nat_lt v u) (n.upper ++ n.y ∷ n.lower) n.falls; greater = n.greater; below = all-at (λ z. z < n.x) n.lower n.no_later }

-- a falling list has no next arrangement
pub falling-no_next : (a b : List ℕ) → Falls a → IsNextArrangement a b → ⊥
falling-no_next a b f n =
    let w = next-follows a b n in
    absurd (omega (arith, w.number, falling-number a f, number-below b, ap factorial (length_permutation a b w.same)))

-- a falling list with a first member greater than x, cut behind the last greater one
record Cut (x : ℕ) (t : List ℕ) : Type 0 where
  pub upper : List ℕ
  pub y : ℕ
  pub lower : List ℕ
  pub is : t ≡ upper ++ y ∷ lower
  pub greater : x < y
  pub below : Below lower x

-- the cut
cut : (x w : ℕ) (t : List ℕ) → Falls (w ∷ t) → x < w → is_member x t ≡ false → Cut x (w ∷ t)
cut x w [] f l m = record { upper = []; y = w; lower = []; is = refl; greater = l; below = λ i y a. absurd a }
cut x w (v ∷ t) f l m = elim (cases_lt x v) [
  | inl k ↦
      let r = cut x v t f.1 k (no_member-tail x v t m) in
      record { upper = w ∷ r.upper; y = r.y; lower = r.lower; is = ap (λ (z : List ℕ). w ∷ z) r.is; greater = r.greater; below = r.below }
  | inr k ↦ record { upper = []; y = w; lower = v ∷ t; is = refl; greater = l; below = under k (no_member-head x v t m) f.1.0 }
]
  where
    under : v ≤ x → v ≢ x → Above (λ a b. nat_lt b a) v t → Below (v ∷ t) x
    under k n a zero y e = let d : v < x = omega (arith, k, n) in omega (arith, d, e)
    under k n a (suc i) y e = let d : y < v = ltb-true y v (a i y e) in omega (arith, d, k)

-- a list is falling, or there is a next arrangement
pub falling-or-next : (a : List ℕ) → is_distinct a ≡ true → Falls a ⊎ ((b : List ℕ) × IsNextArrangement a b)
falling-or-next [] d = inl tt
falling-or-next (x ∷ t) d = elim (falling-or-next t (distinct-tail x t d)) [
  | inl f ↦ at t f (distinct-head x t d)
  | inr n ↦ inr (
    x ∷ n.0,
    record {
      front = x ∷ n.1.front;
      x = n.1.x;
      upper = n.1.upper;
      y = n.1.y;
      lower = n.1.lower;
      before = ap (λ (z : List ℕ). x ∷ z) n.1.before;
      falls = n.1.falls;
      greater = n.1.greater;
      no_later = n.1.no_later;
      after = ap (λ (z : List ℕ). x ∷ z) n.1.after;
    },
  )
]
  where
    all-below : (l : List ℕ) → Below l x → All (λ z. z < x) l
    all-below [] h i e k = absurd (omega arith)
    all-below (y ∷ l) h zero e k = h 0 y refl
    all-below (y ∷ l) h (suc i) e k = all-below l (λ j z a. h (suc j) z a) i e (omega arith)

    at : (l : List ℕ) → Falls l → is_member x l ≡ false → Falls (x ∷ l) ⊎ ((b : List ℕ) × IsNextArrangement (x ∷ l) b)
    at [] f m = inl (λ i y a. absurd a, tt)
    at (w ∷ l) f m = elim (cases_lt x w) [
      | inl k ↦
          let c = cut x w l f k (no_member-tail x w l m) in
          inr (
            c.y ∷ reverse (c.upper ++ x ∷ c.lower),
            record {
              front = [];
              x = x;
              upper = c.upper;
              y = c.y;
              lower = c.lower;
              before = ap (λ (z : List ℕ). x ∷ z) c.is;
              falls = rising-from (λ u v. nat_lt v u) (c.upper ++ c.y ∷ c.lower) (subst (λ (z : List ℕ). Falls z) c.is f);
              greater = c.greater;
              no_later = all-below c.lower c.below;
              after = refl;
            },
          )
      | inr k ↦ inl (above k (no_member-head x w l m), f)
    ]
      where
        above : w ≤ x → w ≢ x → Above (λ a b. nat_lt b a) x (w ∷ l)
        above k n zero y e = lt-ltb y x (omega (arith, k, n, e))
        above k n (suc i) y e = let d : y < w = ltb-true y w (f.0 i y e) in lt-ltb y x (omega (arith, d, k))
