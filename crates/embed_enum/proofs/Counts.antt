-- Cyclic orders and members counted; the number of an arrangement, one key after the other.
use Rattle.std.proofs.Common.{◌≡◌, ℕ, zero, suc, ◌+◌, ◌-◌, ◌*◌, ◌<◌, ◌≤◌, cond, nat_lt, Bool, true, false, List, [], ◌∷◌, length, drop, slice_index_or, reverse, refl, sym, ap, ◌∙◌, subst, arith, inl, inr, add-mul, mul-one, mul_assoc}
use Rattle.std.proofs.lemmas.Bool.{cases_eq}
use Rattle.std.proofs.lemmas.Nat.{mul-le}
use Rattle.std.proofs.lemmas.List.{get_or-reverse, length-reverse, length-drop, get_or_default, drop_more}
use Rattle.permutations.specs.Cyclic.{first_or, last_or}
use Rattle.pair_split.specs.Tutte.{Node, node_at}
use Rattle.pair_split.specs.declared.components.Kind.{Kind}
use Rattle.pair_split.specs.declared.components.Kind.TheVariants.{S, P, R, B}
use Rattle.choice_lists.specs.Arrangements.{factorial, factorial_number}
use Rattle.choice_lists.proofs.Numbers.{factorial-positive}
use Rattle.choice_lists.proofs.Smaller.{smaller}
use Rattle.skeletons.specs.Lists.{cyclic_orders, choice_count, count_below}
use Rattle.embed_enum.specs.Digits.{rigid_digit, radix_at}

-- one item more
pub orders-more : (f : ℕ) → 0 < f → cyclic_orders (f + 1) ≡ f * cyclic_orders f
orders-more zero h = absurd (omega arith)
orders-more (suc m) h = let e : suc m + 1 ≡ suc (suc m) = omega arith in ap cyclic_orders e ∙ ap (λ z. z * cyclic_orders (suc m)) (omega arith)

-- there is a cyclic order
pub orders-positive : (n : ℕ) → 0 < cyclic_orders n
orders-positive zero = omega arith
orders-positive (suc zero) = omega arith
orders-positive (suc (suc n)) = let h : 0 < cyclic_orders (suc n) = orders-positive (suc n) in omega (arith, h, mul-le 1 1 (n + 1) (cyclic_orders (suc n)) (omega arith) (omega (arith, h)))

-- more items have no fewer
pub orders-step : (n : ℕ) → cyclic_orders n ≤ cyclic_orders (suc n)
orders-step zero = omega arith
orders-step (suc n) = omega (arith, mul-le 1 (cyclic_orders (suc n)) (n + 1) (cyclic_orders (suc n)) (omega arith) (omega arith))

pub orders-grow : (m n : ℕ) → m ≤ n → cyclic_orders m ≤ cyclic_orders n
orders-grow m zero l = let e : m ≡ 0 = omega (arith, l) in subst (λ z. cyclic_orders z ≤ 1) (sym e) (omega arith)
orders-grow m (suc n) l = elim (cases_eq m (suc n)) [
  | inl e ↦ subst (λ z. cyclic_orders z ≤ cyclic_orders (suc n)) (sym e) (omega arith)
  | inr d ↦ omega (arith, orders-grow m n (omega (arith, l, d)), orders-step n)
]

-- each node has a choice
pub radix-positive : (nodes : List Node) (locked : ℕ → Bool) (k : ℕ) → 0 < radix_at nodes locked k
radix-positive nodes locked k = by_lock (locked k)
  where
    by_kind : (kind : Kind) → 0 < choice_count kind (length (node_at nodes k).items)
    by_kind S = omega arith
    by_kind P = orders-positive (length (node_at nodes k).items)
    by_kind R = omega arith
    by_kind B = omega arith

    by_lock : (lock : Bool) → 0 < cond lock 1 (choice_count (node_at nodes k).kind (length (node_at nodes k).items))
    by_lock true = omega arith
    by_lock false = by_kind (node_at nodes k).kind

-- and each list a member
pub count-positive : (nodes : List Node) (locked : ℕ → Bool) (n : ℕ) → 0 < count_below nodes locked n
count-positive nodes locked zero = omega arith
count-positive nodes locked (suc n) =
    let a : 0 < count_below nodes locked n = count-positive nodes locked n in
    let b : 0 < radix_at nodes locked n = radix-positive nodes locked n in
    omega (arith, mul-le 1 1 (count_below nodes locked n) (radix_at nodes locked n) (omega (arith, a)) (omega (arith, b)))

-- more nodes have no fewer
pub count-grows : (nodes : List Node) (locked : ℕ → Bool) (m n : ℕ) → m ≤ n → count_below nodes locked m ≤ count_below nodes locked n
count-grows nodes locked m zero l = let e : m ≡ 0 = omega (arith, l) in subst (λ z. count_below nodes locked z ≤ 1) (sym e) (omega arith)
count-grows nodes locked m (suc n) l = elim (cases_eq m (suc n)) [
  | inl e ↦ subst (λ z. count_below nodes locked z ≤ count_below nodes locked (suc n)) (sym e) (omega arith)
  | inr d ↦
      let b : 0 < radix_at nodes locked n = radix-positive nodes locked n in
      omega (arith, count-grows nodes locked m n (omega (arith, l, d)), mul-le (count_below nodes locked n) 1 (count_below nodes locked n) (radix_at nodes locked n) (omega arith) (omega (arith, b)), mul-one (count_below nodes locked n))
]

-- one key more of the number of an arrangement
pub number-step : (number i : ℕ) (keys : List ℕ) → i < length keys
    → (number * (length keys - i) + smaller (slice_index_or keys i 0) (drop (i + 1) keys)) * factorial (length keys - (i + 1)) + factorial_number (drop (i + 1) keys)
    ≡ number * factorial (length keys - i) + factorial_number (drop i keys)
number-step number i keys l =
    let m : ℕ = length keys - (i + 1) in
    let x : ℕ = slice_index_or keys i 0 in
    let t : List ℕ = drop (i + 1) keys in
    let e : length keys - i ≡ m + 1 = omega (arith, l) in
    let u : length keys - i ≡ suc m = omega (arith, l) in
    let a : number * factorial (length keys - i) ≡ number * ((m + 1) * factorial m) = ap (λ z. number * factorial z) u in
    let b : factorial_number (drop i keys) ≡ smaller x t * factorial m + factorial_number t =
    ap factorial_number (drop_more keys i 0 l) ∙ ap (λ z. smaller x t * factorial z + factorial_number t) (length-drop (i + 1) keys) in
    let g : (number * (length keys - i) + smaller x t) * factorial m ≡ (number * (m + 1) + smaller x t) * factorial m = ap (λ z. (number * z + smaller x t) * factorial m) e in
    omega (arith, a, b, g, add-mul (number * (m + 1)) (smaller x t) (factorial m), mul_assoc number (m + 1) (factorial m))

-- which leaves no more than the number
pub number-within : (number i : ℕ) (keys : List ℕ) → i < length keys
    → number * (length keys - i) + smaller (slice_index_or keys i 0) (drop (i + 1) keys) ≤ number * factorial (length keys - i) + factorial_number (drop i keys)
number-within number i keys l =
    let f : 0 < factorial (length keys - (i + 1)) = factorial-positive (length keys - (i + 1)) in
    let d : ℕ = number * (length keys - i) + smaller (slice_index_or keys i 0) (drop (i + 1) keys) in
    omega (arith, number-step number i keys l, mul-le d 1 d (factorial (length keys - (i + 1))) (omega arith) (omega (arith, f)), mul-one d)

-- the second key and the last
pub before-mirror : (keys : List ℕ) → 2 ≤ length keys → cond (nat_lt (slice_index_or keys 1 0) (slice_index_or keys (length keys - 1) 0)) 0 1 ≡ rigid_digit keys
before-mirror [] l = absurd (omega (arith, l))
before-mirror (key ∷ []) l = absurd (omega (arith, l))
before-mirror (key ∷ a ∷ keys) l = ap (λ z. cond (nat_lt a z) 0 1) (last-read key (a ∷ keys) (omega arith))
  where
    first-read : (d : ℕ) (m : List ℕ) → first_or d m ≡ slice_index_or m 0 d
    first-read d [] = refl
    first-read d (x ∷ m) = refl

    last-read : (d : ℕ) (m : List ℕ) → 0 < length m → slice_index_or (d ∷ m) (length (d ∷ m) - 1) 0 ≡ last_or d m
    last-read d m h =
        let n : length (reverse m) ≡ length m = length-reverse m in
        behind m (omega (arith, h)) ∙ sym (get_or-reverse m 0 d h) ∙ sym (first-read d (reverse m))
      where
        behind : (m : List ℕ) → 0 < length m → slice_index_or (d ∷ m) (length (d ∷ m) - 1) 0 ≡ slice_index_or m (length m - 1 - 0) d
        behind [] h = absurd (omega (arith, h))
        behind (x ∷ m) h =
            let e : length (d ∷ x ∷ m) - 1 ≡ suc (length m) = omega arith in
            let f : length m ≡ length (x ∷ m) - 1 - 0 = omega arith in
            ap (λ z. slice_index_or (d ∷ x ∷ m) z 0) e ∙ get_or_default (x ∷ m) (length m) 0 d (omega arith) ∙ ap (λ z. slice_index_or (x ∷ m) z d) f
