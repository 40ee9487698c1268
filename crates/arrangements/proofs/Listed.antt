-- The arrangements at a vertex: all of them, in lexicographic order, the first, the next and the last by options.
use Rattle.std.proofs.Common.{◌≡◌, ℕ, zero, suc, ◌+◌, ◌<◌, ◌≤◌, ◌↔◌, inl, inr, Bool, true, false, not, nat_lt, List, [], ◌∷◌, ◌++◌, length, take, get_or, slice_index_or, Contains, IsPermutation, refl, sym, ap, ◌∙◌, subst, arith, append-nil, length-append}
use Rattle.std.specs.List.{list_all}
use Rattle.std.proofs.lemmas.Bool.{cases_lt, both_ways, and_parts, and_from, not-true, not_from_false, ltb-true, true≢false, false_from_ne_true}
use Rattle.std.proofs.lemmas.List.Kept.{AllPairs-filter}
use Rattle.std.proofs.lemmas.List.Sorted.{IsPermutation-refl, length_permutation}
use Rattle.permutations.specs.Members.{is_member}
use Rattle.permutations.specs.Cyclic.{first_or}
use Rattle.permutations.proofs.Members.{member-head, member-cases}
use Rattle.permutations.proofs.Places.{first-at}
use Rattle.choice_lists.specs.Order.{IsAt, Lists, is_before}
use Rattle.choice_lists.specs.Arrangements.{factorial_number}
use Rattle.choice_lists.specs.Choices.{IsBondChoice}
use Rattle.choice_lists.specs.Products.{IsFirst, IsLast}
use Rattle.choice_lists.proofs.Places.{At, Has, at-from, at-is, at-within, at-any, has-from, contains-from, Ascends, ascends-from, rising-from}
use Rattle.choice_lists.proofs.Orders.{linear-before}
use Rattle.choice_lists.proofs.Products.{at-last}
use Rattle.choice_lists.proofs.Smaller.{has-member}
use Rattle.choice_lists.proofs.Choices.{bond-ascends, bond-is, bond-at}
use Rattle.arrangements.specs.Arranged.{keeps, cross, is_arranged, cyclic_orders, arrangements_at, first_arrangement, AreOrders, IsArrangement}
use Rattle.arrangements.specs.Options.{follower, is_option, IsBuilt, IsFilled, HasNoGreater, IsFollowing}
use Rattle.arrangements.proofs.Lists.{all-passes, passes-all, has-filter, filter-has, next-place, ascends-at, move-cut}
use Rattle.arrangements.proofs.Changes.{cross-edges}
use Rattle.arrangements.proofs.Waiting.{option-cases, option-opens, built-more}
use Rattle.arrangements.proofs.Built.{option-exists, built-arrangement, arrangement-built}
use Rattle.arrangements.proofs.Greedy.{filled-least, none-after, changed-after, changed-next, changed-built, same-member}

-- the cyclic orders of increasing edges increase
pub orders-ascend : (edges : List ℕ) → Ascends nat_lt edges → Ascends is_before (cyclic_orders edges)
orders-ascend [] a = (λ i y m. absurd m, tt)
orders-ascend (x ∷ edges) a = bond-ascends x edges a

-- each has all edges, the least first
pub orders-choice : (edges : List ℕ) → Ascends nat_lt edges → (l : List ℕ) → Has (cyclic_orders edges) l → IsBondChoice edges l
orders-choice [] a l (zero, e) = record { arranged = subst (IsPermutation []) e (IsPermutation-refl []); least_first = ap (first_or 0) (sym e) }
orders-choice [] a l (suc i, e) = absurd e
orders-choice (x ∷ edges) a l h = bond-is x edges a h.0 l h.1

-- and each such list is one
pub choice-orders : (edges : List ℕ) → Ascends nat_lt edges → (l : List ℕ) → IsBondChoice edges l → Has (cyclic_orders edges) l
choice-orders [] a [] c = (0, refl)
choice-orders [] a (x ∷ l) c = absurd (omega (arith, length_permutation [] (x ∷ l) c.arranged))
choice-orders (x ∷ edges) a l c = (factorial_number l, bond-at x edges a l c)

-- what the test says: each block keeps its order, and none cross
pub arranged-parts : (block : ℕ → ℕ) (order : ℕ → List ℕ) (l : List ℕ) → is_arranged block order l ≡ true
    → ((e : ℕ) → is_member e l ≡ true → keeps block order (block e) l ≡ true) × ((b c : ℕ) → cross block b c l ≡ false)
arranged-parts block order l h = (λ e m. all-passes (λ x. keeps block order (block x) l) l e p.0 m, λ b c. false_from_ne_true (cross block b c l) (λ t. crossing b c t (cross-edges block b c l t)))
  where
    rows : ℕ → Bool
    rows e = list_all (λ f. not (cross block (block e) (block f) l)) l

    p : (list_all (λ x. keeps block order (block x) l) l ≡ true) × (list_all rows l ≡ true)
    p = and_parts (list_all (λ x. keeps block order (block x) l) l) (list_all rows l) h

    crossing : (b c : ℕ) → cross block b c l ≡ true → ((x : ℕ) × (y : ℕ) × (is_member x l ≡ true) × (is_member y l ≡ true) × (block x ≡ b) × (block y ≡ c)) → ⊥
    crossing b c t w =
        let r : list_all (λ f. not (cross block (block w.0) (block f) l)) l ≡ true = all-passes rows l w.0 p.1 w.2 in
        let n : not (cross block (block w.0) (block w.1) l) ≡ true = all-passes (λ f. not (cross block (block w.0) (block f) l)) l w.1 r w.3 in
        both_ways (cross block b c l) (subst (λ (z : ℕ). cross block b z l ≡ false) w.5 (subst (λ (z : ℕ). cross block z (block w.1) l ≡ false) w.4 (not-true (cross block (block w.0) (block w.1) l) n))) t

-- and it says no more
pub parts-arranged : (block : ℕ → ℕ) (order : ℕ → List ℕ) (l : List ℕ) → ((e : ℕ) → is_member e l ≡ true → keeps block order (block e) l ≡ true)
    → ((e x : ℕ) → is_member e l ≡ true → is_member x l ≡ true → cross block (block e) (block x) l ≡ false) → is_arranged block order l ≡ true
parts-arranged block order l k a = and_from (list_all (λ e. keeps block order (block e) l) l) (list_all (λ e. list_all (λ x. not (cross block (block e) (block x) l)) l) l)
    (passes-all (λ e. keeps block order (block e) l) l k)
    (passes-all (λ e. list_all (λ x. not (cross block (block e) (block x) l)) l) l
    (λ e m. passes-all (λ x. not (cross block (block e) (block x) l)) l (λ x n. not_from_false (cross block (block e) (block x) l) (a e x m n))))

module _ (block : ℕ → ℕ) (order : ℕ → List ℕ) (edges : List ℕ) (o : AreOrders block order edges) where
  -- the edges increase
  rise : Ascends nat_lt edges
  rise = ascends-from nat_lt edges o.rise

  -- the list of the arrangements
  abbrev all : List (List ℕ)
  all = arrangements_at block order edges

  -- what is in it is an arrangement
  pub has-arrangement : (l : List ℕ) → Has (arrangements_at block order edges) l → IsArrangement block order edges l
  has-arrangement l h =
      let w = filter-has (is_arranged block order) (cyclic_orders edges) l h in
      let c = orders-choice edges rise l w.0 in
      let p = arranged-parts block order l w.1 in
      record { all = c.arranged; least_first = c.least_first; kept = p.0; apart = p.1 }

  -- and each arrangement is in it
  pub arrangement-has : (l : List ℕ) → IsArrangement block order edges l → Has (arrangements_at block order edges) l
  arrangement-has l a = has-filter (is_arranged block order) (cyclic_orders edges) l
      (choice-orders edges rise l (record { arranged = a.all; least_first = a.least_first }))
      (parts-arranged block order l a.kept (λ e x m n. a.apart (block e) (block x)))

  -- they increase
  pub arrangements-ascend : Ascends is_before (arrangements_at block order edges)
  arrangements-ascend = ascends-from is_before all (AllPairs-filter (λ x y. is_before x y ≡ true) (is_arranged block order) (cyclic_orders edges) (rising-from is_before (cyclic_orders edges) (orders-ascend edges rise)))

  -- all are listed
  pub arrangements-listed : Lists is_before (IsArrangement block order edges) (arrangements_at block order edges)
  arrangements-listed = record {
    rises = rising-from is_before all arrangements-ascend;
    exactly = λ l. (λ c. has-arrangement l (has-from all l c), λ a. contains-from all l (arrangement-has l a));
  }

  -- the options after a prefix
  abbrev option : List ℕ → ℕ → Bool
  option = is_option block (follower block order) edges

  -- an arrangement is as long as the edges are many
  pub arrangement-length : (l : List ℕ) → IsArrangement block order edges l → length l ≡ length edges
  arrangement-length l a = length_permutation edges l a.all

  -- what is listed is built
  has-built : (l : List ℕ) → Has all l → IsBuilt block (follower block order) edges l
  has-built l h = arrangement-built block order edges o l (has-arrangement l h)

  has-length : (l : List ℕ) → Has all l → length l ≡ length edges
  has-length l h = arrangement-length l (has-arrangement l h)

  -- what is built of all edges, from the least on, is listed
  built-has : (l : List ℕ) → IsBuilt block (follower block order) edges l → length l ≡ length edges → first_or 0 l ≡ first_or 0 edges → Has all l
  built-has l h long first = arrangement-has l (built-arrangement block order edges o l h long first)

  -- exactly
  pub arranged-by_options : (l : List ℕ) → length l ≡ length edges → first_or 0 l ≡ first_or 0 edges → IsBuilt block (follower block order) edges l ↔ Contains (arrangements_at block order edges) l
  arranged-by_options l long first = (λ h. contains-from all l (built-has l h long first), λ c. has-built l (has-from all l c))

  -- a built list goes on until all edges are there
  extend : (n : ℕ) (p : List ℕ) → IsBuilt block (follower block order) edges p → length p + n ≡ length edges
      → (q : List ℕ) × IsBuilt block (follower block order) edges (p ++ q) × (length (p ++ q) ≡ length edges)
  extend zero p h e = let s : p ≡ p ++ [] = sym (append-nil p) in ([], subst (IsBuilt block (follower block order) edges) s h, omega (arith, ap length s, e))
  extend (suc n) p h e =
      let w = option-exists block order edges o p h (omega (arith, e)) in
      let r = extend n (p ++ w.0 ∷ []) (built-more block (follower block order) edges p w.0 h w.1) (omega (arith, e, length-append p (w.0 ∷ []))) in
      let s : (p ++ w.0 ∷ []) ++ r.0 ≡ p ++ w.0 ∷ r.0 = move-cut p w.0 r.0 in
      (w.0 ∷ r.0, subst (IsBuilt block (follower block order) edges) s r.1, sym (ap length s) ∙ r.2)

  -- there is an arrangement
  pub some-arrangement : (l : List ℕ) × Has (arrangements_at block order edges) l
  some-arrangement = at edges refl
    where
      at : (k : List ℕ) → edges ≡ k → (l : List ℕ) × Has all l
      at [] s = ([], built-has [] (λ i w. absurd (omega (arith, w))) (ap length (sym s)) (ap (first_or 0) (sym s)))
      at (x ∷ k) s = (x ∷ r.0, built-has (x ∷ r.0) r.1 r.2 (ap (first_or 0) (sym s)))
        where
          one : IsBuilt block (follower block order) edges ([] ++ x ∷ [])
          one = built-more block (follower block order) edges [] x (λ i w. absurd (omega (arith, w))) (option-opens block (follower block order) edges [] x (subst (λ (z : List ℕ). is_member x z ≡ true) (sym s) (member-head x k)) refl)

          r : (q : List ℕ) × IsBuilt block (follower block order) edges ((x ∷ []) ++ q) × (length ((x ∷ []) ++ q) ≡ length edges)
          r = extend (length k) (x ∷ []) one (omega (arith, ap length s))

  -- so there is a first one
  pub first-is_first : IsFirst (arrangements_at block order edges) (first_arrangement block order edges)
  first-is_first = at all some-arrangement
    where
      at : (k : List (List ℕ)) → ((l : List ℕ) × Has k l) → IsFirst k (slice_index_or k 0 [])
      at [] w = absurd w.1.1
      at (x ∷ k) w = record { others = k; is = refl }

  -- an option of the empty prefix is an edge, and not below the first
  first-least : (e : ℕ) → is_member e edges ≡ true → first_or 0 edges ≤ e
  first-least e m = at edges rise m
    where
      at : (k : List ℕ) → Ascends nat_lt k → is_member e k ≡ true → first_or 0 k ≤ e
      at [] r n = absurd (true≢false (sym n))
      at (x ∷ k) r n = elim (member-cases e x k n) [
        | inl q ↦ omega (arith, q)
        | inr t ↦ let h = has-member k e t in let l : x < e = ltb-true x e (r.0 h.0 e h.1) in omega arith
      ]

  -- with the least option at each place: the first arrangement
  pub filled-first : (l : List ℕ) → length l ≡ length edges → IsFilled block (follower block order) edges 0 l → first_arrangement block order edges ≡ l
  filled-first l long h = at all refl (built-has l built long (first l edges refl refl))
    where
      built : IsBuilt block (follower block order) edges l
      built i w = (h i (omega arith) w).option

      first : (k m : List ℕ) → l ≡ k → edges ≡ m → first_or 0 k ≡ first_or 0 m
      first [] [] s t = refl
      first [] (y ∷ m) s t = absurd (omega (arith, long, ap length s, ap length t))
      first (x ∷ k) [] s t = absurd (omega (arith, long, ap length s, ap length t))
      first (x ∷ k) (y ∷ m) s t = omega (arith, low, high)
        where
          place : 0 < length l
          place = omega (arith, ap length s)

          here : get_or l 0 0 ≡ x
          here = ap (λ (z : List ℕ). get_or z 0 0) s

          my : is_member y edges ≡ true
          my = subst (λ (z : List ℕ). is_member y z ≡ true) (sym t) (member-head y m)

          low : x ≤ y
          low = subst (λ (z : ℕ). z ≤ y) here ((h 0 (omega arith) place).least y (option-opens block (follower block order) edges [] y my refl) (omega arith))

          mx : is_member x edges ≡ true
          mx = elim (option-cases block (follower block order) edges [] x (subst (λ (z : ℕ). option [] z ≡ true) here (built 0 place))) [
            | inl a ↦ a.0
            | inr w ↦ absurd (omega (arith, ap length w.1.is, length-append w.1.front (w.0 ∷ [])))
          ]

          high : y ≤ x
          high = omega (arith, first-least x mx, ap (first_or 0) t)

      at : (k : List (List ℕ)) → all ≡ k → Has k l → slice_index_or k 0 [] ≡ l
      at [] s h = absurd h.1
      at (x ∷ k) s (zero, e) = e
      at (x ∷ k) s (suc i, e) = absurd (filled-least option 0 l x (has-length x head ∙ sym long) refl less (has-built x head)
          ((subst (Ascends is_before) s arrangements-ascend).0 i l e))
        where
          head : Has all x
          head = subst (λ (z : List (List ℕ)). Has z x) (sym s) (0, refl)

          less : (i q : ℕ) → 0 ≤ i → i < length l → option (take i l) q ≡ true → get_or l i 0 ≤ q
          less i q a w p = (h i a w).least q p (omega arith)

  -- two lists with one first member have one prefix of length 1
  take-first : (l k : List ℕ) → length l ≡ length k → first_or 0 l ≡ first_or 0 k → take 1 l ≡ take 1 k
  take-first [] [] e s = refl
  take-first [] (y ∷ k) e s = absurd (omega arith)
  take-first (x ∷ l) [] e s = absurd (omega arith)
  take-first (x ∷ l) (y ∷ k) e s = ap (λ (z : ℕ). z ∷ []) s

  -- changed at the last place after the first with a greater option, and filled: at the next place of the list
  pub following-next : (l k : List ℕ) (i : ℕ) → IsAt (arrangements_at block order edges) i l → IsFollowing block (follower block order) edges l k → IsAt (arrangements_at block order edges) (i + 1) k
  following-next l k i a c = at-is all (i + 1) k (next-place is_before all linear-before.apart arrangements-ascend i l k here listed after between)
    where
      here : At all i l
      here = at-from all i l a.0 a.1

      hl : Has all l
      hl = (i, here)

      greater : get_or l c.place 0 < get_or k c.place 0
      greater = omega (arith, c.greater.enough)

      within_k : c.place < length k
      within_k = omega (arith, c.within, c.same_length)

      built : IsBuilt block (follower block order) edges k
      built = changed-built option l k c.place c.within c.same_length c.same_before greater (has-built l hl) c.greater.option (λ j g w. (c.filled j g w).option)

      same_first : first_or 0 k ≡ first_or 0 l
      same_first = sym (first-at k) ∙ same-member k l c.place 0 c.same_before (omega (arith, c.after_first)) ∙ first-at l

      listed : Has all k
      listed = built-has k built (c.same_length ∙ has-length l hl) (same_first ∙ (has-arrangement l hl).least_first)

      after : is_before l k ≡ true
      after = changed-after option l k c.place c.within c.same_length c.same_before greater

      between : (m : List ℕ) → Has all m → is_before l m ≡ true → is_before m k ≡ true → ⊥
      between m h = changed-next option l k c.place c.within c.same_length c.same_before greater
          (λ q p g. c.greater.least q p (omega (arith, g)))
          (λ j q g w p. c.last j q g w p)
          (λ j q g w p. (c.filled j g w).least q p (omega arith))
          m (has-built m h) (has-length m h ∙ sym (has-length l hl))

  -- without such a place: the last arrangement
  pub no_greater-last : (l : List ℕ) → Contains (arrangements_at block order edges) l → HasNoGreater block (follower block order) edges 1 l → IsLast (arrangements_at block order edges) l
  no_greater-last l c h = elim (cases_lt (w.0 + 1) (length all)) [
    | inl a ↦
        let z = at-any all (w.0 + 1) a in
        absurd (none-after option 1 l z.0 (has-length z.0 (w.0 + 1, z.1) ∙ sym (has-length l w))
        (take-first z.0 l (has-length z.0 (w.0 + 1, z.1) ∙ sym (has-length l w)) ((has-arrangement z.0 (w.0 + 1, z.1)).least_first ∙ sym (has-arrangement l w).least_first))
        h (has-built z.0 (w.0 + 1, z.1)) (ascends-at is_before all arrangements-ascend w.0 (w.0 + 1) l z.0 (omega arith) w.1 z.1))
    | inr g ↦ at-last all w.0 l w.1 (omega (arith, g, at-within all w.0 l w.1))
  ]
    where
      w : Has all l
      w = has-from all l c
