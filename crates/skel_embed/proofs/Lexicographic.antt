-- Which of two lists comes first: a rising list before all its arrangements, and of a cyclic order and its mirror image the one
-- whose second member is the smaller.
use Rattle.std.proofs.Common.{◌≡◌, ℕ, zero, suc, ◌<◌, ◌≤◌, ◌==◌, ◌&&◌, inl, inr, true, false, List, [], ◌∷◌, ◌++◌, length, map, reverse, get_or, refl, sym, ap, ◌∙◌, subst, arith, IsPermutation}
use Rattle.std.specs.Prelude.{nat_lt}
use Rattle.std.proofs.lemmas.Bool.{cases_eq, both_ways, true≢false, or_cases, and_parts, eqb-true, ltb-true, false_from_ne_true}
use Rattle.std.proofs.lemmas.List.{length-reverse, reverse-append, get_or_default}
use Rattle.std.proofs.lemmas.List.Sorted.{length_permutation}
use Rattle.permutations.specs.Cyclic.{first_or}
use Rattle.permutations.specs.Members.{is_member, is_distinct}
use Rattle.permutations.proofs.Arrangements.{permutation-member, contains-from_member}
use Rattle.permutations.proofs.Members.{member-head, member-reverse, distinct-head}
use Rattle.permutations.proofs.Places.{told-distinct}
use Rattle.multigraph.specs.Part.{Rises}
use Rattle.multigraph.proofs.Places.{rises-once}
use Rattle.pair_split.specs.Tutte.{is_before}
use Rattle.choice_lists.proofs.Smaller.{permutation-tail}
use Rattle.skeletons.proofs.Before.{before-irreflexive}

-- the first of rising numbers is the least
pub rises-first : (x : ℕ) (l : List ℕ) → Rises (x ∷ l) → (e : ℕ) → is_member e (x ∷ l) ≡ true → x ≤ e
rises-first x l r e m = at w.0 w.1 w.2
  where
    w : (i : ℕ) × (i < length (x ∷ l)) × (get_or (x ∷ l) i e ≡ e)
    w = contains-from_member (x ∷ l) e m

    at : (i : ℕ) → i < length (x ∷ l) → get_or (x ∷ l) i e ≡ e → x ≤ e
    at zero d q = omega (arith, q)
    at (suc i) d q = let f : get_or (x ∷ l) (suc i) 0 ≡ e = get_or_default (x ∷ l) (suc i) 0 e d ∙ q in omega (arith, f, r 0 (suc i) (omega arith) d)

-- the others rise
rises-rest : (x : ℕ) (l : List ℕ) → Rises (x ∷ l) → Rises l
rises-rest x l r i j a b = r (suc i) (suc j) (omega (arith, a)) (omega (arith, b))

-- no arrangement of rising numbers comes before them
pub rising-least : (l other : List ℕ) → Rises l → IsPermutation l other → is_before other l ≡ false
rising-least [] [] r p = refl
rising-least [] (y ∷ ys) r p = refl
rising-least (x ∷ xs) [] r p = absurd (omega (arith, length_permutation (x ∷ xs) [] p))
rising-least (x ∷ xs) (y ∷ ys) r p = false_from_ne_true (is_before (y ∷ ys) (x ∷ xs)) (λ h. elim (or_cases (nat_lt y x) ((y == x) && is_before ys xs) h) [
  | inl a ↦ omega (arith, ltb-true y x a, rises-first x xs r y (sym (permutation-member (x ∷ xs) (y ∷ ys) y p) ∙ member-head y ys))
  | inr a ↦
      let u = and_parts (y == x) (is_before ys xs) a in
      let q : IsPermutation (x ∷ xs) (x ∷ ys) = subst (λ z. IsPermutation (x ∷ xs) (z ∷ ys)) (eqb-true y x u.0) p in
      both_ways (is_before ys xs) (rising-least xs ys (rises-rest x xs r) (permutation-tail x xs ys (told-distinct (x ∷ xs) (rises-once (x ∷ xs) r)) q)) u.1
])

-- the other way round, a list without repetition whose first member isn't above its last doesn't come before it
module _ (key : ℕ → ℕ) where
  reversed-later : (xs ys : List ℕ) → reverse xs ≡ ys → is_distinct xs ≡ true → ((y z : ℕ) → is_member y xs ≡ true → is_member z xs ≡ true → y < z → key y < key z) → (d : ℕ) → first_or d xs ≤ first_or d ys
      → is_before (map key ys) (map key xs) ≡ true → ⊥
  reversed-later [] [] e once up d le h = true≢false (sym h)
  reversed-later [] (y ∷ ys) e once up d le h = true≢false (sym h)
  reversed-later (y ∷ xs) [] e once up d le h = omega (arith, length-reverse (y ∷ xs), ap length e)
  reversed-later (y ∷ xs) (z ∷ zs) e once up d le h = elim (cases_eq y z) [
    | inr n ↦
        let less : key y < key z = up y z (member-head y xs) (sym (member-reverse z (y ∷ xs)) ∙ ap (is_member z) e ∙ member-head z zs) (omega (arith, le, n)) in
        elim (or_cases (nat_lt (key z) (key y)) ((key z == key y) && is_before (map key zs) (map key xs)) h) [
          | inl a ↦ omega (arith, less, ltb-true (key z) (key y) a)
          | inr a ↦ omega (arith, less, eqb-true (key z) (key y) (and_parts (key z == key y) (is_before (map key zs) (map key xs)) a).0)
        ]
    | inl q ↦ alone xs refl q
  ]
    where
      alone : (rest : List ℕ) → xs ≡ rest → y ≡ z → ⊥
      alone [] p q =
          let s : z ∷ zs ≡ y ∷ [] = sym e ∙ ap (λ (u : List ℕ). reverse (y ∷ u)) p in
          before-irreflexive (map key (y ∷ [])) (subst (λ (u : List ℕ). is_before (map key u) (map key (y ∷ [])) ≡ true) s (subst (λ (u : List ℕ). is_before (map key (z ∷ zs)) (map key (y ∷ u)) ≡ true) p h))
      alone (w ∷ ws) p q = found (reverse xs) refl
        where
          found : (back : List ℕ) → reverse xs ≡ back → ⊥
          found [] b = omega (arith, length-reverse xs, ap length b, ap length p)
          found (u ∷ us) b =
              let s : z ∷ zs ≡ (u ∷ us) ++ y ∷ [] = sym e ∙ reverse-append (y ∷ []) xs ∙ ap (λ (v : List ℕ). v ++ y ∷ []) b in
              let t : z ≡ u = ap (first_or 0) s in
              let m : is_member u xs ≡ true = sym (member-reverse u xs) ∙ ap (is_member u) b ∙ member-head u us in
              both_ways (is_member y xs) (distinct-head y xs once) (subst (λ v. is_member v xs ≡ true) (sym t ∙ sym q) m)

  -- so of a cyclic order and its mirror image
  pub mirrored-later : (x : ℕ) (xs : List ℕ) → is_distinct xs ≡ true → ((y z : ℕ) → is_member y xs ≡ true → is_member z xs ≡ true → y < z → key y < key z) → first_or x xs ≤ first_or x (reverse xs)
      → is_before (map key (x ∷ reverse xs)) (map key (x ∷ xs)) ≡ false
  mirrored-later x xs once up le = false_from_ne_true (is_before (map key (x ∷ reverse xs)) (map key (x ∷ xs))) (λ h.
      elim (or_cases (nat_lt (key x) (key x)) ((key x == key x) && is_before (map key (reverse xs)) (map key xs)) h) [
        | inl a ↦ omega (arith, ltb-true (key x) (key x) a)
        | inr a ↦ reversed-later xs (reverse xs) refl once up x le (and_parts (key x == key x) (is_before (map key (reverse xs)) (map key xs)) a).1
      ])
