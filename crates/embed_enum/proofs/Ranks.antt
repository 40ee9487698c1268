-- The rank of a rotation system in the list with locked nodes is the number whose digits are the places of its choices.
use Rattle.std.proofs.Common.{◌≡◌, ◌≢◌, ℕ, ◌+◌, ◌<◌, ◌≤◌, cond, nat_lt, Bool, true, List, [], ◌∷◌, ◌++◌, length, map, reverse, refl, sym, ap, ◌∙◌, subst, arith, inl, inr}
use Rattle.std.proofs.lemmas.Bool.{cases_Bool, cases_lt, lt-ltb, le-ltb, both_ways}
use Rattle.std.proofs.lemmas.List.{length-reverse, reverse-append}
use Rattle.permutations.specs.Cyclic.{first_or, last_or}
use Rattle.permutations.specs.Members.{is_member, is_distinct}
use Rattle.permutations.proofs.Members.{member-head, member-reverse, distinct-head, distinct-tail}
use Rattle.multigraph.specs.Graph.{Multigraph}
use Rattle.pair_split.specs.Tutte.{Node, node_at}
use Rattle.pair_split.specs.declared.components.Kind.{Kind}
use Rattle.pair_split.specs.declared.components.Kind.TheVariants.{S, P, R, B}
use Rattle.choice_lists.specs.Order.{IsRising}
use Rattle.choice_lists.specs.Arrangements.{factorial_number}
use Rattle.choice_lists.specs.Choices.{bond_choices, rigid_choices, IsBondChoice}
use Rattle.choice_lists.specs.Products.{product}
use Rattle.choice_lists.specs.Numbers.{radix_number}
use Rattle.choice_lists.specs.Order.{vector_before, is_before}
use Rattle.choice_lists.proofs.Places.{At, at-from, at-within, at-get, at-place, has-from, Ascends, ascends-from, ascends-once}
use Rattle.choice_lists.proofs.Orders.{linear-vectors, never-itself}
use Rattle.choice_lists.proofs.Products.{product-at, product-ascends}
use Rattle.choice_lists.proofs.Choices.{before-never, bond-at, rigid-first, rigid-second, choice_list-ascends}
use Rattle.choice_lists.proofs.ToldByChoices.{values_from, values-map, values-back}
use Rattle.skeletons.specs.Items.{IsBlockTree}
use Rattle.faces.specs.Euler.{IsPlaneSystem}
use Rattle.skeletons.specs.Choices.{choice}
use Rattle.skeletons.specs.Families.{IsPossibleFor}
use Rattle.skeletons.specs.Lists.{IsKept, IsKeptList, IsRank, choice_count, list_count}
use Rattle.skeletons.proofs.Vertices.{least-has}
use Rattle.skeletons.proofs.Before.{list-unique}
use Rattle.skeleton_choices.proofs.Plane.{choice-round}
use Rattle.skeleton_choices.proofs.Told.{rigid-three, possible}
use Rattle.skeleton_choices.proofs.Listed.{choice-normal, options_of, options, bond-keys_cut, rise, options-list, options-count, free, free-locked, free-open, listed, kept-list, kept-count}
use Rattle.embed_enum.specs.Digits.{rigid_digit, digit_of, radix_at, digit_at, number_to}
use Rattle.embed_enum.proofs.Digits.{number-values, digits-values, radices-same}

-- the last member of a list without repetition is not the first
pub last-apart : (d a : ℕ) (l : List ℕ) → is_distinct (a ∷ l) ≡ true → 0 < length l → last_or d (a ∷ l) ≢ a
last-apart d a l e n = λ s. apart (reverse l) (omega (arith, n, length-reverse l)) (λ z m. sym (member-reverse z l) ∙ m) (sym (ap (first_or d) (reverse-append (a ∷ []) l)) ∙ s)
  where
    apart : (m : List ℕ) → 0 < length m → ((z : ℕ) → is_member z m ≡ true → is_member z l ≡ true) → first_or d (m ++ a ∷ []) ≢ a
    apart [] h f = absurd (omega (arith, h))
    apart (z ∷ m) h f = λ s. both_ways (is_member a l) (distinct-head a l e) (subst (λ v. is_member v l ≡ true) s (f z (member-head z m)))

-- the digit of a triconnected node's choice is its place
rigid-at : (c : List ℕ) → is_distinct c ≡ true → 3 ≤ length c → At (rigid_choices c) (rigid_digit c) c
rigid-at [] d l = absurd (omega arith)
rigid-at (key ∷ []) d l = absurd (omega arith)
rigid-at (key ∷ a ∷ keys) d l = elim (cases_lt a (last_or key (a ∷ keys))) [
  | inl h ↦ let w = rigid-first key (a ∷ keys) h in at-place (rigid_choices (key ∷ a ∷ keys)) 0 (rigid_digit (key ∷ a ∷ keys)) (key ∷ a ∷ keys) (sym (ap (λ z. cond z 0 1) (lt-ltb a (last_or key (a ∷ keys)) h))) (at-from (rigid_choices (key ∷ a ∷ keys)) 0 (key ∷ a ∷ keys) w.0 w.1)
  | inr h ↦ let w = rigid-second key (a ∷ keys) (omega (arith, h, last-apart key a keys (distinct-tail key (a ∷ keys) d) (omega (arith, l)))) in at-place (rigid_choices (key ∷ a ∷ keys)) 1 (rigid_digit (key ∷ a ∷ keys)) (key ∷ a ∷ keys) (sym (ap (λ z. cond z 0 1) (le-ltb a (last_or key (a ∷ keys)) h))) (at-from (rigid_choices (key ∷ a ∷ keys)) 1 (key ∷ a ∷ keys) w.0 w.1)
]

module _ (g : Multigraph) (nodes : List Node) (b : IsBlockTree g nodes) (r : List (List ℕ)) (p : IsPlaneSystem g r) where
  -- the present choice stands at its digit
  pub choice-at : (k : ℕ) → k < length nodes → At (options g nodes b r p k) (digit_of (node_at nodes k).kind (choice nodes r k)) (choice nodes r k)
  unfolding options options_of
  choice-at k l = by_kind (node_at nodes k).kind refl
    where
      by_kind : (kind : Kind) → (node_at nodes k).kind ≡ kind → At (options_of g nodes b r p kind k) (digit_of kind (choice nodes r k)) (choice nodes r k)
      by_kind P e =
          let c = bond-keys_cut g nodes b r p k l in
          let h : IsPossibleFor P nodes k (choice nodes r k) = subst (λ (z : Kind). IsPossibleFor z nodes k (choice nodes r k)) e (possible g nodes b r k p l) in
          subst (λ (z : List ℕ). At (bond_choices z) (factorial_number (choice nodes r k)) (choice nodes r k)) (sym c.2)
          (bond-at c.0 c.1 (ascends-from nat_lt (c.0 ∷ c.1) (subst (IsRising nat_lt) c.2 (rise g nodes b r p k l))) (choice nodes r k) (subst (λ (z : List ℕ). IsBondChoice z (choice nodes r k)) c.2 (record { arranged = h.arranged; least_first = h.least_first })))
      by_kind R e = rigid-at (choice nodes r k) (choice-normal g nodes b r k p l).0 (subst (λ (z : List ℕ). 3 ≤ length z) (sym (choice-round g nodes b r k R e)) (rigid-three g nodes b r k _ p (l, e) (least-has g nodes b k l)))
      by_kind S e = sym (choice-round g nodes b r k S e)
      by_kind B e = sym (choice-round g nodes b r k B e)

  module _ (locked : ℕ → Bool) where
    -- with locks
    pub free-at : (k : ℕ) → k < length nodes → At (free g nodes b r p locked k) (digit_at nodes locked r k) (choice nodes r k)
    free-at k l = elim (cases_Bool (locked k)) [
      | inl y ↦ subst (λ (z : List (List ℕ)). At z (digit_at nodes locked r k) (choice nodes r k)) (sym (free-locked g nodes b r p locked k y))
          (at-place (choice nodes r k ∷ []) 0 (digit_at nodes locked r k) (choice nodes r k) (sym (ap (λ z. cond z 0 (digit_of (node_at nodes k).kind (choice nodes r k))) y)) refl)
      | inr n ↦ subst (λ (z : List (List ℕ)). At z (digit_at nodes locked r k) (choice nodes r k)) (sym (free-open g nodes b r p locked k n))
          (at-place (options g nodes b r p k) (digit_of (node_at nodes k).kind (choice nodes r k)) (digit_at nodes locked r k) (choice nodes r k) (sym (ap (λ z. cond z 0 (digit_of (node_at nodes k).kind (choice nodes r k))) n)) (choice-at k l))
    ]

    -- the choices rise
    free-ascends : (k : ℕ) → k < length nodes → Ascends is_before (free g nodes b r p locked k)
    free-ascends k l = elim (cases_Bool (locked k)) [
      | inl y ↦ subst (λ (z : List (List ℕ)). Ascends is_before z) (sym (free-locked g nodes b r p locked k y)) ((λ i c m. absurd m), tt)
      | inr n ↦ subst (λ (z : List (List ℕ)). Ascends is_before z) (sym (free-open g nodes b r p locked k n)) (choice_list-ascends (options g nodes b r p k) (options-list g nodes b r p k l))
    ]

    -- as many as the radix
    pub free-count : (k : ℕ) → k < length nodes → length (free g nodes b r p locked k) ≡ radix_at nodes locked k
    free-count k l = elim (cases_Bool (locked k)) [
      | inl y ↦ ap length (free-locked g nodes b r p locked k y) ∙ sym (ap (λ z. cond z 1 (choice_count (node_at nodes k).kind (length (node_at nodes k).items))) y)
      | inr n ↦ ap length (free-open g nodes b r p locked k n) ∙ options-count g nodes b r p k l ∙ sym (ap (λ z. cond z 1 (choice_count (node_at nodes k).kind (length (node_at nodes k).items))) n)
    ]

    -- the digits are below the radices
    pub digit-below : (k : ℕ) → k < length nodes → digit_at nodes locked r k < radix_at nodes locked k
    digit-below k l = omega (arith, free-count k l, at-within (free g nodes b r p locked k) (digit_at nodes locked r k) (choice nodes r k) (free-at k l))

    -- the rank
    pub rank-number : (l : List (List (List ℕ))) → IsKeptList g nodes locked r l → IsRank l r (number_to (length nodes) (radix_at nodes locked) (digit_at nodes locked r))
    rank-number l h =
        let all = listed g nodes b r p locked in
        let possible : ℕ → List (List ℕ) = free g nodes b r p locked in
        let n : ℕ = length nodes in
        let digit : ℕ → ℕ = digit_at nodes locked r in
        let here = has-from all.list r ((all.is.exactly r).1 (record { plane = p; keeps = λ k m y. refl })) in
        let vector : List (List ℕ) = values_from 0 n (choice nodes r) in
        let digits : List ℕ = values_from 0 n digit in
        let stands : At (product (values_from 0 n possible)) (radix_number (map length (values_from 0 n possible)) digits) vector =
        product-at (values_from 0 n possible) vector digits (digits-values 0 n possible (choice nodes r) digit (λ i m. free-at (0 + i) (omega (arith, m)))) in
        let place : here.0 ≡ radix_number (map length (values_from 0 n possible)) digits =
        ascends-once vector_before (product (values_from 0 n possible)) (never-itself vector_before linear-vectors.apart)
        (product-ascends is_before (values_from 0 n possible) before-never (λ k c a. let v = values-back 0 n possible k c a in subst (λ (z : List (List ℕ)). Ascends is_before z) v.1 (free-ascends (0 + k) (omega (arith, v.0)))))
        here.0 (radix_number (map length (values_from 0 n possible)) digits) vector (all.vector here.0 r here.1) stands in
        let number : radix_number (map length (values_from 0 n possible)) digits ≡ number_to n (radix_at nodes locked) digit =
        ap (λ (z : List ℕ). radix_number z digits) (values-map 0 n possible length)
        ∙ number-values n (λ k. length (possible k)) digit (λ k m. omega (arith, free-count k m, digit-below k m))
        ∙ radices-same n (λ k. length (possible k)) (radix_at nodes locked) digit free-count in
        let at : At all.list (number_to n (radix_at nodes locked) digit) r = at-place all.list here.0 (number_to n (radix_at nodes locked) digit) r (place ∙ number) here.1 in
        subst (λ (z : List (List (List ℕ))). IsRank z r (number_to n (radix_at nodes locked) digit)) (sym (list-unique nodes (IsKept g nodes locked r) l all.list h (kept-list g nodes b r p locked)))
        (record { within = at-within all.list (number_to n (radix_at nodes locked) digit) r at; is_there = at-get all.list (number_to n (radix_at nodes locked) digit) r [] at })

    -- the length
    pub list-length : (l : List (List (List ℕ))) → IsKeptList g nodes locked r l → length l ≡ list_count nodes locked
    list-length l h = ap length (list-unique nodes (IsKept g nodes locked r) l (listed g nodes b r p locked).list h (kept-list g nodes b r p locked)) ∙ kept-count g nodes b r p locked
