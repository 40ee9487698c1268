-- Lists one after another, each with members of its own: a test that passes on the members of one of them alone picks it out.
use Rattle.std.proofs.Common.{◌≡◌, ◌≢◌, ℕ, zero, suc, ◌<◌, ◌&&◌, Bool, true, false, List, [], ◌∷◌, ◌++◌, filter, map, inl, inr, refl, sym, ap, ap₂, ◌∙◌, subst, arith, append-nil, IsPermutation}
use Rattle.std.specs.List.{concat}
use Rattle.std.proofs.lemmas.Bool.{cases_eq, true≢false, false_from_ne_true}
use Rattle.std.proofs.lemmas.List.{map-append}
use Rattle.std.proofs.lemmas.List.Elements.{filter-append}
use Rattle.std.proofs.lemmas.List.Folds.{concat-append}
use Rattle.permutations.specs.Members.{is_member, is_distinct}
use Rattle.permutations.proofs.Members.{member-append_left, member-append_right, member-append_cases, distinct-append}
use Rattle.permutations.proofs.Filter.{filter-all, filter-none, member-filter, filter-member, member-filter_parts, distinct-filter}
use Rattle.permutations.proofs.Arrangements.{permutation-member, permutation-distinct, permutation-from_members}
use Rattle.permutations.proofs.Relation.{same-tests}
use Rattle.multigraph.specs.Graph.{numbers_below}

-- a filter keeps that a list without repetition is another in a different order
pub permutation-filter : (p : ℕ → Bool) (l k : List ℕ) → is_distinct l ≡ true → IsPermutation l k → IsPermutation (filter p l) (filter p k)
permutation-filter p l k d h = permutation-from_members (filter p l) (filter p k) (distinct-filter p l d) (distinct-filter p k (permutation-distinct l k h d)) (λ z. member-filter p l z ∙ (ap (λ (b : Bool). b && p z) (sym (permutation-member l k z h)) ∙ sym (member-filter p k z)))

module _ (lists : ℕ → List ℕ) where
  -- lists 0 to n - 1, one after another
  abbrev pub joined : ℕ → List ℕ
  joined n = concat (map lists (numbers_below n))

  pub joined-suc : (n : ℕ) → joined (suc n) ≡ joined n ++ lists n
  joined-suc n = ap concat (map-append lists (numbers_below n) (n ∷ [])) ∙ concat-append (map lists (numbers_below n)) (lists n ∷ []) ∙ ap (λ (l : List ℕ). joined n ++ l) (append-nil (lists n))

  -- a member of these is one of some list
  pub joined-holds : (n x : ℕ) → is_member x (joined n) ≡ true → (b : ℕ) × (b < n) × (is_member x (lists b) ≡ true)
  joined-holds zero x h = absurd (true≢false (sym h))
  joined-holds (suc n) x h = elim (member-append_cases x (joined n) (lists n) (subst (λ (l : List ℕ). is_member x l ≡ true) (joined-suc n) h)) [
    | inl m ↦ let w = joined-holds n x m in (w.0, omega (arith, w.1), w.2)
    | inr m ↦ (n, omega arith, m)
  ]

  -- and a member of each is one of these
  pub joined-member : (n b x : ℕ) → b < n → is_member x (lists b) ≡ true → is_member x (joined n) ≡ true
  joined-member zero b x l h = absurd (omega (arith, l))
  joined-member (suc n) b x l h = subst (λ (k : List ℕ). is_member x k ≡ true) (sym (joined-suc n)) (elim (cases_eq b n) [
    | inl e ↦ member-append_right x (joined n) (lists n) (subst (λ (c : ℕ). is_member x (lists c) ≡ true) e h)
    | inr e ↦ member-append_left x (joined n) (lists n) (joined-member n b x (omega (arith, l, e)) h)
  ])

  -- no member is there twice, where none is in one of the lists twice, or in two of them
  pub joined-distinct : (n : ℕ) → ((b : ℕ) → b < n → is_distinct (lists b) ≡ true) → ((b c x : ℕ) → b < n → c < n → is_member x (lists b) ≡ true → is_member x (lists c) ≡ true → b ≡ c) → is_distinct (joined n) ≡ true
  joined-distinct zero d one = refl
  joined-distinct (suc n) d one =
      subst (λ (k : List ℕ). is_distinct k ≡ true) (sym (joined-suc n))
      (distinct-append (joined n) (lists n) (joined-distinct n (λ b l. d b (omega (arith, l))) (λ b c x l m p q. one b c x (omega (arith, l)) (omega (arith, m)) p q)) (d n (omega arith)) apart)
    where
      apart : (z : ℕ) → is_member z (joined n) ≡ true → is_member z (lists n) ≡ false
      apart z m = false_from_ne_true (is_member z (lists n)) (λ t.
          let w = joined-holds n z m in
          let same : w.0 ≡ n = one w.0 n z (omega (arith, w.1)) (omega arith) w.2 t in
          absurd (omega (arith, same, w.1)))

  -- a test that passes on the members of one list alone leaves that list
  pub joined-picked : (n b : ℕ) (p : ℕ → Bool) → b < n → ((x : ℕ) → is_member x (lists b) ≡ true → p x ≡ true) → ((c x : ℕ) → c < n → c ≢ b → is_member x (lists c) ≡ true → p x ≡ false) → filter p (joined n) ≡ lists b
  joined-picked zero b p l own other = absurd (omega (arith, l))
  joined-picked (suc n) b p l own other =
      let step : filter p (joined (suc n)) ≡ filter p (joined n) ++ filter p (lists n) = ap (filter p) (joined-suc n) ∙ filter-append p (joined n) (lists n) in
      elim (cases_eq b n) [
        | inl e ↦
            let none : filter p (joined n) ≡ [] = filter-none p (joined n) (λ x m. let w = joined-holds n x m in other w.0 x (omega (arith, w.1)) (λ q. absurd (omega (arith, q, w.1, e))) w.2) in
            let all : filter p (lists n) ≡ lists n = filter-all p (lists n) (λ x m. own x (subst (λ (c : ℕ). is_member x (lists c) ≡ true) (sym e) m)) in
            step ∙ ap₂ (λ (a c : List ℕ). a ++ c) none all ∙ ap lists (sym e)
        | inr e ↦
            let none : filter p (lists n) ≡ [] = filter-none p (lists n) (λ x m. other n x (omega arith) (λ q. e (sym q)) m) in
            step ∙ ap (λ (a : List ℕ). filter p (joined n) ++ a) none ∙ append-nil (filter p (joined n)) ∙ joined-picked n b p (omega (arith, l, e)) own (λ c x m. other c x (omega (arith, m)))
      ]

  -- each list has those members of another list that pass a test of its own, in some order
  module _ (n : ℕ) (all : List ℕ) (p : ℕ → ℕ → Bool) (each : (b : ℕ) → b < n → IsPermutation (filter (p b) all) (lists b)) (one : (b c x : ℕ) → b < n → c < n → p b x ≡ true → p c x ≡ true → b ≡ c) where
    own : (b x : ℕ) → b < n → is_member x (lists b) ≡ true → (is_member x all ≡ true) × (p b x ≡ true)
    own b x l m = member-filter_parts (p b) all x (sym (permutation-member (filter (p b) all) (lists b) x (each b l)) ∙ m)

    -- the test picks it out
    pub parts-picked : (b : ℕ) → b < n → filter (p b) (joined n) ≡ lists b
    parts-picked b l = joined-picked n b (p b) l (λ x m. (own b x l m).1) (λ c x k apart m. false_from_ne_true (p b x) (λ t. apart (one c b x k l (own c x k m).1 t)))

    -- where each member passes one of the tests, all lists together have all members, each once
    pub parts-permutation : is_distinct all ≡ true → ((x : ℕ) → is_member x all ≡ true → (b : ℕ) × (b < n) × (p b x ≡ true)) → IsPermutation all (joined n)
    parts-permutation d some = permutation-from_members all (joined n) d
        (joined-distinct n (λ b l. permutation-distinct (filter (p b) all) (lists b) (each b l) (distinct-filter (p b) all d)) (λ b c x k l m q. one b c x k l (own b x k m).1 (own c x l q).1))
        (λ z. same-tests (is_member z all) (is_member z (joined n)) (to z) (from z))
      where
        to : (z : ℕ) → is_member z all ≡ true → is_member z (joined n) ≡ true
        to z m =
            let w = some z m in
            joined-member n w.0 z w.1 (permutation-member (filter (p w.0) all) (lists w.0) z (each w.0 w.1) ∙ filter-member (p w.0) all z m w.2)

        from : (z : ℕ) → is_member z (joined n) ≡ true → is_member z all ≡ true
        from z m = let w = joined-holds n z m in (own w.0 z w.1 w.2).0
