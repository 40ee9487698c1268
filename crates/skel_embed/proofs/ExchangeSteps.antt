-- Two groups round a vertex in each other's place.
use Rattle.std.proofs.Common.{◌≡◌, ◌≢◌, ℕ, ◌<◌, inl, inr, true, false, List, [], ◌∷◌, ◌++◌, ◌==◌, if◌then◌else◌, length, refl, sym, ap, ◌∙◌, subst, arith, append_assoc, IsPermutation}
use Rattle.std.proofs.lemmas.Bool.{both_ways, cases_eq, ne_eqb, eq-eqb, false_from_ne_true}
use Rattle.std.proofs.lemmas.List.{length-append, map-append}
use Rattle.std.proofs.lemmas.List.Elements.{All-head}
use Rattle.std.proofs.lemmas.List.Sorted.{IsPermutation-middle, IsPermutation-sym, IsPermutation-trans, IsPermutation-append_right, IsPermutation-cons, IsPermutation-to_front}
use Rattle.permutations.specs.Cyclic.{predecessor, IsTurn}
use Rattle.permutations.specs.Members.{is_member, is_distinct}
use Rattle.permutations.specs.Runs.{joined, group_keys, IsGroup, InRuns}
use Rattle.permutations.proofs.Members.{member-head, member-tail, member-cases, member-append_cases, member-append_left, member-append_right, distinct-append_apart, distinct-append_right, distinct-head}
use Rattle.permutations.proofs.Runs.{joined-append, runs-turn}
use Rattle.permutations.proofs.Turned.{IsTurn-permutation}
use Rattle.permutations.proofs.NormalForm.{from_least-member}
use Rattle.multigraph.specs.Graph.{Multigraph, incident_edges}
use Rattle.rotations.specs.Rotation.{order_at, IsRotationSystem, IsCyclicOrder}
use Rattle.rotations.specs.Runs.{IsRun, IsOutside, IsKeptElsewhere}
use Rattle.skeletons.specs.Moves.{AreRegrouped}
use Rattle.skeletons.proofs.KeyRuns.{met-runs}
use Rattle.skeletons.proofs.Rearranged.{group-with}
use Rattle.skel_embed.specs.Steps.{EndsRun, BeginsRun, IsPut, StandInTwoRuns}
use Rattle.skel_embed.specs.Exchanges.{other_of, exchanged}
use Rattle.skel_embed.proofs.RunSteps.{Ends, end-of_second, run-is, before-is, some-first, outside-put, put-groups}
use Rattle.skel_embed.proofs.TurnSteps.{moved-system}

-- keys for each other
pub other-first : (a b : ℕ) → other_of a b a ≡ b
other-first a b = ap (λ z. (if z then b else (if a == b then a else a))) (eq-eqb a a refl)

pub other-second : (a b : ℕ) → other_of a b b ≡ a
other-second a b = elim (cases_eq b a) [
  | inl e ↦ subst (λ z. other_of z b b ≡ z) e (other-first b b)
  | inr n ↦ ap (λ z. (if z then b else (if b == b then a else b))) (ne_eqb b a n) ∙ ap (λ z. (if z then a else b)) (eq-eqb b b refl)
]

pub other-none : (a b x : ℕ) → x ≢ a → x ≢ b → other_of a b x ≡ x
other-none a b x n m = ap (λ z. (if z then b else (if x == b then a else x))) (ne_eqb x a n) ∙ ap (λ z. (if z then a else x)) (ne_eqb x b m)

pub exchanged-none : (a b : ℕ) (l : List ℕ) → is_member a l ≡ false → is_member b l ≡ false → exchanged a b l ≡ l
exchanged-none a b [] m n = refl
exchanged-none a b (x ∷ l) m n = both (other-none a b x (λ e. both_ways (is_member a (x ∷ l)) m (subst (λ z. is_member z (x ∷ l) ≡ true) e (member-head x l))) (λ e. both_ways (is_member b (x ∷ l)) n (subst (λ z. is_member z (x ∷ l) ≡ true) e (member-head x l))))
    (exchanged-none a b l (rest a m) (rest b n))
  where
    rest : (y : ℕ) → is_member y (x ∷ l) ≡ false → is_member y l ≡ false
    rest y h = false_from_ne_true (is_member y l) (λ t. both_ways (is_member y (x ∷ l)) h (member-tail y x l t))

    both : other_of a b x ≡ x → exchanged a b l ≡ l → other_of a b x ∷ exchanged a b l ≡ x ∷ l
    both p q = ap (λ z. z ∷ exchanged a b l) p ∙ ap (λ (z : List ℕ). x ∷ z) q

-- in either order it is one exchange
pub other-swap : (a b x : ℕ) → other_of a b x ≡ other_of b a x
other-swap a b x = elim (cases_eq x a) [
  | inl e ↦ subst (λ z. other_of a b z ≡ other_of b a z) (sym e) (other-first a b ∙ sym (other-second b a))
  | inr n ↦ elim (cases_eq x b) [
    | inl e ↦ subst (λ z. other_of a b z ≡ other_of b a z) (sym e) (other-second a b ∙ sym (other-first b a))
    | inr m ↦ other-none a b x n m ∙ sym (other-none b a x m n)
  ]
]

pub exchanged-swap : (a b : ℕ) (l : List ℕ) → exchanged a b l ≡ exchanged b a l
exchanged-swap a b [] = refl
exchanged-swap a b (x ∷ l) = ap (λ z. z ∷ exchanged a b l) (other-swap a b x) ∙ ap (λ (z : List ℕ). other_of b a x ∷ z) (exchanged-swap a b l)

-- a list without repetition with two members in each other's place
pub exchanged-cut : (a b : ℕ) (u p q : List ℕ) → is_distinct (u ++ a ∷ (p ++ b ∷ q)) ≡ true → exchanged a b (u ++ a ∷ (p ++ b ∷ q)) ≡ u ++ b ∷ (p ++ a ∷ q)
exchanged-cut a b u p q d = map-append (other_of a b) u (a ∷ (p ++ b ∷ q))
    ∙ ap (λ (z : List ℕ). z ++ exchanged a b (a ∷ (p ++ b ∷ q))) (exchanged-none a b u (not-in a (member-head a (p ++ b ∷ q))) (not-in b (member-tail b a (p ++ b ∷ q) (member-append_right b p (b ∷ q) (member-head b q)))))
    ∙ ap (λ z. u ++ z ∷ exchanged a b (p ++ b ∷ q)) (other-first a b)
    ∙ ap (λ (z : List ℕ). u ++ b ∷ z) (map-append (other_of a b) p (b ∷ q))
    ∙ ap (λ (z : List ℕ). u ++ b ∷ (z ++ exchanged a b (b ∷ q))) (exchanged-none a b p (false_from_ne_true (is_member a p) (λ t. both_ways (is_member a (p ++ b ∷ q)) first-apart (member-append_left a p (b ∷ q) t))) not-in_middle)
    ∙ ap (λ z. u ++ b ∷ (p ++ z ∷ exchanged a b q)) (other-second a b)
    ∙ ap (λ (z : List ℕ). u ++ b ∷ (p ++ a ∷ z)) (exchanged-none a b q (false_from_ne_true (is_member a q) (λ t. both_ways (is_member a (p ++ b ∷ q)) first-apart (member-append_right a p (b ∷ q) (member-tail a b q t)))) (distinct-head b q (distinct-append_right p (b ∷ q) tail-distinct)))
  where
    back-distinct : is_distinct (a ∷ (p ++ b ∷ q)) ≡ true
    back-distinct = distinct-append_right u (a ∷ (p ++ b ∷ q)) d

    tail-distinct : is_distinct (p ++ b ∷ q) ≡ true
    tail-distinct = distinct-append_right (a ∷ []) (p ++ b ∷ q) back-distinct

    first-apart : is_member a (p ++ b ∷ q) ≡ false
    first-apart = distinct-head a (p ++ b ∷ q) back-distinct

    not-in : (x : ℕ) → is_member x (a ∷ (p ++ b ∷ q)) ≡ true → is_member x u ≡ false
    not-in x m = false_from_ne_true (is_member x u) (λ t. both_ways (is_member x (a ∷ (p ++ b ∷ q))) (distinct-append_apart u (a ∷ (p ++ b ∷ q)) d x t) m)

    not-in_middle : is_member b p ≡ false
    not-in_middle = false_from_ne_true (is_member b p) (λ t. both_ways (is_member b (b ∷ q)) (distinct-append_apart p (b ∷ q) tail-distinct b t) (member-head b q))

-- groups cut at the two with these keys; what comes of them when these two are exchanged
pub record AreCut (gs : List (ℕ × List ℕ)) (a b : ℕ) : Type 0 where
  pub first : ℕ × List ℕ
  pub second : ℕ × List ℕ
  pub between : List (ℕ × List ℕ)
  pub behind : List (ℕ × List ℕ)
  pub round : IsTurn gs (first ∷ (between ++ second ∷ behind))
  pub first_key : first.0 ≡ a
  pub second_key : second.0 ≡ b
  pub after : List (ℕ × List ℕ)
  pub other_round : IsTurn (between ++ first ∷ (behind ++ second ∷ [])) after
  pub keys : group_keys after ≡ exchanged a b (group_keys gs)

pub keys-append : (gs hs : List (ℕ × List ℕ)) → group_keys (gs ++ hs) ≡ group_keys gs ++ group_keys hs
keys-append gs hs = map-append (λ (h : ℕ × List ℕ). h.0) gs hs

pub cut-groups : (gs : List (ℕ × List ℕ)) (a b : ℕ) → is_distinct (group_keys gs) ≡ true → is_member a (group_keys gs) ≡ true → is_member b (group_keys gs) ≡ true → a ≢ b → AreCut gs a b
cut-groups gs a b d ma mb n = at (group-with a gs ma)
  where
    at : (us : List (ℕ × List ℕ)) × (g : ℕ × List ℕ) × (vs : List (ℕ × List ℕ)) × (gs ≡ us ++ g ∷ vs) × (g.0 ≡ a) → AreCut gs a b
    at w = elim (member-append_cases b (group_keys us) (g.0 ∷ group_keys vs) (sym (ap (is_member b) (ap group_keys w.3 ∙ keys-append us (g ∷ vs))) ∙ mb)) [
      | inl i ↦ front (group-with b us i)
      | inr i ↦ elim (member-cases b g.0 (group_keys vs) i) [
        | inl e ↦ absurd (n (sym w.4 ∙ e))
        | inr j ↦ back (group-with b vs j)
      ]
    ]
      where
        us : List (ℕ × List ℕ)
        us = w.0

        g : ℕ × List ℕ
        g = w.1

        vs : List (ℕ × List ℕ)
        vs = w.2

        back : (ps : List (ℕ × List ℕ)) × (h : ℕ × List ℕ) × (qs : List (ℕ × List ℕ)) × (vs ≡ ps ++ h ∷ qs) × (h.0 ≡ b) → AreCut gs a b
        back y = record {
          first = g;
          second = y.1;
          between = y.0;
          behind = y.2 ++ us;
          round = record { front = us; back = g ∷ (y.0 ++ y.1 ∷ y.2); before = is; after = ap (λ (z : List (ℕ × List ℕ)). g ∷ z) (sym (append_assoc y.0 (y.1 ∷ y.2) us)) };
          first_key = w.4;
          second_key = y.4;
          after = us ++ y.1 ∷ (y.0 ++ g ∷ y.2);
          other_round = record {
            front = y.0 ++ g ∷ y.2;
            back = us ++ y.1 ∷ [];
            before = ap (λ (z : List (ℕ × List ℕ)). y.0 ++ g ∷ z) (append_assoc y.2 us (y.1 ∷ [])) ∙ sym (append_assoc y.0 (g ∷ y.2) (us ++ y.1 ∷ []));
            after = sym (append_assoc us (y.1 ∷ []) (y.0 ++ g ∷ y.2));
          };
          keys = cut-keys us (y.0) (y.2) y.1 g ∙ ap (λ z. group_keys us ++ z ∷ (group_keys y.0 ++ g.0 ∷ group_keys y.2)) y.4 ∙ ap (λ z. group_keys us ++ b ∷ (group_keys y.0 ++ z ∷ group_keys y.2)) w.4
              ∙ sym (exchanged-cut a b (group_keys us) (group_keys y.0) (group_keys y.2) (ap is_distinct (sym own) ∙ d)) ∙ ap (exchanged a b) (sym own);
        }
          where
            is : gs ≡ us ++ g ∷ (y.0 ++ y.1 ∷ y.2)
            is = w.3 ∙ ap (λ (z : List (ℕ × List ℕ)). us ++ g ∷ z) y.3

            cut-keys : (us ps qs : List (ℕ × List ℕ)) (h k : ℕ × List ℕ) → group_keys (us ++ h ∷ (ps ++ k ∷ qs)) ≡ group_keys us ++ h.0 ∷ (group_keys ps ++ k.0 ∷ group_keys qs)
            cut-keys us ps qs h k = keys-append us (h ∷ (ps ++ k ∷ qs)) ∙ ap (λ (z : List ℕ). group_keys us ++ h.0 ∷ z) (keys-append ps (k ∷ qs))

            own : group_keys gs ≡ group_keys us ++ a ∷ (group_keys y.0 ++ b ∷ group_keys y.2)
            own = ap group_keys is ∙ cut-keys us y.0 y.2 g y.1 ∙ ap (λ z. group_keys us ++ z ∷ (group_keys y.0 ++ y.1.0 ∷ group_keys y.2)) w.4 ∙ ap (λ z. group_keys us ++ a ∷ (group_keys y.0 ++ z ∷ group_keys y.2)) y.4

        front : (ps : List (ℕ × List ℕ)) × (h : ℕ × List ℕ) × (qs : List (ℕ × List ℕ)) × (us ≡ ps ++ h ∷ qs) × (h.0 ≡ b) → AreCut gs a b
        front y = record {
          first = g;
          second = y.1;
          between = vs ++ y.0;
          behind = y.2;
          round = record { front = us; back = g ∷ vs; before = w.3; after = ap (λ (z : List (ℕ × List ℕ)). g ∷ z) (append_assoc vs y.0 (y.1 ∷ y.2)) ∙ ap (λ (z : List (ℕ × List ℕ)). g ∷ (vs ++ z)) (sym y.3) };
          first_key = w.4;
          second_key = y.4;
          after = y.0 ++ g ∷ (y.2 ++ y.1 ∷ vs);
          other_round = record {
            front = vs;
            back = y.0 ++ g ∷ (y.2 ++ y.1 ∷ []);
            before = append_assoc vs y.0 (g ∷ (y.2 ++ y.1 ∷ []));
            after = ap (λ (z : List (ℕ × List ℕ)). y.0 ++ g ∷ z) (sym (append_assoc y.2 (y.1 ∷ []) vs)) ∙ sym (append_assoc y.0 (g ∷ (y.2 ++ y.1 ∷ [])) vs);
          };
          keys = cut-keys y.0 y.2 vs g y.1 ∙ ap (λ z. group_keys y.0 ++ z ∷ (group_keys y.2 ++ y.1.0 ∷ group_keys vs)) w.4 ∙ ap (λ z. group_keys y.0 ++ a ∷ (group_keys y.2 ++ z ∷ group_keys vs)) y.4
              ∙ sym (exchanged-cut b a (group_keys y.0) (group_keys y.2) (group_keys vs) (ap is_distinct (sym own) ∙ d)) ∙ exchanged-swap b a (group_keys y.0 ++ b ∷ (group_keys y.2 ++ a ∷ group_keys vs)) ∙ ap (exchanged a b) (sym own);
        }
          where
            is : gs ≡ y.0 ++ y.1 ∷ (y.2 ++ g ∷ vs)
            is = w.3 ∙ ap (λ (z : List (ℕ × List ℕ)). z ++ g ∷ vs) y.3 ∙ append_assoc y.0 (y.1 ∷ y.2) (g ∷ vs)

            cut-keys : (us ps qs : List (ℕ × List ℕ)) (h k : ℕ × List ℕ) → group_keys (us ++ h ∷ (ps ++ k ∷ qs)) ≡ group_keys us ++ h.0 ∷ (group_keys ps ++ k.0 ∷ group_keys qs)
            cut-keys us ps qs h k = keys-append us (h ∷ (ps ++ k ∷ qs)) ∙ ap (λ (z : List ℕ). group_keys us ++ h.0 ∷ z) (keys-append ps (k ∷ qs))

            own : group_keys gs ≡ group_keys y.0 ++ b ∷ (group_keys y.2 ++ a ∷ group_keys vs)
            own = ap group_keys is ∙ cut-keys y.0 y.2 vs y.1 g ∙ ap (λ z. group_keys y.0 ++ z ∷ (group_keys y.2 ++ g.0 ∷ group_keys vs)) y.4 ∙ ap (λ z. group_keys y.0 ++ b ∷ (group_keys y.2 ++ z ∷ group_keys vs)) w.4

-- the two runs and what stands before them
module _ (key : ℕ → ℕ) (l : List ℕ) (gs : List (ℕ × List ℕ)) (a b : ℕ) (d : is_distinct l ≡ true) (r : InRuns key l gs) (w : AreCut gs a b) where
  runs-first : InRuns key l (w.first ∷ (w.between ++ w.second ∷ w.behind))
  runs-first = runs-turn key l gs (w.first ∷ (w.between ++ w.second ∷ w.behind)) r w.round

  runs-second : InRuns key l (w.second ∷ (w.behind ++ w.first ∷ w.between))
  runs-second = runs-turn key l (w.first ∷ (w.between ++ w.second ∷ w.behind)) (w.second ∷ (w.behind ++ w.first ∷ w.between)) runs-first (record { front = w.first ∷ w.between; back = w.second ∷ w.behind; before = refl; after = refl })

  others-first : 0 < length (w.between ++ w.second ∷ w.behind)
  others-first = omega (arith, length-append w.between (w.second ∷ w.behind))

  others-second : 0 < length (w.behind ++ w.first ∷ w.between)
  others-second = omega (arith, length-append w.behind (w.first ∷ w.between))

  pub first-of_a : (first : ℕ) × BeginsRun key l a first
  first-of_a = subst (λ z. (first : ℕ) × BeginsRun key l z first) w.first_key (some-first key l w.first (w.between ++ w.second ∷ w.behind) d runs-first others-first)

  pub first-of_b : (first : ℕ) × BeginsRun key l b first
  first-of_b = subst (λ z. (first : ℕ) × BeginsRun key l z first) w.second_key (some-first key l w.second (w.behind ++ w.first ∷ w.between) d runs-second others-second)

  pub cut-two : StandInTwoRuns key l
  cut-two = record { groups = w.first ∷ (w.between ++ w.second ∷ w.behind); runs = runs-first; two = omega (arith, length-append w.between (w.second ∷ w.behind)) }

  module _ (first_a last_a first_b last_b : ℕ) (ba : BeginsRun key l a first_a) (ea : EndsRun key l first_a last_a) (bb : BeginsRun key l b first_b) (eb : EndsRun key l first_b last_b) where
    begins-a : BeginsRun key l w.first.0 first_a
    begins-a = subst (λ z. BeginsRun key l z first_a) (sym w.first_key) ba

    begins-b : BeginsRun key l w.second.0 first_b
    begins-b = subst (λ z. BeginsRun key l z first_b) (sym w.second_key) bb

    run-a : IsRun first_a last_a w.first.1
    run-a = run-is key l w.first (w.between ++ w.second ∷ w.behind) d runs-first others-first first_a last_a begins-a ea

    run-b : IsRun first_b last_b w.second.1
    run-b = run-is key l w.second (w.behind ++ w.first ∷ w.between) d runs-second others-second first_b last_b begins-b eb

    filled : (g : ℕ × List ℕ) (hs : List (ℕ × List ℕ)) → InRuns key l (g ∷ hs) → (ks : List (ℕ × List ℕ)) → 0 < length (joined (g ∷ ks))
    filled g hs r ks = omega (arith, (All-head (IsGroup key) g hs r.groups).filled, length-append g.1 (joined ks))

    ends-before_a : Ends (predecessor l first_a) (joined (w.second ∷ w.behind))
    ends-before_a = end-of_second (joined w.between) (joined (w.second ∷ w.behind)) (predecessor l first_a) (filled w.second (w.behind ++ w.first ∷ w.between) runs-second w.behind)
        (subst (Ends (predecessor l first_a)) (joined-append w.between (w.second ∷ w.behind)) (before-is key l w.first (w.between ++ w.second ∷ w.behind) d runs-first others-first first_a begins-a))

    ends-before_b : Ends (predecessor l first_b) (joined (w.first ∷ w.between))
    ends-before_b = end-of_second (joined w.behind) (joined (w.first ∷ w.between)) (predecessor l first_b) (filled w.first (w.between ++ w.second ∷ w.behind) runs-first w.between)
        (subst (Ends (predecessor l first_b)) (joined-append w.behind (w.first ∷ w.between)) (before-is key l w.second (w.behind ++ w.first ∷ w.between) d runs-second others-second first_b begins-b))

    -- the second run can be put behind what stands before the first
    pub outside-b : predecessor l first_a ≢ last_b → IsOutside l first_b last_b (predecessor l first_a)
    outside-b n = outside-put key l w.second w.behind (w.first ∷ w.between) first_b last_b (predecessor l first_a) d runs-second run-b ends-before_a n

    module _ (m : List ℕ) (dm : is_distinct m ≡ true) (p : IsPut l m first_b last_b (predecessor l first_a)) where
      put-b : InRuns key m (w.first ∷ (w.between ++ (w.behind ++ w.second ∷ [])))
      put-b = runs-turn key m (w.behind ++ w.second ∷ w.first ∷ w.between) (w.first ∷ (w.between ++ (w.behind ++ w.second ∷ [])))
          (put-groups key l w.second w.behind (w.first ∷ w.between) first_b last_b (predecessor l first_a) d runs-second run-b ends-before_a m p)
          (record { front = w.behind ++ w.second ∷ []; back = w.first ∷ w.between; before = sym (append_assoc w.behind (w.second ∷ []) (w.first ∷ w.between)); after = refl })

      -- then the first behind what stood before the second
      pub outside-a : predecessor l first_b ≢ last_a → IsOutside m first_a last_a (predecessor l first_b)
      outside-a n = outside-put key m w.first w.between (w.behind ++ w.second ∷ []) first_a last_a (predecessor l first_b) dm put-b run-a ends-before_b n

      pub put-both : (n : List ℕ) → IsPut m n first_a last_a (predecessor l first_b) → AreRegrouped key l (exchanged a b (group_keys gs)) n
      put-both n q = record {
        before = gs;
        after = w.after;
        runs_before = r;
        runs_after = runs-turn key n (w.between ++ w.first ∷ (w.behind ++ w.second ∷ [])) w.after (put-groups key m w.first w.between (w.behind ++ w.second ∷ []) first_a last_a (predecessor l first_b) dm put-b run-a ends-before_b n q) w.other_round;
        same_groups = IsPermutation-trans gs (w.first ∷ (w.between ++ w.second ∷ w.behind)) w.after (IsTurn-permutation gs (w.first ∷ (w.between ++ w.second ∷ w.behind)) w.round)
            (IsPermutation-trans (w.first ∷ (w.between ++ w.second ∷ w.behind)) (w.between ++ w.first ∷ (w.behind ++ w.second ∷ [])) w.after same (IsTurn-permutation (w.between ++ w.first ∷ (w.behind ++ w.second ∷ [])) w.after w.other_round));
        order = w.keys;
      }
        where
          same : IsPermutation (w.first ∷ (w.between ++ w.second ∷ w.behind)) (w.between ++ w.first ∷ (w.behind ++ w.second ∷ []))
          same = IsPermutation-trans (w.first ∷ (w.between ++ w.second ∷ w.behind)) (w.between ++ w.first ∷ w.second ∷ w.behind) (w.between ++ w.first ∷ (w.behind ++ w.second ∷ []))
              (IsPermutation-sym (w.between ++ w.first ∷ w.second ∷ w.behind) (w.first ∷ (w.between ++ w.second ∷ w.behind)) (IsPermutation-middle w.between w.first (w.second ∷ w.behind)))
              (IsPermutation-append_right w.between (w.first ∷ w.second ∷ w.behind) (w.first ∷ (w.behind ++ w.second ∷ []))
              (IsPermutation-cons w.first (w.second ∷ w.behind) (w.behind ++ w.second ∷ []) (IsPermutation-sym (w.behind ++ w.second ∷ []) (w.second ∷ w.behind) (IsPermutation-to_front w.behind w.second))))

-- a run that is put elsewhere, or stays, leaves a rotation system
pub put-system : (g : Multigraph) (r q : List (List ℕ)) (v first last after : ℕ) → IsRotationSystem g r → v < g.vertex_count → IsPut (order_at r v) (order_at q v) first last after → IsKeptElsewhere r q v → IsRotationSystem g q
put-system g r q v first last after s l p k = elim (cases_eq after last) [
  | inl e ↦ record {
    vertices = k.vertices ∙ s.vertices;
    orders = λ w h. elim (cases_eq w v) [
      | inl i ↦ subst (λ z. IsCyclicOrder (incident_edges g z) (order_at q z)) (sym i) (subst (IsCyclicOrder (incident_edges g v)) (sym (p.stays e)) (s.orders v l))
      | inr n ↦ subst (IsCyclicOrder (incident_edges g w)) (sym (k.others w n)) (s.orders w h)
    ];
  }
  | inr n ↦ moved-system g r q v first last after s l (p.moves n) k
]

-- the keys of one cut into groups are those of another
pub keys-in : (key : ℕ → ℕ) (l : List ℕ) (gs hs : List (ℕ × List ℕ)) (a : ℕ) → InRuns key l gs → InRuns key l hs → is_member a (group_keys gs) ≡ true → is_member a (group_keys hs) ≡ true
keys-in key l gs hs a r s m = sym (from_least-member (group_keys hs) a) ∙ ap (is_member a) (sym (met-runs key l hs s) ∙ met-runs key l gs r) ∙ from_least-member (group_keys gs) a ∙ m
