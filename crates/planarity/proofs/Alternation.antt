-- In a cyclic order the members that pass a test stand together, or alternate with others.
use Rattle.std.proofs.Common.{◌≡◌, ℕ, zero, suc, ◌+◌, ◌≤◌, ◌⊎◌, inl, inr, Bool, true, false, ◌||◌, List, [], ◌∷◌, ◌++◌, length, filter, length-append, add_comm, refl, sym, ap, ◌∙◌, subst, arith, append_assoc}
use Rattle.std.proofs.lemmas.Bool.{cases_Bool, both_ways}
use Rattle.permutations.specs.Members.{is_member}
use Rattle.permutations.specs.Cyclic.{IsTurn}
use Rattle.permutations.proofs.Members.{member-tail, member-cases, member-append_cases, member-append_left, CutAt, cut_at}
use Rattle.std.proofs.lemmas.List.Elements.{filter-append}
use Rattle.permutations.proofs.Filter.{filter-yes, filter-no}
use Rattle.permutations.proofs.Turned.{IsTurn-member}
use Rattle.permutations.proofs.CyclicSame.{IsTurn-trans}
use Rattle.planarity.specs.Alternation.{StandTogether, Alternates}

-- a list cut at its first member that passes
record FirstCut (p : ℕ → Bool) (m : List ℕ) : Type 0 where
  pub front : List ℕ
  pub at : ℕ
  pub back : List ℕ
  pub is : m ≡ front ++ at ∷ back
  pub passes : p at ≡ true
  pub before : (z : ℕ) → is_member z front ≡ true → p z ≡ false
  pub fewer : length (filter p m) ≡ length (filter p back) + 1

-- a list cut at its last member that passes
record LastCut (p : ℕ → Bool) (m : List ℕ) : Type 0 where
  pub front : List ℕ
  pub at : ℕ
  pub back : List ℕ
  pub is : m ≡ front ++ at ∷ back
  pub passes : p at ≡ true
  pub behind : (z : ℕ) → is_member z back ≡ true → p z ≡ false

-- nothing is a member of the list without members
no_member : (z : ℕ) → is_member z [] ≡ true → (p : ℕ → Bool) → p z ≡ false
no_member z m p = absurd (both_ways false refl m)

-- where one passes, there is a first that does
first_cut : (p : ℕ → Bool) (m : List ℕ) → 1 ≤ length (filter p m) → FirstCut p m
first_cut p [] l = absurd (omega (arith, l))
first_cut p (x ∷ xs) l = elim (cases_Bool (p x)) [
  | inl t ↦ record { front = []; at = x; back = xs; is = refl; passes = t; before = λ z m. no_member z m p; fewer = ap length (filter-yes p x xs t) ∙ omega arith }
  | inr f ↦ later f (first_cut p xs (subst (λ (k : ℕ). 1 ≤ k) (ap length (filter-no p x xs f)) l))
]
  where
    later : p x ≡ false → FirstCut p xs → FirstCut p (x ∷ xs)
    later f c = record {
      front = x ∷ c.front;
      at = c.at;
      back = c.back;
      is = ap (λ (k : List ℕ). x ∷ k) c.is;
      passes = c.passes;
      before = λ z m. elim (member-cases z x c.front m) [ inl i ↦ subst (λ (k : ℕ). p k ≡ false) i f | inr k ↦ c.before z k ];
      fewer = ap length (filter-no p x xs f) ∙ c.fewer;
    }

-- none passes where the count is zero
none_passes : (p : ℕ → Bool) (m : List ℕ) → length (filter p m) ≡ 0 → (z : ℕ) → is_member z m ≡ true → p z ≡ false
none_passes p [] l z m = no_member z m p
none_passes p (x ∷ xs) l z m = elim (cases_Bool (p x)) [
  | inl t ↦ absurd (omega (arith, sym (ap length (filter-yes p x xs t)) ∙ l))
  | inr f ↦ elim (member-cases z x xs m) [
    | inl i ↦ subst (λ (k : ℕ). p k ≡ false) i f
    | inr k ↦ none_passes p xs (sym (ap length (filter-no p x xs f)) ∙ l) z k
  ]
]

-- where one passes, there is a last that does
last_cut : (p : ℕ → Bool) (m : List ℕ) → 1 ≤ length (filter p m) → LastCut p m
last_cut p [] l = absurd (omega (arith, l))
last_cut p (x ∷ xs) l = split (length (filter p xs)) refl (last_cut p xs)
  where
    split : (n : ℕ) → length (filter p xs) ≡ n → (1 ≤ length (filter p xs) → LastCut p xs) → LastCut p (x ∷ xs)
    split zero e k = elim (cases_Bool (p x)) [
      | inl t ↦ record { front = []; at = x; back = xs; is = refl; passes = t; behind = none_passes p xs e }
      | inr f ↦ absurd (omega (arith, subst (λ (k : ℕ). 1 ≤ k) (ap length (filter-no p x xs f)) l, e))
    ]
    split (suc n) e k = later (k (omega (arith, e)))
      where
        later : LastCut p xs → LastCut p (x ∷ xs)
        later c = record { front = x ∷ c.front; at = c.at; back = c.back; is = ap (λ (k : List ℕ). x ∷ k) c.is; passes = c.passes; behind = c.behind }

-- one member passes, and the list is cut at it, or none does
some_cut : (q : ℕ → Bool) (m : List ℕ) → ((s : List ℕ) × (b : ℕ) × (t : List ℕ) × (m ≡ s ++ b ∷ t) × (q b ≡ true)) ⊎ ((z : ℕ) → is_member z m ≡ true → q z ≡ false)
some_cut q m = split (length (filter q m)) refl
  where
    split : (n : ℕ) → length (filter q m) ≡ n → ((s : List ℕ) × (b : ℕ) × (t : List ℕ) × (m ≡ s ++ b ∷ t) × (q b ≡ true)) ⊎ ((z : ℕ) → is_member z m ≡ true → q z ≡ false)
    split zero e = inr (none_passes q m e)
    split (suc n) e =
        let c : FirstCut q m = first_cut q m (omega (arith, e)) in
        inl (c.front, c.at, c.back, c.is, c.passes)

-- the members after a turn: those before d and behind it, and then d
turned_behind : (l : List ℕ) (d : ℕ) → (c : CutAt d l) → IsTurn l ((c.back ++ c.front) ++ d ∷ [])
turned_behind l d c = record {
  front = c.front ++ d ∷ [];
  back = c.back;
  before = c.is ∙ sym (append_assoc c.front (d ∷ []) c.back);
  after = append_assoc c.back c.front (d ∷ []);
}

-- the count of those that pass, without one that fails and in another order
count_turned : (p : ℕ → Bool) (l : List ℕ) (d : ℕ) → p d ≡ false → (c : CutAt d l) → length (filter p l) ≡ length (filter p (c.back ++ c.front))
count_turned p l d f c =
    ap (λ (k : List ℕ). length (filter p k)) c.is ∙ ap length (filter-append p c.front (d ∷ c.back)) ∙ ap (λ (k : List ℕ). length (filter p c.front ++ k)) (filter-no p d c.back f)
    ∙ length-append (filter p c.front) (filter p c.back) ∙ add_comm (length (filter p c.front)) (length (filter p c.back)) ∙ sym (ap length (filter-append p c.back c.front) ∙ length-append (filter p c.back) (filter p c.front))

-- a ring that ends in d, cut at the first and the last member of the rest that pass, begun at the first of them
begun : (l m : List ℕ) (d : ℕ) (u : List ℕ) (a : ℕ) (w t : List ℕ) (c : ℕ) (v : List ℕ) → IsTurn l (m ++ d ∷ []) → m ≡ u ++ a ∷ w → w ≡ t ++ c ∷ v → IsTurn l ((a ∷ t ++ c ∷ []) ++ (v ++ d ∷ u))
begun l m d u a w t c v turn e f = IsTurn-trans l (m ++ d ∷ []) ((a ∷ t ++ c ∷ []) ++ (v ++ d ∷ u)) turn step
  where
    step : IsTurn (m ++ d ∷ []) ((a ∷ t ++ c ∷ []) ++ (v ++ d ∷ u))
    step = record {
      front = u;
      back = (a ∷ t) ++ ((c ∷ v) ++ (d ∷ []));
      before = ap (λ (k : List ℕ). k ++ d ∷ []) (e ∙ ap (λ (k : List ℕ). u ++ a ∷ k) f) ∙ append_assoc u ((a ∷ t) ++ (c ∷ v)) (d ∷ []) ∙ ap (λ (k : List ℕ). u ++ k) (append_assoc (a ∷ t) (c ∷ v) (d ∷ []));
      after = append_assoc (a ∷ t) (c ∷ []) (v ++ d ∷ u) ∙ sym (append_assoc (a ∷ t) ((c ∷ v) ++ (d ∷ [])) u ∙ ap (λ (k : List ℕ). (a ∷ t) ++ k) (append_assoc (c ∷ v) (d ∷ []) u));
    }

-- where each member passes p or q, one fails p, and two pass it: those that pass p stand together, with none inside that
-- passes q, or both alternate
pub alternation : (p q : ℕ → Bool) (l : List ℕ) → ((z : ℕ) → is_member z l ≡ true → (p z || q z) ≡ true) → (d : ℕ) → is_member d l ≡ true → p d ≡ false → 2 ≤ length (filter p l) → StandTogether p q l ⊎ Alternates p q l
alternation p q l either d md f two = at_d (cut_at d l md)
  where
    at_d : CutAt d l → StandTogether p q l ⊎ Alternates p q l
    at_d k = at_first (first_cut p m (omega (arith, two, same)))
      where
        m : List ℕ
        m = k.back ++ k.front

        same : length (filter p l) ≡ length (filter p m)
        same = count_turned p l d f k

        at_first : FirstCut p m → StandTogether p q l ⊎ Alternates p q l
        at_first a = at_last (last_cut p a.back (omega (arith, two, same, a.fewer)))
          where
            at_last : LastCut p a.back → StandTogether p q l ⊎ Alternates p q l
            at_last c = elim (some_cut q c.front) [ inl b ↦ inr (cross b) | inr n ↦ inl (together n) ]
              where
                around : IsTurn l ((a.at ∷ c.front ++ c.at ∷ []) ++ (c.back ++ d ∷ a.front))
                around = begun l m d a.front a.at a.back c.front c.at c.back (turned_behind l d k) a.is c.is

                cross : ((s : List ℕ) × (b : ℕ) × (t : List ℕ) × (c.front ≡ s ++ b ∷ t) × (q b ≡ true)) → Alternates p q l
                cross b = record {
                  a = a.at;
                  b = b.1;
                  c = c.at;
                  d = d;
                  behind_a = b.0;
                  behind_b = b.2;
                  behind_c = c.back;
                  behind_d = a.front;
                  around = subst (IsTurn l) (ap (λ (z : List ℕ). a.at ∷ z) (inner b.0 b.1 b.2 b.3)) around;
                  first_passes = a.passes;
                  second_passes = b.4;
                  third_passes = c.passes;
                  fourth_fails = f;
                }
                  where
                    inner : (s : List ℕ) (b : ℕ) (t : List ℕ) → c.front ≡ s ++ b ∷ t → (c.front ++ c.at ∷ []) ++ (c.back ++ d ∷ a.front) ≡ s ++ ((b ∷ t) ++ ((c.at ∷ c.back) ++ (d ∷ a.front)))
                    inner s b t e = append_assoc c.front (c.at ∷ []) (c.back ++ d ∷ a.front) ∙ ap (λ (z : List ℕ). z ++ (c.at ∷ (c.back ++ d ∷ a.front))) e ∙ append_assoc s (b ∷ t) (c.at ∷ (c.back ++ d ∷ a.front))

                member_around : (z : ℕ) → is_member z c.front ≡ true → is_member z l ≡ true
                member_around z n =
                    sym (IsTurn-member l ((a.at ∷ c.front ++ c.at ∷ []) ++ (c.back ++ d ∷ a.front)) z around)
                    ∙ member-append_left z (a.at ∷ c.front ++ c.at ∷ []) (c.back ++ d ∷ a.front) (member-append_left z (a.at ∷ c.front) (c.at ∷ []) (member-tail z a.at c.front n))

                together : ((z : ℕ) → is_member z c.front ≡ true → q z ≡ false) → StandTogether p q l
                together n = record {
                  first = a.at;
                  middle = c.front;
                  last = c.at;
                  others = c.back ++ d ∷ a.front;
                  around = around;
                  filled = omega (arith, length-append c.back (d ∷ a.front));
                  first_passes = a.passes;
                  last_passes = c.passes;
                  inside = λ z i. (or_false (p z) (q z) (either z (member_around z i)) (n z i), n z i);
                  outside = λ z i. elim (member-append_cases z c.back (d ∷ a.front) i) [
                    | inl b ↦ c.behind z b
                    | inr b ↦ elim (member-cases z d a.front b) [ inl e ↦ subst (λ (y : ℕ). p y ≡ false) e f | inr g ↦ a.before z g ]
                  ];
                }
                  where
                    or_false : (x y : Bool) → (x || y) ≡ true → y ≡ false → x ≡ true
                    or_false x y h n = grind (arith, h, n)
