-- Numbering the classes of equal labels: one place more, and all places.
use Rattle.std.proofs.Common.{◌≡◌, ◌≢◌, ℕ, ◌+◌, ◌<◌, ◌≤◌, ◌⊎◌, inl, inr, Bool, true, false, List, [], ◌∷◌, ◌++◌, length, get_or, set, sym, ap, ◌∙◌, subst, arith, length-append}
use Rattle.std.proofs.lemmas.Bool.{cases_Bool, cases_lt, true≢false, eq-eqb, eqb-true, false_from_ne_true}
use Rattle.std.proofs.lemmas.List.{get_or_append_left, get_or_push}
use Rattle.permutations.specs.Count.{count}
use Rattle.permutations.specs.Relation.{IsEquivalence, leads}
use Rattle.permutations.proofs.Count.{count-yes, count-no, count-within}
use Rattle.permutations.proofs.Relation.{kernel-equivalence}
use Rattle.permutations.proofs.Leaders.{leads-from, not-leads, leads-once}
use Rattle.multigraph.specs.Marks.{is_marked}
use Rattle.blocks.specs.Numbering.{same_label, IsNumbering, IsNumbered}
use Rattle.search_forest.proofs.Writes.{number-same, number-other, marked-same, marked-cases, marked-kept}

-- having the same label is an equivalence
pub same-equivalence : (labels : List ℕ) → IsEquivalence (same_label labels)
same-equivalence labels = kernel-equivalence (λ i. get_or labels i 0)

-- a place of the longer list of numbers
place-cases : (i j : ℕ) → j < i + 1 → (j < i) ⊎ (j ≡ i)
place-cases i j l = elim (cases_lt j i) [ inl a ↦ inl a | inr b ↦ inr (omega arith) ]

-- one place more, with a label that was met
pub numbered-again : (labels : List ℕ) (i : ℕ) (met : List Bool) (number_of numbers : List ℕ) (classes : ℕ) → IsNumbered labels i met number_of numbers classes → is_marked met (get_or labels i 0) ≡ true → IsNumbered labels (i + 1) met number_of (numbers ++ get_or number_of (get_or labels i 0) 0 ∷ []) classes
numbered-again labels i met number_of numbers classes n h = record {
  places = omega (arith, length-append numbers (get_or number_of (get_or labels i 0) 0 ∷ []), n.places);
  is_met = λ j l. elim (place-cases i j l) [ inl a ↦ n.is_met j a | inr b ↦ subst (λ (z : ℕ). is_marked met (get_or labels z 0) ≡ true) (sym b) h ];
  is_number = λ j l. elim (place-cases i j l) [
    | inl a ↦ get_or_append_left numbers (get_or number_of (get_or labels i 0) 0 ∷ []) 0 j (omega (arith, n.places)) ∙ n.is_number j a
    | inr b ↦ get_or_push numbers (get_or number_of (get_or labels i 0) 0) 0 j (n.places ∙ sym b) ∙ ap (λ (z : ℕ). get_or number_of (get_or labels z 0) 0) (sym b)
  ];
  first_place = λ a m. let f = n.first_place a m in (f.0, omega (arith, f.1), f.2, f.3, f.4);
  below = n.below;
  apart = n.apart;
  total = n.total ∙ sym (count-no i (leads (same_label labels)) later);
}
  where
    later : leads (same_label labels) i ≡ false
    later = let f = n.first_place (get_or labels i 0) h in not-leads (same_label labels) i f.0 f.1 (eq-eqb (get_or labels f.0 0) (get_or labels i 0) f.2)

-- one place more, with a label that was not met
pub numbered-first : (labels : List ℕ) (i : ℕ) (met : List Bool) (number_of numbers : List ℕ) (classes : ℕ) → IsNumbered labels i met number_of numbers classes → is_marked met (get_or labels i 0) ≡ false → get_or labels i 0 < length met → get_or labels i 0 < length number_of → IsNumbered labels (i + 1) (set met (get_or labels i 0) true) (set number_of (get_or labels i 0) classes) (numbers ++ get_or (set number_of (get_or labels i 0) classes) (get_or labels i 0) 0 ∷ []) (classes + 1)
numbered-first labels i met number_of numbers classes n h lm ln = record {
  places = omega (arith, length-append numbers (get_or number_of' x 0 ∷ []), n.places);
  is_met = λ j l. elim (place-cases i j l) [
    | inl a ↦ marked-kept met x (get_or labels j 0) lm (n.is_met j a)
    | inr b ↦ subst (λ (z : ℕ). is_marked (set met x true) (get_or labels z 0) ≡ true) (sym b) (marked-same met x lm)
  ];
  is_number = λ j l. elim (place-cases i j l) [
    | inl a ↦
        get_or_append_left numbers (get_or number_of' x 0 ∷ []) 0 j (omega (arith, n.places)) ∙
        (n.is_number j a ∙ sym (number-other number_of x (get_or labels j 0) classes (other (get_or labels j 0) (n.is_met j a))))
    | inr b ↦ get_or_push numbers (get_or number_of' x 0) 0 j (n.places ∙ sym b) ∙ ap (λ (z : ℕ). get_or number_of' (get_or labels z 0) 0) (sym b)
  ];
  first_place = λ a m. elim (marked-cases met x a m) [
    | inl q ↦ (i, omega arith, sym q, leads-here, ap (λ (z : ℕ). get_or number_of' z 0) q ∙ (here ∙ n.total))
    | inr o ↦ let f = n.first_place a o in (f.0, omega (arith, f.1), f.2, f.3, number-other number_of x a classes (other a o) ∙ f.4)
  ];
  below = λ a m. elim (marked-cases met x a m) [
    | inl q ↦ omega (arith, here, ap (λ (z : ℕ). get_or number_of' z 0) q)
    | inr o ↦ omega (arith, number-other number_of x a classes (other a o), n.below a o)
  ];
  apart = λ a b m k e. elim (marked-cases met x a m) [
    | inl q ↦ elim (marked-cases met x b k) [
      | inl r ↦ q ∙ sym r
      | inr o ↦ absurd (omega (arith, here, ap (λ (z : ℕ). get_or number_of' z 0) q, number-other number_of x b classes (other b o), n.below b o))
    ]
    | inr p ↦ elim (marked-cases met x b k) [
      | inl r ↦ absurd (omega (arith, here, ap (λ (z : ℕ). get_or number_of' z 0) r, number-other number_of x a classes (other a p), n.below a p))
      | inr o ↦ n.apart a b p o (sym (number-other number_of x a classes (other a p)) ∙ (e ∙ number-other number_of x b classes (other b o)))
    ]
  ];
  total = ap (λ (z : ℕ). z + 1) n.total ∙ sym (count-yes i (leads (same_label labels)) leads-here);
}
  where
    x : ℕ
    x = get_or labels i 0

    number_of' : List ℕ
    number_of' = set number_of x classes

    here : get_or number_of' x 0 ≡ classes
    here = number-same number_of x classes ln

    other : (a : ℕ) → is_marked met a ≡ true → a ≢ x
    other a m e = true≢false (sym m ∙ (ap (is_marked met) e ∙ h))

    leads-here : leads (same_label labels) i ≡ true
    leads-here = leads-from (same_label labels) i (λ j l. false_from_ne_true (same_label labels j i) (λ t. other (get_or labels j 0) (n.is_met j l) (eqb-true (get_or labels j 0) x t)))

-- after the last place
pub numbered-all : (labels : List ℕ) (met : List Bool) (number_of numbers : List ℕ) (classes : ℕ) → IsNumbered labels (length labels) met number_of numbers classes → IsNumbering labels numbers
numbered-all labels met number_of numbers classes n = record {
  places = n.places;
  first = λ i l h.
      let f = n.first_place (get_or labels i 0) (n.is_met i l) in
      let e : f.0 ≡ i = leads-once (same_label labels) f.0 i (same-equivalence labels) f.3 h (eq-eqb (get_or labels f.0 0) (get_or labels i 0) f.2) in
      n.is_number i l ∙ (f.4 ∙ ap (λ (z : ℕ). count z (leads (same_label labels))) e);
  same = λ i j l m e. n.is_number i l ∙ (ap (λ (z : ℕ). get_or number_of z 0) e ∙ sym (n.is_number j m));
  different = λ i j l m e. n.apart (get_or labels i 0) (get_or labels j 0) (n.is_met i l) (n.is_met j m) (sym (n.is_number i l) ∙ (e ∙ n.is_number j m));
}

-- there are no more classes than places so far
pub numbered-few : (labels : List ℕ) (i : ℕ) (met : List Bool) (number_of numbers : List ℕ) (classes : ℕ) → IsNumbered labels i met number_of numbers classes → classes ≤ i
numbered-few labels i met number_of numbers classes n = omega (arith, n.total, count-within i (leads (same_label labels)))

-- one place more, by what the code has after it
pub numbered-more : (labels : List ℕ) (i : ℕ) (met met' : List Bool) (number_of number_of' numbers : List ℕ) (classes classes' : ℕ) → IsNumbered labels i met number_of numbers classes → get_or labels i 0 < length met → get_or labels i 0 < length number_of
    → (is_marked met (get_or labels i 0) ≡ true → (met' ≡ met) × (number_of' ≡ number_of) × (classes' ≡ classes))
    → (is_marked met (get_or labels i 0) ≡ false → (met' ≡ set met (get_or labels i 0) true) × (number_of' ≡ set number_of (get_or labels i 0) classes) × (classes' ≡ classes + 1))
    → IsNumbered labels (i + 1) met' number_of' (numbers ++ get_or number_of' (get_or labels i 0) 0 ∷ []) classes'
numbered-more labels i met met' number_of number_of' numbers classes classes' n lm ln again first = by (cases_Bool (is_marked met x))
  where
    x : ℕ
    x = get_or labels i 0

    moved : (m : List Bool) (o : List ℕ) (c : ℕ) → met' ≡ m → number_of' ≡ o → classes' ≡ c → IsNumbered labels (i + 1) m o (numbers ++ get_or o x 0 ∷ []) c → IsNumbered labels (i + 1) met' number_of' (numbers ++ get_or number_of' x 0 ∷ []) classes'
    moved m o c em eo ec k = subst (λ (z : List Bool). IsNumbered labels (i + 1) z number_of' (numbers ++ get_or number_of' x 0 ∷ []) classes') (sym em)
        (subst (λ (z : List ℕ). IsNumbered labels (i + 1) m z (numbers ++ get_or z x 0 ∷ []) classes') (sym eo)
        (subst (λ (z : ℕ). IsNumbered labels (i + 1) m o (numbers ++ get_or o x 0 ∷ []) z) (sym ec) k))

    by : ((is_marked met x ≡ true) ⊎ (is_marked met x ≡ false)) → IsNumbered labels (i + 1) met' number_of' (numbers ++ get_or number_of' x 0 ∷ []) classes'
    by cases = elim cases [
      | inl h ↦ let r = again h in moved met number_of classes r.0 r.1 r.2 (numbered-again labels i met number_of numbers classes n h)
      | inr h ↦ let r = first h in moved (set met x true) (set number_of x classes) (classes + 1) r.0 r.1 r.2 (numbered-first labels i met number_of numbers classes n h lm ln)
    ]
