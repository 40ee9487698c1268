-- A cyclic order written as a run and the others: what follows each member.
use Rattle.std.proofs.Common.{◌≡◌, ℕ, ◌<◌, ◌⊎◌, inl, inr, true, List, [], ◌∷◌, ◌++◌, length, refl, sym, ap, ◌∙◌, append_assoc}
use Rattle.permutations.specs.Members.{is_member, is_distinct}
use Rattle.permutations.specs.Cyclic.{first_or, successor}
use Rattle.permutations.proofs.Members.{member-head, member-tail, member-append_right, CutAt, cut_at}
use Rattle.permutations.proofs.Successor.{first_or-append}
use Rattle.permutations.proofs.Runs.{last-of}
use Rattle.permutations.proofs.CyclicSame.{outside}

-- the first of a list, or the one behind it
first-within : (x : ℕ) (b : List ℕ) → is_member (first_or x b) (b ++ x ∷ []) ≡ true
first-within x [] = member-head x []
first-within x (y ∷ b) = member-head y (b ++ x ∷ [])

-- the last of the run is followed by the first of the others
pub run-last : (r : List ℕ) (x y : ℕ) (others : List ℕ) → is_distinct ((r ++ x ∷ []) ++ (y ∷ others)) ≡ true → successor ((r ++ x ∷ []) ++ (y ∷ others)) x ≡ y
run-last r x y others d =
    let q : (r ++ x ∷ []) ++ (y ∷ others) ≡ r ++ x ∷ (y ∷ others) = append_assoc r (x ∷ []) (y ∷ others) in
    ap (λ l. successor l x) q ∙ outside r x (y ∷ others) (ap is_distinct (sym q) ∙ d)

-- the members before it by members of the run
pub run-inside : (r : List ℕ) (x : ℕ) (others : List ℕ) (z : ℕ) → is_distinct ((r ++ x ∷ []) ++ others) ≡ true → is_member z r ≡ true → is_member (successor ((r ++ x ∷ []) ++ others) z) (r ++ x ∷ []) ≡ true
run-inside r x others z d m = within (cut_at z r m)
  where
    within : CutAt z r → is_member (successor ((r ++ x ∷ []) ++ others) z) (r ++ x ∷ []) ≡ true
    within c =
        let q : (r ++ x ∷ []) ++ others ≡ c.front ++ z ∷ (c.back ++ (x ∷ others)) = append_assoc r (x ∷ []) others ∙ ap (λ l. l ++ (x ∷ others)) c.is ∙ append_assoc c.front (z ∷ c.back) (x ∷ others) in
        let next : successor ((r ++ x ∷ []) ++ others) z ≡ first_or x c.back =
        ap (λ l. successor l z) q ∙ outside c.front z (c.back ++ (x ∷ others)) (ap is_distinct (sym q) ∙ d) ∙ first_or-append (first_or z c.front) c.back (x ∷ others) in
        let there : is_member (first_or x c.back) (c.front ++ (z ∷ (c.back ++ x ∷ []))) ≡ true = member-append_right (first_or x c.back) c.front (z ∷ (c.back ++ x ∷ [])) (member-tail (first_or x c.back) z (c.back ++ x ∷ []) (first-within x c.back)) in
        let whole : c.front ++ (z ∷ (c.back ++ x ∷ [])) ≡ r ++ x ∷ [] = sym (append_assoc c.front (z ∷ c.back) (x ∷ [])) ∙ ap (λ l. l ++ x ∷ []) (sym c.is) in
        ap (λ w. is_member w (r ++ x ∷ [])) next ∙ ap (is_member (first_or x c.back)) (sym whole) ∙ there

-- each of the others by one of the others, or by the first of the run
pub run-outside : (x : ℕ) (r others : List ℕ) (z : ℕ) → is_distinct ((x ∷ r) ++ others) ≡ true → is_member z others ≡ true → (successor ((x ∷ r) ++ others) z ≡ x) ⊎ (is_member (successor ((x ∷ r) ++ others) z) others ≡ true)
run-outside x r others z d m = within (cut_at z others m)
  where
    within : CutAt z others → (successor ((x ∷ r) ++ others) z ≡ x) ⊎ (is_member (successor ((x ∷ r) ++ others) z) others ≡ true)
    within c = at c.back refl
      where
        q : (b : List ℕ) → b ≡ c.back → (x ∷ r) ++ others ≡ ((x ∷ r) ++ c.front) ++ z ∷ b
        q b i = ap (λ l. (x ∷ r) ++ l) (c.is ∙ ap (λ l. c.front ++ z ∷ l) (sym i)) ∙ sym (append_assoc (x ∷ r) c.front (z ∷ b))

        next : (b : List ℕ) → b ≡ c.back → successor ((x ∷ r) ++ others) z ≡ first_or x b
        next b i = ap (λ l. successor l z) (q b i) ∙ outside ((x ∷ r) ++ c.front) z b (ap is_distinct (sym (q b i)) ∙ d)

        at : (b : List ℕ) → b ≡ c.back → (successor ((x ∷ r) ++ others) z ≡ x) ⊎ (is_member (successor ((x ∷ r) ++ others) z) others ≡ true)
        at [] i = inl (next [] i)
        at (y ∷ b) i = inr (ap (λ w. is_member w others) (next (y ∷ b) i) ∙ ap (is_member y) (c.is ∙ ap (λ l. c.front ++ z ∷ l) (sym i)) ∙ member-append_right y c.front (z ∷ (y ∷ b)) (member-tail y z (y ∷ b) (member-head y b)))

-- and the first of the run follows the last of the others
pub run-end : (x : ℕ) (r others : List ℕ) → 0 < length others → is_distinct ((x ∷ r) ++ others) ≡ true → (z : ℕ) × (is_member z others ≡ true) × (successor ((x ∷ r) ++ others) z ≡ x)
run-end x r others l d =
    let w = last-of others l in
    let q : (x ∷ r) ++ others ≡ ((x ∷ r) ++ w.0) ++ w.1 ∷ [] = ap (λ k. (x ∷ r) ++ k) w.2 ∙ sym (append_assoc (x ∷ r) w.0 (w.1 ∷ [])) in (
      w.1,
      ap (is_member w.1) w.2 ∙ member-append_right w.1 w.0 (w.1 ∷ []) (member-head w.1 []),
      ap (λ k. successor k w.1) q ∙ outside ((x ∷ r) ++ w.0) w.1 [] (ap is_distinct (sym q) ∙ d),
    )
