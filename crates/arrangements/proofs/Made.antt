-- Lists built edge by edge, by their prefixes.
use Rattle.std.proofs.Common.{◌≡◌, ◌≢◌, ℕ, add-one, zero, suc, ◌+◌, ◌<◌, ◌≤◌, true, List, [], ◌∷◌, length, take, drop, get_or, refl, sym, ap, ◌∙◌, subst, arith}
use Rattle.std.proofs.Math.ListN.{set}
use Rattle.std.proofs.lemmas.List.{take-append-drop, take_more, take_more_set, take-set, take-set-le, get_or-set_same, get_or-set_other, get_or-take}
use Rattle.arrangements.specs.Options.{is_option, IsBuilt, IsLeastOption}
use Rattle.arrangements.proofs.Waiting.{built-front, built-more}

-- the first edges of a built list
pub built-take : (block follow : ℕ → ℕ) (edges l : List ℕ) (n : ℕ) → IsBuilt block follow edges l → IsBuilt block follow edges (take n l)
built-take block follow edges l n h = built-front block follow edges (take n l) (drop n l) (subst (IsBuilt block follow edges) (sym (take-append-drop n l)) h)

-- one edge more
pub built-next : (block follow : ℕ → ℕ) (edges l : List ℕ) (n : ℕ) → n < length l → IsBuilt block follow edges (take n l) → is_option block follow edges (take n l) (get_or l n 0) ≡ true → IsBuilt block follow edges (take (n + 1) l)
built-next block follow edges l n h b o = subst (IsBuilt block follow edges) (sym (take_more l n 0 h)) (built-more block follow edges (take n l) (get_or l n 0) b o)

-- filled from a place on, it is built
pub built-filled : (block follow : ℕ → ℕ) (edges l : List ℕ) (from k : ℕ) → from + k ≤ length l → IsBuilt block follow edges (take from l)
    → ((j : ℕ) → from ≤ j → j < from + k → IsLeastOption block follow edges (take j l) 0 (get_or l j 0)) → IsBuilt block follow edges (take (from + k) l)
built-filled block follow edges l from zero h b f = subst (λ (n : ℕ). IsBuilt block follow edges (take n l)) (let e : from ≡ from + 0 = omega arith in e) b
built-filled block follow edges l from (suc k) h b f =
    subst (λ (n : ℕ). IsBuilt block follow edges (take n l)) (let e : (from + k) + 1 ≡ from + suc k = omega arith in e)
    (built-next block follow edges l (from + k) (omega arith) (built-filled block follow edges l from k (omega arith) b (λ j g i. f j g (omega arith)))
    (f (from + k) (omega arith) (omega arith)).option)

-- a place of a list is changed to an edge that may come
pub built-set : (block follow : ℕ → ℕ) (edges l : List ℕ) (n y : ℕ) → n < length l → IsBuilt block follow edges (take n l) → is_option block follow edges (take n l) y ≡ true → IsBuilt block follow edges (take (n + 1) (set l n y))
built-set block follow edges l n y h b o = subst (IsBuilt block follow edges) (sym (take_more_set l n y h)) (built-more block follow edges (take n l) y b o)

-- what is the least at a place before a change stays
pub least-kept : (block follow : ℕ → ℕ) (edges l : List ℕ) (n y j from : ℕ) → j < n → IsLeastOption block follow edges (take j l) from (get_or l j 0) → IsLeastOption block follow edges (take j (set l n y)) from (get_or (set l n y) j 0)
least-kept block follow edges l n y j from h o =
    let ne : j ≢ n = omega arith in
    subst (λ (k : List ℕ). IsLeastOption block follow edges k from (get_or (set l n y) j 0)) (sym (take-set-le j l n y (omega arith)))
    (subst (IsLeastOption block follow edges (take j l) from) (sym (get_or-set_other l n j y 0 ne)) o)

-- and at the place
pub least-put : (block follow : ℕ → ℕ) (edges l : List ℕ) (n y from : ℕ) → n < length l → IsLeastOption block follow edges (take n l) from y → IsLeastOption block follow edges (take n (set l n y)) from (get_or (set l n y) n 0)
least-put block follow edges l n y from h o =
    subst (λ (k : List ℕ). IsLeastOption block follow edges k from (get_or (set l n y) n 0)) (sym (take-set l n y)) (subst (IsLeastOption block follow edges (take n l) from) (sym (get_or-set_same l n y 0 h)) o)

-- lists that agree up to a place agree up to the one before it
pub agree-before : (l k : List ℕ) (n : ℕ) → take (n + 1) l ≡ take (n + 1) k → take n l ≡ take n k
agree-before [] [] n e = refl
agree-before [] (y ∷ k) n e = absurd (omega (arith, ap length (subst (λ (m : ℕ). take m [] ≡ take m (y ∷ k)) (add-one n) e)))
agree-before (x ∷ l) [] n e = absurd (omega (arith, ap length (subst (λ (m : ℕ). take m (x ∷ l) ≡ take m []) (add-one n) e)))
agree-before (x ∷ l) (y ∷ k) zero e = refl
agree-before (x ∷ l) (y ∷ k) (suc n) e =
    let s : x ∷ take (suc n) l ≡ y ∷ take (suc n) k = subst (λ (m : ℕ). take m (x ∷ l) ≡ take m (y ∷ k)) (add-one (suc n)) e in
    let head : x ≡ y = cc in
    let tail : take (suc n) l ≡ take (suc n) k = cc in
    let rest : take n l ≡ take n k = agree-before l k n (subst (λ (m : ℕ). take m l ≡ take m k) (sym (add-one n)) tail) in
    (λ i. head i ∷ rest i)

-- and at the place
pub agree-at : (l k : List ℕ) (n : ℕ) → take (n + 1) l ≡ take (n + 1) k → get_or l n 0 ≡ get_or k n 0
agree-at l k n e = sym (get_or-take (n + 1) l n 0 (omega arith)) ∙ ap (λ (m : List ℕ). get_or m n 0) e ∙ get_or-take (n + 1) k n 0 (omega arith)
