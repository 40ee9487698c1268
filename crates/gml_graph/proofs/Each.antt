-- Values taken one after another up to the first refusal.
use Rattle.std.proofs.Common.{◌≡◌, ℕ, zero, suc, ◌+◌, ◌≤◌, inl, inr, List, [], ◌∷◌, ◌++◌, length, Result, Ok, Err, refl, ap, subst, ◌∙◌, add-one, length-append, arith}
use Rattle.std.proofs.lemmas.Bool.{cases_lt}
use Rattle.gml_graph.specs.Answer.{and_one_more, each_below, Refuses}
use Rattle.gml_graph.specs.declared.fault.GraphFault.{GraphFault}
use Rattle.gml_graph.specs.declared.fault.GraphFault.TheVariants.{Memory}

-- a refusal, once met, is the answer
pub each_below-refused : {A : Type 0} (f : ℕ → Result A GraphFault) (n k : ℕ) (e : GraphFault) → k ≤ n → each_below k f ≡ Err e → each_below n f ≡ Err e
each_below-refused f zero k e h r = let z : k ≡ zero = omega arith in subst (λ (z : ℕ). each_below z f ≡ Err e) z r
each_below-refused f (suc n) k e h r = elim (cases_lt n k) [
  | inl l ↦ let z : k ≡ suc n = omega arith in subst (λ (z : ℕ). each_below z f ≡ Err e) z r
  | inr l ↦ rw (each_below-refused f n k e l r) refl
]

-- one value more
pub each_below-more : {A : Type 0} (f : ℕ → Result A GraphFault) (k : ℕ) (xs : List A) → each_below k f ≡ Ok xs → each_below (k + 1) f ≡ and_one_more (Ok xs) (f k)
each_below-more f k xs h = rw (add-one, h) refl

-- what was accepted with one value more
pub record IsOneMore {A : Type 0} (r : Result (List A) GraphFault) (s : Result A GraphFault) (ys : List A) : Type 0 where
  pub before : List A
  pub last : A
  pub was_before : r ≡ Ok before
  pub was_last : s ≡ Ok last
  pub all : ys ≡ before ++ last ∷ []

pub one_more-accepted : {A : Type 0} (r : Result (List A) GraphFault) (s : Result A GraphFault) (ys : List A) → and_one_more r s ≡ Ok ys → IsOneMore r s ys
one_more-accepted (Err e) s ys h = cc
one_more-accepted (Ok xs) (Err e) ys h = cc
one_more-accepted (Ok xs) (Ok x) ys h = record { before = xs; last = x; was_before = refl; was_last = refl; all = cc }

-- as many values as places
pub each_below-length : {A : Type 0} (f : ℕ → Result A GraphFault) (n : ℕ) (xs : List A) → each_below n f ≡ Ok xs → length xs ≡ n
each_below-length f zero xs h = let e : xs ≡ [] = cc in rw e
each_below-length f (suc n) xs h =
    let m = one_more-accepted (each_below n f) (f n) xs h in
    let e : length xs ≡ length m.before + 1 = ap length m.all ∙ length-append m.before (m.last ∷ []) in
    omega (arith, e, each_below-length f n m.before m.was_before)

-- a refusal that is due
pub Refuses-due : {A : Type 0} (due : Result A GraphFault) (e : GraphFault) → due ≡ Err e → Refuses due e
Refuses-due due Memory h = tt
Refuses-due due e h = h

-- a refusal that is due for a part is due for the whole
pub Refuses-passed : {A B : Type 0} (part : Result A GraphFault) (whole : Result B GraphFault) (e : GraphFault) → ((f : GraphFault) → part ≡ Err f → whole ≡ Err f) → Refuses part e → Refuses whole e
Refuses-passed part whole Memory p h = tt
Refuses-passed part whole e p h = p e h
