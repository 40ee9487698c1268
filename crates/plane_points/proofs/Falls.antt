-- A list is counterclockwise exactly where at most one member does not come before the next one.
use Rattle.std.proofs.Common.{◌≡◌, ℕ, ◌⊎◌, inl, inr, ◌+◌, ◌≤◌, ◌↔◌, Bool, true, false, List, [], ◌∷◌, ◌++◌, refl, sym, ap, ◌∙◌, subst, append-nil, cond, arith}
use Rattle.std.proofs.lemmas.Bool.{cases_Bool}
use Rattle.plane_points.specs.Turning.{comes_before, falls_from, falls_around, IsCounterclockwise}
use Rattle.plane_points.proofs.Directions.{Comes, comes-true, true-comes, comes-trans}
use Rattle.plane_points.proofs.Rising.{Each, Rises, each-map, rises-first, rises-second, rises-across}
use Rattle.plane_points.proofs.Cyclic.{Counter, counter-from, counter-to}

abbrev pub last_of : ℕ × ℕ → List (ℕ × ℕ) → ℕ × ℕ
last_of p [] = p
last_of p (q ∷ l) = last_of q l

abbrev pub fall : ℕ × ℕ → ℕ × ℕ → ℕ × ℕ → ℕ
fall c p q = cond (comes_before c p q) 0 1

-- how often a list falls back, without the way from its end to its beginning
abbrev pub steps : ℕ × ℕ → ℕ × ℕ → List (ℕ × ℕ) → ℕ
steps c p [] = 0
steps c p (q ∷ l) = fall c p q + steps c q l

-- each member comes before the next one
abbrev Chain : ℕ × ℕ → ℕ × ℕ → List (ℕ × ℕ) → Type 0
Chain c p [] = Unit {0}
Chain c p (q ∷ l) = Comes c p q × Chain c q l

pub fall-most : (c p q : ℕ × ℕ) → fall c p q ≤ 1
fall-most c p q = elim (cases_Bool (comes_before c p q)) [ inl h ↦ rw h (omega arith) | inr h ↦ rw h (omega arith) ]

pub fall-none : (c p q : ℕ × ℕ) → Comes c p q → fall c p q ≡ 0
fall-none c p q h = rw (true-comes c p q h)

pub open-falls : (c first p : ℕ × ℕ) (l : List (ℕ × ℕ)) → falls_from c first p l ≡ steps c p l + fall c (last_of p l) first
open-falls c first p [] = omega arith
open-falls c first p (q ∷ l) = let e : falls_from c first q l ≡ steps c q l + fall c (last_of q l) first = open-falls c first q l in omega (arith, e)

pub steps-append : (c p q : ℕ × ℕ) (a b : List (ℕ × ℕ)) → steps c p (a ++ q ∷ b) ≡ steps c p a + (fall c (last_of p a) q + steps c q b)
steps-append c p q [] b = omega arith
steps-append c p q (z ∷ a) b = let e : steps c z (a ++ q ∷ b) ≡ steps c z a + (fall c (last_of z a) q + steps c q b) = steps-append c z q a b in omega (arith, e)

pub last-append : (p q : ℕ × ℕ) (a b : List (ℕ × ℕ)) → last_of p (a ++ q ∷ b) ≡ last_of q b
last-append p q [] b = refl
last-append p q (z ∷ a) b = last-append z q a b

rises-chain : (c p : ℕ × ℕ) (l : List (ℕ × ℕ)) → Rises (Comes c) (p ∷ l) → Chain c p l
rises-chain c p [] r = tt
rises-chain c p (q ∷ l) r = (r.0.0, rises-chain c q l r.1)

chain-rises : (c p : ℕ × ℕ) (l : List (ℕ × ℕ)) → Chain c p l → Rises (Comes c) (p ∷ l)
chain-rises c p [] h = (tt, tt)
chain-rises c p (q ∷ l) h = let r : Rises (Comes c) (q ∷ l) = chain-rises c q l h.1 in ((h.0, each-map (Comes c q) (Comes c p) (λ z e. comes-trans c p q z h.0 e) l r.0), r)

chain-steps : (c p : ℕ × ℕ) (l : List (ℕ × ℕ)) → Chain c p l → steps c p l ≡ 0
chain-steps c p [] h = refl
chain-steps c p (q ∷ l) h = let e : steps c q l ≡ 0 = chain-steps c q l h.1 in let f : fall c p q ≡ 0 = fall-none c p q h.0 in omega (arith, e, f)

chain-append : (c p q : ℕ × ℕ) (a b : List (ℕ × ℕ)) → Chain c p a → Comes c (last_of p a) q → Chain c q b → Chain c p (a ++ q ∷ b)
chain-append c p q [] b h s k = (s, k)
chain-append c p q (z ∷ a) b h s k = (h.0, chain-append c z q a b h.1 s k)

steps-chain : (c p : ℕ × ℕ) (l : List (ℕ × ℕ)) → steps c p l ≡ 0 → Chain c p l
steps-chain c p [] h = tt
steps-chain c p (q ∷ l) h = elim (cases_Bool (comes_before c p q)) [
  | inl t ↦ (comes-true c p q t, steps-chain c q l (let k : 0 + steps c q l ≡ 0 = (rw t at h) in omega (arith, k)))
  | inr t ↦ absurd (let k : 1 + steps c q l ≡ 0 = (rw t at h) in omega (arith, k))
]

-- a list that falls at most once is a chain, or two
cut-steps : (c p : ℕ × ℕ) (l : List (ℕ × ℕ)) → steps c p l ≤ 1 → Chain c p l ⊎ ((a : List (ℕ × ℕ)) × (q : ℕ × ℕ) × (b : List (ℕ × ℕ)) × (l ≡ a ++ q ∷ b) × Chain c p a × Chain c q b × (steps c p l ≡ 1))
cut-steps c p [] h = inl tt
cut-steps c p (q ∷ l) h = elim (cases_Bool (comes_before c p q)) [
  | inl t ↦ elim (cut-steps c q l (let k : 0 + steps c q l ≤ 1 = (rw t at h) in omega (arith, k))) [
    | inl k ↦ inl (comes-true c p q t, k)
    | inr w ↦ inr (q ∷ w.0, w.1, w.2, ap (λ (u : List (ℕ × ℕ)). q ∷ u) w.3, (comes-true c p q t, w.4), w.5, rw t (let k : steps c q l ≡ 1 = w.6 in omega (arith, k)))
  ]
  | inr t ↦ let n : steps c q l ≡ 0 = (let k : 1 + steps c q l ≤ 1 = (rw t at h) in omega (arith, k)) in inr ([], q, l, refl, tt, steps-chain c q l n, rw t (omega (arith, n)))
]

counter-falls : (c : ℕ × ℕ) (l : List (ℕ × ℕ)) → Counter c l → falls_around c l ≤ 1
counter-falls c [] w = omega arith
counter-falls c (p ∷ l) (f, b, e, r) = go f b e r
  where
    flat : Rises (Comes c) (p ∷ l) → falls_from c p p l ≤ 1
    flat s = omega (arith, open-falls c p p l, chain-steps c p l (rises-chain c p l s), fall-most c (last_of p l) p)

    head : List (ℕ × ℕ) → ℕ × ℕ
    head [] = p
    head (x ∷ xs) = x

    rest : List (ℕ × ℕ) → List (ℕ × ℕ)
    rest [] = []
    rest (x ∷ xs) = xs

    cut : (f b : List (ℕ × ℕ)) (x q : ℕ × ℕ) → x ≡ p → l ≡ f ++ q ∷ b → Rises (Comes c) ((q ∷ b) ++ (x ∷ f)) → falls_from c p p l ≤ 1
    cut f b x q is at r = omega (arith, open-falls c p p l, inner, closing)
      where
        chained : Chain c p f
        chained = rises-chain c p f (subst (λ (z : ℕ × ℕ). Rises (Comes c) (z ∷ f)) is (rises-second (Comes c) (q ∷ b) (x ∷ f) r))

        second : Chain c q b
        second = rises-chain c q b (rises-first (Comes c) (q ∷ b) (x ∷ f) r)

        inner : steps c p l ≤ 1
        inner = subst (λ (t : List (ℕ × ℕ)). steps c p t ≤ 1) (sym at) (omega (arith, steps-append c p q f b, chain-steps c p f chained, chain-steps c q b second, fall-most c (last_of p f) q))

        each-last : (z : ℕ × ℕ) (t : List (ℕ × ℕ)) (P : ℕ × ℕ → Type 0) → Each P (z ∷ t) → P (last_of z t)
        each-last z [] P e = e.0
        each-last z (y ∷ t) P e = each-last y t P e.1

        comes : Comes c (last_of q b) x
        comes = (each-last q b (λ y. Each (Comes c y) (x ∷ f)) (rises-across (Comes c) (q ∷ b) (x ∷ f) r)).0

        closing : fall c (last_of p l) p ≡ 0
        closing = subst (λ (t : List (ℕ × ℕ)). fall c (last_of p t) p ≡ 0) (sym at) (subst (λ (z : ℕ × ℕ). fall c z p ≡ 0) (sym (last-append p q f b)) (subst (λ (z : ℕ × ℕ). fall c (last_of q b) z ≡ 0) is (fall-none c (last_of q b) x comes)))

    go : (f b : List (ℕ × ℕ)) → p ∷ l ≡ f ++ b → Rises (Comes c) (b ++ f) → falls_from c p p l ≤ 1
    go [] b e r = flat (subst (Rises (Comes c)) (append-nil b ∙ sym e) r)
    go (x ∷ f) [] e r = flat (subst (Rises (Comes c)) (sym (e ∙ append-nil (x ∷ f))) r)
    go (x ∷ f) (q ∷ b) e r = cut f b x q (sym (ap head e)) (ap rest e) r

falls-counter : (c : ℕ × ℕ) (l : List (ℕ × ℕ)) → falls_around c l ≤ 1 → Counter c l
falls-counter c [] h = ([], [], refl, tt)
falls-counter c (p ∷ l) h = go (cut-steps c p l (omega (arith, open-falls c p p l, h)))
  where
    go : Chain c p l ⊎ ((a : List (ℕ × ℕ)) × (q : ℕ × ℕ) × (b : List (ℕ × ℕ)) × (l ≡ a ++ q ∷ b) × Chain c p a × Chain c q b × (steps c p l ≡ 1)) → Counter c (p ∷ l)
    go (inl k) = ([], p ∷ l, refl, subst (Rises (Comes c)) (sym (append-nil (p ∷ l))) (chain-rises c p l k))
    go (inr (a, q, b, at, first, second, one)) = (p ∷ a, q ∷ b, ap (λ (t : List (ℕ × ℕ)). p ∷ t) at, chain-rises c q (b ++ p ∷ a) (chain-append c q p b a second (closing (comes_before c (last_of q b) p) refl) first))
      where
        none : fall c (last_of q b) p ≡ 0
        none = subst (λ (z : ℕ × ℕ). fall c z p ≡ 0) (last-append p q a b) (subst (λ (t : List (ℕ × ℕ)). fall c (last_of p t) p ≡ 0) at (omega (arith, open-falls c p p l, h, one)))

        closing : (t : Bool) → comes_before c (last_of q b) p ≡ t → Comes c (last_of q b) p
        closing true e = comes-true c (last_of q b) p e
        closing false e = absurd (omega (arith, (rw e at none)))

-- the test
pub falls-tell : (c : ℕ × ℕ) (l : List (ℕ × ℕ)) → (falls_around c l ≤ 1) ↔ IsCounterclockwise c l
falls-tell c l = ((λ h. counter-to c l (falls-counter c l h)), (λ w. counter-falls c l (counter-from c l w)))
