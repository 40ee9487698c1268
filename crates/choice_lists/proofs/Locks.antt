-- Lists with some places locked.
use Rattle.std.proofs.Common.{◌≡◌, ℕ, zero, suc, ◌+◌, inl, inr, Bool, true, cond, List, [], ◌∷◌, slice_index_or, Contains, refl, subst, arith, map, ap₂, length}
use Rattle.std.proofs.lemmas.Bool.{cases_Bool, both_ways}
use Rattle.choice_lists.specs.Products.{IsSelection, AreDigits}
use Rattle.choice_lists.specs.Order.{IsAt}
use Rattle.choice_lists.specs.Locks.{digits_from, locked_from, radices_from}
use Rattle.choice_lists.proofs.Places.{At, Has, has-from, contains-from, Ascends}

-- agreement at the locked places, the places counted from k on
abbrev pub AgreeFrom : {X : Type 0} → ℕ → (ℕ → Bool) → List X → List X → Type 0
AgreeFrom {X} k locked v w = (j : ℕ) (d : X) → locked (k + j) ≡ true → slice_index_or v j d ≡ slice_index_or w j d

-- the first place, where it is locked
agree-first : {X : Type 0} (k : ℕ) (locked : ℕ → Bool) (x y : X) (v w : List X) → AgreeFrom k locked (x ∷ v) (y ∷ w) → locked k ≡ true → x ≡ y
agree-first k locked x y v w h l = h 0 x (subst (λ z. locked z ≡ true) (omega arith) l)

-- the places behind it
agree-rest : {X : Type 0} (k : ℕ) (locked : ℕ → Bool) (x y : X) (v w : List X) → AgreeFrom k locked (x ∷ v) (y ∷ w) → AgreeFrom (k + 1) locked v w
agree-rest k locked x y v w h j d l = h (suc j) d (subst (λ z. locked z ≡ true) (omega arith) l)

-- both together
agree-cons : {X : Type 0} (k : ℕ) (locked : ℕ → Bool) (x y : X) (v w : List X) → (locked k ≡ true → x ≡ y) → AgreeFrom (k + 1) locked v w → AgreeFrom k locked (x ∷ v) (y ∷ w)
agree-cons k locked x y v w e h zero d l = e (subst (λ z. locked z ≡ true) (omega arith) l)
agree-cons k locked x y v w e h (suc j) d l = h j d (subst (λ z. locked z ≡ true) (omega arith) l)

-- a member of a list of one
one-member : {X : Type 0} (x y : X) → Contains (x ∷ []) y → x ≡ y
one-member x y c = at (has-from (x ∷ []) y c)
  where
    at : Has (x ∷ []) y → x ≡ y
    at (zero, e) = e
    at (suc i, e) = absurd e

-- a selection with locked places is a selection, and agrees there
pub locked-selection : {X : Type 0} (k : ℕ) (locked : ℕ → Bool) (cs : List (List X)) (v w : List X) → IsSelection cs v
    → IsSelection (locked_from k locked v cs) w → IsSelection cs w × AgreeFrom k locked v w
locked-selection k locked [] [] [] s h = (tt, λ j d l. refl)
locked-selection k locked [] [] (y ∷ w) s h = absurd h
locked-selection k locked [] (x ∷ v) w s h = absurd s
locked-selection k locked (c ∷ cs) [] w s h = absurd s
locked-selection k locked (c ∷ cs) (x ∷ v) [] s h = absurd h
locked-selection {X} k locked (c ∷ cs) (x ∷ v) (y ∷ w) s h =
    let r = locked-selection (k + 1) locked cs v w s.1 h.1 in
    let f = here h.0 in
    ((f.0, r.0), agree-cons k locked x y v w f.1 r.1)
  where
    here : Contains (cond (locked k) (x ∷ []) c) y → Contains c y × (locked k ≡ true → x ≡ y)
    here m = elim (cases_Bool (locked k)) [
      | inl t ↦ let e : x ≡ y = one-member x y (rw t at m) in (subst (λ z. Contains c z) e s.0, λ l. e)
      | inr f ↦ (rw f at m, λ l. absurd (both_ways (locked k) f l))
    ]

-- and a selection that agrees there is one with locked places
pub selection-locked : {X : Type 0} (k : ℕ) (locked : ℕ → Bool) (cs : List (List X)) (v w : List X) → IsSelection cs v
    → IsSelection cs w → AgreeFrom k locked v w → IsSelection (locked_from k locked v cs) w
selection-locked k locked [] [] w s h a = h
selection-locked k locked [] (x ∷ v) w s h a = absurd s
selection-locked k locked (c ∷ cs) [] w s h a = absurd s
selection-locked k locked (c ∷ cs) (x ∷ v) [] s h a = absurd h
selection-locked {X} k locked (c ∷ cs) (x ∷ v) (y ∷ w) s h a =
    (here, selection-locked (k + 1) locked cs v w s.1 h.1 (agree-rest k locked x y v w a))
  where
    here : Contains (cond (locked k) (x ∷ []) c) y
    here = elim (cases_Bool (locked k)) [
      | inl t ↦ rw t (contains-from (x ∷ []) y (0, agree-first k locked x y v w a t))
      | inr f ↦ rw f h.0
    ]

-- rising lists rise with places locked
pub locked-ascend : {X : Type 0} (before : X → X → Bool) (k : ℕ) (locked : ℕ → Bool) (cs : List (List X)) (v : List X)
    → ((q : ℕ) (c : List X) → At cs q c → Ascends before c) → (q : ℕ) (c : List X) → At (locked_from k locked v cs) q c → Ascends before c
locked-ascend before k locked cs [] h q c a = h q c a
locked-ascend before k locked [] (x ∷ v) h q c a = absurd a
locked-ascend {X} before k locked (d ∷ cs) (x ∷ v) h zero c a = subst (λ (z : List X). Ascends before z) a here
  where
    here : Ascends before (cond (locked k) (x ∷ []) d)
    here = elim (cases_Bool (locked k)) [
      | inl t ↦ rw t (λ i y m. absurd m, tt)
      | inr f ↦ rw f (h 0 d refl)
    ]
locked-ascend before k locked (d ∷ cs) (x ∷ v) h (suc q) c a = locked-ascend before (k + 1) locked cs v (λ i e m. h (suc i) e m) q c a

-- the lengths of the lists, with 1 at the locked places
pub locked-lengths : {X : Type 0} (k : ℕ) (locked : ℕ → Bool) (cs : List (List X)) (v : List X) → IsSelection cs v → map length (locked_from k locked v cs) ≡ radices_from k locked (map length cs)
locked-lengths k locked [] [] s = refl
locked-lengths k locked [] (x ∷ v) s = absurd s
locked-lengths k locked (c ∷ cs) [] s = absurd s
locked-lengths k locked (c ∷ cs) (x ∷ v) s = ap₂ (λ a b. a ∷ b) here (locked-lengths (k + 1) locked cs v s.1)
  where
    here : length (cond (locked k) (x ∷ []) c) ≡ cond (locked k) 1 (length c)
    here = elim (cases_Bool (locked k)) [ inl t ↦ rw t refl | inr f ↦ rw f refl ]

-- the digits, with 0 at the locked places
pub locked-digits : {X : Type 0} (k : ℕ) (locked : ℕ → Bool) (cs : List (List X)) (v w : List X) (ds : List ℕ) → IsSelection cs v → AgreeFrom k locked v w → AreDigits cs w ds
    → AreDigits (locked_from k locked v cs) w (digits_from k locked ds)
locked-digits k locked [] [] [] [] s a h = tt
locked-digits k locked [] [] [] (d ∷ ds) s a h = absurd h
locked-digits k locked [] [] (y ∷ w) ds s a h = absurd h
locked-digits k locked [] (x ∷ v) w ds s a h = absurd s
locked-digits k locked (c ∷ cs) [] w ds s a h = absurd s
locked-digits k locked (c ∷ cs) (x ∷ v) [] ds s a h = absurd h
locked-digits k locked (c ∷ cs) (x ∷ v) (y ∷ w) [] s a h = absurd h
locked-digits k locked (c ∷ cs) (x ∷ v) (y ∷ w) (d ∷ ds) s a h =
    (here, locked-digits (k + 1) locked cs v w ds s.1 (agree-rest k locked x y v w a) h.1)
  where
    here : IsAt (cond (locked k) (x ∷ []) c) (cond (locked k) 0 d) y
    here = elim (cases_Bool (locked k)) [
      | inl t ↦ rw t (omega arith, agree-first k locked x y v w a t)
      | inr f ↦ rw f h.0
    ]
