-- The laws in their public form, from the lemmas on places.
use Rattle.std.proofs.Common.{◌≡◌, ℕ, suc, ◌+◌, ◌<◌, inl, inr, Bool, true, false, cond, nat_lt, List, [], ◌∷◌, length, map, All, Some, None, refl, sym, ap, ◌∙◌, subst, arith, one-mul}
use Rattle.choice_lists.specs.Order.{IsRising, is_before, vector_before}
use Rattle.choice_lists.specs.Arrangements.{factorial, arrangements, factorial_number, numbered}
use Rattle.choice_lists.specs.Choices.{mirror_choice, bond_choices, rigid_choices, IsChoiceList}
use Rattle.choice_lists.specs.Products.{product, IsSelection, product_of, AreDigits, AreFirsts, AreLasts}
use Rattle.choice_lists.specs.Numbers.{radix_number, AreDigitsBelow, digits_of}
use Rattle.choice_lists.specs.Locks.{locked_from, locked_lists, AgreeWhereLocked}
use Rattle.choice_lists.specs.Laws.{NumberTellsArrangement, LehmerDigits, LockedRadices, LockedDigits, FirstDifferenceDecides, ArrangementsAreCounted, NumberIsPlace, PlaceIsNumber, PlaceOfVector, NumberOfNumbered, NumberedByNumber, NextArrangementFollows, NextArrangementRearranges, FallsOrHasNext, FallingHasNoNext, BondChoiceIsNumbered, BondBeginsRising, BondEndsMirrored, NextBondChoice, RigidChoicesAreListed, SecondKeyDecides, ChoiceListsRise, ChoiceListsEndMirrored, SelectionsAreListed, FirstVector, LastVector, LastVectorIsMirrored, SelectionsHaveDigits, DigitsOfPlace, NumberOfDigits, NumberFromTheFirst, NextVectorFollows, LastHasNoNext, LockedAreListed, LockedListsRise, NoneLocked, ProductWithinLimit}
use Rattle.choice_lists.proofs.Places.{At, at-from, at-is, at-get, at-within, at-any, at-same, at-place, has-from, contains-from, Ascends, ascends-from, rising-from, ascends-once}
use Rattle.choice_lists.proofs.Orders.{linear-before, linear-vectors, never-itself, lex-difference, lex-from_difference}
use Rattle.choice_lists.proofs.Products.{product-at, selection-digits, selection-has, has-selection, product-ascends, product-first, product-last, at-first, first-at, at-last, next_vector-at, last-no-next, selection-firsts}
use Rattle.choice_lists.proofs.Numbers.{digits-number, digits-below, number-digits, horner-number, checked-product}
use Rattle.choice_lists.proofs.Locks.{locked-lengths, locked-digits, AgreeFrom, locked-selection, selection-locked, locked-ascend}
use Rattle.choice_lists.proofs.Arrangements.{lehmer-below, lehmer-number, arrangements-length, arrangement-at, numbered-at}
use Rattle.choice_lists.proofs.NextArrangement.{next-follows, falling-or-next, falling-no_next}
use Rattle.choice_lists.proofs.Choices.{before-never, arrangement-place, next_arrangement-at, bond-at, bond-first, bond-last, bond-next, rigid-ascends, rigid-has, rigid-first, rigid-second, choice_list-ascends, choice_list-ends}

-- no vector comes before itself
vector-never : (v : List (List ℕ)) → vector_before v v ≡ false
vector-never v = never-itself vector_before linear-vectors.apart v

-- rising lists, each at its place
each-ascends : (lists : List (List (List ℕ))) → All (IsRising is_before) lists → (k : ℕ) (c : List (List ℕ)) → At lists k c → Ascends is_before c
each-ascends lists h k c a = ascends-from is_before c (subst (λ (z : List (List ℕ)). IsRising is_before z) (at-get lists k c c a) (h k c (at-within lists k c a)))

-- and back
all-rising : (lists : List (List (List ℕ))) → ((k : ℕ) (c : List (List ℕ)) → At lists k c → Ascends is_before c) → All (IsRising is_before) lists
all-rising lists h k d l = let m = at-any lists k l in
    subst (λ (z : List (List ℕ)). IsRising is_before z) (sym (at-get lists k m.0 d m.1)) (rising-from is_before m.0 (h k m.0 m.1))

-- the product rises
vectors-ascend : (lists : List (List (List ℕ))) → All (IsRising is_before) lists → Ascends vector_before (product lists)
vectors-ascend lists h = product-ascends is_before lists before-never (each-ascends lists h)

pub first-difference : FirstDifferenceDecides
first-difference v w e = (λ h. lex-difference is_before linear-before v w e h, λ d. lex-from_difference is_before linear-before v w d)

pub arrangements-counted : ArrangementsAreCounted
arrangements-counted keys = arrangements-length (length keys) keys refl

pub number-place : NumberIsPlace
number-place keys a r p = at-is (arrangements keys) (factorial_number a) a (arrangement-at (length keys) keys a refl (ascends-from nat_lt keys r) p)

pub place-number : PlaceIsNumber
place-number keys i h = at-is (arrangements keys) i (numbered keys i) (numbered-at (length keys) keys i refl h)

pub number-numbered : NumberOfNumbered
number-numbered keys i r h = sym (arrangement-place keys (numbered keys i) i (ascends-from nat_lt keys r) (numbered-at (length keys) keys i refl h))

pub numbered-number : NumberedByNumber
numbered-number keys a r p =
    let m = arrangement-at (length keys) keys a refl (ascends-from nat_lt keys r) p in
    let l : factorial_number a < factorial (length keys) = omega (arith, at-within (arrangements keys) (factorial_number a) a m, arrangements-length (length keys) keys refl) in
    at-same (arrangements keys) (factorial_number a) (numbered keys (factorial_number a)) a (numbered-at (length keys) keys (factorial_number a) refl l) m

pub number-tells : NumberTellsArrangement
number-tells keys a b r p q e =
    let m = arrangement-at (length keys) keys a refl (ascends-from nat_lt keys r) p in
    let n = arrangement-at (length keys) keys b refl (ascends-from nat_lt keys r) q in
    at-same (arrangements keys) (factorial_number a) a b m (at-place (arrangements keys) (factorial_number b) (factorial_number a) b (sym e) n)

pub lehmer-digits : LehmerDigits
lehmer-digits a = (lehmer-below a, lehmer-number a)

pub next-arrangement : NextArrangementFollows
next-arrangement keys a b i r m n = at-is (arrangements keys) (i + 1) b (next_arrangement-at keys a b i (ascends-from nat_lt keys r) (at-from (arrangements keys) i a m.0 m.1) n)

pub next-rearranges : NextArrangementRearranges
next-rearranges a b n = let f = next-follows a b n in (f.same, f.number)

pub falls-or_next : FallsOrHasNext
falls-or_next a d = elim (falling-or-next a d) [
  | inl f ↦ inl (rising-from (λ u v. nat_lt v u) a f)
  | inr n ↦ inr n
]

pub falling-none : FallingHasNoNext
falling-none a b f n = falling-no_next a b (ascends-from (λ u v. nat_lt v u) a f) n

pub bond-numbered : BondChoiceIsNumbered
bond-numbered key keys choice r b = at-is (bond_choices (key ∷ keys)) (factorial_number choice) choice (bond-at key keys (ascends-from nat_lt (key ∷ keys) r) choice b)

pub bond-begins : BondBeginsRising
bond-begins key keys r = at-is (bond_choices (key ∷ keys)) 0 (key ∷ keys) (bond-first key keys (ascends-from nat_lt (key ∷ keys) r))

pub bond-ends : BondEndsMirrored
bond-ends key keys r = bond-last key keys (ascends-from nat_lt (key ∷ keys) r)

pub bond-following : NextBondChoice
bond-following key keys a b i r m n =
    at-is (bond_choices (key ∷ keys)) (i + 1) (key ∷ b) (bond-next key keys a b i (ascends-from nat_lt (key ∷ keys) r) (at-from (bond_choices (key ∷ keys)) i (key ∷ a) m.0 m.1) n)

pub rigid-listed : RigidChoicesAreListed
rigid-listed choice n = record {
  rises = rising-from is_before (rigid_choices choice) (rigid-ascends choice n);
  exactly = λ c. (
    λ m. (rigid-has choice c).0 (has-from (rigid_choices choice) c m),
    λ e. contains-from (rigid_choices choice) c ((rigid-has choice c).1 e),
  );
}

pub second-key : SecondKeyDecides
second-key key keys = (rigid-first key keys, rigid-second key keys)

pub choice_lists-rise : ChoiceListsRise
choice_lists-rise l c = rising-from is_before l (choice_list-ascends l c)

pub choice_lists-end : ChoiceListsEndMirrored
choice_lists-end l choice c f = choice_list-ends l c choice f

pub selections-listed : SelectionsAreListed
selections-listed lists h = record {
  rises = rising-from vector_before (product lists) (vectors-ascend lists h);
  exactly = λ v. (
    λ m. let k = has-from (product lists) v m in has-selection lists k.0 v k.1,
    λ s. contains-from (product lists) v (selection-has lists v s),
  );
}

pub first-vector : FirstVector
first-vector lists v f = at-first (product lists) v (product-first lists v f)

pub last-vector : LastVector
last-vector lists v l = let m = product-last lists v l in at-last (product lists) m.0 v m.1 m.2

-- the first vector has first choices
firsts-of : (lists : List (List (List ℕ))) (v : List (List ℕ)) → IsSelection lists v → At (product lists) 0 v → AreFirsts lists v
firsts-of [] [] s m = tt
firsts-of [] (x ∷ v) s m = absurd s
firsts-of (c ∷ lists) [] s m = absurd s
firsts-of (c ∷ lists) (x ∷ v) s m =
    let f = selection-firsts (c ∷ lists) (x ∷ v) s in
    subst (λ (z : List (List ℕ)). AreFirsts (c ∷ lists) z) (at-same (product (c ∷ lists)) 0 f.0 (x ∷ v) (product-first (c ∷ lists) f.0 f.1) m) f.1

-- the mirror images of the first choices are the last
mirrored-lasts : (lists : List (List (List ℕ))) (v : List (List ℕ)) → ((k : ℕ) (c : List (List ℕ)) → At lists k c → IsChoiceList c) → AreFirsts lists v → AreLasts lists (map mirror_choice v)
mirrored-lasts [] [] h f = tt
mirrored-lasts [] (x ∷ v) h f = absurd f
mirrored-lasts (c ∷ lists) [] h f = absurd f
mirrored-lasts (c ∷ lists) (x ∷ v) h f = (choice_list-ends c (h 0 c refl) x f.0, mirrored-lasts lists v (λ k d a. h (suc k) d a) f.1)

pub last-mirrored : LastVectorIsMirrored
last-mirrored lists v h f =
    let m = first-at (product lists) v f in
    last-vector lists (map mirror_choice v)
    (mirrored-lasts lists v (λ k c a. subst (λ (z : List (List ℕ)). IsChoiceList z) (at-get lists k c c a) (h k c (at-within lists k c a)))
    (firsts-of lists v (has-selection lists 0 v m) m))

-- digits are below the radices
digits-within : (lists : List (List (List ℕ))) (v : List (List ℕ)) (ds : List ℕ) → AreDigits lists v ds → AreDigitsBelow (map length lists) ds
digits-within [] [] [] h = tt
digits-within [] [] (d ∷ ds) h = absurd h
digits-within [] (x ∷ v) ds h = absurd h
digits-within (c ∷ lists) [] ds h = absurd h
digits-within (c ∷ lists) (x ∷ v) [] h = absurd h
digits-within (c ∷ lists) (x ∷ v) (d ∷ ds) h = (h.0.0, digits-within lists v ds h.1)

pub selections-digits : SelectionsHaveDigits
selections-digits lists v s = let d = selection-digits lists v s in (d.0, d.1, digits-within lists v d.0 d.1)

pub place-vector : PlaceOfVector
place-vector lists v digits d = at-is (product lists) (radix_number (map length lists) digits) v (product-at lists v digits d)

pub place-digits : DigitsOfPlace
place-digits lists i v h m =
    let a = at-from (product lists) i v m.0 m.1 in
    let d = selections-digits lists v (has-selection lists i v a) in
    let e : i ≡ radix_number (map length lists) d.0 = ascends-once vector_before (product lists) vector-never (vectors-ascend lists h) i (radix_number (map length lists) d.0) v a (product-at lists v d.0 d.1) in
    subst (λ (z : List ℕ). AreDigits lists v z) (sym (ap (digits_of (map length lists)) e ∙ digits-number (map length lists) d.0 d.2)) d.1

pub number-of_digits : NumberOfDigits
number-of_digits radices n h = (digits-below radices n h, number-digits radices n h)

pub from-first : NumberFromTheFirst
from-first radices digits h = omega (arith, horner-number 0 radices digits h)

pub next-vector : NextVectorFollows
next-vector lists v w i h m n =
    let a = next_vector-at lists v w n in
    let e : i ≡ a.0 = ascends-once vector_before (product lists) vector-never (vectors-ascend lists h) i a.0 v (at-from (product lists) i v m.0 m.1) a.1 in
    at-is (product lists) (i + 1) w (at-place (product lists) (a.0 + 1) (i + 1) w (omega (arith, e)) a.2)

pub last-none : LastHasNoNext
last-none lists v w h l n = last-no-next is_before lists v w before-never (each-ascends lists h) vector-never l n

pub locked-rise : LockedListsRise
locked-rise locked lists v h = all-rising (locked_lists locked v lists) (locked-ascend is_before 0 locked lists v (each-ascends lists h))

-- places counted from 0
from-zero : (locked : ℕ → Bool) (v w : List (List ℕ)) → AgreeWhereLocked locked v w → AgreeFrom 0 locked v w
from-zero locked v w a j d l = a j d (subst (λ z. locked z ≡ true) (omega arith) l)

to-zero : (locked : ℕ → Bool) (v w : List (List ℕ)) → AgreeFrom 0 locked v w → AgreeWhereLocked locked v w
to-zero locked v w a j d l = a j d (subst (λ z. locked z ≡ true) (omega arith) l)

pub locked-listed : LockedAreListed
locked-listed locked lists v h s = record {
  rises = (selections-listed (locked_lists locked v lists) (locked-rise locked lists v h)).rises;
  exactly = λ w. (
    λ m. let k = has-from (product (locked_lists locked v lists)) w m in
        let r = locked-selection 0 locked lists v w s (has-selection (locked_lists locked v lists) k.0 w k.1) in (r.0, to-zero locked v w r.1),
    λ p. contains-from (product (locked_lists locked v lists)) w (selection-has (locked_lists locked v lists) w (selection-locked 0 locked lists v w s p.0 (from-zero locked v w p.1))),
  );
}

pub locked-radices : LockedRadices
locked-radices locked lists v s = locked-lengths 0 locked lists v s

pub locked-place : LockedDigits
locked-place locked lists v w digits s a h = locked-digits 0 locked lists v w digits s (from-zero locked v w a) h

-- from any place on
none-locked_from : (k : ℕ) (lists : List (List (List ℕ))) (v : List (List ℕ)) → IsSelection lists v → locked_from k (λ j. false) v lists ≡ lists
none-locked_from k [] [] s = refl
none-locked_from k [] (x ∷ v) s = absurd s
none-locked_from k (c ∷ lists) [] s = absurd s
none-locked_from k (c ∷ lists) (x ∷ v) s = ap (λ (z : List (List (List ℕ))). c ∷ z) (none-locked_from (k + 1) lists v s.1)

pub none-locked : NoneLocked
none-locked lists v s = none-locked_from 0 lists v s

pub within-limit : ProductWithinLimit
within-limit limit factors l h = checked-product limit 1 factors l h ∙ ap (λ z. cond (nat_lt z limit) (Some z) None) (one-mul (product_of factors))
