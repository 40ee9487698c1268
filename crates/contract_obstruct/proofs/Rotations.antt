-- A cyclic order, and the lists that it is from each of its places on.
use Rattle.std.proofs.Common.{◌≡◌, ℕ, suc, ◌+◌, ◌<◌, List, [], ◌∷◌, ◌++◌, length, get_or, take, drop, slice_index, refl, sym, ap, ◌∙◌, append-nil, append_assoc, take-append-drop, length-append, add-one, arith}
use Rattle.std.proofs.Math.Seq.{drop-cons, take-suc}
use Rattle.permutations.specs.Cyclic.{IsTurn}
use Rattle.permutations.proofs.CyclicSame.{IsTurn-trans}
use Rattle.contract_obstruct.specs.Obstruction.{rotated}

-- what is dropped, and what is taken, where two lists are joined
drop-front : (f b : List ℕ) → drop (length f) (f ++ b) ≡ b
drop-front [] b = refl
drop-front (x ∷ f) b = drop-front f b

take-front : (f b : List ℕ) → take (length f) (f ++ b) ≡ f
take-front [] b = refl
take-front (x ∷ f) b = ap (λ (t : List ℕ). x ∷ t) (take-front f b)

-- the member there
pub at-join : (f : List ℕ) (x : ℕ) (b : List ℕ) → slice_index (f ++ x ∷ b) (length f) ≡ x
at-join [] x b = refl
at-join (y ∷ f) x b = at-join f x b

-- a list from any place on is the same cyclic order
pub rotated-turn : (o l : List ℕ) (m : ℕ) → l ≡ o → IsTurn o (rotated l m)
rotated-turn o l m e = record { front = take m l; back = drop m l; before = sym e ∙ sym (take-append-drop m l); after = refl }

-- and each way to write it is the list from some place on
pub turn-rotated : (l k : List ℕ) → IsTurn l k → 0 < length k → (m : ℕ) × (m < length l) × (rotated l m ≡ k)
turn-rotated l k t p = by-back t.front t.back t.before t.after
  where
    by-back : (front back : List ℕ) → l ≡ front ++ back → k ≡ back ++ front → (m : ℕ) × (m < length l) × (rotated l m ≡ k)
    by-back front [] b a =
        let same : l ≡ k = b ∙ append-nil front ∙ sym a in
        (0, omega (arith, ap length same, p), append-nil l ∙ same)
    by-back front (x ∷ back) b a = (
      length front,
      omega (arith, ap length b, length-append front (x ∷ back)),
      ap (λ (z : List ℕ). rotated z (length front)) b ∙ (ap (λ (z : List ℕ). z ++ take (length front) (front ++ x ∷ back)) (drop-front front (x ∷ back)) ∙ ap (λ (z : List ℕ). (x ∷ back) ++ z) (take-front front (x ∷ back))) ∙ sym a,
    )

-- the last of four parts comes first
pub turn-last : (l a b c d : List ℕ) → IsTurn l (a ++ (b ++ (c ++ d))) → IsTurn l (d ++ (a ++ (b ++ c)))
turn-last l a b c d t = IsTurn-trans l (a ++ (b ++ (c ++ d))) (d ++ (a ++ (b ++ c))) t (record {
  front = a ++ (b ++ c);
  back = d;
  before = ap (λ (z : List ℕ). a ++ z) (sym (append_assoc b c d)) ∙ sym (append_assoc a (b ++ c) d);
  after = refl;
})

-- a list that begins with x, and then goes on with another one, rotated by one
rotated-cons : (x : ℕ) (r l : List ℕ) → l ≡ x ∷ r → rotated l 1 ≡ r ++ x ∷ []
rotated-cons x r l e = ap (λ (z : List ℕ). rotated z 1) e

-- a list from place m on, rotated by one, is the list from the next place on
pub rotated-next : (l : List ℕ) (m : ℕ) → m < length l → rotated (rotated l m) 1 ≡ rotated l (m + 1)
rotated-next l m p =
    rotated-cons (get_or l m 0) (drop (suc m) l ++ take m l) (rotated l m) (ap (λ (z : List ℕ). z ++ take m l) (drop-cons l m 0 p))
    ∙ (append_assoc (drop (suc m) l) (take m l) (get_or l m 0 ∷ [])
    ∙ (ap (λ (z : List ℕ). drop (suc m) l ++ z) (sym (take-suc l m 0 p))
    ∙ ap (rotated l) (sym (add-one m))))

-- a rotated list is as long
pub rotated-length : (l : List ℕ) (m : ℕ) → length (rotated l m) ≡ length l
rotated-length l m = omega (arith, length-append (drop m l) (take m l), length-append (take m l) (drop m l), ap (λ (z : List ℕ). length z) (take-append-drop m l))
