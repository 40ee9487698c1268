-- A list cut at places, and sectors that are the segments of a way round.
use Rattle.std.proofs.Common.{◌≡◌, ℕ, ◌+◌, ◌-◌, ◌≤◌, List, ◌++◌, length, drop, sym, ap, ◌∙◌, append_assoc, arith}
use Rattle.std.proofs.lemmas.List.{take-append-drop, drop-drop, take_all, length-drop}
use Rattle.permutations.specs.Cyclic.{IsTurn}
use Rattle.permutations.proofs.CyclicSame.{IsTurn-trans}
use Rattle.contractions.specs.declared.level.Level.{Level}
use Rattle.contract_obstruct.specs.Crossing.{IsAround}
use Rattle.contract_obstruct.specs.Sectors.{segment}

-- the rest of a list is a segment and what comes behind
rest-cut : (l : List ℕ) (i j : ℕ) → i ≤ j → drop i l ≡ segment l i j ++ drop j l
rest-cut l i j p =
    let e : i + (j - i) ≡ j = omega arith in
    sym (take-append-drop (j - i) (drop i l)) ∙ ap (λ (t : List ℕ). segment l i j ++ t) (drop-drop (j - i) i l ∙ ap (λ n. drop n l) e)

-- and at last a segment
rest-last : (l : List ℕ) (k : ℕ) → drop k l ≡ segment l k (length l)
rest-last l k = sym (take_all (length l - k) (drop k l) (omega (arith, length-drop k l)))

-- a list in three segments
pub three-segments : (l : List ℕ) (i j : ℕ) → i ≤ j → l ≡ segment l 0 i ++ (segment l i j ++ segment l j (length l))
three-segments l i j p = rest-cut l 0 i (omega arith) ∙ ap (λ (t : List ℕ). segment l 0 i ++ t) (rest-cut l i j p ∙ ap (λ (t : List ℕ). segment l i j ++ t) (rest-last l j))

-- in four, turned past the first
pub four-segments : (o l : List ℕ) (i j k : ℕ) → i ≤ j → j ≤ k → IsTurn o l → IsTurn o (segment l i j ++ (segment l j k ++ (segment l k (length l) ++ segment l 0 i)))
four-segments o l i j k p q t = IsTurn-trans o l (segment l i j ++ (segment l j k ++ (segment l k (length l) ++ segment l 0 i))) t (record {
  front = segment l 0 i;
  back = segment l i j ++ (segment l j k ++ segment l k (length l));
  before = rest-cut l 0 i (omega arith) ∙ ap (λ (z : List ℕ). segment l 0 i ++ z) (rest-cut l i j p ∙ ap (λ (z : List ℕ). segment l i j ++ z) (rest-cut l j k q ∙ ap (λ (z : List ℕ). segment l j k ++ z) (rest-last l k)));
  after = sym (append_assoc (segment l i j) (segment l j k ++ segment l k (length l)) (segment l 0 i) ∙ ap (λ (z : List ℕ). segment l i j ++ z) (append_assoc (segment l j k) (segment l k (length l)) (segment l 0 i)));
})

-- a list is the way round the merged vertex where each list that turns into one that is turns into it
pub around-by : (level : Level) (next l q : List ℕ) → ((o : List ℕ) → IsTurn o l → IsTurn o q) → IsAround level next l → IsAround level next q
around-by level next l q turn around = (around.0, around.1, turn _ around.2)
