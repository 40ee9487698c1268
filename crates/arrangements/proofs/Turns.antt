-- It doesn't matter where a list of edges begins: whether a block keeps its cyclic order, and whether two blocks cross.
use Rattle.std.proofs.Common.{◌≡◌, ℕ, ◌==◌, true, List, [], ◌∷◌, sym, ap, ◌∙◌}
use Rattle.permutations.specs.Members.{is_distinct}
use Rattle.permutations.specs.Cyclic.{from_least, IsTurn}
use Rattle.permutations.proofs.Filter.{distinct-filter}
use Rattle.permutations.proofs.Turned.{IsTurn-sym, IsTurn-member, IsTurn-distinct, IsTurn-filter}
use Rattle.permutations.proofs.NormalForm.{from_least-same}
use Rattle.permutations.proofs.CyclicOrder.{around-turn}
use Rattle.permutations.proofs.Relation.{same-tests}
use Rattle.arrangements.specs.Arranged.{same_list, of_block, keeps, cross}
use Rattle.arrangements.specs.Refused.{Alternate, IsLeastChanged, IsLeastCrossing}
use Rattle.arrangements.proofs.Changes.{cross-differ, cross-alternate, alternate-cross}

-- a block keeps its cyclic order wherever the list begins
pub keeps-turn : (block : ℕ → ℕ) (order : ℕ → List ℕ) (b : ℕ) (l k : List ℕ) → is_distinct l ≡ true → IsTurn l k → keeps block order b k ≡ keeps block order b l
keeps-turn block order b l k d t = ap (λ (z : List ℕ). same_list z (from_least (order b)))
    (sym (from_least-same (of_block block b l) (of_block block b k) (IsTurn-filter (λ e. block e == b) l k t) (distinct-filter (λ e. block e == b) l d)))

-- blocks that cross do so wherever the list begins
cross-turn_one : (block : ℕ → ℕ) (b c : ℕ) (l k : List ℕ) → is_distinct l ≡ true → IsTurn l k → cross block b c l ≡ true → cross block b c k ≡ true
cross-turn_one block b c l k d t h = alternate-cross block b c k (cross-differ block b c l h) (at (cross-alternate block b c l d h))
  where
    at : Alternate block b c l → Alternate block b c k
    at a = record {
      first = a.first;
      second = a.second;
      third = a.third;
      fourth = a.fourth;
      around = around-turn l k (a.first ∷ a.second ∷ a.third ∷ a.fourth ∷ []) t a.around;
      of_first = a.of_first;
      of_second = a.of_second;
      of_third = a.of_third;
      of_fourth = a.of_fourth;
    }

pub cross-turn : (block : ℕ → ℕ) (b c : ℕ) (l k : List ℕ) → is_distinct l ≡ true → IsTurn l k → cross block b c k ≡ cross block b c l
cross-turn block b c l k d t = same-tests (cross block b c k) (cross block b c l)
    (cross-turn_one block b c k l (IsTurn-distinct l k t d) (IsTurn-sym l k t))
    (cross-turn_one block b c l k d t)

-- the least block whose cyclic order a list changes is the same wherever the list begins
pub changed-turn : (block : ℕ → ℕ) (order : ℕ → List ℕ) (l k : List ℕ) (b : ℕ) → is_distinct l ≡ true → IsTurn l k → IsLeastChanged block order l b → IsLeastChanged block order k b
changed-turn block order l k b d t w = record {
  edge = w.edge;
  met = IsTurn-member l k w.edge t ∙ w.met;
  of_edge = w.of_edge;
  changed = keeps-turn block order b l k d t ∙ w.changed;
  least = λ e m s. keeps-turn block order (block e) l k d t ∙ w.least e (sym (IsTurn-member l k e t) ∙ m) s;
}

-- so are the least two that cross
pub crossing-turn : (block : ℕ → ℕ) (l k : List ℕ) (b c : ℕ) → is_distinct l ≡ true → IsTurn l k → IsLeastCrossing block l b c → IsLeastCrossing block k b c
crossing-turn block l k b c d t w = record {
  crosses = cross-turn block b c l k d t ∙ w.crosses;
  least = λ e f h. w.least e f (sym (cross-turn block e f l k d t) ∙ h);
}
