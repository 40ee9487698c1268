use Rattle.std.proofs.Common.{◌≡◌, ℕ, suc, ◌+◌, ◌<◌, ◌==◌, ◌&&◌, Bool, false, if◌then◌else◌, List, [], ◌∷◌, length, reverse, get_or, drop, sym, ap, ◌∙◌, subst, add-one, arith}
use Rattle.std.proofs.Math.Seq.{drop-cons}
use Rattle.planarity.specs.Lift.{path_of_pair}
use Rattle.contract_obstruct.proofs.paths.path_between.Goals as goal

-- a pair that is neither (i, j) nor (j, i) is passed over
passed : (pair : ℕ × ℕ) (pairs : List (ℕ × ℕ)) (path : List ℕ) (paths : List (List ℕ)) (i j : ℕ) → (pair.0 == i && pair.1 == j) ≡ false → (pair.0 == j && pair.1 == i) ≡ false
    → path_of_pair (pair ∷ pairs) (path ∷ paths) i j ≡ path_of_pair pairs paths i j
passed pair pairs path paths i j n m =
    ap (λ (b : Bool). if b then path else (if (pair.0 == j && pair.1 == i) then reverse path else path_of_pair pairs paths i j)) n
    ∙ ap (λ (b : Bool). if b then reverse path else path_of_pair pairs paths i j) m

-- so is one on the way
passed_at : (pairs : List (ℕ × ℕ)) (paths : List (List ℕ)) (i j k : ℕ) → k < length pairs → k < length paths
    → ((get_or pairs k (0, 0)).0 == i && (get_or pairs k (0, 0)).1 == j) ≡ false → ((get_or pairs k (0, 0)).0 == j && (get_or pairs k (0, 0)).1 == i) ≡ false
    → path_of_pair (drop k pairs) (drop k paths) i j ≡ path_of_pair (drop (k + 1) pairs) (drop (k + 1) paths) i j
passed_at pairs paths i j k l m n o =
    subst (λ z. path_of_pair (drop k pairs) (drop k paths) i j ≡ path_of_pair (drop z pairs) (drop z paths) i j) (sym (add-one k))
    ((λ t. path_of_pair (drop-cons pairs k (0, 0) l t) (drop-cons paths k [] m t) i j) ∙ passed (get_or pairs k (0, 0)) (drop (suc k) pairs) (get_or paths k []) (drop (suc k) paths) i j n o)

pub loop-k-preserved : goal.loop-k-preserved
loop-k-preserved c =
    c.loop-k.invariant ∙
    passed_at c.args.pairs.now c.args.paths.now c.args.i c.args.j c.loop-k.k c.loop-k-test.true (omega (arith, c.loop-k-test.true, c.requires)) (sym c.leads.ensures ∙ c.if-leads.false)
    (sym c.leads-in-loop-k.ensures ∙ c.if-leads-2.false)
