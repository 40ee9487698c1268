-- A block keeps its cyclic order in a list exactly where each of its edges follows the one before it.
use Rattle.std.proofs.Common.{◌≡◌, ℕ, true, false, ◌==◌, List, [], ◌∷◌, ◌++◌, IsPermutation, refl, sym, ap, ◌∙◌, subst, append_assoc, append-nil}
use Rattle.std.proofs.lemmas.Bool.{both_ways, and_parts, and_from, eq-eqb, eqb-true, true≢false, false_from_ne_true}
use Rattle.permutations.specs.Members.{is_member, is_distinct}
use Rattle.permutations.specs.Cyclic.{from_least, successor, IsTurn}
use Rattle.permutations.proofs.Members.{member-head, member-append_right, distinct-append_apart}
use Rattle.permutations.proofs.Filter.{distinct-filter}
use Rattle.permutations.proofs.Arrangements.{permutation-member, permutation-distinct}
use Rattle.permutations.proofs.Turned.{turned-head, turned-turn, IsTurn-sym, IsTurn-member, IsTurn-distinct, IsTurn-successor}
use Rattle.permutations.proofs.NormalForm.{from_least-same, same-from_least}
use Rattle.permutations.proofs.Chains.{successor-next}
use Rattle.permutations.proofs.Relation.{same-tests}
use Rattle.arrangements.specs.Arranged.{of_block, keeps, AreOrders}
use Rattle.arrangements.specs.Options.{follower}
use Rattle.arrangements.specs.Gaps.{follows_along}
use Rattle.arrangements.proofs.Lists.{equal-same, same-equal, comes-next}
use Rattle.arrangements.proofs.Built.{edges-once, order-parts, order-has, of_block-has, of_block-parts}

-- where each two neighbours follow each other, the list does
pub along-from : (follow : ℕ → ℕ) (l : List ℕ) → ((u : List ℕ) (x y : ℕ) (v : List ℕ) → l ≡ u ++ x ∷ y ∷ v → follow x ≡ y) → follows_along follow l ≡ true
along-from follow [] h = refl
along-from follow (x ∷ []) h = refl
along-from follow (x ∷ y ∷ l) h =
    and_from (follow x == y) (follows_along follow (y ∷ l)) (eq-eqb (follow x) y (h [] x y l refl)) (along-from follow (y ∷ l) (λ u z w v e. h (x ∷ u) z w v (ap (λ (k : List ℕ). x ∷ k) e)))

-- in a list whose edges follow each other, neighbours do
pub along-next : (follow : ℕ → ℕ) (u : List ℕ) (x y : ℕ) (v : List ℕ) → follows_along follow (u ++ x ∷ y ∷ v) ≡ true → follow x ≡ y
along-next follow [] x y v h = eqb-true (follow x) y (and_parts (follow x == y) (follows_along follow (y ∷ v)) h).0
along-next follow (z ∷ []) x y v h = along-next follow [] x y v (and_parts (follow z == x) (follows_along follow (x ∷ y ∷ v)) h).1
along-next follow (z ∷ w ∷ u) x y v h = along-next follow (w ∷ u) x y v (and_parts (follow z == w) (follows_along follow (w ∷ (u ++ x ∷ y ∷ v))) h).1

-- a list without repetition of members of a cyclic order, whose members follow each other in it, is a piece of it
along-piece : (order : List ℕ) → is_distinct order ≡ true → (p : List ℕ) (t : ℕ) (q : List ℕ) → is_distinct (p ++ t ∷ q) ≡ true → follows_along (successor order) (p ++ t ∷ q) ≡ true
    → ((rest : List ℕ) × IsTurn order ((p ++ t ∷ []) ++ rest)) → (rest : List ℕ) × IsTurn order ((p ++ t ∷ q) ++ rest)
along-piece order d p t [] once h r = r
along-piece order d p t (y ∷ q) once h r = subst (λ (z : List ℕ). (rest : List ℕ) × IsTurn order (z ++ rest)) move
    (along-piece order d (p ++ t ∷ []) y q (subst (λ (z : List ℕ). is_distinct z ≡ true) (sym move) once) (subst (λ (z : List ℕ). follows_along (successor order) z ≡ true) (sym move) h)
    (c.0, subst (IsTurn order) path r.1))
  where
    front : List ℕ
    front = p ++ t ∷ []

    move : front ++ y ∷ q ≡ p ++ t ∷ y ∷ q
    move = append_assoc p (t ∷ []) (y ∷ q)

    apart : is_distinct (front ++ y ∷ q) ≡ true
    apart = subst (λ (z : List ℕ). is_distinct z ≡ true) (sym move) once

    new : is_member y front ≡ false
    new = false_from_ne_true (is_member y front) (λ m. both_ways (is_member y (y ∷ q)) (distinct-append_apart front (y ∷ q) apart y m) (member-head y q))

    c : (rest : List ℕ) × (r.0 ≡ y ∷ rest)
    c = comes-next front r.0 t y (IsTurn-distinct order (front ++ r.0) r.1 d) (member-append_right t p (t ∷ []) (member-head t []))
        (IsTurn-successor order (front ++ r.0) t r.1 d ∙ along-next (successor order) p t y q h) new

    path : front ++ r.0 ≡ (front ++ y ∷ []) ++ c.0
    path = ap (λ (z : List ℕ). front ++ z) c.1 ∙ sym (append_assoc front (y ∷ []) c.0)

-- lists without repetition and with the same members are one cyclic order where in the one each follows the one before it in the
-- other
along-turn : (order l : List ℕ) → is_distinct order ≡ true → is_distinct l ≡ true → ((x : ℕ) → is_member x l ≡ is_member x order) → follows_along (successor order) l ≡ true → IsTurn order l
along-turn order [] d once m h = none order m
  where
    none : (k : List ℕ) → ((x : ℕ) → false ≡ is_member x k) → IsTurn k []
    none [] m = record { front = []; back = []; before = refl; after = refl }
    none (x ∷ k) m = absurd (true≢false (sym (m x ∙ member-head x k)))
along-turn order (x ∷ l) d once m h = at r.0 r.1
  where
    r : (rest : List ℕ) × IsTurn order ((x ∷ l) ++ rest)
    r =
        let w = turned-head order x (sym (m x) ∙ member-head x l) in
        along-piece order d [] x l once h (w.0, subst (IsTurn order) w.1 (turned-turn order x))

    at : (rest : List ℕ) → IsTurn order ((x ∷ l) ++ rest) → IsTurn order (x ∷ l)
    at [] t = subst (IsTurn order) (append-nil (x ∷ l)) t
    at (z ∷ rest) t =
        let e : is_distinct ((x ∷ l) ++ z ∷ rest) ≡ true = IsTurn-distinct order ((x ∷ l) ++ z ∷ rest) t d in
        let i : is_member z (x ∷ l) ≡ true = m z ∙ sym (IsTurn-member order ((x ∷ l) ++ z ∷ rest) z t) ∙ member-append_right z (x ∷ l) (z ∷ rest) (member-head z rest) in
        absurd (both_ways (is_member z (z ∷ rest)) (distinct-append_apart (x ∷ l) (z ∷ rest) e z i) (member-head z rest))

-- a cyclic order, in a turn of it neighbours follow each other
turn-along : (order l : List ℕ) → is_distinct order ≡ true → IsTurn order l → follows_along (successor order) l ≡ true
turn-along order l d t = along-from (successor order) l (λ u x y v e.
    let s : is_distinct (u ++ x ∷ y ∷ v) ≡ true = subst (λ (z : List ℕ). is_distinct z ≡ true) e (IsTurn-distinct order l t d) in
    sym (IsTurn-successor order l x t d) ∙ ap (λ (z : List ℕ). successor z x) e ∙ successor-next u x y v s)

-- functions that agree on the members
pub along-ext : (f g : ℕ → ℕ) (l : List ℕ) → ((x : ℕ) → is_member x l ≡ true → f x ≡ g x) → follows_along f l ≡ true → follows_along g l ≡ true
along-ext f g l h a = along-from g l (λ u x y v e.
    sym (h x (subst (λ (z : List ℕ). is_member x z ≡ true) (sym e) (member-append_right x u (x ∷ y ∷ v) (member-head x (y ∷ v)))))
    ∙ along-next f u x y v (subst (λ (z : List ℕ). follows_along f z ≡ true) e a))

-- a block keeps its cyclic order in a list of all edges exactly where each of its edges follows the one before it
pub keeps-along : (block : ℕ → ℕ) (order : ℕ → List ℕ) (edges : List ℕ) → AreOrders block order edges → (l : List ℕ) → IsPermutation edges l → (e : ℕ) → is_member e edges ≡ true
    → keeps block order (block e) l ≡ follows_along (follower block order) (of_block block (block e) l)
keeps-along block order edges o l p e m = same-tests (keeps block order (block e) l) (follows_along (follower block order) ob)
    (λ k. along-ext (successor (order (block e))) (follower block order) ob (λ x n. sym (own x n)) (turn-along (order (block e)) ob once
    (IsTurn-sym ob (order (block e)) (same-from_least ob (order (block e)) (same-equal (from_least ob) (from_least (order (block e))) k)))))
    (λ a. equal-same (from_least ob) (from_least (order (block e))) (sym (from_least-same (order (block e)) ob
    (along-turn (order (block e)) ob once (distinct-filter (λ x. block x == block e) l (permutation-distinct edges l p (edges-once block order edges o))) same
    (along-ext (follower block order) (successor (order (block e))) ob own a)) once)))
  where
    ob : List ℕ
    ob = of_block block (block e) l

    once : is_distinct (order (block e)) ≡ true
    once = o.distinct e m

    own : (x : ℕ) → is_member x ob ≡ true → follower block order x ≡ successor (order (block e)) x
    own x n = ap (λ (b : ℕ). successor (order b) x) (of_block-parts block (block e) l x n).1

    same : (x : ℕ) → is_member x ob ≡ is_member x (order (block e))
    same x = same-tests (is_member x ob) (is_member x (order (block e)))
        (λ n. let w = of_block-parts block (block e) l x n in order-has block order edges o e x m (sym (permutation-member edges l x p) ∙ w.0) w.1)
        (λ n. let w = order-parts block order edges o e x m n in of_block-has block (block e) l x (permutation-member edges l x p ∙ w.0) w.1)
