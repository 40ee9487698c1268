-- Arrangements of four edges, computed.
use Rattle.std.proofs.Common.{◌≡◌, ℕ, true, false, ◌==◌, nat_lt, if◌then◌else◌, List, [], ◌∷◌, refl}
use Rattle.arrangements.specs.Arranged.{keeps, changes, cross, arrangements_at, first_arrangement}
use Rattle.arrangements.specs.Options.{follower, waiting, is_option}

-- block 0 has the edges 0 and 2, block 1 the edges 3 and 5
abbrev pairs : ℕ → ℕ
pairs e = (if nat_lt e 3 then 0 else 1)

abbrev pair_orders : ℕ → List ℕ
pair_orders b = (if b == 0 then 0 ∷ 2 ∷ [] else 3 ∷ 5 ∷ [])

-- of the six cyclic orders two are missing: those in which the blocks alternate
four_arrangements : arrangements_at pairs pair_orders (0 ∷ 2 ∷ 3 ∷ 5 ∷ [])
    ≡ (0 ∷ 2 ∷ 3 ∷ 5 ∷ []) ∷ (0 ∷ 2 ∷ 5 ∷ 3 ∷ []) ∷ (0 ∷ 3 ∷ 5 ∷ 2 ∷ []) ∷ (0 ∷ 5 ∷ 3 ∷ 2 ∷ []) ∷ []
four_arrangements = refl

pairs_first : first_arrangement pairs pair_orders (0 ∷ 2 ∷ 3 ∷ 5 ∷ []) ≡ 0 ∷ 2 ∷ 3 ∷ 5 ∷ []
pairs_first = refl

-- one of these: the block changes three times along the list
pairs_cross : cross pairs 0 1 (0 ∷ 3 ∷ 2 ∷ 5 ∷ []) ≡ true
pairs_cross = refl

pairs_change : changes pairs (0 ∷ 3 ∷ 2 ∷ 5 ∷ []) ≡ 3
pairs_change = refl

-- after 0 and 3 both blocks are unfinished; 5 may come, which follows 3 in the block that was opened last, and 2 may not
both_unfinished : waiting (follower pairs pair_orders) (0 ∷ 3 ∷ []) ≡ 0 ∷ 3 ∷ []
both_unfinished = refl

five_comes : is_option pairs (follower pairs pair_orders) (0 ∷ 2 ∷ 3 ∷ 5 ∷ []) (0 ∷ 3 ∷ []) 5 ≡ true
five_comes = refl

two_waits : is_option pairs (follower pairs pair_orders) (0 ∷ 2 ∷ 3 ∷ 5 ∷ []) (0 ∷ 3 ∷ []) 2 ≡ false
two_waits = refl

-- block 0 has the edges 0, 2 and 1 in this cyclic order, block 1 the edge 3
abbrev triple : ℕ → ℕ
triple e = (if nat_lt e 3 then 0 else 1)

abbrev triple_orders : ℕ → List ℕ
triple_orders b = (if b == 0 then 2 ∷ 1 ∷ 0 ∷ [] else 3 ∷ [])

three_arrangements : arrangements_at triple triple_orders (0 ∷ 1 ∷ 2 ∷ 3 ∷ []) ≡ (0 ∷ 2 ∷ 1 ∷ 3 ∷ []) ∷ (0 ∷ 2 ∷ 3 ∷ 1 ∷ []) ∷ (0 ∷ 3 ∷ 2 ∷ 1 ∷ []) ∷ []
three_arrangements = refl

-- the other cyclic order of the three edges
triple_changed : keeps triple triple_orders 0 (0 ∷ 1 ∷ 3 ∷ 2 ∷ []) ≡ false
triple_changed = refl

-- without edges there is one arrangement, the empty list
no_edges : arrangements_at triple triple_orders [] ≡ [] ∷ []
no_edges = refl
