-- Lists built edge by edge are the arrangements of the list, by their places.
use Rattle.std.proofs.Common.{◌≡◌, ◌↔◌, ℕ, ◌<◌, true, false, List, [], length, take, get_or, Contains, sym, ◌∙◌}
use Rattle.std.proofs.lemmas.Bool.{both_ways}
use Rattle.permutations.specs.Members.{is_member}
use Rattle.permutations.proofs.Arrangements.{permutation-member}
use Rattle.choice_lists.specs.Order.{IsAt}
use Rattle.choice_lists.proofs.Places.{has-from}
use Rattle.arrangements.specs.Arranged.{arrangements_at, AreOrders, IsArrangement}
use Rattle.arrangements.specs.Options.{follower, IsBuilt}
use Rattle.arrangements.specs.Prefixes.{IsFullyBuilt}
use Rattle.arrangements.proofs.Built.{facts, new-edge, arrangement-built}
use Rattle.arrangements.proofs.Listed.{has-arrangement, arrangement-length, arranged-by_options}
use Rattle.arrangements.proofs.Noted.{member-at}
use Rattle.arrangements.proofs.Made.{built-take}

-- an edge of an arrangement is one of the edges
pub arrangement-edge : (block : ℕ → ℕ) (order : ℕ → List ℕ) (edges l : List ℕ) → IsArrangement block order edges l → (i : ℕ) → i < length l → is_member (get_or l i 0) edges ≡ true
arrangement-edge block order edges l a i h = sym (permutation-member edges l (get_or l i 0) a.all) ∙ member-at l i h

-- what is listed is an arrangement
pub contains-arrangement : (block : ℕ → ℕ) (order : ℕ → List ℕ) (edges l : List ℕ) → AreOrders block order edges → Contains (arrangements_at block order edges) l → IsArrangement block order edges l
contains-arrangement block order edges l o c = has-arrangement block order edges o l (has-from (arrangements_at block order edges) l c)

-- so it is built
pub contains-built : (block : ℕ → ℕ) (order : ℕ → List ℕ) (edges l : List ℕ) → AreOrders block order edges → Contains (arrangements_at block order edges) l → IsBuilt block (follower block order) edges l
contains-built block order edges l o c = arrangement-built block order edges o l (contains-arrangement block order edges l o c)

-- also what is at a place
pub at-built : (block : ℕ → ℕ) (order : ℕ → List ℕ) (edges l : List ℕ) (i : ℕ) → AreOrders block order edges → IsAt (arrangements_at block order edges) i l → IsBuilt block (follower block order) edges l
at-built block order edges l i o a = contains-built block order edges l o (i, a.0, a.1)

-- the lists built of all edges are those listed
pub full-exactly : (block : ℕ → ℕ) (order : ℕ → List ℕ) (edges l : List ℕ) → AreOrders block order edges → IsFullyBuilt block (follower block order) edges l ↔ Contains (arrangements_at block order edges) l
full-exactly block order edges l o = (
  λ f. (arranged-by_options block order edges o l f.all f.least_first).0 f.built,
  λ c. let a = contains-arrangement block order edges l o c in record { all = arrangement-length block order edges o l a; least_first = a.least_first; built = contains-built block order edges l o c },
)

-- a list with a number that is no edge is not built
pub not-full : (block : ℕ → ℕ) (order : ℕ → List ℕ) (edges l : List ℕ) (i : ℕ) → AreOrders block order edges → i < length l → is_member (get_or l i 0) edges ≡ false → IsFullyBuilt block (follower block order) edges l → ⊥
not-full block order edges l i o h n f =
    let b = built-take block (follower block order) edges l i f.built in
    both_ways (is_member (get_or l i 0) edges) n (new-edge block order edges o (take i l) (get_or l i 0) (facts block order edges o (take i l) b) (f.built i h)).0
