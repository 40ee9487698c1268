-- Places in a table of what follows each item.
use Rattle.std.proofs.Common.{◌≡◌, ℕ, ◌+◌, ◌*◌, ◌<◌, ◌==◌, if◌then◌else◌, inl, inr, Bool, List, length, sym, ap, subst, arith}
use Rattle.std.proofs.lemmas.Bool.{cases_Bool}
use Rattle.pair_split.specs.Tutte.{Node, node_at, node_item}
use Rattle.skel_compose.specs.Followers.{IsItemEnd, item_place, row_at, IsTable}

-- an item's places are below twice their number
pub place-below : (nodes : List Node) (k i v n : ℕ) → i < n → item_place nodes k i v < 2 * n
place-below nodes k i v n l = elim (cases_Bool ((node_item nodes k i).a == v)) [
  | inl q ↦ let e : item_place nodes k i v ≡ 2 * i = ap (λ (z : Bool). if z then 2 * i else 2 * i + 1) q in omega (arith, e, l)
  | inr q ↦ let e : item_place nodes k i v ≡ 2 * i + 1 = ap (λ (z : Bool). if z then 2 * i else 2 * i + 1) q in omega (arith, e, l)
]

-- so they are places of its row
pub place-within : (nodes : List Node) (table : List (List ℕ)) → IsTable nodes table → (k i v : ℕ) → IsItemEnd nodes k i v → item_place nodes k i v < length (row_at table k)
place-within nodes table t k i v m = subst (λ n. item_place nodes k i v < n) (sym (t.places k m.is_node)) (place-below nodes k i v (length (node_at nodes k).items) m.is_item)
