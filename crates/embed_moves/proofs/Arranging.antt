-- The keys of a bond, and whether a list is an ordering of them.
use Rattle.std.proofs.Common.{◌≡◌, ℕ, zero, suc, ◌+◌, ◌<◌, true, ◌||◌, ◌==◌, List, [], ◌∷◌, length, map, take, slice_index_or, refl, sym, ap, ◌∙◌, subst, arith, IsPermutation, ◌⊎◌, inl, inr}
use Rattle.std.specs.List.{list_any}
use Rattle.std.proofs.lemmas.Bool.{true≢false}
use Rattle.std.proofs.lemmas.List.Sorted.{IsPermutation-sym}
use Rattle.permutations.specs.Members.{is_member, is_distinct}
use Rattle.permutations.proofs.Members.{member-head, member-tail, member-cases}
use Rattle.permutations.proofs.Places.{told-distinct}
use Rattle.multigraph.proofs.Places.{rises-once}
use Rattle.rotations.proofs.Arrangements.{permutation-from_members}
use Rattle.pair_split.specs.declared.components.Item.{Item}
use Rattle.pair_split.specs.declared.components.Kind.TheVariants.{P}
use Rattle.skeletons.specs.Items.{item_key, node_keys, least_vertex}
use Rattle.skeletons.specs.Choices.{choice}
use Rattle.skeletons.specs.Moves.{IsNodeOfKind}
use Rattle.skeletons.proofs.Vertices.{least-has}
use Rattle.skel_embed.specs.Block.{BlockState, IsBlockState}
use Rattle.skel_embed.proofs.BondMoves.{least-groups, runs-arranged}

-- the test of a list's members, as the library has it
pub any-member : (l : List ℕ) (x : ℕ) → list_any (λ y. y == x) l ≡ is_member x l
any-member [] x = refl
any-member (y ∷ l) x = ap (λ t. (y == x) || t) (any-member l x)

-- the choice of a bond is an arrangement of its keys
pub choice-arranged : (s : BlockState) → IsBlockState s → (k : ℕ) → IsNodeOfKind s.tree k P → IsPermutation (node_keys s.tree k) (choice s.tree s.rotation k)
choice-arranged s is k node =
    let w = least-groups s.graph s.tree is.block s.rotation is.plane k node in
    subst (IsPermutation (node_keys s.tree k)) w.2 (runs-arranged s.graph s.tree is.block s.rotation is.plane k node (least_vertex s.tree k) w.0 (least-has s.graph s.tree is.block k node.0) w.1)

-- its keys differ
pub keys-differ : (s : BlockState) → IsBlockState s → (k : ℕ) → k < length s.tree → is_distinct (node_keys s.tree k) ≡ true
keys-differ s is k l = told-distinct (node_keys s.tree k) (rises-once (node_keys s.tree k) (is.block.tree.in_order.keys_rise k l))

-- as many keys, and each of the node's among them
pub arrangement-is : (own keys : List ℕ) → is_distinct own ≡ true → length own ≡ length keys → ((x : ℕ) → is_member x own ≡ true → is_member x keys ≡ true) → IsPermutation own keys
arrangement-is own keys d l m = IsPermutation-sym keys own (permutation-from_members own keys d m l)

-- one item's key more is among the keys
pub keys-more : (items : List Item) (keys : List ℕ) (i : ℕ) (d : Item) → i < length items → ((x : ℕ) → is_member x (map item_key (take i items)) ≡ true → is_member x keys ≡ true) → is_member (item_key (slice_index_or items i d)) keys ≡ true
    → (x : ℕ) → is_member x (map item_key (take (i + 1) items)) ≡ true → is_member x keys ≡ true
keys-more items keys i d h old new x m = let e : i + 1 ≡ suc i = omega arith in
    elim (go items i h (subst (λ z. is_member x (map item_key (take z items)) ≡ true) e m)) [ inl o ↦ old x o | inr q ↦ subst (λ z. is_member z keys ≡ true) q new ]
  where
    go : (l : List Item) (i : ℕ) → i < length l → is_member x (map item_key (take (suc i) l)) ≡ true → (is_member x (map item_key (take i l)) ≡ true) ⊎ (item_key (slice_index_or l i d) ≡ x)
    go [] i h m = absurd (omega (arith, h))
    go (y ∷ l) zero h m = elim (member-cases x (item_key y) [] m) [ inl e ↦ inr e | inr n ↦ absurd (true≢false (sym n)) ]
    go (y ∷ l) (suc i) h m = elim (member-cases x (item_key y) (map item_key (take (suc i) l)) m) [
      | inl e ↦ inl (ap (λ z. is_member x (z ∷ map item_key (take i l))) e ∙ member-head x (map item_key (take i l)))
      | inr n ↦ elim (go l i (omega (arith, h)) n) [ inl o ↦ inl (member-tail x (item_key y) (map item_key (take i l)) o) | inr o ↦ inr o ]
    ]

-- the key of an item is one of the keys
pub item-key_in : (items : List Item) (i : ℕ) (d : Item) → i < length items → is_member (item_key (slice_index_or items i d)) (map item_key items) ≡ true
item-key_in [] i d h = absurd (omega (arith, h))
item-key_in (y ∷ l) zero d h = member-head (item_key y) (map item_key l)
item-key_in (y ∷ l) (suc i) d h = member-tail (item_key (slice_index_or l i d)) (item_key y) (map item_key l) (item-key_in l i d (omega (arith, h)))
