-- Digits of nodes by their kinds.
use Rattle.std.proofs.Common.{◌≡◌, ◌≢◌, ℕ, suc, ◌+◌, ◌-◌, ◌<◌, ◌≤◌, nat_lt, cond, true, List, [], ◌∷◌, length, drop, reverse, slice_index_or, slice_set, refl, sym, ap, ◌∙◌, subst, arith, inl, inr}
use Rattle.std.proofs.lemmas.Bool.{cases_lt, lt-ltb, le-ltb}
use Rattle.std.proofs.lemmas.List.{reverse-reverse, length-map, get_or-set_same}
use Rattle.permutations.specs.Cyclic.{first_or, last_or}
use Rattle.permutations.specs.Members.{is_distinct}
use Rattle.permutations.proofs.Members.{distinct-tail}
use Rattle.pair_split.specs.Tutte.{Node, node_at}
use Rattle.pair_split.specs.declared.components.Kind.{Kind}
use Rattle.pair_split.specs.declared.components.Kind.TheVariants.{P, R}
use Rattle.choice_lists.specs.Arrangements.{factorial, factorial_number}
use Rattle.choice_lists.specs.Choices.{mirror_choice}
use Rattle.choice_lists.proofs.NextArrangement.{Falls}
use Rattle.skeletons.specs.Items.{item_key, node_keys}
use Rattle.skeletons.specs.Choices.{choice}
use Rattle.skeletons.specs.Lists.{cyclic_orders, choice_count}
use Rattle.skeletons.specs.Moves.{permute, IsNodeOfKind, PermuteLeads}
use Rattle.skeleton_choices.proofs.Listed.{choice-normal, orders-factorial}
use Rattle.skel_embed.specs.Block.{BlockState, IsBlockState}
use Rattle.embed_enum.specs.Digits.{rigid_digit, digit_of}
use Rattle.embed_enum.specs.Changes.{IsMoved, KeepsOthers, node_digit}
use Rattle.embed_enum.proofs.Ranks.{last-apart}
use Rattle.embed_enum.proofs.States.{rigid-long}
use Rattle.embed_enum.proofs.Single.{IsMovedOnly, keeps-moved}
use Rattle.embed_enum.proofs.Bonds.{IsBondOf, bond-of, bond-long, bond-some, bond-last, bond-sorted}

-- a choice and its mirror image have the two digits
pub mirror-digit : (c : List ℕ) → is_distinct c ≡ true → 3 ≤ length c → rigid_digit (mirror_choice c) + rigid_digit c ≡ 1
mirror-digit [] d l = absurd (omega (arith, l))
mirror-digit (key ∷ []) d l = absurd (omega (arith, l))
mirror-digit (key ∷ a ∷ keys) d l =
    let e : last_or key (reverse (a ∷ keys)) ≡ a = ap (first_or key) (reverse-reverse (a ∷ keys)) in
    ap (λ z. cond (nat_lt (last_or key (a ∷ keys)) z) 0 1 + cond (nat_lt a (last_or key (a ∷ keys))) 0 1) e
    ∙ either a (last_or key (a ∷ keys)) (last-apart key a keys (distinct-tail key (a ∷ keys) d) (omega (arith, l)))
  where
    either : (x y : ℕ) → y ≢ x → cond (nat_lt y x) 0 1 + cond (nat_lt x y) 0 1 ≡ 1
    either x y n = elim (cases_lt x y) [
      | inl h ↦ rw (lt-ltb x y h, le-ltb y x (omega (arith, h))) refl
      | inr h ↦ rw (le-ltb x y h, lt-ltb y x (omega (arith, h, n))) refl
    ]

-- the digit of a triconnected node after a flip
pub flipped-digit : (s : BlockState) → IsBlockState s → (k : ℕ) → IsNodeOfKind s.tree k R → (c : List ℕ) → c ≡ mirror_choice (choice s.tree s.rotation k) → rigid_digit c + rigid_digit (choice s.tree s.rotation k) ≡ 1
flipped-digit s h k n c e =
    ap (λ (z : List ℕ). rigid_digit z + rigid_digit (choice s.tree s.rotation k)) e
    ∙ mirror-digit (choice s.tree s.rotation k) (choice-normal s.graph s.tree h.block s.rotation k h.plane n.0).0 (rigid-long s h k n.0 n.1)

-- the digit by the kind of the node
pub digit-as : (old new : BlockState) (k : ℕ) (kind : Kind) → (node_at old.tree k).kind ≡ kind → KeepsOthers old new k → node_digit new k ≡ digit_of kind (choice old.tree new.rotation k)
digit-as old new k kind e h =
    ap (λ t. digit_of (node_at t k).kind (choice t new.rotation k)) h.tree ∙ ap (λ (z : Kind). digit_of z (choice old.tree new.rotation k)) e

pub own-digit : (s : BlockState) (k : ℕ) (kind : Kind) → (node_at s.tree k).kind ≡ kind → node_digit s k ≡ digit_of kind (choice s.tree s.rotation k)
own-digit s k kind e = ap (λ (z : Kind). digit_of z (choice s.tree s.rotation k)) e

-- how many choices, by the kind
pub count-as : (s : BlockState) (k : ℕ) (kind : Kind) → (node_at s.tree k).kind ≡ kind → choice_count (node_at s.tree k).kind (length (node_at s.tree k).items) ≡ choice_count kind (length (node_at s.tree k).items)
count-as s k kind e = ap (λ (z : Kind). choice_count z (length (node_at s.tree k).items)) e

-- the arrangements of the keys of a bond behind the first
pub bond-orders : (s : BlockState) → IsBlockState s → (k : ℕ) → IsNodeOfKind s.tree k P → choice_count P (length (node_at s.tree k).items) ≡ factorial (length (choice s.tree s.rotation k) - 1)
bond-orders s h k n =
    let b = bond-of s h k n in
    let c : List ℕ = choice s.tree s.rotation k in
    let m : length (node_at s.tree k).items ≡ suc (length c - 1) =
    omega (arith, length-map (node_at s.tree k).items item_key, bond-long (node_keys s.tree k) c b, bond-some (node_keys s.tree k) c b) in
    ap cyclic_orders m ∙ orders-factorial (length c - 1)

-- keys that fall are the last choice
pub bond-ends : (s : BlockState) → IsBlockState s → (k : ℕ) → IsNodeOfKind s.tree k P → Falls (drop 1 (choice s.tree s.rotation k)) → node_digit s k + 1 ≡ choice_count (node_at s.tree k).kind (length (node_at s.tree k).items)
bond-ends s h k n f =
    let c : List ℕ = choice s.tree s.rotation k in
    let e : node_digit s k ≡ factorial_number c = own-digit s k P n.1 in
    let r = count-as s k P n.1 in
    omega (arith, e, r, bond-orders s h k n, bond-last (node_keys s.tree k) c (bond-of s h k n) f)

-- keys in order are the first
pub bond-begins : (old new : BlockState) → IsBlockState new → (k : ℕ) → IsNodeOfKind old.tree k P → KeepsOthers old new k → choice old.tree new.rotation k ≡ node_keys old.tree k → node_digit new k ≡ 0
bond-begins old new h k n o e =
    digit-as old new k P n.1 o ∙ bond-sorted (node_keys old.tree k) (choice old.tree new.rotation k)
    (subst (λ z. IsBondOf (node_keys z k) (choice z new.rotation k)) o.tree (bond-of new h k (subst (λ z. IsNodeOfKind z k P) (sym o.tree) n))) e

-- so it is after the groups are put in the order of the items
pub sorted-begins : (old new : BlockState) → IsBlockState old → IsBlockState new → (k : ℕ) → IsNodeOfKind old.tree k P → PermuteLeads old.graph old.tree k (node_keys old.tree k) old.rotation new.rotation → IsMovedOnly old new
    → new.choices ≡ slice_set old.choices k (node_keys old.tree k) → IsMoved old new k 0
sorted-begins old new h j k n f e c = (keeps, bond-begins old new j k n keeps is)
  where
    keeps : KeepsOthers old new k
    keeps = keeps-moved old new h (permute k (node_keys old.tree k)) e (n, f)

    tree : new.tree ≡ old.tree
    tree = ap (λ (s : BlockState). s.tree) e

    is : choice old.tree new.rotation k ≡ node_keys old.tree k
    is = ap (λ (z : List Node). choice z new.rotation k) (sym tree) ∙ sym (j.choices.is k (subst (λ (z : List Node). k < length z) (sym tree) n.0)) ∙ ap (λ (z : List (List ℕ)). slice_index_or z k []) c
        ∙ get_or-set_same old.choices k (node_keys old.tree k) [] (subst (λ z. k < z) (sym h.choices.each) n.0)
