-- What a flip or an exchange of two groups does to the choices.
use Rattle.std.proofs.Common.{◌≡◌, ℕ, ◌<◌, ◌≤◌, true, false, List, [], ◌∷◌, map, drop, sym, ap, ◌∙◌, subst, arith, inl, inr}
use Rattle.std.proofs.lemmas.Bool.{cases_eq, ltb-true, both_ways, true≢false}
use Rattle.permutations.specs.Cyclic.{from_least}
use Rattle.permutations.specs.Members.{is_member, is_distinct}
use Rattle.permutations.proofs.Members.{member-head, member-tail, member-cases, distinct-head}
use Rattle.permutations.proofs.Arrangements.{permutation-member}
use Rattle.permutations.proofs.NormalForm.{from_least-first}
use Rattle.pair_split.specs.declared.components.Kind.TheVariants.{P, R}
use Rattle.choice_lists.specs.Choices.{mirror_choice}
use Rattle.choice_lists.proofs.Smaller.{has-member}
use Rattle.skeletons.specs.Items.{node_keys}
use Rattle.skeletons.specs.Choices.{choice}
use Rattle.skeletons.specs.Moves.{Move, flip, permute, IsNodeOfKind, MoveLeads, FlipLeads, PermuteLeads, moved_node}
use Rattle.skeletons.proofs.Moved.{move-others, flip-turns, permute-sets}
use Rattle.skeleton_runs.proofs.Contiguous.{plane-contiguous}
use Rattle.skeleton_choices.proofs.Listed.{choice-normal, mirror-same}
use Rattle.skel_embed.specs.Block.{BlockState, IsBlockState}
use Rattle.skel_embed.specs.Exchanges.{other_of, exchanged}
use Rattle.skel_embed.proofs.ExchangeSteps.{other-first, other-second, other-none}
use Rattle.embed_enum.specs.Changes.{KeepsOthers, IsChosen}
use Rattle.embed_enum.proofs.Bonds.{IsBondOf, bond-of, bond-behind}

-- a block whose rotation system and choices alone changed
abbrev pub IsMovedOnly : BlockState → BlockState → Type 0
IsMovedOnly old new = new ≡ record { graph = old.graph; tree = old.tree; rotation = new.rotation; choices = new.choices; locks = old.locks }

-- by a move of node k
pub keeps-moved : (old new : BlockState) → IsBlockState old → (move : Move) → IsMovedOnly old new → MoveLeads old.graph old.tree move old.rotation new.rotation → KeepsOthers old new (moved_node move)
keeps-moved old new h move e m = record {
  graph = ap (λ (s : BlockState). s.graph) e;
  tree = ap (λ (s : BlockState). s.tree) e;
  locks = ap (λ (s : BlockState). s.locks) e;
  others = λ j l n. move-others old.graph old.tree move old.rotation new.rotation h.block h.plane.system (plane-contiguous old.graph old.tree old.rotation h.block h.plane) m j l n;
}

-- a flip makes the choice its mirror image
pub flip-chosen : (old new : BlockState) → IsBlockState old → (k : ℕ) → IsNodeOfKind old.tree k R → FlipLeads old.graph old.tree k old.rotation new.rotation → IsMovedOnly old new
    → IsChosen old new k (mirror_choice (choice old.tree old.rotation k))
flip-chosen old new h k n f e =
    let c = choice-normal old.graph old.tree h.block old.rotation k h.plane n.0 in (
      keeps-moved old new h (flip k) e (n, f),
      flip-turns old.graph old.tree k old.rotation new.rotation h.block h.plane.system (plane-contiguous old.graph old.tree old.rotation h.block h.plane) n f
          ∙ mirror-same (choice old.tree old.rotation k) c.0 c.1,
    )

-- images that are none less than x
images-above : (x : ℕ) (f : ℕ → ℕ) (l : List ℕ) → ((y : ℕ) → is_member y l ≡ true → x ≤ f y) → (z : ℕ) → is_member z (map f l) ≡ true → x ≤ z
images-above x f [] h z m = absurd (true≢false (sym m))
images-above x f (y ∷ l) h z m = elim (member-cases z (f y) (map f l) m) [
  | inl e ↦ subst (λ u. x ≤ u) e (h y (member-head y l))
  | inr k ↦ images-above x f l (λ u a. h u (member-tail u y l a)) z k
]

-- two keys behind the first change places, and the first stays the least
pub exchanged-written : (keys c : List ℕ) → IsBondOf keys c → (a b : ℕ) → is_member a (drop 1 c) ≡ true → is_member b (drop 1 c) ≡ true → from_least (exchanged a b c) ≡ exchanged a b c
exchanged-written keys c d a b m n =
    ap (λ (z : List ℕ). from_least (exchanged a b z)) d.is ∙ written ∙ sym (ap (exchanged a b) d.is)
  where
    first : is_member a d.rest ≡ true
    first = ap (is_member a) (sym (bond-behind keys c d)) ∙ m

    second : is_member b d.rest ≡ true
    second = ap (is_member b) (sym (bond-behind keys c d)) ∙ n

    apart : is_member d.key d.rest ≡ false
    apart = distinct-head d.key d.rest (subst (λ (z : List ℕ). is_distinct z ≡ true) d.is d.once)

    stays : other_of a b d.key ≡ d.key
    stays = other-none a b d.key (λ e. both_ways (is_member d.key d.rest) apart (ap (λ z. is_member z d.rest) e ∙ first)) (λ e. both_ways (is_member d.key d.rest) apart (ap (λ z. is_member z d.rest) e ∙ second))

    above : (z : ℕ) → is_member z d.rest ≡ true → d.key ≤ z
    above z k = let w = has-member d.others z (sym (permutation-member d.others d.rest z d.same) ∙ k) in let g : d.key < z = ltb-true d.key z (d.rise.0 w.0 z w.1) in omega (arith, g)

    image : (y : ℕ) → is_member y d.rest ≡ true → d.key ≤ other_of a b y
    image y k = elim (cases_eq y a) [
      | inl e ↦ subst (λ z. d.key ≤ z) (sym (ap (other_of a b) e ∙ other-first a b)) (above b second)
      | inr u ↦ elim (cases_eq y b) [
        | inl e ↦ subst (λ z. d.key ≤ z) (sym (ap (other_of a b) e ∙ other-second a b)) (above a first)
        | inr v ↦ subst (λ z. d.key ≤ z) (sym (other-none a b y u v)) (above y k)
      ]
    ]

    written : from_least (exchanged a b (d.key ∷ d.rest)) ≡ exchanged a b (d.key ∷ d.rest)
    written = ap (λ z. from_least (z ∷ map (other_of a b) d.rest)) stays ∙ from_least-first d.key (map (other_of a b) d.rest) (images-above d.key (other_of a b) d.rest image) ∙ sym (ap (λ z. z ∷ map (other_of a b) d.rest) stays)

-- an exchange of two groups exchanges their keys
pub exchange-chosen : (old new : BlockState) → IsBlockState old → (k a b : ℕ) → IsNodeOfKind old.tree k P → is_member a (drop 1 (choice old.tree old.rotation k)) ≡ true → is_member b (drop 1 (choice old.tree old.rotation k)) ≡ true
    → PermuteLeads old.graph old.tree k (exchanged a b (choice old.tree old.rotation k)) old.rotation new.rotation → IsMovedOnly old new
    → IsChosen old new k (exchanged a b (choice old.tree old.rotation k))
exchange-chosen old new h k a b n u v p e = (
  keeps-moved old new h (permute k (exchanged a b (choice old.tree old.rotation k))) e (n, p),
  permute-sets old.graph old.tree k (exchanged a b (choice old.tree old.rotation k)) old.rotation new.rotation h.block h.plane.system (plane-contiguous old.graph old.tree old.rotation h.block h.plane) n p
      ∙ exchanged-written (node_keys old.tree k) (choice old.tree old.rotation k) (bond-of old h k n) a b u v,
)

-- a key behind the first is one of the node
pub key-of_node : (keys c : List ℕ) → IsBondOf keys c → (a : ℕ) → is_member a (drop 1 c) ≡ true → is_member a keys ≡ true
key-of_node keys c d a m =
    ap (is_member a) d.node ∙ member-tail a d.key d.others (sym (permutation-member d.others d.rest a d.same) ∙ ap (is_member a) (sym (bond-behind keys c d)) ∙ m)
