-- Moves that give all nodes the choices whose places are the digits of a number.
use Rattle.std.proofs.Common.{◌≡◌, ℕ, ◌+◌, ◌-◌, ◌/◌, ◌%◌, ◌<◌, ◌≤◌, true, false, List, [], ◌∷◌, ◌++◌, length, map, drop, slice_index_or, refl, sym, ap, ◌∙◌, subst, arith, inl, inr, IsPermutation}
use Rattle.std.specs.List.{swap}
use Rattle.std.proofs.lemmas.Bool.{both_ways, true≢false, false_from_ne_true}
use Rattle.std.proofs.lemmas.List.{map-append}
use Rattle.std.proofs.lemmas.List.Sorted.{IsPermutation-refl, IsPermutation-trans, IsPermutation-swap, length_permutation}
use Rattle.permutations.specs.Members.{is_member, is_distinct}
use Rattle.permutations.proofs.Arrangements.{permutation-distinct}
use Rattle.permutations.proofs.Members.{member-cases, member-append_cases, distinct-append}
use Rattle.multigraph.specs.Graph.{Multigraph}
use Rattle.pair_split.specs.Tutte.{Node}
use Rattle.pair_split.specs.declared.components.Kind.TheVariants.{P}
use Rattle.choice_lists.specs.Arrangements.{factorial}
use Rattle.choice_lists.proofs.Smaller.{smaller}
use Rattle.faces.specs.Euler.{IsPlaneSystem}
use Rattle.skeletons.specs.Items.{node_keys}
use Rattle.skeletons.specs.Choices.{choice}
use Rattle.skeletons.specs.Lists.{list_count}
use Rattle.skeletons.specs.Moves.{Move, permute, moved_node, IsNodeOfKind, MoveLeads, Lead}
use Rattle.skeletons.proofs.Leading.{lead-append, bond-choice}
use Rattle.skeleton_runs.proofs.Contiguous.{plane-contiguous}
use Rattle.skel_embed.specs.Block.{BlockState, lock_at, IsBlockState}
use Rattle.embed_enum.specs.Digits.{radix_at, digit_at}
use Rattle.embed_enum.specs.Changes.{LeadsToDigit, IsMoveTo}
use Rattle.embed_enum.specs.Walk.{KeepsRest, IsAtRank, AreMovesTo}
use Rattle.embed_enum.proofs.Bonds.{bond-of, bond-starts, DigitTaken, digit-taken, arranged-more, arranged-all, keeps-itself}
use Rattle.embed_enum.proofs.Leads.{permute-to, first-least, starts-written}
use Rattle.embed_enum.proofs.Placed.{placed}
use Rattle.embed_enum.proofs.Swaps.{swap-places}
use Rattle.embed_enum.proofs.Walks.{IsNumberedFrom, numbered-begins, numbered-more, numbered-ends, open-digit, same-digit, rest-of, rest-then, rank-after}

-- ---- the keys of a bond

-- keys of a choice c of so many items brought into order up to place i, and what is left of the number
pub record ArePlaced (c keys : List ℕ) (items i left factor number : ℕ) : Type 0 where
  pub same : IsPermutation c keys
  pub first : slice_index_or keys 0 0 ≡ slice_index_or c 0 0
  pub long : items ≡ length c
  pub factor_is : factor ≡ factorial (items - i)
  pub below : left < factor
  pub number_is : placed i keys + left ≡ number

module _ (s : BlockState) (h : IsBlockState s) (k : ℕ) (is : IsNodeOfKind s.tree k P) where
  abbrev own : List ℕ
  own = choice s.tree s.rotation k

  pub placed-begins : (keys : List ℕ) (items number factor : ℕ) → keys ≡ own → items ≡ length own → factor ≡ factorial (length own - 1) → number < factor → ArePlaced own keys items 1 number factor number
  placed-begins keys items number factor e long f l = record {
    same = subst (IsPermutation own) (sym e) (IsPermutation-refl own);
    first = ap (λ (z : List ℕ). slice_index_or z 0 0) e;
    long = long;
    factor_is = f ∙ ap (λ n. factorial (n - 1)) (sym long);
    below = l;
    number_is = let n = bond-starts (node_keys s.tree k) own (bond-of s h k is) in omega (arith, n, ap (placed 1) e);
  }

  module _ (keys : List ℕ) (items i left factor number : ℕ) (p : ArePlaced own keys items i left factor number) where
    pub placed-once : is_distinct keys ≡ true
    placed-once = permutation-distinct own keys p.same (bond-of s h k is).once

    pub placed-long : length keys ≡ items
    placed-long = length_permutation own keys p.same ∙ sym p.long

    -- one digit taken off
    pub placed-digit : i < items → DigitTaken left factor items i
    placed-digit l = digit-taken left factor items i l p.factor_is p.below

    pub placed-next : (j : ℕ) → 0 < i → i < items → i ≤ j → j < length keys → smaller (slice_index_or keys j 0) (drop i keys) ≡ left / (factor / (items - i))
        → ArePlaced own (swap keys i j) items (i + 1) (left % (factor / (items - i))) (factor / (items - i)) number
    placed-next j n l a b found = record {
      same = IsPermutation-trans own keys (swap keys i j) p.same (IsPermutation-swap keys (swap keys i j) i j (omega (arith, a, b)) b refl);
      first = (swap-places keys i j 0 (omega (arith, a, b)) b).2 (λ e. omega (arith, e, n)) (λ e. omega (arith, e, n, a)) ∙ p.first;
      long = p.long;
      factor_is = (placed-digit l).factor_is;
      below = let x = (placed-digit l).below in let y = (placed-digit l).factor_is in omega (arith, x, y);
      number_is = arranged-more keys i j left factor items number l a b placed-long p.factor_is p.below found p.number_is;
    }

    arranged : IsPermutation (node_keys s.tree k) keys
    arranged = IsPermutation-trans (node_keys s.tree k) own keys (bond-choice s.graph s.tree h.block s.rotation k h.plane.system (plane-contiguous s.graph s.tree s.rotation h.block h.plane) is).0 p.same

    pub placed-to : items ≤ i → IsMoveTo s k number (permute k keys)
    placed-to l = subst (λ d. IsMoveTo s k d (permute k keys)) (arranged-all keys i left factor items number l placed-long p.factor_is p.below p.number_is)
        (permute-to s k keys is arranged (starts-written (node_keys s.tree k) keys (h.block.tree.in_order.keys_rise k is.0) arranged (p.first ∙ first-least s h k is)))

-- ---- all nodes

-- moves of different nodes, none below k, lead to a state in which the choices from node k on make this number, where those before make
-- `left`, and in which the nodes below k have their present choices
pub record AreNumberedBy (old : BlockState) (k left number : ℕ) (moves : List Move) : Type 0 where
  pub state : BlockState
  pub right : IsBlockState state
  pub lead : Lead old.graph old.tree (IsPlaneSystem old.graph) moves old.rotation state.rotation
  pub numbered : IsNumberedFrom old state k left number
  pub same : (j : ℕ) → j < k → choice old.tree state.rotation j ≡ choice old.tree old.rotation j
  pub apart : is_distinct (map moved_node moves) ≡ true
  pub above : (j : ℕ) → is_member j (map moved_node moves) ≡ true → k ≤ j

pub reach-begins : (s : BlockState) → IsBlockState s → (number : ℕ) → number < list_count s.tree (lock_at s.locks) → AreNumberedBy s (length s.tree) number number []
reach-begins s is number l = record {
  state = s;
  right = is;
  lead = refl;
  numbered = numbered-begins s number l;
  same = λ j a. refl;
  apart = refl;
  above = λ j y. absurd (true≢false (sym y));
}

module _ (old : BlockState) (k left number : ℕ) (moves : List Move) (l : k < length old.tree) (h : AreNumberedBy old (k + 1) left number moves) where
  abbrev quotient : ℕ
  quotient = left / radix_at old.tree (lock_at old.locks) k

  rest : KeepsRest old h.state
  rest = h.numbered.rest

  same : choice old.tree h.state.rotation k ≡ choice old.tree old.rotation k
  same = h.same k (omega arith)

  -- a node that is there stays
  pub reach-kept : digit_at old.tree (lock_at old.locks) old.rotation k ≡ left % radix_at old.tree (lock_at old.locks) k → AreNumberedBy old k quotient number moves
  reach-kept d = record {
    state = h.state;
    right = h.right;
    lead = h.lead;
    numbered = numbered-more old h.state h.state k left number h.numbered (keeps-itself h.state k) (λ y. refl) (same-digit old.tree (lock_at old.locks) old.rotation h.state.rotation k same ∙ d);
    same = λ j a. h.same j (omega (arith, a));
    apart = h.apart;
    above = λ j y. let b = h.above j y in omega (arith, b);
  }

  -- another is led there by one move more
  module _ (move : Move) (free : lock_at old.locks k ≡ false) (to : IsMoveTo old k (left % radix_at old.tree (lock_at old.locks) k) move) where
    led : LeadsToDigit h.state move k (left % radix_at old.tree (lock_at old.locks) k)
    led = to.from h.state h.right rest same

    names : map moved_node (moves ++ move ∷ []) ≡ map moved_node moves ++ k ∷ []
    names = map-append moved_node moves (move ∷ []) ∙ ap (λ j. map moved_node moves ++ j ∷ []) to.node

    leads : MoveLeads old.graph old.tree move h.state.rotation led.state.rotation
    leads = subst (λ (g : Multigraph). MoveLeads g old.tree move h.state.rotation led.state.rotation) rest.graph (subst (λ (z : List Node). MoveLeads h.state.graph z move h.state.rotation led.state.rotation) rest.tree led.leads)

    plane : IsPlaneSystem old.graph led.state.rotation
    plane = subst (λ (g : Multigraph). IsPlaneSystem g led.state.rotation) (led.is_moved.0.graph ∙ rest.graph) led.right.plane

    apart-more : (z : ℕ) → is_member z (map moved_node moves) ≡ true → is_member z (k ∷ []) ≡ false
    apart-more z y = false_from_ne_true (is_member z (k ∷ [])) (λ t. elim (member-cases z k [] t) [
      | inl e ↦ let b = h.above z y in omega (arith, b, e)
      | inr m ↦ absurd (true≢false (sym m))
    ])

    above-more : (j : ℕ) → is_member j (map moved_node moves ++ k ∷ []) ≡ true → k ≤ j
    above-more j y = elim (member-append_cases j (map moved_node moves) (k ∷ []) y) [
      | inl m ↦ let b = h.above j m in omega (arith, b)
      | inr m ↦ elim (member-cases j k [] m) [
        | inl e ↦ omega (arith, e)
        | inr t ↦ absurd (true≢false (sym t))
      ]
    ]

    digit : digit_at old.tree (lock_at old.locks) led.state.rotation k ≡ left % radix_at old.tree (lock_at old.locks) k
    digit = open-digit old led.state (rest-then old h.state led.state rest (rest-of h.state led.state k led.is_moved.0)) k free ∙ led.is_moved.1

    stays : (j : ℕ) → j < k → choice old.tree led.state.rotation j ≡ choice old.tree old.rotation j
    stays j a = subst (λ (z : List Node). choice z led.state.rotation j ≡ choice z h.state.rotation j) rest.tree (led.is_moved.0.others j (subst (λ (z : List Node). j < length z) (sym rest.tree) (omega (arith, a, l))) (λ e. omega (arith, e, a)))
        ∙ h.same j (omega (arith, a))

    pub reach-more : AreNumberedBy old k quotient number (moves ++ move ∷ [])
    reach-more = record {
      state = led.state;
      right = led.right;
      lead = lead-append old.graph old.tree (IsPlaneSystem old.graph) moves (move ∷ []) old.rotation h.state.rotation led.state.rotation h.lead (led.state.rotation, leads, plane, refl);
      numbered = numbered-more old h.state led.state k left number h.numbered led.is_moved.0 (λ y. absurd (both_ways (lock_at old.locks k) free y)) digit;
      same = stays;
      apart = subst (λ (z : List ℕ). is_distinct z ≡ true) (sym names) (distinct-append (map moved_node moves) (k ∷ []) h.apart refl apart-more);
      above = λ j y. above-more j (subst (λ (z : List ℕ). is_member j z ≡ true) names y);
    }

pub reach-ends : (s : BlockState) → IsBlockState s → (k left number : ℕ) (moves : List Move) → k ≡ 0 → AreNumberedBy s k left number moves → AreMovesTo s (IsAtRank s number) moves
reach-ends s is k left number moves z h = record {
  end = h.state.rotation;
  lead = h.lead;
  meets = λ l m. rank-after s h.state is h.right number (numbered-ends s h.state k left number z h.numbered) l m;
  apart = h.apart;
}
