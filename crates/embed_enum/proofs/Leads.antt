-- Moves that lead single nodes to choices, and lists of them that reset all nodes of a range.
use Rattle.std.proofs.Common.{◌≡◌, ℕ, ◌+◌, ◌<◌, ◌≤◌, true, false, List, [], ◌∷◌, ◌++◌, length, map, take, drop, reverse, slice_index_or, refl, sym, ap, ◌∙◌, subst, arith, inl, inr, IsPermutation, All, Option, None, Some, MatchOption, Result, Ok, Err, IfOk}
use Rattle.std.specs.List.{swap}
use Rattle.std.proofs.lemmas.Bool.{cases_Bool, true≢false, false_from_ne_true}
use Rattle.std.proofs.lemmas.List.{map-append, get_or_append_left, get_or-take, length-take-le}
use Rattle.std.proofs.lemmas.List.Edits.{length-swap}
use Rattle.std.proofs.lemmas.List.Sorted.{IsPermutation-refl, IsPermutation-trans, length_permutation}
use Rattle.permutations.specs.Cyclic.{from_least}
use Rattle.permutations.specs.Members.{is_member, is_distinct}
use Rattle.permutations.proofs.Members.{member-cases, member-append_cases, member-tail, distinct-append}
use Rattle.permutations.proofs.Arrangements.{permutation-member}
use Rattle.permutations.proofs.NormalForm.{from_least-first}
use Rattle.multigraph.specs.Graph.{Multigraph}
use Rattle.multigraph.specs.Part.{Rises}
use Rattle.pair_split.specs.Tutte.{Node, node_at}
use Rattle.pair_split.specs.declared.components.Kind.TheVariants.{P, R}
use Rattle.choice_lists.specs.Arrangements.{factorial_number}
use Rattle.choice_lists.specs.Choices.{mirror_choice}
use Rattle.choice_lists.proofs.Arrangements.{rising-number}
use Rattle.choice_lists.proofs.NextArrangement.{Falls, Follows, next-follows}
use Rattle.faces.specs.Euler.{IsPlaneSystem}
use Rattle.skeletons.specs.Items.{node_keys}
use Rattle.skeletons.specs.Choices.{choice}
use Rattle.skeletons.specs.Lists.{IsRank}
use Rattle.skeletons.specs.Moves.{Move, flip, permute, moved_node, IsNodeOfKind, MoveLeads, FlipLeads, PermuteLeads}
use Rattle.skeletons.proofs.Leading.{lead-append, bond-choice}
use Rattle.skeletons.proofs.Moved.{flip-exists, permute-exists, permute-sets}
use Rattle.skeleton_runs.proofs.Contiguous.{plane-contiguous}
use Rattle.skel_embed.specs.Block.{BlockState, lock_at, IsBlockState}
use Rattle.skel_embed.proofs.Lexicographic.{rises-first}
use Rattle.skel_embed.proofs.States.{with_move, state-flipped, state-arranged, rises-written}
use Rattle.embed_enum.specs.Digits.{digit_of, radix_at, digit_at, number_to, rigid_digit}
use Rattle.embed_enum.specs.Changes.{KeepsOthers, IsChosen, IsMoved, node_digit, AreReset, LeadsToDigit, IsMoveTo, AreResetBy}
use Rattle.embed_enum.specs.Walk.{KeepsRest, IsAtRank, IsAfter, AreMovesTo}
use Rattle.embed_enum.proofs.Bonds.{bond-of, keeps-itself}
use Rattle.embed_enum.proofs.Nodes.{flipped-digit, digit-as, own-digit}
use Rattle.embed_enum.proofs.Rises.{next-made}
use Rattle.embed_enum.proofs.Single.{keeps-moved, flip-chosen}
use Rattle.embed_enum.proofs.Swaps.{swap-places}
use Rattle.embed_enum.proofs.Walks.{rest-of, rest-itself, rest-then, reset-locked, reset-more, reset-number, next-number, rank-after, rank-is}

-- what holds of what was found, and of what was not
pub some-held : {X : Type 0} (A : Type 0) (B : X → Type 0) {o : Option X} {x : X} → o ≡ Some x → MatchOption o A B → B x
some-held {X} A B e h = subst (λ (z : Option X). MatchOption z A B) e h

pub none-held : {X : Type 0} (A : Type 0) (B : X → Type 0) {o : Option X} → o ≡ None → MatchOption o A B → A
none-held {X} A B e h = subst (λ (z : Option X). MatchOption z A B) e h

-- what is so of a result is so of what follows from it
pub ok-held : {X E : Type 0} (r : Result X E) (A B : X → Type 0) → ((x : X) → A x → B x) → IfOk r A → IfOk r B
ok-held (Ok x) A B f h = f x h
ok-held (Err e) A B f h = tt

-- ---- one node

-- the same choice has the same place
pub digit-kept : (s t : BlockState) (k : ℕ) → KeepsRest s t → choice s.tree t.rotation k ≡ choice s.tree s.rotation k → node_digit t k ≡ node_digit s k
digit-kept s t k rest same = ap (λ (z : List Node). digit_of (node_at z k).kind (choice z t.rotation k)) rest.tree ∙ ap (digit_of (node_at s.tree k).kind) same

-- a flip leads to the other choice of a triconnected node
pub flip-to : (s : BlockState) (k d : ℕ) → IsNodeOfKind s.tree k R → node_digit s k + d ≡ 1 → IsMoveTo s k d (flip k)
flip-to s k d is sum = record { node = refl; from = from }
  where
    from : (t : BlockState) → IsBlockState t → KeepsRest s t → choice s.tree t.rotation k ≡ choice s.tree s.rotation k → LeadsToDigit t (flip k) k d
    from t h rest same = record { state = new; right = state-flipped t h k w.0 node w.1; leads = (node, w.1); is_moved = (chosen.0, digit) }
      where
        node : IsNodeOfKind t.tree k R
        node = subst (λ (z : List Node). IsNodeOfKind z k R) (sym rest.tree) is

        w : (q : List (List ℕ)) × FlipLeads t.graph t.tree k t.rotation q
        w = flip-exists t.graph t.tree t.rotation h.block h.plane.system (plane-contiguous t.graph t.tree t.rotation h.block h.plane) k node

        new : BlockState
        new = with_move t w.0 k (from_least (reverse (slice_index_or t.choices k [])))

        chosen : IsChosen t new k (mirror_choice (choice t.tree t.rotation k))
        chosen = flip-chosen t new h k node w.1 refl

        digit : node_digit new k ≡ d
        digit =
            let one : rigid_digit (choice t.tree t.rotation k) ≡ node_digit s k = sym (own-digit t k R node.1) ∙ digit-kept s t k rest same in
            let both = flipped-digit t h k node (choice t.tree new.rotation k) chosen.1 in
            let other : rigid_digit (choice t.tree new.rotation k) ≡ d = omega (arith, one, both, sum) in
            digit-as t new k R node.1 chosen.0 ∙ other

-- a permute leads to its keys, where the least of them is the first
pub permute-to : (s : BlockState) (k : ℕ) (keys : List ℕ) → IsNodeOfKind s.tree k P → IsPermutation (node_keys s.tree k) keys → from_least keys ≡ keys → IsMoveTo s k (factorial_number keys) (permute k keys)
permute-to s k keys is arranged written = record { node = refl; from = from }
  where
    from : (t : BlockState) → IsBlockState t → KeepsRest s t → choice s.tree t.rotation k ≡ choice s.tree s.rotation k → LeadsToDigit t (permute k keys) k (factorial_number keys)
    from t h rest same = record { state = new; right = state-arranged t h k keys w.0 node w.1; leads = (node, w.1); is_moved = (keeps, digit-as t new k P node.1 keeps ∙ ap factorial_number chosen) }
      where
        node : IsNodeOfKind t.tree k P
        node = subst (λ (z : List Node). IsNodeOfKind z k P) (sym rest.tree) is

        w : (q : List (List ℕ)) × PermuteLeads t.graph t.tree k keys t.rotation q
        w = permute-exists t.graph t.tree t.rotation h.block h.plane.system (plane-contiguous t.graph t.tree t.rotation h.block h.plane) k node keys (subst (λ (z : List Node). IsPermutation (node_keys z k) keys) (sym rest.tree) arranged)

        new : BlockState
        new = with_move t w.0 k (from_least keys)

        keeps : KeepsOthers t new k
        keeps = keeps-moved t new h (permute k keys) refl (node, w.1)

        chosen : choice t.tree new.rotation k ≡ keys
        chosen = permute-sets t.graph t.tree k keys t.rotation new.rotation h.block h.plane.system (plane-contiguous t.graph t.tree t.rotation h.block h.plane) node w.1 ∙ written

-- an ordering of increasing keys that begins with the first of them is written from the least on
pub starts-written : (keys c : List ℕ) → Rises keys → IsPermutation keys c → slice_index_or c 0 0 ≡ slice_index_or keys 0 0 → from_least c ≡ c
starts-written keys [] r p e = refl
starts-written [] (x ∷ l) r p e = absurd (omega (arith, length_permutation [] (x ∷ l) p))
starts-written (y ∷ ys) (x ∷ l) r p e = from_least-first x l (λ z m. subst (λ u. u ≤ z) (sym e) (rises-first y ys r z (sym (permutation-member (y ∷ ys) (x ∷ l) z p) ∙ member-tail z x l m)))

module _ (s : BlockState) (h : IsBlockState s) (k : ℕ) (is : IsNodeOfKind s.tree k P) where
  abbrev own : List ℕ
  own = choice s.tree s.rotation k

  rising : Rises (node_keys s.tree k)
  rising = h.block.tree.in_order.keys_rise k is.0

  -- to the keys in increasing order
  pub sort-to : (keys : List ℕ) → keys ≡ node_keys s.tree k → IsMoveTo s k 0 (permute k keys)
  sort-to keys e = subst (λ d. IsMoveTo s k d (permute k keys)) none (permute-to s k keys is (subst (IsPermutation (node_keys s.tree k)) (sym e) (IsPermutation-refl (node_keys s.tree k))) (subst (λ (z : List ℕ). from_least z ≡ z) (sym e) (rises-written (node_keys s.tree k) rising)))
    where
      none : factorial_number keys ≡ 0
      none = let b = bond-of s h k is in ap factorial_number (e ∙ b.node) ∙ rising-number (b.key ∷ b.others) b.rise

  -- the first key of a choice is the first of the node
  pub first-least : slice_index_or own 0 0 ≡ slice_index_or (node_keys s.tree k) 0 0
  first-least = let b = bond-of s h k is in ap (λ (z : List ℕ). slice_index_or z 0 0) b.is ∙ sym (ap (λ (z : List ℕ). slice_index_or z 0 0) b.node)

  -- to the ordering that follows, by an exchange of two keys and a turn of those after the first of them
  module _ (i j : ℕ) (n : 0 < i) (l : i < j) (within : j < length own) where
    abbrev next : List ℕ
    next = take (i + 1) (swap own i j) ++ reverse (drop (i + 1) (swap own i j))

    first-stays : slice_index_or next 0 0 ≡ slice_index_or own 0 0
    first-stays =
        get_or_append_left (take (i + 1) (swap own i j)) (reverse (drop (i + 1) (swap own i j))) 0 0 (omega (arith, length-take-le (i + 1) (swap own i j) (omega (arith, l, within, length-swap own i j))))
        ∙ get_or-take (i + 1) (swap own i j) 0 0 (omega arith)
        ∙ (swap-places own i j 0 (omega (arith, l, within)) within).2 (λ e. omega (arith, e, n)) (λ e. omega (arith, e, n, l))

    pub next-to : Falls (drop (i + 1) own) → slice_index_or own i 0 < slice_index_or own j 0 → All (λ z. z < slice_index_or own i 0) (drop (j + 1) own) → (keys : List ℕ) → keys ≡ next → IsMoveTo s k (node_digit s k + 1) (permute k keys)
    next-to falls greater last keys e = subst (λ (z : List ℕ). IsMoveTo s k (node_digit s k + 1) (permute k z)) (sym e)
        (subst (λ d. IsMoveTo s k d (permute k next)) (f.number ∙ ap (λ d. d + 1) (sym (own-digit s k P is.1))) (permute-to s k next is arranged (starts-written (node_keys s.tree k) next rising arranged (first-stays ∙ first-least))))
      where
        f : Follows own next
        f = next-follows own next (next-made own i j l within falls greater last)

        arranged : IsPermutation (node_keys s.tree k) next
        arranged = IsPermutation-trans (node_keys s.tree k) own next (bond-choice s.graph s.tree h.block s.rotation k h.plane.system (plane-contiguous s.graph s.tree s.rotation h.block h.plane) is).0 f.same

-- ---- lists of moves

-- no move
pub led-begins : (s : BlockState) → IsBlockState s → AreResetBy s s 0 0 []
led-begins s is = record {
  rest = rest-itself s;
  same = λ j a b. refl;
  state = s;
  right = is;
  lead = refl;
  reset = record { rest = rest-itself s; kept = λ j b f. refl; first = λ j a b n. absurd (omega (arith, b)) };
  apart = refl;
  below = λ j y. absurd (true≢false (sym y));
}

-- one move, of the node before the range
pub led-stepped : (s : BlockState) → IsBlockState s → (k d : ℕ) (move : Move) → IsMoveTo s k d move → (mid : BlockState) × IsMoved s mid k d × AreResetBy s mid (k + 1) (k + 1) (move ∷ [])
led-stepped s is k d move to = (
  led.state,
  led.is_moved,
  record {
    rest = rest-of s led.state k led.is_moved.0;
    same = λ j a b. led.is_moved.0.others j b (λ e. omega (arith, e, a));
    state = led.state;
    right = led.right;
    lead = (led.state.rotation, led.leads, subst (λ (g : Multigraph). IsPlaneSystem g led.state.rotation) led.is_moved.0.graph led.right.plane, refl);
    reset = record { rest = rest-itself led.state; kept = λ j b f. refl; first = λ j a b n. absurd (omega (arith, a, b)) };
    apart = refl;
    below = λ j y. elim (member-cases j (moved_node move) [] y) [
      | inl e ↦ omega (arith, e, to.node)
      | inr m ↦ absurd (true≢false (sym m))
    ];
  },
)
  where
    led : LeadsToDigit s move k d
    led = to.from s is (rest-itself s) refl

module _ (old mid : BlockState) (from k : ℕ) (moves : List Move) (a : from ≤ k) (l : k < length old.tree) (h : AreResetBy old mid from k moves) where
  rest : KeepsRest old h.state
  rest = rest-then old mid h.state h.rest h.reset.rest

  -- node k has its first choice still
  same : choice old.tree h.state.rotation k ≡ choice old.tree old.rotation k
  same = subst (λ (z : List Node). choice z h.state.rotation k ≡ choice z mid.rotation k) h.rest.tree (h.reset.kept k (subst (λ (z : List Node). k < length z) (sym h.rest.tree) l) (λ u v. absurd (omega (arith, v)))) ∙ h.same k a l

  -- a node that is locked or at its first choice stays
  pub led-kept : (lock_at old.locks k ≡ false → node_digit old k ≡ 0) → AreResetBy old mid from (k + 1) moves
  led-kept zero = record {
    rest = h.rest;
    same = h.same;
    state = h.state;
    right = h.right;
    lead = h.lead;
    reset = elim (cases_Bool (lock_at mid.locks k)) [
      | inl y ↦ reset-locked mid h.state from k h.reset y
      | inr n ↦ reset-more mid h.state h.state from k a (subst (λ (z : List Node). k < length z) (sym h.rest.tree) l) n h.reset
          (keeps-itself h.state k, digit-kept old h.state k rest same ∙ zero (subst (λ z. lock_at z k ≡ false) h.rest.locks n))
    ];
    apart = h.apart;
    below = λ j y. let b = h.below j y in omega (arith, b);
  }

  -- another is led to its first choice by one move more
  module _ (move : Move) (free : lock_at old.locks k ≡ false) (to : IsMoveTo old k 0 move) where
    led : LeadsToDigit h.state move k 0
    led = to.from h.state h.right rest same

    names : map moved_node (moves ++ move ∷ []) ≡ map moved_node moves ++ k ∷ []
    names = map-append moved_node moves (move ∷ []) ∙ ap (λ j. map moved_node moves ++ j ∷ []) to.node

    leads : MoveLeads old.graph old.tree move h.state.rotation led.state.rotation
    leads = subst (λ (g : Multigraph). MoveLeads g old.tree move h.state.rotation led.state.rotation) rest.graph (subst (λ (z : List Node). MoveLeads h.state.graph z move h.state.rotation led.state.rotation) rest.tree led.leads)

    plane : IsPlaneSystem old.graph led.state.rotation
    plane = subst (λ (g : Multigraph). IsPlaneSystem g led.state.rotation) (led.is_moved.0.graph ∙ rest.graph) led.right.plane

    apart-more : (z : ℕ) → is_member z (map moved_node moves) ≡ true → is_member z (k ∷ []) ≡ false
    apart-more z y = false_from_ne_true (is_member z (k ∷ [])) (λ t. elim (member-cases z k [] t) [
      | inl e ↦ let b = h.below z y in omega (arith, b, e)
      | inr m ↦ absurd (true≢false (sym m))
    ])

    below-more : (j : ℕ) → is_member j (map moved_node moves ++ k ∷ []) ≡ true → j < k + 1
    below-more j y = elim (member-append_cases j (map moved_node moves) (k ∷ []) y) [
      | inl m ↦ let b = h.below j m in omega (arith, b)
      | inr m ↦ elim (member-cases j k [] m) [
        | inl e ↦ omega (arith, e)
        | inr t ↦ absurd (true≢false (sym t))
      ]
    ]

    pub led-more : AreResetBy old mid from (k + 1) (moves ++ move ∷ [])
    led-more = record {
      rest = h.rest;
      same = h.same;
      state = led.state;
      right = led.right;
      lead = lead-append old.graph old.tree (IsPlaneSystem old.graph) moves (move ∷ []) old.rotation h.state.rotation led.state.rotation h.lead (led.state.rotation, leads, plane, refl);
      reset = reset-more mid h.state led.state from k a (subst (λ (z : List Node). k < length z) (sym h.rest.tree) l) (subst (λ z. lock_at z k ≡ false) (sym h.rest.locks) free) h.reset led.is_moved;
      apart = subst (λ (z : List ℕ). is_distinct z ≡ true) (sym names) (distinct-append (map moved_node moves) (k ∷ []) h.apart refl apart-more);
      below = λ j y. below-more j (subst (λ (z : List ℕ). is_member j z ≡ true) names y);
    }

-- all nodes reset: the first member
pub first-led : (s : BlockState) → IsBlockState s → (moves : List Move) → AreResetBy s s 0 (length s.tree) moves → AreMovesTo s (IsAtRank s 0) moves
first-led s is moves h = record {
  end = h.state.rotation;
  lead = h.lead;
  meets = λ l m. rank-after s h.state is h.right 0 (reset-number s h.state h.reset) l m;
  apart = h.apart;
}

-- node k at its next choice, and those after it reset, which were at their last: the next member
pub next-led : (s mid : BlockState) → IsBlockState s → (k : ℕ) (moves : List Move) → k < length s.tree → lock_at s.locks k ≡ false → IsMoved s mid k (node_digit s k + 1) → AreResetBy s mid (k + 1) (length s.tree) moves
    → ((j : ℕ) → k < j → j < length s.tree → digit_at s.tree (lock_at s.locks) s.rotation j + 1 ≡ radix_at s.tree (lock_at s.locks) j) → AreMovesTo s (IsAfter s) moves
next-led s mid is k moves l free moved h last = record {
  end = h.state.rotation;
  lead = h.lead;
  meets = λ list i m r. subst (λ z. IsRank list h.state.rotation (z + 1)) (sym (rank-is s is list i m r)) (rank-after s h.state is h.right
      (number_to (length s.tree) (radix_at s.tree (lock_at s.locks)) (digit_at s.tree (lock_at s.locks) s.rotation) + 1)
      (next-number s mid h.state k l free moved (subst (λ (z : List Node). AreReset mid h.state (k + 1) (length z)) (sym h.rest.tree) h.reset) last) list m);
  apart = h.apart;
}
