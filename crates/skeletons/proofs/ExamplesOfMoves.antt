-- A whole flip and a whole permute, what they lead to, and possible choices, on two complete graphs on four vertices that share an edge.
use Rattle.std.proofs.lemmas.List.Elements.{All-nil, All-cons}
use Rattle.std.proofs.Common.{◌≡◌, ◌<◌, ◌==◌, false, ℕ, zero, suc, [], ◌∷◌, refl, arith}
use Rattle.std.proofs.lemmas.Bool.{true≢false}
use Rattle.rotations.specs.Rotation.{order_at}
use Rattle.pair_split.specs.Tutte.{group}
use Rattle.skeletons.specs.Choices.{choice, Precedes}
use Rattle.skeletons.specs.Families.{keys_in, StandInOrder, IsPossible}
use Rattle.skeletons.specs.Lists.{IsReached}
use Rattle.skeletons.specs.Moves.{flip, moved_node, AreReversed, OthersStay, FlipLeads, PermuteLeads, Lead}
use Rattle.skeletons.proofs.Computing.{groups-computed, system-computed, of-four}
use Rattle.skeletons.proofs.Rows.{complete, complete_first, sharing, sharing_tree, sharing_first, sharing_flipped, sharing_permuted}

-- the groups of the second node at v are reversed
abbrev Q : ℕ → Type 0
Q v = AreReversed (group sharing_tree 1) (order_at sharing_first v) (order_at sharing_flipped v)

-- the second node flipped; at vertex 0 the group of key 0 stands round the seam of the list
flipped : FlipLeads sharing sharing_tree 1 sharing_first sharing_flipped
flipped = record { system = system-computed sharing sharing_flipped refl refl; turned = of-four Q 0 1 2 3 at-0 at-1 at-2 at-3; stays = stays }
  where
    at-0 : Q 0
    at-0 = record {
      groups = (1, 1 ∷ []) ∷ (2, 2 ∷ []) ∷ (0, 6 ∷ 7 ∷ 0 ∷ []) ∷ [];
      before = record { once = refl; groups = groups-computed (group sharing_tree 1) ((1, 1 ∷ []) ∷ (2, 2 ∷ []) ∷ (0, 6 ∷ 7 ∷ 0 ∷ []) ∷ []) refl; around = record { front = 0 ∷ []; back = 1 ∷ 2 ∷ 6 ∷ 7 ∷ []; before = refl; after = refl } };
      after = record { once = refl; groups = groups-computed (group sharing_tree 1) ((0, 6 ∷ 7 ∷ 0 ∷ []) ∷ (2, 2 ∷ []) ∷ (1, 1 ∷ []) ∷ []) refl; around = record { front = 0 ∷ 2 ∷ 1 ∷ []; back = 6 ∷ 7 ∷ []; before = refl; after = refl } };
    }

    at-1 : Q 1
    at-1 = record {
      groups = (0, 0 ∷ 9 ∷ 8 ∷ []) ∷ (4, 4 ∷ []) ∷ (3, 3 ∷ []) ∷ [];
      before = record { once = refl; groups = groups-computed (group sharing_tree 1) ((0, 0 ∷ 9 ∷ 8 ∷ []) ∷ (4, 4 ∷ []) ∷ (3, 3 ∷ []) ∷ []) refl; around = record { front = []; back = 0 ∷ 9 ∷ 8 ∷ 4 ∷ 3 ∷ []; before = refl; after = refl } };
      after = record { once = refl; groups = groups-computed (group sharing_tree 1) ((3, 3 ∷ []) ∷ (4, 4 ∷ []) ∷ (0, 0 ∷ 9 ∷ 8 ∷ []) ∷ []) refl; around = record { front = 0 ∷ 9 ∷ 8 ∷ []; back = 3 ∷ 4 ∷ []; before = refl; after = refl } };
    }

    at-2 : Q 2
    at-2 = record {
      groups = (1, 1 ∷ []) ∷ (3, 3 ∷ []) ∷ (5, 5 ∷ []) ∷ [];
      before = record { once = refl; groups = groups-computed (group sharing_tree 1) ((1, 1 ∷ []) ∷ (3, 3 ∷ []) ∷ (5, 5 ∷ []) ∷ []) refl; around = record { front = []; back = 1 ∷ 3 ∷ 5 ∷ []; before = refl; after = refl } };
      after = record { once = refl; groups = groups-computed (group sharing_tree 1) ((5, 5 ∷ []) ∷ (3, 3 ∷ []) ∷ (1, 1 ∷ []) ∷ []) refl; around = record { front = 1 ∷ []; back = 5 ∷ 3 ∷ []; before = refl; after = refl } };
    }

    at-3 : Q 3
    at-3 = record {
      groups = (2, 2 ∷ []) ∷ (5, 5 ∷ []) ∷ (4, 4 ∷ []) ∷ [];
      before = record { once = refl; groups = groups-computed (group sharing_tree 1) ((2, 2 ∷ []) ∷ (5, 5 ∷ []) ∷ (4, 4 ∷ []) ∷ []) refl; around = record { front = []; back = 2 ∷ 5 ∷ 4 ∷ []; before = refl; after = refl } };
      after = record { once = refl; groups = groups-computed (group sharing_tree 1) ((4, 4 ∷ []) ∷ (5, 5 ∷ []) ∷ (2, 2 ∷ []) ∷ []) refl; around = record { front = 2 ∷ []; back = 4 ∷ 5 ∷ []; before = refl; after = refl } };
    }

    stays : OthersStay sharing_tree 1 sharing_first sharing_flipped
    stays zero h = absurd (true≢false h)
    stays (suc zero) h = absurd (true≢false h)
    stays (suc (suc zero)) h = absurd (true≢false h)
    stays (suc (suc (suc zero))) h = absurd (true≢false h)
    stays (suc (suc (suc (suc v)))) h = refl

-- the bond permuted: at the other pole the reverse order
permuted : PermuteLeads sharing sharing_tree 0 (0 ∷ 6 ∷ 1 ∷ []) sharing_first sharing_permuted
permuted = record {
  system = system-computed sharing sharing_permuted refl refl;
  arrangement = record { moves = (1, 2) ∷ []; below = (omega arith, omega arith, tt); is = refl };
  lesser = record {
    before = (0, 0 ∷ []) ∷ (1, 1 ∷ 2 ∷ []) ∷ (6, 6 ∷ 7 ∷ []) ∷ [];
    after = (0, 0 ∷ []) ∷ (6, 6 ∷ 7 ∷ []) ∷ (1, 1 ∷ 2 ∷ []) ∷ [];
    runs_before = record { once = refl; groups = groups-computed (group sharing_tree 0) ((0, 0 ∷ []) ∷ (1, 1 ∷ 2 ∷ []) ∷ (6, 6 ∷ 7 ∷ []) ∷ []) refl; around = record { front = []; back = 0 ∷ 1 ∷ 2 ∷ 6 ∷ 7 ∷ []; before = refl; after = refl } };
    runs_after = record { once = refl; groups = groups-computed (group sharing_tree 0) ((0, 0 ∷ []) ∷ (6, 6 ∷ 7 ∷ []) ∷ (1, 1 ∷ 2 ∷ []) ∷ []) refl; around = record { front = []; back = 0 ∷ 6 ∷ 7 ∷ 1 ∷ 2 ∷ []; before = refl; after = refl } };
    same_groups = record { moves = (1, 2) ∷ []; below = (omega arith, omega arith, tt); is = refl };
    order = refl;
  };
  greater = record {
    before = (0, 0 ∷ []) ∷ (6, 9 ∷ 8 ∷ []) ∷ (1, 4 ∷ 3 ∷ []) ∷ [];
    after = (1, 4 ∷ 3 ∷ []) ∷ (6, 9 ∷ 8 ∷ []) ∷ (0, 0 ∷ []) ∷ [];
    runs_before = record { once = refl; groups = groups-computed (group sharing_tree 0) ((0, 0 ∷ []) ∷ (6, 9 ∷ 8 ∷ []) ∷ (1, 4 ∷ 3 ∷ []) ∷ []) refl; around = record { front = []; back = 0 ∷ 9 ∷ 8 ∷ 4 ∷ 3 ∷ []; before = refl; after = refl } };
    runs_after = record { once = refl; groups = groups-computed (group sharing_tree 0) ((1, 4 ∷ 3 ∷ []) ∷ (6, 9 ∷ 8 ∷ []) ∷ (0, 0 ∷ []) ∷ []) refl; around = record { front = 0 ∷ []; back = 4 ∷ 3 ∷ 9 ∷ 8 ∷ []; before = refl; after = refl } };
    same_groups = record { moves = (0, 2) ∷ []; below = (omega arith, omega arith, tt); is = refl };
    order = refl;
  };
  stays = stays;
}
  where
    stays : OthersStay sharing_tree 0 sharing_first sharing_permuted
    stays zero h = absurd (true≢false h)
    stays (suc zero) h = absurd (true≢false h)
    stays (suc (suc v)) h = refl

-- the flip as a list of moves that leads, and what is reached with the bond locked
led : Lead sharing sharing_tree (λ s. Unit {0}) (flip 1 ∷ []) sharing_first sharing_flipped
led = (sharing_flipped, ((omega arith, refl), flipped), tt, refl)

reached : IsReached sharing sharing_tree (λ k. k == 0) sharing_first sharing_flipped
reached = record { moves = flip 1 ∷ []; unlocked = All-cons (λ move. (moved_node move == 0) ≡ false) (flip 1) [] refl (All-nil (λ move. (moved_node move == 0) ≡ false)); lead = led }

-- by the second node the flipped one comes later
before : Precedes sharing_tree sharing_first sharing_flipped
before = record { node = 1; is_node = omega arith; same = same; smaller = refl }
  where
    same : (j : ℕ) → j < 1 → choice sharing_tree sharing_first j ≡ choice sharing_tree sharing_flipped j
    same zero l = refl
    same (suc j) l = absurd (omega (arith, l))

-- a possible choice of the bond, and one of a triconnected node
bond-possible : IsPossible sharing_tree 0 (0 ∷ 6 ∷ 1 ∷ [])
bond-possible = record { arranged = record { moves = (1, 2) ∷ []; below = (omega arith, omega arith, tt); is = refl }; least_first = refl }

rigid-possible : IsPossible sharing_tree 2 (0 ∷ 6 ∷ 7 ∷ [])
rigid-possible = record { system = complete_first; plane = record { system = system-computed complete complete_first refl refl; plane = refl }; order = refl }

-- the second node's groups round vertex 1, in the order of a family
in-order : StandInOrder (group sharing_tree 1) (order_at sharing_first 1) (keys_in sharing_tree ([] ∷ complete_first ∷ [] ∷ []) 1 1)
in-order = record {
  groups = (0, 0 ∷ 9 ∷ 8 ∷ []) ∷ (4, 4 ∷ []) ∷ (3, 3 ∷ []) ∷ [];
  runs = record { once = refl; groups = groups-computed (group sharing_tree 1) ((0, 0 ∷ 9 ∷ 8 ∷ []) ∷ (4, 4 ∷ []) ∷ (3, 3 ∷ []) ∷ []) refl; around = record { front = []; back = 0 ∷ 9 ∷ 8 ∷ 4 ∷ 3 ∷ []; before = refl; after = refl } };
  order = record { front = []; back = 0 ∷ 4 ∷ 3 ∷ []; before = refl; after = refl };
}
