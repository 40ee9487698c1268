use Rattle.std.proofs.Common.{◌≡◌, ◌≢◌, ◌<◌, ℕ, length, take}
use Rattle.pair_split.specs.Split.{component_at}
use Rattle.spqr_tree.specs.Merging.{group_of}
use Rattle.spqr_tree.specs.Ranking.{value_at, rank_at, ranks_of, in_order}
use Rattle.spqr_tree.proofs.naming.place_groups.Given as goal

-- the groups so far are in their order, and the others are left
abbrev pub invariant-loop-i : goal.invariant-loop-i
invariant-loop-i l = (l.all.items ≡ in_order (λ x. value_at l.places (group_of l.lead x)) l.fn.groups.items (take l.i (ranks_of l.ranked)))
    × (length l.left.items ≡ length l.fn.groups.items)
    × ((k : ℕ) → ((j : ℕ) → j < l.i → (rank_at (ranks_of l.ranked) j).1 ≢ k) → component_at l.left.items k ≡ component_at l.fn.groups.items k)
