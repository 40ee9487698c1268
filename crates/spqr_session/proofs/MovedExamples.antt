-- What moves make of rotation systems, computed on three parallel edges and on two complete graphs that share an edge.
use Rattle.std.proofs.Common.{◌≡◌, ℕ, true, false, List, [], ◌∷◌, None, Some, refl}
use Rattle.pair_split.specs.Tutte.{Node, group}
use Rattle.pair_split.specs.declared.components.Kind.TheVariants.{P}
use Rattle.pair_split.specs.declared.components.What.TheVariants.{Real}
use Rattle.skeletons.specs.Moves.{flip, permute, moves_between}
use Rattle.skeletons.proofs.Rows.{item, node, sharing_tree, sharing_first, sharing_flipped, sharing_permuted, sharing_last}
use Rattle.spqr_session.specs.Moved.{group_round, in_groups, moved, all_moved}
use Rattle.spqr_session.specs.History.{entry_moved, entry_locked, walk}

-- three edges between two vertices
abbrev three_tree : List Node
three_tree = node P (0 ∷ 1 ∷ []) (item 0 0 1 (Real 0) ∷ item 1 0 1 (Real 1) ∷ item 2 0 1 (Real 2) ∷ []) ∷ []

abbrev three_first : List (List ℕ)
three_first = (0 ∷ 1 ∷ 2 ∷ []) ∷ (0 ∷ 2 ∷ 1 ∷ []) ∷ []

three-permuted : moved three_tree (permute 0 (1 ∷ 0 ∷ 2 ∷ [])) three_first ≡ (0 ∷ 2 ∷ 1 ∷ []) ∷ (0 ∷ 1 ∷ 2 ∷ []) ∷ []
unfolding moved
three-permuted = refl

-- a group that stands round the seam of the list, and the groups in another order
seam : group_round (group sharing_tree 1) (0 ∷ 1 ∷ 2 ∷ 6 ∷ 7 ∷ []) 0 ≡ 6 ∷ 7 ∷ 0 ∷ []
seam = refl

regrouped : in_groups (group sharing_tree 1) (0 ∷ 1 ∷ 2 ∷ 6 ∷ 7 ∷ []) (0 ∷ 2 ∷ 1 ∷ []) ≡ 6 ∷ 7 ∷ 0 ∷ 2 ∷ 1 ∷ []
regrouped = refl

-- a triconnected node flipped, and flipped back; the bond permuted
sharing-flip : moved sharing_tree (flip 1) sharing_first ≡ (0 ∷ 2 ∷ 1 ∷ 6 ∷ 7 ∷ []) ∷ (0 ∷ 9 ∷ 8 ∷ 3 ∷ 4 ∷ []) ∷ (1 ∷ 5 ∷ 3 ∷ []) ∷ (2 ∷ 4 ∷ 5 ∷ []) ∷ (6 ∷ 8 ∷ 10 ∷ []) ∷ (7 ∷ 10 ∷ 9 ∷ []) ∷ []
unfolding moved
sharing-flip = refl

sharing-flip_back : all_moved sharing_tree (flip 1 ∷ flip 1 ∷ []) sharing_first ≡ sharing_first
unfolding moved
sharing-flip_back = refl

sharing-permute : moved sharing_tree (permute 0 (0 ∷ 6 ∷ 1 ∷ [])) sharing_first ≡ sharing_permuted
unfolding moved
sharing-permute = refl

-- all moves from the first rotation system to the last, its mirror image, and back
sharing-forth : all_moved sharing_tree (moves_between sharing_tree sharing_first sharing_last) sharing_first ≡ sharing_last
unfolding moved
sharing-forth = refl

sharing-back : all_moved sharing_tree (moves_between sharing_tree sharing_last sharing_first) sharing_last ≡ sharing_first
unfolding moved
sharing-back = refl

-- what becomes of an embedding: moves leave the locks, a lock leaves the rotation system; one that is none stays so
entry-flip : entry_moved sharing_tree (flip 1 ∷ []) (Some (record { rotation = sharing_first; locks = true ∷ false ∷ false ∷ [] })) ≡ Some (record { rotation = sharing_flipped; locks = true ∷ false ∷ false ∷ [] })
unfolding moved
entry-flip = refl

entry-lock : entry_locked 2 true (Some (record { rotation = sharing_first; locks = true ∷ false ∷ false ∷ [] })) ≡ Some (record { rotation = sharing_first; locks = true ∷ false ∷ true ∷ [] })
entry-lock = refl

entry-none : entry_moved sharing_tree (flip 1 ∷ []) None ≡ None
entry-none = refl

-- families passed along two changes, the nearest first
walked : walk (λ (b : ℕ) (l : List ℕ). b ∷ l) [] (3 ∷ 4 ∷ []) ≡ (3 ∷ []) ∷ (4 ∷ 3 ∷ []) ∷ []
walked = refl
