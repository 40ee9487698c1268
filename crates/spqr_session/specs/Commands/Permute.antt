-- `permute B K KEYS`: the groups of a bond of a block are put in the order of keys.
use Rattle.std.specs.Prelude.{◌≡◌, ℕ, ◌==◌, not, List, ◌∷◌, length, map, slice_index, Option}
use Rattle.permutations.specs.Count.{least}
use Rattle.gml_graph.specs.Arranged.{is_arrangement}
use Rattle.skeletons.specs.Items.{node_keys}
use Rattle.skeletons.specs.Moves.{permute, MoveLeads}
use Rattle.spqr_session.specs.Trees.{BlockTree, tree_at}
use Rattle.spqr_session.specs.Setting.{Setting}
use Rattle.spqr_session.specs.State.{Embedding, State, entry_at}
use Rattle.spqr_session.specs.Codes.{Ladder}
use Rattle.spqr_session.specs.BlockCodes.{is_block, is_node, kind_of, is_planar, of_entry, lock_codes, Silently, ChangeStep}
use Rattle.pair_split.specs.Kinds.{is_bond}
use Rattle.spqr_session.specs.declared.code.Code.TheVariants.{NoBlock, NoNode, WrongKind, BadOrder, NonPlanar}

-- numbers of edges of the block as those of the whole graph
abbrev pub outer_edges : BlockTree → List ℕ → List ℕ
outer_edges tree edges = map (slice_index tree.part.edges) edges

-- codes 2 and 3; 4: the keys are no permutation of the node's keys; 5 and 12
abbrev pub permute_codes : ℕ → List ℕ → BlockTree → Option Embedding → Ladder
permute_codes k keys tree entry =
    (NoNode, not (is_node tree k)) ∷ (WrongKind, not (is_bond (kind_of tree k))) ∷ (BadOrder, not (is_arrangement (outer_edges tree (node_keys tree.nodes k)) keys))
    ∷ (NonPlanar, not (is_planar entry)) ∷ of_entry (lock_codes k) entry

-- code 1, and these
abbrev pub permute_ladder : List BlockTree → ℕ → ℕ → List ℕ → State → Ladder
permute_ladder trees b k keys s = (NoBlock, not (is_block trees b)) ∷ permute_codes k keys (tree_at trees b) (entry_at s.present b)

-- numbers of edges of the whole graph as those of the block
abbrev pub inner_edges : BlockTree → List ℕ → List ℕ
inner_edges tree edges = map (λ e. least (length tree.part.edges) (λ i. slice_index tree.part.edges i == e)) edges

-- the groups are put in the order of the keys, which are given in the numbers of the whole graph; locks stay
pub record IsPermuted (k : ℕ) (keys : List ℕ) (tree : BlockTree) (old new : Embedding) : Type 0 where
  pub leads : MoveLeads tree.part.graph tree.nodes (permute k (inner_edges tree keys)) old.rotation new.rotation
  pub locks : new.locks ≡ old.locks

-- one step
abbrev pub PermuteStep : Setting → ℕ → ℕ → List ℕ → State → List ℕ → State → Type 0
PermuteStep setting b k keys before text after = ChangeStep (permute_ladder setting.trees b k keys before) (Silently (IsPermuted k keys)) setting b before text after
