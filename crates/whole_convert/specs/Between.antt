-- The moves that lead a component from one plane rotation system to another: those of its blocks, then other arrangements at its cut
-- vertices.
use Rattle.std.specs.Prelude.{ℕ, zero, suc, Bool, nat_lt, if◌then◌else◌, List, [], ◌∷◌, ◌++◌, length, map, slice_index, slice_index_or}
use Rattle.std.specs.List.{list_any}
use Rattle.permutations.specs.Members.{is_member}
use Rattle.arrangements.specs.Arranged.{same_list}
use Rattle.skeletons.specs.Moves as theory
use Rattle.skel_embed.specs.Values.{as_move}
use Rattle.whole_embed.specs.Component.{Component, BlockInPlane}
use Rattle.whole_embed.specs.Around.{outer_at, edges_around, block_with}
use Rattle.whole_embed.specs.Whole.{block_part}
use Rattle.whole_embed.specs.Walk.{first_around}
use Rattle.whole_convert.specs.declared.steps.WholeMove.{WholeMove}
use Rattle.whole_convert.specs.declared.steps.WholeMove.TheVariants.{Block, Regroup}

-- a move of block b, or these edges as the arrangement at cut vertex v
pub data WholeStep : Type 0 where
  move_block : (b : ℕ) (move : theory.Move) → WholeStep
  arrange : (v : ℕ) (edges : List ℕ) → WholeStep

-- the step that a value means
abbrev pub as_step : WholeMove → WholeStep
as_step (Block b move) = move_block b (as_move move)
as_step (Regroup v edges) = arrange v edges

-- those of a list
abbrev pub as_steps : List WholeMove → List WholeStep
as_steps moves = map as_step moves

-- the moves from the old rotation system of block b to its new one, in order of its nodes
abbrev pub moves_of : (ℕ → BlockInPlane) → (ℕ → BlockInPlane) → ℕ → List theory.Move
moves_of old new b = theory.moves_between (old b).nodes (old b).rotation (new b).rotation

-- those of the first n blocks of the component, in order of the blocks
abbrev pub moves_below : Component → (ℕ → BlockInPlane) → (ℕ → BlockInPlane) → ℕ → List WholeStep
moves_below k old new zero = []
moves_below k old new (suc n) = moves_below k old new n ++ map (move_block (slice_index k.blocks n)) (moves_of old new (slice_index k.blocks n))

-- whether block b is moved
abbrev pub is_moved : (ℕ → BlockInPlane) → (ℕ → BlockInPlane) → ℕ → Bool
is_moved old new b = nat_lt 0 (length (moves_of old new b))

-- whether a block with an edge at v passes the test
abbrev pub has_block_at : Component → (ℕ → Bool) → ℕ → Bool
has_block_at k test v = list_any (λ e. test (block_with k e)) (edges_around k v)

-- the list at the cut vertex at place i after the blocks that pass the test were moved: the first arrangement if there is one of them
-- around it, else the list as before
abbrev pub list_then : Component → (ℕ → BlockInPlane) → (ℕ → Bool) → List (List ℕ) → ℕ → List ℕ
list_then k new test lists i = (if has_block_at k test (slice_index k.cuts i) then first_around k new i else slice_index_or lists i [])

-- the arrangement that q has at the cut vertex at place i, if it is another one than the list there
abbrev pub arrangement_at : Component → (ℕ → List ℕ) → List (List ℕ) → ℕ → List WholeStep
arrangement_at k list q i = (if same_list (outer_at k.part q (slice_index k.cuts i)) (list i) then [] else arrange (slice_index k.cuts i) (outer_at k.part q (slice_index k.cuts i)) ∷ [])

-- those at the first n cut vertices, in order
abbrev pub arrangements_below : Component → (ℕ → List ℕ) → List (List ℕ) → ℕ → List WholeStep
arrangements_below k list q zero = []
arrangements_below k list q (suc n) = arrangements_below k list q n ++ arrangement_at k list q n

-- the blocks of the component with their parts of q, and all others as they are
abbrev pub blocks_to : Component → (ℕ → BlockInPlane) → List (List ℕ) → ℕ → BlockInPlane
blocks_to k block q b = (if is_member b k.blocks then record { part = (block b).part; nodes = (block b).nodes; rotation = block_part k (block b).part q; locks = (block b).locks } else block b)

-- the moves to q: the moves of each block to its part, then for each cut vertex whose list is then another one, its arrangement
abbrev pub whole_moves_between : Component → (ℕ → BlockInPlane) → List (List ℕ) → List (List ℕ) → List WholeStep
whole_moves_between k block lists q =
    moves_below k block (blocks_to k block q) (length k.blocks)
    ++ arrangements_below k (list_then k (blocks_to k block q) (is_moved block (blocks_to k block q)) lists) q (length k.cuts)
