-- `draw B`: a drawing of a block with straight edges, in the order of its rotation system.
use Rattle.std.specs.Prelude.{◌≡◌, ℕ, List, [], ◌∷◌, slice_index}
use Rattle.grid_drawing.specs.Grid.{IsGridDrawing}
use Rattle.grid_drawing.specs.Parallel.{has_parallel, first_parallel, second_parallel}
use Rattle.spqr_script.specs.Answers.Draw.{draw_text}
use Rattle.spqr_session.specs.Trees.{BlockTree}
use Rattle.spqr_session.specs.Setting.{Setting}
use Rattle.spqr_session.specs.State.{Embedding, State}
use Rattle.spqr_session.specs.Codes.{Ladder}
use Rattle.spqr_session.specs.BlockCodes.{ReadStep}
use Rattle.spqr_session.specs.declared.code.Code.TheVariants.{Parallel}

-- code 13: two edges of the block have the same ends; the numbers are the least pair of such edges, in the numbers of the whole graph
abbrev pub parallel_codes : BlockTree → Embedding → Ladder
parallel_codes tree e =
    let g = tree.part.graph in (Parallel (slice_index tree.part.edges (first_parallel g)) (slice_index tree.part.edges (second_parallel g)), has_parallel g) ∷ []

-- the answer is points for the vertices that are a drawing on the grid in the order of the present rotation system
abbrev pub IsDrawingAnswer : ℕ → BlockTree → Embedding → List ℕ → Type 0
IsDrawingAnswer b tree e text =
    (points : List (ℕ × ℕ)) × IsGridDrawing tree.part.graph e.rotation points × (text ≡ draw_text tree.part b points)

-- one step: refused by codes 1, 5 and 13; locks are not looked at
abbrev pub DrawStep : Setting → ℕ → State → List ℕ → State → Type 0
DrawStep setting b before text after = ReadStep parallel_codes (IsDrawingAnswer b) setting.trees b before text after
