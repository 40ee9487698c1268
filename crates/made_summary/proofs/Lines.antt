-- The lines of a summary from the values that its calls gave.
use Rattle.std.proofs.Common.{◌≡◌, ℕ, List, [], ◌++◌, Option, codes, length, slice_index_or}
use Rattle.multigraph.specs.Graph.{Multigraph, edge_count}
use Rattle.pair_split.specs.Tutte.{Node}
use Rattle.skeletons.specs.Choices.{choice}
use Rattle.made_summary.specs.Text.{made_line, nodes_line, count_text, fitting, choice_line}
use Rattle.made_summary.specs.Kinds.{nodes_of}
use Rattle.pair_split.specs.Kinds.{is_polygon, is_bond, is_rigid}
use Rattle.made_summary.specs.Summary.{summary_text}

-- the lines of these values
pub summary-is : (g : Multigraph) (nodes : List Node) (list : List (List (List ℕ))) (last k v e s p r : ℕ) (count : Option ℕ) (first_keys last_keys : List ℕ)
    → v ≡ g.vertex_count → e ≡ edge_count g → s ≡ nodes_of is_polygon nodes → p ≡ nodes_of is_bond nodes → r ≡ nodes_of is_rigid nodes → count ≡ fitting (length list)
    → first_keys ≡ choice nodes (slice_index_or list 0 []) k → last_keys ≡ choice nodes (slice_index_or list last []) k
    → made_line v e ++ nodes_line s p r ++ count_text count ++ choice_line (codes "first ") k first_keys ++ choice_line (codes "last ") k last_keys ≡ summary_text g nodes list last k
summary-is g nodes list last k v e s p r count first_keys last_keys ev ee es ep er ec ef el i =
    made_line (ev i) (ee i) ++ nodes_line (es i) (ep i) (er i) ++ count_text (ec i) ++ choice_line (codes "first ") k (ef i) ++ choice_line (codes "last ") k (el i)
