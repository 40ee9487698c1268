-- The summary of a block that has a node with choices: its numbers, those of its tree, how many plane rotation systems it has, and
-- the choice of the least such node at the first and at the last of them.
use Rattle.std.specs.Prelude.{◌≡◌, ℕ, ◌+◌, List, [], ◌++◌, codes, length, slice_index_or}
use Rattle.multigraph.specs.Graph.{Multigraph, edge_count}
use Rattle.pair_split.specs.Tutte.{Node, IsTutte}
use Rattle.skeletons.specs.Choices.{choice}
use Rattle.skeletons.specs.Lists.{IsFullList}
use Rattle.made_summary.specs.Text.{made_line, nodes_line, count_line, choice_line}
use Rattle.made_summary.specs.Kinds.{nodes_of, IsLeastWithChoices}
use Rattle.pair_split.specs.Kinds.{is_polygon, is_bond, is_rigid}

-- the text, by the graph, its tree, the list of its plane rotation systems, the place of the last of these and a node
abbrev pub summary_text : Multigraph → List Node → List (List (List ℕ)) → ℕ → ℕ → List ℕ
summary_text g nodes list last k =
    made_line g.vertex_count (edge_count g) ++ nodes_line (nodes_of is_polygon nodes) (nodes_of is_bond nodes) (nodes_of is_rigid nodes) ++ count_line (length list)
    ++ choice_line (codes "first ") k (choice nodes (slice_index_or list 0 []) k) ++ choice_line (codes "last ") k (choice nodes (slice_index_or list last []) k)

-- the text is the summary of the graph
pub record IsSummary (g : Multigraph) (text : List ℕ) : Type 0 where
  pub tree : List Node
  pub is_tree : IsTutte g tree
  pub list : List (List (List ℕ))
  pub is_list : IsFullList g tree list
  pub last : ℕ
  pub is_last : length list ≡ last + 1
  pub node : ℕ
  pub is_least : IsLeastWithChoices tree node
  pub is_text : text ≡ summary_text g tree list last node
