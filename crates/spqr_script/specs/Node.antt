-- The lines of the nodes of a block's tree.
use Rattle.std.specs.Prelude.{ℕ, ◌<◌, List, [], ◌∷◌, ◌++◌, map, codes, decimal, slice_index, All}
use Rattle.multigraph.specs.Graph.{edge_count}
use Rattle.multigraph.specs.Part.{GraphPart}
use Rattle.pair_split.specs.Tutte.{Node, node_at}
use Rattle.pair_split.specs.declared.components.Kind.{Kind}
use Rattle.pair_split.specs.declared.components.Kind.TheVariants.{S, P, R, B}
use Rattle.pair_split.specs.declared.components.What.{What}
use Rattle.pair_split.specs.declared.components.What.TheVariants.{Real, Link}
use Rattle.pair_split.specs.declared.components.Item.{Item}
use Rattle.spqr_script.specs.Text.{spaced_numbers, line_end}

-- the letter of a kind
abbrev pub kind_word : Kind → List ℕ
kind_word S = codes "S"
kind_word P = codes "P"
kind_word R = codes "R"
kind_word B = codes "B"

-- nothing for an edge, `@NODE` for a link to that node
abbrev pub target_text : What → List ℕ
target_text (Real e) = []
target_text (Link j) = codes "@" ++ decimal j

-- `KEY:U-W` or `KEY:U-W@NODE`: key and ends in the numbers of the whole graph
abbrev pub item_text : GraphPart → Item → List ℕ
item_text part item =
    decimal (slice_index part.edges item.key) ++ codes ":" ++ decimal (slice_index part.vertices item.a) ++ codes "-" ++ decimal (slice_index part.vertices item.b) ++ target_text item.what

-- the items, each with a space before it
abbrev pub spaced_items : GraphPart → List Item → List ℕ
spaced_items part [] = []
spaced_items part (item ∷ items) = codes " " ++ item_text part item ++ spaced_items part items

-- `node K KIND V V .. | ITEM ITEM ..`: a node, its kind, its vertices in the numbers of the whole graph, and its items
abbrev pub node_text : GraphPart → List Node → ℕ → List ℕ
node_text part nodes k =
    codes "node " ++ decimal k ++ codes " " ++ kind_word (node_at nodes k).kind ++ spaced_numbers (map (slice_index part.vertices) (node_at nodes k).vertices) ++ codes " |"
    ++ spaced_items part (node_at nodes k).items ++ line_end

-- the numbers of an item are of the part
abbrev pub IsItemOf : GraphPart → Item → Type 0
IsItemOf part item = (item.key < edge_count part.graph) × (item.a < part.graph.vertex_count) × (item.b < part.graph.vertex_count)

-- all numbers of a node are of the part
pub record IsNodeOf (part : GraphPart) (node : Node) : Type 0 where
  pub vertices : All (λ v. v < part.graph.vertex_count) node.vertices
  pub items : All (IsItemOf part) node.items
