-- The head of the report: the graph, its vertices, cut vertices and blocks, and the tree of each block.
use Rattle.std.specs.Prelude.{ℕ, ◌+◌, List, [], ◌∷◌, ◌++◌, length, map, Option, None, Some}
use Rattle.std.specs.List.{concat}
use Rattle.multigraph.specs.Graph.{edge_count, numbers_below}
use Rattle.multigraph.specs.Part.{GraphPart}
use Rattle.kuratowski.specs.declared.subdivision.Subdivision.{Subdivision}
use Rattle.pair_split.specs.Tutte.{Node}
use Rattle.spqr_script.specs.Head.{graph_text, vertex_text, cut_text, block_text, planar_text}
use Rattle.spqr_script.specs.Nonplanar.{nonplanar_text}
use Rattle.spqr_script.specs.Node.{node_text}
use Rattle.spqr_session.specs.Trees.{BlockTree, tree_at}
use Rattle.spqr_session.specs.Certificates.{certificate_at}
use Rattle.spqr_session.specs.Setting.{Setting}

-- a line for each of these things and its number, the first of them number n
abbrev pub numbered : {X : Type 0} → (ℕ → X → List ℕ) → ℕ → List X → List ℕ
numbered line n [] = []
numbered line n (x ∷ xs) = line n x ++ numbered line (n + 1) xs

-- the lines of the tree of a part: one for each node, in increasing order
abbrev pub nodes_text : GraphPart → List Node → List ℕ
nodes_text part nodes = concat (map (node_text part nodes) (numbers_below (length nodes)))

-- the line of a planar block, or those of the certificate of one that is not
abbrev pub planarity_text : ℕ → GraphPart → Option Subdivision → List ℕ
planarity_text b part None = planar_text b
planarity_text b part (Some s) = nonplanar_text part b s.kind s.branch s.paths

-- the line of block b, followed by those of its tree, and whether it is planar
abbrev pub block_lines : List BlockTree → List (Option Subdivision) → ℕ → List ℕ → List ℕ
block_lines trees certificates b edges =
    block_text b edges ++ nodes_text (tree_at trees b).part (tree_at trees b).nodes ++ planarity_text b (tree_at trees b).part (certificate_at certificates b)

-- the head: the line of the graph, then a line for each vertex, for each cut vertex and for each block with the nodes of its
-- tree in increasing order, and whether the block is planar
abbrev pub head_text : Setting → List ℕ
head_text setting =
    graph_text setting.named.graph.vertex_count (edge_count setting.named.graph) ++ numbered vertex_text 0 setting.named.ids
    ++ concat (map cut_text setting.structure.cut_vertices) ++ numbered (block_lines setting.trees setting.certificates) 0 setting.structure.blocks
