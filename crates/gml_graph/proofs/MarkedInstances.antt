-- The definitions of marked documents, computed on small documents.
use Rattle.std.specs.Prelude.{◌≡◌, ℕ, pos, List, [], ◌∷◌, Some, None, Ok, codes, refl}
use Rattle.gml_text.specs.Document.{Document, empty, number, string, list}
use Rattle.gml_graph.specs.Answer.{graph_of_document}
use Rattle.gml_graph.specs.Start.{start_key, start_text}
use Rattle.gml_graph.specs.Marked.{put_first, mark_nodes, marked}

-- a node with this id and these pairs after it
abbrev node : List ℕ → Document → Document → Document
node id more rest = list (codes "node") (number (codes "id") id more) rest

-- only the first pair is replaced, whatever its value is, and where it is
first_only : put_first start_key (codes "0 1") (number start_key (codes "5") (number (codes "id") (codes "7") (string start_key (codes "x") empty))) ≡ string start_key (codes "0 1") (number (codes "id") (codes "7") (string start_key (codes "x") empty))
first_only = refl

list_replaced : put_first start_key [] (number (codes "id") (codes "7") (list start_key (number start_key (codes "1") empty) empty)) ≡ number (codes "id") (codes "7") (string start_key [] empty)
list_replaced = refl

-- else a pair comes after the others; a list with the key in it is none
added : put_first start_key (codes "0") (number (codes "id") (codes "7") (list (codes "graphics") (string start_key (codes "x") empty) empty)) ≡ number (codes "id") (codes "7") (list (codes "graphics") (string start_key (codes "x") empty) (string start_key (codes "0") empty))
added = refl

-- a number under the key hides a string after it
hidden : start_text start_key (number start_key (codes "5") (string start_key (codes "0") empty)) ≡ None
hidden = refl

-- texts go to the lists under `node` in order; nodes without a text and all else stay
in_order : mark_nodes (codes "0" ∷ codes "1" ∷ []) (node (codes "7") empty (number (codes "node") (codes "5") (list (codes "edge") empty (node (codes "8") empty (node (codes "9") empty empty))))) ≡ node (codes "7") (string start_key (codes "0") empty) (number (codes "node") (codes "5") (list (codes "edge") empty (node (codes "8") (string start_key (codes "1") empty) (node (codes "9") empty empty))))
in_order = refl

-- two vertices with an edge, marked and read
abbrev edge : Document
edge = list (codes "graph") (node (codes "7") empty (node (codes "8") empty (list (codes "edge") (number (codes "source") (codes "7") (number (codes "target") (codes "8") empty)) empty))) empty

read_back : graph_of_document (marked (codes "0" ∷ codes "0" ∷ []) edge) ≡ Ok (record { graph = record { vertex_count = 2; ends = (0, 1) ∷ [] }; ids = pos 7 ∷ pos 8 ∷ []; start = Some ((0 ∷ []) ∷ (0 ∷ []) ∷ []) })
read_back = refl

-- with a text for the first node alone there is no start
one_text : graph_of_document (marked (codes "0" ∷ []) edge) ≡ Ok (record { graph = record { vertex_count = 2; ends = (0, 1) ∷ [] }; ids = pos 7 ∷ pos 8 ∷ []; start = None })
one_text = refl
