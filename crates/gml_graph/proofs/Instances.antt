-- The definitions, computed on small documents.
use Rattle.std.specs.Prelude.{◌≡◌, ℕ, pos, negsuc, List, [], ◌∷◌, Some, None, Ok, Err, codes, refl}
use Rattle.gml_text.specs.Document.{Document, empty, number, string, list}
use Rattle.gml_graph.specs.Number.{whole_number}
use Rattle.gml_graph.specs.Start.{spelled_numbers}
use Rattle.gml_graph.specs.Answer.{graph_of_document}
use Rattle.gml_graph.specs.declared.fault.GraphFault.TheVariants.{NoGraph, MoreGraphs, NodeNoId, NodeBadId, SameId, EdgeNoEnd, EdgeBadEnd, UnknownEnd, Loop, StartVertex}

-- a node with this id, and an edge between two ids
abbrev node : List ℕ → Document → Document
node id rest = list (codes "node") (number (codes "id") id empty) rest

abbrev edge : List ℕ → List ℕ → Document → Document
edge source target rest = list (codes "edge") (number (codes "source") source (number (codes "target") target empty)) rest

-- a document with one graph list
abbrev graph : Document → Document
graph inner = list (codes "graph") inner empty

abbrev three : Document → Document
three edges = node (codes "0") (node (codes "1") (node (codes "2") edges))

loop : graph_of_document (graph (three (edge (codes "0") (codes "1") (edge (codes "1") (codes "2") (edge (codes "2") (codes "2") empty))))) ≡ Err (Loop 2)
loop = refl

path : graph_of_document (graph (edge (codes "0") (codes "1") (three (edge (codes "1") (codes "2") empty)))) ≡ Ok (record { graph = record { vertex_count = 3; ends = (0, 1) ∷ (1, 2) ∷ [] }; ids = pos 0 ∷ pos 1 ∷ pos 2 ∷ []; start = None })
path = refl

no_id : graph_of_document (graph (list (codes "node") (string (codes "label") (codes "a") empty) empty)) ≡ Err (NodeNoId 0)
no_id = refl

same_id : graph_of_document (graph (node (codes "3") (node (codes "3") empty))) ≡ Err (SameId 1)
same_id = refl

no_graph : graph_of_document (number (codes "a") (codes "1") empty) ≡ Err NoGraph
no_graph = refl

more_graphs : graph_of_document (list (codes "graph") empty (graph empty)) ≡ Err MoreGraphs
more_graphs = refl

no_list : graph_of_document (number (codes "graph") (codes "1") (graph empty)) ≡ Ok (record { graph = record { vertex_count = 0; ends = [] }; ids = []; start = None })
no_list = refl

least : whole_number (codes "-9223372036854775808") ≡ Some (negsuc 9223372036854775807)
least = refl

below_least : whole_number (codes "-9223372036854775809") ≡ None
below_least = refl

most : whole_number (codes "+009223372036854775807") ≡ Some (pos 9223372036854775807)
most = refl

above_most : whole_number (codes "9223372036854775808") ≡ None
above_most = refl

no_sign_only : whole_number (codes "-") ≡ None
no_sign_only = refl

no_real : whole_number (codes "7.") ≡ None
no_real = refl

minus_zero : whole_number (codes "-0") ≡ whole_number (codes "0")
minus_zero = refl

same_as_written_otherwise : graph_of_document (graph (node (codes "7") (node (codes "+007") empty))) ≡ Err (SameId 1)
same_as_written_otherwise = refl

bad_id : graph_of_document (graph (node (codes "7") (node (codes "7.0") empty))) ≡ Err (NodeBadId 1)
bad_id = refl

bad_end : graph_of_document (graph (three (list (codes "edge") (string (codes "source") (codes "0") (number (codes "target") (codes "1") empty)) empty))) ≡ Err (EdgeBadEnd 0)
bad_end = refl

first_id_counts : graph_of_document (graph (list (codes "node") (number (codes "id") (codes "7") (number (codes "id") (codes "8") empty)) empty)) ≡ Ok (record { graph = record { vertex_count = 1; ends = [] }; ids = pos 7 ∷ []; start = None })
first_id_counts = refl

edge_by_edge : graph_of_document (graph (three (edge (codes "0") (codes "9") (list (codes "edge") empty empty)))) ≡ Err (UnknownEnd 0)
edge_by_edge = refl

no_end : graph_of_document (graph (three (list (codes "edge") (string (codes "source") (codes "0") empty) empty))) ≡ Err (EdgeNoEnd 0)
no_end = refl

-- the file of many kinds: a comment is no pair, other keys pass on unread
many_kinds : Document
many_kinds =
    string (codes "Creator") (codes "yFiles")
    (graph
    (number (codes "directed") (codes "1")
    (list (codes "node")
    (number (codes "id") (codes "7")
    (string (codes "label") (codes "b")
    (list (codes "graphics") (number (codes "x") (codes "1.5E+3") (number (codes "y") (codes "-INF") empty)) empty)))
    (node (codes "-2")
    (list (codes "edge")
    (number (codes "source") (codes "7") (number (codes "target") (codes "-2") (number (codes "w_2") (codes ".5") empty)))
    empty)))))

many_kinds-graph : graph_of_document many_kinds ≡ Ok (record { graph = record { vertex_count = 2; ends = (0, 1) ∷ [] }; ids = pos 7 ∷ negsuc 1 ∷ []; start = None })
unfolding many_kinds
many_kinds-graph = refl

-- ---- starts

-- numbers with whitespace between them, and at either side
abbrev white : List ℕ
white = 9 ∷ 10 ∷ 48 ∷ 49 ∷ 11 ∷ 12 ∷ 13 ∷ 50 ∷ 32 ∷ 32 ∷ 51 ∷ 32 ∷ []

six_kinds : spelled_numbers white ≡ Some (1 ∷ 2 ∷ 3 ∷ [])
six_kinds = refl

no_word : spelled_numbers (codes "  ") ≡ Some []
no_word = refl

no_byte : spelled_numbers [] ≡ Some []
no_byte = refl

most_number : spelled_numbers (codes "004294967295 0") ≡ Some (4294967295 ∷ 0 ∷ [])
most_number = refl

past_numbers : spelled_numbers (codes "0 4294967296") ≡ None
past_numbers = refl

signed_number : spelled_numbers (codes "+1") ≡ None
signed_number = refl

no_comma : spelled_numbers (codes "0,1") ≡ None
no_comma = refl

-- a node with a text
abbrev turned : List ℕ → List ℕ → Document → Document
turned id text rest = list (codes "node") (number (codes "id") id (string (codes "spqrRotation") text empty)) rest

-- three nodes with texts, two edges between the first two and one from the second to the third
abbrev texts : List ℕ → List ℕ → List ℕ → Document
texts a b c = graph (turned (codes "0") a (turned (codes "1") b (turned (codes "2") c
    (edge (codes "0") (codes "1") (edge (codes "1") (codes "0") (edge (codes "1") (codes "2") empty))))))

started : graph_of_document (texts (codes "1 0") (codes "2 00 1") (codes " 2")) ≡ Ok (record {
  graph = record { vertex_count = 3; ends = (0, 1) ∷ (1, 0) ∷ (1, 2) ∷ [] };
  ids = pos 0 ∷ pos 1 ∷ pos 2 ∷ [];
  start = Some ((1 ∷ 0 ∷ []) ∷ (2 ∷ 0 ∷ 1 ∷ []) ∷ (2 ∷ []) ∷ []);
})
started = refl

first_vertex_counts : graph_of_document (texts (codes "1 0") (codes "2 0 0") (codes "a")) ≡ Err (StartVertex 1)
first_vertex_counts = refl

edge_elsewhere : graph_of_document (texts (codes "1 0") (codes "2 0 1") (codes "0")) ≡ Err (StartVertex 2)
edge_elsewhere = refl

too_few : graph_of_document (texts (codes "1") (codes "2 0 1") (codes "2")) ≡ Err (StartVertex 0)
too_few = refl

-- one node without a text: the others are not read
not_all : graph_of_document (graph (turned (codes "0") (codes "bad") (node (codes "1") empty))) ≡ Ok (record { graph = record { vertex_count = 2; ends = [] }; ids = pos 0 ∷ pos 1 ∷ []; start = None })
not_all = refl

-- a number under the first key: the string after it does not count
number_first : graph_of_document (graph (list (codes "node") (number (codes "id") (codes "0") (number (codes "spqrRotation") (codes "0") (string (codes "spqrRotation") (codes "0") empty))) empty)) ≡ Ok (record { graph = record { vertex_count = 1; ends = [] }; ids = pos 0 ∷ []; start = None })
number_first = refl

isolated : graph_of_document (graph (turned (codes "0") [] empty)) ≡ Ok (record { graph = record { vertex_count = 1; ends = [] }; ids = pos 0 ∷ []; start = Some ([] ∷ []) })
isolated = refl

loop_first : graph_of_document (graph (turned (codes "0") (codes "1") (edge (codes "0") (codes "0") empty))) ≡ Err (Loop 0)
loop_first = refl
