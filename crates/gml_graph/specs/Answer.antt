-- The graph of a document, or the first refusal.
use Rattle.std.specs.Prelude.{◌≡◌, ℕ, ℤ, nat_lt, ◌==◌, if◌then◌else◌, List, [], ◌∷◌, ◌++◌, length, take, position, slice_index_or, Option, Some, None, Result, Ok, Err, MatchResult, codes}
use Rattle.std.specs.Ordering.{int_eq}
use Rattle.std.specs.List.{list_any}
use Rattle.multigraph.specs.Graph.{IsGraph, IsWithinLimits, max_vertices, max_edges}
use Rattle.gml_text.specs.Document.{Document, empty}
use Rattle.gml_graph.specs.Named.{NamedGraph, IsNamed}
use Rattle.gml_graph.specs.Lists.{lists_under, first_under}
use Rattle.gml_graph.specs.Start.{with_start}
pub use Rattle.gml_graph.specs.Each.{and_one_more, each_below}
use Rattle.gml_graph.specs.declared.integers.Reading.{Reading}
use Rattle.gml_graph.specs.declared.integers.Reading.TheVariants.{Missing, NotWhole, Whole}
use Rattle.gml_graph.specs.declared.fault.GraphFault.{GraphFault}
use Rattle.gml_graph.specs.declared.fault.GraphFault.TheVariants.{NoGraph, MoreGraphs, TooManyVertices, TooManyEdges, NodeNoId, NodeBadId, SameId, EdgeNoEnd, EdgeBadEnd, UnknownEnd, Loop, Memory}

-- the id that a list gives, if it gives one
abbrev pub said_by : Reading → List ℤ
said_by Missing = []
said_by NotWhole = []
said_by (Whole id) = id ∷ []

-- the ids that lists give, in order
abbrev pub said_ids : List Document → List ℤ
said_ids [] = []
said_ids (node ∷ nodes) = said_by (first_under (codes "id") node) ++ said_ids nodes

-- the id of node k by what its list gives, where the earlier nodes have these ids
abbrev pub id_among : List ℤ → ℕ → Reading → Result ℤ GraphFault
id_among ids k Missing = Err (NodeNoId k)
id_among ids k NotWhole = Err (NodeBadId k)
id_among ids k (Whole id) = (if list_any (int_eq id) ids then Err (SameId k) else Ok id)

-- the id of node k
abbrev pub node_id : List Document → ℕ → Result ℤ GraphFault
node_id nodes k = id_among (said_ids (take k nodes)) k (first_under (codes "id") (slice_index_or nodes k empty))

-- the ids of the nodes
abbrev pub node_ids : List Document → Result (List ℤ) GraphFault
node_ids nodes = each_below (length nodes) (node_id nodes)

-- the ends of edge k, where its source and its target are nodes, and not the same one
abbrev pub ends_between : ℕ → Option ℕ → Option ℕ → Result (ℕ × ℕ) GraphFault
ends_between k None target = Err (UnknownEnd k)
ends_between k (Some v) None = Err (UnknownEnd k)
ends_between k (Some v) (Some w) = (if v == w then Err (Loop k) else Ok (v, w))

-- the ends that edge k has by what its list gives for its source and its target
abbrev pub ends_among : List ℤ → ℕ → Reading → Reading → Result (ℕ × ℕ) GraphFault
ends_among ids k Missing target = Err (EdgeNoEnd k)
ends_among ids k NotWhole Missing = Err (EdgeNoEnd k)
ends_among ids k (Whole s) Missing = Err (EdgeNoEnd k)
ends_among ids k NotWhole NotWhole = Err (EdgeBadEnd k)
ends_among ids k NotWhole (Whole t) = Err (EdgeBadEnd k)
ends_among ids k (Whole s) NotWhole = Err (EdgeBadEnd k)
ends_among ids k (Whole s) (Whole t) = ends_between k (position (int_eq s) ids) (position (int_eq t) ids)

-- the ends of an edge with this list
abbrev pub ends_by : List ℤ → ℕ → Document → Result (ℕ × ℕ) GraphFault
ends_by ids k edge = ends_among ids k (first_under (codes "source") edge) (first_under (codes "target") edge)

-- the ends of the edges, as vertices
abbrev pub edge_ends : List ℤ → List Document → Result (List (ℕ × ℕ)) GraphFault
edge_ends ids edges = each_below (length edges) (λ k. ends_by ids k (slice_index_or edges k empty))

-- the graph whose vertices have these ids and whose edges have these ends, without a start
abbrev pub with_ends : List ℤ → Result (List (ℕ × ℕ)) GraphFault → Result NamedGraph GraphFault
with_ends ids (Err e) = Err e
with_ends ids (Ok ends) = Ok (record { graph = record { vertex_count = length ids; ends = ends }; ids = ids; start = None })

-- the graph whose vertices have these ids and whose edges have these lists
abbrev pub with_ids : List Document → Result (List ℤ) GraphFault → Result NamedGraph GraphFault
with_ids edges (Err e) = Err e
with_ids edges (Ok ids) = with_ends ids (edge_ends ids edges)

-- the graph of these nodes and edges, with the start that the nodes give
abbrev pub graph_between : List Document → List Document → Result NamedGraph GraphFault
graph_between nodes edges =
    (if nat_lt max_vertices (length nodes) then Err (TooManyVertices (length nodes))
    else if nat_lt max_edges (length edges) then Err (TooManyEdges (length edges))
    else with_start nodes (with_ids edges (node_ids nodes)))

-- the graph of a graph list
abbrev pub graph_in : Document → Result NamedGraph GraphFault
graph_in g = graph_between (lists_under (codes "node") g) (lists_under (codes "edge") g)

-- the graph of the one graph list
abbrev pub graph_among : List Document → Result NamedGraph GraphFault
graph_among [] = Err NoGraph
graph_among (g ∷ []) = graph_in g
graph_among (g ∷ (h ∷ gs)) = Err MoreGraphs

-- the graph of a document, or the first refusal
abbrev pub graph_of_document : Document → Result NamedGraph GraphFault
graph_of_document d = graph_among (lists_under (codes "graph") d)

-- a document's graph is within the limits and without loops, each vertex has an id of its own, and the lists of a start arrange the
-- edges
abbrev pub HasSoundGraph : Document → Type 0
HasSoundGraph d = (n : NamedGraph) → graph_of_document d ≡ Ok n → IsGraph n.graph × IsWithinLimits n.graph × IsNamed n

-- a fault is the refusal that applies, or out of memory, which may happen at any
abbrev pub Refuses : {A : Type 0} → Result A GraphFault → GraphFault → Type 0
Refuses due Memory = Unit {0}
Refuses due fault = due ≡ Err fault

-- the result is the correct one: this value, or this refusal; out of memory may happen at any
abbrev pub Answers : {A B : Type 0} → Result A GraphFault → (B → A) → Result B GraphFault → Type 0
Answers due value result = MatchResult result (λ answer. due ≡ Ok (value answer)) (Refuses due)
