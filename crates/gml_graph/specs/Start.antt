-- The start that a file gives: at each node a text with the numbers of the edges there, in order.
use Rattle.std.specs.Prelude.{ℕ, ◌^◌, not, ◌==◌, if◌then◌else◌, bytes_eq, codes, List, [], ◌∷◌, length, slice_index_or, Option, Some, None, option_map, Result, Ok, Err}
use Rattle.std.specs.List.{filter, slice_split}
use Rattle.decimals.specs.Number.{number_below}
use Rattle.multigraph.specs.Graph.{Multigraph, incident_edges}
use Rattle.gml_text.specs.Bytes.{is_white}
use Rattle.gml_text.specs.Document.{Document, empty, number, string, list}
use Rattle.gml_graph.specs.Arranged.{is_arrangement}
use Rattle.gml_graph.specs.Each.{each_below}
use Rattle.gml_graph.specs.Named.{NamedGraph}
use Rattle.gml_graph.specs.declared.fault.GraphFault.{GraphFault}
use Rattle.gml_graph.specs.declared.fault.GraphFault.TheVariants.{StartVertex}

-- the key of the text of a node
abbrev pub start_key : List ℕ
start_key = codes "spqrRotation"

-- the text of the first pair under a key, where its value is a string
abbrev pub start_text : List ℕ → Document → Option (List ℕ)
start_text key empty = None
start_text key (number k text rest) = (if bytes_eq k key then None else start_text key rest)
start_text key (string k text rest) = (if bytes_eq k key then Some text else start_text key rest)
start_text key (list k inner rest) = (if bytes_eq k key then None else start_text key rest)

-- the words of a text, between whitespace
abbrev pub words : List ℕ → List (List ℕ)
words text = filter (λ word. not (length word == 0)) (slice_split is_white text)

-- a first value and others, where all are there
abbrev pub with_first : {A : Type 0} → Option A → Option (List A) → Option (List A)
with_first None others = None
with_first (Some x) others = option_map (λ xs. x ∷ xs) others

-- the numbers that words spell, where each is one or more digits of a number below 2^32
abbrev pub numbers_of : List (List ℕ) → Option (List ℕ)
numbers_of [] = Some []
numbers_of (word ∷ others) = with_first (number_below (2 ^ 32) word) (numbers_of others)

-- the numbers that the words of a text spell
abbrev pub spelled_numbers : List ℕ → Option (List ℕ)
spelled_numbers text = numbers_of (words text)

-- the list of vertex v, where there are numbers and they are a permutation of the edges at v
abbrev pub arranged_list : Multigraph → ℕ → Option (List ℕ) → Result (List ℕ) GraphFault
arranged_list g v None = Err (StartVertex v)
arranged_list g v (Some numbers) = (if is_arrangement (incident_edges g v) numbers then Ok numbers else Err (StartVertex v))

-- the list of vertex v by its text
abbrev pub list_by : Multigraph → ℕ → List ℕ → Result (List ℕ) GraphFault
list_by g v text = arranged_list g v (spelled_numbers text)

-- the texts of nodes, where each has one
abbrev pub texts_of : List Document → Option (List (List ℕ))
texts_of [] = Some []
texts_of (node ∷ nodes) = with_first (start_text start_key node) (texts_of nodes)

-- the same, where there is a node
abbrev pub start_texts : List Document → Option (List (List ℕ))
start_texts [] = None
start_texts (node ∷ nodes) = texts_of (node ∷ nodes)

-- the lists of vertices by their texts, or the refusal of the least vertex that has none
abbrev pub lists_by : Multigraph → List (List ℕ) → Result (List (List ℕ)) GraphFault
lists_by g texts = each_below (length texts) (λ v. list_by g v (slice_index_or texts v []))

-- some lists as a start
abbrev pub as_start : Result (List (List ℕ)) GraphFault → Result (Option (List (List ℕ))) GraphFault
as_start (Err e) = Err e
as_start (Ok lists) = Ok (Some lists)

-- the start that texts give, where there are texts
abbrev pub start_by : Multigraph → Option (List (List ℕ)) → Result (Option (List (List ℕ))) GraphFault
start_by g None = Ok None
start_by g (Some texts) = as_start (lists_by g texts)

-- a graph with this start
abbrev pub put_start : NamedGraph → Result (Option (List (List ℕ))) GraphFault → Result NamedGraph GraphFault
put_start named (Err e) = Err e
put_start named (Ok start) = Ok (record { graph = named.graph; ids = named.ids; start = start })

-- a graph with the start that its nodes give
abbrev pub with_start : List Document → Result NamedGraph GraphFault → Result NamedGraph GraphFault
with_start nodes (Err e) = Err e
with_start nodes (Ok named) = put_start named (start_by named.graph (start_texts nodes))
