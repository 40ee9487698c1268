-- A document in which each node carries a text under the key of starts.
use Rattle.std.specs.Prelude.{◌≡◌, ℕ, Bool, true, if◌then◌else◌, bytes_eq, List, [], ◌∷◌, ◌++◌, map, Option, Some, None, Ok, codes, decimal}
use Rattle.std.specs.List.{All, list_all}
use Rattle.decimals.specs.Text.{spaced_numbers}
use Rattle.gml_text.specs.Bytes.{is_no_quote}
use Rattle.gml_text.specs.Document.{Document, empty, number, string, list}
use Rattle.gml_text.specs.Layout.{lines}
use Rattle.gml_text.specs.Pairs.{pair_before}
use Rattle.gml_text.specs.declared.document.Pair.{Pair}
use Rattle.gml_text.specs.declared.document.Value.{Value}
use Rattle.gml_text.specs.declared.document.Value.TheVariants.{Num, Str, List as Inner}
use Rattle.gml_graph.specs.Named.{NamedGraph, ArrangeEdges}
use Rattle.gml_graph.specs.Start.{start_key}
use Rattle.gml_graph.specs.Answer.{graph_of_document}

-- the pairs with this text, as a string, in the place of the value of the first pair under a key; where there is no such pair it
-- is added after the others
abbrev pub put_first : List ℕ → List ℕ → Document → Document
put_first key text empty = string key text empty
put_first key text (number k old rest) = (if bytes_eq k key then string key text rest else number k old (put_first key text rest))
put_first key text (string k old rest) = (if bytes_eq k key then string key text rest else string k old (put_first key text rest))
put_first key text (list k inner rest) = (if bytes_eq k key then string key text rest else list k inner (put_first key text rest))

-- the first of some texts put into a node; with no text the node is as it was
abbrev pub put_next : List (List ℕ) → Document → Document
put_next [] node = node
put_next (text ∷ texts) node = put_first start_key text node

-- the texts after the first
abbrev pub later : List (List ℕ) → List (List ℕ)
later [] = []
later (text ∷ texts) = texts

-- the pairs of a graph with these texts in its nodes, in order
abbrev pub mark_nodes : List (List ℕ) → Document → Document
mark_nodes texts empty = empty
mark_nodes texts (number k text rest) = number k text (mark_nodes texts rest)
mark_nodes texts (string k text rest) = string k text (mark_nodes texts rest)
mark_nodes texts (list k inner rest) =
    (if bytes_eq k (codes "node") then list k (put_next texts inner) (mark_nodes (later texts) rest)
    else list k inner (mark_nodes texts rest))

-- the document with these texts in the nodes of its first graph
abbrev pub marked : List (List ℕ) → Document → Document
marked texts empty = empty
marked texts (number k text rest) = number k text (marked texts rest)
marked texts (string k text rest) = string k text (marked texts rest)
marked texts (list k inner rest) = (if bytes_eq k (codes "graph") then list k (mark_nodes texts inner) rest else list k inner (marked texts rest))

-- numbers in decimal with one space between any two
abbrev pub numbers_text : List ℕ → List ℕ
numbers_text [] = []
numbers_text (n ∷ ns) = decimal n ++ spaced_numbers ns

-- a text without a quote, which a string can hold
abbrev pub IsQuotable : List ℕ → Type 0
IsQuotable text = list_all is_no_quote text ≡ true

abbrev pub AreQuotable : List (List ℕ) → Type 0
AreQuotable texts = All IsQuotable texts

-- ---- what is read of a marked document

-- the start that lists are: a graph without vertices has none
abbrev pub told_lists : List (List ℕ) → Option (List (List ℕ))
told_lists [] = None
told_lists (first ∷ others) = Some (first ∷ others)

-- where lists arrange the edges of a document's graph, the document with their texts has the same graph, which starts at these lists
abbrev pub StartsAtTexts : Document → Type 0
StartsAtTexts d =
    (named : NamedGraph) (lists : List (List ℕ)) → graph_of_document d ≡ Ok named → ArrangeEdges named.graph lists
    → graph_of_document (marked (map numbers_text lists) d) ≡ Ok (record { graph = named.graph; ids = named.ids; start = told_lists lists })

-- ---- one pair as it is written

-- the list that a value is
abbrev pub inner_of : Value → Option Document
inner_of (Num text) = None
inner_of (Str text) = None
inner_of (Inner inner) = Some inner

-- the list of a pair, where it has this key and a list
abbrev pub list_under : List ℕ → Pair → Option Document
list_under key pair = (if bytes_eq pair.key key then inner_of pair.value else None)

-- the pairs to come, into which the text is put unless it has been put before
abbrev pub put_unless : Bool → List ℕ → Document → Document
put_unless put text d = (if put then d else put_first start_key text d)

-- the pairs to come, of which the first graph is marked unless one has been found before
abbrev pub marked_unless : Bool → List (List ℕ) → Document → Document
marked_unless found texts d = (if found then d else marked texts d)

-- a pair is written within this many lists: with the pairs to come, whichever they are, the whole is the same before it, where they are
-- changed by the first function, and after it, where they are changed by the second
abbrev pub WritesPair : ℕ → (Document → Document) → (Document → Document) → Pair → List ℕ → List ℕ → Type 0
WritesPair lists old new pair before after = (rest : Document) → before ++ lines lists (old (pair_before pair.key pair.value rest)) ≡ after ++ lines lists (new rest)
