-- What is under the other keys, where texts are put into nodes under the key of starts.
use Rattle.std.proofs.Common.{◌≡◌, ℕ, zero, suc, ℤ, true, false, List, [], ◌∷◌, length, take, get_or, Result, refl, sym, ap, subst, ◌∙◌, inl, inr, codes, bytes_eq}
use Rattle.std.proofs.lemmas.Bool.{cases_Bool}
use Rattle.std.proofs.lemmas.Slice.Eq.{bytes_eq-Decides}
use Rattle.gml_text.specs.Document.{Document, empty, number, string, list}
use Rattle.gml_graph.specs.Lists.{lists_under, first_under}
use Rattle.gml_graph.specs.Answer.{each_below, said_ids, id_among, node_id, node_ids}
use Rattle.gml_graph.specs.Start.{start_key}
use Rattle.gml_graph.specs.Marked.{put_first, put_next, later, mark_nodes, marked}
use Rattle.gml_graph.specs.declared.fault.GraphFault.{GraphFault}

-- a pair that has one of two different keys does not have the other
pub other_key : (k key other : List ℕ) → bytes_eq key other ≡ false → bytes_eq k key ≡ true → bytes_eq k other ≡ false
other_key k key other apart same = subst (λ (l : List ℕ). bytes_eq l other ≡ false) (sym ((bytes_eq-Decides k key).0 same)) apart

-- a number under another key
pub first_under-put : (key text other : List ℕ) (d : Document) → bytes_eq key other ≡ false → first_under other (put_first key text d) ≡ first_under other d
first_under-put key text other empty apart = rw apart refl
first_under-put key text other (number k old rest) apart =
    elim (cases_Bool (bytes_eq k key)) [
      | inl same ↦ rw (same, apart, other_key k key other apart same) refl
      | inr differ ↦ rw (differ, first_under-put key text other rest apart) refl
    ]
first_under-put key text other (string k old rest) apart =
    elim (cases_Bool (bytes_eq k key)) [
      | inl same ↦ rw (same, apart, other_key k key other apart same) refl
      | inr differ ↦ rw (differ, first_under-put key text other rest apart) refl
    ]
first_under-put key text other (list k inner rest) apart =
    elim (cases_Bool (bytes_eq k key)) [
      | inl same ↦ rw (same, apart, other_key k key other apart same) refl
      | inr differ ↦ rw (differ, first_under-put key text other rest apart) refl
    ]

-- the number under the key of ids in a node with a text
pub id-put_next : (texts : List (List ℕ)) (node : Document) → first_under (codes "id") (put_next texts node) ≡ first_under (codes "id") node
id-put_next [] node = refl
id-put_next (text ∷ texts) node = first_under-put start_key text (codes "id") node refl

-- texts put into nodes, in order; with too few texts the last nodes are as they were
abbrev pub put_each : List (List ℕ) → List Document → List Document
put_each texts [] = []
put_each texts (node ∷ nodes) = put_next texts node ∷ put_each (later texts) nodes

pub length-put_each : (texts : List (List ℕ)) (nodes : List Document) → length (put_each texts nodes) ≡ length nodes
length-put_each texts [] = refl
length-put_each texts (node ∷ nodes) = rw (length-put_each (later texts) nodes) refl

-- ---- the lists of a graph

pub edges-marked : (texts : List (List ℕ)) (d : Document) → lists_under (codes "edge") (mark_nodes texts d) ≡ lists_under (codes "edge") d
edges-marked texts empty = refl
edges-marked texts (number k old rest) = edges-marked texts rest
edges-marked texts (string k old rest) = edges-marked texts rest
edges-marked texts (list k inner rest) =
    elim (cases_Bool (bytes_eq k (codes "node"))) [
      | inl node ↦ rw (node, other_key k (codes "node") (codes "edge") refl node) (edges-marked (later texts) rest)
      | inr other ↦ rw (other, edges-marked texts rest) refl
    ]

pub nodes-marked : (texts : List (List ℕ)) (d : Document) → lists_under (codes "node") (mark_nodes texts d) ≡ put_each texts (lists_under (codes "node") d)
nodes-marked texts empty = refl
nodes-marked texts (number k old rest) = nodes-marked texts rest
nodes-marked texts (string k old rest) = nodes-marked texts rest
nodes-marked texts (list k inner rest) =
    elim (cases_Bool (bytes_eq k (codes "node"))) [
      | inl node ↦ rw (node, node) (ap (λ (l : List Document). put_next texts inner ∷ l) (nodes-marked (later texts) rest))
      | inr other ↦ rw (other, other) (nodes-marked texts rest)
    ]

-- the graph lists of a document of which the first is marked
abbrev pub mark_head : List (List ℕ) → List Document → List Document
mark_head texts [] = []
mark_head texts (g ∷ gs) = mark_nodes texts g ∷ gs

pub graphs-marked : (texts : List (List ℕ)) (d : Document) → lists_under (codes "graph") (marked texts d) ≡ mark_head texts (lists_under (codes "graph") d)
graphs-marked texts empty = refl
graphs-marked texts (number k old rest) = graphs-marked texts rest
graphs-marked texts (string k old rest) = graphs-marked texts rest
graphs-marked texts (list k inner rest) =
    elim (cases_Bool (bytes_eq k (codes "graph"))) [
      | inl graph ↦ rw (graph, graph) refl
      | inr other ↦ rw (other, other) (graphs-marked texts rest)
    ]

-- ---- the ids of the nodes

pub said_ids-put_each : (texts : List (List ℕ)) (nodes : List Document) → said_ids (put_each texts nodes) ≡ said_ids nodes
said_ids-put_each texts [] = refl
said_ids-put_each texts (node ∷ nodes) = rw (id-put_next texts node, said_ids-put_each (later texts) nodes) refl

take-put_each : (texts : List (List ℕ)) (nodes : List Document) (k : ℕ) → take k (put_each texts nodes) ≡ put_each texts (take k nodes)
take-put_each texts nodes zero = refl
take-put_each texts [] (suc k) = refl
take-put_each texts (node ∷ nodes) (suc k) = ap (λ (l : List Document). put_next texts node ∷ l) (take-put_each (later texts) nodes k)

id-put_each : (texts : List (List ℕ)) (nodes : List Document) (k : ℕ) → first_under (codes "id") (get_or (put_each texts nodes) k empty) ≡ first_under (codes "id") (get_or nodes k empty)
id-put_each texts [] k = refl
id-put_each texts (node ∷ nodes) zero = id-put_next texts node
id-put_each texts (node ∷ nodes) (suc k) = id-put_each (later texts) nodes k

node_id-put_each : (texts : List (List ℕ)) (nodes : List Document) (k : ℕ) → node_id (put_each texts nodes) k ≡ node_id nodes k
node_id-put_each texts nodes k =
    ap (λ (ids : List ℤ). id_among ids k (first_under (codes "id") (get_or (put_each texts nodes) k empty))) (ap said_ids (take-put_each texts nodes k) ∙ said_ids-put_each texts (take k nodes))
    ∙ ap (id_among (said_ids (take k nodes)) k) (id-put_each texts nodes k)

-- values that are the same at each place
pub each_below-ext : {A : Type 0} (n : ℕ) (f g : ℕ → Result A GraphFault) → ((k : ℕ) → f k ≡ g k) → each_below n f ≡ each_below n g
each_below-ext zero f g same = refl
each_below-ext (suc n) f g same = rw (each_below-ext n f g same, same n) refl

pub node_ids-put_each : (texts : List (List ℕ)) (nodes : List Document) → node_ids (put_each texts nodes) ≡ node_ids nodes
node_ids-put_each texts nodes =
    ap (λ (n : ℕ). each_below n (node_id (put_each texts nodes))) (length-put_each texts nodes)
    ∙ each_below-ext (length nodes) (node_id (put_each texts nodes)) (node_id nodes) (node_id-put_each texts nodes)
