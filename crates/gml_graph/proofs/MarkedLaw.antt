-- The graph of a marked document: that of the document, which starts at the lists whose texts its nodes carry.
use Rattle.std.proofs.Common.{◌≡◌, ℕ, zero, suc, ◌<◌, ◌≤◌, ◌^◌, ℤ, Bool, true, false, cond, nat_lt, List, [], ◌∷◌, ◌++◌, length, take, get_or, map, codes, bytes_eq, Option, Some, None, Result, Ok, Err, refl, sym, ap, ◌∙◌, inl, inr, arith}
use Rattle.std.specs.List.Sorted.{IsPermutation}
use Rattle.std.proofs.Math.Seq.{take-suc}
use Rattle.std.proofs.lemmas.Bool.{cases_Bool}
use Rattle.std.proofs.lemmas.List.{take_all, length-map, get_or-map}
use Rattle.std.proofs.lemmas.List.Sorted.{All-permutation}
use Rattle.std.proofs.lemmas.Slice.Eq.{bytes_eq-Decides}
use Rattle.multigraph.specs.Graph.{Multigraph, IsWithinLimits, incident_edges, max_vertices, max_edges}
use Rattle.multigraph.proofs.Incident.{incident_at-edge}
use Rattle.rotations.proofs.Membership.{incident-distinct}
use Rattle.gml_text.specs.Document.{Document, empty, number, string, list}
use Rattle.gml_graph.specs.Named.{NamedGraph, ArrangeEdges}
use Rattle.gml_graph.specs.Lists.{lists_under}
use Rattle.gml_graph.specs.Start.{start_key, start_text, list_by, lists_by, texts_of, start_texts, as_start, start_by, put_start, with_start}
use Rattle.gml_graph.specs.Answer.{each_below, node_id, node_ids, edge_ends, with_ends, with_ids, graph_between, graph_among}
use Rattle.gml_graph.specs.Marked.{put_first, numbers_text, told_lists, StartsAtTexts}
use Rattle.gml_graph.specs.declared.fault.GraphFault.{GraphFault}
use Rattle.gml_graph.specs.declared.fault.GraphFault.TheVariants.{TooManyVertices, TooManyEdges}
use Rattle.gml_graph.proofs.Arranged.{arranged-passes}
use Rattle.gml_graph.proofs.Each.{each_below-length}
use Rattle.gml_graph.proofs.Law.{sound_graph}
use Rattle.gml_graph.proofs.NumberTexts.{AreNarrow, numbers_spelled}
use Rattle.gml_graph.proofs.MarkedLists.{put_each, length-put_each, edges-marked, nodes-marked, mark_head, graphs-marked, node_ids-put_each}

-- ---- the text of a node

-- the text that is put into a node is the one that is found there
pub start_text-put : (key text : List ℕ) (d : Document) → start_text key (put_first key text d) ≡ Some text
start_text-put key text empty = rw ((bytes_eq-Decides key key).1 refl) refl
start_text-put key text (number k old rest) =
    elim (cases_Bool (bytes_eq k key)) [
      | inl same ↦ rw (same, (bytes_eq-Decides key key).1 refl) refl
      | inr differ ↦ rw (differ, differ) (start_text-put key text rest)
    ]
start_text-put key text (string k old rest) =
    elim (cases_Bool (bytes_eq k key)) [
      | inl same ↦ rw (same, (bytes_eq-Decides key key).1 refl) refl
      | inr differ ↦ rw (differ, differ) (start_text-put key text rest)
    ]
start_text-put key text (list k inner rest) =
    elim (cases_Bool (bytes_eq k key)) [
      | inl same ↦ rw (same, (bytes_eq-Decides key key).1 refl) refl
      | inr differ ↦ rw (differ, differ) (start_text-put key text rest)
    ]

-- one text for each node
texts-put_each : (texts : List (List ℕ)) (nodes : List Document) → length texts ≡ length nodes → texts_of (put_each texts nodes) ≡ Some texts
texts-put_each [] [] same = refl
texts-put_each [] (node ∷ nodes) same = absurd (omega arith)
texts-put_each (text ∷ texts) [] same = absurd (omega arith)
texts-put_each (text ∷ texts) (node ∷ nodes) same = rw (start_text-put start_key text node, texts-put_each texts nodes (omega arith)) refl

-- ---- the lists

-- values that are all accepted
each_below-prefix : {A : Type 0} (f : ℕ → Result A GraphFault) (xs : List A) (d : A) (n : ℕ) → n ≤ length xs → ((k : ℕ) → k < length xs → f k ≡ Ok (get_or xs k d)) → each_below n f ≡ Ok (take n xs)
each_below-prefix f xs d zero l each = refl
each_below-prefix f xs d (suc n) l each =
    let before : each_below n f ≡ Ok (take n xs) = each_below-prefix f xs d n (omega arith) each in
    let last : f n ≡ Ok (get_or xs n d) = each n (omega arith) in
    let longer : take (suc n) xs ≡ take n xs ++ get_or xs n d ∷ [] = take-suc xs n d (omega arith) in
    rw (before, last, longer) refl

each_below-all : {A : Type 0} (f : ℕ → Result A GraphFault) (xs : List A) (d : A) → ((k : ℕ) → k < length xs → f k ≡ Ok (get_or xs k d)) → each_below (length xs) f ≡ Ok xs
each_below-all f xs d each = each_below-prefix f xs d (length xs) (omega arith) each ∙ ap Ok (take_all (length xs) xs (omega arith))

-- the numbers of edges are narrow
narrow-arranged : (g : Multigraph) (v : ℕ) (edges : List ℕ) → IsWithinLimits g → IsPermutation (incident_edges g v) edges → AreNarrow edges
narrow-arranged g v edges limits same =
    All-permutation (λ (e : ℕ). e < 2 ^ 32) (incident_edges g v) edges same (λ k d l. omega (arith, incident_at-edge g v k d l, limits.few_edges))

-- the text of a list is that list
list_by-text : (g : Multigraph) (v : ℕ) (edges : List ℕ) → IsWithinLimits g → IsPermutation (incident_edges g v) edges → list_by g v (numbers_text edges) ≡ Ok edges
list_by-text g v edges limits same =
    rw (numbers_spelled edges (narrow-arranged g v edges limits same), arranged-passes (incident_edges g v) edges (incident-distinct g v) same) refl

lists_by-texts : (g : Multigraph) (lists : List (List ℕ)) → IsWithinLimits g → ArrangeEdges g lists → lists_by g (map numbers_text lists) ≡ Ok lists
lists_by-texts g lists limits arrange =
    ap (λ (n : ℕ). each_below n (λ v. list_by g v (get_or (map numbers_text lists) v []))) (length-map lists numbers_text)
    ∙ each_below-all (λ v. list_by g v (get_or (map numbers_text lists) v [])) lists []
    (λ v l. ap (list_by g v) (get_or-map numbers_text lists v [] [] l) ∙ list_by-text g v (get_or lists v []) limits (arrange.arranged v (omega (arith, arrange.count))))

-- ---- the start of the nodes

start-put_each : (g : Multigraph) (nodes : List Document) (lists : List (List ℕ)) → length nodes ≡ g.vertex_count → IsWithinLimits g → ArrangeEdges g lists
    → start_by g (start_texts (put_each (map numbers_text lists) nodes)) ≡ Ok (told_lists lists)
start-put_each g [] [] count limits arrange = refl
start-put_each g [] (l ∷ lists) count limits arrange = absurd (omega (arith, arrange.count))
start-put_each g (node ∷ nodes) [] count limits arrange = absurd (omega (arith, arrange.count))
start-put_each g (node ∷ nodes) (l ∷ lists) count limits arrange =
    let texts : List (List ℕ) = map numbers_text (l ∷ lists) in
    let long : length texts ≡ length (node ∷ nodes) = omega (arith, length-map (l ∷ lists) numbers_text, arrange.count) in
    ap (start_by g) (texts-put_each texts (node ∷ nodes) long) ∙ ap as_start (lists_by-texts g (l ∷ lists) limits arrange)

-- ---- the graph

-- a graph with a start that is accepted is one that was accepted before
record IsStarted (r : Result NamedGraph GraphFault) (named : NamedGraph) : Type 0 where
  pub before : NamedGraph
  pub was : r ≡ Ok before
  pub graph : before.graph ≡ named.graph
  pub ids : before.ids ≡ named.ids

put-started : (before : NamedGraph) (start : Result (Option (List (List ℕ))) GraphFault) (named : NamedGraph) → put_start before start ≡ Ok named → (before.graph ≡ named.graph) × (before.ids ≡ named.ids)
put-started before (Err e) named h = absurd (cc)
put-started before (Ok start) named h =
    let same : record { graph = before.graph; ids = before.ids; start = start } ≡ named = cc in
    (ap (λ (n : NamedGraph). n.graph) same, ap (λ (n : NamedGraph). n.ids) same)

with-started : (nodes : List Document) (r : Result NamedGraph GraphFault) (named : NamedGraph) → with_start nodes r ≡ Ok named → IsStarted r named
with-started nodes (Err e) named h = absurd (cc)
with-started nodes (Ok before) named h =
    let p = put-started before (start_by before.graph (start_texts nodes)) named h in
    record { before = before; was = refl; graph = p.0; ids = p.1 }

-- there are as many vertices as nodes
ends-count : (ids : List ℤ) (ends : Result (List (ℕ × ℕ)) GraphFault) (named : NamedGraph) → with_ends ids ends ≡ Ok named → named.graph.vertex_count ≡ length ids
ends-count ids (Err e) named h = absurd (cc)
ends-count ids (Ok ends) named h =
    let same : record { graph = record { vertex_count = length ids; ends = ends }; ids = ids; start = None } ≡ named = cc in
    sym (ap (λ (n : NamedGraph). n.graph.vertex_count) same)

ids-count : (edges : List Document) (n : ℕ) (f : ℕ → Result ℤ GraphFault) (r : Result (List ℤ) GraphFault) (named : NamedGraph) → each_below n f ≡ r → with_ids edges r ≡ Ok named → named.graph.vertex_count ≡ n
ids-count edges n f (Err e) named same h = absurd (cc)
ids-count edges n f (Ok ids) named same h = ends-count ids (edge_ends ids edges) named h ∙ each_below-length f n ids same

-- marked nodes with the same edges
between-marked : (nodes edges : List Document) (named : NamedGraph) (lists : List (List ℕ)) → IsWithinLimits named.graph → graph_between nodes edges ≡ Ok named → ArrangeEdges named.graph lists
    → graph_between (put_each (map numbers_text lists) nodes) edges ≡ Ok (record { graph = named.graph; ids = named.ids; start = told_lists lists })
between-marked nodes edges named lists limits h arrange =
    by_limits (nat_lt max_vertices (length nodes)) (nat_lt max_edges (length edges)) refl refl h
  where
    started : with_start nodes (with_ids edges (node_ids nodes)) ≡ Ok named → with_start (put_each (map numbers_text lists) nodes) (with_ids edges (node_ids (put_each (map numbers_text lists) nodes))) ≡ Ok (record { graph = named.graph; ids = named.ids; start = told_lists lists })
    started accepted =
        let texts : List (List ℕ) = map numbers_text lists in
        let s = with-started nodes (with_ids edges (node_ids nodes)) named accepted in
        let same : with_ids edges (node_ids (put_each texts nodes)) ≡ Ok s.before = ap (with_ids edges) (node_ids-put_each texts nodes) ∙ s.was in
        let count : length nodes ≡ named.graph.vertex_count =
        sym (ids-count edges (length nodes) (node_id nodes) (node_ids nodes) s.before refl s.was) ∙ ap (λ (g : Multigraph). g.vertex_count) s.graph in
        ap (with_start (put_each texts nodes)) same
        ∙ ap (λ (g : Multigraph). put_start s.before (start_by g (start_texts (put_each texts nodes)))) s.graph
        ∙ ap (put_start s.before) (start-put_each named.graph nodes lists count limits arrange)
        ∙ ap (λ (g : Multigraph). Ok (record { graph = g; ids = s.before.ids; start = told_lists lists })) s.graph
        ∙ ap (λ (ids : List ℤ). Ok (record { graph = named.graph; ids = ids; start = told_lists lists })) s.ids

    by_limits : (big wide : Bool) → nat_lt max_vertices (length nodes) ≡ big → nat_lt max_edges (length edges) ≡ wide → let v : Result NamedGraph GraphFault = Err (TooManyVertices (length nodes)) in let e : Result NamedGraph GraphFault = Err (TooManyEdges (length edges)) in cond big v (cond wide e (with_start nodes (with_ids edges (node_ids nodes)))) ≡ Ok named
        → graph_between (put_each (map numbers_text lists) nodes) edges ≡ Ok (record { graph = named.graph; ids = named.ids; start = told_lists lists })
    by_limits true wide b w r = absurd (cc)
    by_limits false true b w r = absurd (cc)
    by_limits false false b w r =
        let few : nat_lt max_vertices (length (put_each (map numbers_text lists) nodes)) ≡ false = ap (nat_lt max_vertices) (length-put_each (map numbers_text lists) nodes) ∙ b in
        rw (few, w) (started r)

among-marked : (graphs : List Document) (named : NamedGraph) (lists : List (List ℕ)) → IsWithinLimits named.graph → graph_among graphs ≡ Ok named → ArrangeEdges named.graph lists
    → graph_among (mark_head (map numbers_text lists) graphs) ≡ Ok (record { graph = named.graph; ids = named.ids; start = told_lists lists })
among-marked [] named lists limits h arrange = absurd (cc)
among-marked (g ∷ []) named lists limits h arrange =
    rw (nodes-marked (map numbers_text lists) g, edges-marked (map numbers_text lists) g)
    (between-marked (lists_under (codes "node") g) (lists_under (codes "edge") g) named lists limits h arrange)
among-marked (g ∷ (f ∷ gs)) named lists limits h arrange = absurd (cc)

pub marked_start : (d : Document) → StartsAtTexts d
marked_start d named lists h arrange =
    ap graph_among (graphs-marked (map numbers_text lists) d)
    ∙ among-marked (lists_under (codes "graph") d) named lists (sound_graph d named h).1 h arrange
