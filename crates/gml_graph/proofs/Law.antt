-- The graph of a document is within the limits and without loops, and each vertex has an id of its own.
use Rattle.std.proofs.Common.{◌≡◌, ℕ, zero, suc, ◌≤◌, ℤ, Bool, true, false, cond, nat_lt, List, [], ◌∷◌, length, take, get_or, codes, Option, None, Result, Ok, Err, refl, sym, ◌∙◌, subst, arith}
use Rattle.std.proofs.lemmas.Bool.Decides.{nat_tests}
use Rattle.std.proofs.lemmas.Cmp.{int_eq_equiv}
use Rattle.std.proofs.lemmas.Map.Keys.{IsDistinct-push}
use Rattle.std.specs.List.{IsDistinct, list_any}
use Rattle.std.specs.Ordering.{int_eq}
use Rattle.multigraph.specs.Graph.{IsGraph, IsWithinLimits, max_vertices, max_edges}
use Rattle.multigraph.specs.Build.{multigraph_of}
use Rattle.gml_text.specs.Document.{Document, empty}
use Rattle.gml_graph.specs.Named.{NamedGraph, IsNamed}
use Rattle.gml_graph.specs.Lists.{lists_under, first_under}
use Rattle.gml_graph.specs.Start.{start_texts, start_by, put_start, with_start}
use Rattle.gml_graph.specs.Answer.{each_below, said_ids, id_among, node_id, node_ids, edge_ends, with_ends, with_ids, graph_between, graph_among, HasSoundGraph}
use Rattle.gml_graph.specs.declared.integers.Reading.{Reading}
use Rattle.gml_graph.specs.declared.integers.Reading.TheVariants.{Missing, NotWhole, Whole}
use Rattle.gml_graph.specs.declared.fault.GraphFault.{GraphFault}
use Rattle.gml_graph.specs.declared.fault.GraphFault.TheVariants.{SameId, TooManyVertices, TooManyEdges}
use Rattle.gml_graph.proofs.Each.{one_more-accepted, each_below-length}
use Rattle.gml_graph.proofs.Steps.{said_ids-accepted}
use Rattle.gml_graph.proofs.Sound.{edge_ends-graph, edge_ends-limits}
use Rattle.gml_graph.proofs.Starts.{start-arranges}

-- an id that is accepted is none of the earlier ones
pub id_among-new : (ids : List ℤ) (k : ℕ) (reading : Reading) (id : ℤ) → id_among ids k reading ≡ Ok id → list_any (int_eq id) ids ≡ false
id_among-new ids k Missing id h = absurd (cc)
id_among-new ids k NotWhole id h = absurd (cc)
id_among-new ids k (Whole z) id h = by_test (list_any (int_eq z) ids) refl h
  where
    by_test : (same : Bool) → list_any (int_eq z) ids ≡ same → let refused : Result ℤ GraphFault = Err (SameId k) in cond same refused (Ok z) ≡ Ok id → list_any (int_eq id) ids ≡ false
    by_test true e r = absurd (cc)
    by_test false e r = let z : z ≡ id = cc in subst (λ (i : ℤ). list_any (int_eq i) ids ≡ false) z e

-- accepted ids are without repetition
pub node_ids-distinct : (nodes : List Document) (k : ℕ) (ids : List ℤ) → k ≤ length nodes → each_below k (node_id nodes) ≡ Ok ids → IsDistinct int_eq ids
unfolding IsDistinct
node_ids-distinct nodes zero ids l h = let e : [] ≡ ids = cc in subst (λ (l : List ℤ). IsDistinct int_eq l) e tt
node_ids-distinct nodes (suc k) ids l h =
    let m = one_more-accepted (each_below k (node_id nodes)) (node_id nodes k) ids h in
    let before : IsDistinct int_eq m.before = node_ids-distinct nodes k m.before (omega arith) m.was_before in
    let said : said_ids (take k nodes) ≡ m.before = said_ids-accepted nodes k m.before (omega arith) m.was_before in
    let new : list_any (int_eq m.last) m.before ≡ false =
    subst (λ (l : List ℤ). list_any (int_eq m.last) l ≡ false) said
    (id_among-new (said_ids (take k nodes)) k (first_under (codes "id") (get_or nodes k empty)) m.last m.was_last) in
    subst (λ (l : List ℤ). IsDistinct int_eq l) (sym m.all) (IsDistinct-push int_eq_equiv m.before m.last before new)

-- what is shown of the graph
abbrev IsSound : NamedGraph → Type 0
IsSound n = IsGraph n.graph × IsWithinLimits n.graph × IsNamed n

-- the graph of ids and ends that are accepted
with_ends-sound : (ids : List ℤ) (edges : List Document) (n : NamedGraph) → length ids ≤ max_vertices → length edges ≤ max_edges → IsDistinct int_eq ids → with_ends ids (edge_ends ids edges) ≡ Ok n → IsSound n × (n.graph.vertex_count ≡ length ids)
with_ends-sound ids edges n few many distinct h = by_result (edge_ends ids edges) refl h
  where
    by_result : (r : Result (List (ℕ × ℕ)) GraphFault) → edge_ends ids edges ≡ r → with_ends ids r ≡ Ok n → IsSound n × (n.graph.vertex_count ≡ length ids)
    by_result (Err e) same r = absurd (cc)
    by_result (Ok ends) same r =
        let z : record { graph = multigraph_of (length ids) ends; ids = ids; start = None } ≡ n = cc in
        subst (λ (m : NamedGraph). IsSound m × (m.graph.vertex_count ≡ length ids)) z
        ((edge_ends-graph ids edges ends same, edge_ends-limits ids edges ends few many same, record { count = refl; distinct = distinct; start = tt }), refl)

-- that of nodes and edges, before the start
with_ids-sound : (nodes edges : List Document) (n : NamedGraph) → length nodes ≤ max_vertices → length edges ≤ max_edges → with_ids edges (node_ids nodes) ≡ Ok n → IsSound n × (n.graph.vertex_count ≡ length nodes)
with_ids-sound nodes edges n few many h = by_result (node_ids nodes) refl h
  where
    by_result : (r : Result (List ℤ) GraphFault) → node_ids nodes ≡ r → with_ids edges r ≡ Ok n → IsSound n × (n.graph.vertex_count ≡ length nodes)
    by_result (Err e) same r = absurd (cc)
    by_result (Ok ids) same r =
        let long : length ids ≡ length nodes = each_below-length (node_id nodes) (length nodes) ids same in
        let sound = with_ends-sound ids edges n (omega (arith, long)) many (node_ids-distinct nodes (length nodes) ids (omega arith) same) r in
        (sound.0, sound.1 ∙ long)

-- with the start
with_start-sound : (nodes : List Document) (n : NamedGraph) (m : NamedGraph) → IsSound m → m.graph.vertex_count ≡ length nodes → with_start nodes (Ok m) ≡ Ok n → IsSound n
with_start-sound nodes n m sound long h = by_start (start_by m.graph (start_texts nodes)) refl h
  where
    by_start : (r : Result (Option (List (List ℕ))) GraphFault) → start_by m.graph (start_texts nodes) ≡ r → put_start m r ≡ Ok n → IsSound n
    by_start (Err e) same r = absurd (cc)
    by_start (Ok start) same r =
        let z : record { graph = m.graph; ids = m.ids; start = start } ≡ n = cc in
        subst (λ (x : NamedGraph). IsSound x) z
        (sound.0, sound.1, record { count = sound.2.count; distinct = sound.2.distinct; start = start-arranges m.graph nodes start (sym long) same })

with_all-sound : (nodes edges : List Document) (n : NamedGraph) → length nodes ≤ max_vertices → length edges ≤ max_edges → with_start nodes (with_ids edges (node_ids nodes)) ≡ Ok n → IsSound n
with_all-sound nodes edges n few many h = by_result (with_ids edges (node_ids nodes)) refl h
  where
    by_result : (r : Result NamedGraph GraphFault) → with_ids edges (node_ids nodes) ≡ r → with_start nodes r ≡ Ok n → IsSound n
    by_result (Err e) same r = absurd (cc)
    by_result (Ok m) same r = let sound = with_ids-sound nodes edges m few many same in with_start-sound nodes n m sound.0 sound.1 r

pub graph_between-sound : (nodes edges : List Document) (n : NamedGraph) → graph_between nodes edges ≡ Ok n → IsSound n
graph_between-sound nodes edges n h = by_vertices (nat_lt max_vertices (length nodes)) (nat_lt max_edges (length edges)) refl refl h
  where
    below : (m k : ℕ) → nat_lt m k ≡ false → k ≤ m
    below m k e = grind (arith, nat_tests)

    by_vertices : (big wide : Bool) → nat_lt max_vertices (length nodes) ≡ big → nat_lt max_edges (length edges) ≡ wide → let v : Result NamedGraph GraphFault = Err (TooManyVertices (length nodes)) in let e : Result NamedGraph GraphFault = Err (TooManyEdges (length edges)) in cond big v (cond wide e (with_start nodes (with_ids edges (node_ids nodes)))) ≡ Ok n → IsSound n
    by_vertices true wide b w r = absurd (cc)
    by_vertices false true b w r = absurd (cc)
    by_vertices false false b w r = with_all-sound nodes edges n (below max_vertices (length nodes) b) (below max_edges (length edges) w) r

pub graph_among-sound : (graphs : List Document) (n : NamedGraph) → graph_among graphs ≡ Ok n → IsSound n
graph_among-sound [] n h = absurd (cc)
graph_among-sound (g ∷ []) n h = graph_between-sound (lists_under (codes "node") g) (lists_under (codes "edge") g) n h
graph_among-sound (g ∷ (f ∷ gs)) n h = absurd (cc)

pub sound_graph : (d : Document) → HasSoundGraph d
sound_graph d n h = graph_among-sound (lists_under (codes "graph") d) n h
