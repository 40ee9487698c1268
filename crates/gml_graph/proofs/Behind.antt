-- A refusal of the edges or of the start is one of the graph.
use Rattle.std.proofs.Common.{◌≡◌, ℕ, ℤ, ◌≤◌, false, nat_lt, List, [], ◌∷◌, length, Option, None, Result, Ok, Err, refl, ap, ◌∙◌, arith}
use Rattle.std.proofs.lemmas.Bool.Decides.{nat_tests}
use Rattle.multigraph.specs.Graph.{max_vertices, max_edges}
use Rattle.multigraph.specs.Build.{multigraph_of}
use Rattle.gml_text.specs.Document.{Document}
use Rattle.gml_graph.specs.Start.{start_texts, start_by, put_start, with_start}
use Rattle.gml_graph.specs.Answer.{Refuses, edge_ends, graph_between, graph_among, node_ids, with_ends}
use Rattle.gml_graph.specs.declared.fault.GraphFault.{GraphFault}
use Rattle.gml_graph.specs.declared.fault.GraphFault.TheVariants.{MoreGraphs}
use Rattle.gml_graph.proofs.Each.{Refuses-passed}

-- where there are few nodes and edges, and the nodes have these ids
module _ (nodes edges : List Document) (ids : List ℤ) (few : length nodes ≤ max_vertices) (many : length edges ≤ max_edges) (named : node_ids nodes ≡ Ok ids) where
  not_less : (n most : ℕ) → n ≤ most → nat_lt most n ≡ false
  not_less n most l = grind (arith, nat_tests)

  due : graph_between nodes edges ≡ with_start nodes (with_ends ids (edge_ends ids edges))
  due = rw (not_less (length nodes) max_vertices few, not_less (length edges) max_edges many, named) refl

  -- what refuses the edges refuses the graph
  pub refused-behind : (fault : GraphFault) → Refuses (edge_ends ids edges) fault → Refuses (graph_between nodes edges) fault
  refused-behind fault h = Refuses-passed (edge_ends ids edges) (graph_between nodes edges) fault (λ f refused. due ∙ ap (λ r. with_start nodes (with_ends ids r)) refused) h

  -- where the edges have these ends, the start decides
  started : (ends : List (ℕ × ℕ)) (start : Result (Option (List (List ℕ))) GraphFault) → edge_ends ids edges ≡ Ok ends → start_by (multigraph_of (length ids) ends) (start_texts nodes) ≡ start
      → graph_between nodes edges ≡ put_start (record { graph = multigraph_of (length ids) ends; ids = ids; start = None }) start
  started ends start accepted same =
      due ∙ ap (λ r. with_start nodes (with_ends ids r)) accepted ∙ ap (put_start (record { graph = multigraph_of (length ids) ends; ids = ids; start = None })) same

  -- what refuses the start refuses the graph
  pub start-behind : (ends : List (ℕ × ℕ)) (fault : GraphFault) → edge_ends ids edges ≡ Ok ends → Refuses (start_by (multigraph_of (length ids) ends) (start_texts nodes)) fault → Refuses (graph_between nodes edges) fault
  start-behind ends fault accepted h = Refuses-passed (start_by (multigraph_of (length ids) ends) (start_texts nodes)) (graph_between nodes edges) fault (λ f refused. started ends (Err f) accepted refused) h

-- two graph lists or more
pub graphs-many : (graphs : List Document) → 2 ≤ length graphs → graph_among graphs ≡ Err MoreGraphs
graphs-many [] l = absurd (omega arith)
graphs-many (g ∷ []) l = absurd (omega arith)
graphs-many (g ∷ (h ∷ graphs)) l = refl
