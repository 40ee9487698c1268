-- `draw`: there is an answer, the state stays, and the parallel edges that are found are the least pair.
use Rattle.std.proofs.Common.{◌≡◌, ◌≢◌, ℕ, ◌<◌, ◌≤◌, Bool, true, List, [], slice_index, refl, sym, ◌∙◌, subst, arith}
use Rattle.permutations.proofs.Search.{least-below, least-passes}
use Rattle.multigraph.specs.Graph.{Multigraph, edge_count, ends_of, IsGraph}
use Rattle.multigraph.specs.Part.{GraphPart}
use Rattle.graph_theory.specs.Connected.{IsConnected}
use Rattle.graph_theory.proofs.Connected.{block-connected}
use Rattle.skel_embed.specs.Block.{BlockState}
use Rattle.grid_drawing.specs.Grid.{IsDrawRefusal}
use Rattle.grid_drawing.specs.declared.drawing.DrawFault.{DrawFault}
use Rattle.grid_drawing.specs.declared.drawing.DrawFault.TheVariants as faults
use Rattle.grid_drawing.specs.Parallel.{is_later, has_later, has_parallel, first_parallel, second_parallel}
use Rattle.spqr_script.specs.Answers.Draw.{draw_text}
use Rattle.drawing_exists.proofs.Existence.{drawing_exists}
use Rattle.spqr_session.specs.Trees.{tree_at}
use Rattle.spqr_session.specs.Setting.{Setting, IsSetting}
use Rattle.spqr_session.specs.State.{State, IsState}
use Rattle.spqr_session.specs.Embedded.{BlockView}
use Rattle.spqr_session.specs.Commands.Draw.{parallel_codes, IsDrawingAnswer, DrawStep}
use Rattle.spqr_session.specs.declared.code.Code.{Code}
use Rattle.spqr_session.specs.declared.code.Code.TheVariants.{Parallel}
use Rattle.spqr_session.proofs.BlockCarried.{read-answers, read-stays}
use Rattle.spqr_session.proofs.Changes.{entry-right}
use Rattle.spqr_session.proofs.SettingTrees.{setting-tree, setting-numbered}
use Rattle.spqr_session.proofs.Ladders.{rung-none}
use Rattle.spqr_session.proofs.Planes.{SeenPlane}

-- the state stays
pub draw-stays : (setting : Setting) (b : ℕ) (s : State) (text : List ℕ) (after : State) → DrawStep setting b s text after → after ≡ s
draw-stays setting b s text after p = read-stays parallel_codes (λ tree e. refl) (IsDrawingAnswer b) setting.trees b s text after p

-- a graph with an edge has two vertices
two-vertices : (g : Multigraph) → IsGraph g → 1 ≤ edge_count g → 2 ≤ g.vertex_count
two-vertices g graph some = two (ends_of g 0).0 (ends_of g 0).1 g.vertex_count (graph.no_loop 0 some) (graph.first_in 0 some) (graph.second_in 0 some)
  where
    two : (u v n : ℕ) → u ≢ v → u < n → v < n → 2 ≤ n
    two u v n d a b = omega (arith, d, a, b)

-- there is an answer
pub draw-answers : (setting : Setting) (b : ℕ) (s : State) → IsSetting setting → IsState setting s → (text : List ℕ) × (after : State) × DrawStep setting b s text after
draw-answers setting b s is right = read-answers parallel_codes (λ tree e. refl) (IsDrawingAnswer b) setting.trees b s (λ l e p n.
    let tree = tree_at setting.trees b in
    let block = setting-tree setting is b l in
    let one = block.block in
    let numbered = setting-numbered setting is b l in
    let limits = numbered.limits in
    let found = drawing_exists tree.part.graph e.rotation block.graph (omega (arith, limits.few_vertices)) (block-connected tree.part.graph one) (two-vertices tree.part.graph block.graph one.has_edge)
    (entry-right setting s b e right l p).0 (rung-none least (has_parallel tree.part.graph) [] n).0 in
    (draw_text tree.part b found.0, (found.0, found.1, refl)))
  where
    least : Code
    least = Parallel (slice_index (tree_at setting.trees b).part.edges (first_parallel (tree_at setting.trees b).part.graph)) (slice_index (tree_at setting.trees b).part.edges (second_parallel (tree_at setting.trees b).part.graph))

-- the least pair of parallel edges is a pair of edges
module _ (g : Multigraph) (h : has_parallel g ≡ true) where
  pub first-within : first_parallel g < edge_count g
  first-within = least-below (edge_count g) (has_later g) h

  pub second-within : second_parallel g < edge_count g
  second-within = least-below (edge_count g) (is_later g (first_parallel g)) (least-passes (edge_count g) (has_later g) h)

module _ (v : BlockView) (p : BlockState) (seen : SeenPlane v p) where
  -- a block in the plane can be drawn
  pub seen-connected : IsConnected p.graph
  seen-connected = subst IsConnected (sym seen.graph) (let tree = seen.tree in block-connected v.tree.part.graph tree.block)

  pub seen-two : 2 ≤ p.graph.vertex_count
  seen-two = subst (λ (g : Multigraph). 2 ≤ g.vertex_count) (sym seen.graph) (let tree = seen.tree in let block = tree.block in two-vertices v.tree.part.graph tree.graph block.has_edge)

  abbrev are_parallel : Bool
  are_parallel = has_parallel v.tree.part.graph

  -- the edges that are found are the least pair
  abbrev pub IsPair : ℕ → ℕ → Type 0
  IsPair i j = (are_parallel ≡ true) × (i ≡ first_parallel v.tree.part.graph) × (j ≡ second_parallel v.tree.part.graph)

  pub found-pair : (g : Multigraph) (fault : DrawFault) (i j : ℕ) → g ≡ p.graph → fault ≡ faults.Parallel i j → IsDrawRefusal g fault → IsPair i j
  found-pair g fault i j e f r = subst (λ (h : Multigraph). IsDrawRefusal h (faults.Parallel i j)) (e ∙ seen.graph) (subst (IsDrawRefusal g) f r)

  pub pair-within : (part : GraphPart) (i j : ℕ) → part ≡ v.tree.part → IsPair i j → (i < edge_count part.graph) × (j < edge_count part.graph)
  pair-within part i j e f = subst (λ (q : GraphPart). (i < edge_count q.graph) × (j < edge_count q.graph)) (sym e) (
    subst (λ (k : ℕ). k < edge_count v.tree.part.graph) (sym f.1) (first-within v.tree.part.graph f.0),
    subst (λ (k : ℕ). k < edge_count v.tree.part.graph) (sym f.2) (second-within v.tree.part.graph f.0),
  )
