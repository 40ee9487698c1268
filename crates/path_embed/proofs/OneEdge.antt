-- What is left of a graph without one edge, and the obstacles of it, which have fewer edges.
use Rattle.std.proofs.Common.{◌≡◌, ℕ, zero, suc, ◌<◌, ◌≤◌, inl, inr, Bool, false, not, ◌==◌, List, length, filter, slice_index, refl, sym, ap, ◌∙◌, subst, arith, eq-eqb, Option, None, Some, MatchOption}
use Rattle.std.proofs.lemmas.Bool.{cases_Bool, cases_eq}
use Rattle.std.proofs.lemmas.List.{get_or-map, length-map, length_push}
use Rattle.multigraph.specs.Graph.{Multigraph, edge_count, numbers_below}
use Rattle.multigraph.specs.Part.{GraphPart, IsPart}
use Rattle.multigraph.proofs.Below.{filter_suc-yes, filter_suc-no, length-filter_below}
use Rattle.multigraph.proofs.Places.{rises-short}
use Rattle.pair_split.specs.Tutte.{Node, node_at}
use Rattle.pair_split.specs.declared.components.What.TheVariants.{Real}
use Rattle.skeletons.specs.Items.{item_key, node_keys, IsBlockTree}
use Rattle.skeletons.specs.Families.{skeleton_graph}
use Rattle.skeleton_runs.proofs.NodeFits.{key-fits}
use Rattle.skeleton_runs.proofs.SkeletonGraph.{graph-edges}
use Rattle.minimal_graphs.specs.Whole.{all_but}
use Rattle.minimal_graphs.specs.Laws.{IsPlaneWithout}
use Rattle.path_embed.specs.Planar.{HasPlaneSystem, IsPlanarPart}
use Rattle.path_embed.specs.Found.{IsPartOf, IsObstacle, IsObstacleIn, IsSmaller}
use Rattle.path_embed.specs.declared.deciding.Obstacle.{Obstacle}

-- where one number below n fails, fewer than n pass
fewer-pass : (p : ℕ → Bool) (n x : ℕ) → x < n → p x ≡ false → length (filter p (numbers_below n)) < n
fewer-pass p zero x l h = absurd (omega (arith, l))
fewer-pass p (suc n) x l h = elim (cases_eq x n) [
  | inl q ↦ omega (arith, length-filter_below p n, ap (λ (k : List ℕ). length k) (filter_suc-no p n (ap p (sym q) ∙ h)))
  | inr d ↦ elim (cases_Bool (p n)) [
    | inl t ↦ omega (arith, fewer-pass p n x (omega (arith, l, d)) h, length_push (filter p (numbers_below n)) n, ap (λ (k : List ℕ). length k) (filter_suc-yes p n t))
    | inr f ↦ omega (arith, fewer-pass p n x (omega (arith, l, d)) h, ap (λ (k : List ℕ). length k) (filter_suc-no p n f))
  ]
]

-- all numbers but one are fewer
pub all_but-fewer : (m e : ℕ) → e < m → length (all_but m e) < m
all_but-fewer m e l = fewer-pass (λ f. not (f == e)) m e l (ap not (eq-eqb e e refl))

-- a skeleton has no more edges than the block
pub skeleton-few : (g : Multigraph) (nodes : List Node) (b : IsBlockTree g nodes) (k : ℕ) → k < length nodes → edge_count (skeleton_graph nodes k) ≤ edge_count g
skeleton-few g nodes b k l = omega (
  arith,
  graph-edges g nodes b k l,
  number,
  rises-short (node_keys nodes k) (edge_count g) (b.tree.in_order.keys_rise k l) (λ i m.
      let here : i < length (node_at nodes k).items = subst (λ z. i < z) number m in
      subst (λ z. z < edge_count g) (sym (get_or-map item_key (node_at nodes k).items i (record { key = 0; a = 0; b = 0; what = Real 0 }) 0 here)) (key-fits g nodes b.tree k i here)),
)
  where
    number : length (node_keys nodes k) ≡ length (node_at nodes k).items
    number = length-map (node_at nodes k).items item_key

-- the part that edges of a graph make is a part of it
pub part-of : (g : Multigraph) (edges : List ℕ) (part : GraphPart) → IsPart g edges part → ((i : ℕ) → i < length edges → slice_index edges i < edge_count g) → IsPartOf g part
part-of g edges part h inside = record {
  is_part = subst (λ (z : List ℕ). IsPart g z part) (sym h.edges_are) h;
  inside = subst (λ (z : List ℕ). (i : ℕ) → i < length z → slice_index z i < edge_count g) (sym h.edges_are) inside;
}

-- what is decided of a part
pub part-answer : (g : Multigraph) (edges : List ℕ) (part : GraphPart) → IsPart g edges part → (answer : Option Obstacle)
    → MatchOption answer (HasPlaneSystem part.graph) (IsObstacleIn g part) → MatchOption answer (IsPlanarPart g edges) (IsObstacle g)
part-answer g edges part h None r = (part, h, r)
part-answer g edges part h (Some o) r = r.0

-- an obstacle of the part without an edge has fewer edges
without-fewer : (g : Multigraph) (e : ℕ) (part : GraphPart) → e < edge_count g → IsPart g (all_but (edge_count g) e) part → (o : Obstacle) → IsObstacleIn g part o → edge_count o.skeleton < edge_count g
without-fewer g e part l h o r = omega (
  arith,
  ap (λ (z : Multigraph). edge_count z) r.0.node.skeleton_is,
  skeleton-few o.block.graph o.tree r.0.tree o.node r.0.node.node.0,
  ap (λ (z : GraphPart). edge_count z.graph) r.1,
  h.numbered.edge_each,
  ap (λ (z : List ℕ). length z) h.edges_are,
  all_but-fewer (edge_count g) e l,
)

-- what is decided of it
pub without-answer : (g : Multigraph) (e : ℕ) (part : GraphPart) → e < edge_count g → IsPart g (all_but (edge_count g) e) part → (answer : Option Obstacle)
    → MatchOption answer (HasPlaneSystem part.graph) (IsObstacleIn g part) → MatchOption answer (IsPlaneWithout g e) (IsSmaller g)
without-answer g e part l h None r = (part, h, r)
without-answer g e part l h (Some o) r = (r.0, without-fewer g e part l h o r)
