-- What stays true while turns are made.
use Rattle.std.proofs.Common.{◌≡◌, ℕ, ◌+◌, ◌<◌, ◌≤◌, sym, ap, ◌∙◌, subst, arith}
use Rattle.multigraph.specs.Graph.{Multigraph, edge_count, IsGraph, IsWithinLimits}
use Rattle.made_graph.specs.Made.{grown, drawn, edge_drawn, operation_drawn, turned, made_within, made}
use Rattle.made_graph.proofs.Growth.{turned-more, made-turn, within-over, made-planar}

-- the graph that is made is made from this graph and this number
pub record IsMaking (n seed : ℕ) (g : Multigraph) (x : ℕ) : Type 0 where
  pub leads : made n seed ≡ made_within n n g x
  pub six : 6 ≤ edge_count g
  pub few : edge_count g ≤ n + 4
  pub fewer : g.vertex_count + 2 ≤ edge_count g
  pub below : g.vertex_count < n

pub making-turn : (n seed : ℕ) (g : Multigraph) (x : ℕ) → edge_count g < n → IsMaking n seed g x → IsMaking n seed (turned g x) (drawn (drawn x))
making-turn n seed g x l t =
    let more = turned-more g x in
    let a = more.some in
    let b = more.five in
    let v = more.vertices in
    let w = more.two in
    let s = t.six in
    let f = t.fewer in
    record { leads = t.leads ∙ made-turn n g x l; six = omega (arith, s, a); few = omega (arith, l, b); fewer = omega (arith, f, v); below = omega (arith, l, f, w) }

-- at the end it is this graph
pub making-over : (n seed : ℕ) (g : Multigraph) (x : ℕ) → n ≤ edge_count g → IsMaking n seed g x → made n seed ≡ g
making-over n seed g x l t = t.leads ∙ within-over n n g x l

pub making-graph : (n seed : ℕ) (g : Multigraph) (x : ℕ) → 6 ≤ n → n ≤ edge_count g → IsMaking n seed g x → IsGraph g
making-graph n seed g x s l t = subst IsGraph (making-over n seed g x l t) (made-planar n seed s).is_graph

-- within the limits, where not too many edges are asked for
pub making-limits : (n seed : ℕ) (g : Multigraph) (x : ℕ) → n ≤ 20000 → IsMaking n seed g x → IsWithinLimits g
making-limits n seed g x m t = let few = t.few in let below = t.below in record { few_vertices = omega (arith, m, below); few_edges = omega (arith, m, few) }

-- one turn of the loop, by what its calls gave
pub making-step : (n seed : ℕ) (g h : Multigraph) (x e operation y : ℕ) → edge_count g < n → y ≡ drawn (drawn x) → e ≡ edge_drawn (drawn x) (edge_count g) → operation ≡ operation_drawn y → h ≡ grown g e operation → IsMaking n seed g x → IsMaking n seed h y
making-step n seed g h x e operation y l ys es os hs t =
    subst (λ z. IsMaking n seed h z) (sym ys) (subst (λ k. IsMaking n seed k (drawn (drawn x))) (sym (hs ∙ ap (λ z. grown g z operation) es ∙ ap (grown g (edge_drawn (drawn x) (edge_count g))) (os ∙ ap operation_drawn ys))) (making-turn n seed g x l t))
