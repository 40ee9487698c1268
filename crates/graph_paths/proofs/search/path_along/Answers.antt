-- The ends of the path are vertices of the part, connected there, and a path of the part is one of the graph.
use Rattle.std.proofs.Common.{◌≡◌, ◌∙◌, ℕ, ◌<◌, true, List, length, map, slice_index, sym, ap, subst}
use Rattle.permutations.specs.Relation.{connected}
use Rattle.multigraph.specs.Graph.{Multigraph, edge_count}
use Rattle.graph_theory.specs.Path.{IsPath}
use Rattle.graph_paths.proofs.PartPaths.{begins-at, ends-at, has-place, found-place, part-joined, outer-path, outer-among, walk-places}
use Rattle.graph_paths.proofs.search.path_along.Goals as goal

pub unreachable-requires : goal.unreachable-requires
unreachable-requires c = has-place c.args.g.now c.args.edges.now c.in_ok-part.part c.in_ok-part.ensures c.args.from
    (begins-at c.args.g.now c.args.edges.now c.args.from c.args.to c.requires.apart c.requires.path) c.in_default.ensures

pub unreachable-requires-in_default-inner_vertex : goal.unreachable-requires-in_default-inner_vertex
unreachable-requires-in_default-inner_vertex c = has-place c.args.g.now c.args.edges.now c.in_ok-part.part c.in_ok-part.ensures c.args.to
    (ends-at c.args.g.now c.args.edges.now c.args.from c.args.to c.requires.apart c.requires.path) c.in_default-inner_vertex.ensures

pub path_between-requires-clause-connected : goal.path_between-requires-clause-connected
path_between-requires-clause-connected c =
    let first = found-place c.args.g.now c.args.edges.now c.in_ok-part.part c.in_ok-part.ensures c.args.from c.in-Some.first c.in-Some.ensures in
    let last = found-place c.args.g.now c.args.edges.now c.in_ok-part.part c.in_ok-part.ensures c.args.to c.in-Some-inner_vertex.last c.in-Some-inner_vertex.ensures in
    subst (λ (z : Multigraph). connected z.ends c.in-Some-inner_vertex.last c.in-Some.first ≡ true) (sym c.graph.ensures.value)
    (part-joined c.args.g.now c.args.edges.now c.in_ok-part.part c.in_ok-part.ensures c.in-Some.first c.in-Some-inner_vertex.last c.args.from c.args.to first.0 last.0 first.1 last.1 c.requires.path)

pub whole_edges-requires : goal.whole_edges-requires
whole_edges-requires c =
    let path = subst (λ (z : Multigraph). IsPath z c.in-Some.first c.in_ok-along.along.items c.in-Some-inner_vertex.last) c.graph.ensures.value c.in_ok-along.ensures in
    subst (λ (z : List ℕ). (i : ℕ) → i < length z → slice_index z i < edge_count c.in_ok-part.part.graph) (sym c.deref.ensures.value)
    (walk-places c.args.g.now c.args.edges.now c.in_ok-part.part c.in_ok-part.ensures c.in-Some.first c.in_ok-along.along.items path.walk)

pub returns-clause-path : goal.returns-clause-path
returns-clause-path c =
    let first = found-place c.args.g.now c.args.edges.now c.in_ok-part.part c.in_ok-part.ensures c.args.from c.in-Some.first c.in-Some.ensures in
    let last = found-place c.args.g.now c.args.edges.now c.in_ok-part.part c.in_ok-part.ensures c.args.to c.in-Some-inner_vertex.last c.in-Some-inner_vertex.ensures in
    let path = subst (λ (z : Multigraph). IsPath z c.in-Some.first c.in_ok-along.along.items c.in-Some-inner_vertex.last) c.graph.ensures.value c.in_ok-along.ensures in
    outer-path c.args.g.now c.args.edges.now c.in_ok-part.part c.in_ok-part.ensures c.requires.within c.in-Some.first c.in-Some-inner_vertex.last c.args.from c.args.to c.in_ok-along.along.items c.in_ok-route.route
    first.0 first.1 last.1 path (c.in_ok-route.ensures ∙ ap (λ (z : List ℕ). map (λ e. slice_index c.in_ok-part.part.edges e) z) c.deref.ensures.value)

pub returns-clause-among : goal.returns-clause-among
returns-clause-among c =
    let path = subst (λ (z : Multigraph). IsPath z c.in-Some.first c.in_ok-along.along.items c.in-Some-inner_vertex.last) c.graph.ensures.value c.in_ok-along.ensures in
    outer-among c.args.g.now c.args.edges.now c.in_ok-part.part c.in_ok-part.ensures c.in-Some.first c.in_ok-along.along.items c.in_ok-route.route
    path.walk (c.in_ok-route.ensures ∙ ap (λ (z : List ℕ). map (λ e. slice_index c.in_ok-part.part.edges e) z) c.deref.ensures.value)
