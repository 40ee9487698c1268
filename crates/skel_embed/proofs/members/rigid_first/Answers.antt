use Rattle.std.proofs.Common.{◌≡◌, ◌<◌, ◌∙◌, ◌++◌, List, true, length, map, sym, ap, subst, arith}
use Rattle.permutations.specs.Members.{is_member}
use Rattle.multigraph.specs.Graph.{Multigraph, edge_count}
use Rattle.graph_theory.specs.Triconnected.{IsTriconnected}
use Rattle.planarity.specs.declared.embedder.Embedded.TheVariants.{Plane}
use Rattle.planarity.specs.Embedding.{IsEmbedding}
use Rattle.rotations.specs.Rotation.{order_at}
use Rattle.pair_split.specs.declared.components.Item.{Item}
use Rattle.skeletons.proofs.NodeItems.{nth_item}
use Rattle.skeleton_runs.proofs.SkeletonGraph.{skeleton-triconnected}
use Rattle.skel_compose.specs.Followers.{HasNext}
use Rattle.skel_embed.specs.Fan.{TurnsRightWherePlane}
use Rattle.skel_embed.proofs.First.{low-in, low-is, item-in}
use Rattle.skel_embed.proofs.FirstRows.{first-rigid}
use Rattle.skel_embed.proofs.members.rigid_first.Goals as goal

pub first_embedding-requires : goal.first_embedding-requires
first_embedding-requires c c' = subst IsTriconnected (sym c'.in_ok-graph.ensures.skeleton) (skeleton-triconnected c'.requires.block.0 c'.args.tree.now c'.requires.block.1 c'.args.k c'.requires.node).1

pub next_edges-requires : goal.next_edges-requires
next_edges-requires c c' = (subst (IsEmbedding c'.in_ok-graph.graph) c'.in-Plane.is c'.in_ok-r.ensures.embedding).system

pub append_round-requires-clause-vertex : goal.append_round-requires-clause-vertex
append_round-requires-clause-vertex c c' =
    let y = c'.requires.block in
    let e = subst (λ (z : Multigraph). IsEmbedding z (Plane c'.in-Plane.r)) c'.in_ok-graph.ensures.skeleton (subst (IsEmbedding c'.in_ok-graph.graph) c'.in-Plane.is c'.in_ok-r.ensures.embedding) in
    omega (arith, e.system.vertices, low-in y.0 c'.args.tree.now y.1 c'.args.k c'.requires.node.0)

pub append_round-requires-clause-within : goal.append_round-requires-clause-within
append_round-requires-clause-within c c' = λ i m.
    let y = c'.requires.block in
    let e = subst (λ (z : Multigraph). IsEmbedding z (Plane c'.in-Plane.r)) c'.in_ok-graph.ensures.skeleton (subst (IsEmbedding c'.in_ok-graph.graph) c'.in-Plane.is c'.in_ok-r.ensures.embedding) in
    subst (λ (z : List Item). i < length z) (sym c'.items.ensures)
    (item-in y.0 c'.args.tree.now y.1 c'.args.k c'.requires.node.0 c'.in-Plane.r e.system i (subst (λ z. is_member i (order_at c'.in-Plane.r z) ≡ true) (sym (low-is y.0 c'.args.tree.now y.1 c'.args.k c'.requires.node.0)) m))

pub returns-in_ok-append_round-in-Plane : goal.returns-in_ok-append_round-in-Plane
returns-in_ok-append_round-in-Plane c c' =
    let y = c'.requires.block in
    let nodes = c'.args.tree.now in
    let k = c'.args.k in
    let r = c'.in-Plane.r in
    let row = c'.next_edges.new.row.items in
    let e = subst (λ (z : Multigraph). IsEmbedding z (Plane r)) c'.in_ok-graph.ensures.skeleton (subst (IsEmbedding c'.in_ok-graph.graph) c'.in-Plane.is c'.in_ok-r.ensures.embedding) in
    first-rigid y.0 nodes y.1 k c'.requires.node.0 row c'.args.keys.now.items c'.append_round.new.keys.items c'.requires.node.1 r e.system e.plane (subst TurnsRightWherePlane c'.in-Plane.is c'.in_ok-r.ensures.right)
    (subst (λ (z : Multigraph). HasNext z r (edge_count z) row) c'.in_ok-graph.ensures.skeleton (c'.in_ok-next_edges-in-Plane.ensures {u = tt}))
    (c'.in_ok-append_round-in-Plane.ensures {u = tt} ∙ ap (λ (z : List Item). c'.args.keys.now.items ++ map (λ i. (nth_item z i).key) (order_at r 0)) c'.items.ensures)
