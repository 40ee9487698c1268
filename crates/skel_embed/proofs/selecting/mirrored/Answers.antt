use Rattle.std.proofs.Common.{◌∙◌, ℕ, List, sym, ap, subst}
use Rattle.multigraph.specs.Graph.{Multigraph, edge_count}
use Rattle.rotations.specs.Rotation.{IsRotationSystem}
use Rattle.rotations.specs.Runs.{mirror_image}
use Rattle.skeletons.specs.Families.{skeleton_graph, system_at}
use Rattle.skeleton_runs.proofs.SkeletonGraph.{graph-edges}
use Rattle.faces.proofs.MapMirror.{mirror-system}
use Rattle.skel_compose.specs.Followers.{IsRow, HasNext}
use Rattle.skel_compose.proofs.RowLists.{row-made}
use Rattle.skel_embed.proofs.FirstRows.{if-ok}
use Rattle.skel_embed.proofs.selecting.mirrored.Goals as goal

pub member_of-requires-clause-family : goal.member_of-requires-clause-family
member_of-requires-clause-family c = let w = c.requires.family in (w.0, w.1.systems, w.1.followers)

pub next_edges-requires : goal.next_edges-requires
next_edges-requires c =
    let w = c.requires.family in
    let nodes = c.args.tree.now in
    let k = c.args.k in
    let is = c.mirror.ensures ∙ ap mirror_image (c.in_ok-member.ensures w.0 w.1.systems w.1.followers) in
    subst (λ (z : List (List ℕ)). IsRotationSystem c.in_ok-graph.graph z) (sym is)
    (subst (λ (z : Multigraph). IsRotationSystem z (mirror_image (system_at w.0 k))) (sym c.in_ok-graph.ensures.skeleton) (mirror-system (skeleton_graph nodes k) (system_at w.0 k) (w.1.systems.systems k c.requires.node)))

pub returns : goal.returns
returns c = λ family t.
    let nodes = c.args.tree.now in
    let k = c.args.k in
    let row = c.next_edges.new.row.items in
    let is = c.mirror.ensures ∙ ap mirror_image (c.in_ok-member.ensures family t.systems t.followers) in
    if-ok c.next_edges.result (HasNext c.in_ok-graph.graph c.mirror.new.self (edge_count c.in_ok-graph.graph) row) (IsRow nodes k (mirror_image (system_at family k)) row)
    (λ h. row-made c.requires.block.0 nodes c.requires.block.1 k c.requires.node (mirror_image (system_at family k)) row
    (subst (λ n. HasNext (skeleton_graph nodes k) (mirror_image (system_at family k)) n row) (graph-edges c.requires.block.0 nodes c.requires.block.1 k c.requires.node)
    (subst (λ (z : List (List ℕ)). HasNext (skeleton_graph nodes k) z (edge_count (skeleton_graph nodes k)) row) is (subst (λ (z : Multigraph). HasNext z c.mirror.new.self (edge_count z) row) c.in_ok-graph.ensures.skeleton h))))
    c.next_edges.ensures
