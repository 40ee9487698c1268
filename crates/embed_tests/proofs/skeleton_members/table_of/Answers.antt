use Rattle.std.proofs.Common.{◌≡◌, ℕ, List, sym, subst}
use Rattle.faces.specs.Euler.{IsPlaneSystem}
use Rattle.multigraph.specs.Graph.{Multigraph}
use Rattle.pair_split.specs.Tutte.{Node}
use Rattle.skeletons.specs.Items.{IsBlockTree}
use Rattle.skeleton_runs.proofs.Contiguous.{plane-contiguous}
use Rattle.skel_compose.specs.Followers.{IsTable, IsTableOf}
use Rattle.skel_decompose.specs.Followers.{IsInRuns}
use Rattle.skel_decompose.proofs.Around.{some-family}
use Rattle.embed_tests.proofs.skeleton_members.table_of.Goals as goal

-- the groups of a plane block are in runs
pub followers-requires : goal.followers-requires
followers-requires c =
    let g = c.graph-graph.result.now in
    let nodes = c.tree.result.now in
    let r = c.rotation.result.now in
    let b : IsBlockTree g nodes = subst (λ (z : Multigraph). IsBlockTree z nodes) (sym c.graph-graph.ensures.value) (subst (IsBlockTree c.args.block.now.graph) (sym c.tree.ensures.value) c.graph-graph.ensures.state.block) in
    let p : IsPlaneSystem g r = subst (λ (z : Multigraph). IsPlaneSystem z r) (sym c.graph-graph.ensures.value) (subst (IsPlaneSystem c.args.block.now.graph) (sym c.rotation.ensures.value) c.graph-graph.ensures.state.plane) in
    record { runs = record { block = b; limits = c.keeps_limits.ensures.limits; system = p.system; runs = plane-contiguous g nodes r b p } }

pub returns-clause-table : goal.returns-clause-table
returns-clause-table c = subst (λ (z : List Node). IsTable z c.in_ok-table.table) c.tree.ensures.value c.in_ok-table.ensures.table

pub returns-clause-family : goal.returns-clause-family
returns-clause-family c =
    let g = c.graph-graph.result.now in
    let nodes = c.tree.result.now in
    let r = c.rotation.result.now in
    let b : IsBlockTree g nodes = subst (λ (z : Multigraph). IsBlockTree z nodes) (sym c.graph-graph.ensures.value) (subst (IsBlockTree c.args.block.now.graph) (sym c.tree.ensures.value) c.graph-graph.ensures.state.block) in
    let p : IsPlaneSystem g r = subst (λ (z : Multigraph). IsPlaneSystem z r) (sym c.graph-graph.ensures.value) (subst (IsPlaneSystem c.args.block.now.graph) (sym c.rotation.ensures.value) c.graph-graph.ensures.state.plane) in
    let runs : IsInRuns g nodes r = record { block = b; limits = c.keeps_limits.ensures.limits; system = p.system; runs = plane-contiguous g nodes r b p } in
    let w = some-family g nodes r runs in
    let t : IsTableOf nodes c.in_ok-table.table w.0 = record { systems = w.1.systems; followers = c.in_ok-table.ensures.followers w.0 w.1 } in
    subst (λ (z : List Node). (family : List (List (List ℕ))) × IsTableOf z c.in_ok-table.table family) c.tree.ensures.value (w.0, t)
