use Rattle.std.proofs.Common.{◌≡◌, ℕ, ◌<◌, List, length, map, slice_index, sym, ap, ◌∙◌, subst}
use Rattle.multigraph.specs.Graph.{edge_count}
use Rattle.kuratowski.specs.Subdivision.{pattern_edges}
use Rattle.planarity.specs.Lift.{path_of_pair}
use Rattle.contract_obstruct.proofs.LiftedWalks.{between-edges}
use Rattle.contract_obstruct.proofs.lifting.leaves_by.Goals as goal

pub touches-requires : goal.touches-requires
touches-requires c =
    let level = c.args.level.now in
    let path = c.deref-2.ensures.value ∙ (c.in_ok-path.ensures ∙ ap (λ (pairs : List (ℕ × ℕ)). path_of_pair pairs c.args.paths.now c.args.m c.args.i) c.edges.ensures) in
    let edges : c.deref-3.result.now ≡ map (slice_index level.kept.items) (path_of_pair (pattern_edges c.args.kind) c.args.paths.now c.args.m c.args.i) =
    c.deref-3.ensures.value ∙ (c.in_ok-edges.ensures ∙ (λ j. map (slice_index (c.deref.ensures.value j)) (path j))) in
    subst (λ (l : List ℕ). (t : ℕ) → t < length l → slice_index l t < edge_count level.graph) (sym edges)
    (between-edges level (pattern_edges c.args.kind) c.args.paths.now c.args.m c.args.i c.requires.edges)
