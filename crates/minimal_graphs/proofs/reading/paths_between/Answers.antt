use Rattle.std.proofs.Common.{◌≡◌, ◌<◌, ◌+◌, ◌∷◌, [], ℕ, true, List, length, slice_index_or, sym, ap, subst, arith}
use Rattle.std.proofs.lemmas.List.{length_push}
use Rattle.multigraph.specs.Graph.{edge_count}
use Rattle.kuratowski.specs.Subdivision.{branch_at, path_at}
use Rattle.minimal_graphs.specs.Whole.{joins, IsEdgePath}
use Rattle.minimal_graphs.proofs.ReadOff.{edges-more}
use Rattle.minimal_graphs.proofs.reading.paths_between.Goals as goal

pub loop-pair-preserved : goal.loop-pair-preserved
loop-pair-preserved c =
    let n = c.loop-pair.pair-index in
    let last : IsEdgePath c.args.g.now c.args.kind c.args.branch.now n c.in_ok-path_between.field-0 =
    subst (λ (pairs : List (ℕ × ℕ)). (e : ℕ) × (e < edge_count c.args.g.now)
    × (joins c.args.g.now (branch_at c.args.branch.now (slice_index_or pairs n (0, 0)).0) (branch_at c.args.branch.now (slice_index_or pairs n (0, 0)).1) e ≡ true)
    × (c.in_ok-path_between.field-0 ≡ e ∷ [])) c.edges-pairs.ensures c.in_ok-path_between.ensures in
    record {
      long = omega (arith, ap (λ (l : List (List ℕ)). length l) c.in_ok-push.ensures.items, length_push c.loop-pair.paths.items c.in_ok-path_between.field-0, c.loop-pair.invariant.long);
      each = subst (λ (l : List (List ℕ)). (k : ℕ) → k < n + 1 → IsEdgePath c.args.g.now c.args.kind c.args.branch.now k (path_at l k)) (sym c.in_ok-push.ensures.items)
          (edges-more c.args.g.now c.args.kind c.args.branch.now c.loop-pair.paths.items c.in_ok-path_between.field-0 n c.loop-pair.invariant.long c.loop-pair.invariant.each last);
    }
