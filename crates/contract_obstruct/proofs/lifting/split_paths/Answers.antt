use Rattle.std.proofs.Common.{ℕ, ◌<◌, List, length, slice_index_or, sym, subst}
use Rattle.graph_theory.specs.Path.{IsWalk}
use Rattle.kuratowski.specs.Subdivision.{branch_at, pattern_edges}
use Rattle.kuratowski.specs.declared.subdivision.Pattern.TheVariants.{K5, K33}
use Rattle.planarity.specs.Lift.{split_over}
use Rattle.contract_obstruct.specs.Lifting.{lifted_path}
use Rattle.contract_obstruct.proofs.LiftedWalks.{pattern-walk}
use Rattle.contract_obstruct.proofs.lifting.split_paths.Goals as goal

pub lifted_path-requires-clause-walk : goal.lifted_path-requires-clause-walk
lifted_path-requires-clause-walk c =
    let level = c.args.level.now in
    let branch = c.args.branch.now in
    let k = c.loop-pair.pair-index in
    let over : ℕ × ℕ → ℕ × ℕ = λ p. (split_over c.args.m c.args.off.0 c.args.off.1 c.args.on.0 c.args.on.1 p.0, split_over c.args.m c.args.off.0 c.args.off.1 c.args.on.0 c.args.on.1 p.1) in
    let path : ℕ × ℕ → ℕ × ℕ → List ℕ = λ p o. lifted_path level K5 c.args.paths.now branch p o in
    let l : k < length (pattern_edges K33) = subst (λ (pairs : List (ℕ × ℕ)). k < length pairs) c.edges-pair-items.ensures c.loop-pair-test.true in
    let pair = slice_index_or c.edges-pair-items.result.now k (0, 0) in
    let walk : IsWalk level.graph (branch_at branch pair.0) (path pair (over pair)) =
    subst (λ (pairs : List (ℕ × ℕ)). IsWalk level.graph (branch_at branch (slice_index_or pairs k (0, 0)).0) (path (slice_index_or pairs k (0, 0)) (over (slice_index_or pairs k (0, 0)))))
    (sym c.edges-pair-items.ensures) (pattern-walk level.graph K33 branch (λ p. path p (over p)) c.requires.lifted k l) in
    subst (λ (o : ℕ × ℕ). IsWalk level.graph (branch_at branch pair.0) (path pair o)) (sym (λ j. (c.split_over.ensures j, c.split_over-in-loop-pair.ensures j))) walk
