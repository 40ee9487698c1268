use Rattle.std.proofs.Common.{◌≡◌, ℕ, ◌<◌, ◌⊎◌, inl, inr, List, length, sym, subst}
use Rattle.std.proofs.lemmas.Result.{IfOk-weaker}
use Rattle.multigraph.specs.Graph.{IsWithinLimits}
use Rattle.faces.specs.Steps.{AreFaceSteps}
use Rattle.pair_split.specs.Tutte.{Node, node_at}
use Rattle.pair_split.specs.declared.components.Kind.TheVariants.{S, P}
use Rattle.skeleton_runs.proofs.Contiguous.{plane-contiguous}
use Rattle.skel_compose.specs.Followers.{HasFollowers, IsTable}
use Rattle.skel_decompose.specs.Followers.{IsFamily, IsInRuns}
use Rattle.long_face.proofs.numbers.other_followers.Goals as goal

pub followers_by_steps-requires-clause-steps : goal.followers_by_steps-requires-clause-steps
followers_by_steps-requires-clause-steps c =
    let s = c.args.p.now in
    let runs : IsInRuns s.graph s.tree s.rotation = record { block = c.belongs.ensures.block; limits = subst IsWithinLimits c.graph.ensures.value c.keeps_limits.ensures.limits; system = c.belongs.ensures.plane.system; runs = plane-contiguous s.graph s.tree s.rotation c.belongs.ensures.block c.belongs.ensures.plane } in (
      s.rotation,
      subst (λ z. IsInRuns z c.tree-then-some_read.result.now s.rotation) (sym c.graph-then-some_read.ensures.value) (subst (λ (z : List Node). IsInRuns s.graph z s.rotation) (sym c.tree-then-some_read.ensures.value) runs),
      subst (λ z. AreFaceSteps z s.rotation c.args.block_steps.now) (sym c.graph-then-some_read.ensures.value) c.requires.steps,
    )

pub returns-then-some_read : goal.returns-then-some_read
returns-then-some_read c = λ k l h q.
    let s = c.args.p.now in
    let table = c.in_ok-followers_by_steps.field-0 in
    let runs : IsInRuns s.graph s.tree s.rotation = record { block = c.belongs.ensures.block; limits = subst IsWithinLimits c.graph.ensures.value c.keeps_limits.ensures.limits; system = c.belongs.ensures.plane.system; runs = plane-contiguous s.graph s.tree s.rotation c.belongs.ensures.block c.belongs.ensures.plane } in (
      subst (λ (z : List Node). IsTable z table) c.tree-then-some_read.ensures.value c.in_ok-followers_by_steps.ensures.table,
      λ family m. subst (λ (z : List Node). HasFollowers z family table) c.tree-then-some_read.ensures.value
          (c.in_ok-followers_by_steps.ensures.followers s.rotation family
          (subst (λ z. IsInRuns z c.tree-then-some_read.result.now s.rotation) (sym c.graph-then-some_read.ensures.value) (subst (λ (z : List Node). IsInRuns s.graph z s.rotation) (sym c.tree-then-some_read.ensures.value) runs))
          (subst (λ z. AreFaceSteps z s.rotation c.args.block_steps.now) (sym c.graph-then-some_read.ensures.value) c.requires.steps)
          (subst (λ (z : List Node). IsFamily z s.rotation family) (sym c.tree-then-some_read.ensures.value) m)),
    )

-- no node is read
pub returns : goal.returns
returns c = IfOk-weaker c.with_capacity.result _ _ (λ table w k l h q.
    elim (subst (λ (z : List Node). (j : ℕ) → j < length z → ((node_at z j).kind ≡ S) ⊎ ((node_at z j).kind ≡ P)) c.tree.ensures.value (c.some_read.ensures c.if-some_read.false) k l) [
      | inl e ↦ absurd (h e)
      | inr e ↦ absurd (q e)
    ]) c.with_capacity.ensures
