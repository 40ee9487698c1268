use Rattle.std.proofs.Common.{ℕ, ◌+◌, ◌*◌, ◌/◌, ◌<◌, get_or, length, sym, subst, arith}
use Rattle.multigraph.specs.Graph.{edge_count}
use Rattle.skel_compose.specs.Homes.{HasHomes}
use Rattle.skel_decompose.specs.Followers.{IsStep, HasLast, HaveLasts}
use Rattle.skel_decompose.proofs.Followed.{home-read, step-first, step-second, lasts-more, all-followed}
use Rattle.skel_decompose.proofs.filling.followers_by_steps.Goals as goal

pub join-requires-clause-step : goal.join-requires-clause-step
join-requires-clause-step c =
    let l : c.loop-e.e < edge_count c.args.g.now = omega (arith, c.loop-e-test.true, c.edge_count-e-end.ensures.value) in (
      c.args.g.now,
      c.requires.steps.0,
      subst (λ (z : ℕ × ℕ). IsStep c.args.g.now c.args.tree.now c.requires.steps.0 z.0 c.loop-e.e (get_or c.args.steps.now (2 * c.loop-e.e + 1) 0 / 2)) (sym c.ends-a.ensures.value)
          (step-first c.args.g.now c.args.tree.now c.requires.steps.0 c.requires.steps.1 c.args.steps.now c.requires.steps.2 c.loop-e.e l),
      subst (HasHomes c.args.g.now c.args.tree.now (length c.args.tree.now) 0) (sym c.deref.ensures.value) c.in_ok-homes.ensures.homes,
    )

pub join-requires-clause-node : goal.join-requires-clause-node
join-requires-clause-node c =
    let l : c.loop-e.e < edge_count c.args.g.now = omega (arith, c.loop-e-test.true, c.edge_count-e-end.ensures.value) in
    (home-read c.args.g.now c.args.tree.now c.requires.steps.0 c.requires.steps.1 c.in_ok-homes.field-0.homes.items c.in_ok-homes.ensures.homes c.loop-e.e l c.index-home.result.now c.index-home.ensures).0

pub join-requires-clause-home : goal.join-requires-clause-home
join-requires-clause-home c =
    let l : c.loop-e.e < edge_count c.args.g.now = omega (arith, c.loop-e-test.true, c.edge_count-e-end.ensures.value) in
    (home-read c.args.g.now c.args.tree.now c.requires.steps.0 c.requires.steps.1 c.in_ok-homes.field-0.homes.items c.in_ok-homes.ensures.homes c.loop-e.e l c.index-home.result.now c.index-home.ensures).1

pub join-requires-in-loop-e-clause-step : goal.join-requires-in-loop-e-clause-step
join-requires-in-loop-e-clause-step c =
    let l : c.loop-e.e < edge_count c.args.g.now = omega (arith, c.loop-e-test.true, c.edge_count-e-end.ensures.value) in (
      c.args.g.now,
      c.requires.steps.0,
      subst (λ (z : ℕ × ℕ). IsStep c.args.g.now c.args.tree.now c.requires.steps.0 z.1 c.loop-e.e (get_or c.args.steps.now (2 * c.loop-e.e) 0 / 2)) (sym c.ends-a.ensures.value)
          (step-second c.args.g.now c.args.tree.now c.requires.steps.0 c.requires.steps.1 c.args.steps.now c.requires.steps.2 c.loop-e.e l),
      subst (HasHomes c.args.g.now c.args.tree.now (length c.args.tree.now) 0) (sym c.deref-in-loop-e-3.ensures.value) c.in_ok-homes.ensures.homes,
    )

pub join-requires-in-loop-e-clause-node : goal.join-requires-in-loop-e-clause-node
join-requires-in-loop-e-clause-node c =
    let l : c.loop-e.e < edge_count c.args.g.now = omega (arith, c.loop-e-test.true, c.edge_count-e-end.ensures.value) in
    (home-read c.args.g.now c.args.tree.now c.requires.steps.0 c.requires.steps.1 c.in_ok-homes.field-0.homes.items c.in_ok-homes.ensures.homes c.loop-e.e l c.index-home.result.now c.index-home.ensures).0

pub join-requires-in-loop-e-clause-home : goal.join-requires-in-loop-e-clause-home
join-requires-in-loop-e-clause-home c =
    let l : c.loop-e.e < edge_count c.args.g.now = omega (arith, c.loop-e-test.true, c.edge_count-e-end.ensures.value) in
    (home-read c.args.g.now c.args.tree.now c.requires.steps.0 c.requires.steps.1 c.in_ok-homes.field-0.homes.items c.in_ok-homes.ensures.homes c.loop-e.e l c.index-home.result.now c.index-home.ensures).1

-- the climbs from one edge more
pub loop-e-preserved : goal.loop-e-preserved
loop-e-preserved c = (
  c.join-in-loop-e.ensures.table,
  λ r family d s f.
      let l : c.loop-e.e < edge_count c.args.g.now = omega (arith, c.loop-e-test.true, c.edge_count-e-end.ensures.value) in
      let one : IsStep c.args.g.now c.args.tree.now r c.ends-a.result.0 c.loop-e.e (get_or c.args.steps.now (2 * c.loop-e.e + 1) 0 / 2) = subst (λ (z : ℕ × ℕ). IsStep c.args.g.now c.args.tree.now r z.0 c.loop-e.e (get_or c.args.steps.now (2 * c.loop-e.e + 1) 0 / 2)) (sym c.ends-a.ensures.value)
      (step-first c.args.g.now c.args.tree.now r d c.args.steps.now s c.loop-e.e l) in
      let two : IsStep c.args.g.now c.args.tree.now r c.ends-a.result.1 c.loop-e.e (get_or c.args.steps.now (2 * c.loop-e.e) 0 / 2) = subst (λ (z : ℕ × ℕ). IsStep c.args.g.now c.args.tree.now r z.1 c.loop-e.e (get_or c.args.steps.now (2 * c.loop-e.e) 0 / 2)) (sym c.ends-a.ensures.value)
      (step-second c.args.g.now c.args.tree.now r d c.args.steps.now s c.loop-e.e l) in
      lasts-more c.args.g.now c.args.tree.now r d family c.loop-e.e c.loop-e.table c.join.new.table c.join-in-loop-e.new.table (c.loop-e.invariant.1 r family d s f)
      (c.join.ensures.keeps c.args.g.now r family one f)
      (subst (λ (z : ℕ × ℕ). HasLast c.args.tree.now r family c.join.new.table z.0 c.loop-e.e) c.ends-a.ensures.value (c.join.ensures.last c.args.g.now r family one f))
      (c.join-in-loop-e.ensures.keeps c.args.g.now r family two f)
      (subst (λ (z : ℕ × ℕ). HasLast c.args.tree.now r family c.join-in-loop-e.new.table z.1 c.loop-e.e) c.ends-a.ensures.value (c.join-in-loop-e.ensures.last c.args.g.now r family two f)),
)

pub returns-clause-followers : goal.returns-clause-followers
returns-clause-followers c = λ r family d s f. all-followed c.args.g.now c.args.tree.now r d family c.loop-e.table
    (subst (HaveLasts c.args.g.now c.args.tree.now r family c.loop-e.table) (omega (arith, c.loop-e-test.false, c.edge_count-e-end.ensures.value, c.loop-e.auto)) (c.loop-e.invariant.1 r family d s f))
