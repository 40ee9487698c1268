use Rattle.std.proofs.Common.{ℕ, ◌≤◌, List, length, slice_index, ap, ◌∙◌, sym, subst, arith}
use Rattle.std.proofs.lemmas.Grind.{get_or_default_zero}
use Rattle.planarity.specs.Lift.{spokes_on, spokes_off}
use Rattle.contract_obstruct.specs.Lifting.{LeadOverEdges}
use Rattle.contract_obstruct.proofs.LiftedWalks.{subdivision-edges}
use Rattle.contract_obstruct.proofs.LiftedCases.{level-first, level-second, level-split}
use Rattle.contract_obstruct.proofs.lifting.lift_branch.Goals as goal

pub spokes_apart-requires-clause-edges : goal.spokes_apart-requires-clause-edges
spokes_apart-requires-clause-edges c =
    subst (LeadOverEdges c.args.level.now) (sym c.as_slice.ensures)
    (subdivision-edges c.args.level.now c.requires.level c.args.s.now.kind c.args.s.now.branch c.args.s.now.paths c.requires.of)

pub lift_at-requires-clause-lifted : goal.lift_at-requires-clause-lifted
lift_at-requires-clause-lifted c =
    let few : length c.in_ok-on.on.items ≤ 1 = omega (arith, c.len.ensures, c.if-len-lt2.true, c.in_ok-on.on.ok.0) in
    level-first c.args.level.now c.requires.level c.args.s.now.kind c.args.s.now.branch c.args.s.now.paths c.requires.of c.args.m c.requires.place c.requires.merged c.in_ok-on.on.items
    (c.in_ok-on.ensures.on ∙ ap (λ (l : List (List ℕ)). spokes_on c.args.level.now.graph (slice_index c.args.level.now.kept.items) c.args.s.now.kind l c.args.level.now.y c.args.m) c.as_slice.ensures) few

pub lift_at-requires-then-len-lt2-2-clause-lifted :
    goal.lift_at-requires-then-len-lt2-2-clause-lifted
lift_at-requires-then-len-lt2-2-clause-lifted c =
    let few : length c.in_ok-on.off.items ≤ 1 = omega (arith, c.len-2.ensures, c.if-len-lt2-2.true, c.in_ok-on.off.ok.0) in
    level-second c.args.level.now c.requires.level c.args.s.now.kind c.args.s.now.branch c.args.s.now.paths c.requires.of c.args.m c.requires.place c.requires.merged c.in_ok-on.off.items
    (c.in_ok-on.ensures.off ∙ ap (λ (l : List (List ℕ)). spokes_off c.args.level.now.graph (slice_index c.args.level.now.kept.items) c.args.s.now.kind l c.args.level.now.y c.args.m) c.as_slice.ensures) few

pub lift_split-requires-clause-of : goal.lift_split-requires-clause-of
lift_split-requires-clause-of c =
    let two : 2 ≤ length c.in_ok-on.on.items = omega (arith, c.len.ensures, c.if-len-lt2.false, c.in_ok-on.on.ok.0) in
    let too : 2 ≤ length c.in_ok-on.off.items = omega (arith, c.len-2.ensures, c.if-len-lt2-2.false, c.in_ok-on.off.ok.0) in
    (level-split c.args.level.now c.requires.level c.args.s.now.kind c.args.s.now.branch c.args.s.now.paths c.requires.of c.args.m c.requires.place c.requires.merged c.in_ok-on.on.items c.in_ok-on.off.items
    (c.in_ok-on.ensures.on ∙ ap (λ (l : List (List ℕ)). spokes_on c.args.level.now.graph (slice_index c.args.level.now.kept.items) c.args.s.now.kind l c.args.level.now.y c.args.m) c.as_slice.ensures)
    (c.in_ok-on.ensures.off ∙ ap (λ (l : List (List ℕ)). spokes_off c.args.level.now.graph (slice_index c.args.level.now.kept.items) c.args.s.now.kind l c.args.level.now.y c.args.m) c.as_slice.ensures) two too).0

pub lift_split-requires-clause-lifted : goal.lift_split-requires-clause-lifted
lift_split-requires-clause-lifted c =
    let two : 2 ≤ length c.in_ok-on.on.items = omega (arith, c.len.ensures, c.if-len-lt2.false, c.in_ok-on.on.ok.0) in
    let too : 2 ≤ length c.in_ok-on.off.items = omega (arith, c.len-2.ensures, c.if-len-lt2-2.false, c.in_ok-on.off.ok.0) in
    (level-split c.args.level.now c.requires.level c.args.s.now.kind c.args.s.now.branch c.args.s.now.paths c.requires.of c.args.m c.requires.place c.requires.merged c.in_ok-on.on.items c.in_ok-on.off.items
    (c.in_ok-on.ensures.on ∙ ap (λ (l : List (List ℕ)). spokes_on c.args.level.now.graph (slice_index c.args.level.now.kept.items) c.args.s.now.kind l c.args.level.now.y c.args.m) c.as_slice.ensures)
    (c.in_ok-on.ensures.off ∙ ap (λ (l : List (List ℕ)). spokes_off c.args.level.now.graph (slice_index c.args.level.now.kept.items) c.args.s.now.kind l c.args.level.now.y c.args.m) c.as_slice.ensures) two too).1
    c.index.result.now c.index-2.result.now c.index-3.result.now c.index-4.result.now
    (c.index.ensures ∙ get_or_default_zero c.in_ok-on.off.items 0 c.index.result.now (omega arith)) (c.index-2.ensures ∙ get_or_default_zero c.in_ok-on.off.items 1 c.index-2.result.now (omega arith))
    (c.index-3.ensures ∙ get_or_default_zero c.in_ok-on.on.items 0 c.index-3.result.now (omega arith)) (c.index-4.ensures ∙ get_or_default_zero c.in_ok-on.on.items 1 c.index-4.result.now (omega arith))
