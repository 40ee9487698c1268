use Rattle.std.proofs.Common.{◌∙◌, List, [], map, refl, sym, ap, subst, All}
use Rattle.skel_embed.specs.Values.{as_moves}
use Rattle.embed_moves.specs.Made.{Fits}
use Rattle.spqr_session.specs.State.{State}
use Rattle.spqr_session.specs.Embedded.{BlockView, view_tree, view_entry, view_at}
use Rattle.spqr_session.specs.BlockCodes.{read_ladder}
use Rattle.spqr_session.specs.Members.{StandsAt}
use Rattle.spqr_session.specs.Products.{product_rank_codes}
use Rattle.spqr_session.specs.PlannedMoves.{IsAfterMoves, IsMovesPlanAt}
use Rattle.spqr_session.proofs.BlockTrees.{view-at}
use Rattle.spqr_session.proofs.MovesPlanned.{after-change}
use Rattle.spqr_session.proofs.commands.convert.plan_convert.Goals as goal

-- a state of these blocks
abbrev some-state : List BlockView → State
some-state views = record { present = record { entries = map view_entry views; arrangements = [] }; earlier = []; later = [] }

pub unreachable-requires : goal.unreachable-requires
unreachable-requires c =
    let views = c.args.blocks.now in
    subst (IsMovesPlanAt (read_ladder (product_rank_codes c.args.r) (map view_tree views) c.args.b (some-state views)) (StandsAt c.args.r) views c.args.b) c.in-End.is (c.in_ok-planned.ensures (some-state views) refl)

pub returns-in-Refused : goal.returns-in-Refused
returns-in-Refused c = λ s present.
    let views = c.args.blocks.now in
    subst (IsMovesPlanAt (read_ladder (product_rank_codes c.args.r) (map view_tree views) c.args.b s) (StandsAt c.args.r) views c.args.b) c.in-Refused.is (c.in_ok-planned.ensures s present)

pub bounds-blocks-b : goal.bounds-blocks-b
bounds-blocks-b c =
    let views = c.args.blocks.now in
    (subst (IsMovesPlanAt (read_ladder (product_rank_codes c.args.r) (map view_tree views) c.args.b (some-state views)) (StandsAt c.args.r) views c.args.b) c.in-Make.is (c.in_ok-planned.ensures (some-state views) refl)).0

pub after_moves-requires-clause-planar : goal.after_moves-requires-clause-planar
after_moves-requires-clause-planar c =
    let views = c.args.blocks.now in
    let plan = subst (IsMovesPlanAt (read_ladder (product_rank_codes c.args.r) (map view_tree views) c.args.b (some-state views)) (StandsAt c.args.r) views c.args.b) c.in-Make.is (c.in_ok-planned.ensures (some-state views) refl) in
    (plan.2.old, ap (λ (v : BlockView). v.entry) (view-at views c.args.b c.index-blocks-b.result plan.0 c.index-blocks-b.is) ∙ plan.2.present)

pub after_moves-requires-clause-moves : goal.after_moves-requires-clause-moves
after_moves-requires-clause-moves c =
    let views = c.args.blocks.now in
    let plan = subst (IsMovesPlanAt (read_ladder (product_rank_codes c.args.r) (map view_tree views) c.args.b (some-state views)) (StandsAt c.args.r) views c.args.b) c.in-Make.is (c.in_ok-planned.ensures (some-state views) refl) in
    subst (λ (v : BlockView). All (Fits v.tree.nodes) (as_moves c.in-Make.moves)) (sym (view-at views c.args.b c.index-blocks-b.result plan.0 c.index-blocks-b.is)) plan.2.are.fit

pub returns-in_ok-plane-in-Make : goal.returns-in_ok-plane-in-Make
returns-in_ok-plane-in-Make c = λ s present.
    let views = c.args.blocks.now in
    let plan = subst (IsMovesPlanAt (read_ladder (product_rank_codes c.args.r) (map view_tree views) c.args.b s) (StandsAt c.args.r) views c.args.b) c.in-Make.is (c.in_ok-planned.ensures s present) in
    let after = subst (λ (v : BlockView). IsAfterMoves v (as_moves c.in-Make.moves) c.in_ok-plane-in-Make.plane) (view-at views c.args.b c.index-blocks-b.result plan.0 c.index-blocks-b.is) (c.in_ok-plane-in-Make.ensures {u = tt}) in
    (plan.0, plan.1, after-change (StandsAt c.args.r) (view_at views c.args.b) (as_moves c.in-Make.moves) c.in_ok-plane-in-Make.plane plan.2 after)
