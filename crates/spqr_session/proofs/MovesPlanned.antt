-- Plans of moves of a block: those of a block that is seen in the plane, how they are found among others, and what comes of them.
use Rattle.std.proofs.Common.{◌≡◌, ℕ, ◌<◌, true, List, length, map, Option, None, Some, Result, Ok, Err, IfOk, OnErr, All, sym, ap, ◌∙◌, subst}
use Rattle.std.specs.Global.{Vec}
use Rattle.multigraph.specs.Graph.{Multigraph}
use Rattle.pair_split.specs.Tutte.{Node}
use Rattle.faces.specs.Euler.{IsPlaneSystem}
use Rattle.skeletons.specs.Moves.{Move, Lead}
use Rattle.skel_embed.specs.Block.{BlockState}
use Rattle.skel_embed.specs.Values.{as_moves}
use Rattle.embed_enum.specs.Walk.{AreMovesTo}
use Rattle.embed_moves.specs.Made.{Fits}
use Rattle.spqr_session.specs.Trees.{BlockTree}
use Rattle.spqr_session.specs.State.{Embedding, State}
use Rattle.spqr_session.specs.Embedded.{BlockView, view_entry, view_at}
use Rattle.spqr_session.specs.Scene.{setting_on}
use Rattle.spqr_session.specs.declared.scene.Scene.{Scene}
use Rattle.spqr_session.specs.Board.{BoardView, IsCarried, CanMake, AreMade, state_on, BelongTogether}
use Rattle.spqr_session.specs.Codes.{Ladder, rises_above, first_code}
use Rattle.spqr_session.specs.BlockCodes.{ChangesBlock, Silently, ChangeStep}
use Rattle.spqr_session.specs.Moved.{all_moved}
use Rattle.spqr_session.specs.Planned.{IsChangeOf}
use Rattle.spqr_session.specs.PlannedMoves.{AreMovesOf, IsAfterMoves, IsMovesPlanAt, CanSettle, AreSettled}
use Rattle.spqr_session.specs.declared.planned_moves.PlannedMoves.{PlannedMoves}
use Rattle.spqr_session.specs.declared.planned_moves.PlannedMoves.TheVariants.{Refused, End, Make}
use Rattle.spqr_session.proofs.Ladders.{refused-first}
use Rattle.spqr_session.proofs.BlockCarried.{entry-same}
use Rattle.spqr_session.proofs.Moved.{lead-made}
use Rattle.spqr_session.proofs.Plans.{whole, verdict-found, changed-step, nothing-carried}
use Rattle.spqr_session.proofs.Planes.{seen_embedding, SeenPlane}
use Rattle.spqr_session.proofs.WaysBack.{all-lead}

-- the plan for a block with this view: the first code that applies, or where there is none moves of the block
abbrev pub IsMovesPlan : Ladder → (BlockTree → Embedding → Embedding → Type 0) → BlockView → PlannedMoves → Type 0
IsMovesPlan ladder IsChange v (Refused code) = first_code ladder ≡ Some code
IsMovesPlan ladder IsChange v End = ⊥
IsMovesPlan ladder IsChange v (Make moves) = (first_code ladder ≡ None) × AreMovesOf IsChange v (as_moves moves)

-- moves that lead a block that is seen in the plane to a condition are moves of the block, where what meets the condition is a change
pub moves-seen : (v : BlockView) (p : BlockState) → SeenPlane v p → (Condition : List (List ℕ) → Type 0) (IsChange : BlockTree → Embedding → Embedding → Type 0)
    → ((q : List (List ℕ)) → Condition q → IsChange v.tree (seen_embedding p) (record { rotation = q; locks = p.locks })) → (moves : List Move) → AreMovesTo p Condition moves → AreMovesOf IsChange v moves
moves-seen v p seen Condition IsChange change moves to =
    let g = v.tree.part.graph in
    let nodes = v.tree.nodes in
    let lead : Lead g nodes (IsPlaneSystem g) moves p.rotation to.end =
    subst (λ (t : List Node). Lead v.tree.part.graph t (IsPlaneSystem v.tree.part.graph) moves p.rotation to.end) seen.nodes
    (subst (λ (x : Multigraph). Lead x p.tree (IsPlaneSystem x) moves p.rotation to.end) seen.graph to.lead) in
    let made = lead-made g nodes seen.tree moves p.rotation to.end seen.right.0 lead in
    record {
      old = seen_embedding p;
      present = seen.entry;
      are = record { fit = made.0; apart = to.apart };
      change = λ q l. change q (subst Condition (sym made.1 ∙ (lead-made g nodes seen.tree moves p.rotation q seen.right.0 l).1) to.meets);
    }

-- ---- from the block to the blocks

-- the plan of the block that is found at its place
module _ (codes : BlockTree → Option Embedding → Ladder) (IsChange : BlockTree → Embedding → Embedding → Type 0) (views : List BlockView) (b : ℕ) (s : State) (present : s.present.entries ≡ map view_entry views) where
  pub moves-found : (v : BlockView) (planned : PlannedMoves) → b < length views → v ≡ view_at views b → IsMovesPlan (codes v.tree v.entry) IsChange v planned → IsMovesPlanAt (whole codes views b s present) IsChange views b planned
  moves-found v (Refused code) l at q = verdict-found codes views b s present v (Some code) l at q
  moves-found v End l at q = absurd q
  moves-found v (Make moves) l at q = (l, verdict-found codes views b s present v None l at q.0, subst (λ (x : BlockView). AreMovesOf IsChange x (as_moves moves)) at q.1)

-- ---- what comes of a plan

-- the moves can be made
pub moves-can : (IsChange : BlockTree → Embedding → Embedding → Type 0) (views : List BlockView) (b : ℕ) (moves : List Move) → b < length views → AreMovesOf IsChange (view_at views b) moves → CanMake views b moves
moves-can IsChange views b moves l m = record { entry = m.old; stands = record { within = l; entry = m.present }; are = m.are }

-- a plan can be carried out
pub plan-can : (ladder : Ladder) (IsChange : BlockTree → Embedding → Embedding → Type 0) (views : List BlockView) (b : ℕ) (planned : PlannedMoves) → IsMovesPlanAt ladder IsChange views b planned → CanSettle views b planned
plan-can ladder IsChange views b (Refused code) p = tt
plan-can ladder IsChange views b End p = absurd p
plan-can ladder IsChange views b (Make moves) p = moves-can IsChange views b (as_moves moves) p.0 p.2

-- where such moves were made, the embedding that they led to is a change
pub made-change : (IsChange : BlockTree → Embedding → Embedding → Type 0) (before after : BoardView) (b : ℕ) (moves : List Move) → AreMovesOf IsChange (view_at before.views b) moves → (m : AreMade before b moves after)
    → IsChange (view_at before.views b).tree m.old (record { rotation = m.rotation; locks = m.old.locks })
made-change IsChange before after b moves a m =
    let same : a.old ≡ m.old = entry-same (view_at before.views b).entry a.old m.old a.present m.stands.entry in
    (subst (λ (e : Embedding). (q : List (List ℕ)) → Lead (view_at before.views b).tree.part.graph (view_at before.views b).tree.nodes (IsPlaneSystem (view_at before.views b).tree.part.graph) moves e.rotation q → IsChange (view_at before.views b).tree e (record { rotation = q; locks = e.locks })) same a.change)
    m.rotation m.lead

-- a block in the plane that the moves lead to is such a change
pub after-change : (IsChange : BlockTree → Embedding → Embedding → Type 0) (v : BlockView) (moves : List Move) (p : BlockState) → AreMovesOf IsChange v moves → IsAfterMoves v moves p → IsChangeOf IsChange v p
after-change IsChange v moves p a m =
    let same : a.old ≡ m.fits.old = entry-same v.entry a.old m.fits.old a.present m.fits.present in (
      m.fits,
      subst (λ l. IsChange v.tree m.fits.old (record { rotation = p.rotation; locks = l })) (sym m.fits.locks)
          ((subst (λ (e : Embedding). (q : List (List ℕ)) → Lead v.tree.part.graph v.tree.nodes (IsPlaneSystem v.tree.part.graph) moves e.rotation q → IsChange v.tree e (record { rotation = q; locks = e.locks })) same a.change) p.rotation m.lead),
    )

-- a block that is seen in the plane, after moves that fit
pub after-seen : (v : BlockView) (p q : BlockState) → SeenPlane v p → (moves : List Move) → All (Fits v.tree.nodes) moves → q ≡ record p { rotation = all_moved p.tree moves p.rotation; choices = q.choices } → IsAfterMoves v moves q
after-seen v p q seen moves fit e = record {
  fits = record {
    old = seen_embedding p;
    present = seen.entry;
    graph = ap (λ (x : BlockState). x.graph) e ∙ seen.graph;
    nodes = ap (λ (x : BlockState). x.tree) e ∙ seen.nodes;
    locks = ap (λ (x : BlockState). x.locks) e;
  };
  lead = subst (Lead v.tree.part.graph v.tree.nodes (IsPlaneSystem v.tree.part.graph) moves p.rotation) (sym (ap (λ (x : BlockState). x.rotation) e ∙ ap (λ (t : List Node). all_moved t moves p.rotation) seen.nodes))
      (all-lead v.tree.part.graph v.tree.nodes seen.tree moves p.rotation seen.right.0 fit);
}

module _ (scene : Scene) (before : BoardView) (together : BelongTogether scene before) (ladder : Ladder) (r : rises_above 0 ladder ≡ true) (IsChange : BlockTree → Embedding → Embedding → Type 0) (b : ℕ) (after : BoardView) where
  -- what a settled plan does is a step
  pub moves-step : (planned : PlannedMoves) (text : List ℕ) → IsMovesPlanAt ladder IsChange before.views b planned → AreSettled b planned before text after
      → ChangeStep ladder (Silently IsChange) (setting_on scene before.views) b (state_on scene before.views before) text (state_on scene before.views after)
  moves-step (Refused code) text p q =
      subst (λ (s : State). ChangeStep ladder (Silently IsChange) (setting_on scene before.views) b (state_on scene before.views before) text s) (sym (ap (state_on scene before.views) q.1))
      (refused-first ladder r (ChangesBlock (setting_on scene before.views) b (Silently IsChange)) (state_on scene before.views before) code text p q.0)
  moves-step End text p q = absurd p
  moves-step (Make moves) text p q =
      let m = q.1 in
      changed-step scene before together ladder r IsChange b after m.old (record { rotation = m.rotation; locks = m.old.locks }) m.stands (made-change IsChange before after b (as_moves moves) p.2 m) m.changed text q.0 p.1

-- trees and certificates stay
moves-carried : (b : ℕ) (planned : PlannedMoves) (before after : BoardView) (text : List ℕ) → AreSettled b planned before text after → IsCarried before.views after.views
moves-carried b (Refused code) before after text q = subst (λ (x : BoardView). IsCarried before.views x.views) (sym q.1) (nothing-carried before.views)
moves-carried b End before after text q = subst (λ (x : BoardView). IsCarried before.views x.views) (sym q.1) (nothing-carried before.views)
moves-carried b (Make moves) before after text q = q.1.changed.goes.carried

-- they do, whether memory sufficed or not
pub either-moved : {E : Type 0} (r : Result (Vec ℕ) E) (b : ℕ) (planned : PlannedMoves) (before after : BoardView) → IfOk r (λ text. AreSettled b planned before text.items after) → OnErr r (after ≡ before) → IsCarried before.views after.views
either-moved (Ok text) b planned before after h e = moves-carried b planned before after text.items h
either-moved (Err x) b planned before after h e = subst (λ (y : BoardView). IsCarried before.views y.views) (sym e) (nothing-carried before.views)
