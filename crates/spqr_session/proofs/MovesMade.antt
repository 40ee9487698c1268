-- `flip`, `permute` and `mirror`: where no code applies the moves can be made, and what is made is a step.
use Rattle.std.proofs.Common.{◌≡◌, ℕ, ◌<◌, List, [], ◌∷◌, length, map, Option, None, Result, Ok, Err, IfOk, OnErr, refl, sym, ap, ◌∙◌, subst, arith}
use Rattle.std.specs.Global.{Vec}
use Rattle.std.proofs.lemmas.List.{length-map}
use Rattle.std.proofs.lemmas.List.Elements.{All-nil, All-cons}
use Rattle.rotations.specs.Runs.{mirror_image}
use Rattle.pair_split.specs.Kinds.{is_rigid, is_bond}
use Rattle.skeletons.specs.Moves.{Move, flip, permute, MoveLeads}
use Rattle.embed_moves.specs.Made.{Fits}
use Rattle.spqr_script.specs.Answers.Change.{ok_text}
use Rattle.spqr_session.specs.Trees.{BlockTree, tree_at}
use Rattle.spqr_session.specs.State.{Embedding, State, entry_at}
use Rattle.spqr_session.specs.Scene.{setting_on}
use Rattle.spqr_session.specs.declared.scene.Scene.{Scene}
use Rattle.spqr_session.specs.Embedded.{BlockView, view_tree, view_entry, view_at}
use Rattle.spqr_session.specs.Codes.{Ladder}
use Rattle.spqr_session.specs.BlockCodes.{block_ladder, read_ladder, of_entry, lock_codes, kind_of}
use Rattle.spqr_session.specs.Board.{BoardView, IsCarried, StandsAt, CanMake, AreMade, IsMirroredAt, state_on, BelongTogether}
use Rattle.spqr_session.specs.Planned.{IsVerdict, AreArranged}
use Rattle.spqr_session.specs.Commands.Flip.{flip_ladder, IsFlipped, FlipStep}
use Rattle.spqr_session.specs.Commands.Permute.{inner_edges, permute_ladder, IsPermuted, PermuteStep}
use Rattle.spqr_session.specs.Commands.Mirror.{mirror_codes, IsMirrored, MirrorStep}
use Rattle.spqr_session.specs.declared.code.Code.{Code}
use Rattle.spqr_session.proofs.Views.{trees-at}
use Rattle.spqr_session.proofs.BlockCarried.{none-front, block-entry}
use Rattle.spqr_session.proofs.Changes.{node-facts, rigid-is, bond-is}
use Rattle.spqr_session.proofs.MovesCarried.{flip-rises, permute-rises, permute-facts, mirror-rises}
use Rattle.spqr_session.proofs.Plans.{seen_state, changed-step, nothing-carried}
use Rattle.spqr_session.proofs.BoardStates.{stands-at}
use Rattle.spqr_session.proofs.WaysBack.{one-leads}

-- what was found of the blocks holds in the state of the board
pub verdict-on : (ladder : List BlockTree → State → Ladder) (seen : List BlockView) (board : BoardView) (o : Option Code) → seen ≡ board.views → ((s : State) → s.present.entries ≡ map view_entry seen → IsVerdict (ladder (map view_tree seen) s) o)
    → IsVerdict (ladder (map view_tree board.views) (seen_state board)) o
verdict-on ladder seen board o e h = (subst (λ (x : List BlockView). (s : State) → s.present.entries ≡ map view_entry x → IsVerdict (ladder (map view_tree x) s) o) e h) (seen_state board) refl

-- trees and certificates stay
pub made-carried : {E : Type 0} (r : Result (Vec ℕ) E) (before : BoardView) (b : ℕ) (moves : List Move) (after : BoardView) → IfOk r (λ text. AreMade before b moves after) → OnErr r (after ≡ before) → IsCarried before.views after.views
made-carried (Ok text) before b moves after m e = m.changed.goes.carried
made-carried (Err x) before b moves after m e = subst (λ (y : BoardView). IsCarried before.views y.views) (sym e) (nothing-carried before.views)

pub mirrored-carried : (before : BoardView) (b : ℕ) (after : BoardView) → IsMirroredAt before b after → IsCarried before.views after.views
mirrored-carried before b after m = m.changed.goes.carried

-- what holds of a text, and of what is left with it
pub both-map : {E : Type 0} (r : Result (Vec ℕ) E) (Says Tells : List ℕ → Type 0) (Done : Type 0) → ((text : List ℕ) → Says text → Done → Tells text) → IfOk r (λ text. Says text.items) → IfOk r (λ text. Done) → IfOk r (λ text. Tells text.items)
both-map (Ok text) Says Tells Done f p m = f text.items p m
both-map (Err x) Says Tells Done f p m = tt

module _ (board : BoardView) (b : ℕ) where
  abbrev trees : List BlockTree
  trees = map view_tree board.views

  abbrev state : State
  state = seen_state board

  -- a block that has a tree is there
  in-views : b < length trees → b < length board.views
  in-views l = omega (arith, l, length-map board.views view_tree)

  node-in : (k : ℕ) → k < length (tree_at trees b).nodes → k < length (view_at board.views b).tree.nodes
  node-in k l = subst (λ (t : BlockTree). k < length t.nodes) (trees-at board.views b) l

  -- one move can be made
  one-can : (move : Move) (e : Embedding) → StandsAt board.views b e → Fits (view_at board.views b).tree.nodes move → CanMake board.views b (move ∷ [])
  one-can move e at is = record { entry = e; stands = at; are = record { fit = All-cons (Fits (view_at board.views b).tree.nodes) move [] is (All-nil (Fits (view_at board.views b).tree.nodes)); apart = refl } }

  -- ---- flip

  pub flip-can : (k : ℕ) → IsVerdict (flip_ladder trees b k state) None → CanMake board.views b (flip k ∷ [])
  flip-can k none =
      let f = (node-facts is_rigid trees b k state (of_entry (lock_codes k) (entry_at state.present b)) none).0 in
      one-can (flip k) f.entry (stands-at board b f.entry (in-views f.block) f.present) (node-in k f.node, rigid-is (kind_of (view_at board.views b).tree k) (ap (λ (t : BlockTree). is_rigid (kind_of t k)) (sym (trees-at board.views b)) ∙ f.kind))

  pub flip-done : (scene : Scene) → BelongTogether scene board → (k : ℕ) (after : BoardView) (text : List ℕ) → IsVerdict (flip_ladder trees b k state) None → text ≡ ok_text → AreMade board b (flip k ∷ []) after → FlipStep (setting_on scene board.views) b k (state_on scene board.views board) text (state_on scene board.views after)
  flip-done scene together k after text none t m =
      let tree = (view_at board.views b).tree in
      changed-step scene board together (flip_ladder trees b k (state_on scene board.views board)) (flip-rises trees b k (state_on scene board.views board)) (IsFlipped k) b after m.old (record { rotation = m.rotation; locks = m.old.locks }) m.stands
      (record { leads = one-leads tree.part.graph tree.nodes (flip k) m.old.rotation m.rotation m.lead; locks = refl }) m.changed text t none

  -- ---- permute

  module _ (k : ℕ) (keys : List ℕ) (none : IsVerdict (permute_ladder trees b k keys state) None) where
    -- there is such a block
    pub permute-in : b < length board.views
    permute-in = in-views (permute-facts trees b k keys state none).block

    pub permute-can : (move : Move) → move ≡ permute k (inner_edges (view_at board.views b).tree keys) → AreArranged k keys (view_at board.views b).tree → CanMake board.views b (move ∷ [])
    permute-can move e arranged =
        let f = permute-facts trees b k keys state none in
        one-can move f.entry (stands-at board b f.entry (in-views f.block) f.present) (subst (Fits (view_at board.views b).tree.nodes) (sym e)
        ((node-in k f.node, bond-is (kind_of (view_at board.views b).tree k) (ap (λ (t : BlockTree). is_bond (kind_of t k)) (sym (trees-at board.views b)) ∙ f.kind)), arranged))

    pub permute-done : (scene : Scene) → BelongTogether scene board → (move : Move) → move ≡ permute k (inner_edges (view_at board.views b).tree keys) → (after : BoardView) (text : List ℕ) → text ≡ ok_text → AreMade board b (move ∷ []) after
        → PermuteStep (setting_on scene board.views) b k keys (state_on scene board.views board) text (state_on scene board.views after)
    permute-done scene together move e after text t m =
        let tree = (view_at board.views b).tree in
        changed-step scene board together (permute_ladder trees b k keys (state_on scene board.views board)) (permute-rises trees b k keys (state_on scene board.views board)) (IsPermuted k keys) b after m.old (record { rotation = m.rotation; locks = m.old.locks }) m.stands
        (record { leads = subst (λ (x : Move). MoveLeads tree.part.graph tree.nodes x m.old.rotation m.rotation) e (one-leads tree.part.graph tree.nodes move m.old.rotation m.rotation m.lead); locks = refl }) m.changed text t none

  -- ---- mirror

  pub mirror-stands : IsVerdict (read_ladder mirror_codes trees b state) None → (e : Embedding) × StandsAt board.views b e
  mirror-stands none =
      let at = block-entry trees b state (none-front (block_ladder trees b state) (of_entry (mirror_codes (tree_at trees b)) (entry_at state.present b)) none) in
      (at.1.0, stands-at board b at.1.0 (in-views at.0) at.1.1)

  pub mirror-done : (scene : Scene) → BelongTogether scene board → (after : BoardView) (text : List ℕ) → IsVerdict (read_ladder mirror_codes trees b state) None → text ≡ ok_text → IsMirroredAt board b after → MirrorStep (setting_on scene board.views) b (state_on scene board.views board) text (state_on scene board.views after)
  mirror-done scene together after text none t m =
      changed-step scene board together (read_ladder mirror_codes trees b (state_on scene board.views board)) (mirror-rises trees b (state_on scene board.views board)) IsMirrored b after m.old (record { rotation = mirror_image m.old.rotation; locks = m.old.locks }) m.stands
      (record { mirror = refl; locks = refl }) m.changed text t none
