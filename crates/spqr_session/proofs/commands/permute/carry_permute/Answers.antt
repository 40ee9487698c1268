use Rattle.std.proofs.Common.{◌≡◌, ◌<◌, [], ◌∷◌, ℕ, List, length, map, Option, None, Some, sym, ap, ◌∙◌, subst}
use Rattle.skeletons.specs.Moves.{permute}
use Rattle.skel_embed.specs.Values.{as_move}
use Rattle.spqr_script.specs.Answers.Change.{ok_text}
use Rattle.spqr_session.specs.State.{State}
use Rattle.spqr_session.specs.Embedded.{BlockView, view_tree, view_at, view_entry}
use Rattle.spqr_session.specs.Scene.{setting_on}
use Rattle.spqr_session.specs.Codes.{code_text}
use Rattle.spqr_session.specs.BlockCodes.{ChangesBlock, Silently}
use Rattle.spqr_session.specs.Board.{BoardView, AreMade, state_on}
use Rattle.spqr_session.specs.Planned.{IsVerdict, AreArranged}
use Rattle.spqr_session.specs.Commands.Permute.{inner_edges, permute_ladder, IsPermuted, PermuteStep}
use Rattle.spqr_session.specs.declared.code.Code.{Code}
use Rattle.spqr_session.proofs.BlockTrees.{view-at}
use Rattle.spqr_session.proofs.MovesCarried.{permute-rises}
use Rattle.spqr_session.proofs.Ladders.{refused-first}
use Rattle.spqr_session.proofs.Steps.{text-map}
use Rattle.spqr_session.proofs.MovesMade.{verdict-on, made-carried, both-map, permute-in, permute-can, permute-done}
use Rattle.spqr_session.proofs.Plans.{seen_state}
use Rattle.spqr_session.proofs.commands.permute.carry_permute.Goals as goal

-- what was found of the blocks holds in the state of the board
verdict : (b k : ℕ) (keys : List ℕ) (seen : List BlockView) (board : BoardView) (o given : Option Code) → seen ≡ board.views → given ≡ o → ((s : State) → s.present.entries ≡ map view_entry seen → IsVerdict (permute_ladder (map view_tree seen) b k keys s) given)
    → IsVerdict (permute_ladder (map view_tree board.views) b k keys (seen_state board)) o
verdict b k keys seen board o given e same h =
    verdict-on (λ trees s. permute_ladder trees b k keys s) seen board o e (subst (λ (x : Option Code). (s : State) → s.present.entries ≡ map view_entry seen → IsVerdict (permute_ladder (map view_tree seen) b k keys s) x) same h)

pub bounds-blocks-b : goal.bounds-blocks-b
bounds-blocks-b c =
    let old = c.args.board.now in
    let none = verdict c.args.b c.args.k c.args.keys.now c.blocks-2.result.now old None c.in_ok-code.field-0 c.blocks-2.ensures c.in-None.is c.in_ok-code.ensures.verdict in
    subst (λ (l : List BlockView). c.args.b < length l) (sym c.blocks-in-None.ensures) (permute-in old c.args.b c.args.k c.args.keys.now none)

pub make_move-requires : goal.make_move-requires
make_move-requires c =
    let old = c.args.board.now in
    let keys = c.args.keys.now in
    let none = verdict c.args.b c.args.k keys c.blocks-2.result.now old None c.in_ok-code.field-0 c.blocks-2.ensures c.in-None.is c.in_ok-code.ensures.verdict in
    let l = subst (λ (l : List BlockView). c.args.b < length l) (sym c.blocks-in-None.ensures) (permute-in old c.args.b c.args.k keys none) in
    let at = view-at c.blocks-in-None.result.now c.args.b c.index-blocks-b.result l c.index-blocks-b.is ∙ ap (λ (l : List BlockView). view_at l c.args.b) c.blocks-in-None.ensures in
    let one = c.in_ok-one-in-None.ensures ∙ ap (λ (v : BlockView). permute c.args.k (inner_edges v.tree keys)) at in
    let arranged = subst (λ (l : List BlockView). AreArranged c.args.k keys (view_at l c.args.b).tree) c.blocks-2.ensures (c.in_ok-code.ensures.arranged c.in-None.is) in
    permute-can old c.args.b c.args.k keys none (as_move c.in_ok-one-in-None.one) one arranged

pub returns-in-Some-clause-step : goal.returns-in-Some-clause-step
returns-in-Some-clause-step c = λ scene together.
    let old = c.args.board.now in
    let keys = c.args.keys.now in
    let ladder = permute_ladder (map view_tree old.views) c.args.b c.args.k keys (state_on scene old.views old) in
    let first = verdict c.args.b c.args.k keys c.blocks-2.result.now old (Some c.in-Some.code) c.in_ok-code.field-0 c.blocks-2.ensures c.in-Some.is c.in_ok-code.ensures.verdict in
    text-map c.line.result (λ text. text ≡ code_text c.in-Some.code) (λ text. PermuteStep (setting_on scene old.views) c.args.b c.args.k keys (state_on scene old.views old) text (state_on scene old.views old))
    (λ text line. refused-first ladder (permute-rises (map view_tree old.views) c.args.b c.args.k keys (state_on scene old.views old)) (ChangesBlock (setting_on scene old.views) c.args.b (Silently (IsPermuted c.args.k keys))) (state_on scene old.views old) c.in-Some.code text first line)
    c.line.ensures

pub returns-in_ok-one-in-None-clause-step : goal.returns-in_ok-one-in-None-clause-step
returns-in_ok-one-in-None-clause-step c = λ scene together.
    let old = c.args.board.now in
    let new = c.make_move.new.board in
    let keys = c.args.keys.now in
    let none = verdict c.args.b c.args.k keys c.blocks-2.result.now old None c.in_ok-code.field-0 c.blocks-2.ensures c.in-None.is c.in_ok-code.ensures.verdict in
    let l = subst (λ (l : List BlockView). c.args.b < length l) (sym c.blocks-in-None.ensures) (permute-in old c.args.b c.args.k keys none) in
    let at = view-at c.blocks-in-None.result.now c.args.b c.index-blocks-b.result l c.index-blocks-b.is ∙ ap (λ (l : List BlockView). view_at l c.args.b) c.blocks-in-None.ensures in
    let one = c.in_ok-one-in-None.ensures ∙ ap (λ (v : BlockView). permute c.args.k (inner_edges v.tree keys)) at in
    both-map c.make_move.result (λ text. text ≡ ok_text) (λ text. PermuteStep (setting_on scene old.views) c.args.b c.args.k keys (state_on scene old.views old) text (state_on scene old.views new)) (AreMade old c.args.b (as_move c.in_ok-one-in-None.one ∷ []) new)
    (λ text t m. permute-done old c.args.b c.args.k keys none scene together (as_move c.in_ok-one-in-None.one) one new text t m) c.make_move.ensures.text c.make_move.ensures.made

pub returns-in_ok-one-in-None-clause-setting : goal.returns-in_ok-one-in-None-clause-setting
returns-in_ok-one-in-None-clause-setting c = made-carried c.make_move.result c.args.board.now c.args.b (as_move c.in_ok-one-in-None.one ∷ []) c.make_move.new.board c.make_move.ensures.made c.make_move.ensures.memory
