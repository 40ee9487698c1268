use Rattle.std.proofs.Common.{List, map, sym, ap, ◌∙◌, subst, ℕ, Option}
use Rattle.spqr_session.specs.Embedded.{view_tree}
use Rattle.spqr_session.specs.History.{lists_set, IsStepOf}
use Rattle.spqr_session.specs.Board.{BoardView, LeadsTo}
use Rattle.spqr_session.proofs.Boards.{noted-added}
use Rattle.spqr_session.proofs.BoardSteps.{on-right, on-goes, step-kept}
use Rattle.spqr_session.proofs.MarkedLists.{marked-after}
use Rattle.spqr_session.proofs.board.Board.carry.Goals as goal

pub carry_forth-requires-clause-step : goal.carry_forth-requires-clause-step
carry_forth-requires-clause-step c = subst (λ (v : BoardView). IsStepOf (map view_tree v.views) c.args.step) (sym c.self.view_is) c.requires.1.is_step

pub invariant_of-self-2 : goal.invariant_of-self-2
invariant_of-self-2 c =
    let s = c.self.inside in
    let step = c.args.step in
    let leads = subst (λ (v : BoardView). LeadsTo v.views v.lists c.requires.0 step) (sym c.self.view_is) c.requires.1 in
    let set = c.set.ensures ∙ ap (λ (ps : List (ℕ × Option (List ℕ))). lists_set ps s.lists) c.in_ok-lists.ensures in
    let other = c.carry_forth.new.blocks.items in
    record {
      board = on-right s.blocks.items other s.lists c.set.new.self s.log c.note.new.self step c.requires.0 c.args.self.now c.self.invariant.board c.self.view_is c.carry_forth.ensures.carried
          (noted-added s.log c.reserve.new.self c.note.new.self step c.reserve.ensures.steps c.reserve.ensures.cursor c.note.ensures) leads
          (step-kept s.blocks.items other s.lists c.set.new.self step c.requires.0 leads c.carry_forth.ensures.entries set);
      marks = marked-after s.blocks.items c.deref-2.result.now other s.lists c.set.new.self c.in_ok-lists.lists.items c.deref-3.result.now c.prepare.new.self c.deref-2.ensures.value c.deref-3.ensures.value c.carry_forth.ensures.carried.trees c.set.ensures c.in_ok-prepare.ensures.after;
    }

pub returns-clause-done : goal.returns-clause-done
returns-clause-done c = λ kept given.
    let s = c.self.inside in
    let step = c.args.step in
    let leads = subst (λ (v : BoardView). LeadsTo v.views v.lists kept step) (sym c.self.view_is) given in
    let set = c.set.ensures ∙ ap (λ (ps : List (ℕ × Option (List ℕ))). lists_set ps s.lists) c.in_ok-lists.ensures in
    let other = c.carry_forth.new.blocks.items in
    on-goes s.blocks.items other s.lists c.set.new.self s.log c.note.new.self step kept c.args.self.now c.self.invariant.board c.self.view_is c.carry_forth.ensures.carried
    (noted-added s.log c.reserve.new.self c.note.new.self step c.reserve.ensures.steps c.reserve.ensures.cursor c.note.ensures) leads
    (step-kept s.blocks.items other s.lists c.set.new.self step kept leads c.carry_forth.ensures.entries set)
