use Rattle.std.proofs.Common.{◌≡◌, List, map, ℕ, Option, ap, ◌∙◌}
use Rattle.undo_log.specs.History.{WentOn}
use Rattle.spqr_session.specs.Embedded.{view_tree}
use Rattle.spqr_session.specs.History.{lists_set, redone}
use Rattle.spqr_session.specs.Board.{kept_on}
use Rattle.spqr_session.proofs.Boards.{board-on}
use Rattle.spqr_session.proofs.MarkedLists.{marked-after}
use Rattle.spqr_session.proofs.board.Board.redo.Goals as goal

pub invariant_of-self-in-Ok : goal.invariant_of-self-in-Ok
invariant_of-self-in-Ok c =
    let s = c.self.inside in
    let step = c.in-Ok.step.now in
    let passed : WentOn s.log step c.redo.follows.lender-at-none = rw c.in-Ok.is at c.redo.follows.holds-at-none in
    let set = c.set.ensures ∙ ap (λ (ps : List (ℕ × Option (List ℕ))). lists_set ps s.lists) (c.in_ok-lists.ensures step (passed.passed)) in
    let same : kept_on c.carry_forth.new.blocks.items c.set.new.self ≡ redone (map view_tree s.blocks.items) step (kept_on s.blocks.items s.lists) = λ i. record { entries = c.carry_forth.ensures.entries i; lists = set i } in
    record {
      board = board-on s.blocks.items c.carry_forth.new.blocks.items s.lists c.set.new.self s.log c.redo.follows.lender-at-none step c.carry_forth.ensures.carried c.self.invariant.board passed same;
      marks = marked-after s.blocks.items c.deref-2.result.now c.carry_forth.new.blocks.items s.lists c.set.new.self c.in_ok-lists.lists.items c.deref-3.result.now c.prepare.new.self c.deref-2.ensures.value c.deref-3.ensures.value c.carry_forth.ensures.carried.trees c.set.ensures c.in_ok-prepare.ensures.after;
    }
