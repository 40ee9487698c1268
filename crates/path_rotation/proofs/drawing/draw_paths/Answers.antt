-- What is drawn, with the labels of its faces.
use Rattle.std.proofs.Common.{◌∙◌, ◌<◌, List, ℕ, length, drop, sym, subst, arith}
use Rattle.std.proofs.lemmas.List.{take_at}
use Rattle.permutations.proofs.Count.{count-within}
use Rattle.multigraph.specs.Graph.{edge_count}
use Rattle.multigraph.specs.Marks.{is_marked}
use Rattle.path_rotation.specs.Forced.{AreClosed}
use Rattle.path_rotation.specs.Fitting.{IsBoard, IsMoreDrawn, drawn_count}
use Rattle.path_rotation.proofs.BoardSteps.{board-labelled, more-least}
use Rattle.path_rotation.proofs.Settled.{settled-order}
use Rattle.path_rotation.proofs.drawing.draw_paths.Goals as goal
use Rattle.path_rotation.proofs.drawing.draw_paths.Goals.{in-Drawn, in-Passed+in_ok-settle-in-Passed+in-Drawn-2}

pub loop-init : goal.loop-init
loop-init c =
    let g = c.args.g.now in
    let board = c.args.board.now in
    let label = c.label_faces.new.label in
    record {
      board = subst (λ (l : List ℕ). IsBoard g board.drawn.items board.on.items board.next.items l) (sym (take_at label (drop (length label) board.label.items) board.label.len (c.label_faces.auto.label ∙ c.deref_mut.ensures.len)))
          (board-labelled g board.drawn.items board.on.items board.next.items board.label.items label c.requires.sketch (subst (λ (l : List ℕ). AreClosed (edge_count g) l label) c.deref.ensures.value c.label_faces.ensures.closed) c.label_faces.ensures.labels);
      more = c.requires.begun;
      room = c.in_ok-fits.ensures;
    }

pub loop-preserved : goal.loop-preserved
loop-preserved c =
    let g = c.args.g.now in
    let old = c.loop.board.drawn.items in
    let passed = c.round.new.board.drawn.items in
    elim c.match-branch-4.branch [
      | in-Drawn w ↦
          rw w.board-is
          (record {
            board = c.in_ok-round.ensures.board;
            more = omega (arith, c.loop.invariant.more, subst (IsMoreDrawn g old passed) w.in-Drawn.is c.in_ok-round.ensures.more);
            room = c.in_ok-round.ensures.room;
          })
      | in-Passed+in_ok-settle-in-Passed+in-Drawn-2 w ↦
          rw w.board-is
          (record {
            board = subst (λ (l : List ℕ). IsBoard g w.settle.new.board.drawn.items w.settle.new.board.on.items w.settle.new.board.next.items l)
                (sym (take_at w.label_faces-in-Drawn-2.new.label (drop (length w.label_faces-in-Drawn-2.new.label) w.settle.new.board.label.items) w.settle.new.board.label.len (w.label_faces-in-Drawn-2.auto.label ∙ w.deref_mut-in-Drawn-2.ensures.len)))
                (board-labelled g w.settle.new.board.drawn.items w.settle.new.board.on.items w.settle.new.board.next.items w.settle.new.board.label.items w.label_faces-in-Drawn-2.new.label w.in_ok-settle-in-Passed.ensures.sketch
                (subst (λ (l : List ℕ). AreClosed (edge_count g) l w.label_faces-in-Drawn-2.new.label) w.deref-in-Drawn-2.ensures.value w.label_faces-in-Drawn-2.ensures.closed) w.label_faces-in-Drawn-2.ensures.labels);
            more = omega (arith, c.loop.invariant.more, more-least g old passed _ c.in_ok-round.ensures.more, subst (IsMoreDrawn g passed w.settle.new.board.drawn.items) w.in-Drawn-2.is w.in_ok-settle-in-Passed.ensures.more);
            room = c.in_ok-round.ensures.room;
          })
    ]

pub returns-in-Passed-2-clause-whole : goal.returns-in-Passed-2-clause-whole
returns-in-Passed-2-clause-whole c = λ _ tri.
    let g = c.args.g.now in
    let old = c.loop.board.drawn.items in
    let passed = c.round.new.board.drawn.items in
    let new = c.settle.new.board in
    let sketch = c.in_ok-settle-in-Passed.ensures.sketch in
    let begun : 0 < drawn_count g new.drawn.items = omega (arith, c.loop.invariant.more, more-least g old passed _ c.in_ok-round.ensures.more, more-least g passed new.drawn.items _ c.in_ok-settle-in-Passed.ensures.more) in
    settled-order g c.keeps_limits.ensures.graph tri new.drawn.items new.on.items new.next.items sketch.tables sketch.drawing (c.in_ok-settle-in-Passed.ensures.rest c.in-Passed-2.is) begun

pub returns-clause-whole : goal.returns-clause-whole
returns-clause-whole c = λ _ tri. absurd (omega (arith, c.loop.invariant.more, c.loop-test.false, c.edge_count-end.ensures.value, count-within (edge_count c.args.g.now) (is_marked c.loop.board.drawn.items)))
