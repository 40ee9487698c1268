-- What is drawn, with the labels of its faces, and the path more.
use Rattle.std.proofs.Common.{◌≡◌, ◌∙◌, ◌/◌, ◌++◌, ℕ, Bool, List, true, length, take, drop, refl, sym, ap, subst, arith}
use Rattle.std.proofs.lemmas.Bool.{both_ways}
use Rattle.std.proofs.lemmas.List.{take_at}
use Rattle.multigraph.specs.Graph.{edge_count}
use Rattle.multigraph.specs.Marks.{is_marked}
use Rattle.path_rotation.specs.Forced.{AreClosed}
use Rattle.path_rotation.specs.Fitting.{IsBoard}
use Rattle.path_rotation.specs.Settling.{IsStep}
use Rattle.path_rotation.specs.declared.settling.Step.{Step}
use Rattle.path_rotation.specs.declared.settling.Step.TheVariants.{Path}
use Rattle.path_rotation.proofs.BoardSteps.{board-more, more-drawn}
use Rattle.path_rotation.proofs.settling.settle.Goals as goal

pub returns-then-is_complete-clause-rest : goal.returns-then-is_complete-clause-rest
returns-then-is_complete-clause-rest c = λ _ t f.
    let old = c.args.board.now in
    absurd (both_ways (is_marked old.drawn.items (t / 2)) f.undrawn (subst (λ (l : List Bool). is_marked l (t / 2) ≡ true) c.deref.ensures.value
    (c.if-is_complete.ensures refl (t / 2) (omega (arith, f.dart, c.requires.tables.each_edge, ap (λ (l : List Bool). length l) c.deref.ensures.value)))))

pub next_step-requires-clause-board : goal.next_step-requires-clause-board
next_step-requires-clause-board c =
    let g = c.args.g.now in
    let old = c.args.board.now in
    let label = take old.label.len (c.label_faces.new.label ++ drop (length c.label_faces.new.label) old.label.items) in
    let labels = c.label_faces.new.label in
    let board : IsBoard g old.drawn.items old.on.items old.next.items label =
    subst (λ (l : List ℕ). IsBoard g old.drawn.items old.on.items old.next.items l) (sym (take_at labels (drop (length labels) old.label.items) old.label.len (c.label_faces.auto.label ∙ c.deref_mut.ensures.len)))
    (record {
      tables = c.requires.tables;
      forced = c.requires.forced;
      drawing = c.requires.drawing;
      closed = subst (λ (l : List ℕ). AreClosed (edge_count g) l labels) c.deref-2.ensures.value c.label_faces.ensures.closed;
      labels = c.label_faces.ensures.labels;
    }) in
    board

pub returns-in-Path-clause-sketch : goal.returns-in-Path-clause-sketch
returns-in-Path-clause-sketch c =
    let g = c.args.g.now in
    let old = c.args.board.now in
    let new = c.draw_path.new.board in
    let label = take old.label.len (c.label_faces.new.label ++ drop (length c.label_faces.new.label) old.label.items) in
    let labels = c.label_faces.new.label in
    let board : IsBoard g old.drawn.items old.on.items old.next.items label =
    subst (λ (l : List ℕ). IsBoard g old.drawn.items old.on.items old.next.items l) (sym (take_at labels (drop (length labels) old.label.items) old.label.len (c.label_faces.auto.label ∙ c.deref_mut.ensures.len)))
    (record {
      tables = c.requires.tables;
      forced = c.requires.forced;
      drawing = c.requires.drawing;
      closed = subst (λ (l : List ℕ). AreClosed (edge_count g) l labels) c.deref-2.ensures.value c.label_faces.ensures.closed;
      labels = c.label_faces.ensures.labels;
    }) in
    let path = c.next_step.new.looks.path.items in
    let step : IsStep g old.drawn.items old.on.items old.next.items label path (Path c.in-Path.t c.in-Path.c c.in-Path.k) =
    subst (λ (x : Step). IsStep g old.drawn.items old.on.items old.next.items label path x) c.in-Path.is c.in_ok-next_step.ensures in
    let more : IsBoard g new.drawn.items new.on.items new.next.items new.label.items =
    board-more g c.keeps_limits.ensures.graph old.drawn.items old.on.items old.next.items label c.in-Path.t c.in-Path.c c.in-Path.k path board step.0 step.1.0 step.1.1 step.1.2
    new.drawn.items new.on.items new.next.items new.label.items (λ along e. c.draw_path.ensures along (c.deref-in-Path.ensures.value ∙ e)) in
    record { tables = more.tables; forced = more.forced; drawing = more.drawing; label_each = more.labels.each }

pub returns-in-Path-clause-more : goal.returns-in-Path-clause-more
returns-in-Path-clause-more c =
    let g = c.args.g.now in
    let old = c.args.board.now in
    let new = c.draw_path.new.board in
    let label = take old.label.len (c.label_faces.new.label ++ drop (length c.label_faces.new.label) old.label.items) in
    let labels = c.label_faces.new.label in
    let board : IsBoard g old.drawn.items old.on.items old.next.items label =
    subst (λ (l : List ℕ). IsBoard g old.drawn.items old.on.items old.next.items l) (sym (take_at labels (drop (length labels) old.label.items) old.label.len (c.label_faces.auto.label ∙ c.deref_mut.ensures.len)))
    (record {
      tables = c.requires.tables;
      forced = c.requires.forced;
      drawing = c.requires.drawing;
      closed = subst (λ (l : List ℕ). AreClosed (edge_count g) l labels) c.deref-2.ensures.value c.label_faces.ensures.closed;
      labels = c.label_faces.ensures.labels;
    }) in
    let path = c.next_step.new.looks.path.items in
    let step : IsStep g old.drawn.items old.on.items old.next.items label path (Path c.in-Path.t c.in-Path.c c.in-Path.k) =
    subst (λ (x : Step). IsStep g old.drawn.items old.on.items old.next.items label path x) c.in-Path.is c.in_ok-next_step.ensures in
    more-drawn g c.keeps_limits.ensures.graph old.drawn.items old.on.items old.next.items label c.in-Path.t c.in-Path.c c.in-Path.k path board step.0 step.1.0 step.1.1 step.1.2
    new.drawn.items new.on.items new.next.items new.label.items (λ along e. c.draw_path.ensures along (c.deref-in-Path.ensures.value ∙ e))
