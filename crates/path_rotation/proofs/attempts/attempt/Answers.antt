-- The path was drawn where it may be, and one of the two faces that it makes is labelled anew.
use Rattle.std.proofs.Common.{◌∙◌, ◌≡◌, ℕ, if◌then◌else◌, List, length, drop, slice_index, sym, ap, subst}
use Rattle.std.proofs.lemmas.List.{take_at}
use Rattle.multigraph.specs.Graph.{edge_count}
use Rattle.dart_maps.specs.Map.{same_face}
use Rattle.path_rotation.specs.Forced.{IsMapOfDarts}
use Rattle.path_rotation.specs.Fitting.{IsBoard, IsChoice}
use Rattle.path_rotation.specs.declared.attempts.Choice.{Choice}
use Rattle.path_rotation.specs.declared.attempts.Choice.TheVariants.{Between}
use Rattle.path_rotation.proofs.BoardSteps.{board-more, board-anew, board-map, more-drawn}
use Rattle.path_rotation.proofs.attempts.attempt.Goals as goal

pub in_shorter_face-d-requires-clause-map : goal.in_shorter_face-d-requires-clause-map
in_shorter_face-d-requires-clause-map c =
    let g = c.args.g.now in
    let t = c.args.t in
    let old = c.args.board.now in
    let new = c.draw_path.new.board in
    let path = c.choose.new.fits.path.items in
    let choice : IsChoice g old.drawn.items old.on.items old.next.items old.label.items t path (Between c.in-Between.c c.in-Between.k) =
    subst (λ (x : Choice). IsChoice g old.drawn.items old.on.items old.next.items old.label.items t path x) c.in-Between.is c.in_ok-choose.ensures.choice in
    let drawn : IsBoard g new.drawn.items new.on.items new.next.items new.label.items =
    board-more g c.keeps_limits.ensures.graph old.drawn.items old.on.items old.next.items old.label.items t c.in-Between.c c.in-Between.k path c.requires.board c.requires.foot choice.0 choice.1 choice.2
    new.drawn.items new.on.items new.next.items new.label.items (λ along e. c.draw_path.ensures along (c.deref.ensures.value ∙ e)) in
    subst (λ (l : List ℕ). IsMapOfDarts (edge_count g) l) (sym c.deref-in-Between.ensures.value) (board-map g new.drawn.items new.on.items new.next.items new.label.items drawn)

pub label_face-requires-clause-map : goal.label_face-requires-clause-map
label_face-requires-clause-map c =
    let g = c.args.g.now in
    let t = c.args.t in
    let old = c.args.board.now in
    let new = c.draw_path.new.board in
    let path = c.choose.new.fits.path.items in
    let choice : IsChoice g old.drawn.items old.on.items old.next.items old.label.items t path (Between c.in-Between.c c.in-Between.k) =
    subst (λ (x : Choice). IsChoice g old.drawn.items old.on.items old.next.items old.label.items t path x) c.in-Between.is c.in_ok-choose.ensures.choice in
    let drawn : IsBoard g new.drawn.items new.on.items new.next.items new.label.items =
    board-more g c.keeps_limits.ensures.graph old.drawn.items old.on.items old.next.items old.label.items t c.in-Between.c c.in-Between.k path c.requires.board c.requires.foot choice.0 choice.1 choice.2
    new.drawn.items new.on.items new.next.items new.label.items (λ along e. c.draw_path.ensures along (c.deref.ensures.value ∙ e)) in
    subst (λ (l : List ℕ). IsMapOfDarts (edge_count g) l) (sym c.deref-in-Between-2.ensures.value) (board-map g new.drawn.items new.on.items new.next.items new.label.items drawn)

pub returns-in-Between-clause-board : goal.returns-in-Between-clause-board
returns-in-Between-clause-board c =
    let g = c.args.g.now in
    let t = c.args.t in
    let old = c.args.board.now in
    let new = c.draw_path.new.board in
    let path = c.choose.new.fits.path.items in
    let choice : IsChoice g old.drawn.items old.on.items old.next.items old.label.items t path (Between c.in-Between.c c.in-Between.k) =
    subst (λ (x : Choice). IsChoice g old.drawn.items old.on.items old.next.items old.label.items t path x) c.in-Between.is c.in_ok-choose.ensures.choice in
    let drawn : IsBoard g new.drawn.items new.on.items new.next.items new.label.items =
    board-more g c.keeps_limits.ensures.graph old.drawn.items old.on.items old.next.items old.label.items t c.in-Between.c c.in-Between.k path c.requires.board c.requires.foot choice.0 choice.1 choice.2
    new.drawn.items new.on.items new.next.items new.label.items (λ along e. c.draw_path.ensures along (c.deref.ensures.value ∙ e)) in
    let label = c.label_face.new.label in
    let before : List ℕ → List ℕ → (d : ℕ) → Type 0 = λ n l d. slice_index label d ≡ (if same_face (edge_count g) (slice_index n) c.in_shorter_face-d.result d then c.in_shorter_face-d.result else slice_index l d) in
    subst (λ (l : List ℕ). IsBoard g new.drawn.items new.on.items new.next.items l) (sym (take_at label (drop (length label) new.label.items) new.label.len (c.label_face.auto.label ∙ c.deref_mut.ensures.len)))
    (board-anew g new.drawn.items new.on.items new.next.items new.label.items c.in_shorter_face-d.result label drawn c.in_shorter_face-d.ensures
    (c.label_face.ensures.size ∙ ap (λ (l : List ℕ). length l) c.deref_mut.ensures.value)
    (λ d. subst (λ (l : List ℕ). before new.next.items l d) c.deref_mut.ensures.value (subst (λ (n : List ℕ). before n c.deref_mut.result.now d) c.deref-in-Between-2.ensures.value (c.label_face.ensures.labelled d))))

pub returns-in-Between-clause-more : goal.returns-in-Between-clause-more
returns-in-Between-clause-more c =
    let g = c.args.g.now in
    let t = c.args.t in
    let old = c.args.board.now in
    let new = c.draw_path.new.board in
    let path = c.choose.new.fits.path.items in
    let choice : IsChoice g old.drawn.items old.on.items old.next.items old.label.items t path (Between c.in-Between.c c.in-Between.k) =
    subst (λ (x : Choice). IsChoice g old.drawn.items old.on.items old.next.items old.label.items t path x) c.in-Between.is c.in_ok-choose.ensures.choice in
    more-drawn g c.keeps_limits.ensures.graph old.drawn.items old.on.items old.next.items old.label.items t c.in-Between.c c.in-Between.k path c.requires.board c.requires.foot choice.0 choice.1 choice.2
    new.drawn.items new.on.items new.next.items new.label.items (λ along e. c.draw_path.ensures along (c.deref.ensures.value ∙ e))
