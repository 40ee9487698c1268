use Rattle.std.proofs.Common.{List, ℕ, Option, slice_set, sym, ap, ◌∙◌, subst}
use Rattle.multigraph.specs.Graph.{Multigraph}
use Rattle.faces.specs.Euler.{IsPlaneSystem}
use Rattle.spqr_session.specs.State.{Embedding}
use Rattle.spqr_session.specs.Embedded.{BlockView, view_entry, view_at}
use Rattle.spqr_session.specs.History.{lists_set}
use Rattle.spqr_session.specs.Board.{BoardView, Clears, CanReplace, LeadsTo, kept_changed}
use Rattle.spqr_session.proofs.BlockTrees.{view-at}
use Rattle.spqr_session.proofs.Boards.{noted-added}
use Rattle.spqr_session.proofs.BoardSteps.{put-right, put-carried, put-changed}
use Rattle.spqr_session.proofs.MarkedLists.{marked-after}
use Rattle.spqr_session.proofs.board.Board.put.Goals as goal

pub replace-requires-clause-planar : goal.replace-requires-clause-planar
replace-requires-clause-planar c =
    let can = subst (λ (v : BoardView). CanReplace v.views c.args.b c.requires.0 c.args.plane) (sym c.self.view_is) c.requires.1 in
    (c.requires.0, ap view_entry (view-at c.self.inside.blocks.items c.args.b c.index_mut.result.now can.stands.within c.index_mut.ensures.value) ∙ can.stands.entry)

pub invariant_of-self-2 : goal.invariant_of-self-2
invariant_of-self-2 c =
    let s = c.self.inside in
    let views = s.blocks.items in
    let b = c.args.b in
    let e : Embedding = record { rotation = c.args.plane.rotation; locks = c.args.plane.locks } in
    let step = c.in_ok-step.step in
    let can = subst (λ (v : BoardView). CanReplace v.views b c.requires.0 c.args.plane) (sym c.self.view_is) c.requires.1 in
    let cuts = c.in_ok-cuts.cuts in
    let clears = subst (λ (v : BoardView). Clears (view_at v.views b).tree.part.vertices v.lists cuts) (sym c.self.view_is) (c.in_ok-cuts.ensures {u = tt}) in
    let made = subst (λ (l : List BlockView). (ls : List (Option (List ℕ))) → Clears (view_at l b).tree.part.vertices ls cuts → LeadsTo l ls (kept_changed l ls b e) step) c.deref.ensures.value c.in_ok-step.ensures in
    let leads = made s.lists clears in
    let set = c.set.ensures ∙ ap (λ (ps : List (ℕ × Option (List ℕ))). lists_set ps s.lists) c.in_ok-lists.ensures in
    let added = noted-added s.log c.reserve.new.self c.note.new.self step c.reserve.ensures.steps c.reserve.ensures.cursor c.note.ensures in
    record {
      board = put-right views s.lists c.set.new.self b e c.replace.new.self c.index_mut.result.now step can.stands.within c.index_mut.ensures.value c.replace.ensures s.log c.note.new.self c.args.self.now c.self.invariant.board c.self.view_is added leads set;
      marks = marked-after views c.deref-2.result.now (slice_set views b c.replace.new.self) s.lists c.set.new.self c.in_ok-lists.lists.items c.deref-3.result.now c.prepare.new.self c.deref-2.ensures.value c.deref-3.ensures.value
          (put-carried views s.lists c.set.new.self b e c.replace.new.self c.index_mut.result.now step can.stands.within c.index_mut.ensures.value c.replace.ensures).trees c.set.ensures c.in_ok-prepare.ensures.after;
    }

pub returns-clause-done : goal.returns-clause-done
returns-clause-done c =
    let s = c.self.inside in
    let views = s.blocks.items in
    let b = c.args.b in
    let e : Embedding = record { rotation = c.args.plane.rotation; locks = c.args.plane.locks } in
    let step = c.in_ok-step.step in
    let can = subst (λ (v : BoardView). CanReplace v.views b c.requires.0 c.args.plane) (sym c.self.view_is) c.requires.1 in
    let cuts = c.in_ok-cuts.cuts in
    let clears = subst (λ (v : BoardView). Clears (view_at v.views b).tree.part.vertices v.lists cuts) (sym c.self.view_is) (c.in_ok-cuts.ensures {u = tt}) in
    let made = subst (λ (l : List BlockView). (ls : List (Option (List ℕ))) → Clears (view_at l b).tree.part.vertices ls cuts → LeadsTo l ls (kept_changed l ls b e) step) c.deref.ensures.value c.in_ok-step.ensures in
    let leads = made s.lists clears in
    let set = c.set.ensures ∙ ap (λ (ps : List (ℕ × Option (List ℕ))). lists_set ps s.lists) c.in_ok-lists.ensures in
    let added = noted-added s.log c.reserve.new.self c.note.new.self step c.reserve.ensures.steps c.reserve.ensures.cursor c.note.ensures in
    put-changed views s.lists c.set.new.self b e c.replace.new.self c.index_mut.result.now step can.stands.within c.index_mut.ensures.value c.replace.ensures s.log c.note.new.self c.args.self.now c.self.invariant.board c.self.view_is added leads set
    (subst (λ (g : Multigraph). IsPlaneSystem g c.args.plane.rotation) can.graph c.belongs.ensures.plane)
