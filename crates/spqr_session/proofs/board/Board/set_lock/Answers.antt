use Rattle.std.proofs.Common.{List, ℕ, Option, sym, subst}
use Rattle.spqr_session.specs.State.{Embedding}
use Rattle.spqr_session.specs.Embedded.{BlockView}
use Rattle.spqr_session.specs.Commands.Lock.{with_lock}
use Rattle.spqr_session.specs.Board.{BoardView, StandsAt, LeadsTo, kept_with_entry}
use Rattle.spqr_session.proofs.board.Board.set_lock.Goals as goal

pub carry-requires : goal.carry-requires
carry-requires c =
    let s = c.self.inside in
    let views = s.blocks.items in
    let b = c.args.b in
    let step = c.lock_step-step.result in
    let made = subst (λ (l : List BlockView). (x : Embedding) (ls : List (Option (List ℕ))) → StandsAt l b x → LeadsTo l ls (kept_with_entry l ls b (with_lock c.args.k c.args.on x)) step) c.deref.ensures.value c.lock_step-step.ensures in
    let e = c.requires.stands.0 in
    let at = subst (λ (v : BoardView). StandsAt v.views b e) (sym c.self.view_is) c.requires.stands.1 in
    (kept_with_entry views s.lists b (with_lock c.args.k c.args.on e), subst (λ (v : BoardView). LeadsTo v.views v.lists (kept_with_entry views s.lists b (with_lock c.args.k c.args.on e)) step) c.self.view_is (made e s.lists at))

pub returns-clause-done : goal.returns-clause-done
returns-clause-done c = λ e stands.
    let s = c.self.inside in
    let views = s.blocks.items in
    let b = c.args.b in
    let step = c.lock_step-step.result in
    let made = subst (λ (l : List BlockView). (x : Embedding) (ls : List (Option (List ℕ))) → StandsAt l b x → LeadsTo l ls (kept_with_entry l ls b (with_lock c.args.k c.args.on x)) step) c.deref.ensures.value c.lock_step-step.ensures in
    let at = subst (λ (v : BoardView). StandsAt v.views b e) (sym c.self.view_is) stands in
    let now = c.args.self.now in
    c.carry.ensures.done (kept_with_entry now.views now.lists b (with_lock c.args.k c.args.on e))
    (subst (λ (v : BoardView). LeadsTo v.views v.lists (kept_with_entry v.views v.lists b (with_lock c.args.k c.args.on e)) step) c.self.view_is (made e s.lists at))
