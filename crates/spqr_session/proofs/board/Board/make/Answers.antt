use Rattle.std.proofs.Common.{List, ℕ, Option, sym, subst}
use Rattle.skel_embed.specs.Values.{as_moves}
use Rattle.spqr_session.specs.State.{Embedding}
use Rattle.spqr_session.specs.Moved.{all_moved}
use Rattle.spqr_session.specs.Embedded.{BlockView, view_at, IsInPlane}
use Rattle.spqr_session.specs.Board.{BoardView, Clears, StandsAt, CanMake, LeadsTo, GoesTo, kept_changed, AreMade}
use Rattle.spqr_session.proofs.Moved.{moves-keep}
use Rattle.spqr_session.proofs.Steps.{ok-map}
use Rattle.spqr_session.proofs.WaysBack.{all-lead}
use Rattle.spqr_session.proofs.board.Board.make.Goals as goal

pub carry-requires : goal.carry-requires
carry-requires c =
    let s = c.self.inside in
    let views = s.blocks.items in
    let b = c.args.b in
    let moves = as_moves c.args.forth in
    let step = c.in_ok-step.step in
    let can = subst (λ (v : BoardView). CanMake v.views b moves) (sym c.self.view_is) c.requires in
    let e = can.entry in
    let new : Embedding = record { rotation = all_moved (view_at views b).tree.nodes moves e.rotation; locks = e.locks } in
    let cuts = c.in_ok-cuts.cuts in
    let clears = subst (λ (v : BoardView). Clears (view_at v.views b).tree.part.vertices v.lists cuts) (sym c.self.view_is) (c.in_ok-cuts.ensures {u = tt}) in
    let made = subst (λ (l : List BlockView). (x : Embedding) (ls : List (Option (List ℕ))) → StandsAt l b x → Clears (view_at l b).tree.part.vertices ls cuts → LeadsTo l ls (kept_changed l ls b (record { rotation = all_moved (view_at l b).tree.nodes moves x.rotation; locks = x.locks })) step) c.deref.ensures.value c.in_ok-step.ensures.leads in
    (kept_changed views s.lists b new, subst (λ (v : BoardView). LeadsTo v.views v.lists (kept_changed views s.lists b new) step) c.self.view_is (made e s.lists can.stands clears))

pub returns-clause-done : goal.returns-clause-done
returns-clause-done c =
    let s = c.self.inside in
    let views = s.blocks.items in
    let b = c.args.b in
    let moves = as_moves c.args.forth in
    let step = c.in_ok-step.step in
    let can = subst (λ (v : BoardView). CanMake v.views b moves) (sym c.self.view_is) c.requires in
    let e = can.entry in
    let new : Embedding = record { rotation = all_moved (view_at views b).tree.nodes moves e.rotation; locks = e.locks } in
    let cuts = c.in_ok-cuts.cuts in
    let clears = subst (λ (v : BoardView). Clears (view_at v.views b).tree.part.vertices v.lists cuts) (sym c.self.view_is) (c.in_ok-cuts.ensures {u = tt}) in
    let made = subst (λ (l : List BlockView). (x : Embedding) (ls : List (Option (List ℕ))) → StandsAt l b x → Clears (view_at l b).tree.part.vertices ls cuts → LeadsTo l ls (kept_changed l ls b (record { rotation = all_moved (view_at l b).tree.nodes moves x.rotation; locks = x.locks })) step) c.deref.ensures.value c.in_ok-step.ensures.leads in
    let leads = subst (λ (v : BoardView). LeadsTo v.views v.lists (kept_changed views s.lists b new) step) c.self.view_is (made e s.lists can.stands clears) in
    let right = subst (λ (l : List BlockView). IsInPlane (view_at l b)) c.deref.ensures.value c.in_ok-step.ensures.plane e can.stands.entry in
    let tree = (view_at views b).tree in
    ok-map c.carry.result (λ _. GoesTo c.args.self.now (kept_changed views s.lists b new) c.carry.new.self) (λ _. AreMade c.args.self.now b moves c.carry.new.self)
    (λ _ goes. subst (λ (v : BoardView). GoesTo v (kept_changed views s.lists b new) c.carry.new.self → AreMade v b moves c.carry.new.self) c.self.view_is (λ g. record {
      old = e;
      stands = can.stands;
      rotation = all_moved tree.nodes moves e.rotation;
      lead = all-lead tree.part.graph tree.nodes right.0 moves e.rotation right.1 can.are.fit;
      changed = record { plane = moves-keep tree.part.graph tree.nodes right.0 moves e.rotation right.1 can.are.fit; goes = g };
    }) goes) (c.carry.ensures.done (kept_changed views s.lists b new) leads)
