use Rattle.std.proofs.Common.{List, ℕ, Option, sym, subst}
use Rattle.rotations.specs.Runs.{mirror_image}
use Rattle.faces.proofs.MapMirror.{mirror-system, mirror-image-plane}
use Rattle.spqr_session.specs.State.{Embedding}
use Rattle.spqr_session.specs.Embedded.{BlockView, view_at, IsInPlane}
use Rattle.spqr_session.specs.Board.{BoardView, Clears, StandsAt, LeadsTo, GoesTo, kept_changed, IsMirroredAt}
use Rattle.spqr_session.proofs.Steps.{ok-map}
use Rattle.spqr_session.proofs.board.Board.mirror.Goals as goal

pub carry-requires : goal.carry-requires
carry-requires c =
    let s = c.self.inside in
    let views = s.blocks.items in
    let b = c.args.b in
    let step = c.mirror_step-step.result in
    let e = c.requires.0 in
    let at = subst (λ (v : BoardView). StandsAt v.views b e) (sym c.self.view_is) c.requires.1 in
    let new : Embedding = record { rotation = mirror_image e.rotation; locks = e.locks } in
    let cuts = c.in_ok-cuts.cuts in
    let clears = subst (λ (v : BoardView). Clears (view_at v.views b).tree.part.vertices v.lists cuts) (sym c.self.view_is) (c.in_ok-cuts.ensures {u = tt}) in
    let made = subst (λ (l : List BlockView). (x : Embedding) (ls : List (Option (List ℕ))) → StandsAt l b x → Clears (view_at l b).tree.part.vertices ls cuts → LeadsTo l ls (kept_changed l ls b (record { rotation = mirror_image x.rotation; locks = x.locks })) step) c.deref.ensures.value c.mirror_step-step.ensures.leads in
    (kept_changed views s.lists b new, subst (λ (v : BoardView). LeadsTo v.views v.lists (kept_changed views s.lists b new) step) c.self.view_is (made e s.lists at clears))

pub returns-clause-done : goal.returns-clause-done
returns-clause-done c =
    let s = c.self.inside in
    let views = s.blocks.items in
    let b = c.args.b in
    let step = c.mirror_step-step.result in
    let e = c.requires.0 in
    let at = subst (λ (v : BoardView). StandsAt v.views b e) (sym c.self.view_is) c.requires.1 in
    let new : Embedding = record { rotation = mirror_image e.rotation; locks = e.locks } in
    let cuts = c.in_ok-cuts.cuts in
    let clears = subst (λ (v : BoardView). Clears (view_at v.views b).tree.part.vertices v.lists cuts) (sym c.self.view_is) (c.in_ok-cuts.ensures {u = tt}) in
    let made = subst (λ (l : List BlockView). (x : Embedding) (ls : List (Option (List ℕ))) → StandsAt l b x → Clears (view_at l b).tree.part.vertices ls cuts → LeadsTo l ls (kept_changed l ls b (record { rotation = mirror_image x.rotation; locks = x.locks })) step) c.deref.ensures.value c.mirror_step-step.ensures.leads in
    let leads = subst (λ (v : BoardView). LeadsTo v.views v.lists (kept_changed views s.lists b new) step) c.self.view_is (made e s.lists at clears) in
    let right = subst (λ (l : List BlockView). IsInPlane (view_at l b)) c.deref.ensures.value c.mirror_step-step.ensures.plane e at.entry in
    let g = (view_at views b).tree.part.graph in
    ok-map c.carry.result (λ _. GoesTo c.args.self.now (kept_changed views s.lists b new) c.carry.new.self) (λ _. IsMirroredAt c.args.self.now b c.carry.new.self)
    (λ _ goes. subst (λ (v : BoardView). GoesTo v (kept_changed views s.lists b new) c.carry.new.self → IsMirroredAt v b c.carry.new.self) c.self.view_is (λ way. record {
      old = e;
      stands = at;
      changed = record { plane = record { system = mirror-system g e.rotation right.1.system; plane = mirror-image-plane g e.rotation right.0.graph right.1.system right.1.plane }; goes = way };
    }) goes) (c.carry.ensures.done (kept_changed views s.lists b new) leads)
