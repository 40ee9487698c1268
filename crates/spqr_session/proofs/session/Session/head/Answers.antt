use Rattle.std.proofs.Common.{◌≡◌, List, IfOk, subst}
use Rattle.spqr_session.specs.Head.{head_text}
use Rattle.spqr_session.specs.Machine.{Machine}
use Rattle.spqr_session.specs.Embedded.{BlockView}
use Rattle.spqr_session.specs.Scene.{setting_on}
use Rattle.spqr_session.proofs.session.Session.head.Goals as goal

pub returns : goal.returns
returns c =
    let s = c.self.inside in
    subst (λ (m : Machine). IfOk c.head_of.result (λ text. text.items ≡ head_text m.setting)) c.self.view_is
    (subst (λ (views : List BlockView). IfOk c.head_of.result (λ text. text.items ≡ head_text (setting_on s.scene views))) c.blocks-2.ensures (c.head_of.ensures s.scene.doc))
