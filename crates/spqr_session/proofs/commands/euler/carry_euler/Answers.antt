use Rattle.std.proofs.Common.{◌≡◌}
use Rattle.spqr_script.specs.Answers.Euler.{euler_text}
use Rattle.spqr_session.specs.Codes.{code_text}
use Rattle.spqr_session.specs.Commands.Euler.{EulerOn, euler_numbers}
use Rattle.spqr_session.specs.declared.code.Code.TheVariants.{BadRotation}
use Rattle.spqr_session.proofs.EulerCarried.{euler-refused, euler-done}
use Rattle.spqr_session.proofs.Steps.{text-map}
use Rattle.spqr_session.proofs.commands.euler.carry_euler.Goals as goal

pub returns-in-Ok : goal.returns-in-Ok
returns-in-Ok c =
    let g = c.args.g.now in
    let entries = c.args.lists.now in
    let e = c.in-Ok.ensures in
    λ s. text-map c.numbers_line.result (λ text. text ≡ euler_text (euler_numbers g c.in-Ok.rotation)) (λ text. EulerOn g entries s text s)
    (λ text is. euler-done g entries c.in-Ok.rotation s text (record { arranged = e.arranged; system = e.system; orders = e.orders }) is) c.numbers_line.ensures

pub returns-in-BadRotation : goal.returns-in-BadRotation
returns-in-BadRotation c =
    let g = c.args.g.now in
    let entries = c.args.lists.now in
    let v = c.in-BadRotation.v in
    let is = c.in-BadRotation.is in
    λ s. text-map c.line.result (λ text. text ≡ code_text (BadRotation v)) (λ text. EulerOn g entries s text s)
    (λ text e. euler-refused g entries v s text (rw is at c.in-Err.ensures.refused) e) c.line.ensures
