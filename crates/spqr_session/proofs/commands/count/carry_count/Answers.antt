use Rattle.std.proofs.Common.{◌≡◌, refl}
use Rattle.spqr_script.specs.Answers.Count.{count_text}
use Rattle.spqr_session.specs.Embedded.{view_at}
use Rattle.spqr_session.specs.Codes.{code_text}
use Rattle.spqr_session.specs.BlockCodes.{TellsBlock}
use Rattle.spqr_session.specs.Planar.{IsPlaneAt}
use Rattle.spqr_session.specs.Products.{product_count_codes}
use Rattle.spqr_session.specs.Commands.Count.{IsCounted}
use Rattle.spqr_session.specs.declared.code.Code.TheVariants.{CountOver}
use Rattle.spqr_session.proofs.Steps.{text-map}
use Rattle.spqr_session.proofs.Planes.{its-list, own-list, told-over, told-count}
use Rattle.spqr_session.proofs.PlanarBlocks.{plane-there, plane-read}
use Rattle.spqr_session.proofs.commands.count.carry_count.Goals as goal

pub returns-in-Ok-count : goal.returns-in-Ok-count
returns-in-Ok-count c =
    let views = c.args.blocks.now in
    let b = c.args.b in
    let v = view_at views b in
    let part = c.in-Ok.field-0-0.now in
    let p = c.in-Ok.plane.now in
    let there : IsPlaneAt views b part p = c.in-Ok.ensures in
    let seen = plane-there views b part p there in
    plane-read views b part p there product_count_codes (λ tree e. refl) IsCounted c.line_of.result
    (text-map c.line_of.result (λ text. text ≡ count_text c.in-Ok-count.members) (λ text. TellsBlock v.tree v.entry product_count_codes IsCounted text)
    (λ text e. told-count v p seen c.in-Ok-count.members text c.line_of.ensures.below c.in-Ok-count.ensures.counted e) c.line_of.ensures.line)

pub returns-in-Err-count : goal.returns-in-Err-count
returns-in-Err-count c =
    let views = c.args.blocks.now in
    let b = c.args.b in
    let v = view_at views b in
    let part = c.in-Ok.field-0-0.now in
    let p = c.in-Ok.plane.now in
    let there : IsPlaneAt views b part p = c.in-Ok.ensures in
    let seen = plane-there views b part p there in
    plane-read views b part p there product_count_codes (λ tree e. refl) IsCounted c.line.result
    (text-map c.line.result (λ text. text ≡ code_text CountOver) (λ text. TellsBlock v.tree v.entry product_count_codes IsCounted text)
    (λ text e. told-over v p seen IsCounted text (c.in-Err-count.ensures.over (its-list v p seen).list (own-list v p seen)) e) c.line.ensures)
