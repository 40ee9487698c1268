use Rattle.std.proofs.Common.{◌≡◌, refl}
use Rattle.spqr_script.specs.Answers.Rank.{rank_text}
use Rattle.spqr_session.specs.Embedded.{view_at}
use Rattle.spqr_session.specs.Codes.{code_text}
use Rattle.spqr_session.specs.BlockCodes.{TellsBlock}
use Rattle.spqr_session.specs.Planar.{IsPlaneAt}
use Rattle.spqr_session.specs.Products.{product_count_codes}
use Rattle.spqr_session.specs.Commands.Count.{IsRanked}
use Rattle.spqr_session.specs.declared.code.Code.TheVariants.{CountOver}
use Rattle.spqr_session.proofs.Steps.{text-map}
use Rattle.spqr_session.proofs.Planes.{its-list, own-list, told-over, told-rank}
use Rattle.spqr_session.proofs.PlanarBlocks.{plane-there, plane-read}
use Rattle.spqr_session.proofs.commands.count.carry_rank.Goals as goal

pub returns-in-Ok-rank : goal.returns-in-Ok-rank
returns-in-Ok-rank c =
    let views = c.args.blocks.now in
    let b = c.args.b in
    let v = view_at views b in
    let part = c.in-Ok.field-0-0.now in
    let p = c.in-Ok.plane.now in
    let there : IsPlaneAt views b part p = c.in-Ok.ensures in
    let seen = plane-there views b part p there in
    plane-read views b part p there product_count_codes (λ tree e. refl) IsRanked c.rank_line.result
    (text-map c.rank_line.result (λ text. text ≡ rank_text c.in-Ok-rank.place) (λ text. TellsBlock v.tree v.entry product_count_codes IsRanked text)
    (λ text e. told-rank v p seen c.in-Ok-rank.place text c.in-Ok-rank.ensures.ranked c.in-Ok-rank.ensures.within e) c.rank_line.ensures)

pub returns-in-Err-rank : goal.returns-in-Err-rank
returns-in-Err-rank c =
    let views = c.args.blocks.now in
    let b = c.args.b in
    let v = view_at views b in
    let part = c.in-Ok.field-0-0.now in
    let p = c.in-Ok.plane.now in
    let there : IsPlaneAt views b part p = c.in-Ok.ensures in
    let seen = plane-there views b part p there in
    plane-read views b part p there product_count_codes (λ tree e. refl) IsRanked c.line.result
    (text-map c.line.result (λ text. text ≡ code_text CountOver) (λ text. TellsBlock v.tree v.entry product_count_codes IsRanked text)
    (λ text e. told-over v p seen IsRanked text (c.in-Err-rank.ensures.over (its-list v p seen).list (own-list v p seen)) e) c.line.ensures)
