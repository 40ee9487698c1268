use Rattle.std.proofs.Common.{◌≡◌, List, All, refl, sym, ap₂, ◌∙◌, subst}
use Rattle.multigraph.specs.Part.{GraphPart}
use Rattle.moves.specs.declared.values.Move.{Move}
use Rattle.spqr_script.specs.Answers.Moves.{IsMoveOf}
use Rattle.spqr_script.specs.Answers.Longest.{longest_text}
use Rattle.spqr_session.specs.Embedded.{view_at}
use Rattle.spqr_session.specs.BlockCodes.{no_more, TellsBlock}
use Rattle.spqr_session.specs.Planar.{IsPlaneAt}
use Rattle.spqr_session.specs.Commands.Longest.{IsLongestAnswer}
use Rattle.spqr_session.proofs.Steps.{text-map}
use Rattle.spqr_session.proofs.PlanarBlocks.{part-there, plane-there, plane-read}
use Rattle.spqr_session.proofs.LongestCarried.{longest-within, longest-told}
use Rattle.spqr_session.proofs.commands.longest.carry_longest.Goals as goal

pub longest_lines-requires : goal.longest_lines-requires
longest_lines-requires c =
    let views = c.args.blocks.now in
    let b = c.args.b in
    let v = view_at views b in
    let part = c.in-Ok.part.now in
    let p = c.in-Ok.plane.now in
    let there : IsPlaneAt views b part p = c.in-Ok.ensures in
    let found = c.in_ok-found-in-Ok in
    subst (λ (q : GraphPart). All (IsMoveOf q.graph) c.deref.result.now) (sym (part-there views b part p there))
    (subst (λ (l : List Move). All (IsMoveOf v.tree.part.graph) l) (sym c.deref.ensures.value) (longest-within v p (plane-there views b part p there) found.found.length found.found.moves.items found.ensures))

pub returns-in_ok-found-in-Ok : goal.returns-in_ok-found-in-Ok
returns-in_ok-found-in-Ok c =
    let views = c.args.blocks.now in
    let b = c.args.b in
    let v = view_at views b in
    let part = c.in-Ok.part.now in
    let p = c.in-Ok.plane.now in
    let there : IsPlaneAt views b part p = c.in-Ok.ensures in
    let found = c.in_ok-found-in-Ok in
    plane-read views b part p there no_more (λ tree e. refl) IsLongestAnswer c.longest_lines.result
    (text-map c.longest_lines.result (λ text. text ≡ longest_text part found.found.length c.deref.result.now) (λ text. TellsBlock v.tree v.entry no_more IsLongestAnswer text)
    (λ text e. longest-told v p (plane-there views b part p there) found.found.length found.found.moves.items found.ensures text (e ∙ ap₂ (λ q ms. longest_text q found.found.length ms) (part-there views b part p there) c.deref.ensures.value)) c.longest_lines.ensures)
