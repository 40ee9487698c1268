use Rattle.std.proofs.Common.{◌∙◌, List, ℕ, ap}
use Rattle.skel_embed.specs.Values.{as_move}
use Rattle.spqr_session.proofs.Moved.{move-made}
use Rattle.spqr_session.proofs.embedded.changing.carry_one.Goals as goal

pub returns : goal.returns
returns c =
    let old = c.args.plane.now in
    let new = c.carry_out.new.p in
    let made = move-made old.graph old.tree c.belongs.ensures.block (as_move c.args.one.now) old.rotation new.rotation c.belongs.ensures.plane.system c.carry_out.ensures.leads in
    c.carry_out.ensures.rest ∙ ap (λ (r : List (List ℕ)). record { graph = old.graph; tree = old.tree; rotation = r; choices = new.choices; locks = old.locks }) made
