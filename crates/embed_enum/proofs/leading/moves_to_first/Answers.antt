use Rattle.std.proofs.Common.{List, length, sym, subst}
use Rattle.skel_embed.specs.Block.{BlockState}
use Rattle.skel_embed.specs.Values.{as_moves}
use Rattle.skel_embed.specs.declared.Move.{Move}
use Rattle.embed_enum.specs.Changes.{AreResetBy}
use Rattle.embed_enum.specs.Walk.{IsAtRank, AreMovesTo}
use Rattle.embed_enum.proofs.Leads.{ok-held, led-begins, first-led}
use Rattle.embed_enum.proofs.leading.moves_to_first.Goals as goal

pub returns : goal.returns
returns c =
    let p : BlockState = c.args.p.now in
    ok-held c.with_resets.result (λ moves. AreResetBy p p 0 (length p.tree) (as_moves moves)) (λ moves. AreMovesTo p (IsAtRank p 0) (as_moves moves)) (λ moves h. first-led p c.belongs.ensures (as_moves moves) h)
    (c.with_resets.ensures p (subst (λ (z : List Move). AreResetBy p p 0 0 (as_moves z)) (sym c.new.ensures.items) (led-begins p c.belongs.ensures)))
