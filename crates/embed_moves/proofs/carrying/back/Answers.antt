use Rattle.std.proofs.Common.{◌∙◌, subst}
use Rattle.skeletons.specs.Moves.{MoveLeads}
use Rattle.skel_embed.specs.Values.{as_move}
use Rattle.moves.specs.declared.values.Move.{Move}
use Rattle.embed_moves.proofs.Returns.{permute-back}
use Rattle.embed_moves.proofs.carrying.back.Goals as goal

pub returns-in_ok-of-in-Permute-clause-leads : goal.returns-in_ok-of-in-Permute-clause-leads
returns-in_ok-of-in-Permute-clause-leads c q m = permute-back c.args.p.now c.belongs.ensures c.in-Permute.k c.in-Permute.field-1 c.in_ok-of-in-Permute.field-0 (c.in_ok-of-in-Permute.ensures {u = tt} ∙ c.keys.ensures) q
    (subst (λ (z : Move). MoveLeads c.args.p.now.graph c.args.p.now.tree (as_move z) c.args.p.now.rotation q) c.in-Permute.is m)
