use Rattle.std.proofs.Common.{◌∙◌}
use Rattle.embed_moves.proofs.Arranging.{any-member}
use Rattle.embed_moves.proofs.permuting.has_key.Goals as goal

pub returns : goal.returns
returns c = c.contains.ensures.value ∙ any-member c.args.keys.now c.args.key
