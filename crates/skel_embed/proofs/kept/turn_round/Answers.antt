use Rattle.std.proofs.Common.{◌∙◌}
use Rattle.skel_embed.proofs.KeptLists.{turned-round}
use Rattle.skel_embed.proofs.kept.turn_round.Goals as goal

pub returns : goal.returns
returns c = c.reverse_from.ensures ∙ turned-round c.args.keys.now c.requires.once c.requires.written
