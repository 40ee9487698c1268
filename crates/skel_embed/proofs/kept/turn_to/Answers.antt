use Rattle.std.proofs.Common.{◌∙◌}
use Rattle.skel_embed.proofs.KeptLists.{turned-at}
use Rattle.skel_embed.proofs.kept.turn_to.Goals as goal

pub returns : goal.returns
returns c = c.rotate_left.ensures.after ∙ turned-at c.args.keys.now c.place_of.result c.args.first c.place_of.ensures
