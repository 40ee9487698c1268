use Rattle.std.proofs.Common.{sym, ◌∙◌}
use Rattle.skel_embed.proofs.KeptLists.{position-stands, position-found}
use Rattle.skel_embed.proofs.kept.place_of.Goals as goal

pub unreachable-requires : goal.unreachable-requires
unreachable-requires c = position-found c.args.keys.now c.args.key c.requires (sym c.position.ensures ∙ c.in-None.is)

pub returns : goal.returns
returns c = position-stands c.args.keys.now c.args.key c.in-Some.place c.requires (sym c.position.ensures ∙ c.in-Some.is)
