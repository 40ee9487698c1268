use Rattle.std.proofs.Common.{sym, ◌∙◌}
use Rattle.skel_embed.proofs.RunSteps.{edge-around}
use Rattle.skel_embed.proofs.runs.first_at.Goals as goal

pub first_from-requires-clause-around : goal.first_from-requires-clause-around
first_from-requires-clause-around c = edge-around c.args.g.now c.args.r.now c.args.v c.args.e c.requires.system c.requires.vertex (sym c.is_edge_at.ensures ∙ c.if-is_edge_at.true)
