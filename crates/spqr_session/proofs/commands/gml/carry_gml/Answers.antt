use Rattle.std.proofs.Common.{sym}
use Rattle.spqr_session.proofs.commands.gml.carry_gml.Goals as goal

pub present_texts-requires : goal.present_texts-requires
present_texts-requires c = (c.args.graph.now, c.requires.0, sym c.vertex_count.ensures.value, c.vertex_count.ensures.graph, c.requires.1)
