use Rattle.std.proofs.Common.{subst}
use Rattle.path_rotation.specs.Outcome.{IsDrawn}
use Rattle.path_embed.proofs.deciding.plane_system.Goals as goal

pub unreachable-requires : goal.unreachable-requires
unreachable-requires c = subst (IsDrawn c.args.g.now) c.in-Stuck.is (c.in_ok-drawn.ensures {u = tt}) c.requires
