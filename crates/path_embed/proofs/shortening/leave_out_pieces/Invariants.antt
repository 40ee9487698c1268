use Rattle.std.proofs.Common.{◌<◌}
use Rattle.path_embed.specs.Found.{IsRest}
use Rattle.path_embed.proofs.shortening.leave_out_pieces.Given as goal

abbrev pub invariant-loop-turn : goal.invariant-loop-turn
invariant-loop-turn l = record {
  rest : IsRest l.g l.rest;
  pieces : 0 < l.pieces;
}
