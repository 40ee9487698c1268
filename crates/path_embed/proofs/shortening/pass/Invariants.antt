use Rattle.path_embed.specs.Found.{IsRest}
use Rattle.path_embed.proofs.shortening.pass.Given as goal

abbrev pub invariant-loop-turn : goal.invariant-loop-turn
invariant-loop-turn l = IsRest l.g l.rest
