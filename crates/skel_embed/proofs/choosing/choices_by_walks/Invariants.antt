use Rattle.std.proofs.Common.{◌≡◌, take}
use Rattle.std.specs.List.{concat}
use Rattle.skel_embed.specs.Block.{choices_by}
use Rattle.skel_embed.proofs.choosing.choices_by_walks.Given as goal

abbrev pub invariant-loop-k : goal.invariant-loop-k
invariant-loop-k l = l.keys.items ≡ concat (take l.k (choices_by l.t l.r))
