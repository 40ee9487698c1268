use Rattle.permutations.proofs.Turned.{turned-first_or, turned-permutation, turned-successor}
use Rattle.permutations.proofs.turning_keeps_cyclic_order.Goals as goal

pub returns : goal.returns
returns c = record { begins = turned-first_or; rearranges = turned-permutation; successors = turned-successor }
