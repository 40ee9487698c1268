use Rattle.std.proofs.Common.{◌≡◌, take}
use Rattle.whole_embed.specs.Cuts.{blocks_in}
use Rattle.spqr_session.specs.History.{as_pairs}
use Rattle.spqr_session.specs.WholeSteps.{moves_back, pairs_of}
use Rattle.spqr_session.proofs.whole_steps.all_back.Given as goal

abbrev pub invariant-loop-b : goal.invariant-loop-b
invariant-loop-b l = as_pairs l.list.items ≡ pairs_of (moves_back l.blocks (blocks_in l.all)) (take l.b-index l.numbers)
