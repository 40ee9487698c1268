use Rattle.std.proofs.Common.{length}
use Rattle.face_weights.specs.Sums.{weight_in}
use Rattle.face_weights.proofs.Steps.{pair-rest}
use Rattle.face_weights.proofs.rests.pair_rests.Goals as goal

pub returns-clause-each : goal.returns-clause-each
returns-clause-each c = λ i l. pair-rest (length c.args.weights.now) (weight_in c.args.weights.now) c.heaviest-place.result c.heaviest_other-second.result i c.renew.new.list.items c.in_ok-renew.ensures c.heaviest-place.ensures.within c.heaviest-place.ensures.most c.heaviest_other-second.ensures l
