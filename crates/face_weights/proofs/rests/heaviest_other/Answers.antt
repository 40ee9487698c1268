use Rattle.std.proofs.Common.{length}
use Rattle.face_weights.specs.Sums.{weight_in}
use Rattle.face_weights.proofs.Steps.{other-found}
use Rattle.face_weights.proofs.rests.heaviest_other.Goals as goal

pub returns : goal.returns
returns c = other-found (length c.args.weights.now) c.loop-i.i (weight_in c.args.weights.now) c.args.place c.loop-i.most c.requires.several c.loop-i-test.false c.loop-i.auto.i-end c.loop-i.invariant.0 c.loop-i.invariant.1
