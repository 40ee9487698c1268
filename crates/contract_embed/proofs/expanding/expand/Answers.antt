use Rattle.std.proofs.Common.{List, Bool, sym, subst}
use Rattle.contractions.specs.Marks.{AreNeighbourMarks}
use Rattle.contract_embed.proofs.expanding.expand.Goals as goal

pub split-requires-clause-marks : goal.split-requires-clause-marks
split-requires-clause-marks c =
    let level = c.args.level.now in
    subst (λ (m : List Bool). AreNeighbourMarks level.graph level.y m) (sym c.deref.ensures.value) c.in_ok-marks.ensures.marks
