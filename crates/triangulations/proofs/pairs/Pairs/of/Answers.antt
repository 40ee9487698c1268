use Rattle.std.proofs.Common.{ℕ, subst}
use Rattle.triangulations.specs.Pairs.{AddsPair}
use Rattle.triangulations.proofs.JoinedPairs.{knows-more}
use Rattle.triangulations.proofs.pairs.Pairs.of.Goals as goal

pub loop-e-preserved : goal.loop-e-preserved
loop-e-preserved c = knows-more c.args.g.now c.loop-e.e c.loop-e.pairs.held c.add.new.self.held c.loop-e.invariant
    (subst (λ (p : ℕ × ℕ). AddsPair c.loop-e.pairs.held p.0 p.1 c.add.new.self.held) c.ends-first.ensures.value c.in_ok-add.ensures)
