use Rattle.std.proofs.Common.{◌+◌, ◌≤◌, length}
use Rattle.split_comp.specs.Pass.{IsBack, IsAsFar, weight}
use Rattle.split_comp.proofs.pass.Pass.reduce_all.Given as goal

abbrev pub invariant-loop-steps : goal.invariant-loop-steps
invariant-loop-steps g l = IsBack l.g l.tree l.self.done l.self × IsAsFar l.initial.self l.self × (l.steps + weight l.self ≤ l.initial.steps + weight l.initial.self) × (l.initial.steps ≤ l.steps) × (l.initial.steps + length l.initial.self.cuts ≤ l.steps + length l.self.cuts)

abbrev pub decreases-loop-steps : goal.decreases-loop-steps
decreases-loop-steps g l = weight l.self
