use Rattle.std.proofs.Common.{◌<◌, ℕ}
use Rattle.multigraph.specs.Graph.{ends_of}
use Rattle.contractions.specs.Contraction.{IsContractible}
use Rattle.contractions.proofs.contractible.contractible_edge.Given as goal

abbrev pub invariant-loop-edge : goal.invariant-loop-edge
invariant-loop-edge l = (f : ℕ) → f < l.edge → IsContractible l.g (ends_of l.g f).0 (ends_of l.g f).1 → ⊥
