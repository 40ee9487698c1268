-- What is proved of summaries, as a statement.
use Rattle.std.specs.Prelude.{◌≡◌, ℕ, List}
use Rattle.multigraph.specs.Graph.{Multigraph}
use Rattle.graph_theory.specs.Block.{IsOneBlock}
use Rattle.made_summary.specs.Summary.{IsSummary}

-- a graph of one block has one summary at most
abbrev pub SummaryIsUnique : Type 0
SummaryIsUnique = (g : Multigraph) (text other : List ℕ) → IsOneBlock g → IsSummary g text → IsSummary g other → text ≡ other
