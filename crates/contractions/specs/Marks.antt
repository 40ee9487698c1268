-- State of a loop: marks on the neighbours of a vertex.
use Rattle.std.specs.Prelude.{◌≡◌, ℕ, ◌<◌, Bool, ◌&&◌, ◌==◌, List}
use Rattle.permutations.specs.Count.{some}
use Rattle.multigraph.specs.Graph.{Multigraph, is_end, other_end}
use Rattle.multigraph.specs.Marks.{is_marked}
use Rattle.contractions.specs.Contraction.{are_adjacent}

-- just the vertices are marked that are joined with x
abbrev pub AreNeighbourMarks : Multigraph → ℕ → List Bool → Type 0
AreNeighbourMarks g x marks = (v : ℕ) → v < g.vertex_count → is_marked marks v ≡ are_adjacent g x v

-- just the vertices are marked that one of the first k edges joins with x
abbrev pub AreNeighbourMarksBelow : Multigraph → ℕ → ℕ → List Bool → Type 0
AreNeighbourMarksBelow g x k marks =
    (v : ℕ) → v < g.vertex_count → is_marked marks v ≡ some k (λ f. is_end g x f && (other_end g f x == v))
