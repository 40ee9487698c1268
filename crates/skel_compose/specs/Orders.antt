-- The cyclic orders of a rotation system as entries: a list for each vertex.
use Rattle.std.specs.Prelude.{ℕ, List, map}
use Rattle.multigraph.specs.Graph.{numbers_below}
use Rattle.rotations.specs.Rotation.{order_at}

-- those of the vertices below n
abbrev pub orders_below : List (List ℕ) → ℕ → List (ℕ × List ℕ)
orders_below r n = map (λ v. (v, order_at r v)) (numbers_below n)
