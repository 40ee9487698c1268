-- What is returned where a graph is drawn path by path.
use Rattle.std.specs.Prelude.{ℕ, List}
use Rattle.multigraph.specs.Graph.{Multigraph}
use Rattle.graph_theory.specs.Triconnected.{IsTriconnected}
use Rattle.faces.specs.Euler.{IsPlaneSystem}
use Rattle.path_rotation.specs.declared.outcome.Drawn.{Drawn}
use Rattle.path_rotation.specs.declared.outcome.Drawn.TheVariants.{Plane, NotPlanar, Stuck}

-- the result is right: a plane rotation system of g; or g has none; or g is not triconnected
abbrev pub IsDrawn : Multigraph → Drawn → Type 0
IsDrawn g (Plane r) = IsPlaneSystem g r
IsDrawn g NotPlanar = (r : List (List ℕ)) → IsPlaneSystem g r → ⊥
IsDrawn g Stuck = IsTriconnected g → ⊥
