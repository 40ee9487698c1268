-- Rotation systems as lists that give for each dart the one that follows it.
use Rattle.std.specs.Prelude.{◌≡◌, ℕ, ◌<◌, List, length, slice_index}
use Rattle.multigraph.specs.Graph.{Multigraph}
use Rattle.rotations.specs.Rotation.{IsRotationSystem}
use Rattle.faces.specs.Euler.{dart_count, IsPlane}
use Rattle.faces.specs.Maps.{dart_after}

-- s is a rotation system of g, and the list gives for each dart the one that follows it in s
pub record AreSteps (g : Multigraph) (s : List (List ℕ)) (next : List ℕ) : Type 0 where
  pub system : IsRotationSystem g s
  pub each : length next ≡ dart_count g
  pub steps : (d : ℕ) → d < dart_count g → slice_index next d ≡ dart_after g s d

-- the list gives the steps of a plane rotation system of g
pub record ArePlaneSteps (g : Multigraph) (next : List ℕ) : Type 0 where
  pub system : List (List ℕ)
  pub are_steps : AreSteps g system next
  pub plane : IsPlane g system
