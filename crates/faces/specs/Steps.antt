-- State of a loop: the face steps of the darts, as a list.
use Rattle.std.specs.Prelude.{◌≡◌, ℕ, ◌<◌, List, length, slice_index}
use Rattle.multigraph.specs.Graph.{Multigraph}
use Rattle.faces.specs.Euler.{dart_count, face_step}

-- the list holds, for each dart below n, the next one of its face
pub record AreStepsBelow (g : Multigraph) (r : List (List ℕ)) (n : ℕ) (steps : List ℕ) : Type 0 where
  pub darts : length steps ≡ n
  pub each : (d : ℕ) → d < n → slice_index steps d ≡ face_step g r d

-- the list holds, for each dart, the next one of its face
abbrev pub AreFaceSteps : Multigraph → List (List ℕ) → List ℕ → Type 0
AreFaceSteps g r steps = AreStepsBelow g r (dart_count g) steps
