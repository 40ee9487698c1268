-- What is proved of plane rotation systems, as statements.
use Rattle.std.specs.Prelude.{◌≡◌, ◌≢◌, ℕ, ◌⊎◌, List}
use Rattle.multigraph.specs.Graph.{Multigraph, IsGraph}
use Rattle.rotations.specs.Rotation.{IsRotationSystem}
use Rattle.graph_theory.specs.Triconnected.{IsTriconnected}
use Rattle.faces.specs.Euler.{IsPlane, IsPlaneSystem}
use Rattle.rotations.specs.Runs.{mirror_image}
use Rattle.kuratowski.specs.Subdivision.{IsSubdivision, IsWritten}
use Rattle.kuratowski.specs.declared.subdivision.Pattern.{Pattern}

-- a graph with a subdivision of K5 or K3,3 has no plane rotation system
abbrev pub SubdivisionExcludesPlane : Type 0
SubdivisionExcludesPlane = (g : Multigraph) (r : List (List ℕ)) → IsGraph g → IsRotationSystem g r → IsPlane g r
    → (kind : Pattern) (branch : List ℕ) (paths : List (List ℕ)) → IsSubdivision g kind branch paths → ⊥

-- each two plane rotation systems of a triconnected graph are the same or mirror images
abbrev pub TwoPlaneSystems : Type 0
TwoPlaneSystems = (g : Multigraph) → IsGraph g → IsTriconnected g
    → (r q : List (List ℕ)) → IsRotationSystem g r → IsRotationSystem g q → IsPlane g r → IsPlane g q → (r ≡ q) ⊎ (r ≡ mirror_image q)

-- the mirror image of a plane rotation system of a triconnected graph is another one: so there are exactly two, or none
abbrev pub MirrorIsAnother : Type 0
MirrorIsAnother = (g : Multigraph) → IsGraph g → IsTriconnected g → (r : List (List ℕ)) → IsRotationSystem g r → IsPlane g r
    → IsPlaneSystem g (mirror_image r) × (mirror_image r ≢ r)

-- a triconnected graph has a plane rotation system, or a subdivision of K5 or K3,3 in its written form
abbrev pub PlaneOrSubdivision : Type 0
PlaneOrSubdivision = (g : Multigraph) → IsGraph g → IsTriconnected g
    → ((r : List (List ℕ)) × IsPlaneSystem g r) ⊎ ((kind : Pattern) × (branch : List ℕ) × (paths : List (List ℕ)) × IsWritten g kind branch paths)
