-- What is proved of plane rotation systems when an edge is contracted, as statements.
use Rattle.std.specs.Prelude.{◌≡◌, ◌≢◌, ℕ, ◌<◌, ◌⊎◌, true, false, List, [], ◌∷◌}
use Rattle.multigraph.specs.Graph.{Multigraph, IsGraph}
use Rattle.rotations.specs.Rotation.{IsRotationSystem}
use Rattle.graph_theory.specs.Triconnected.{IsSimple, IsConnectedWithout, IsTriconnected}
use Rattle.contractions.specs.Contraction.{are_adjacent, IsContractible, IsContraction}
use Rattle.dart_maps.specs.Map.{twin}
use Rattle.faces.specs.Euler.{tail, dart_count, IsPlane, IsPlaneSystem}
use Rattle.faces.specs.Maps.{dart_after}
use Rattle.planarity.specs.Expansion.{IsContractedSystem, FallsInRuns}

-- three darts, each of which leaves the vertex where the one before it arrives, the first that of the third
pub record IsTriangle (g : Multigraph) (a b c : ℕ) : Type 0 where
  pub darts : (a < dart_count g) × (b < dart_count g) × (c < dart_count g)
  pub first : tail g (twin a) ≡ tail g b
  pub second : tail g (twin b) ≡ tail g c
  pub third : tail g (twin c) ≡ tail g a

-- the three darts are a face: each is followed by the next one after its twin
abbrev pub IsTriangularFace : Multigraph → List (List ℕ) → ℕ → ℕ → ℕ → Type 0
IsTriangularFace g r a b c = (dart_after g r (twin c) ≡ a) × (dart_after g r (twin a) ≡ b) × (dart_after g r (twin b) ≡ c)

-- a triangle of a plane rotation system, without the vertices of which the graph stays connected, is a face, run through one
-- way or the other
abbrev pub TriangleIsFace : Type 0
TriangleIsFace = (g : Multigraph) (r : List (List ℕ)) → IsGraph g → IsRotationSystem g r → IsPlane g r → IsSimple g → (a b c : ℕ) → IsTriangle g a b c → IsConnectedWithout g (tail g a ∷ tail g b ∷ tail g c ∷ [])
    → IsTriangularFace g r a b c ⊎ IsTriangularFace g r (twin c) (twin b) (twin a)

-- not both ways, where the first of its vertices has a third dart
abbrev pub TriangleFaceOnce : Type 0
TriangleFaceOnce = (g : Multigraph) (r : List (List ℕ)) → IsGraph g → IsRotationSystem g r → (a b c d : ℕ) → IsTriangle g a b c → d < dart_count g → tail g d ≡ tail g a → d ≢ a → d ≢ twin c
    → IsTriangularFace g r a b c → IsTriangularFace g r (twin c) (twin b) (twin a) → ⊥

-- each rotation system makes one of the graph with an edge contracted
abbrev pub ContractedSystemExists : Type 0
ContractedSystemExists = (g h : Multigraph) (e x y : ℕ) (edge vertex : ℕ → ℕ) → IsGraph g → IsGraph h → IsContraction g h e x y edge vertex
    → (r : List (List ℕ)) → IsRotationSystem g r → (s : List (List ℕ)) × IsRotationSystem h s × IsContractedSystem g h e x y edge r s

-- only one
abbrev pub ContractedSystemUnique : Type 0
ContractedSystemUnique = (g h : Multigraph) (e x y : ℕ) (edge vertex : ℕ → ℕ) → IsGraph g → IsGraph h → IsContraction g h e x y edge vertex
    → (r s t : List (List ℕ)) → IsRotationSystem g r → IsRotationSystem h s → IsRotationSystem h t → IsContractedSystem g h e x y edge r s → IsContractedSystem g h e x y edge r t → s ≡ t

-- which is plane where the rotation system is
abbrev pub ContractedSystemPlane : Type 0
ContractedSystemPlane = (g h : Multigraph) (e x y : ℕ) (edge vertex : ℕ → ℕ) → IsGraph g → IsGraph h → IsContraction g h e x y edge vertex
    → (r s : List (List ℕ)) → IsRotationSystem g r → IsPlane g r → IsRotationSystem h s → IsContractedSystem g h e x y edge r s → IsPlane h s

-- the ends of an edge that may be contracted have at most two common neighbours, if there is a plane rotation system
abbrev pub CommonNeighboursTwo : Type 0
CommonNeighboursTwo = (g h : Multigraph) (e x y : ℕ) (edge vertex : ℕ → ℕ) → IsGraph g → IsSimple g → IsContraction g h e x y edge vertex → IsContractible g x y
    → (r : List (List ℕ)) → IsRotationSystem g r → IsPlane g r → (a b c : ℕ)
    → are_adjacent g x a ≡ true → are_adjacent g y a ≡ true → are_adjacent g x b ≡ true → are_adjacent g y b ≡ true → are_adjacent g x c ≡ true → are_adjacent g y c ≡ true → (a ≡ b) ⊎ ((a ≡ c) ⊎ (b ≡ c))

-- plane rotation systems of a triconnected graph that are the same with such an edge contracted are the same, if y has a
-- neighbour that x has not
abbrev pub ContractedSystemTells : Type 0
ContractedSystemTells = (g h : Multigraph) (e x y : ℕ) (edge vertex : ℕ → ℕ) → IsGraph g → IsGraph h → IsTriconnected g → IsContractible g x y → IsContraction g h e x y edge vertex
    → (v : ℕ) → v ≢ x → are_adjacent g y v ≡ true → are_adjacent g x v ≡ false
    → (r q s : List (List ℕ)) → IsRotationSystem g r → IsRotationSystem g q → IsPlane g r → IsPlane g q → IsContractedSystem g h e x y edge r s → IsContractedSystem g h e x y edge q s → r ≡ q

-- a plane rotation system of the contracted graph that has two runs around the merged vertex is made by a plane one of the graph
abbrev pub RunsExpand : Type 0
RunsExpand = (g h : Multigraph) (e x y : ℕ) (edge vertex : ℕ → ℕ) → IsGraph g → IsGraph h → IsContraction g h e x y edge vertex → IsSimple g
    → (s : List (List ℕ)) → IsRotationSystem h s → IsPlane h s → (first last : ℕ) → FallsInRuns g h x y edge s first last
    → (r : List (List ℕ)) × IsPlaneSystem g r × IsContractedSystem g h e x y edge r s
