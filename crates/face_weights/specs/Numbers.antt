-- The faces of rotation systems by the numbers of their darts: each dart of a face has the least of them as its number.
use Rattle.std.specs.Prelude.{◌≡◌, ℕ, ◌<◌, ◌==◌, Bool, true, false, not, List, [], length, map, slice_index_or}
use Rattle.permutations.specs.Count.{some}
use Rattle.permutations.specs.Permutation.{reaches}
use Rattle.permutations.specs.Relation.{leads}
use Rattle.multigraph.specs.Graph.{Multigraph}
use Rattle.multigraph.specs.Marks.{is_marked}
use Rattle.faces.specs.Euler.{dart_count, IsPlane}
use Rattle.faces.specs.Marks.{AddsOrbit}
use Rattle.pair_split.specs.Tutte.{Node}
use Rattle.skeletons.specs.Families.{skeleton_graph, system_at, AreSkeletonSystems}
use Rattle.skeleton_faces.specs.Faces.{on_one_face}
use Rattle.spqr_tree.specs.Absent.{absent}

-- the number of dart d
abbrev pub number_at : List ℕ → ℕ → ℕ
number_at numbers d = slice_index_or numbers d 0

-- which darts have numbers
abbrev pub marks_of : List ℕ → List Bool
marks_of numbers = map (λ x. not (x == absent)) numbers

-- the orbit of `start`, which had no numbers, has this number now, and others keep theirs
pub record IsOrbitNumbered (n : ℕ) (f : ℕ → ℕ) (start : ℕ) (old new : List ℕ) : Type 0 where
  pub places : length new ≡ length old
  pub marked : AddsOrbit n f start (marks_of old) (marks_of new)
  pub kept : (x : ℕ) → is_marked (marks_of old) x ≡ true → number_at new x ≡ number_at old x
  pub fresh : (x : ℕ) → is_marked (marks_of old) x ≡ false → is_marked (marks_of new) x ≡ true → number_at new x ≡ start

-- the orbits of the numbers below s have their least members as numbers
pub record AreOrbitsNumbered (n : ℕ) (f : ℕ → ℕ) (s : ℕ) (numbers : List ℕ) : Type 0 where
  pub places : length numbers ≡ n
  pub marked : (x : ℕ) → is_marked (marks_of numbers) x ≡ some s (λ y. reaches n f y x)
  pub first : (x : ℕ) → is_marked (marks_of numbers) x ≡ true → (number_at numbers x < s) × (leads (reaches n f) (number_at numbers x) ≡ true) × (reaches n f (number_at numbers x) x ≡ true)

-- darts have one number exactly where they are on one face; each number is that of a dart
pub record NumberFaces (g : Multigraph) (r : List (List ℕ)) (numbers : List ℕ) : Type 0 where
  pub darts : length numbers ≡ dart_count g
  pub within : (d : ℕ) → d < dart_count g → number_at numbers d < dart_count g
  pub same : (x y : ℕ) → x < dart_count g → y < dart_count g → (number_at numbers x == number_at numbers y) ≡ on_one_face g r x y

-- the numbers of the darts of node k
abbrev pub numbers_at : List (List ℕ) → ℕ → List ℕ
numbers_at rows k = slice_index_or rows k []

-- the faces of the skeletons, in a family of plane rotation systems, by the numbers of their darts
pub record KnowFaces (nodes : List Node) (family : List (List (List ℕ))) (rows : List (List ℕ)) : Type 0 where
  pub systems : AreSkeletonSystems nodes family
  pub plane : (k : ℕ) → k < length nodes → IsPlane (skeleton_graph nodes k) (system_at family k)
  pub each : length rows ≡ length nodes
  pub numbers : (k : ℕ) → k < length nodes → NumberFaces (skeleton_graph nodes k) (system_at family k) (numbers_at rows k)
