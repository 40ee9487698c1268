-- Lists of edges for a part of a graph, in the numbers of the whole graph: when they make a rotation system of the part, and where
-- they first fail to.
use Rattle.std.specs.Prelude.{◌≡◌, ℕ, ◌<◌, ◌⊎◌, List, length, map, slice_index}
use Rattle.std.specs.List.{Contains}
use Rattle.std.specs.List.Sorted.{IsPermutation}
use Rattle.permutations.specs.Cyclic.{first_or, turned}
use Rattle.multigraph.specs.Graph.{incident_edges}
use Rattle.multigraph.specs.Part.{GraphPart}
use Rattle.rotations.specs.Entries.{entry, IsNamed, list_at}
use Rattle.rotations.specs.declared.faults.RotFault.{RotFault}
use Rattle.rotations.specs.declared.faults.RotFault.TheVariants.{BadRotation, Memory}
use Rattle.permutations.specs.Members.{place_of}

-- the edges at vertex i of the part, by their numbers in the whole graph
abbrev pub outer_edges : GraphPart → ℕ → List ℕ
outer_edges part i = map (slice_index part.edges) (incident_edges part.graph i)

-- the list given for the vertex of the whole graph that vertex i of the part is
abbrev pub outer_list : GraphPart → List (ℕ × List ℕ) → ℕ → List ℕ
outer_list part entries i = list_at entries (slice_index part.vertices i)

-- each vertex of the part is given a permutation of its edges in the part, and only vertices of the part are named
pub record ArrangePart (part : GraphPart) (entries : List (ℕ × List ℕ)) : Type 0 where
  pub arranged : (i : ℕ) → i < part.graph.vertex_count → IsPermutation (outer_edges part i) (outer_list part entries i)
  pub vertices : (v : ℕ) → IsNamed entries v → Contains part.vertices v

-- v is a vertex of the part whose list is not a permutation of its edges there, or a number that is named and not a vertex of it
abbrev pub IsBadInPart : GraphPart → List (ℕ × List ℕ) → ℕ → Type 0
IsBadInPart part entries v =
    ((i : ℕ) × (i < part.graph.vertex_count) × (slice_index part.vertices i ≡ v) × ¬ IsPermutation (outer_edges part i) (outer_list part entries i))
    ⊎ (¬ Contains part.vertices v × IsNamed entries v)

-- v is the least such number
pub record IsFirstBadInPart (part : GraphPart) (entries : List (ℕ × List ℕ)) (v : ℕ) : Type 0 where
  pub bad : IsBadInPart part entries v
  pub none_before : (w : ℕ) → w < v → ¬ IsBadInPart part entries w

-- the fault is the correct one: memory may run out with any lists
abbrev pub IsPartRefusal : GraphPart → List (ℕ × List ℕ) → RotFault → Type 0
IsPartRefusal part entries (BadRotation v) = IsFirstBadInPart part entries v
IsPartRefusal part entries Memory = Unit {0}

-- the cyclic order that is given for vertex i of the part, in the numbers of the whole graph, from the least edge on
abbrev pub outer_order : GraphPart → List (ℕ × List ℕ) → ℕ → List ℕ
outer_order part entries i = turned (outer_list part entries i) (first_or 0 (outer_edges part i))

-- the entries of the first vertices of the part, in its own numbers
pub record AreInnerBelow (part : GraphPart) (entries inner : List (ℕ × List ℕ)) (n : ℕ) : Type 0 where
  pub long : length inner ≡ n
  pub each : (i : ℕ) → i < n → entry inner i ≡ (i, map (place_of part.edges) (outer_list part entries i))

-- v is the least number that is named and not a vertex of the part
pub record IsFirstStranger (part : GraphPart) (entries : List (ℕ × List ℕ)) (v : ℕ) : Type 0 where
  pub named : IsNamed entries v
  pub stranger : ¬ Contains part.vertices v
  pub known : (w : ℕ) → w < v → IsNamed entries w → Contains part.vertices w
