-- When lists of edges that are given for some vertices make a rotation system, and where they first fail to.
use Rattle.std.specs.Prelude.{◌≡◌, ◌≢◌, ℕ, ◌+◌, ◌<◌, ◌≤◌, ◌⊎◌, true, false, List, slice_index, slice_set}
use Rattle.std.specs.List.Sorted.{IsPermutation}
use Rattle.permutations.specs.Cyclic.{first_or, turned}
use Rattle.permutations.specs.Members.{is_member}
use Rattle.multigraph.specs.Graph.{Multigraph, incident_edges}
use Rattle.rotations.specs.Entries.{IsNamed, list_at}
use Rattle.rotations.specs.declared.faults.RotFault.{RotFault}
use Rattle.rotations.specs.declared.faults.RotFault.TheVariants.{BadRotation, Memory}

-- the list given for v is a permutation of the edges at v
abbrev pub IsArranged : Multigraph → List (ℕ × List ℕ) → ℕ → Type 0
IsArranged g entries v = IsPermutation (incident_edges g v) (list_at entries v)

-- edge e in the list given for v is an edge at v, not found in this list before, and is noted as found there
abbrev pub IsNoted : Multigraph → ℕ → ℕ → List ℕ → List ℕ → Type 0
IsNoted g v e seen next = (is_member e (incident_edges g v) ≡ true) × (slice_index seen e ≢ v + 1) × (next ≡ slice_set seen e (v + 1))

-- edge e in the list given for v is not an edge at v, or was found in this list before, and nothing is noted
abbrev pub IsRejected : Multigraph → ℕ → ℕ → List ℕ → List ℕ → Type 0
IsRejected g v e seen next = ((is_member e (incident_edges g v) ≡ false) ⊎ (slice_index seen e ≡ v + 1)) × (next ≡ seen)

-- each vertex's list is a permutation of its edges, and only vertices are named
pub record AreArranged (g : Multigraph) (entries : List (ℕ × List ℕ)) : Type 0 where
  pub arranged : (v : ℕ) → v < g.vertex_count → IsArranged g entries v
  pub vertices : (v : ℕ) → IsNamed entries v → v < g.vertex_count

-- v is a vertex whose list is not a permutation of its edges, or a number that is named and not a vertex
abbrev pub IsBad : Multigraph → List (ℕ × List ℕ) → ℕ → Type 0
IsBad g entries v = ((v < g.vertex_count) × ¬ IsArranged g entries v) ⊎ ((g.vertex_count ≤ v) × IsNamed entries v)

-- v is the least such number
pub record IsFirstBad (g : Multigraph) (entries : List (ℕ × List ℕ)) (v : ℕ) : Type 0 where
  pub bad : IsBad g entries v
  pub none_before : (w : ℕ) → w < v → ¬ IsBad g entries w

-- the fault is the correct one: memory may run out with any lists
abbrev pub IsRefusal : Multigraph → List (ℕ × List ℕ) → RotFault → Type 0
IsRefusal g entries (BadRotation v) = IsFirstBad g entries v
IsRefusal g entries Memory = Unit {0}

-- the cyclic order that the list given for v is, from the least edge on
abbrev pub given_order : Multigraph → List (ℕ × List ℕ) → ℕ → List ℕ
given_order g entries v = turned (list_at entries v) (first_or 0 (incident_edges g v))
