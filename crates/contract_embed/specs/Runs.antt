-- State of a loop: where the darts around the merged vertex of a contraction have two runs.
use Rattle.std.specs.Prelude.{◌≡◌, ◌≢◌, ℕ, ◌<◌, ◌⊎◌, true, List, length, slice_index}
use Rattle.dart_maps.specs.Map.{twin}
use Rattle.faces.specs.Euler.{tail, dart_count}
use Rattle.contractions.specs.Contraction.{are_adjacent}
use Rattle.planarity.specs.Expansion.{moved, FallsInRuns}
use Rattle.contractions.specs.declared.level.Level.{Level}
use Rattle.contractions.specs.Level.{contraction, edge_before}
use Rattle.contract_obstruct.specs.Steps.{AreSteps}
use Rattle.contract_embed.specs.Steps.{first_dart, rejoined}

-- the dart of the graph that dart d of the contraction was
abbrev pub origin : Level → ℕ → ℕ
origin level d = moved (edge_before level) d

-- the vertex that it leaves
abbrev pub leaves : Level → ℕ → ℕ
leaves level d = tail level.graph (origin level d)

-- the dart d leaves `from`, and the next one leaves `to`
abbrev pub Turns : Level → List ℕ → ℕ → ℕ → ℕ → Type 0
Turns level next from to d = (leaves level d ≡ from) × (leaves level (slice_index next d) ≡ to)

-- at dart d the runs continue, but after the last dart of x and before the first one; and only these lead to neighbours of y
pub record FitsAt (level : Level) (next : List ℕ) (first last d : ℕ) : Type 0 where
  pub run_of_x : leaves level d ≡ level.x → d ≢ last → leaves level (slice_index next d) ≡ level.x
  pub run_of_y : leaves level d ≡ level.y → slice_index next d ≢ first → leaves level (slice_index next d) ≡ level.y
  pub common : leaves level d ≡ level.x → are_adjacent level.graph level.y (tail level.graph (twin (origin level d))) ≡ true → (d ≡ first) ⊎ (d ≡ last)

-- no dart of the contraction turns so
abbrev pub NoTurn : Level → List ℕ → ℕ → ℕ → Type 0
NoTurn level next from to = (d : ℕ) → d < dart_count (contraction level) → Turns level next from to d → ⊥

-- dart d does
abbrev pub TurnsAt : Level → List ℕ → ℕ → ℕ → ℕ → Type 0
TurnsAt level next from to d = (d < dart_count (contraction level)) × Turns level next from to d

-- there is a rotation system with these steps, and in it the darts around the merged vertex have runs from `first` to `last`
abbrev pub HaveRuns : Level → List ℕ → ℕ → ℕ → Type 0
HaveRuns level next first last =
    (s : List (List ℕ)) × AreSteps (contraction level) s next × FallsInRuns level.graph (contraction level) level.x level.y (edge_before level) s first last

-- f with the edge between where dart d leads and y inserted, if there is one
abbrev pub joined_again : Level → ℕ → ℕ → ℕ → (ℕ → ℕ) → ℕ → ℕ
joined_again level d p q =
    rejoined (are_adjacent level.graph level.y (tail level.graph (twin d))) (first_dart level.graph (tail level.graph (twin d)) level.y) p q

-- the steps on the darts of the graph, when those from the first k darts of the contraction are carried over
pub record CarriedBelow (level : Level) (next : List ℕ) (k : ℕ) (wide : List ℕ) : Type 0 where
  pub each : length wide ≡ dart_count level.graph
  pub carried : (d : ℕ) → d < k → slice_index wide (origin level d) ≡ origin level (slice_index next d)
  pub alone : (z : ℕ) → z < dart_count level.graph → ((d : ℕ) → d < k → origin level d ≢ z) → slice_index wide z ≡ z
