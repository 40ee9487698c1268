-- State of a loop: places in a cyclic order around the merged vertex of a level that show a subdivision; and, last, what it is
-- for steps to have no runs there.
use Rattle.std.specs.Prelude.{◌≡◌, ℕ, ◌<◌, ◌≤◌, true, false, List, ◌++◌, take, drop, length, slice_index}
use Rattle.multigraph.specs.Graph.{is_end}
use Rattle.planarity.specs.Circle.{leads_near}
use Rattle.planarity.specs.Expansion.{FallsInRuns}
use Rattle.contractions.specs.declared.level.Level.{Level}
use Rattle.contractions.specs.Level.{contraction, edge_before}
use Rattle.contract_obstruct.specs.Steps.{AreSteps}
use Rattle.contract_obstruct.specs.Sectors.{LeadsOut, IsCommonEdge}

-- a list from place m on, and then what is before it
abbrev pub rotated : List ℕ → ℕ → List ℕ
rotated l m = drop m l ++ take m l

-- its members are edges of the graph that lead from x or from y
abbrev pub StandForEdges : Level → List ℕ → Type 0
StandForEdges level l = (t : ℕ) → t < length l → LeadsOut level (slice_index l t)

-- the edge that i was leads from x
abbrev pub LeadsFromX : Level → ℕ → Type 0
LeadsFromX level i = is_end level.graph level.x (edge_before level i) ≡ true

-- between two places of the list no edge leads from x
abbrev pub NoneFromX : Level → List ℕ → ℕ → ℕ → Type 0
NoneFromX level l from to = (t : ℕ) → from ≤ t → t < to → LeadsFromX level (slice_index l t) → ⊥

-- at place t between them one does
abbrev pub IsPlaceFromX : Level → List ℕ → ℕ → ℕ → ℕ → Type 0
IsPlaceFromX level l from to t = (from ≤ t) × (t < to) × LeadsFromX level (slice_index l t)

-- from one place on no edge leads to a common neighbour
abbrev pub NoneCommon : Level → List ℕ → ℕ → Type 0
NoneCommon level l from = (t : ℕ) → from ≤ t → t < length l → IsCommonEdge level (slice_index l t) → ⊥

-- the first place from there on whose edge does is t
abbrev pub IsFirstCommon : Level → List ℕ → ℕ → ℕ → Type 0
IsFirstCommon level l from t =
    (from ≤ t) × (t < length l) × IsCommonEdge level (slice_index l t) × ((u : ℕ) → from ≤ u → u < t → IsCommonEdge level (slice_index l u) → ⊥)

-- no edges lead from x both before place j, place 0 aside, and after it
abbrev pub NoneRound : Level → List ℕ → ℕ → Type 0
NoneRound level l j =
    (i k : ℕ) → 0 < i → i < j → j < k → k < length l → LeadsFromX level (slice_index l i) → LeadsFromX level (slice_index l k) → ⊥

-- the edges at these two places do
abbrev pub AreRound : Level → List ℕ → ℕ → ℕ × ℕ → Type 0
AreRound level l j p =
    (0 < p.0) × (p.0 < j) × (j < p.1) × (p.1 < length l) × LeadsFromX level (slice_index l p.0) × LeadsFromX level (slice_index l p.1)

-- the edges at places 0, i and j lead to common neighbours
pub record IsTripleAt (level : Level) (l : List ℕ) (i j : ℕ) : Type 0 where
  pub behind : 0 < i
  pub rise : i < j
  pub within : j < length l
  pub first : IsCommonEdge level (slice_index l 0)
  pub second : IsCommonEdge level (slice_index l i)
  pub third : IsCommonEdge level (slice_index l j)

-- the edges at places 0, i, j and k alternate
pub record IsCrossingAt (level : Level) (l : List ℕ) (i j k : ℕ) : Type 0 where
  pub behind : 0 < i
  pub rise : i < j
  pub rise_on : j < k
  pub within : k < length l
  pub first : is_end level.graph level.x (edge_before level (slice_index l i)) ≡ true
  pub second : leads_near level.graph level.x level.y (edge_before level) (slice_index l j) ≡ true
  pub third : is_end level.graph level.x (edge_before level (slice_index l k)) ≡ true
  pub fourth : is_end level.graph level.x (edge_before level (slice_index l 0)) ≡ false

-- no edges show a subdivision from place 0 on
pub record ShowsNothing (level : Level) (l : List ℕ) : Type 0 where
  pub no_triple : (i j : ℕ) → IsTripleAt level l i j → ⊥
  pub no_crossing : (i j k : ℕ) → IsCrossingAt level l i j k → ⊥

-- there is a rotation system with these steps, and in it the darts around the merged vertex do not have runs
abbrev pub HaveNoRuns : Level → List ℕ → Type 0
HaveNoRuns level next =
    (s : List (List ℕ)) × AreSteps (contraction level) s next
    × ((first last : ℕ) → FallsInRuns level.graph (contraction level) level.x level.y (edge_before level) s first last → ⊥)
