-- State of a loop: what a search does at one vertex; its unmarked neighbours are marked, and wait.
use Rattle.std.specs.Prelude.{◌≡◌, ℕ, ◌+◌, Bool, not, ◌&&◌, ◌||◌, ◌==◌, List, length, slice_index, count_by}
use Rattle.permutations.specs.Count.{some}
use Rattle.permutations.specs.Members.{is_member}
use Rattle.multigraph.specs.Graph.{Multigraph, incident_edges, other_end}
use Rattle.multigraph.specs.Marks.{is_marked}

-- how many places are not marked
abbrev pub unmarked_count : List Bool → ℕ
unmarked_count marks = count_by not marks

-- whether one of the first k edges at v leads to x
abbrev pub is_neighbour_by : Multigraph → ℕ → ℕ → ℕ → Bool
is_neighbour_by g v k x = some k (λ i. other_end g (slice_index (incident_edges g v) i) v == x)

-- whether some edge leads from v to x
abbrev pub is_neighbour : Multigraph → ℕ → ℕ → Bool
is_neighbour g v x = is_neighbour_by g v (length (incident_edges g v)) x

-- the marks and the stack before and after a look along the first k edges at v: where these lead is marked, and just what
-- is marked anew waits on the stack too
pub record LooksAlong (g : Multigraph) (v k : ℕ) (marks : List Bool) (stack : List ℕ) (new_marks : List Bool) (new_stack : List ℕ) : Type 0 where
  pub marked : (x : ℕ) → is_marked new_marks x ≡ (is_marked marks x || is_neighbour_by g v k x)
  pub waits : (x : ℕ) → is_member x new_stack ≡ (is_member x stack || (is_marked new_marks x && not (is_marked marks x)))
  pub rest : unmarked_count new_marks + length new_stack ≡ unmarked_count marks + length stack
