-- Groups around a vertex to be brought into the cyclic order of given keys.
use Rattle.std.specs.Prelude.{ℕ, ◌+◌, ◌<◌, Bool, true, false, List, ◌++◌, length, reverse, take, drop, IsPermutation}
use Rattle.permutations.specs.Runs.{InRuns, group_keys}

-- the cyclic order written from a place on
abbrev pub from_place : ℕ → List ℕ → List ℕ
from_place place l = drop place l ++ take place l

-- the cyclic order, or the reverse, written such that what is at this place in the list is the last
abbrev pub directed : Bool → ℕ → List ℕ → List ℕ
directed true end l = reverse (from_place end l)
directed false end l = from_place (end + 1) l

-- the cyclic order is cut into groups, two at least, which have just these keys, each once
pub record HasGroupsOf (key : ℕ → ℕ) (l keys : List ℕ) : Type 0 where
  pub groups : List (ℕ × List ℕ)
  pub runs : InRuns key l groups
  pub arranged : IsPermutation (group_keys groups) keys
  pub two : 1 < length keys
