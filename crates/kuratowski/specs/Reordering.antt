-- The branch vertices of a subdivision in another order, and the paths that belong to it.
use Rattle.std.specs.Prelude.{◌≡◌, ℕ, suc, ◌<◌, ◌≤◌, Bool, true, ◌&&◌, ◌||◌, ◌==◌, nat_lt, if◌then◌else◌, List, [], ◌∷◌, ◌++◌, map, reverse, length, slice_index}
use Rattle.std.specs.List.Sorted.{IsPermutation}
use Rattle.multigraph.specs.Part.{Rises}
use Rattle.permutations.specs.Members.{is_member, is_distinct, place_of}
use Rattle.kuratowski.specs.declared.subdivision.Pattern.{Pattern}
use Rattle.kuratowski.specs.Subdivision.{branch_count, pattern_edges, branch_at, path_at, pair_at}

-- the place of a pair in a list, and the length where it is no member
abbrev pub pair_place : List (ℕ × ℕ) → ℕ → ℕ → ℕ
pair_place [] i j = 0
pair_place (pair ∷ pairs) i j = (if (pair.0 == i) && (pair.1 == j) then 0 else suc (pair_place pairs i j))

-- whether the pattern joins its vertices i and j
abbrev pub are_joined : Pattern → ℕ → ℕ → Bool
are_joined kind i j = nat_lt (pair_place (pattern_edges kind) i j) (length (pattern_edges kind)) || nat_lt (pair_place (pattern_edges kind) j i) (length (pattern_edges kind))

-- the path from branch vertex i to branch vertex j: that of their edge of the pattern, reversed where j comes before i
abbrev pub path_between : Pattern → List (List ℕ) → ℕ → ℕ → List ℕ
path_between kind paths i j = (if nat_lt i j then path_at paths (pair_place (pattern_edges kind) i j) else reverse (path_at paths (pair_place (pattern_edges kind) j i)))

-- in another order of the branch vertices, the path for a pair of their places
abbrev pub reordered_path : Pattern → List ℕ → List (List ℕ) → List ℕ → ℕ × ℕ → List ℕ
reordered_path kind branch paths order pair = path_between kind paths (place_of branch (branch_at order pair.0)) (place_of branch (branch_at order pair.1))

-- in another order of the branch vertices, the paths for the edges of the pattern
abbrev pub reordered_paths : Pattern → List ℕ → List (List ℕ) → List ℕ → List (List ℕ)
reordered_paths kind branch paths order = map (reordered_path kind branch paths order) (pattern_edges kind)

-- another order of the branch vertices, in which those are joined that the pattern joins
pub record IsReordering (kind : Pattern) (branch order : List ℕ) : Type 0 where
  pub count : length order ≡ branch_count kind
  pub distinct : is_distinct order ≡ true
  pub members : (z : ℕ) → is_member z order ≡ is_member z branch
  pub joined : (k : ℕ) → k < length (pattern_edges kind) → are_joined kind (place_of branch (branch_at order (pair_at kind k).0)) (place_of branch (branch_at order (pair_at kind k).1)) ≡ true

-- the same numbers in increasing order
pub record IsRisen (l rising : List ℕ) : Type 0 where
  pub permuted : IsPermutation l rising
  pub rises : Rises rising

-- one list after the other, first the one that begins lower
pub record IsLowerFirst (first second whole : List ℕ) : Type 0 where
  pub straight : slice_index first 0 < slice_index second 0 → whole ≡ first ++ second
  pub crossed : slice_index second 0 ≤ slice_index first 0 → whole ≡ second ++ first
