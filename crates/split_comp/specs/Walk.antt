-- Where the search is in the palm tree. Vertices are finished in decreasing order of their numbers.
use Rattle.std.specs.Prelude.{◌≡◌, ◌≢◌, ℕ, ◌+◌, ◌<◌, ◌≤◌, true, List, Contains}
use Rattle.pair_split.specs.Family.{Entry}
use Rattle.split_comp.specs.declared.items.Dart.{Dart}
use Rattle.split_comp.specs.Palm.{dart_entry}

-- x is on the path from the root to v
abbrev pub IsOnPath : (ℕ → ℕ) → ℕ → ℕ → Type 0
IsOnPath last v x = (x ≤ v) × (v < last x)

-- the search is at v, the vertices from done on are finished, and this many darts of each vertex have been traversed and
-- back
pub record IsWalk (n : ℕ) (last parent degree : ℕ → ℕ) (dart : ℕ → ℕ → Dart) (v done : ℕ) (gone : ℕ → ℕ) : Type 0 where
  pub current : v < done
  pub within : done ≤ n
  pub spans : (x : ℕ) → IsOnPath last v x → done ≤ last x
  pub gone_within : (u : ℕ) → u < n → gone u ≤ degree u
  pub tree_gone : (u k : ℕ) → u < n → k < degree u → (dart u k).tree ≡ true → k < gone u → done ≤ (dart u k).far
  pub tree_left : (u k : ℕ) → u < n → k < degree u → (dart u k).tree ≡ true → gone u ≤ k → (dart u k).far < done
  pub finished : (u : ℕ) → u < n → done ≤ u → gone u ≡ degree u
  pub fresh : (u : ℕ) → u < done → (IsOnPath last v u → ⊥) → gone u ≡ 0
  pub under_way : (x : ℕ) → x ≢ 0 → IsOnPath last v x → (gone (parent x) < degree (parent x)) × ((dart (parent x) (gone (parent x))).tree ≡ true) × ((dart (parent x) (gone (parent x))).far ≡ x)

-- the rest: the entries of the darts that have not been traversed and retracted
pub record AreLeft (n : ℕ) (degree : ℕ → ℕ) (dart : ℕ → ℕ → Dart) (gone : ℕ → ℕ) (rest : List Entry) : Type 0 where
  pub left : (u k : ℕ) → u < n → gone u ≤ k → k < degree u → Contains rest (dart_entry u (dart u k))
  pub only : (x : Entry) → Contains rest x → (u k : ℕ) × (u < n) × (gone u ≤ k) × (k < degree u) × (x ≡ dart_entry u (dart u k))

-- one more dart of v
abbrev pub IsOneMore : ℕ → (ℕ → ℕ) → (ℕ → ℕ) → Type 0
IsOneMore v gone more = (more v ≡ gone v + 1) × ((u : ℕ) → u ≢ v → more u ≡ gone u)
