-- What is wanted of a node where a dart is asked for: the heaviest face of the dart.
use Rattle.std.specs.Prelude.{◌≡◌, ◌≢◌, ℕ, ◌+◌, ◌*◌, ◌/◌, ◌<◌, ◌≤◌, false, cond, length, List, slice_index_or}
use Rattle.dart_maps.specs.Map.{twin}
use Rattle.pair_split.specs.declared.components.Kind.{Kind}
use Rattle.pair_split.specs.declared.components.Kind.TheVariants.{P, R}
use Rattle.long_face.specs.Wanted.{Want, IsPair}

-- number i of the list
abbrev pub number_in : List ℕ → ℕ → ℕ
number_in numbers i = slice_index_or numbers i 0

-- two items of a bond, of which one is that of the dart and the other the heaviest other; the heavier side of a triconnected node
pub record IsHeaviest (kind : Kind) (number : ℕ) (weight sum : ℕ → ℕ) (dart : ℕ) (w : Want) : Type 0 where
  pub same : w.dart ≡ dart
  pub pair : kind ≡ P → IsPair number w
  pub bounds : kind ≡ P → (h : ℕ) → h < number → h ≢ dart / 2 → weight (dart / 2) + weight h ≤ weight w.first + weight w.second
  pub reached : kind ≡ P → (h : ℕ) × (h < number) × (h ≢ dart / 2) × (weight w.first + weight w.second ≡ weight (dart / 2) + weight h)
  pub sides : kind ≡ R → (sum dart ≤ sum (cond w.turned (twin dart) dart)) × (sum (twin dart) ≤ sum (cond w.turned (twin dart) dart))

-- the two heaviest items of a bond; of another node the heaviest dart
pub record IsGreatest (kind : Kind) (number : ℕ) (weight sum : ℕ → ℕ) (w : Want) : Type 0 where
  pub pair : kind ≡ P → IsPair number w
  pub pairs : kind ≡ P → (i h : ℕ) → i < number → h < number → i ≢ h → weight i + weight h ≤ weight w.first + weight w.second
  pub dart_in : w.dart < 2 * number
  pub flat : w.turned ≡ false
  pub heaviest : kind ≢ P → (d : ℕ) → d < 2 * number → sum d ≤ sum w.dart

-- the place of a greatest number but for that at one place
pub record IsOtherGreatest (numbers : List ℕ) (place other : ℕ) : Type 0 where
  pub within : other < length numbers
  pub apart : other ≢ place
  pub most : (i : ℕ) → i < length numbers → i ≢ place → number_in numbers i ≤ number_in numbers other
