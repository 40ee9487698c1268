-- The faces of a bond as numbers of its darts.
use Rattle.std.specs.Prelude.{◌≡◌, ℕ, ◌+◌, ◌*◌, ◌<◌, List, length, slice_index_or}
use Rattle.permutations.specs.Cyclic.{successor}
use Rattle.pair_split.specs.declared.components.Item.{Item}
use Rattle.skeletons.specs.Items.{nth_item}
use Rattle.face_weights.specs.Numbers.{number_at}

-- each item's dart that leaves the lesser pole has itself as its number, and the one that arrives there has that of the item whose key
-- follows
pub record AreBondNumbers (items : List Item) (keys numbers : List ℕ) : Type 0 where
  pub places : length numbers ≡ 2 * length items
  pub leaving : (i : ℕ) → i < length items → number_at numbers (2 * i) ≡ 2 * i
  pub arriving : (i j : ℕ) → i < length items → j < length items → successor keys (nth_item items i).key ≡ (nth_item items j).key → number_at numbers (2 * i + 1) ≡ 2 * j

-- State of a loop: so it is for the items whose keys come before a place
pub record AreBondNumbersUpTo (items : List Item) (keys : List ℕ) (count : ℕ) (numbers : List ℕ) : Type 0 where
  pub places : length numbers ≡ 2 * length items
  pub leaving : (q i : ℕ) → q < count → i < length items → (nth_item items i).key ≡ slice_index_or keys q 0 → number_at numbers (2 * i) ≡ 2 * i
  pub arriving : (q i j : ℕ) → q < count → i < length items → j < length items → (nth_item items i).key ≡ slice_index_or keys q 0 → successor keys (nth_item items i).key ≡ (nth_item items j).key → number_at numbers (2 * i + 1) ≡ 2 * j
