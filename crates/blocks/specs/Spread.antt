-- State of a loop: labels that are spread from parents to children along an order.
use Rattle.std.specs.Prelude.{◌≡◌, ℕ, ◌<◌, true, false, Bool, List, length, take, slice_index}
use Rattle.permutations.specs.Members.{is_member, is_distinct}
use Rattle.multigraph.specs.Marks.{is_marked}

-- an order of numbers below n, each once, in which the parent of each number without a label of its own comes before it
pub record IsSpreadOrder (n : ℕ) (parent : List ℕ) (own : List Bool) (order : List ℕ) : Type 0 where
  pub parents : length parent ≡ n
  pub owns : length own ≡ n
  pub within : (k : ℕ) → k < length order → slice_index order k < n
  pub distinct : is_distinct order ≡ true
  pub behind_parent : (k : ℕ) → k < length order → is_marked own (slice_index order k) ≡ false → is_member (slice_index parent (slice_index order k)) (take k order) ≡ true

-- each of these numbers has itself as its label, or that of its parent
pub record IsSpread (parent : List ℕ) (own : List Bool) (done label : List ℕ) : Type 0 where
  pub of_own : (v : ℕ) → is_member v done ≡ true → is_marked own v ≡ true → slice_index label v ≡ v
  pub of_parent : (v : ℕ) → is_member v done ≡ true → is_marked own v ≡ false → slice_index label v ≡ slice_index label (slice_index parent v)
  pub parent_done : (v : ℕ) → is_member v done ≡ true → is_marked own v ≡ false → is_member (slice_index parent v) done ≡ true
