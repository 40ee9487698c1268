-- State of a loop: classes of equal labels, numbered in order of their first places.
use Rattle.std.specs.Prelude.{◌≡◌, ℕ, ◌+◌, ◌<◌, ◌==◌, Bool, true, List, length, slice_index, slice_set}
use Rattle.permutations.specs.Count.{count}
use Rattle.permutations.specs.Relation.{leads}
use Rattle.multigraph.specs.Marks.{is_marked}

-- whether two places have the same label
abbrev pub same_label : List ℕ → ℕ → ℕ → Bool
same_label labels i j = slice_index labels i == slice_index labels j

-- a label that occurs for the first time has the next number, and one number more was given
abbrev pub TakesNextNumber : ℕ → List Bool → List ℕ → ℕ → List Bool → List ℕ → ℕ → Type 0
TakesNextNumber label met number_of classes next_met next_number_of next_classes =
    (next_met ≡ slice_set met label true) × (next_number_of ≡ slice_set number_of label classes) × (next_classes ≡ classes + 1)

-- each place has the number of its class: classes are numbered in order of their first places
pub record IsNumbering (labels numbers : List ℕ) : Type 0 where
  pub places : length numbers ≡ length labels
  pub first : (i : ℕ) → i < length labels → leads (same_label labels) i ≡ true → slice_index numbers i ≡ count i (leads (same_label labels))
  pub same : (i j : ℕ) → i < length labels → j < length labels → slice_index labels i ≡ slice_index labels j → slice_index numbers i ≡ slice_index numbers j
  pub different : (i j : ℕ) → i < length labels → j < length labels → slice_index numbers i ≡ slice_index numbers j → slice_index labels i ≡ slice_index labels j

-- the first i places were numbered: which labels occurred, the number of each of them, and how many there are
pub record IsNumbered (labels : List ℕ) (i : ℕ) (met : List Bool) (number_of numbers : List ℕ) (classes : ℕ) : Type 0 where
  pub places : length numbers ≡ i
  pub is_met : (j : ℕ) → j < i → is_marked met (slice_index labels j) ≡ true
  pub is_number : (j : ℕ) → j < i → slice_index numbers j ≡ slice_index number_of (slice_index labels j)
  pub first_place : (label : ℕ) → is_marked met label ≡ true → (j : ℕ) × (j < i) × (slice_index labels j ≡ label) × (leads (same_label labels) j ≡ true) × (slice_index number_of label ≡ count j (leads (same_label labels)))
  pub below : (label : ℕ) → is_marked met label ≡ true → slice_index number_of label < classes
  pub apart : (a b : ℕ) → is_marked met a ≡ true → is_marked met b ≡ true → slice_index number_of a ≡ slice_index number_of b → a ≡ b
  pub total : classes ≡ count i (leads (same_label labels))
