-- Sides of 2-separations that are cut off the stack.
use Rattle.std.specs.Prelude.{◌≡◌, ℕ, ◌+◌, ◌<◌, ◌≤◌, Bool, true, false, not, ◌&&◌, ◌==◌, List, length, Contains}
use Rattle.pair_split.specs.Family.{Entry}
use Rattle.split_comp.specs.declared.items.StackEntry.{StackEntry}
use Rattle.split_comp.specs.Stack.{item, IsBad}
use Rattle.split_comp.specs.Cuts.{IsBefore}

-- whether the entry is a frond from b to v
abbrev pub is_frond_to : ℕ → ℕ → StackEntry → Bool
is_frond_to v b x = not x.tree && ((x.up == v) && (x.low == b))

-- the side holds the entries from place k on that pass the test, and no others
pub record IsCutOff (keeps : StackEntry → Bool) (stack : List StackEntry) (rest : List Entry) (k : ℕ) (side : ℕ → Bool) : Type 0 where
  pub from : (i : ℕ) → k ≤ i → i < length stack → side (item stack i).name ≡ keeps (item stack i)
  pub before : (i : ℕ) → i < k → i < length stack → side (item stack i).name ≡ false
  pub off : (x : Entry) → Contains rest x → side x.name ≡ false

-- all entries
abbrev pub all_items : StackEntry → Bool
all_items x = true

-- all entries but a frond from b to v
abbrev pub but_frond : ℕ → ℕ → StackEntry → Bool
but_frond v b x = not (is_frond_to v b x)

-- each 2-separation with a side inside the stack has all of this side in it
abbrev pub IsLeast : List StackEntry → List Entry → (ℕ → Bool) → Type 0
IsLeast stack rest side = (s : ℕ → Bool) (p q : ℕ) → IsBad stack rest s p q → (i : ℕ) → i < length stack → side (item stack i).name ≡ true → s (item stack i).name ≡ true

-- the last entry but one is no tree edge, or more than it and the last entry end at w
abbrev pub HasNoTriangle : List StackEntry → ℕ → ℕ → Type 0
HasNoTriangle stack h w = (k : ℕ) → k + 1 ≡ h → (item stack k).tree ≡ true → IsBefore stack k w
