-- What holds of the stack at each vertex of the path.
use Rattle.std.specs.Prelude.{◌≡◌, ◌≢◌, ℕ, ◌<◌, ◌≤◌, ◌⊎◌, true, false, List, length, take, drop}
use Rattle.pair_split.specs.Family.{Entry}
use Rattle.split_comp.specs.declared.items.StackEntry.{StackEntry}
use Rattle.split_comp.specs.declared.items.StackCut.{StackCut}
use Rattle.split_comp.specs.declared.items.Dart.{Dart}
use Rattle.split_comp.specs.Stack.{item, owner, family}
use Rattle.split_comp.specs.Walk.{IsOnPath}
use Rattle.split_comp.specs.Cuts.{AreSound, AreComplete}

-- the entries below each vertex of the path to v, but the root, are those from its start on, and tree edges among them are not
-- above it
pub record AreFrames (last : ℕ → ℕ) (v : ℕ) (start : ℕ → ℕ) (stack : List StackEntry) : Type 0 where
  pub within : (x : ℕ) → x ≢ 0 → IsOnPath last v x → start x ≤ length stack
  pub from : (x i : ℕ) → x ≢ 0 → IsOnPath last v x → start x ≤ i → i < length stack → (x ≤ (item stack i).low) × ((item stack i).low < last x)
  pub before : (x i : ℕ) → x ≢ 0 → IsOnPath last v x → i < start x → ((item stack i).low < x) ⊎ (last x ≤ (item stack i).low)
  pub tree_up : (x i : ℕ) → x ≢ 0 → IsOnPath last v x → start x ≤ i → i < length stack → (item stack i).tree ≡ true → x ≤ (item stack i).up

-- a frond from a vertex below x, or from x itself, to y, that has been traversed
pub record IsGoneTo (dart : ℕ → ℕ → Dart) (last : ℕ → ℕ) (gone : ℕ → ℕ) (x y : ℕ) : Type 0 where
  pub from : ℕ
  pub place : ℕ
  pub above : x ≤ from
  pub below : from < last x
  pub within : place < gone from
  pub frond : (dart from place).tree ≡ false
  pub far : (dart from place).far ≡ y

-- at each vertex x of the path to v, but the root, the upper ends above x among the entries below it are the ends of the fronds
-- from there that have been traversed
pub record AreReached (last : ℕ → ℕ) (dart : ℕ → ℕ → Dart) (gone : ℕ → ℕ) (v : ℕ) (start : ℕ → ℕ) (stack : List StackEntry) : Type 0 where
  pub gone_to : (x i : ℕ) → x ≢ 0 → IsOnPath last v x → start x ≤ i → i < length stack → (item stack i).up < x → IsGoneTo dart last gone x (item stack i).up
  pub met : (x y : ℕ) → x ≢ 0 → IsOnPath last v x → y < x → IsGoneTo dart last gone x y → (i : ℕ) × (start x ≤ i) × (i < length stack) × ((item stack i).up ≡ y)

-- the darts that are left at a vertex of the path to v, but the root, come after those in the stack. For the first n entries
pub record AreAhead (last : ℕ → ℕ) (degree : ℕ → ℕ) (dart : ℕ → ℕ → Dart) (gone : ℕ → ℕ) (v n : ℕ) (stack : List StackEntry) (rest : List Entry) : Type 0 where
  pub reach_ahead : (u r k : ℕ) → u ≢ 0 → IsOnPath last v u → r < n → owner (item stack r) ≡ u → gone u ≤ k → k < degree u
      → (i : ℕ) × ((item stack r).start ≤ i) × (i ≤ r) × ((item stack i).up ≤ (dart u k).reach)
  pub frond_ahead : (u r k : ℕ) → 4 ≤ length (family stack rest) → u ≢ 0 → IsOnPath last v u → r < n → owner (item stack r) ≡ u → (item stack r).tree ≡ false → gone u ≤ k → k < degree u
      → ((item stack r).up < (dart u k).reach) ⊎ (((item stack r).up ≡ (dart u k).reach) × (1 ≤ (dart u k).class))

-- the cuts: those from base x on are those of x and of the path from x on. Of each vertex x of the path to v, but the root and
-- v itself, they are sound and complete for the stack as it was when the path went on from x to y
pub record AreCutsBelow (last parent : ℕ → ℕ) (v : ℕ) (start base : ℕ → ℕ) (stack : List StackEntry) (cuts : List StackCut) : Type 0 where
  pub base_within : (x : ℕ) → x ≢ 0 → IsOnPath last v x → base x ≤ length cuts
  pub base_rises : (y : ℕ) → y ≢ 0 → parent y ≢ 0 → IsOnPath last v y → base (parent y) ≤ base y
  pub sound_below : (y : ℕ) → y ≢ 0 → parent y ≢ 0 → IsOnPath last v y → AreSound (start (parent y)) (parent y) (take (start y) stack) (drop (base (parent y)) (take (base y) cuts))
  pub complete_below : (y : ℕ) → y ≢ 0 → parent y ≢ 0 → IsOnPath last v y → AreComplete (start (parent y)) (parent y) (take (start y) stack) (drop (base (parent y)) (take (base y) cuts))

-- and of v for the whole stack
pub record AreCuts (last parent : ℕ → ℕ) (v : ℕ) (start base : ℕ → ℕ) (stack : List StackEntry) (cuts : List StackCut) : Type 0 where
  pub below : AreCutsBelow last parent v start base stack cuts
  pub sound : v ≢ 0 → AreSound (start v) v stack (drop (base v) cuts)
  pub complete : v ≢ 0 → AreComplete (start v) v stack (drop (base v) cuts)
