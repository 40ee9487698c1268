-- State of a loop: the components of a state of splitting, as they are written out.
use Rattle.std.specs.Prelude.{◌≡◌, ℕ, ◌+◌, ◌<◌, List, ◌∷◌, ◌++◌, [], length, slice_index_or, All, Contains}
use Rattle.pair_split.specs.Family.{Entry}
use Rattle.pair_split.specs.Bridges.{entry_of, family_of, HaveNamesBelow}
use Rattle.pair_split.specs.Split.{component_at}
use Rattle.pair_split.specs.State.{SplitState, layer, own_at, AreWritten}
use Rattle.pair_split.specs.declared.splitting.Finished.{Finished}
use Rattle.pair_split.specs.declared.components.Comp.{Comp}
use Rattle.pair_split.specs.declared.components.Piece.{Piece}
use Rattle.pair_split.specs.declared.components.Kind.TheVariants.{B}

-- the virtual edges have their names, each is in a layer, and no name is in two
pub record IsListed (m : ℕ) (state : SplitState) : Type 0 where
  pub own_names : (c : ℕ) → c < length state.parts → (own_at state c).name ≡ m + c
  pub own_listed : (c : ℕ) → c < length state.parts → (k : ℕ) × Contains (layer state k) (own_at state c)
  pub below : (k : ℕ) (entry : Entry) → Contains (layer state k) entry → entry.name < m + length state.parts
  pub once : (k j : ℕ) (x y : Entry) → Contains (layer state k) x → Contains (layer state j) y → x.name ≡ y.name → k ≡ j

-- for each virtual edge, the layer in which it is
abbrev pub AreUps : ℕ → SplitState → List ℕ → Type 0
AreUps m state ups = (k : ℕ) (entry : Entry) (c : ℕ) → Contains (layer state k) entry → entry.name ≡ m + c → slice_index_or ups c 0 ≡ k

-- where the entry is the virtual edge of component k, its layer is noted for it
abbrev pub IsLayerNoted : ℕ → SplitState → ℕ → List ℕ → Entry → Type 0
IsLayerNoted m state k ups entry = entry.name ≡ m + k → Contains (layer state (slice_index_or ups k 0)) entry

-- this holds of each of the entries
abbrev pub IsNotedFor : ℕ → SplitState → ℕ → List ℕ → List Entry → Type 0
IsNotedFor m state k ups entries = (entry : Entry) → Contains entries entry → IsLayerNoted m state k ups entry

-- these entries of component k are written after what was written before
abbrev pub AreWrittenBehind : ℕ → SplitState → ℕ → List Entry → List Piece → List Piece → Type 0
AreWrittenBehind m state k added old new = (entries : List Entry) → AreWritten m state k entries old → AreWritten m state k (entries ++ added) new

-- the entries of a finished component, its own virtual edge first
abbrev pub finished_family : Finished → List Entry
finished_family part = entry_of part.own ∷ family_of part.edges

-- all names of finished components are below n
abbrev pub HavePartNamesBelow : ℕ → List Finished → Type 0
HavePartNamesBelow n parts = All (λ part. (part.own.name < n) × HaveNamesBelow n part.edges) parts

-- how many entries the components have, but for their own virtual edges
abbrev pub entry_total : List Finished → ℕ
entry_total [] = 0
entry_total (finished ∷ parts) = length finished.edges + entry_total parts

-- finished component k
abbrev pub finished_at : List Finished → ℕ → Finished
finished_at parts k = slice_index_or parts k (record { kind = B; own = record { name = 0; first = 0; second = 0 }; edges = [] })

-- the first n finished components are written out
pub record ArePartsWritten (m : ℕ) (parts : List Finished) (ups : List ℕ) (n : ℕ) (comps : List Comp) : Type 0 where
  pub number : length comps ≡ n
  pub kinds : (k : ℕ) → k < n → (component_at comps k).kind ≡ (finished_at parts k).kind
  pub written : (k : ℕ) → k < n → (state : SplitState)
      → IsNotedFor m state k ups (finished_family (finished_at parts k))
      → AreWritten m state k (finished_family (finished_at parts k)) (component_at comps k).items
