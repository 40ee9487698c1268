-- State of a loop: a graph that is split, by the components that are finished and the current family, still to be split.
-- Entries go by names: edge e of the graph is e, and the virtual edge of component c is m + c, where m is the number of edges.
-- A virtual edge is in its own component and in a later one; the current family is the last of all.
use Rattle.std.specs.Prelude.{◌≡◌, ◌≢◌, ℕ, ◌+◌, ◌<◌, ◌≤◌, ◌⊎◌, ◌↔◌, Bool, true, false, List, [], ◌∷◌, ◌++◌, length, map, slice_index_or, Contains}
use Rattle.multigraph.specs.Graph.{Multigraph, edge_count}
use Rattle.graph_theory.specs.Side.{IsCommon}
use Rattle.pair_split.specs.Family.{Entry, has_end, on_side, off_side, IsFamily}
use Rattle.pair_split.specs.Skeleton.{IsSkeleton}
use Rattle.pair_split.specs.Edges.{graph_entry, graph_family, entry_ends, family_skeleton}
use Rattle.pair_split.specs.Split.{piece_ends, component_at, items_of}
use Rattle.pair_split.specs.declared.components.Kind.{Kind}
use Rattle.pair_split.specs.declared.components.Kind.TheVariants.{B}
use Rattle.pair_split.specs.declared.components.What.{What}
use Rattle.pair_split.specs.declared.components.What.TheVariants.{Real, Link}
use Rattle.pair_split.specs.declared.components.Piece.{Piece}
use Rattle.pair_split.specs.declared.components.Comp.{Comp}

-- a finished component: its kind, its own virtual edge, and its other entries
pub record Part : Type 0 where
  pub kind : Kind
  pub own : Entry
  pub entries : List Entry

-- the finished components, and the current family
pub record SplitState : Type 0 where
  pub parts : List Part
  pub current : List Entry

-- finished component c
abbrev pub part_at : SplitState → ℕ → Part
part_at state c = slice_index_or state.parts c (record { kind = B; own = record { name = 0; first = 0; second = 0 }; entries = [] })

-- the virtual edge of component c
abbrev pub own_at : SplitState → ℕ → Entry
own_at state c = (part_at state c).own

-- all entries of a finished component
abbrev pub part_family : Part → List Entry
part_family part = part.own ∷ part.entries

-- the layers: the entries of each finished component but its own virtual edge, then the current family
abbrev pub layers : SplitState → List (List Entry)
layers state = map (λ part. part.entries) state.parts ++ state.current ∷ []

-- layer k; empty where it does not exist
abbrev pub layer : SplitState → ℕ → List Entry
layer state k = slice_index_or (layers state) k []

-- the test says which names are beyond the virtual edge of component c: that name itself, and what is in a layer whose
-- virtual edge is beyond
pub record IsBeyond (m : ℕ) (state : SplitState) (c : ℕ) (t : ℕ → Bool) : Type 0 where
  pub own : t (m + c) ≡ true
  pub last : t (m + length state.parts) ≡ false
  pub layer_by_layer : (k : ℕ) (entry : Entry) → Contains (layer state k) entry → entry.name ≢ m + c → t entry.name ≡ t (m + k)

-- the place of each name is the name of the entry of the current family in which it lies: an entry of that family lies in
-- itself, and what is in a finished component lies where its virtual edge does
pub record IsPlaced (m : ℕ) (state : SplitState) (place : ℕ → ℕ) : Type 0 where
  pub finished : (k : ℕ) (entry : Entry) → k < length state.parts → Contains (layer state k) entry → place entry.name ≡ place (m + k)
  pub current : (entry : Entry) → Contains state.current entry → place entry.name ≡ entry.name
  pub unused : (j : ℕ) → length state.parts ≤ j → place (m + j) ≡ m + j

-- what holds while a graph is split
pub record IsSplitState (g : Multigraph) (state : SplitState) : Type 0 where
  pub families : (k : ℕ) → IsFamily (layer state k)
  pub own_names : (c : ℕ) → c < length state.parts → (own_at state c).name ≡ edge_count g + c
  pub kinds : (c : ℕ) → c < length state.parts → IsSkeleton (part_at state c).kind (family_skeleton (part_family (part_at state c)))
  pub none_small : (c : ℕ) → c < length state.parts → (part_at state c).kind ≢ B
  pub edges_listed : (e : ℕ) → e < edge_count g → (k : ℕ) × Contains (layer state k) (graph_entry g e)
  pub own_listed : (c : ℕ) → c < length state.parts → (k : ℕ) × (c < k) × Contains (layer state k) (own_at state c)
  pub nothing_else : (k : ℕ) (entry : Entry) → Contains (layer state k) entry → ((e : ℕ) × (e < edge_count g) × (entry ≡ graph_entry g e)) ⊎ ((c : ℕ) × (c < length state.parts) × (entry ≡ own_at state c))
  pub once : (k j : ℕ) (x y : Entry) → Contains (layer state k) x → Contains (layer state j) y → x.name ≡ y.name → k ≡ j
  pub place : ℕ → ℕ
  pub placed : IsPlaced (edge_count g) state place
  pub parted : (c : ℕ) → c < length state.parts → (t : ℕ → Bool) → IsBeyond (edge_count g) state c t → (v : ℕ) → IsCommon g t v ↔ (has_end v (own_at state c) ≡ true)

-- at the start nothing is finished
abbrev pub start_state : Multigraph → SplitState
start_state g = record { parts = []; current = graph_family g }

-- the entries of the current family that pass the test are made a finished component of this kind, with the virtual edge v
-- in their place
abbrev pub split_off : SplitState → (ℕ → Bool) → Kind → Entry → SplitState
split_off state cut kind v = record { parts = state.parts ++ record { kind = kind; own = v; entries = on_side cut state.current } ∷ []; current = v ∷ off_side cut state.current }

-- all entries of component k, where the current family is the last component
abbrev pub family_at : SplitState → ℕ → List Entry
family_at state k = slice_index_or (map part_family state.parts ++ state.current ∷ []) k []

-- in component k the entry is written so: an edge as an edge, the component's own virtual edge as a link to the component in
-- which it is also, any other virtual edge as a link to its own component
abbrev pub IsWrittenIn : ℕ → SplitState → ℕ → Entry → What → Type 0
IsWrittenIn m state k entry (Real e) = (e < m) × (entry.name ≡ e)
IsWrittenIn m state k entry (Link j) = ((entry.name ≡ m + j) × (j ≢ k)) ⊎ ((entry.name ≡ m + k) × Contains (layer state j) entry)

-- the pieces are these entries of component k, in order
abbrev pub AreWritten : ℕ → SplitState → ℕ → List Entry → List Piece → Type 0
AreWritten m state k [] [] = Unit {0}
AreWritten m state k [] (piece ∷ pieces) = ⊥
AreWritten m state k (entry ∷ entries) [] = ⊥
AreWritten m state k (entry ∷ entries) (piece ∷ pieces) = ((piece_ends piece ≡ entry_ends entry) × IsWrittenIn m state k entry piece.what) × AreWritten m state k entries pieces

-- these are the components of the state, the current family being the last one and of this kind
pub record AreSplitComponents (m : ℕ) (state : SplitState) (kind : Kind) (comps : List Comp) : Type 0 where
  pub number : length comps ≡ length state.parts + 1
  pub last_kind : (component_at comps (length state.parts)).kind ≡ kind
  pub kinds : (k : ℕ) → k < length state.parts → (component_at comps k).kind ≡ (part_at state k).kind
  pub written : (k : ℕ) → k ≤ length state.parts → AreWritten m state k (family_at state k) (items_of comps k)
