-- What commands change: the embeddings of the blocks and the arrangements at cut vertices, and those from before and after.
use Rattle.std.specs.Prelude.{◌≡◌, ℕ, ◌<◌, Bool, true, false, List, [], length, map, replicate, slice_index_or, Option, None, Some, All, ⊤}
use Rattle.std.specs.List.{list_all}
use Rattle.kuratowski.specs.declared.subdivision.Subdivision.{Subdivision}
use Rattle.multigraph.specs.Graph.{numbers_below}
use Rattle.faces.specs.Euler.{IsPlaneSystem}
use Rattle.whole_embed.specs.Component.{Component, BlockInPlane, component_of}
use Rattle.whole_embed.specs.Whole.{AreArranged}
use Rattle.whole_embed.specs.Walk.{first_around}
use Rattle.spqr_session.specs.Trees.{BlockTree, tree_at}
use Rattle.spqr_session.specs.Start.{StartsAt}
use Rattle.spqr_session.specs.Certificates.{certificate_at}
use Rattle.spqr_session.specs.Setting.{Setting}

-- what is kept of a planar block: its rotation system, and of each node of its tree whether it is locked
pub record Embedding : Type 0 where
  pub rotation : List (List ℕ)
  pub locks : List Bool

-- an entry for each block, in order: none where the block is not planar; and for each component, in order, the edges around each of
-- its cut vertices, from the least edge on: none where one of its blocks is not planar
pub record Family : Type 0 where
  pub entries : List (Option Embedding)
  pub arrangements : List (Option (List (List ℕ)))

-- the entry of block b; none where there is none
abbrev pub entry_at : Family → ℕ → Option Embedding
entry_at family b = slice_index_or family.entries b None

-- the lists at the cut vertices of component c; none where there are none
abbrev pub arrangements_in : Family → ℕ → Option (List (List ℕ))
arrangements_in family c = slice_index_or family.arrangements c None

-- the present family, and the earlier and the later ones, of each the nearest first
pub record State : Type 0 where
  pub present : Family
  pub earlier : List Family
  pub later : List Family

-- an entry of a block: where it is planar a plane rotation system of it and a lock for each node, and else none
abbrev pub IsEntry : BlockTree → Option Subdivision → Option Embedding → Type 0
IsEntry tree None None = ⊥
IsEntry tree None (Some e) = IsPlaneSystem tree.part.graph e.rotation × (length e.locks ≡ length tree.nodes)
IsEntry tree (Some s) None = ⊤
IsEntry tree (Some s) (Some e) = ⊥

-- component c of the graph
abbrev pub component_at : Setting → ℕ → Component
component_at setting c = component_of setting.named.graph setting.structure c

-- whether a block with this certificate is planar: it has none
abbrev pub lacks_certificate : Option Subdivision → Bool
lacks_certificate None = true
lacks_certificate (Some s) = false

-- whether all blocks of component c are planar
abbrev pub is_planar_component : Setting → ℕ → Bool
is_planar_component setting c = list_all (λ b. lacks_certificate (certificate_at setting.certificates b)) (component_at setting c).blocks

-- a block with its embedding; without tree and rotation system where it is not planar
abbrev pub block_with_entry : BlockTree → Option Embedding → BlockInPlane
block_with_entry tree None = record { part = tree.part; nodes = []; rotation = []; locks = [] }
block_with_entry tree (Some e) = record { part = tree.part; nodes = tree.nodes; rotation = e.rotation; locks = e.locks }

-- all blocks, with these entries
abbrev pub blocks_with : List BlockTree → List (Option Embedding) → ℕ → BlockInPlane
blocks_with trees entries b = block_with_entry (tree_at trees b) (slice_index_or entries b None)

-- the lists at the cut vertices of a component: arrangements for its blocks where these are planar, and else none
abbrev pub AreArrangements : Component → (ℕ → BlockInPlane) → Bool → Option (List (List ℕ)) → Type 0
AreArrangements k block true None = ⊥
AreArrangements k block true (Some lists) = AreArranged k block lists
AreArrangements k block false None = ⊤
AreArrangements k block false (Some lists) = ⊥

-- a family has such an entry for each block, and such lists for each component
pub record IsFamily (setting : Setting) (family : Family) : Type 0 where
  pub one_each : length family.entries ≡ length setting.trees
  pub each : (b : ℕ) → b < length setting.trees → IsEntry (tree_at setting.trees b) (certificate_at setting.certificates b) (entry_at family b)
  pub lists_each : length family.arrangements ≡ setting.structure.component_count
  pub arranged : (c : ℕ) → c < setting.structure.component_count
      → AreArrangements (component_at setting c) (blocks_with setting.trees family.entries) (is_planar_component setting c) (arrangements_in family c)

-- all families of a state are such
pub record IsState (setting : Setting) (state : State) : Type 0 where
  pub present : IsFamily setting state.present
  pub earlier : All (IsFamily setting) state.earlier
  pub later : All (IsFamily setting) state.later

-- at the start the current rotation system of a planar block is the one that the file gives, or the first of its plane ones where the
-- file gives none; and no node is locked
abbrev pub IsStartEntry : Option (List (List ℕ)) → BlockTree → Option Embedding → Type 0
IsStartEntry start tree None = ⊤
IsStartEntry start tree (Some e) = StartsAt start tree e.rotation × (e.locks ≡ replicate (length tree.nodes) false)

-- the first arrangement at each cut vertex of a component
abbrev pub first_lists : Component → (ℕ → BlockInPlane) → List (List ℕ)
first_lists k block = map (first_around k block) (numbers_below (length k.cuts))

-- a state in which a session on the setting starts: this is so for each block, each cut vertex of a component whose blocks are planar has its
-- first arrangement, and no family is earlier or later
pub record IsStart (setting : Setting) (state : State) : Type 0 where
  pub right : IsState setting state
  pub starts : (b : ℕ) → b < length setting.trees → IsStartEntry setting.named.start (tree_at setting.trees b) (entry_at state.present b)
  pub first : (c : ℕ) (lists : List (List ℕ)) → c < setting.structure.component_count → arrangements_in state.present c ≡ Some lists
      → lists ≡ first_lists (component_at setting c) (blocks_with setting.trees state.present.entries)
  pub earlier : state.earlier ≡ []
  pub later : state.later ≡ []
