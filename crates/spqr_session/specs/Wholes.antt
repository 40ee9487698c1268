-- Components with the blocks and the lists on the board, as calls on components have them. Contracts of private functions cite these.
use Rattle.std.specs.Prelude.{◌≡◌, ℕ, ◌<◌, ◌≤◌, ◌⊎◌, true, List, [], length, slice_index, slice_index_or, slice_set, Option, None, Some, Contains, IsPermutation}
use Rattle.permutations.specs.Cyclic.{from_least}
use Rattle.multigraph.specs.Graph.{Multigraph, incident_edges}
use Rattle.rotations.specs.Rotation.{IsCyclicOrder}
use Rattle.blocks.specs.Blocks.{block_at}
use Rattle.skel_embed.specs.Block.{BlockState}
use Rattle.whole_embed.specs.declared.members.Member.{Member}
use Rattle.whole_embed.specs.declared.faults.RegroupFault.TheVariants as fault
use Rattle.whole_embed.specs.Component.{Component, BlockInPlane, has_edge, IsComponentInPlane}
use Rattle.whole_embed.specs.Around.{edges_around, arrangements_around}
use Rattle.whole_embed.specs.Cuts.{CutState, in_plane, member_at, blocks_in, HavePlanes, set_around, IsRegroupRefusal}
use Rattle.whole_embed.specs.Whole.{AreArranged}
use Rattle.spqr_session.specs.Trees.{tree_at}
use Rattle.spqr_session.specs.Certificates.{certificate_at}
use Rattle.spqr_session.specs.Setting.{Setting}
use Rattle.spqr_session.specs.State.{Embedding, Family, State, arrangements_in, IsEntry, component_at, lacks_certificate, block_with_entry, blocks_with, first_lists}
use Rattle.spqr_session.specs.Kept.{Kept, list_or_first, family_of}
use Rattle.spqr_script.specs.Answers.Change.{ok_text}
use Rattle.spqr_session.specs.Embedded.{BlockView, view_at}
use Rattle.spqr_session.specs.Board.{BoardView, kept_on, GoesTo}
use Rattle.spqr_session.specs.Codes.{IsLowest, NoneApplies, code_text}
use Rattle.spqr_session.specs.Components.{blocks_of}
use Rattle.spqr_session.specs.Commands.Regroup.{component_number, OrdersEdges, RegroupApplies}
use Rattle.spqr_session.specs.Commands.Whole.{IsWhole}
use Rattle.spqr_session.specs.declared.code.Code.{Code}
use Rattle.spqr_session.specs.declared.code.Code.TheVariants.{BadRotation, NoCut, BlockOrder, Cross}
use Rattle.spqr_session.specs.declared.commands.regroup.Regrouping.{Regrouping}
use Rattle.spqr_session.specs.declared.commands.regroup.Regrouping.TheVariants.{Refused, Arranged}

-- a block as calls on components have it: the same part, and where it is planar the same in the plane
pub record IsMemberOf (view : BlockView) (member : Member) : Type 0 where
  pub block : in_plane member.part member.plane ≡ block_with_entry view.tree view.entry
  pub plane : (e : Embedding) → view.entry ≡ Some e → (p : BlockState) × (member.plane ≡ Some p) × (p.graph ≡ member.part.graph)

-- the first n blocks, in order
pub record AreMembersOf (views : List BlockView) (n : ℕ) (all : List Member) : Type 0 where
  pub one_each : length all ≡ n
  pub each : (b : ℕ) → b < n → IsMemberOf (view_at views b) (member_at all b)

-- each block has a right entry
abbrev pub AreEntries : Setting → List (Option Embedding) → Type 0
AreEntries setting entries = (b : ℕ) → b < length setting.trees → IsEntry (tree_at setting.trees b) (certificate_at setting.certificates b) (slice_index_or entries b None)

-- the first n blocks of the graph are planar, as far as they are in component c
abbrev pub ArePlanarBelow : Setting → ℕ → ℕ → Type 0
ArePlanarBelow setting c n = (b : ℕ) → b < n → has_edge setting.named.graph setting.structure c (slice_index (block_at setting.structure.blocks b) 0) ≡ true
    → lacks_certificate (certificate_at setting.certificates b) ≡ true

-- component c of the graph, with all blocks of it, of which those with these entries are in the plane
pub record HasBlocks (setting : Setting) (entries : List (Option Embedding)) (c : ℕ) (cuts : CutState) (all : List Member) : Type 0 where
  pub component : cuts.component ≡ component_at setting c
  pub blocks : blocks_in all ≡ blocks_with setting.trees entries
  pub in_plane : IsComponentInPlane cuts.component (blocks_in all)
  pub planes : HavePlanes cuts.component all

-- with the first arrangement at each cut vertex
pub record IsFirstComponent (setting : Setting) (entries : List (Option Embedding)) (c : ℕ) (cuts : CutState) (all : List Member) : Type 0 where
  pub blocks : HasBlocks setting entries c cuts all
  pub first : cuts.lists ≡ first_lists cuts.component (blocks_in all)

-- with the arrangements of the family of which this is kept
pub record IsPresentComponent (setting : Setting) (kept : Kept) (c : ℕ) (cuts : CutState) (all : List Member) : Type 0 where
  pub blocks : HasBlocks setting kept.entries c cuts all
  pub present : arrangements_in (family_of setting kept) c ≡ Some cuts.lists
  pub arranged : AreArranged cuts.component (blocks_in all) cuts.lists

-- of each cut vertex the list that is kept is a cyclic order of its edges
abbrev pub AreOrdersKept : Component → List (Option (List ℕ)) → Type 0
AreOrdersKept k lists = (i : ℕ) (l : List ℕ) → i < length k.cuts → slice_index_or lists (slice_index k.cuts i) None ≡ Some l → IsCyclicOrder (edges_around k (slice_index k.cuts i)) l

-- the component with a list set at vertex v, if there is one
abbrev pub set_if : CutState → ℕ → Option (List ℕ) → CutState
set_if cuts v None = cuts
set_if cuts v (Some l) = set_around cuts v l

-- the first n lists of a component are those that are kept, where there are any; all others are as before
pub record AreSetTo (n : ℕ) (lists : List (Option (List ℕ))) (old new : CutState) : Type 0 where
  pub component : new.component ≡ old.component
  pub count : length new.lists ≡ length old.lists
  pub set : (i : ℕ) → i < n → i < length old.component.cuts → slice_index_or new.lists i [] ≡ list_or_first (slice_index_or lists (slice_index old.component.cuts i) None) (slice_index_or old.lists i [])
  pub others : (i : ℕ) → n ≤ i → slice_index_or new.lists i [] ≡ slice_index_or old.lists i []

-- why a list is refused for a vertex, or the arrangement that it is, from its least edge on
pub record IsArrangementFor (setting : Setting) (v : ℕ) (edges : List ℕ) (s : State) (list : List ℕ) : Type 0 where
  pub none : NoneApplies (RegroupApplies setting v edges s)
  pub orders : OrdersEdges setting v edges
  pub arranged : Contains (arrangements_around (component_at setting (component_number setting v)) (blocks_of setting s.present) v) (from_least edges)
  pub list_is : list ≡ from_least edges

-- the text is that of the present rotation system of a component of a family
pub record IsWholeTold (setting : Setting) (c : ℕ) (family : Family) (text : List ℕ) : Type 0 where
  pub lists : List (List ℕ)
  pub present : arrangements_in family c ≡ Some lists
  pub answer : IsWhole setting c family lists text

-- a code that says why a list for cut vertex v of a component is no arrangement
abbrev pub IsRefusedIn : Component → (ℕ → BlockInPlane) → ℕ → List ℕ → Code → Type 0
IsRefusedIn k block v edges (BadRotation w) = IsRegroupRefusal k block v edges (fault.BadRotation w)
IsRefusedIn k block v edges (BlockOrder b) = IsRegroupRefusal k block v edges (fault.BlockOrder b)
IsRefusedIn k block v edges (Cross b c) = IsRegroupRefusal k block v edges (fault.Cross b c)
IsRefusedIn k block v edges code = ⊥

-- what `regroup` is to do: it is refused by the lowest code, or sets this list
abbrev pub IsRegrouping : Setting → ℕ → List ℕ → State → Regrouping → Type 0
IsRegrouping setting v edges s (Refused code) = IsLowest (RegroupApplies setting v edges s) code
IsRegrouping setting v edges s (Arranged list) = IsArrangementFor setting v edges s list

-- what is kept with this list at vertex v
abbrev pub kept_arranged : List BlockView → List (Option (List ℕ)) → ℕ → List ℕ → Kept
kept_arranged views lists v l = kept_on views (slice_set lists v (Some l))

-- this is done: the line of the code, and nothing changes; or `ok`, and the list is kept at vertex v
abbrev pub IsRegrouped : ℕ → Regrouping → BoardView → List ℕ → BoardView → Type 0
IsRegrouped v (Refused code) before text after = (text ≡ code_text code) × (after ≡ before)
IsRegrouped v (Arranged list) before text after = (text ≡ ok_text) × GoesTo before (kept_arranged before.views before.lists v list) after

-- code 6 of a list for a vertex that is no ordering of its edges, and else code 15
abbrev pub IsElsewhere : Multigraph → ℕ → List ℕ → Code → Type 0
IsElsewhere g v edges code = ((IsPermutation (incident_edges g v) edges → ⊥) × (code ≡ BadRotation v)) ⊎ (IsPermutation (incident_edges g v) edges × (code ≡ NoCut))

-- what is found of a list for cut vertex v of a component: why it is no arrangement, or the list from its least edge on, which is one
abbrev pub IsRegroupedIn : Component → (ℕ → BlockInPlane) → ℕ → List ℕ → Regrouping → Type 0
IsRegroupedIn k block v edges (Refused code) = IsRefusedIn k block v edges code
IsRegroupedIn k block v edges (Arranged list) = Contains (arrangements_around k block v) (from_least edges) × (list ≡ from_least edges)
