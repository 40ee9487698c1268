-- A step of the history that changes blocks and lists at cut vertices of a component. Contracts of private functions cite these.
use Rattle.std.specs.Prelude.{◌≡◌, ℕ, zero, suc, ◌<◌, Bool, true, false, if◌then◌else◌, List, [], ◌∷◌, ◌++◌, length, map, flat_map, slice_index, slice_index_or, Option, None, Some, ⊤}
use Rattle.std.specs.List.{concat}
use Rattle.permutations.specs.Members.{is_member}
use Rattle.arrangements.specs.Arranged.{same_list}
use Rattle.skeletons.specs.Moves.{Move, moves_between}
use Rattle.skeletons.specs.Lists.{IsRank}
use Rattle.spqr_script.specs.Answers.Whole.{whole_text, block_move_text, regroup_text}
use Rattle.skel_embed.specs.Block.{BlockState}
use Rattle.undo_log.specs.declared.step.CutChange.{CutChange}
use Rattle.undo_log.specs.declared.step.Step.{Step}
use Rattle.whole_embed.specs.declared.members.Member.{Member}
use Rattle.whole_embed.specs.Component.{Component, BlockInPlane, IsComponentInPlane}
use Rattle.whole_embed.specs.Around.{outer_at}
use Rattle.whole_embed.specs.Cuts.{CutState, member_at, blocks_in, HavePlanes}
use Rattle.whole_embed.specs.Whole.{AreArranged, whole_system, IsWholeMember, IsWholeList}
use Rattle.whole_embed.specs.Walk.{first_around, system_lists}
use Rattle.whole_convert.specs.Between.{blocks_to}
use Rattle.whole_convert.specs.declared.steps.WholeMove.{WholeMove}
use Rattle.whole_convert.specs.declared.steps.WholeMove.TheVariants.{Block, Regroup}
use Rattle.whole_convert.specs.declared.faults.WholeFault.{WholeFault}
use Rattle.whole_convert.specs.declared.faults.WholeFault.TheVariants as fault
use Rattle.spqr_script.specs.Answers.Moves.{move_count_text, IsMoveOf}
use Rattle.spqr_session.specs.Setting.{Setting}
use Rattle.spqr_session.specs.State.{Embedding, Family, component_at, arrangements_in}
use Rattle.spqr_session.specs.Commands.ListWhole.{IsWholeListing}
use Rattle.spqr_session.specs.declared.code.Code.{Code}
use Rattle.spqr_session.specs.declared.code.Code.TheVariants.{BadRotation, NotGenusZero, LockedIn}
use Rattle.spqr_session.specs.Kept.{Kept}
use Rattle.spqr_session.specs.Embedded.{BlockView, view_entry, view_at}
use Rattle.spqr_session.specs.Board.{BoardView, StandsAt, LeadsTo, GoesTo}
use Rattle.spqr_session.specs.Components.{blocks_of}

-- the rotation system of an entry; none where there is none
abbrev pub rotation_in : Option Embedding → List (List ℕ)
rotation_in None = []
rotation_in (Some e) = e.rotation

-- the moves from the rotation system that block b has to the one that it has among others, and those back
abbrev pub moves_forth : List BlockView → (ℕ → BlockInPlane) → ℕ → List Move
moves_forth views block b = moves_between (view_at views b).tree.nodes (rotation_in (view_at views b).entry) (block b).rotation

abbrev pub moves_back : List BlockView → (ℕ → BlockInPlane) → ℕ → List Move
moves_back views block b = moves_between (view_at views b).tree.nodes (block b).rotation (rotation_in (view_at views b).entry)

-- moves of blocks, of one block after the other, as pairs of a block and a move
abbrev pub pairs_of : (ℕ → List Move) → List ℕ → List (ℕ × Move)
pairs_of moves blocks = flat_map (λ b. map (λ (m : Move). (b, m)) (moves b)) blocks

-- what is kept of a list at a cut vertex: nothing where it is the first arrangement
abbrev pub list_kept : List ℕ → List ℕ → Option (List ℕ)
list_kept first list = (if same_list list first then None else Some list)

-- whether the same is kept
abbrev pub same_kept : Option (List ℕ) → Option (List ℕ) → Bool
same_kept None None = true
same_kept None (Some l) = false
same_kept (Some l) None = false
same_kept (Some l) (Some m) = same_list l m

-- the change at vertex v from what is kept to what is to be kept, if these are not the same
abbrev pub change_kept : ℕ → Option (List ℕ) → Option (List ℕ) → List CutChange
change_kept v now wanted = (if same_kept now wanted then [] else record { vertex = v; before = now; after = wanted } ∷ [])

-- the change at the vertex at place i
abbrev pub change_at : List ℕ → List (Option (List ℕ)) → (ℕ → Option (List ℕ)) → ℕ → List CutChange
change_at vertices lists wanted i = change_kept (slice_index vertices i) (slice_index_or lists (slice_index vertices i) None) (wanted i)

-- those at the first n of them
abbrev pub changes_below : List ℕ → List (Option (List ℕ)) → (ℕ → Option (List ℕ)) → ℕ → List CutChange
changes_below vertices lists wanted zero = []
changes_below vertices lists wanted (suc n) = changes_below vertices lists wanted n ++ change_at vertices lists wanted n

-- what is to be kept of the lists at the cut vertices of a component, where these are its first arrangements
abbrev pub wanted_in : CutState → CutState → ℕ → Option (List ℕ)
wanted_in first cuts i = list_kept (slice_index_or first.lists i []) (slice_index_or cuts.lists i [])

-- block b is in the plane, and a member of a list of all blocks can take its place: part, tree and locks are the same
pub record FitsMember (views : List BlockView) (all : List Member) (b : ℕ) : Type 0 where
  pub embedding : Embedding
  pub stands : StandsAt views b embedding
  pub plane : BlockState
  pub present : (member_at all b).plane ≡ Some plane
  pub graph : plane.graph ≡ (view_at views b).tree.part.graph
  pub tree : plane.tree ≡ (view_at views b).tree.nodes
  pub locks : plane.locks ≡ embedding.locks

-- the blocks of the component have the rotation systems of these members, its cut vertices these lists, and all else is as it was
pub record KeepsWhole (k : Component) (views : List BlockView) (lists : List (Option (List ℕ))) (block : ℕ → BlockInPlane) (wanted : ℕ → Option (List ℕ)) (kept : Kept) : Type 0 where
  pub count : length kept.entries ≡ length views
  pub entries : (b : ℕ) (e : Embedding) → is_member b k.blocks ≡ true → StandsAt views b e → slice_index_or kept.entries b None ≡ Some (record { rotation = (block b).rotation; locks = e.locks })
  pub others : (b : ℕ) → is_member b k.blocks ≡ false → slice_index_or kept.entries b None ≡ slice_index_or (map view_entry views) b None
  pub each : length kept.lists ≡ length lists
  pub lists_at : (i : ℕ) → i < length k.cuts → slice_index_or kept.lists (slice_index k.cuts i) None ≡ wanted i
  pub elsewhere : (v : ℕ) → is_member v k.cuts ≡ false → slice_index_or kept.lists v None ≡ slice_index_or lists v None

-- the step leads to these blocks and lists of a component, and back
pub record LeadsToWhole (k : Component) (views : List BlockView) (lists : List (Option (List ℕ))) (block : ℕ → BlockInPlane) (wanted : ℕ → Option (List ℕ)) (step : Step) : Type 0 where
  pub kept : Kept
  pub leads : LeadsTo views lists kept step
  pub keeps : KeepsWhole k views lists block wanted kept

-- the blocks and the lists are those of a component of a family with the rotation system q, a member of its list
pub record IsWholeTarget (setting : Setting) (c : ℕ) (family : Family) (q : List (List ℕ)) (cuts : CutState) (all : List Member) : Type 0 where
  pub member : IsWholeMember (component_at setting c) (blocks_of setting family) q
  pub component : cuts.component ≡ component_at setting c
  pub blocks : blocks_in all ≡ blocks_to (component_at setting c) (blocks_of setting family) q
  pub lists : cuts.lists ≡ map (outer_at (component_at setting c).part q) (component_at setting c).cuts
  pub in_plane : IsComponentInPlane cuts.component (blocks_in all)
  pub planes : HavePlanes cuts.component all

-- what is to be kept of these lists, for these blocks
abbrev pub wanted_for : CutState → List Member → ℕ → Option (List ℕ)
wanted_for cuts all i = list_kept (first_around cuts.component (blocks_in all) i) (slice_index_or cuts.lists i [])

-- the board goes on to these blocks and lists of a component
pub record GoesToWhole (before : BoardView) (cuts : CutState) (all : List Member) (after : BoardView) : Type 0 where
  pub kept : Kept
  pub goes : GoesTo before kept after
  pub keeps : KeepsWhole cuts.component before.views before.lists (blocks_in all) (wanted_for cuts all) kept

-- the present rotation system of a component with its blocks and its lists
abbrev pub system_now : CutState → List Member → List (List ℕ)
system_now cuts all = whole_system cuts.component (blocks_in all) cuts.lists

-- the list of the component, and the place of the present rotation system in it
pub record IsListNow (cuts : CutState) (all : List Member) (l : List (List (List ℕ))) (i : ℕ) : Type 0 where
  pub list : IsWholeList cuts.component (blocks_in all) l
  pub rank : IsRank l (system_now cuts all) i

-- the blocks of the component are in the plane, and its lists are arrangements for them
pub record AreTogether (cuts : CutState) (all : List Member) : Type 0 where
  pub in_plane : IsComponentInPlane cuts.component (blocks_in all)
  pub planes : HavePlanes cuts.component all
  pub arranged : AreArranged cuts.component (blocks_in all) cuts.lists

-- the lines of rotation systems of a component
abbrev pub system_texts : ℕ → Component → List (List (List ℕ)) → List ℕ
system_texts c k systems = concat (map (λ q. whole_text c (system_lists k q)) systems)

-- the text is the members that follow the present one in the list of a component of a family
pub record IsListTold (setting : Setting) (c n : ℕ) (family : Family) (text : List ℕ) : Type 0 where
  pub lists : List (List ℕ)
  pub present : arrangements_in family c ≡ Some lists
  pub answer : IsWholeListing setting c n family lists text

-- a move of a block that is there, whose keys are edges of it; any arrangement
abbrev pub IsStepIn : List BlockView → WholeMove → Type 0
IsStepIn views (Block b move) = (b < length views) × IsMoveOf (view_at views b).tree.part.graph move
IsStepIn views (Regroup v edges) = ⊤

-- the line of a step
abbrev pub line_in : List BlockView → WholeMove → List ℕ
line_in views (Block b move) = block_move_text (view_at views b).tree.part b move
line_in views (Regroup v edges) = regroup_text v edges

-- the line of their number, and the lines of the steps
abbrev pub lines_in : List BlockView → List WholeMove → List ℕ
lines_in views steps = move_count_text (length steps) ++ concat (map (line_in views) steps)

-- the code of a fault; running out of memory has none
abbrev pub IsCodeOf : WholeFault → Code → Type 0
IsCodeOf (fault.BadRotation v) code = code ≡ BadRotation v
IsCodeOf (fault.NotGenusZero v e f) code = code ≡ NotGenusZero v e f
IsCodeOf (fault.Locked b k) code = code ≡ LockedIn b k
IsCodeOf fault.Memory code = ⊥
