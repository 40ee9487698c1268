-- `regroup V EDGES`: another arrangement at a cut vertex.
use Rattle.std.specs.Prelude.{◌≡◌, ℕ, ◌<◌, true, false, List, slice_index, slice_set, Option, None, Some, Contains, IsPermutation}
use Rattle.permutations.specs.Members.{is_member, place_of}
use Rattle.permutations.specs.Cyclic.{from_least}
use Rattle.multigraph.specs.Graph.{incident_edges}
use Rattle.arrangements.specs.Arranged.{keeps}
use Rattle.arrangements.specs.Refused.{IsLeastChanged, IsLeastCrossing}
use Rattle.whole_embed.specs.Component.{Component}
use Rattle.whole_embed.specs.Around.{block_with, block_order, arrangements_around}
use Rattle.spqr_script.specs.Answers.Change.{ok_text}
use Rattle.spqr_session.specs.Setting.{Setting}
use Rattle.spqr_session.specs.State.{Family, State, arrangements_in, component_at, is_planar_component}
use Rattle.spqr_session.specs.Codes.{Carries}
use Rattle.spqr_session.specs.BlockCodes.{with_family}
use Rattle.spqr_session.specs.Components.{blocks_of}
use Rattle.spqr_session.specs.declared.code.Code.{Code}
use Rattle.spqr_session.specs.declared.code.Code.TheVariants.{NonPlanar, BadRotation, NoCut, BlockOrder, Cross}

-- the number of the component of vertex v
abbrev pub component_number : Setting → ℕ → ℕ
component_number setting v = slice_index setting.structure.components v

-- v is a cut vertex, the blocks of its component are planar, and the list is an ordering of the edges at it
pub record OrdersEdges (setting : Setting) (v : ℕ) (edges : List ℕ) : Type 0 where
  pub cut : is_member v setting.structure.cut_vertices ≡ true
  pub planar : is_planar_component setting (component_number setting v) ≡ true
  pub ordering : IsPermutation (incident_edges setting.named.graph v) edges

-- the list changes the cyclic order of no block around v
abbrev pub KeepsOrders : Component → Setting → Family → ℕ → List ℕ → Type 0
KeepsOrders k setting family v edges =
    (e : ℕ) → is_member e edges ≡ true → keeps (block_with k) (block_order (blocks_of setting family) v) (block_with k e) (from_least edges) ≡ true

-- code 5: a block of the component of v is not planar; 6: v is a vertex and the list is not an ordering of the edges at it; 15: v is no cut
-- vertex; of an ordering of the edges at a cut vertex, 16: b is the least block whose cyclic order it changes; 17: it changes none, and b and
-- c are the least two blocks that cross
abbrev pub RegroupApplies : Setting → ℕ → List ℕ → State → Code → Type 0
RegroupApplies setting v edges s NonPlanar = (v < setting.named.graph.vertex_count) × (is_planar_component setting (component_number setting v) ≡ false)
RegroupApplies setting v edges s (BadRotation w) = (v < setting.named.graph.vertex_count) × (w ≡ v) × ¬ IsPermutation (incident_edges setting.named.graph v) edges
RegroupApplies setting v edges s NoCut = is_member v setting.structure.cut_vertices ≡ false
RegroupApplies setting v edges s (BlockOrder b) = OrdersEdges setting v edges
    × IsLeastChanged (block_with (component_at setting (component_number setting v))) (block_order (blocks_of setting s.present) v) (from_least edges) b
RegroupApplies setting v edges s (Cross b c) = OrdersEdges setting v edges
    × KeepsOrders (component_at setting (component_number setting v)) setting s.present v edges
    × IsLeastCrossing (block_with (component_at setting (component_number setting v))) (from_least edges) b c
RegroupApplies setting v edges s code = ⊥

-- the lists of a component with another one for cut vertex v
abbrev pub lists_put : Component → ℕ → List ℕ → Option (List (List ℕ)) → Option (List (List ℕ))
lists_put k v l None = None
lists_put k v l (Some lists) = Some (slice_set lists (place_of k.cuts v) l)

-- the family with this list at cut vertex v
abbrev pub list_put : Setting → ℕ → List ℕ → Family → Family
list_put setting v l family = record {
  entries = family.entries;
  arrangements = slice_set family.arrangements (component_number setting v)
      (lists_put (component_at setting (component_number setting v)) v l (arrangements_in family (component_number setting v)));
}

-- the list, from its least edge on, is an arrangement at the cut vertex for the present blocks, and is set there; the answer is `ok`
pub record Regroups (setting : Setting) (v : ℕ) (edges : List ℕ) (before : State) (text : List ℕ) (after : State) : Type 0 where
  pub orders : OrdersEdges setting v edges
  pub arranged : Contains (arrangements_around (component_at setting (component_number setting v)) (blocks_of setting before.present) v) (from_least edges)
  pub after_is : after ≡ with_family before (list_put setting v (from_least edges) before.present)
  pub answer : text ≡ ok_text

-- one step: refused by codes 5, 6, 15, 16 and 17
abbrev pub RegroupStep : Setting → ℕ → List ℕ → State → List ℕ → State → Type 0
RegroupStep setting v edges before text after = Carries (RegroupApplies setting v edges before) (Regroups setting v edges) before text after
