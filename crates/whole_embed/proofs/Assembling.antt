-- The laws on the rotation system of a component, of any component in the plane; and what is used of one elsewhere.
use Rattle.std.proofs.Common.{◌≡◌, ℕ, ◌<◌, true, List, [], length, slice_index, slice_index_or, sym, subst}
use Rattle.permutations.specs.Members.{is_member}
use Rattle.faces.specs.Euler.{IsPlaneSystem}
use Rattle.skel_embed.specs.Taken.{IsGiven}
use Rattle.whole_embed.specs.Component.{Component, BlockInPlane, component_of, IsComponentInPlane}
use Rattle.whole_embed.specs.Around.{outer_at}
use Rattle.whole_embed.specs.Whole.{AreArranged, whole_lists, whole_system, block_part, IsWholeMember}
use Rattle.whole_embed.specs.Laws.{ComponentIsPart, WholeIsPlane, WholeIsGiven, WholeHasParts, WholeHasArrangements}
use Rattle.whole_embed.proofs.Components.{component-part}
use Rattle.whole_embed.proofs.WholeParts as parts

-- what is so of each component of a graph is so of each component in the plane
pub of-component : (P : Component → Type 0) (k : Component) (block : ℕ → BlockInPlane) (w : IsComponentInPlane k block) → P (component_of w.graph w.structure w.number) → P k
of-component P k block w h = subst P (sym w.component) h

pub component_is_part : ComponentIsPart
component_is_part g s c ok limits is = component-part g s c is ok limits

pub whole_is_plane : WholeIsPlane
whole_is_plane k block lists w are = of-component (λ k. AreArranged k block lists → IsPlaneSystem k.part.graph (whole_system k block lists)) k block w
    (parts.whole-plane w.graph w.structure w.number w.is_structure w.is_graph w.limits block w.blocks lists) are

pub whole_is_member : (k : Component) (block : ℕ → BlockInPlane) (lists : List (List ℕ)) → IsComponentInPlane k block → AreArranged k block lists → IsWholeMember k block (whole_system k block lists)
whole_is_member k block lists w are = of-component (λ k. AreArranged k block lists → IsWholeMember k block (whole_system k block lists)) k block w
    (parts.whole-member w.graph w.structure w.number w.is_structure w.is_graph w.limits block w.blocks lists) are

pub whole_has_parts : WholeHasParts
whole_has_parts k block lists w are = of-component (λ k. AreArranged k block lists → (b : ℕ) → is_member b k.blocks ≡ true → block_part k (block b).part (whole_system k block lists) ≡ (block b).rotation) k block w
    (λ a b mb. parts.whole-part w.graph w.structure w.number w.is_structure w.is_graph w.limits block w.blocks lists a b mb) are

pub whole_has_arrangements : WholeHasArrangements
whole_has_arrangements k block lists w are = of-component (λ k. AreArranged k block lists → (i : ℕ) → i < length k.cuts → outer_at k.part (whole_system k block lists) (slice_index k.cuts i) ≡ slice_index_or lists i []) k block w
    (λ a i l. parts.whole-round w.graph w.structure w.number w.is_structure w.is_graph w.limits block w.blocks lists a i l) are

pub whole_is_given : WholeIsGiven
whole_is_given k block lists w are = of-component (λ k. AreArranged k block lists → IsGiven k.part (whole_lists k block lists) (whole_system k block lists)) k block w
    (parts.whole-given w.graph w.structure w.number w.is_structure w.is_graph w.limits block w.blocks lists) are
