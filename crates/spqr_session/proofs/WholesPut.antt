-- The blocks and the lists of a component that are put on a board: they may be put there, and the state after it.
use Rattle.std.proofs.Common.{◌≡◌, ℕ, ◌<◌, true, ◌==◌, List, length, map, slice_index, Some, sym, ap, ◌∙◌, subst}
use Rattle.permutations.specs.Members.{is_member}
use Rattle.permutations.proofs.Arrangements.{member-at}
use Rattle.faces.specs.Euler.{IsPlaneSystem}
use Rattle.skeletons.specs.Items as items
use Rattle.whole_embed.specs.declared.members.Member.{Member}
use Rattle.whole_embed.specs.Component.{Component}
use Rattle.whole_embed.specs.Cuts.{CutState, member_at}
use Rattle.spqr_session.specs.Trees.{BlockTree, tree_at}
use Rattle.spqr_session.specs.Setting.{Setting, IsSetting}
use Rattle.spqr_session.specs.State.{Embedding, component_at, is_planar_component, IsFamily}
use Rattle.spqr_session.specs.Kept.{family_of}
use Rattle.spqr_session.specs.Embedded.{view_tree, view_entry, view_at, IsInPlane}
use Rattle.spqr_session.specs.BlockCodes.{with_family}
use Rattle.spqr_session.specs.Components.{family_with}
use Rattle.spqr_session.specs.Board.{BoardView, HavePlaces, kept_now, board_state}
use Rattle.spqr_session.specs.WholeSteps.{FitsMember, IsWholeTarget, GoesToWhole}
use Rattle.spqr_session.proofs.SettingTrees.{setting-tree}
use Rattle.spqr_session.proofs.Views.{trees-at, entries-at}
use Rattle.spqr_session.proofs.ComponentParts.{block-there, block-embedding}
use Rattle.permutations.proofs.Filter.{member-filter_parts}
use Rattle.spqr_session.proofs.VertexPlaces.{cut-place}
use Rattle.spqr_session.proofs.KeptWholes.{target-part, target-fits, kept-whole}

module _ (setting : Setting) (is : IsSetting setting) (board : BoardView) (right : IsFamily setting (family_of setting (kept_now board))) (seen : setting.trees ≡ map view_tree board.views) (places : HavePlaces setting.trees (length board.lists)) (c : ℕ)
    (within : c < setting.structure.component_count) (planar : is_planar_component setting c ≡ true) (q : List (List ℕ)) (cuts : CutState) (all : List Member) (target : IsWholeTarget setting c (family_of setting (kept_now board)) q cuts all) where
  here : (b : ℕ) → is_member b cuts.component.blocks ≡ true → is_member b (component_at setting c).blocks ≡ true
  here b m = subst (λ (z : Component). is_member b z.blocks ≡ true) target.component m

  pub put-fits : (b : ℕ) → is_member b cuts.component.blocks ≡ true → FitsMember board.views all b
  put-fits b m = target-fits setting is board.views board.lists right c within planar seen q cuts all target b (here b m)

  pub put-part : (b : ℕ) → is_member b cuts.component.blocks ≡ true → (member_at all b).part.graph ≡ (view_at board.views b).tree.part.graph
  put-part b m = target-part setting is board.views board.lists right c within planar seen q cuts all target b (here b m)

  pub put-right : (b : ℕ) → is_member b cuts.component.blocks ≡ true → IsInPlane (view_at board.views b)
  put-right b m e p =
      let w = block-embedding setting is (map view_entry board.views) right.each c planar b (here b m) in
      let same : w.0 ≡ e = (let both : Some w.0 ≡ Some e = sym w.1 ∙ entries-at board.views b ∙ p in cc) in
      let tree : tree_at setting.trees b ≡ (view_at board.views b).tree = ap (λ (t : List BlockTree). tree_at t b) seen ∙ trees-at board.views b in (
        subst (λ (t : BlockTree). items.IsBlockTree t.part.graph t.nodes) tree (setting-tree setting is b (block-there setting is c b (here b m))),
        subst (λ (t : BlockTree). IsPlaneSystem t.part.graph e.rotation) tree (subst (λ (x : Embedding). IsPlaneSystem (tree_at setting.trees b).part.graph x.rotation) same w.2),
      )

  pub put-vertices : (i : ℕ) → i < length cuts.component.cuts → slice_index cuts.component.cuts i < length board.lists
  put-vertices i l =
      let m : is_member (slice_index cuts.component.cuts i) (component_at setting c).cuts ≡ true = subst (λ (z : Component). is_member (slice_index cuts.component.cuts i) z.cuts ≡ true) target.component (member-at cuts.component.cuts i 0 l) in
      let cut = member-filter_parts (λ v. slice_index setting.structure.components v == c) setting.structure.cut_vertices (slice_index cuts.component.cuts i) m in
      cut-place setting (length board.lists) (slice_index cuts.component.cuts i) is places cut.0

  -- the state after it
  pub put-state : (after : BoardView) → GoesToWhole board cuts all after → board_state setting after ≡ with_family (board_state setting board) (family_with setting c q (family_of setting (kept_now board)))
  put-state after w =
      let g = w.goes in
      let now : family_of setting (kept_now after) ≡ family_with setting c q (family_of setting (kept_now board)) =
      ap (family_of setting) g.present ∙ kept-whole setting is board.views board.lists right c within planar seen q cuts all target w.kept w.keeps in
      λ i. record { present = now i; earlier = map (family_of setting) (g.earlier i); later = map (family_of setting) (g.later i) }
