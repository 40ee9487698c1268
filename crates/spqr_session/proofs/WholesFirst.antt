-- What the loops of a step over a component do: first arrangements, changes and moves, one more.
use Rattle.std.proofs.Common.{◌≡◌, ℕ, zero, suc, ◌+◌, ◌<◌, inl, inr, true, List, [], ◌∷◌, ◌++◌, length, map, slice_index, slice_index_or, slice_set, Option, None, Some, refl, sym, ap, ◌∙◌, subst, arith, append-nil}
use Rattle.std.proofs.lemmas.Bool.{cases_eq}
use Rattle.std.proofs.lemmas.Grind.{flat_map-append}
use Rattle.std.proofs.lemmas.List.{get_or_default, length-set, get_or-set_same, get_or-set_other}
use Rattle.permutations.specs.Members.{is_member}
use Rattle.faces.specs.Euler.{IsPlaneSystem}
use Rattle.skeletons.specs.Moves.{Move, moves_between}
use Rattle.skel_embed.specs.Block.{BlockState}
use Rattle.skel_embed.specs.declared.planes.Outcome.{Outcome}
use Rattle.skel_embed.specs.declared.planes.Outcome.TheVariants.{Plane}
use Rattle.undo_log.specs.declared.step.BlockMove.{BlockMove}
use Rattle.undo_log.specs.declared.step.CutChange.{CutChange}
use Rattle.undo_log.specs.declared.step.Step.TheVariants.{Moves}
use Rattle.whole_embed.specs.declared.members.Member.{Member}
use Rattle.whole_embed.specs.Component.{Component, BlockInPlane, IsComponentInPlane}
use Rattle.whole_embed.specs.Cuts.{CutState, no_part, in_plane, member_at, blocks_in}
use Rattle.whole_embed.proofs.Assembly.{assembled}
use Rattle.whole_embed.specs.Walk.{first_around}
use Rattle.spqr_session.specs.Embedded.{BlockView, view_at, block_view, IsInPlane}
use Rattle.spqr_session.specs.History.{as_pairs}
use Rattle.spqr_session.specs.WholeSteps.{rotation_in, moves_forth, moves_back, pairs_of, list_kept, change_kept, changes_below, wanted_in, FitsMember, LeadsToWhole, wanted_for}
use Rattle.spqr_session.proofs.WholeSteps.{whole-leads}

-- ---- first arrangements

-- the first n lists are first arrangements, and the component is as it was
pub record AreFirstSet (old : CutState) (block : ℕ → BlockInPlane) (new : CutState) (n : ℕ) : Type 0 where
  pub component : new.component ≡ old.component
  pub count : length new.lists ≡ length old.lists
  pub done : (j : ℕ) → j < n → slice_index_or new.lists j [] ≡ first_around old.component block j

pub first-more : (old now new : CutState) (block : ℕ → BlockInPlane) (i : ℕ) → length old.lists ≡ length old.component.cuts → i < length old.component.cuts → AreFirstSet old block now i
    → new ≡ record now { lists = slice_set now.lists i (first_around now.component block i) } → AreFirstSet old block new (i + 1)
first-more old now new block i long l h e = record {
  component = ap (λ (z : CutState). z.component) e ∙ h.component;
  count = ap (λ (z : CutState). length z.lists) e ∙ length-set now.lists i (first_around now.component block i) ∙ h.count;
  done = λ j b. ap (λ (z : CutState). slice_index_or z.lists j []) e ∙ elim (cases_eq j i) [
    | inl q ↦ subst (λ z. slice_index_or (slice_set now.lists i (first_around now.component block i)) z [] ≡ first_around old.component block z) (sym q)
        (get_or-set_same now.lists i (first_around now.component block i) [] (omega (arith, l, long, h.count)) ∙ ap (λ (z : Component). first_around z block i) h.component)
    | inr n ↦ get_or-set_other now.lists i j (first_around now.component block i) [] n ∙ h.done j (omega (arith, b, n))
  ];
}

-- ---- changes

-- ---- moves

pub pairs-more : (moves : ℕ → List Move) (front : List ℕ) (b : ℕ) (old new : List (ℕ × Move)) → old ≡ pairs_of moves front → new ≡ old ++ map (λ (m : Move). (b, m)) (moves b) → new ≡ pairs_of moves (front ++ b ∷ [])
pairs-more moves front b old new h e =
    e ∙ ap (λ (z : List (ℕ × Move)). z ++ map (λ (m : Move). (b, m)) (moves b)) h
    ∙ ap (λ (z : List (ℕ × Move)). pairs_of moves front ++ z) (sym (append-nil (map (λ (m : Move). (b, m)) (moves b))))
    ∙ sym (flat_map-append (λ x. map (λ (m : Move). (x, m)) (moves x)) front (b ∷ []))

-- a member that was read
pub member-read : (all : List Member) (b : ℕ) (m : Member) → b < length all → m ≡ slice_index_or all b m → m ≡ member_at all b
member-read all b m l e = e ∙ get_or_default all b m (record { part = no_part; plane = None }) l

module _ (views : List BlockView) (all : List Member) (b : ℕ) (v : BlockView) (o : Outcome) (old new : BlockState) (m : Member) (at : v ≡ view_at views b) (view : block_view v.tree.part o ≡ v) (plane : o ≡ Plane old) (read : m ≡ member_at all b) (present : m.plane ≡ Some new) where
  seen : block_view v.tree.part (Plane old) ≡ view_at views b
  seen = ap (block_view v.tree.part) (sym plane) ∙ view ∙ at

  tree-is : old.tree ≡ (view_at views b).tree.nodes
  tree-is = ap (λ (x : BlockView). x.tree.nodes) seen

  old-is : old.rotation ≡ rotation_in (view_at views b).entry
  old-is = ap (λ (x : BlockView). rotation_in x.entry) seen

  new-is : new.rotation ≡ (blocks_in all b).rotation
  new-is = ap (λ (x : Option BlockState). (in_plane m.part x).rotation) (sym present) ∙ ap (λ (x : Member). (in_plane x.part x.plane).rotation) read

  pub forth-is : moves_between old.tree old.rotation new.rotation ≡ moves_forth views (blocks_in all) b
  forth-is i = moves_between (tree-is i) (old-is i) (new-is i)

  -- and back, where the new block fits there
  pub back-is : FitsMember views all b → moves_between new.tree new.rotation old.rotation ≡ moves_back views (blocks_in all) b
  back-is fits =
      let one : new ≡ fits.plane = (let both : Some new ≡ Some fits.plane = sym present ∙ ap (λ (x : Member). x.plane) read ∙ fits.present in cc) in
      let same : new.tree ≡ (view_at views b).tree.nodes = ap (λ (x : BlockState). x.tree) one ∙ fits.tree in
      λ i. moves_between (same i) (new-is i) (old-is i)

-- ---- the step

changes-same : (vertices : List ℕ) (lists : List (Option (List ℕ))) (a b : ℕ → Option (List ℕ)) (n : ℕ) → ((i : ℕ) → i < n → a i ≡ b i) → changes_below vertices lists a n ≡ changes_below vertices lists b n
changes-same vertices lists a b zero h = refl
changes-same vertices lists a b (suc n) h = λ i. changes-same vertices lists a b n (λ j l. h j (omega (arith, l))) i ++ change_kept (slice_index vertices n) (slice_index_or lists (slice_index vertices n) None) (h n (omega arith) i)

pub step-leads : (views : List BlockView) (lists : List (Option (List ℕ))) (all : List Member) (cuts first : CutState) (forth back : List BlockMove) (changes : List CutChange) → IsComponentInPlane cuts.component (blocks_in all)
    → ((i : ℕ) → i < length cuts.component.cuts → slice_index cuts.component.cuts i < length lists) → ((b : ℕ) → is_member b cuts.component.blocks ≡ true → FitsMember views all b)
    → ((b : ℕ) → is_member b cuts.component.blocks ≡ true → IsInPlane (view_at views b)) → ((b : ℕ) → is_member b cuts.component.blocks ≡ true → (member_at all b).part.graph ≡ (view_at views b).tree.part.graph)
    → ((i : ℕ) → i < length cuts.component.cuts → slice_index_or first.lists i [] ≡ first_around cuts.component (blocks_in all) i)
    → as_pairs forth ≡ pairs_of (moves_forth views (blocks_in all)) cuts.component.blocks → as_pairs back ≡ pairs_of (moves_back views (blocks_in all)) cuts.component.blocks
    → changes ≡ changes_below cuts.component.cuts lists (wanted_in first cuts) (length cuts.component.cuts) → LeadsToWhole cuts.component views lists (blocks_in all) (wanted_for cuts all) (Moves forth back changes)
step-leads views lists all cuts first forth back changes is vertices fits right parts firsts p q c =
    let made = assembled cuts.component (blocks_in all) is in
    whole-leads cuts.component views lists all (wanted_for cuts all) made.blocks_rise made.cuts_rise vertices fits right plane parts forth back changes p q
    (c ∙ changes-same cuts.component.cuts lists (wanted_in first cuts) (wanted_for cuts all) (length cuts.component.cuts) (λ i l. ap (λ (z : List ℕ). list_kept z (slice_index_or cuts.lists i [])) (firsts i l)))
  where
    plane : (b : ℕ) → is_member b cuts.component.blocks ≡ true → IsPlaneSystem (blocks_in all b).part.graph (blocks_in all b).rotation
    plane b m = is.blocks.planes b (subst (λ (z : Component). is_member b z.blocks ≡ true) is.component m)
