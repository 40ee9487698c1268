-- A step that moves blocks of a component and sets lists at its cut vertices leads there, and back.
use Rattle.std.proofs.Common.{◌≡◌, ℕ, ◌<◌, true, List, length, map, slice_index, slice_index_or, Option, None, Some, All, inl, inr, sym, ap, ◌∙◌, subst, arith}
use Rattle.std.proofs.lemmas.Bool.{cases_Bool, both_ways}
use Rattle.std.proofs.lemmas.List.{length-map, ext_get_or}
use Rattle.permutations.specs.Members.{is_member, is_distinct}
use Rattle.permutations.proofs.Arrangements.{member-at}
use Rattle.multigraph.specs.Graph.{Multigraph}
use Rattle.multigraph.specs.Part.{Rises}
use Rattle.multigraph.proofs.Places.{rises-once}
use Rattle.pair_split.specs.Tutte.{Node}
use Rattle.faces.specs.Euler.{IsPlaneSystem}
use Rattle.skeletons.specs.Moves.{Move, moves_between}
use Rattle.embed_moves.specs.Made.{Fits}
use Rattle.undo_log.specs.declared.step.BlockMove.{BlockMove}
use Rattle.undo_log.specs.declared.step.CutChange.{CutChange}
use Rattle.undo_log.specs.declared.step.Step.TheVariants.{Moves}
use Rattle.whole_embed.specs.declared.members.Member.{Member}
use Rattle.whole_embed.specs.Component.{Component, BlockInPlane}
use Rattle.whole_embed.specs.Cuts.{in_plane, member_at, blocks_in}
use Rattle.whole_embed.proofs.Outer.{rises-distinct}
use Rattle.spqr_session.specs.Trees.{BlockTree, tree_at}
use Rattle.spqr_session.specs.State.{Embedding}
use Rattle.spqr_session.specs.Kept.{Kept}
use Rattle.spqr_session.specs.Embedded.{BlockView, view_tree, view_entry, view_at, IsInPlane}
use Rattle.spqr_session.specs.Moved.{all_moved}
use Rattle.spqr_session.specs.History.{entry_moved, as_pairs, pairs_moved, lists_set, list_after, list_before, IsMoveOf}
use Rattle.spqr_session.specs.WholeSteps.{rotation_in, moves_forth, moves_back, pairs_of, changes_below, FitsMember, KeepsWhole, LeadsToWhole}
use Rattle.spqr_session.proofs.Views.{trees-at, entries-at}
use Rattle.spqr_session.proofs.Moved.{between-made}
use Rattle.spqr_session.proofs.VertexLists.{changed-each, changed-there, changed-others, changed-back, AreMovedPairs, pairs-set, pairs-fit}

-- ways between two embeddings of a block
record HasWays (trees : List BlockTree) (entries : List (Option Embedding)) (forth back : List Move) (to : List (List ℕ)) (b : ℕ) : Type 0 where
  within : b < length trees
  embedding : Embedding
  present : slice_index_or entries b None ≡ Some embedding
  forth_fit : All (Fits (tree_at trees b).nodes) forth
  back_fit : All (Fits (tree_at trees b).nodes) back
  leads : all_moved (tree_at trees b).nodes forth embedding.rotation ≡ to
  returns : all_moved (tree_at trees b).nodes back to ≡ embedding.rotation

moved-some : (nodes : List Node) (moves : List Move) (o : Option Embedding) (e : Embedding) (to : List (List ℕ)) → o ≡ Some e → all_moved nodes moves e.rotation ≡ to → entry_moved nodes moves o ≡ Some (record { rotation = to; locks = e.locks })
moved-some nodes moves o e to p q = ap (entry_moved nodes moves) p ∙ (λ i. Some (record { rotation = q i; locks = e.locks }))

-- blocks in the plane with ways between
module _ (views : List BlockView) (all : List Member) (b : ℕ) (fits : FitsMember views all b) (right : IsInPlane (view_at views b)) (plane : IsPlaneSystem (blocks_in all b).part.graph (blocks_in all b).rotation)
    (part : (member_at all b).part.graph ≡ (view_at views b).tree.part.graph) where
  abbrev v : BlockView
  v = view_at views b

  new-is : blocks_in all b ≡ in_plane (member_at all b).part (Some fits.plane)
  new-is = ap (in_plane (member_at all b).part) fits.present

  own : IsPlaneSystem v.tree.part.graph fits.embedding.rotation
  own = (right fits.embedding fits.stands.entry).1

  other : IsPlaneSystem v.tree.part.graph (blocks_in all b).rotation
  other = subst (λ (g : Multigraph). IsPlaneSystem g (blocks_in all b).rotation) (ap (λ (z : BlockInPlane). z.part.graph) new-is ∙ part) plane

  old-is : rotation_in v.entry ≡ fits.embedding.rotation
  old-is = ap rotation_in fits.stands.entry

  has-ways : HasWays (map view_tree views) (map view_entry views) (moves_forth views (blocks_in all) b) (moves_back views (blocks_in all) b) (blocks_in all b).rotation b
  has-ways =
      let t = (right fits.embedding fits.stands.entry).0 in
      let go = between-made v.tree.part.graph v.tree.nodes t fits.embedding.rotation (blocks_in all b).rotation own other in
      let back = between-made v.tree.part.graph v.tree.nodes t (blocks_in all b).rotation fits.embedding.rotation other own in
      record {
        within = omega (arith, fits.stands.within, length-map views view_tree);
        embedding = fits.embedding;
        present = entries-at views b ∙ fits.stands.entry;
        forth_fit = subst (λ (x : BlockTree). All (Fits x.nodes) (moves_forth views (blocks_in all) b)) (sym (trees-at views b)) (subst (λ (r : List (List ℕ)). All (Fits v.tree.nodes) (moves_between v.tree.nodes r (blocks_in all b).rotation)) (sym old-is) go.0);
        back_fit = subst (λ (x : BlockTree). All (Fits x.nodes) (moves_back views (blocks_in all) b)) (sym (trees-at views b)) (subst (λ (r : List (List ℕ)). All (Fits v.tree.nodes) (moves_between v.tree.nodes (blocks_in all b).rotation r)) (sym old-is) back.0);
        leads = subst (λ (x : BlockTree). all_moved x.nodes (moves_forth views (blocks_in all) b) fits.embedding.rotation ≡ (blocks_in all b).rotation) (sym (trees-at views b))
            (subst (λ (r : List (List ℕ)). all_moved v.tree.nodes (moves_between v.tree.nodes r (blocks_in all b).rotation) fits.embedding.rotation ≡ (blocks_in all b).rotation) (sym old-is) go.1);
        returns = subst (λ (x : BlockTree). all_moved x.nodes (moves_back views (blocks_in all) b) (blocks_in all b).rotation ≡ fits.embedding.rotation) (sym (trees-at views b))
            (subst (λ (r : List (List ℕ)). all_moved v.tree.nodes (moves_between v.tree.nodes (blocks_in all b).rotation r) (blocks_in all b).rotation ≡ fits.embedding.rotation) (sym old-is) back.1);
      }

-- the ways of several blocks
module _ (trees : List BlockTree) (entries : List (Option Embedding)) (blocks : List ℕ) (forth back : ℕ → List Move) (to : ℕ → List (List ℕ)) (distinct : is_distinct blocks ≡ true) (same : length entries ≡ length trees)
    (ways : (b : ℕ) → is_member b blocks ≡ true → HasWays trees entries (forth b) (back b) (to b) b) where
  abbrev there : List (Option Embedding)
  there = pairs_moved trees (pairs_of forth blocks) entries

  gone : AreMovedPairs trees forth blocks entries there
  gone = pairs-set trees forth blocks entries distinct (λ b m. let w = ways b m in omega (arith, w.within, same))

  returned : AreMovedPairs trees back blocks there (pairs_moved trees (pairs_of back blocks) there)
  returned = pairs-set trees back blocks there distinct (λ b m. let w = ways b m in omega (arith, w.within, same, gone.each))

  entry-there : (b : ℕ) (m : is_member b blocks ≡ true) → slice_index_or there b None ≡ Some (record { rotation = to b; locks = (ways b m).embedding.locks })
  entry-there b m = let w = ways b m in gone.there b m ∙ moved-some (tree_at trees b).nodes (forth b) (slice_index_or entries b None) w.embedding (to b) w.present w.leads

  all-back : pairs_moved trees (pairs_of back blocks) (pairs_moved trees (pairs_of forth blocks) entries) ≡ entries
  all-back = ext_get_or None (pairs_moved trees (pairs_of back blocks) there) entries (returned.each ∙ gone.each) (λ b l. elim (cases_Bool (is_member b blocks)) [
    | inl m ↦
        let w = ways b m in
        returned.there b m ∙ moved-some (tree_at trees b).nodes (back b) (slice_index_or there b None) (record { rotation = to b; locks = w.embedding.locks }) w.embedding.rotation (entry-there b m) w.returns ∙ sym w.present
    | inr f ↦ returned.others b f ∙ gone.others b f
  ])

  forth-fit : All (IsMoveOf trees) (pairs_of forth blocks)
  forth-fit = pairs-fit trees forth blocks (λ b m. let w = ways b m in (w.within, w.forth_fit))

  back-fit : All (IsMoveOf trees) (pairs_of back blocks)
  back-fit = pairs-fit trees back blocks (λ b m. let w = ways b m in (w.within, w.back_fit))

module _ (k : Component) (views : List BlockView) (lists : List (Option (List ℕ))) (all : List Member) (wanted : ℕ → Option (List ℕ)) (blocks_rise : Rises k.blocks) (cuts_rise : Rises k.cuts)
    (within : (i : ℕ) → i < length k.cuts → slice_index k.cuts i < length lists) (fits : (b : ℕ) → is_member b k.blocks ≡ true → FitsMember views all b)
    (right : (b : ℕ) → is_member b k.blocks ≡ true → IsInPlane (view_at views b)) (plane : (b : ℕ) → is_member b k.blocks ≡ true → IsPlaneSystem (blocks_in all b).part.graph (blocks_in all b).rotation)
    (part : (b : ℕ) → is_member b k.blocks ≡ true → (member_at all b).part.graph ≡ (view_at views b).tree.part.graph) where
  abbrev trees : List BlockTree
  trees = map view_tree views

  abbrev entries : List (Option Embedding)
  entries = map view_entry views

  abbrev forth : ℕ → List Move
  forth = moves_forth views (blocks_in all)

  abbrev back : ℕ → List Move
  back = moves_back views (blocks_in all)

  abbrev to : ℕ → List (List ℕ)
  to b = (blocks_in all b).rotation

  ways : (b : ℕ) → is_member b k.blocks ≡ true → HasWays trees entries (forth b) (back b) (to b) b
  ways b m = has-ways views all b (fits b m) (right b m) (plane b m) (part b m)

  distinct : is_distinct k.blocks ≡ true
  distinct = rises-distinct k.blocks blocks_rise

  same : length entries ≡ length trees
  same = length-map views view_entry ∙ sym (length-map views view_tree)

  once : (i j : ℕ) → i < length k.cuts → j < length k.cuts → slice_index k.cuts i ≡ slice_index k.cuts j → i ≡ j
  once = rises-once k.cuts cuts_rise

  abbrev changes : List CutChange
  changes = changes_below k.cuts lists wanted (length k.cuts)

  abbrev kept : Kept
  kept = record { entries = pairs_moved trees (pairs_of forth k.blocks) entries; lists = lists_set (map list_after changes) lists }

  keeps : KeepsWhole k views lists (blocks_in all) wanted kept
  keeps = record {
    count = (gone trees entries k.blocks forth back to distinct same ways).each ∙ length-map views view_entry;
    entries = λ b e m at.
        let w = ways b m in
        let one : w.embedding ≡ e = (let both : Some w.embedding ≡ Some e = sym w.present ∙ entries-at views b ∙ at.entry in cc) in
        entry-there trees entries k.blocks forth back to distinct same ways b m ∙ ap (λ (x : Embedding). Some (record { rotation = to b; locks = x.locks })) one;
    others = λ b f. (gone trees entries k.blocks forth back to distinct same ways).others b f;
    each = changed-each k.cuts once lists within wanted;
    lists_at = λ i l. changed-there k.cuts once lists within wanted i l;
    elsewhere = λ v f. changed-others k.cuts once lists within wanted v (λ i l e. both_ways (is_member v k.cuts) f (subst (λ z. is_member z k.cuts ≡ true) (sym e) (member-at k.cuts i 0 l)));
  }

  -- the step leads there, and back
  pub whole-leads : (one back_to : List BlockMove) (cuts : List CutChange) → as_pairs one ≡ pairs_of (moves_forth views (blocks_in all)) k.blocks → as_pairs back_to ≡ pairs_of (moves_back views (blocks_in all)) k.blocks
      → cuts ≡ changes_below k.cuts lists wanted (length k.cuts) → LeadsToWhole k views lists (blocks_in all) wanted (Moves one back_to cuts)
  whole-leads one back_to cuts p q c = record {
    kept = kept;
    leads = record {
      is_step = (subst (All (IsMoveOf trees)) (sym p) (forth-fit trees entries k.blocks forth back to distinct same ways), subst (All (IsMoveOf trees)) (sym q) (back-fit trees entries k.blocks forth back to distinct same ways));
      forth = λ i. record { entries = pairs_moved trees (p i) entries; lists = lists_set (map list_after (c i)) lists };
      back = (λ i. record { entries = pairs_moved trees (q i) kept.entries; lists = lists_set (map list_before (c i)) kept.lists })
          ∙ (λ i. record { entries = all-back trees entries k.blocks forth back to distinct same ways i; lists = changed-back k.cuts once lists within wanted i });
    };
    keeps = keeps;
  }
