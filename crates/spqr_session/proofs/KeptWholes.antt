-- What is kept of a component with another rotation system is kept of the family with it.
use Rattle.std.proofs.Common.{◌≡◌, ◌≢◌, ℕ, ◌<◌, true, false, List, [], length, map, slice_index, slice_index_or, slice_set, Option, None, Some, inl, inr, sym, ap, ◌∙◌, subst, arith}
use Rattle.std.specs.Prelude.{if◌then◌else◌}
use Rattle.std.proofs.Math.Path.{fun_ext}
use Rattle.std.proofs.lemmas.Bool.{cases_Bool, cases_eq, cond-true, cond-false, false_from_ne_true}
use Rattle.std.proofs.lemmas.List.{length-map, length-set, ext_get_or, get_or-set_same, get_or-set_other}
use Rattle.permutations.specs.Members.{is_member}
use Rattle.permutations.proofs.Arrangements.{member-at}
use Rattle.multigraph.specs.Graph.{numbers_below}
use Rattle.multigraph.specs.Part.{GraphPart}
use Rattle.multigraph.proofs.Below.{length-numbers_below}
use Rattle.arrangements.specs.Arranged.{same_list, first_arrangement}
use Rattle.arrangements.proofs.Lists.{same-equal}
use Rattle.whole_embed.specs.declared.members.Member.{Member}
use Rattle.whole_embed.specs.Component.{Component, BlockInPlane}
use Rattle.whole_embed.specs.Around.{outer_at, edges_around, block_with, block_order}
use Rattle.whole_embed.specs.Cuts.{in_plane, member_at, blocks_in, CutState, HavePlanes}
use Rattle.whole_embed.specs.Whole.{block_part}
use Rattle.whole_embed.specs.Walk.{KeepsBlocks, first_around}
use Rattle.whole_embed.proofs.Components.{vertex-in, cut-in}
use Rattle.whole_embed.proofs.FrameFacts.{plane-part}
use Rattle.whole_convert.specs.Between.{blocks_to}
use Rattle.spqr_session.specs.Trees.{BlockTree, tree_at}
use Rattle.spqr_session.specs.Setting.{Setting, IsSetting}
use Rattle.spqr_session.specs.State.{Embedding, Family, component_at, is_planar_component, block_with_entry, blocks_with, IsFamily}
use Rattle.spqr_session.specs.Kept.{Kept, list_or_first, lists_kept, arrangements_kept, family_of}
use Rattle.spqr_session.specs.Embedded.{BlockView, view_tree, view_entry, view_at}
use Rattle.spqr_session.specs.Components.{entry_with, entries_with, family_with}
use Rattle.spqr_session.specs.Board.{StandsAt, kept_on}
use Rattle.spqr_session.specs.WholeSteps.{list_kept, FitsMember, KeepsWhole, wanted_for, IsWholeTarget}
use Rattle.spqr_session.proofs.Views.{trees-at, entries-at}
use Rattle.spqr_session.proofs.ComponentParts.{entry-part, block-there, block-embedding, kept-arrangements, kept-lists}
use Rattle.spqr_session.proofs.KeptLists.{kept-count, kept-at, kept-is}
use Rattle.spqr_session.proofs.WholeFamilies.{turned, entry-in, entry-out, blocks-are, orders-other}

-- what is kept of a list, or the first arrangement, is the list
pub kept-list : (first l : List ℕ) → list_or_first (list_kept first l) first ≡ l
kept-list first l = elim (cases_Bool (same_list l first)) [
  | inl t ↦ ap (λ (o : Option (List ℕ)). list_or_first o first) (cond-true (same_list l first) None (Some l) t) ∙ sym (same-equal l first t)
  | inr f ↦ ap (λ (o : Option (List ℕ)). list_or_first o first) (cond-false (same_list l first) None (Some l) f)
]

-- first arrangements depend on the orders of the blocks alone
first-along : (k : Component) (block new : ℕ → BlockInPlane) (i : ℕ) → block_order block (slice_index k.cuts i) ≡ block_order new (slice_index k.cuts i) → first_around k block i ≡ first_around k new i
first-along k block new i e = ap (λ (o : ℕ → List ℕ). first_arrangement (block_with k) o (edges_around k (slice_index k.cuts i))) e

module _ (setting : Setting) (is : IsSetting setting) (views : List BlockView) (lists : List (Option (List ℕ))) (right : IsFamily setting (family_of setting (kept_on views lists))) (c : ℕ)
    (within : c < setting.structure.component_count) (planar : is_planar_component setting c ≡ true) (seen : setting.trees ≡ map view_tree views) (q : List (List ℕ)) (cuts : CutState) (all : List Member)
    (target : IsWholeTarget setting c (family_of setting (kept_on views lists)) q cuts all) where
  abbrev k : Component
  k = component_at setting c

  abbrev entries : List (Option Embedding)
  entries = map view_entry views

  abbrev block : ℕ → BlockInPlane
  block = blocks_with setting.trees entries

  abbrev changed : List (Option Embedding)
  changed = entries_with k setting.trees q entries

  -- a block of the component with its embedding
  record Stands (b : ℕ) : Type 0 where
    embedding : Embedding
    stands : StandsAt views b embedding
    entry : slice_index_or entries b None ≡ Some embedding
    nodes : (block b).nodes ≡ (tree_at setting.trees b).nodes
    locks : (block b).locks ≡ embedding.locks

  stands-at : (b : ℕ) → is_member b k.blocks ≡ true → Stands b
  stands-at b m =
      let e = block-embedding setting is entries right.each c planar b m in
      let there : b < length setting.trees = block-there setting is c b m in
      record {
        embedding = e.0;
        stands = record { within = omega (arith, there, ap (λ (t : List BlockTree). length t) seen, length-map views view_tree); entry = sym (entries-at views b) ∙ e.1 };
        entry = e.1;
        nodes = ap (λ (o : Option Embedding). (block_with_entry (tree_at setting.trees b) o).nodes) e.1;
        locks = ap (λ (o : Option Embedding). (block_with_entry (tree_at setting.trees b) o).locks) e.1;
      }

  to-is : (b : ℕ) → is_member b k.blocks ≡ true → blocks_in all b ≡ turned k q (block b)
  to-is b m = ap (λ (z : ℕ → BlockInPlane). z b) target.blocks ∙ cond-true (is_member b k.blocks) (turned k q (block b)) (block b) m

  part-is : (b : ℕ) → (block b).part ≡ (tree_at setting.trees b).part
  part-is b = entry-part (tree_at setting.trees b) (slice_index_or entries b None)

  tree-is : (b : ℕ) → tree_at setting.trees b ≡ (view_at views b).tree
  tree-is b = ap (λ (t : List BlockTree). tree_at t b) seen ∙ trees-at views b

  -- the members can take the places of the blocks
  pub target-part : (b : ℕ) → is_member b (component_at setting c).blocks ≡ true → (member_at all b).part.graph ≡ (view_at views b).tree.part.graph
  target-part b m = ap (λ (p : GraphPart). p.graph) (sym (plane-part (member_at all b).part (member_at all b).plane) ∙ ap (λ (z : BlockInPlane). z.part) (to-is b m) ∙ part-is b ∙ ap (λ (t : BlockTree). t.part) (tree-is b))

  pub target-fits : (b : ℕ) → is_member b (component_at setting c).blocks ≡ true → FitsMember views all b
  target-fits b m =
      let w = stands-at b m in
      let p = target.planes.plane b (subst (λ (z : Component). is_member b z.blocks ≡ true) (sym target.component) m) in
      let now : in_plane (member_at all b).part (Some p.0) ≡ turned k q (block b) = ap (in_plane (member_at all b).part) (sym p.1) ∙ to-is b m in
      record {
        embedding = w.embedding;
        stands = w.stands;
        plane = p.0;
        present = p.1;
        graph = p.2 ∙ target-part b m;
        tree = ap (λ (z : BlockInPlane). z.nodes) now ∙ w.nodes ∙ ap (λ (t : BlockTree). t.nodes) (tree-is b);
        locks = ap (λ (z : BlockInPlane). z.locks) now ∙ w.locks;
      }

  module _ (kept : Kept) (keeps : KeepsWhole cuts.component views lists (blocks_in all) (wanted_for cuts all) kept) where
    among : (b : ℕ) → is_member b k.blocks ≡ true → is_member b cuts.component.blocks ≡ true
    among b m = subst (λ (z : Component). is_member b z.blocks ≡ true) (sym target.component) m

    entries-are : kept.entries ≡ changed
    entries-are = ext_get_or None kept.entries changed (keeps.count ∙ sym (length-map views view_entry) ∙ sym (long entries)) (λ b l. elim (cases_Bool (is_member b k.blocks)) [
      | inl m ↦
          let w = stands-at b m in
          keeps.entries b w.embedding (among b m) w.stands
          ∙ (λ i. Some (record { rotation = (rotation b m) i; locks = w.embedding.locks }))
          ∙ sym (entry-in setting is entries right.one_each right.each c within planar q target.member b m ∙ ap (entry_with k (tree_at setting.trees b).part q) w.entry)
      | inr f ↦ keeps.others b (subst (λ (z : Component). is_member b z.blocks ≡ false) (sym target.component) f) ∙ sym (entry-out setting is entries right.one_each right.each c within planar q target.member b f)
    ])
      where
        long : (es : List (Option Embedding)) → length (entries_with k setting.trees q es) ≡ length es
        long es = length-map (numbers_below (length es)) (λ b. (if is_member b k.blocks then entry_with k (tree_at setting.trees b).part q (slice_index_or es b None) else slice_index_or es b None)) ∙ length-numbers_below (length es)

        rotation : (b : ℕ) → is_member b k.blocks ≡ true → (blocks_in all b).rotation ≡ block_part k (tree_at setting.trees b).part q
        rotation b m = ap (λ (z : BlockInPlane). z.rotation) (to-is b m) ∙ ap (λ (p : GraphPart). block_part k p q) (part-is b)

    -- the blocks are those of the target
    blocks-now : blocks_with setting.trees kept.entries ≡ blocks_in all
    blocks-now = ap (blocks_with setting.trees) entries-are ∙ blocks-are setting is entries right.one_each right.each c within planar q target.member ∙ sym target.blocks

    -- the lists of the component
    lists-here : lists_kept k (blocks_with setting.trees kept.entries) kept.lists ≡ map (outer_at k.part q) k.cuts
    lists-here = sym (kept-is k (blocks_with setting.trees kept.entries) kept.lists (map (outer_at k.part q) k.cuts) (length-map k.cuts (outer_at k.part q)) (λ i l.
        sym (kept-list (first_around k (blocks_with setting.trees kept.entries) i) (slice_index_or (map (outer_at k.part q) k.cuts) i []))
        ∙ ap (λ (o : Option (List ℕ)). list_or_first o (first_around k (blocks_with setting.trees kept.entries) i)) (sym (at i l))))
      where
        at : (i : ℕ) → i < length k.cuts → slice_index_or kept.lists (slice_index k.cuts i) None ≡ list_kept (first_around k (blocks_with setting.trees kept.entries) i) (slice_index_or (map (outer_at k.part q) k.cuts) i [])
        at i l =
            subst (λ (z : Component). i < length z.cuts → slice_index_or kept.lists (slice_index z.cuts i) None ≡ list_kept (first_around z (blocks_in all) i) (slice_index_or cuts.lists i [])) target.component (λ h. keeps.lists_at i h) l
            ∙ ap (λ (z : List (List ℕ)). list_kept (first_around k (blocks_in all) i) (slice_index_or z i [])) target.lists
            ∙ ap (λ (z : ℕ → BlockInPlane). list_kept (first_around k z i) (slice_index_or (map (outer_at k.part q) k.cuts) i [])) (sym blocks-now)

    -- those of another one
    lists-there : (d : ℕ) → d ≢ c → lists_kept (component_at setting d) (blocks_with setting.trees kept.entries) kept.lists ≡ lists_kept (component_at setting d) block lists
    lists-there d n = kept-is (component_at setting d) block lists (lists_kept (component_at setting d) (blocks_with setting.trees kept.entries) kept.lists) (kept-count (component_at setting d) (blocks_with setting.trees kept.entries) kept.lists) (λ i l.
        let v = slice_index (component_at setting d).cuts i in
        let here = vertex-in setting.named.graph setting.structure d is.structure v (cut-in setting.named.graph setting.structure d is.structure v (member-at (component_at setting d).cuts i 0 l)) in
        let out : is_member v k.cuts ≡ false = false_from_ne_true (is_member v k.cuts) (λ t. n (sym here.1 ∙ (vertex-in setting.named.graph setting.structure c is.structure v (cut-in setting.named.graph setting.structure c is.structure v t)).1)) in
        kept-at (component_at setting d) (blocks_with setting.trees kept.entries) kept.lists i l
        ∙ ap (λ (o : Option (List ℕ)). list_or_first o (first_around (component_at setting d) (blocks_with setting.trees kept.entries) i)) (keeps.elsewhere v (subst (λ (z : Component). is_member v z.cuts ≡ false) (sym target.component) out))
        ∙ ap (λ (z : List ℕ). list_or_first (slice_index_or lists v None) z)
        (ap (λ (es : List (Option Embedding)). first_around (component_at setting d) (blocks_with setting.trees es) i) entries-are
        ∙ sym (first-along (component_at setting d) block (blocks_with setting.trees changed) i (orders-other setting is entries right.one_each right.each c within planar q target.member d i n l))))

    abbrev before : Family
    before = family_of setting (kept_on views lists)

    abbrev n : ℕ
    n = setting.structure.component_count

    arrangements-are : (family_of setting kept).arrangements ≡ slice_set before.arrangements c (Some (map (outer_at k.part q) k.cuts))
    arrangements-are = ext_get_or None (family_of setting kept).arrangements (slice_set before.arrangements c (Some (map (outer_at k.part q) k.cuts)))
        (many kept ∙ sym (many (kept_on views lists)) ∙ sym (length-set before.arrangements c (Some (map (outer_at k.part q) k.cuts)))) (λ d l. elim (cases_eq d c) [
          | inl e ↦ subst (λ z. slice_index_or (family_of setting kept).arrangements z None ≡ slice_index_or (slice_set before.arrangements c (Some (map (outer_at k.part q) k.cuts))) z None) (sym e) here
          | inr o ↦ (let below : d < n = omega (arith, l, many kept) in
              kept-arrangements setting kept d below
              ∙ ap (λ (z : List (List ℕ)). (if is_planar_component setting d then Some z else None)) (lists-there d o)
              ∙ sym (get_or-set_other before.arrangements c d (Some (map (outer_at k.part q) k.cuts)) None o ∙ kept-arrangements setting (kept_on views lists) d below))
        ])
      where
        many : (x : Kept) → length (family_of setting x).arrangements ≡ n
        many x = length-map (numbers_below n) (arrangements_kept setting x) ∙ length-numbers_below n

        here : slice_index_or (family_of setting kept).arrangements c None ≡ slice_index_or (slice_set before.arrangements c (Some (map (outer_at k.part q) k.cuts))) c None
        here = kept-lists setting kept c within planar ∙ ap (λ (z : List (List ℕ)). Some z) lists-here
            ∙ sym (get_or-set_same before.arrangements c (Some (map (outer_at k.part q) k.cuts)) None (omega (arith, within, many (kept_on views lists))))

    pub kept-whole : family_of setting kept ≡ family_with setting c q (family_of setting (kept_on views lists))
    kept-whole i = record { entries = entries-are i; arrangements = arrangements-are i }

-- ---- the next member of a component's list

-- blocks that keep all but their rotation systems are those with their parts
pub walked-blocks : (k : Component) (old new : List Member) (q : List (List ℕ)) → HavePlanes k old → KeepsBlocks k old new → ((b : ℕ) → is_member b k.blocks ≡ true → block_part k (blocks_in new b).part q ≡ (blocks_in new b).rotation)
    → blocks_in new ≡ blocks_to k (blocks_in old) q
walked-blocks k old new q have keeps parts = fun_ext (λ b. elim (cases_Bool (is_member b k.blocks)) [
  | inl m ↦ at b m ∙ sym (cond-true (is_member b k.blocks) (turned k q (blocks_in old b)) (blocks_in old b) m)
  | inr f ↦ ap (λ (x : Member). in_plane x.part x.plane) (keeps.others b f) ∙ sym (cond-false (is_member b k.blocks) (turned k q (blocks_in old b)) (blocks_in old b) f)
])
  where
    at : (b : ℕ) → is_member b k.blocks ≡ true → blocks_in new b ≡ turned k q (blocks_in old b)
    at b m =
        let p = have.plane b m in
        let r = keeps.rest b p.0 m p.1 in
        let first : blocks_in new b ≡ in_plane (member_at new b).part (Some r.0) = ap (in_plane (member_at new b).part) r.1 in
        let last : blocks_in old b ≡ in_plane (member_at old b).part (Some p.0) = ap (in_plane (member_at old b).part) p.1 in
        let part : (blocks_in new b).part ≡ (blocks_in old b).part = plane-part (member_at new b).part (member_at new b).plane ∙ keeps.parts b ∙ sym (plane-part (member_at old b).part (member_at old b).plane) in
        let nodes : (blocks_in new b).nodes ≡ (blocks_in old b).nodes = ap (λ (z : BlockInPlane). z.nodes) first ∙ r.2.tree ∙ sym (ap (λ (z : BlockInPlane). z.nodes) last) in
        let locks : (blocks_in new b).locks ≡ (blocks_in old b).locks = ap (λ (z : BlockInPlane). z.locks) first ∙ r.2.locks ∙ sym (ap (λ (z : BlockInPlane). z.locks) last) in
        let rotation : (blocks_in new b).rotation ≡ block_part k (blocks_in old b).part q = sym (parts b m) ∙ ap (λ (z : GraphPart). block_part k z q) part in
        λ i. record { part = part i; nodes = nodes i; rotation = rotation i; locks = locks i }
