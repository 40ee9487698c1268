-- The family in which a component has another rotation system of its list: it is right, and other components are as they were.
use Rattle.std.proofs.Common.{◌≡◌, ◌≢◌, ℕ, ◌<◌, Contains, Bool, true, false, if◌then◌else◌, List, [], length, map, slice_index, slice_index_or, Option, None, Some, inl, inr, refl, sym, ap, ◌∙◌, subst, arith}
use Rattle.std.proofs.Math.Path.{fun_ext}
use Rattle.std.proofs.lemmas.Bool.{cases_Bool, cases_eq, cases_lt, both_ways, cond-true, cond-false, false_from_ne_true}
use Rattle.std.proofs.lemmas.List.{get_or-map, length-map, length-set, get_or-set_same, get_or-set_other, get_or_past}
use Rattle.permutations.specs.Members.{is_member}
use Rattle.permutations.proofs.Arrangements.{member-at}
use Rattle.kuratowski.specs.declared.subdivision.Subdivision.{Subdivision}
use Rattle.multigraph.specs.Graph.{numbers_below}
use Rattle.multigraph.proofs.Below.{length-numbers_below, get_or-numbers_below}
use Rattle.faces.specs.Euler.{IsPlaneSystem}
use Rattle.arrangements.specs.Arranged.{arrangements_at}
use Rattle.whole_embed.specs.Component.{Component, BlockInPlane, IsComponentInPlane}
use Rattle.whole_embed.specs.Around.{outer_at, edges_around, block_with, block_order}
use Rattle.whole_embed.specs.Whole.{AreArranged, block_part, IsWholeMember}
use Rattle.whole_embed.proofs.Components.{vertex-in, cut-in}
use Rattle.whole_embed.proofs.Moved.{IsMovedBlock, AreMoved}
use Rattle.whole_embed.proofs.OfParts.{orders-arranged}
use Rattle.whole_convert.specs.Between.{blocks_to}
use Rattle.whole_convert.proofs.PartOf.{parts-plane}
use Rattle.whole_convert.proofs.Stages.{round-outside}
use Rattle.spqr_session.specs.Trees.{BlockTree, tree_at}
use Rattle.spqr_session.specs.Certificates.{certificate_at}
use Rattle.spqr_session.specs.Setting.{Setting, IsSetting}
use Rattle.spqr_session.specs.State.{Embedding, Family, arrangements_in, IsEntry, component_at, is_planar_component, block_with_entry, blocks_with, AreArrangements, IsFamily}
use Rattle.spqr_session.specs.Components.{blocks_of, entry_with, entries_with, family_with}
use Rattle.spqr_session.proofs.ComponentParts.{block-there, block-embedding, component-in_plane}

-- a block with its part of q
abbrev pub turned : Component → List (List ℕ) → BlockInPlane → BlockInPlane
turned k q a = record { part = a.part; nodes = a.nodes; rotation = block_part k a.part q; locks = a.locks }

entry-turned : (k : Component) (tree : BlockTree) (q : List (List ℕ)) (o : Option Embedding) (e : Embedding) → o ≡ Some e → block_with_entry tree (entry_with k tree.part q o) ≡ turned k q (block_with_entry tree o)
entry-turned k tree q o e p = subst (λ (z : Option Embedding). block_with_entry tree (entry_with k tree.part q z) ≡ turned k q (block_with_entry tree z)) (sym p) refl

-- arrangements for other blocks with the same orders
lists-along : (k : Component) (block new : ℕ → BlockInPlane) (lists : List (List ℕ)) → ((i : ℕ) → i < length k.cuts → block_order block (slice_index k.cuts i) ≡ block_order new (slice_index k.cuts i)) → AreArranged k block lists → AreArranged k new lists
lists-along k block new lists same a = record {
  one_each = a.one_each;
  each = λ i l. subst (λ (o : ℕ → List ℕ). Contains (arrangements_at (block_with k) o (edges_around k (slice_index k.cuts i))) (slice_index_or lists i [])) (same i l) (a.each i l);
}

arranged-along : (k : Component) (block new : ℕ → BlockInPlane) (planar : Bool) (found : Option (List (List ℕ))) → ((i : ℕ) → i < length k.cuts → block_order block (slice_index k.cuts i) ≡ block_order new (slice_index k.cuts i))
    → AreArrangements k block planar found → AreArrangements k new planar found
arranged-along k block new true None same a = a
arranged-along k block new true (Some lists) same a = lists-along k block new lists same a
arranged-along k block new false None same a = a
arranged-along k block new false (Some lists) same a = a

module _ (setting : Setting) (is : IsSetting setting) (entries : List (Option Embedding)) (one_each : length entries ≡ length setting.trees)
    (each : (b : ℕ) → b < length setting.trees → IsEntry (tree_at setting.trees b) (certificate_at setting.certificates b) (slice_index_or entries b None)) (c : ℕ) (within : c < setting.structure.component_count)
    (planar : is_planar_component setting c ≡ true) (q : List (List ℕ)) (member : IsWholeMember (component_at setting c) (blocks_with setting.trees entries) q) where
  abbrev k : Component
  k = component_at setting c

  abbrev block : ℕ → BlockInPlane
  block = blocks_with setting.trees entries

  abbrev to : ℕ → BlockInPlane
  to = blocks_to k block q

  abbrev changed : List (Option Embedding)
  changed = entries_with k setting.trees q entries

  -- the entries
  entry-at : (b : ℕ) → b < length entries → slice_index_or changed b None ≡ (if is_member b k.blocks then entry_with k (tree_at setting.trees b).part q (slice_index_or entries b None) else slice_index_or entries b None)
  entry-at b l =
      let f : ℕ → Option Embedding = λ b. (if is_member b k.blocks then entry_with k (tree_at setting.trees b).part q (slice_index_or entries b None) else slice_index_or entries b None) in
      get_or-map f (numbers_below (length entries)) b 0 None (omega (arith, l, length-numbers_below (length entries))) ∙ ap f (get_or-numbers_below (length entries) b 0 l)

  pub entry-in : (b : ℕ) → is_member b (component_at setting c).blocks ≡ true → slice_index_or (entries_with (component_at setting c) setting.trees q entries) b None ≡ entry_with (component_at setting c) (tree_at setting.trees b).part q (slice_index_or entries b None)
  entry-in b m = entry-at b (omega (arith, block-there setting is c b m, one_each)) ∙ cond-true (is_member b k.blocks) (entry_with k (tree_at setting.trees b).part q (slice_index_or entries b None)) (slice_index_or entries b None) m

  pub entry-out : (b : ℕ) → is_member b (component_at setting c).blocks ≡ false → slice_index_or (entries_with (component_at setting c) setting.trees q entries) b None ≡ slice_index_or entries b None
  entry-out b m = elim (cases_lt b (length entries)) [
    | inl l ↦ entry-at b l ∙ cond-false (is_member b k.blocks) (entry_with k (tree_at setting.trees b).part q (slice_index_or entries b None)) (slice_index_or entries b None) m
    | inr n ↦ get_or_past changed b None (omega (arith, n, length-map (numbers_below (length entries)) (λ b. (if is_member b k.blocks then entry_with k (tree_at setting.trees b).part q (slice_index_or entries b None) else slice_index_or entries b None)), length-numbers_below (length entries)))
        ∙ sym (get_or_past entries b None (omega (arith, n)))
  ]

  -- the blocks are those with their parts
  pub blocks-are : blocks_with setting.trees (entries_with (component_at setting c) setting.trees q entries) ≡ blocks_to (component_at setting c) (blocks_with setting.trees entries) q
  blocks-are = fun_ext (λ b. elim (cases_Bool (is_member b k.blocks)) [
    | inl m ↦
        let e = block-embedding setting is entries each c planar b m in
        ap (block_with_entry (tree_at setting.trees b)) (entry-in b m)
        ∙ at-part b e.0 e.1
        ∙ sym (cond-true (is_member b k.blocks) (turned k q (block b)) (block b) m)
    | inr n ↦ ap (block_with_entry (tree_at setting.trees b)) (entry-out b n) ∙ sym (cond-false (is_member b k.blocks) (turned k q (block b)) (block b) n)
  ])
    where
      at-part : (b : ℕ) (e : Embedding) → slice_index_or entries b None ≡ Some e → block_with_entry (tree_at setting.trees b) (entry_with k (tree_at setting.trees b).part q (slice_index_or entries b None)) ≡ turned k q (block b)
      at-part b e p = entry-turned k (tree_at setting.trees b) q (slice_index_or entries b None) e p

  in-plane : IsComponentInPlane k block
  in-plane = component-in_plane setting is entries each c planar within

  to-is : (b : ℕ) → is_member b k.blocks ≡ true → to b ≡ turned k q (block b)
  to-is b m = cond-true (is_member b k.blocks) (turned k q (block b)) (block b) m

  moved : AreMoved k block to
  moved b m = subst (IsMovedBlock (block b)) (sym (to-is b m)) (let w = member.kept b m in record { part = refl; nodes = refl; locks = refl; plane = w.plane; keeps = w.keeps })

  -- the orders around its cut vertices are arrangements for the new blocks
  pub with-arranged : AreArranged (component_at setting c) (blocks_with setting.trees (entries_with (component_at setting c) setting.trees q entries)) (map (outer_at (component_at setting c).part q) (component_at setting c).cuts)
  with-arranged = subst (λ (z : ℕ → BlockInPlane). AreArranged k z (map (outer_at k.part q) k.cuts)) (sym blocks-are)
      (orders-arranged k block to in-plane moved q member (λ b m. subst (λ (z : BlockInPlane). block_part k z.part q ≡ z.rotation) (sym (to-is b m)) refl))

  -- around what is not a vertex of the component nothing changes
  orders-outside : (v : ℕ) → is_member v k.part.vertices ≡ false → block_order block v ≡ block_order to v
  orders-outside v f = fun_ext (λ b. elim (cases_Bool (is_member b k.blocks)) [
    | inl m ↦
        let p = parts-plane k block in-plane q member.plane b m in
        let out : is_member v (block b).part.vertices ≡ false = false_from_ne_true (is_member v (block b).part.vertices) (λ t. both_ways (is_member v k.part.vertices) f (p.vertices v t)) in
        round-outside (block b).part (block b).rotation v p.numbered (own b m).system out
        ∙ (sym (round-outside (block b).part (block_part k (block b).part q) v p.numbered p.plane.system out)
        ∙ sym (ap (λ (z : BlockInPlane). outer_at z.part z.rotation v) (to-is b m)))
    | inr n ↦ sym (ap (λ (z : BlockInPlane). outer_at z.part z.rotation v) (cond-false (is_member b k.blocks) (turned k q (block b)) (block b) n))
  ])
    where
      own : (b : ℕ) → is_member b k.blocks ≡ true → IsPlaneSystem (block b).part.graph (block b).rotation
      own b m = in-plane.blocks.planes b (subst (λ (z : Component). is_member b z.blocks ≡ true) in-plane.component m)

  -- so it is for the cut vertices of other components
  pub orders-other : (d i : ℕ) → d ≢ c → i < length (component_at setting d).cuts
      → block_order (blocks_with setting.trees entries) (slice_index (component_at setting d).cuts i) ≡ block_order (blocks_with setting.trees (entries_with (component_at setting c) setting.trees q entries)) (slice_index (component_at setting d).cuts i)
  orders-other d i n l =
      let v = slice_index (component_at setting d).cuts i in
      let here = vertex-in setting.named.graph setting.structure d is.structure v (cut-in setting.named.graph setting.structure d is.structure v (member-at (component_at setting d).cuts i 0 l)) in
      orders-outside v (false_from_ne_true (is_member v k.part.vertices) (λ t. n (sym here.1 ∙ (vertex-in setting.named.graph setting.structure c is.structure v t).1)))
      ∙ ap (λ (z : ℕ → BlockInPlane). block_order z v) (sym blocks-are)

  -- the entries are right
  pub entries-right : (b : ℕ) → b < length setting.trees → IsEntry (tree_at setting.trees b) (certificate_at setting.certificates b) (slice_index_or (entries_with (component_at setting c) setting.trees q entries) b None)
  entries-right b l = elim (cases_Bool (is_member b k.blocks)) [
    | inl m ↦ (let e = block-embedding setting is entries each c planar b m in
        subst (IsEntry (tree_at setting.trees b) (certificate_at setting.certificates b)) (sym (entry-in b m ∙ ap (entry_with k (tree_at setting.trees b).part q) e.1))
        (with-part b m (certificate_at setting.certificates b) e.0 e.1 (subst (IsEntry (tree_at setting.trees b) (certificate_at setting.certificates b)) e.1 (each b l))))
    | inr n ↦ subst (IsEntry (tree_at setting.trees b) (certificate_at setting.certificates b)) (sym (entry-out b n)) (each b l)
  ]
    where
      part-plane : (b : ℕ) (e : Embedding) → is_member b k.blocks ≡ true → slice_index_or entries b None ≡ Some e → IsPlaneSystem (tree_at setting.trees b).part.graph (block_part k (tree_at setting.trees b).part q)
      part-plane b e m p = subst (λ (o : Option Embedding). IsPlaneSystem (block_with_entry (tree_at setting.trees b) o).part.graph (block_part k (block_with_entry (tree_at setting.trees b) o).part q)) p (parts-plane k block in-plane q member.plane b m).plane

      with-part : (b : ℕ) → is_member b k.blocks ≡ true → (s : Option Subdivision) (e : Embedding) → slice_index_or entries b None ≡ Some e → IsEntry (tree_at setting.trees b) s (Some e)
          → IsEntry (tree_at setting.trees b) s (entry_with k (tree_at setting.trees b).part q (Some e))
      with-part b m None e p h = (part-plane b e m p, h.1)
      with-part b m (Some s) e p h = absurd h

-- the family with a member of the list of a component is right
pub with-family : (setting : Setting) (family : Family) (c : ℕ) (q : List (List ℕ)) → IsSetting setting → IsFamily setting family → c < setting.structure.component_count → is_planar_component setting c ≡ true
    → IsWholeMember (component_at setting c) (blocks_of setting family) q → IsFamily setting (family_with setting c q family)
with-family setting family c q is right within planar member = record {
  one_each = length-map (numbers_below (length family.entries)) (λ b. (if is_member b (component_at setting c).blocks then entry_with (component_at setting c) (tree_at setting.trees b).part q (slice_index_or family.entries b None) else slice_index_or family.entries b None))
      ∙ length-numbers_below (length family.entries) ∙ right.one_each;
  each = entries-right setting is family.entries right.one_each right.each c within planar q member;
  lists_each = length-set family.arrangements c (Some (map (outer_at (component_at setting c).part q) (component_at setting c).cuts)) ∙ right.lists_each;
  arranged = λ d l. elim (cases_eq d c) [
    | inl e ↦ subst (λ (z : ℕ). AreArrangements (component_at setting z) new (is_planar_component setting z) (arrangements_in (family_with setting c q family) z)) (sym e) here
    | inr n ↦ subst (AreArrangements (component_at setting d) new (is_planar_component setting d)) (sym (get_or-set_other family.arrangements c d (Some lists) None n))
        (arranged-along (component_at setting d) (blocks_of setting family) new (is_planar_component setting d) (arrangements_in family d)
        (λ i b. orders-other setting is family.entries right.one_each right.each c within planar q member d i n b) (right.arranged d l))
  ];
}
  where
    new : ℕ → BlockInPlane
    new = blocks_with setting.trees (entries_with (component_at setting c) setting.trees q family.entries)

    lists : List (List ℕ)
    lists = map (outer_at (component_at setting c).part q) (component_at setting c).cuts

    here : AreArrangements (component_at setting c) new (is_planar_component setting c) (arrangements_in (family_with setting c q family) c)
    here = subst (AreArrangements (component_at setting c) new (is_planar_component setting c)) (sym (get_or-set_same family.arrangements c (Some lists) None (omega (arith, within, right.lists_each))))
        (subst (λ (p : Bool). AreArrangements (component_at setting c) new p (Some lists)) (sym planar) (with-arranged setting is family.entries right.one_each right.each c within planar q member))
