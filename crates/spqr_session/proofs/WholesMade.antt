-- The blocks on the board as calls on components have them, and components with these and with the lists that are kept.
use mathlib.Core.Path.{fun_ext}
use Rattle.std.proofs.Common.{◌≡◌, ◌≢◌, ℕ, zero, suc, ◌+◌, ◌<◌, ◌≤◌, Bool, true, false, not, ◌&&◌, List, [], ◌∷◌, ◌++◌, length, map, slice_index, slice_index_or, slice_set, Option, None, Some, inl, inr, refl, sym, ap, ◌∙◌, subst, arith, length-append, eq-eqb, eqb-true}
use Rattle.std.proofs.Math.Seq.{get_or-append_seam}
use Rattle.std.proofs.lemmas.Bool.{cases_eq, cases_lt, true≢false, false_from_ne_true}
use Rattle.std.proofs.lemmas.List.{get_or_append_left, get_or_past, length-map, length-set, get_or-set_same, get_or-set_other}
use Rattle.permutations.specs.Members.{is_member, place_of}
use Rattle.multigraph.specs.Part.{GraphPart, Rises}
use Rattle.blocks.specs.Blocks.{block_at}
use Rattle.arrangements.proofs.Lists.{all-passes, passes-all}
use Rattle.skel_embed.specs.Block.{BlockState}
use Rattle.skel_embed.specs.Nonplanar.{Refused}
use Rattle.skel_embed.specs.declared.planes.Outcome.{Outcome}
use Rattle.skel_embed.specs.declared.planes.Outcome.TheVariants.{Plane, Not}
use Rattle.whole_embed.specs.declared.members.Member.{Member}
use Rattle.whole_embed.specs.Component.{Component, BlockInPlane, has_edge, component_of, AreInPlane, IsComponentInPlane}
use Rattle.whole_embed.specs.Cuts.{CutState, no_part, in_plane, member_at, blocks_in, HavePlanes, set_around}
use Rattle.whole_embed.specs.Keeping.{AreFirstTo}
use Rattle.whole_embed.specs.Walk.{first_around}
use Rattle.whole_embed.specs.Whole.{AreArranged, whole_lists}
use Rattle.spqr_script.specs.Answers.Whole.{whole_text}
use Rattle.whole_embed.proofs.Outer.{place-rising}
use Rattle.whole_embed.proofs.Components.{block-in, in-block}
use Rattle.spqr_session.specs.Trees.{BlockTree, no_tree}
use Rattle.spqr_session.specs.Certificates.{certificate_at}
use Rattle.spqr_session.specs.Setting.{Setting, IsSetting}
use Rattle.spqr_session.specs.State.{IsFamily, component_at, lacks_certificate, is_planar_component, block_with_entry, blocks_with}
use Rattle.spqr_session.specs.Embedded.{BlockView, view_tree, view_entry, block_view, IsEmbedded, view_at}
use Rattle.spqr_session.specs.Kept.{Kept, list_or_first, lists_kept, family_of}
use Rattle.spqr_session.specs.Wholes.{IsMemberOf, AreMembersOf, AreEntries, ArePlanarBelow, IsFirstComponent, IsPresentComponent, AreOrdersKept, set_if, AreSetTo, IsWholeTold}
use Rattle.spqr_session.proofs.Views.{trees-at}
use Rattle.spqr_session.proofs.ComponentParts.{block-there, block-embedding, blocks-in_plane, component-in_plane, family-arranged, family-in_plane, kept-lists}
use Rattle.spqr_session.proofs.KeptLists.{lists-are, lists-at, kept-is, kept-order}

-- ---- members

module _ (view : BlockView) (o : Outcome) (seen : block_view view.tree.part o ≡ view) (is : IsEmbedded view.tree.part o) where
  -- a copy of a block in the plane
  pub plane-member : (p q : BlockState) (part : GraphPart) → o ≡ Plane p → part ≡ view.tree.part → q ≡ p → IsMemberOf view (record { part = part; plane = Some q })
  plane-member p q part e ep eq =
      let at : block_view view.tree.part (Plane p) ≡ view = ap (block_view view.tree.part) (sym e) ∙ seen in
      let right : IsEmbedded view.tree.part (Plane p) = subst (IsEmbedded view.tree.part) e is in
      record {
        block = (λ i. in_plane (ep i) (Some (eq i))) ∙ ap (λ (v : BlockView). block_with_entry v.tree v.entry) at;
        plane = λ x h. (q, refl, ap (λ (z : BlockState). z.graph) eq ∙ right.graph ∙ ap (λ (z : GraphPart). z.graph) (sym ep));
      }

  -- and of one that is not planar
  pub not-member : (b : Refused) (part : GraphPart) → o ≡ Not b → part ≡ view.tree.part → IsMemberOf view (record { part = part; plane = None })
  not-member b part e ep =
      let at : block_view view.tree.part (Not b) ≡ view = ap (block_view view.tree.part) (sym e) ∙ seen in
      record {
        block = (λ i. in_plane (ep i) None) ∙ ap (λ (v : BlockView). block_with_entry v.tree v.entry) at;
        plane = λ x h. absurd (let both : None ≡ Some x = ap (λ (v : BlockView). v.entry) at ∙ h in cc);
      }

-- none yet
pub members-none : (views : List BlockView) (all : List Member) → all ≡ [] → AreMembersOf views 0 all
members-none views all e = record { one_each = ap (λ (l : List Member). length l) e; each = λ b l. absurd (omega (arith, l)) }

-- one more
pub members-more : (views : List BlockView) (n : ℕ) (all more : List Member) (m : Member) → AreMembersOf views n all → IsMemberOf (view_at views n) m → more ≡ all ++ m ∷ [] → AreMembersOf views (n + 1) more
members-more views n all more m f is e = subst (AreMembersOf views (n + 1)) (sym e) (record {
  one_each = omega (arith, length-append all (m ∷ []), f.one_each);
  each = λ b l. elim (cases_eq b n) [
    | inl q ↦ subst (λ (k : ℕ). IsMemberOf (view_at views k) (member_at (all ++ m ∷ []) k)) (sym q) (subst (IsMemberOf (view_at views n)) (sym (last n f.one_each)) is)
    | inr d ↦ subst (IsMemberOf (view_at views b)) (sym (get_or_append_left all (m ∷ []) (record { part = no_part; plane = None }) b (omega (arith, l, d, f.one_each)))) (f.each b (omega (arith, l, d)))
  ];
})
  where
    last : (k : ℕ) → length all ≡ k → member_at (all ++ m ∷ []) k ≡ m
    last k c = subst (λ (k : ℕ). member_at (all ++ m ∷ []) k ≡ m) c (get_or-append_seam all m [] (record { part = no_part; plane = None }))

-- the entry of block b
pub entry-seen : (views : List BlockView) (b : ℕ) → slice_index_or (map view_entry views) b None ≡ (view_at views b).entry
entry-seen [] b = refl
entry-seen (v ∷ views) zero = refl
entry-seen (v ∷ views) (suc b) = entry-seen views b

module _ (views : List BlockView) (all : List Member) (are : AreMembersOf views (length views) all) where
  -- block b of the list of all blocks is the one on the board
  pub block-same : (b : ℕ) → blocks_in all b ≡ blocks_with (map view_tree views) (map view_entry views) b
  block-same b = elim (cases_lt b (length views)) [
    | inl l ↦
        (are.each b l).block
        ∙ (λ i. block_with_entry (sym (trees-at views b) i) (sym (entry-seen views b) i))
    | inr n ↦ outside b (omega (arith, n))
  ]
    where
      outside : (b : ℕ) → length views ≤ b → blocks_in all b ≡ blocks_with (map view_tree views) (map view_entry views) b
      outside b l =
          ap (λ (m : Member). in_plane m.part m.plane) (get_or_past all b (record { part = no_part; plane = None }) (omega (arith, l, are.one_each)))
          ∙ (λ i. block_with_entry (sym (get_or_past (map view_tree views) b no_tree (omega (arith, l, length-map views view_tree))) i) (sym (get_or_past (map view_entry views) b None (omega (arith, l, length-map views view_entry))) i))

  pub blocks-same : blocks_in all ≡ blocks_with (map view_tree views) (map view_entry views)
  blocks-same = fun_ext block-same

  -- so those of a component whose blocks are planar are there
  pub have-planes : (setting : Setting) → IsSetting setting → setting.trees ≡ map view_tree views → AreEntries setting (map view_entry views) → (c : ℕ) → is_planar_component setting c ≡ true → HavePlanes (component_at setting c) all
  have-planes setting is trees each c t = record {
    within = λ b m. omega (arith, below b m, are.one_each);
    plane = λ b m.
        let w = block-embedding setting is (map view_entry views) each c t b m in
        let v = are.each b (below b m) in
        v.plane w.0 (sym (entry-seen views b) ∙ w.1);
  }
    where
      below : (b : ℕ) → is_member b (component_at setting c).blocks ≡ true → b < length views
      below b m = omega (arith, block-there setting is c b m, ap (λ (l : List BlockTree). length l) trees, length-map views view_tree)

-- ---- components

module _ (setting : Setting) (views : List BlockView) (c : ℕ) (is : IsSetting setting) (trees : setting.trees ≡ map view_tree views) (each : AreEntries setting (map view_entry views)) (l : c < setting.structure.component_count)
    (t : is_planar_component setting c ≡ true) (all : List Member) (are : AreMembersOf views (length views) all) where
  -- the blocks are those with the entries
  entries-same : blocks_in all ≡ blocks_with setting.trees (map view_entry views)
  entries-same = blocks-same views all are ∙ ap (λ (ts : List BlockTree). blocks_with ts (map view_entry views)) (sym trees)

  -- so the component may be made with first arrangements
  pub blocks-right : AreInPlane setting.named.graph setting.structure c (blocks_in all)
  blocks-right = subst (AreInPlane setting.named.graph setting.structure c) (sym entries-same) (blocks-in_plane setting is (map view_entry views) each c t)

  pub planes-right : HavePlanes (component_of setting.named.graph setting.structure c) all
  planes-right = have-planes views all are setting is trees each c t

  -- and what was made is it
  pub first-made : (cuts : CutState) → length cuts.lists ≡ length cuts.component.cuts → cuts.component ≡ component_at setting c → AreFirstTo cuts.component (blocks_in all) cuts.lists (length cuts.component.cuts)
      → IsFirstComponent setting (map view_entry views) c cuts all
  first-made cuts n k first = record {
    blocks = record {
      component = k;
      blocks = entries-same;
      in_plane = subst (λ (x : Component). IsComponentInPlane x (blocks_in all)) (sym k) (subst (IsComponentInPlane (component_at setting c)) (sym entries-same) (component-in_plane setting is (map view_entry views) each c t l));
      planes = subst (λ (x : Component). HavePlanes x all) (sym k) planes-right;
    };
    first = lists-are (first_around cuts.component (blocks_in all)) (length cuts.component.cuts) cuts.lists n first;
  }

-- ---- lists that are set

module _ (lists : List (Option (List ℕ))) (old : CutState) where
  pub set-none : AreSetTo 0 lists old old
  set-none = record { component = refl; count = refl; set = λ i l m. absurd (omega (arith, l)); others = λ i l. refl }

  module _ (n : ℕ) (new : CutState) (so : AreSetTo n lists old new) (v : ℕ) (at : v ≡ slice_index new.component.cuts n) where
    vertex : v ≡ slice_index old.component.cuts n
    vertex = at ∙ ap (λ (k : Component). slice_index k.cuts n) so.component

    -- no list is kept there
    set-stays : slice_index_or lists v None ≡ None → AreSetTo (n + 1) lists old new
    set-stays e = record {
      component = so.component;
      count = so.count;
      set = λ i l m. elim (cases_eq i n) [
        | inl q ↦ so.others i (omega (arith, q)) ∙ ap (λ (o : Option (List ℕ)). list_or_first o (slice_index_or old.lists i [])) (sym e ∙ ap (λ (z : ℕ). slice_index_or lists z None) (vertex ∙ ap (slice_index old.component.cuts) (sym q)))
        | inr d ↦ so.set i (omega (arith, l, d)) m
      ];
      others = λ i l. so.others i (omega (arith, l));
    }

    -- a list is
    set-more : (l : List ℕ) → slice_index_or lists v None ≡ Some l → n < length new.component.cuts → Rises new.component.cuts → length new.lists ≡ length new.component.cuts → AreSetTo (n + 1) lists old (set_around new v l)
    set-more l e within rise long = record {
      component = so.component;
      count = length-set new.lists (place_of new.component.cuts v) l ∙ so.count;
      set = λ i h m. elim (cases_eq i n) [
        | inl q ↦
            ap (slice_index_or_at i) (ap (λ (z : ℕ). slice_set new.lists z l) place)
            ∙ ap (λ (z : ℕ). slice_index_or (slice_set new.lists n l) z []) q
            ∙ get_or-set_same new.lists n l [] (omega (arith, within, long))
            ∙ ap (λ (o : Option (List ℕ)). list_or_first o (slice_index_or old.lists i [])) (sym e ∙ ap (λ (z : ℕ). slice_index_or lists z None) (vertex ∙ ap (slice_index old.component.cuts) (sym q)))
        | inr d ↦ other i d ∙ so.set i (omega (arith, h, d)) m
      ];
      others = λ i h. other i (omega (arith, h)) ∙ so.others i (omega (arith, h));
    }
      where
        slice_index_or_at : ℕ → List (List ℕ) → List ℕ
        slice_index_or_at i ls = slice_index_or ls i []

        place : place_of new.component.cuts v ≡ n
        place = ap (place_of new.component.cuts) at ∙ place-rising new.component.cuts n rise within

        other : (i : ℕ) → i ≢ n → slice_index_or (slice_set new.lists (place_of new.component.cuts v) l) i [] ≡ slice_index_or new.lists i []
        other i d = ap (λ (z : ℕ). slice_index_or (slice_set new.lists z l) i []) place ∙ get_or-set_other new.lists n i l [] d

    -- either
    pub set-one : (o : Option (List ℕ)) → slice_index_or lists v None ≡ o → n < length new.component.cuts → Rises new.component.cuts → length new.lists ≡ length new.component.cuts → AreSetTo (n + 1) lists old (set_if new v o)
    set-one None e within rise long = set-stays e
    set-one (Some l) e within rise long = set-more l e within rise long

-- the lists that are kept at the cut vertices of a component
module _ (setting : Setting) (kept : Kept) (c : ℕ) (is : IsSetting setting) (right : IsFamily setting (family_of setting kept)) (l : c < setting.structure.component_count) (t : is_planar_component setting c ≡ true) where
  abbrev k : Component
  k = component_at setting c

  abbrev block : ℕ → BlockInPlane
  block = blocks_with setting.trees kept.entries

  all-arranged : AreArranged k block (lists_kept k block kept.lists)
  all-arranged = family-arranged setting (family_of setting kept) right c l t (lists_kept k block kept.lists) (kept-lists setting kept c l t)

  module _ (old : CutState) (all : List Member) (first : IsFirstComponent setting kept.entries c old all) where
    -- are cyclic orders
    pub orders-kept : AreOrdersKept old.component kept.lists
    orders-kept =
        let b = first.blocks in
        subst (λ (x : Component). AreOrdersKept x kept.lists) (sym b.component)
        (kept-order k block kept.lists (family-in_plane setting (family_of setting kept) right c l t is) all-arranged)

    -- and set to these the component is the present one
    pub present-made : (new : CutState) → length old.lists ≡ length old.component.cuts → AreSetTo (length old.component.cuts) kept.lists old new → IsPresentComponent setting kept c new all
    present-made new long so =
        let b = first.blocks in
        let own : new.component ≡ k = so.component ∙ b.component in
        let same : new.lists ≡ lists_kept new.component (blocks_in all) kept.lists = kept-is new.component (blocks_in all) kept.lists new.lists (so.count ∙ long ∙ ap (λ (x : Component). length x.cuts) (sym so.component)) (λ i h.
        let m : i < length old.component.cuts = subst (λ (x : Component). i < length x.cuts) so.component h in
        let first_at : slice_index_or old.lists i [] ≡ first_around old.component (blocks_in all) i =
        ap (λ (ls : List (List ℕ)). slice_index_or ls i []) first.first ∙ lists-at (first_around old.component (blocks_in all)) (length old.component.cuts) i m in
        so.set i m m ∙ ap (list_or_first (slice_index_or kept.lists (slice_index old.component.cuts i) None)) first_at
        ∙ ap (λ (x : Component). list_or_first (slice_index_or kept.lists (slice_index x.cuts i) None) (first_around x (blocks_in all) i)) (sym so.component)) in
        let there : new.lists ≡ lists_kept k block kept.lists = same ∙ (λ i. lists_kept (own i) (b.blocks i) kept.lists) in
        record {
          blocks = record {
            component = own;
            blocks = b.blocks;
            in_plane = subst (λ (x : Component). IsComponentInPlane x (blocks_in all)) (sym so.component) b.in_plane;
            planes = subst (λ (x : Component). HavePlanes x all) (sym so.component) b.planes;
          };
          present = kept-lists setting kept c l t ∙ ap (λ (ls : List (List ℕ)). Some ls) (sym there);
          arranged = subst (AreArranged new.component (blocks_in all)) (sym there) (subst (λ (x : Component). AreArranged x (blocks_in all) (lists_kept k block kept.lists)) (sym own) (subst (λ (f : ℕ → BlockInPlane). AreArranged k f (lists_kept k block kept.lists)) (sym b.blocks) all-arranged));
        }

-- the text of the present component
pub whole-told : (setting : Setting) (kept : Kept) (c : ℕ) (cuts : CutState) (all : List Member) → IsPresentComponent setting kept c cuts all → (lists : List (ℕ × List ℕ)) → lists ≡ whole_lists cuts.component (blocks_in all) cuts.lists → (text : List ℕ) → text ≡ whole_text c lists
    → IsWholeTold setting c (family_of setting kept) text
whole-told setting kept c cuts all is lists e text h =
    let b = is.blocks in
    record { lists = cuts.lists; present = is.present; answer = h ∙ ap (whole_text c) (e ∙ λ i. whole_lists (b.component i) (b.blocks i) cuts.lists) }

-- ---- planar components

-- a test of a block that hinders
pub not-hindered : (r has lacks : Bool) → r ≡ (has && not lacks) → r ≡ false → has ≡ true → lacks ≡ true
not-hindered r true true e f h = refl
not-hindered r true false e f h = absurd (true≢false (sym e ∙ f))
not-hindered r false lacks e f h = absurd (true≢false (sym h))

pub hindered : (r has lacks : Bool) → r ≡ (has && not lacks) → r ≡ true → (has ≡ true) × (lacks ≡ false)
hindered r true true e f = absurd (true≢false (sym f ∙ e))
hindered r true false e f = (refl, refl)
hindered r false lacks e f = absurd (true≢false (sym f ∙ e))

module _ (setting : Setting) (is : IsSetting setting) (c : ℕ) where
  abbrev has : ℕ → Bool
  has b = has_edge setting.named.graph setting.structure c (slice_index (block_at setting.structure.blocks b) 0)

  pub planar-none : ArePlanarBelow setting c 0
  planar-none b l h = absurd (omega (arith, l))

  -- one more
  pub planar-more : (n : ℕ) → ArePlanarBelow setting c n → (has_edge setting.named.graph setting.structure c (slice_index (block_at setting.structure.blocks n) 0) ≡ true → lacks_certificate (certificate_at setting.certificates n) ≡ true) → ArePlanarBelow setting c (n + 1)
  planar-more n so more b l h = elim (cases_eq b n) [
    | inl q ↦ subst (λ (z : ℕ). lacks_certificate (certificate_at setting.certificates z) ≡ true) (sym q) (more (subst (λ (z : ℕ). has z ≡ true) q h))
    | inr d ↦ so b (omega (arith, l, d)) h
  ]

  -- all are
  pub planar-all : ArePlanarBelow setting c (length setting.structure.blocks) → is_planar_component setting c ≡ true
  planar-all so = passes-all (λ b. lacks_certificate (certificate_at setting.certificates b)) (component_at setting c).blocks (λ b m.
      let w = block-in setting.named.graph setting.structure c is.structure b m in so b w.0 (eq-eqb _ c w.1))

  -- one is not
  pub planar-fails : (b : ℕ) → b < length setting.structure.blocks → has_edge setting.named.graph setting.structure c (slice_index (block_at setting.structure.blocks b) 0) ≡ true → lacks_certificate (certificate_at setting.certificates b) ≡ false
      → is_planar_component setting c ≡ false
  planar-fails b l h f = false_from_ne_true (is_planar_component setting c) (λ t. true≢false (sym (all-passes (λ x. lacks_certificate (certificate_at setting.certificates x)) (component_at setting c).blocks b t
      (in-block setting.named.graph setting.structure c is.structure b l (eqb-true _ c h))) ∙ f))
