-- The families of what is kept: after a change of a block, a lock, and at the start; and that a change of a block leads from a family to a
-- family.
use Rattle.std.proofs.Common.{◌≡◌, ℕ, zero, suc, ◌<◌, inl, inr, Bool, true, false, List, [], ◌∷◌, ◌++◌, length, map, replicate, slice_index, slice_index_or, slice_set, Option, None, Some, Contains, refl, sym, ap, ap₂, ◌∙◌, subst, arith}
use Rattle.std.specs.Prelude.{if◌then◌else◌}
use Rattle.std.proofs.Math.Path.{fun_ext}
use Rattle.std.proofs.lemmas.Bool.{cases_Bool, cases_eq, cond-true, cond-false}
use Rattle.std.proofs.lemmas.List.{get_or-map, length-map, length-set, map-append, get_or-set_same, get_or-set_other}
use Rattle.permutations.specs.Members.{is_member}
use Rattle.multigraph.specs.Graph.{numbers_below}
use Rattle.multigraph.proofs.Below.{length-numbers_below, get_or-numbers_below}
use Rattle.faces.specs.Euler.{IsPlaneSystem}
use Rattle.arrangements.specs.Arranged.{first_arrangement, arrangements_at}
use Rattle.whole_embed.specs.Component.{Component, BlockInPlane, IsComponentInPlane}
use Rattle.whole_embed.specs.Around.{outer_at, edges_around, block_with, block_order, arrangements_around}
use Rattle.whole_embed.specs.Whole.{AreArranged}
use Rattle.whole_embed.specs.Walk.{first_around}
use Rattle.whole_embed.proofs.WalkSteps.{first-has}
use Rattle.whole_convert.proofs.Stages.{round-outside}
use Rattle.spqr_session.specs.Trees.{BlockTree, tree_at}
use Rattle.spqr_session.specs.Certificates.{certificate_at}
use Rattle.spqr_session.specs.Setting.{Setting, IsSetting}
use Rattle.spqr_session.specs.State.{Embedding, Family, entry_at, arrangements_in, IsEntry, IsFamily, component_at, is_planar_component, block_with_entry, blocks_with, AreArrangements, first_lists}
use Rattle.spqr_session.specs.Kept.{Kept, list_or_first, lists_kept, arrangements_kept, family_of}
use Rattle.spqr_session.specs.BlockCodes.{entry_put, lists_reset, lists_reset_in, family_changed}
use Rattle.spqr_session.specs.History.{lists_cleared}
use Rattle.spqr_session.proofs.SettingTrees.{setting-numbered}
use Rattle.spqr_session.proofs.ListsSet.{cleared-there, cleared-other, none-kept}
use Rattle.spqr_session.proofs.ComponentParts.{component-in_plane, kept-arrangements}

-- functions that are the same below a number have the same images
pub same-below : {X : Type 0} (f g : ℕ → X) (n : ℕ) → ((i : ℕ) → i < n → f i ≡ g i) → map f (numbers_below n) ≡ map g (numbers_below n)
same-below f g zero h = refl
same-below f g (suc n) h =
    map-append f (numbers_below n) (n ∷ []) ∙ ap₂ (λ xs x. xs ++ x ∷ []) (same-below f g n (λ j l. h j (omega (arith, l)))) (h n (omega arith)) ∙ sym (map-append g (numbers_below n) (n ∷ []))

-- the image at a place
pub image-at : {X : Type 0} (f : ℕ → X) (n i : ℕ) (d : X) → i < n → slice_index_or (map f (numbers_below n)) i d ≡ f i
image-at f n i d l = get_or-map f (numbers_below n) i 0 d (omega (arith, l, length-numbers_below n)) ∙ ap f (get_or-numbers_below n i 0 l)

pub image-length : {X : Type 0} (f : ℕ → X) (n : ℕ) → length (map f (numbers_below n)) ≡ n
image-length f n = length-map (numbers_below n) f ∙ length-numbers_below n

-- ---- the orders around a vertex

module _ (trees : List BlockTree) (es : List (Option Embedding)) (b : ℕ) (old new : Embedding) (at : slice_index_or es b None ≡ Some old) (l : b < length es) (v : ℕ)
    (same : outer_at (tree_at trees b).part new.rotation v ≡ outer_at (tree_at trees b).part old.rotation v) where
  -- those of the blocks stay where that of the changed block does
  pub orders-same : block_order (blocks_with trees (slice_set es b (Some new))) v ≡ block_order (blocks_with trees es) v
  orders-same = fun_ext (λ d. elim (cases_eq d b) [
    | inl e ↦ subst (λ (z : ℕ). block_order (blocks_with trees (slice_set es b (Some new))) v z ≡ block_order (blocks_with trees es) v z) (sym e) (
        ap (λ (o : Option Embedding). outer_at (block_with_entry (tree_at trees b) o).part (block_with_entry (tree_at trees b) o).rotation v) (get_or-set_same es b (Some new) None l)
        ∙ same
        ∙ sym (ap (λ (o : Option Embedding). outer_at (block_with_entry (tree_at trees b) o).part (block_with_entry (tree_at trees b) o).rotation v) at))
    | inr n ↦ ap (λ (o : Option Embedding). outer_at (block_with_entry (tree_at trees d) o).part (block_with_entry (tree_at trees d) o).rotation v) (get_or-set_other es b d (Some new) None n)
  ])

  pub arrangements-same : (k : Component) → arrangements_around k (blocks_with trees (slice_set es b (Some new))) v ≡ arrangements_around k (blocks_with trees es) v
  arrangements-same k = ap (λ (o : ℕ → List ℕ). arrangements_at (block_with k) o (edges_around k v)) orders-same

  pub first-same : (k : Component) → first_arrangement (block_with k) (block_order (blocks_with trees (slice_set es b (Some new))) v) (edges_around k v) ≡ first_arrangement (block_with k) (block_order (blocks_with trees es) v) (edges_around k v)
  first-same k = ap (λ (o : ℕ → List ℕ). first_arrangement (block_with k) o (edges_around k v)) orders-same

-- that of a block does around what is no vertex of it
pub order-apart : (setting : Setting) → IsSetting setting → (b : ℕ) → b < length setting.trees → (old new : List (List ℕ)) → IsPlaneSystem (tree_at setting.trees b).part.graph old → IsPlaneSystem (tree_at setting.trees b).part.graph new
    → (v : ℕ) → is_member v (tree_at setting.trees b).part.vertices ≡ false → outer_at (tree_at setting.trees b).part new v ≡ outer_at (tree_at setting.trees b).part old v
order-apart setting is b l old new p q v f =
    let part = (tree_at setting.trees b).part in
    let numbered = setting-numbered setting is b l in
    round-outside part new v numbered q.system f ∙ sym (round-outside part old v numbered p.system f)

-- ---- a change of a block

-- the entries with another one for a block
pub entries-right : (setting : Setting) (es : List (Option Embedding)) (b : ℕ) (new : Embedding) → length es ≡ length setting.trees
    → ((j : ℕ) → j < length setting.trees → IsEntry (tree_at setting.trees j) (certificate_at setting.certificates j) (slice_index_or es j None))
    → (b < length setting.trees → IsEntry (tree_at setting.trees b) (certificate_at setting.certificates b) (Some new))
    → (j : ℕ) → j < length setting.trees → IsEntry (tree_at setting.trees j) (certificate_at setting.certificates j) (slice_index_or (slice_set es b (Some new)) j None)
entries-right setting es b new long each right j l = elim (cases_eq j b) [
  | inl q ↦ subst (λ (i : ℕ). IsEntry (tree_at setting.trees i) (certificate_at setting.certificates i) (slice_index_or (slice_set es b (Some new)) i None)) (sym q)
      (subst (λ (o : Option Embedding). IsEntry (tree_at setting.trees b) (certificate_at setting.certificates b) o) (sym (get_or-set_same es b (Some new) None (omega (arith, l, q, long))))
      (right (subst (λ (i : ℕ). i < length setting.trees) q l)))
  | inr n ↦ subst (λ (o : Option Embedding). IsEntry (tree_at setting.trees j) (certificate_at setting.certificates j) o) (sym (get_or-set_other es b j (Some new) None n)) (each j l)
]

module _ (setting : Setting) (is : IsSetting setting) (b : ℕ) (old new : Embedding) (es : List (Option Embedding)) (within : b < length setting.trees) (l : b < length es) (at : slice_index_or es b None ≡ Some old) where
  abbrev trees : List BlockTree
  trees = setting.trees

  abbrev vs : List ℕ
  vs = (tree_at setting.trees b).part.vertices

  abbrev changed_es : List (Option Embedding)
  changed_es = slice_set es b (Some new)

  module _ (before : IsPlaneSystem (tree_at setting.trees b).part.graph old.rotation) (after : IsPlaneSystem (tree_at setting.trees b).part.graph new.rotation) where
    apart : (v : ℕ) → is_member v (tree_at setting.trees b).part.vertices ≡ false → outer_at (tree_at setting.trees b).part new.rotation v ≡ outer_at (tree_at setting.trees b).part old.rotation v
    apart v f = order-apart setting is b within old.rotation new.rotation before after v f

    -- the lists of a component
    lists-changed : (k : Component) (lists : List (Option (List ℕ))) → lists_kept k (blocks_with trees changed_es) (lists_cleared vs lists) ≡ lists_reset k (blocks_with trees changed_es) vs (lists_kept k (blocks_with trees es) lists)
    lists-changed k lists = same-below kept_now_at reset_at (length k.cuts) each ∙ ap (λ (n : ℕ). map reset_at (numbers_below n)) (sym (image-length kept_at (length k.cuts)))
      where
        kept_at : ℕ → List ℕ
        kept_at i = list_or_first (slice_index_or lists (slice_index k.cuts i) None) (first_around k (blocks_with trees es) i)

        kept_now_at : ℕ → List ℕ
        kept_now_at i = list_or_first (slice_index_or (lists_cleared vs lists) (slice_index k.cuts i) None) (first_around k (blocks_with trees changed_es) i)

        reset_at : ℕ → List ℕ
        reset_at i = (if is_member (slice_index k.cuts i) vs then first_around k (blocks_with trees changed_es) i else slice_index_or (lists_kept k (blocks_with trees es) lists) i [])

        each : (i : ℕ) → i < length k.cuts → kept_now_at i ≡ reset_at i
        each i h = elim (cases_Bool (is_member (slice_index k.cuts i) vs)) [
          | inl m ↦
              ap (λ (o : Option (List ℕ)). list_or_first o (first_around k (blocks_with trees changed_es) i)) (cleared-there vs lists (slice_index k.cuts i) m)
              ∙ sym (cond-true (is_member (slice_index k.cuts i) vs) (first_around k (blocks_with trees changed_es) i) (slice_index_or (lists_kept k (blocks_with trees es) lists) i []) m)
          | inr f ↦
              ap (λ (o : Option (List ℕ)). list_or_first o (first_around k (blocks_with trees changed_es) i)) (cleared-other vs lists (slice_index k.cuts i) f)
              ∙ ap (list_or_first (slice_index_or lists (slice_index k.cuts i) None)) (first-same trees es b old new at l (slice_index k.cuts i) (apart (slice_index k.cuts i) f) k)
              ∙ sym (image-at kept_at (length k.cuts) i [] h)
              ∙ sym (cond-false (is_member (slice_index k.cuts i) vs) (first_around k (blocks_with trees changed_es) i) (slice_index_or (lists_kept k (blocks_with trees es) lists) i []) f)
        ]

    -- the family of what is kept after a change is the changed family
    pub family-of_changed : (lists : List (Option (List ℕ))) → family_of setting (record { entries = changed_es; lists = lists_cleared vs lists }) ≡ family_changed setting (family_of setting (record { entries = es; lists = lists })) b new
    family-of_changed lists = λ i. record { entries = changed_es; arrangements = all i }
      where
        old_kept : Kept
        old_kept = record { entries = es; lists = lists }

        new_kept : Kept
        new_kept = record { entries = changed_es; lists = lists_cleared vs lists }

        reset : ℕ → Option (List (List ℕ))
        reset c = lists_reset_in (component_at setting c) (blocks_with trees changed_es) vs (arrangements_in (family_of setting old_kept) c)

        by : (c : ℕ) (planar : Bool) → (if planar then Some (lists_kept (component_at setting c) (blocks_with trees changed_es) (lists_cleared vs lists)) else None)
            ≡ lists_reset_in (component_at setting c) (blocks_with trees changed_es) vs (if planar then Some (lists_kept (component_at setting c) (blocks_with trees es) lists) else None)
        by c true = ap (λ (x : List (List ℕ)). Some x) (lists-changed (component_at setting c) lists)
        by c false = refl

        each : (c : ℕ) → c < setting.structure.component_count → arrangements_kept setting new_kept c ≡ reset c
        each c h = by c (is_planar_component setting c) ∙ ap (lists_reset_in (component_at setting c) (blocks_with trees changed_es) vs) (sym (kept-arrangements setting old_kept c h))

        all : map (arrangements_kept setting new_kept) (numbers_below setting.structure.component_count) ≡ map reset (numbers_below (length (family_of setting old_kept).arrangements))
        all = same-below (arrangements_kept setting new_kept) reset setting.structure.component_count each
            ∙ ap (λ (n : ℕ). map reset (numbers_below n)) (sym (image-length (arrangements_kept setting old_kept) setting.structure.component_count))

  -- ---- a lock
  module _ (rotation : new.rotation ≡ old.rotation) where
    still : (v : ℕ) → outer_at (tree_at setting.trees b).part new.rotation v ≡ outer_at (tree_at setting.trees b).part old.rotation v
    still v = ap (λ (r : List (List ℕ)). outer_at (tree_at setting.trees b).part r v) rotation

    -- the family of what is kept with another embedding that has the same rotation system
    pub family-of_put : (lists : List (Option (List ℕ))) → family_of setting (record { entries = changed_es; lists = lists }) ≡ entry_put (family_of setting (record { entries = es; lists = lists })) b new
    family-of_put lists = λ i. record { entries = changed_es; arrangements = map (arrangement i) (numbers_below setting.structure.component_count) }
      where
        lists-same : (k : Component) → lists_kept k (blocks_with trees changed_es) lists ≡ lists_kept k (blocks_with trees es) lists
        lists-same k = same-below (λ i. list_or_first (slice_index_or lists (slice_index k.cuts i) None) (first_around k (blocks_with trees changed_es) i))
            (λ i. list_or_first (slice_index_or lists (slice_index k.cuts i) None) (first_around k (blocks_with trees es) i)) (length k.cuts)
            (λ i h. ap (list_or_first (slice_index_or lists (slice_index k.cuts i) None)) (first-same trees es b old new at l (slice_index k.cuts i) (still (slice_index k.cuts i)) k))

        arrangement : arrangements_kept setting (record { entries = changed_es; lists = lists }) ≡ arrangements_kept setting (record { entries = es; lists = lists })
        arrangement = fun_ext (λ c. ap (λ (x : List (List ℕ)). if is_planar_component setting c then Some x else None) (lists-same (component_at setting c)))

-- ---- from a family to a family

-- lists of a component that are arrangements
by-planar : (k : Component) (block other : ℕ → BlockInPlane) (planar : Bool) (o : Option (List (List ℕ))) (change : List (List ℕ) → List (List ℕ)) → AreArrangements k block planar o
    → ((lists : List (List ℕ)) → planar ≡ true → AreArranged k block lists → AreArranged k other (change lists)) → (u : Option (List (List ℕ))) → ((lists : List (List ℕ)) → o ≡ Some lists → u ≡ Some (change lists)) → (o ≡ None → u ≡ None)
    → AreArrangements k other planar u
by-planar k block other true None change h f u some none = absurd h
by-planar k block other true (Some lists) change h f u some none = subst (AreArrangements k other true) (sym (some lists refl)) (f lists refl h)
by-planar k block other false None change h f u some none = subst (AreArrangements k other false) (sym (none refl)) tt
by-planar k block other false (Some lists) change h f u some none = absurd h

module _ (setting : Setting) (is : IsSetting setting) (family : Family) (right : IsFamily setting family) (b : ℕ) (old new : Embedding) (within : b < length setting.trees) (at : entry_at family b ≡ Some old)
    (entry : IsEntry (tree_at setting.trees b) (certificate_at setting.certificates b) (Some new)) where
  abbrev es_changed : List (Option Embedding)
  es_changed = slice_set family.entries b (Some new)

  there : b < length family.entries
  there = omega (arith, within, right.one_each)

  each_changed : (j : ℕ) → j < length setting.trees → IsEntry (tree_at setting.trees j) (certificate_at setting.certificates j) (slice_index_or (slice_set family.entries b (Some new)) j None)
  each_changed = entries-right setting family.entries b new right.one_each right.each (λ l. entry)

  long : length (slice_set family.entries b (Some new)) ≡ length setting.trees
  long = length-set family.entries b (Some new) ∙ right.one_each

  -- a change of a block
  module _ (before : IsPlaneSystem (tree_at setting.trees b).part.graph old.rotation) (after : IsPlaneSystem (tree_at setting.trees b).part.graph new.rotation) where
    abbrev own : List ℕ
    own = (tree_at setting.trees b).part.vertices

    reset-arranged : (c : ℕ) → c < setting.structure.component_count → (lists : List (List ℕ)) → is_planar_component setting c ≡ true → AreArranged (component_at setting c) (blocks_with setting.trees family.entries) lists
        → AreArranged (component_at setting c) (blocks_with setting.trees es_changed) (lists_reset (component_at setting c) (blocks_with setting.trees es_changed) own lists)
    reset-arranged c h lists planar are = record { one_each = image-length reset_at (length lists) ∙ are.one_each; each = each }
      where
        k : Component
        k = component_at setting c

        reset_at : ℕ → List ℕ
        reset_at i = (if is_member (slice_index k.cuts i) own then first_around k (blocks_with setting.trees es_changed) i else slice_index_or lists i [])

        in-plane : IsComponentInPlane (component_at setting c) (blocks_with setting.trees es_changed)
        in-plane = component-in_plane setting is es_changed each_changed c planar h

        reset-has : (i : ℕ) → i < length k.cuts → Contains (arrangements_around k (blocks_with setting.trees es_changed) (slice_index k.cuts i)) (reset_at i)
        reset-has i j = elim (cases_Bool (is_member (slice_index k.cuts i) own)) [
          | inl m ↦ subst (Contains (arrangements_around k (blocks_with setting.trees es_changed) (slice_index k.cuts i)))
              (sym (cond-true (is_member (slice_index k.cuts i) own) (first_around k (blocks_with setting.trees es_changed) i) (slice_index_or lists i []) m))
              (first-has k (blocks_with setting.trees es_changed) in-plane i j)
          | inr f ↦ subst (Contains (arrangements_around k (blocks_with setting.trees es_changed) (slice_index k.cuts i)))
              (sym (cond-false (is_member (slice_index k.cuts i) own) (first_around k (blocks_with setting.trees es_changed) i) (slice_index_or lists i []) f))
              (subst (λ (a : List (List ℕ)). Contains a (slice_index_or lists i []))
              (sym (arrangements-same setting.trees family.entries b old new at there (slice_index k.cuts i) (order-apart setting is b within old.rotation new.rotation before after (slice_index k.cuts i) f) k)) (are.each i j))
        ]

        each : (i : ℕ) → i < length k.cuts → Contains (arrangements_around k (blocks_with setting.trees es_changed) (slice_index k.cuts i)) (slice_index_or (map reset_at (numbers_below (length lists))) i [])
        each i j = subst (Contains (arrangements_around k (blocks_with setting.trees es_changed) (slice_index k.cuts i))) (sym (image-at reset_at (length lists) i [] (omega (arith, j, are.one_each)))) (reset-has i j)

    pub changed-right : IsFamily setting (family_changed setting family b new)
    changed-right = record {
      one_each = long;
      each = each_changed;
      lists_each = image-length reset (length family.arrangements) ∙ right.lists_each;
      arranged = arranged;
    }
      where
        reset : ℕ → Option (List (List ℕ))
        reset c = lists_reset_in (component_at setting c) (blocks_with setting.trees es_changed) own (arrangements_in family c)

        arranged : (c : ℕ) → c < setting.structure.component_count → AreArrangements (component_at setting c) (blocks_with setting.trees es_changed) (is_planar_component setting c) (arrangements_in (family_changed setting family b new) c)
        arranged c h =
            let k = component_at setting c in
            let block = blocks_with setting.trees es_changed in
            let seen : arrangements_in (family_changed setting family b new) c ≡ reset c = image-at reset (length family.arrangements) c None (omega (arith, h, right.lists_each)) in
            by-planar k (blocks_with setting.trees family.entries) block (is_planar_component setting c) (arrangements_in family c) (lists_reset k block own) (right.arranged c h) (reset-arranged c h) (arrangements_in (family_changed setting family b new) c)
            (λ lists e. seen ∙ ap (lists_reset_in k block own) e) (λ e. seen ∙ ap (lists_reset_in k block own) e)

  -- a lock
  pub put-right : new.rotation ≡ old.rotation → IsFamily setting (entry_put family b new)
  put-right rotation = record {
    one_each = long;
    each = each_changed;
    lists_each = right.lists_each;
    arranged = arranged;
  }
    where
      still_arranged : (c : ℕ) (lists : List (List ℕ)) → AreArranged (component_at setting c) (blocks_with setting.trees family.entries) lists → AreArranged (component_at setting c) (blocks_with setting.trees es_changed) lists
      still_arranged c lists are = record {
        one_each = are.one_each;
        each = λ i j.
            let k = component_at setting c in
            let v = slice_index k.cuts i in
            subst (λ (a : List (List ℕ)). Contains a (slice_index_or lists i []))
            (sym (arrangements-same setting.trees family.entries b old new at there v (ap (λ (r : List (List ℕ)). outer_at (tree_at setting.trees b).part r v) rotation) k)) (are.each i j);
      }

      arranged : (c : ℕ) → c < setting.structure.component_count → AreArrangements (component_at setting c) (blocks_with setting.trees es_changed) (is_planar_component setting c) (arrangements_in family c)
      arranged c h = by-planar (component_at setting c) (blocks_with setting.trees family.entries) (blocks_with setting.trees es_changed) (is_planar_component setting c) (arrangements_in family c) (λ lists. lists) (right.arranged c h)
          (λ lists planar are. still_arranged c lists are) (arrangements_in family c) (λ lists e. e) (λ e. e)

-- ---- at the start

module _ (setting : Setting) (is : IsSetting setting) (es : List (Option Embedding)) (n : ℕ) (long : length es ≡ length setting.trees)
    (each : (j : ℕ) → j < length setting.trees → IsEntry (tree_at setting.trees j) (certificate_at setting.certificates j) (slice_index_or es j None)) where
  abbrev start : Kept
  start = record { entries = es; lists = replicate n None }

  -- the lists that are kept are the first arrangements
  lists-first : (k : Component) → lists_kept k (blocks_with setting.trees es) (replicate n None) ≡ first_lists k (blocks_with setting.trees es)
  lists-first k = same-below (λ i. list_or_first (slice_index_or (replicate n None) (slice_index k.cuts i) None) (first_around k (blocks_with setting.trees es) i)) (first_around k (blocks_with setting.trees es)) (length k.cuts)
      (λ i h. ap (λ (o : Option (List ℕ)). list_or_first o (first_around k (blocks_with setting.trees es) i)) (none-kept n (slice_index k.cuts i)))

  first-arranged : (c : ℕ) → c < setting.structure.component_count → is_planar_component setting c ≡ true → AreArranged (component_at setting c) (blocks_with setting.trees es) (first_lists (component_at setting c) (blocks_with setting.trees es))
  first-arranged c h planar =
      let k = component_at setting c in
      let block = blocks_with setting.trees es in record {
        one_each = image-length (first_around k block) (length k.cuts);
        each = λ i j. subst (Contains (arrangements_around k block (slice_index k.cuts i))) (sym (image-at (first_around k block) (length k.cuts) i [] j)) (first-has k block (component-in_plane setting is es each c planar h) i j);
      }

  pub start-right : IsFamily setting (family_of setting (record { entries = es; lists = replicate n None }))
  start-right = record { one_each = long; each = each; lists_each = image-length (arrangements_kept setting start) setting.structure.component_count; arranged = arranged }
    where
      by : (c : ℕ) (planar : Bool) → (planar ≡ true → AreArranged (component_at setting c) (blocks_with setting.trees es) (lists_kept (component_at setting c) (blocks_with setting.trees es) (replicate n None)))
          → AreArrangements (component_at setting c) (blocks_with setting.trees es) planar (if planar then Some (lists_kept (component_at setting c) (blocks_with setting.trees es) (replicate n None)) else None)
      by c true f = f refl
      by c false f = tt

      arranged : (c : ℕ) → c < setting.structure.component_count → AreArrangements (component_at setting c) (blocks_with setting.trees es) (is_planar_component setting c) (arrangements_in (family_of setting start) c)
      arranged c h = subst (AreArrangements (component_at setting c) (blocks_with setting.trees es) (is_planar_component setting c)) (sym (kept-arrangements setting start c h))
          (by c (is_planar_component setting c) (λ planar. subst (AreArranged (component_at setting c) (blocks_with setting.trees es)) (sym (lists-first (component_at setting c))) (first-arranged c h planar)))

  -- each component whose blocks are planar has the first ones
  pub start-first : (c : ℕ) (lists : List (List ℕ)) → c < setting.structure.component_count → arrangements_in (family_of setting (record { entries = es; lists = replicate n None })) c ≡ Some lists
      → lists ≡ first_lists (component_at setting c) (blocks_with setting.trees es)
  start-first c lists h e = by (is_planar_component setting c) (sym (kept-arrangements setting start c h) ∙ e)
    where
      by : (planar : Bool) → (if planar then Some (lists_kept (component_at setting c) (blocks_with setting.trees es) (replicate n None)) else None) ≡ Some lists → lists ≡ first_lists (component_at setting c) (blocks_with setting.trees es)
      by true q = (let same : lists_kept (component_at setting c) (blocks_with setting.trees es) (replicate n None) ≡ lists = cc in sym same) ∙ lists-first (component_at setting c)
      by false q = absurd (let both : None ≡ Some lists = q in cc)
