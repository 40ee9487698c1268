-- A session has one start: a block has one first plane rotation system, and lists are one rotation system only.
use Rattle.std.proofs.Common.{◌≡◌, ℕ, ◌<◌, Bool, true, false, List, length, Option, None, Some, refl, sym, ap, ◌∙◌, subst}
use Rattle.std.proofs.lemmas.Bool.{false_from_ne_true}
use Rattle.std.proofs.lemmas.List.{ext_get_or}
use Rattle.multigraph.specs.Graph.{Multigraph}
use Rattle.multigraph.specs.Part.{IsNumbered}
use Rattle.kuratowski.specs.declared.subdivision.Subdivision.{Subdivision}
use Rattle.pair_split.specs.Tutte.{Node}
use Rattle.skeletons.specs.Items as items
use Rattle.skeletons.specs.Choices.{precedes}
use Rattle.skeletons.proofs.Before.{neither-below, precedes-tested}
use Rattle.skeleton_choices.proofs.Told.{tell}
use Rattle.skel_embed.specs.First.{IsFirst}
use Rattle.spqr_session.specs.Trees.{BlockTree, tree_at}
use Rattle.spqr_session.specs.Certificates.{certificate_at}
use Rattle.spqr_session.specs.Setting.{Setting, IsSetting}
use Rattle.spqr_session.specs.Start.{start_entries, StartsAt}
use Rattle.whole_embed.specs.Component.{Component, BlockInPlane}
use Rattle.spqr_session.specs.State.{Embedding, State, entry_at, arrangements_in, component_at, is_planar_component, blocks_with, AreArrangements, first_lists, IsEntry, IsStartEntry, IsStart}
use Rattle.spqr_session.proofs.GivenParts.{given-one}
use Rattle.spqr_session.proofs.SettingTrees.{setting-tree, setting-numbered}

-- two first ones are the same: neither precedes the other, so they have the same choices
first-one : (g : Multigraph) (nodes : List Node) (r q : List (List ℕ)) → items.IsBlockTree g nodes → IsFirst g nodes r → IsFirst g nodes q → r ≡ q
first-one g nodes r q is f h =
    tell g nodes is r q f.plane h.plane (neither-below nodes r q (length nodes)
    (false_from_ne_true (precedes nodes r q) (λ t. h.none_before r f.plane ((precedes-tested nodes r q).1 t)))
    (false_from_ne_true (precedes nodes q r) (λ t. f.none_before q h.plane ((precedes-tested nodes q r).1 t))))

-- so are two that the lists of a start are
starts-one : (start : Option (List (List ℕ))) (tree : BlockTree) (r q : List (List ℕ)) → items.IsBlockTree tree.part.graph tree.nodes → IsNumbered tree.part → StartsAt start tree r → StartsAt start tree q → r ≡ q
starts-one None tree r q is numbered f h = first-one tree.part.graph tree.nodes r q is f h
starts-one (Some lists) tree r q is numbered f h = given-one tree.part (start_entries tree.part lists) numbered r q f h

module _ (start : Option (List (List ℕ))) (tree : BlockTree) (is : items.IsBlockTree tree.part.graph tree.nodes) (numbered : IsNumbered tree.part) where
  -- entries of a block at the start are the same
  entries-one : (certificate : Option Subdivision) (o u : Option Embedding) → IsEntry tree certificate o → IsEntry tree certificate u → IsStartEntry start tree o → IsStartEntry start tree u → o ≡ u
  entries-one (Some s) None None p q f h = refl
  entries-one (Some s) None (Some e) p q f h = absurd q
  entries-one (Some s) (Some e) u p q f h = absurd p
  entries-one None None u p q f h = absurd p
  entries-one None (Some e) None p q f h = absurd q
  entries-one None (Some e) (Some d) p q f h =
      let rotation : e.rotation ≡ d.rotation = starts-one start tree e.rotation d.rotation is numbered f.0 h.0 in
      let locks : e.locks ≡ d.locks = f.1 ∙ sym h.1 in
      λ i. Some (record { rotation = rotation i; locks = locks i })

-- arrangements that are the first ones are the same
firsts-one : (k : Component) (block : ℕ → BlockInPlane) (planar : Bool) (o u : Option (List (List ℕ))) → AreArrangements k block planar o → AreArrangements k block planar u
    → ((lists : List (List ℕ)) → o ≡ Some lists → lists ≡ first_lists k block) → ((lists : List (List ℕ)) → u ≡ Some lists → lists ≡ first_lists k block) → o ≡ u
firsts-one k block true None u p q f h = absurd p
firsts-one k block true (Some x) None p q f h = absurd q
firsts-one k block true (Some x) (Some y) p q f h = ap (λ (z : List (List ℕ)). Some z) (f x refl ∙ sym (h y refl))
firsts-one k block false None None p q f h = refl
firsts-one k block false None (Some y) p q f h = absurd q
firsts-one k block false (Some x) u p q f h = absurd p

pub start-one : (setting : Setting) (a b : State) → IsSetting setting → IsStart setting a → IsStart setting b → a ≡ b
start-one setting a b is p q = λ i. record { present = record { entries = entries i; arrangements = arrangements i }; earlier = earlier i; later = later i }
  where
    entries : a.present.entries ≡ b.present.entries
    entries = ext_get_or None a.present.entries b.present.entries (p.right.present.one_each ∙ sym q.right.present.one_each)
        (λ k l. let m : k < length setting.trees = subst (λ (n : ℕ). k < n) p.right.present.one_each l in
        entries-one setting.named.start (tree_at setting.trees k) (setting-tree setting is k m) (setting-numbered setting is k m) (certificate_at setting.certificates k) (entry_at a.present k) (entry_at b.present k)
        (p.right.present.each k m) (q.right.present.each k m) (p.starts k m) (q.starts k m))

    arrangements : a.present.arrangements ≡ b.present.arrangements
    arrangements = ext_get_or None a.present.arrangements b.present.arrangements (p.right.present.lists_each ∙ sym q.right.present.lists_each)
        (λ c l. let m : c < setting.structure.component_count = subst (λ (n : ℕ). c < n) p.right.present.lists_each l in
        firsts-one (component_at setting c) (blocks_with setting.trees a.present.entries) (is_planar_component setting c) (arrangements_in a.present c) (arrangements_in b.present c) (p.right.present.arranged c m)
        (subst (λ (es : List (Option Embedding)). AreArrangements (component_at setting c) (blocks_with setting.trees es) (is_planar_component setting c) (arrangements_in b.present c)) (sym entries) (q.right.present.arranged c m))
        (λ lists e. p.first c lists m e)
        (λ lists e. subst (λ (es : List (Option Embedding)). lists ≡ first_lists (component_at setting c) (blocks_with setting.trees es)) (sym entries) (q.first c lists m e)))

    earlier : a.earlier ≡ b.earlier
    earlier = p.earlier ∙ sym q.earlier

    later : a.later ≡ b.later
    later = p.later ∙ sym q.later
