-- A step of the walk through the list of a component of a family.
use Rattle.std.proofs.Common.{◌≡◌, ℕ, ◌+◌, ◌<◌, List, [], length, map, Some, inl, inr, refl, sym, ap, ◌∙◌, subst, arith}
use Rattle.std.proofs.lemmas.List.{length-map, get_or-map, ext_get_or}
use Rattle.skeletons.specs.Lists.{IsRank}
use Rattle.embed_enum.proofs.Places.{rank-contains}
use Rattle.whole_embed.specs.declared.members.Member.{Member}
use Rattle.whole_embed.specs.Component.{Component, BlockInPlane, IsComponentInPlane}
use Rattle.whole_embed.specs.Around.{outer_at}
use Rattle.whole_embed.specs.Cuts.{CutState, blocks_in, HavePlanes}
use Rattle.whole_embed.specs.Whole.{AreArranged, whole_system, IsWholeMember, IsWholeList}
use Rattle.whole_embed.specs.Walk.{KeepsBlocks}
use Rattle.whole_embed.proofs.Assembling.{whole_has_parts, whole_has_arrangements}
use Rattle.whole_embed.proofs.ListExists.{list_exists, whole_has_rank}
use Rattle.whole_convert.specs.Between.{blocks_to}
use Rattle.spqr_script.specs.Answers.Change.{ok_text, end_text}
use Rattle.spqr_session.specs.Setting.{Setting}
use Rattle.spqr_session.specs.State.{Family, State, arrangements_in, component_at}
use Rattle.spqr_session.specs.BlockCodes.{with_family}
use Rattle.spqr_session.specs.Components.{blocks_of, family_with}
use Rattle.spqr_session.specs.Commands.NextWhole.{AreWholeMembers, present_system, IsWholeEnd, IsWholeNext, NextWholeDoes}
use Rattle.spqr_session.specs.WholeSteps.{system_now, AreTogether, IsListNow, IsWholeTarget}
use Rattle.spqr_session.proofs.KeptWholes.{walked-blocks}

-- the component, its blocks and its lists, as calls have them
pub record IsPresent (setting : Setting) (c : ℕ) (family : Family) (cuts : CutState) (all : List Member) : Type 0 where
  pub component : cuts.component ≡ component_at setting c
  pub blocks : blocks_in all ≡ blocks_of setting family
  pub present : arrangements_in family c ≡ Some cuts.lists
  pub together : AreTogether cuts all

module _ (setting : Setting) (c : ℕ) (family : Family) (cuts : CutState) (all : List Member) (is : IsPresent setting c family cuts all) where
  list-back : (l : List (List (List ℕ))) → AreWholeMembers setting c family l → IsWholeList cuts.component (blocks_in all) l
  list-back l a = subst (λ (z : Component). IsWholeList z (blocks_in all) l) (sym is.component) (subst (λ (z : ℕ → BlockInPlane). IsWholeList (component_at setting c) z l) (sym is.blocks) a)

  rank-back : (l : List (List (List ℕ))) (i : ℕ) → IsRank l (present_system setting c family cuts.lists) i → IsRank l (system_now cuts all) i
  rank-back l i r = subst (λ (z : Component). IsRank l (whole_system z (blocks_in all) cuts.lists) i) (sym is.component) (subst (λ (z : ℕ → BlockInPlane). IsRank l (whole_system (component_at setting c) z cuts.lists) i) (sym is.blocks) r)

  pub list-now : (l : List (List (List ℕ))) (i : ℕ) → AreWholeMembers setting c family l → IsRank l (present_system setting c family cuts.lists) i → IsListNow cuts all l i
  list-now l i a r = record { list = list-back l a; rank = rank-back l i r }

  -- at the last member the state stays
  pub walk-ends : (s : State) → s.present ≡ family → ((l : List (List (List ℕ))) (i : ℕ) → IsWholeList cuts.component (blocks_in all) l → IsRank l (system_now cuts all) i → i + 1 ≡ length l) → (text : List ℕ) → text ≡ end_text
      → NextWholeDoes setting c s text s
  walk-ends s e last text t = inl (record {
    lists = cuts.lists;
    present = ap (λ (f : Family). arrangements_in f c) e ∙ is.present;
    answer = subst (λ (f : Family). IsWholeEnd setting c f cuts.lists text) (sym e) (λ l i a r. sym (last l i (list-back l a) (rank-back l i r)), t);
    stays = refl;
  })

  -- blocks and lists of the member that follows
  module _ (new : CutState) (new_all : List Member) (same : new.component ≡ cuts.component) (right : AreTogether new new_all) (rest : KeepsBlocks cuts.component all new_all)
      (next : (l : List (List (List ℕ))) (i : ℕ) → IsWholeList cuts.component (blocks_in all) l → IsRank l (system_now cuts all) i → IsRank l (system_now new new_all) (i + 1)) where
    abbrev k : Component
    k = component_at setting c

    abbrev q : List (List ℕ)
    q = system_now new new_all

    at : new.component ≡ k
    at = same ∙ is.component

    next-here : (l : List (List (List ℕ))) (i : ℕ) → AreWholeMembers setting c family l → IsRank l (present_system setting c family cuts.lists) i → IsRank l q (i + 1)
    next-here l i a r = next l i (list-back l a) (rank-back l i r)

    plane : IsComponentInPlane k (blocks_of setting family)
    plane = subst (λ (z : ℕ → BlockInPlane). IsComponentInPlane k z) is.blocks (subst (λ (z : Component). IsComponentInPlane z (blocks_in all)) is.component is.together.in_plane)

    arranged : AreArranged k (blocks_of setting family) cuts.lists
    arranged = subst (λ (z : ℕ → BlockInPlane). AreArranged k z cuts.lists) is.blocks (subst (λ (z : Component). AreArranged z (blocks_in all) cuts.lists) is.component is.together.arranged)

    member : IsWholeMember k (blocks_of setting family) q
    member =
        let l = list_exists k (blocks_of setting family) plane in
        let r = whole_has_rank k (blocks_of setting family) cuts.lists l.0 plane arranged l.1 in
        (l.1.members q).0 (rank-contains l.0 q (r.0 + 1) (next-here l.0 r.0 l.1 r.1))

    blocks : blocks_in new_all ≡ blocks_to k (blocks_of setting family) q
    blocks =
        walked-blocks new.component all new_all q (subst (λ (z : Component). HavePlanes z all) (sym same) is.together.planes) (subst (λ (z : Component). KeepsBlocks z all new_all) (sym same) rest)
        (λ b m. whole_has_parts new.component (blocks_in new_all) new.lists right.in_plane right.arranged b m)
        ∙ (λ i. blocks_to (at i) (is.blocks i) q)

    lists : new.lists ≡ map (outer_at k.part q) k.cuts
    lists = ext_get_or [] new.lists (map (outer_at new.component.part q) new.component.cuts) (right.arranged.one_each ∙ sym (length-map new.component.cuts (outer_at new.component.part q))) (λ i l.
        let m : i < length new.component.cuts = omega (arith, l, right.arranged.one_each) in
        sym (whole_has_arrangements new.component (blocks_in new_all) new.lists right.in_plane right.arranged i m) ∙ sym (get_or-map (outer_at new.component.part q) new.component.cuts i 0 [] m))
        ∙ ap (λ (z : Component). map (outer_at z.part q) z.cuts) at

    pub walk-target : IsWholeTarget setting c family (system_now new new_all) new new_all
    walk-target = record {
      member = member;
      component = at;
      blocks = blocks;
      lists = lists;
      in_plane = right.in_plane;
      planes = right.planes;
    }

    -- the component goes there
    pub walk-on : (s after : State) (text : List ℕ) → s.present ≡ family → text ≡ ok_text → after ≡ with_family s (family_with setting c (system_now new new_all) family) → NextWholeDoes setting c s text after
    walk-on s after text e t a = inr (record {
      lists = cuts.lists;
      present = ap (λ (f : Family). arrangements_in f c) e ∙ is.present;
      system = q;
      change = subst (λ (f : Family). IsWholeNext setting c f cuts.lists q text) (sym e) (next-here, t);
      after_is = a ∙ ap (λ (f : Family). with_family s (family_with setting c q f)) (sym e);
    })
