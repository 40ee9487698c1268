-- `regroup`: it has one answer, and leads from a state to a state.
use Rattle.std.proofs.Common.{◌≡◌, ℕ, ◌<◌, Bool, true, List, [], slice_index, slice_index_or, slice_set, Option, None, inl, inr, refl, sym, ◌∙◌, subst, arith, Contains}
use Rattle.std.proofs.lemmas.Bool.{cases_eq}
use Rattle.std.proofs.lemmas.List.{length-set, get_or-set_same, get_or-set_other}
use Rattle.std.proofs.lemmas.List.Elements.{All-cons, All-nil}
use Rattle.permutations.specs.Members.{is_member, place_of}
use Rattle.permutations.specs.Cyclic.{from_least}
use Rattle.permutations.proofs.Places.{place-below, place-holds}
use Rattle.whole_embed.specs.Component.{Component, BlockInPlane}
use Rattle.whole_embed.specs.Around.{arrangements_around}
use Rattle.whole_embed.specs.Whole.{AreArranged}
use Rattle.spqr_script.specs.Answers.Change.{ok_text}
use Rattle.spqr_session.specs.Setting.{Setting, IsSetting}
use Rattle.spqr_session.specs.State.{Family, State, arrangements_in, IsFamily, IsState, component_at, is_planar_component, AreArrangements}
use Rattle.spqr_session.specs.Codes.{code_text}
use Rattle.spqr_session.specs.BlockCodes.{with_family}
use Rattle.spqr_session.specs.Components.{blocks_of}
use Rattle.spqr_session.specs.Commands.Regroup.{component_number, lists_put, list_put, RegroupApplies, Regroups, RegroupStep}
use Rattle.spqr_session.proofs.Carried.{carries-one}
use Rattle.spqr_session.proofs.ComponentParts.{component-below, cut-there, lists-there}
use Rattle.spqr_session.proofs.RegroupCodes.{regroup-tells, arranged-none, regroup-found}

-- arrangements with another one at a cut vertex
pub arranged-put : (k : Component) (block : ℕ → BlockInPlane) (v : ℕ) (l : List ℕ) (lists : List (List ℕ)) → AreArranged k block lists → is_member v k.cuts ≡ true → Contains (arrangements_around k block v) l → AreArranged k block (slice_set lists (place_of k.cuts v) l)
arranged-put k block v l lists are m has = record {
  one_each = length-set lists (place_of k.cuts v) l ∙ are.one_each;
  each = λ i h. elim (cases_eq i (place_of k.cuts v)) [
    | inl e ↦ subst (λ (j : ℕ). Contains (arrangements_around k block (slice_index k.cuts j)) (slice_index_or (slice_set lists (place_of k.cuts v) l) j [])) (sym e)
        (subst (λ (x : ℕ). Contains (arrangements_around k block x) (slice_index_or (slice_set lists (place_of k.cuts v) l) (place_of k.cuts v) [])) (sym (place-holds k.cuts v m))
        (subst (Contains (arrangements_around k block v)) (sym (get_or-set_same lists (place_of k.cuts v) l [] (omega (arith, place-below k.cuts v m, are.one_each)))) has))
    | inr n ↦ subst (Contains (arrangements_around k block (slice_index k.cuts i))) (sym (get_or-set_other lists (place_of k.cuts v) i l [] n)) (are.each i h)
  ];
}

-- so too where they are those of a component
put-right : (k : Component) (block : ℕ → BlockInPlane) (planar : Bool) (v : ℕ) (l : List ℕ) (o : Option (List (List ℕ))) → planar ≡ true → AreArrangements k block planar o → is_member v k.cuts ≡ true → Contains (arrangements_around k block v) l
    → AreArrangements k block planar (lists_put k v l o)
put-right k block planar v l o t h m has =
    let w = lists-there k block planar o t h in
    subst (λ (p : Bool). AreArrangements k block p (lists_put k v l o)) (sym t) (subst (λ (x : Option (List (List ℕ))). AreArrangements k block true (lists_put k v l x)) (sym w.1) (arranged-put k block v l w.0 w.2 m has))

-- a family with another arrangement at a cut vertex
pub put-family : (setting : Setting) (family : Family) (v : ℕ) (l : List ℕ) → IsSetting setting → IsFamily setting family → is_member v setting.structure.cut_vertices ≡ true → is_planar_component setting (component_number setting v) ≡ true
    → Contains (arrangements_around (component_at setting (component_number setting v)) (blocks_of setting family) v) l → IsFamily setting (list_put setting v l family)
put-family setting family v l is right m t has = record {
  one_each = right.one_each;
  each = right.each;
  lists_each = length-set family.arrangements at new ∙ right.lists_each;
  arranged = λ c h. elim (cases_eq c at) [
    | inl e ↦ subst (λ (x : ℕ). AreArrangements (component_at setting x) (blocks_of setting family) (is_planar_component setting x) (slice_index_or (slice_set family.arrangements at new) x None)) (sym e)
        (subst (AreArrangements (component_at setting at) (blocks_of setting family) (is_planar_component setting at)) (sym (get_or-set_same family.arrangements at new None (omega (arith, below, right.lists_each))))
        (put-right (component_at setting at) (blocks_of setting family) (is_planar_component setting at) v l (arrangements_in family at) t (right.arranged at below) (cut-there setting is v m) has))
    | inr n ↦ subst (AreArrangements (component_at setting c) (blocks_of setting family) (is_planar_component setting c)) (sym (get_or-set_other family.arrangements at c new None n)) (right.arranged c h)
  ];
}
  where
    at : ℕ
    at = component_number setting v

    below : component_number setting v < setting.structure.component_count
    below = component-below setting is v (is.structure.cut_vertices.vertices v m)

    new : Option (List (List ℕ))
    new = lists_put (component_at setting (component_number setting v)) v l (arrangements_in family (component_number setting v))

module _ (setting : Setting) (v : ℕ) (edges : List ℕ) (s : State) (is : IsSetting setting) (right : IsState setting s) where
  pub regroup-answers : (text : List ℕ) × (after : State) × RegroupStep setting v edges s text after
  regroup-answers = elim (regroup-found setting v edges s is right.present.each) [
    | inl found ↦ (code_text found.0, s, inl (record { code = found.0; lowest = found.1; line = refl; stays = refl }))
    | inr found ↦ (
      ok_text,
      with_family s (list_put setting v (from_least edges) s.present),
      inr (arranged-none setting v edges s is right.present.each found.0 found.1, record { orders = found.0; arranged = found.1; after_is = refl; answer = refl }),
    )
  ]

  pub regroup-one : (t u : List ℕ) (after other : State) → RegroupStep setting v edges s t after → RegroupStep setting v edges s u other → (t ≡ u) × (after ≡ other)
  regroup-one t u after other p q = carries-one (RegroupApplies setting v edges s) (Regroups setting v edges) s t u after other (regroup-tells setting v edges s) (λ x y a b m n. (m.answer ∙ sym n.answer, m.after_is ∙ sym n.after_is)) p q

  pub regroup-keeps : (text : List ℕ) (after : State) → RegroupStep setting v edges s text after → IsState setting after
  regroup-keeps text after (inl p) = subst (IsState setting) (sym p.stays) right
  regroup-keeps text after (inr p) = let r = p.1 in
      let o = r.orders in
      subst (IsState setting) (sym r.after_is) (record {
        present = put-family setting s.present v (from_least edges) is right.present o.cut o.planar r.arranged;
        earlier = All-cons (IsFamily setting) s.present s.earlier right.present right.earlier;
        later = All-nil (IsFamily setting);
      })
