-- `convertwhole`: there is an answer, and one only, and it leads from a state to a state.
use Rattle.std.proofs.Common.{◌≡◌, ℕ, ◌≤◌, List, inl, inr, refl, sym, ap, ◌∙◌, subst, arith}
use Rattle.std.proofs.lemmas.Bool.{cases_Bool, cases_lt}
use Rattle.whole_convert.specs.Between.{whole_moves_between}
use Rattle.spqr_session.specs.Setting.{Setting, IsSetting}
use Rattle.spqr_session.specs.State.{State, arrangements_in, component_at, is_planar_component, IsState}
use Rattle.spqr_session.specs.Codes.{code_text, IsLowest}
use Rattle.spqr_session.specs.BlockCodes.{with_family}
use Rattle.spqr_session.specs.Components.{blocks_of, family_with, ChangesComponent}
use Rattle.spqr_session.specs.Commands.ConvertWhole.{steps_text, ConvertWholeApplies, IsWholeConverted, ConvertWholeStep}
use Rattle.spqr_session.specs.declared.code.Code.{Code}
use Rattle.spqr_session.specs.declared.code.Code.TheVariants.{NonPlanar, NoComponent}
use Rattle.spqr_session.proofs.Carried.{DoesOne, carries-one}
use Rattle.spqr_session.proofs.ComponentParts.{family-lists}
use Rattle.spqr_session.proofs.WholeFamilies.{with-family}
use Rattle.spqr_session.proofs.WholeWalks.{IsThere, lists-there, one-some, family-keeps}
use Rattle.spqr_session.proofs.WholeTakings.{given-same, whole-tells, outside-lowest, nonplanar-lowest, IsMember, lists-found, member-none}

module _ (setting : Setting) (c : ℕ) (entries : List (ℕ × List ℕ)) (s : State) (is : IsSetting setting) (right : IsState setting s) where
  abbrev applies : Code → Type 0
  applies = ConvertWholeApplies setting c entries s

  abbrev does : State → List ℕ → State → Type 0
  does = ChangesComponent setting c (IsWholeConverted setting c entries s.present)

  refused : (code : Code) → IsLowest applies code → (text : List ℕ) × (after : State) × ConvertWholeStep setting c entries s text after
  refused code lowest = (code_text code, s, inl (record { code = code; lowest = lowest; line = refl; stays = refl }))

  converted : (there : IsThere setting c) → IsMember setting c entries s is there right → (text : List ℕ) × (after : State) × ConvertWholeStep setting c entries s text after
  converted there m =
      let w = family-lists setting s.present right.present c there.within there.planar in (
        steps_text setting (whole_moves_between (component_at setting c) (blocks_of setting s.present) w.0 m.system),
        with_family s (family_with setting c m.system s.present),
        inr (
          member-none setting c entries s is there right m.system m.given m.member,
          record {
            lists = w.0;
            present = w.1;
            system = m.system;
            change = record { given = m.given; member = m.member; answer = refl };
            after_is = refl;
          },
        ),
      )

  planar-answers : IsThere setting c → (text : List ℕ) × (after : State) × ConvertWholeStep setting c entries s text after
  planar-answers there = elim (lists-found setting c entries s is there right) [
    | inl found ↦ refused found.0 found.1
    | inr m ↦ converted there m
  ]

  pub convert_whole-answers : (text : List ℕ) × (after : State) × ConvertWholeStep setting c entries s text after
  convert_whole-answers = elim (cases_lt c setting.structure.component_count) [
    | inl l ↦ elim (cases_Bool (is_planar_component setting c)) [
      | inl t ↦ planar-answers (record { within = l; planar = t })
      | inr f ↦ refused NonPlanar (nonplanar-lowest setting c entries s is l f)
    ]
    | inr n ↦ refused NoComponent (outside-lowest setting c entries s is (let out : setting.structure.component_count ≤ c = omega (arith, n) in out))
  ]

  converted-one : DoesOne (ChangesComponent setting c (IsWholeConverted setting c entries s.present)) s
  converted-one t u after other p q =
      let lists : p.lists ≡ q.lists = one-some p.lists q.lists (arrangements_in s.present c) p.present q.present in
      let system : p.system ≡ q.system = given-same setting c entries s is p.system q.system p.change.given q.change.given in (
        p.change.answer ∙ (λ i. steps_text setting (whole_moves_between (component_at setting c) (blocks_of setting s.present) (lists i) (system i))) ∙ sym q.change.answer,
        p.after_is ∙ ap (λ (z : List (List ℕ)). with_family s (family_with setting c z s.present)) system ∙ sym q.after_is,
      )

  pub convert_whole-one : (t u : List ℕ) (after other : State) → ConvertWholeStep setting c entries s t after → ConvertWholeStep setting c entries s u other → (t ≡ u) × (after ≡ other)
  convert_whole-one t u after other p q = carries-one applies does s t u after other (whole-tells setting c entries s is) converted-one p q

  pub convert_whole-keeps : (text : List ℕ) (after : State) → ConvertWholeStep setting c entries s text after → IsState setting after
  convert_whole-keeps text after (inl p) = subst (IsState setting) (sym p.stays) right
  convert_whole-keeps text after (inr p) =
      let h = p.1 in
      let there = lists-there setting s.present c h.lists right.present h.present in
      subst (IsState setting) (sym h.after_is) (family-keeps setting s (family_with setting c h.system s.present) right (with-family setting s.present c h.system is right.present there.within there.planar h.change.member))
