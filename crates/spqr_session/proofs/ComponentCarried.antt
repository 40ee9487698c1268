-- Commands that name a component: the codes of their ladder, that they do one thing, and what they leave.
use Rattle.std.proofs.Common.{◌≡◌, ℕ, ◌<◌, ◌≤◌, Bool, true, false, not, ◌&&◌, List, [], ◌∷◌, None, Some, inl, inr, refl, sym, ap, ◌∙◌, subst, arith}
use Rattle.std.proofs.lemmas.Bool.{ltb-true, lt-ltb, true≢false, false_from_ne_true}
use Rattle.spqr_session.specs.Setting.{Setting}
use Rattle.spqr_session.specs.State.{State, arrangements_in, IsFamily, IsState, is_planar_component}
use Rattle.spqr_session.specs.Codes.{Ladder, Applies, Carries, rises_above, first_code}
use Rattle.spqr_session.specs.Components.{is_component, component_ladder, ReadsComponent}
use Rattle.spqr_session.specs.declared.code.Code.TheVariants.{NonPlanar, NoComponent}
use Rattle.spqr_session.proofs.Carried.{DoesOne}
use Rattle.spqr_session.proofs.Ladders.{rung-hit, rung-missed, rung-none, ladder-answers, ladder-one}
use Rattle.spqr_session.proofs.ComponentParts.{family-lists}

module _ (setting : Setting) (c : ℕ) where
  abbrev planar : Bool
  planar = is_planar_component setting c

  abbrev outside : Ladder
  outside = (NoComponent, not (is_component setting c)) ∷ []

  -- the codes rise
  pub component-rises : rises_above 0 (component_ladder setting c) ≡ true
  component-rises = refl

  -- the first code of a component that is there, whose blocks are planar or not, and of none
  pub no-component : setting.structure.component_count ≤ c → first_code (component_ladder setting c) ≡ Some NoComponent
  no-component l =
      let out : is_component setting c ≡ false = false_from_ne_true (is_component setting c) (λ t. omega (arith, l, ltb-true c setting.structure.component_count t)) in
      rung-missed NonPlanar (is_component setting c && not planar) outside (Some NoComponent) (ap (λ (t : Bool). t && not planar) out) (rung-hit NoComponent (not (is_component setting c)) [] (ap not out))

  pub not-planar : c < setting.structure.component_count → is_planar_component setting c ≡ false → first_code (component_ladder setting c) ≡ Some NonPlanar
  not-planar l f =
      let in_it : is_component setting c ≡ true = lt-ltb c setting.structure.component_count l in
      rung-hit NonPlanar (is_component setting c && not planar) outside (ap (λ (t : Bool). t && not planar) in_it ∙ ap not f)

  pub planar-there : c < setting.structure.component_count → is_planar_component setting c ≡ true → first_code (component_ladder setting c) ≡ None
  planar-there l t =
      let in_it : is_component setting c ≡ true = lt-ltb c setting.structure.component_count l in
      rung-missed NonPlanar (is_component setting c && not planar) outside None (ap (λ (x : Bool). x && not planar) in_it ∙ ap not t)
      (rung-missed NoComponent (not (is_component setting c)) [] None (ap not in_it) refl)

  -- where no code applies the component is there, and its blocks are planar
  pub component-there : first_code (component_ladder setting c) ≡ None → (c < setting.structure.component_count) × (is_planar_component setting c ≡ true)
  component-there e =
      let one = rung-none NonPlanar (is_component setting c && not planar) outside e in
      let two = rung-none NoComponent (not (is_component setting c)) [] one.1 in
      there (is_component setting c) planar refl refl one.0 two.0
    where
      there : (i p : Bool) → is_component setting c ≡ i → is_planar_component setting c ≡ p → (i && not p) ≡ false → not i ≡ false → (c < setting.structure.component_count) × (is_planar_component setting c ≡ true)
      there true true q r a b = (ltb-true c setting.structure.component_count q, r)
      there true false q r a b = absurd (true≢false a)
      there false p q r a b = absurd (true≢false b)

  module _ (IsAbout : List (List ℕ) → List ℕ → Type 0) (s : State) where
    -- a command that reads has an answer, where there is one about the lists
    pub reads-answers : IsFamily setting s.present → ((lists : List (List ℕ)) → arrangements_in s.present c ≡ Some lists → c < setting.structure.component_count → is_planar_component setting c ≡ true → (text : List ℕ) × IsAbout lists text)
        → (text : List ℕ) × (after : State) × Carries (Applies (component_ladder setting c)) (ReadsComponent c IsAbout) s text after
    reads-answers right each = ladder-answers (component_ladder setting c) component-rises (ReadsComponent c IsAbout) s (λ n.
        let h = component-there n in
        let w = family-lists setting s.present right c h.0 h.1 in
        let a = each w.0 w.1 h.0 h.1 in
        (a.0, s, record { lists = w.0; present = w.1; answer = a.1; stays = refl }))

    -- and one only, where there is only one about them
    reads-does : ((lists : List (List ℕ)) → arrangements_in s.present c ≡ Some lists → (t u : List ℕ) → IsAbout lists t → IsAbout lists u → t ≡ u) → DoesOne (ReadsComponent c IsAbout) s
    reads-does one t u after other p q =
        let same : p.lists ≡ q.lists = (let both : Some p.lists ≡ Some q.lists = sym p.present ∙ q.present in cc) in
        (one q.lists q.present t u (subst (λ (l : List (List ℕ)). IsAbout l t) same p.answer) q.answer, p.stays ∙ sym q.stays)

    pub reads-one : ((lists : List (List ℕ)) → arrangements_in s.present c ≡ Some lists → (t u : List ℕ) → IsAbout lists t → IsAbout lists u → t ≡ u) → (t u : List ℕ) (after other : State)
        → Carries (Applies (component_ladder setting c)) (ReadsComponent c IsAbout) s t after → Carries (Applies (component_ladder setting c)) (ReadsComponent c IsAbout) s u other → (t ≡ u) × (after ≡ other)
    reads-one one t u after other p q = ladder-one (component_ladder setting c) component-rises (ReadsComponent c IsAbout) s (reads-does one) t u after other p q

    -- the state stays
    pub reads-stays : (text : List ℕ) (after : State) → Carries (Applies (component_ladder setting c)) (ReadsComponent c IsAbout) s text after → after ≡ s
    reads-stays text after (inl p) = p.stays
    reads-stays text after (inr p) = p.1.stays

    pub reads-keeps : IsState setting s → (text : List ℕ) (after : State) → Carries (Applies (component_ladder setting c)) (ReadsComponent c IsAbout) s text after → IsState setting after
    reads-keeps right text after p = subst (IsState setting) (sym (reads-stays text after p)) right
