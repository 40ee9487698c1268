-- `undo` and `redo`: there is an answer, and one only, and they lead from a state to a state.
use Rattle.std.proofs.Common.{◌≡◌, ℕ, false, List, [], ◌∷◌, All, inl, inr, refl, sym, ap, ◌∙◌, subst}
use Rattle.std.proofs.lemmas.Bool.{true≢false}
use Rattle.std.proofs.lemmas.List.Elements.{All-head, All-tail, All-cons}
use Rattle.spqr_script.specs.Answers.Change.{ok_text}
use Rattle.spqr_session.specs.Setting.{Setting}
use Rattle.spqr_session.specs.State.{Family, State, IsFamily, IsState}
use Rattle.spqr_session.specs.Commands.History.{is_none, undo_ladder, Undoes, UndoStep, redo_ladder, Redoes, RedoStep}
use Rattle.spqr_session.specs.declared.code.Code.TheVariants.{NothingToUndo, NothingToRedo}
use Rattle.spqr_session.proofs.Carried.{DoesOne}
use Rattle.spqr_session.proofs.Ladders.{rung-none, ladder-answers, ladder-one}

-- there is a first family where there is one
pub nearest-of : (fs : List Family) → is_none fs ≡ false → (family : Family) × (others : List Family) × (fs ≡ family ∷ others)
nearest-of [] h = absurd (true≢false h)
nearest-of (f ∷ fs) h = (f, fs, refl)

-- the first family, and the others
abbrev first-family : Family → List Family → Family
first-family default [] = default
first-family default (f ∷ fs) = f

abbrev other-families : List Family → List Family
other-families [] = []
other-families (f ∷ fs) = fs

cons-same : (f g : Family) (fs gs : List Family) → f ∷ fs ≡ g ∷ gs → (f ≡ g) × (fs ≡ gs)
cons-same f g fs gs e = (ap (first-family f) e, ap other-families e)

module _ (s : State) where
  pub undo-answers : (text : List ℕ) × (after : State) × UndoStep s text after
  undo-answers = ladder-answers (undo_ladder s) refl Undoes s (λ none.
      let n = nearest-of s.earlier (rung-none NothingToUndo (is_none s.earlier) [] none).0 in
      (ok_text, record { present = n.0; earlier = n.1; later = s.present ∷ s.later }, record { family = n.0; others = n.1; nearest = n.2; after_is = refl; answer = refl }))

  undo-does : DoesOne Undoes s
  undo-does t u after other p q =
      let e = cons-same p.family q.family p.others q.others (sym p.nearest ∙ q.nearest) in
      let same : after ≡ other = p.after_is ∙ (λ i. record { present = e.0 i; earlier = e.1 i; later = s.present ∷ s.later }) ∙ sym q.after_is in
      (p.answer ∙ sym q.answer, same)

  pub undo-one : (t u : List ℕ) (after other : State) → UndoStep s t after → UndoStep s u other → (t ≡ u) × (after ≡ other)
  undo-one t u after other p q = ladder-one (undo_ladder s) refl Undoes s undo-does t u after other p q

  pub redo-answers : (text : List ℕ) × (after : State) × RedoStep s text after
  redo-answers = ladder-answers (redo_ladder s) refl Redoes s (λ none.
      let n = nearest-of s.later (rung-none NothingToRedo (is_none s.later) [] none).0 in
      (ok_text, record { present = n.0; earlier = s.present ∷ s.earlier; later = n.1 }, record { family = n.0; others = n.1; nearest = n.2; after_is = refl; answer = refl }))

  redo-does : DoesOne Redoes s
  redo-does t u after other p q =
      let e = cons-same p.family q.family p.others q.others (sym p.nearest ∙ q.nearest) in
      let same : after ≡ other = p.after_is ∙ (λ i. record { present = e.0 i; earlier = s.present ∷ s.earlier; later = e.1 i }) ∙ sym q.after_is in
      (p.answer ∙ sym q.answer, same)

  pub redo-one : (t u : List ℕ) (after other : State) → RedoStep s t after → RedoStep s u other → (t ≡ u) × (after ≡ other)
  redo-one t u after other p q = ladder-one (redo_ladder s) refl Redoes s redo-does t u after other p q

module _ (setting : Setting) (s : State) (right : IsState setting s) where
  pub undo-keeps : (text : List ℕ) (after : State) → UndoStep s text after → IsState setting after
  undo-keeps text after (inl p) = subst (IsState setting) (sym p.stays) right
  undo-keeps text after (inr p) =
      let all : All (IsFamily setting) (p.1.family ∷ p.1.others) = subst (All (IsFamily setting)) p.1.nearest right.earlier in
      subst (IsState setting) (sym p.1.after_is) (record {
        present = All-head (IsFamily setting) p.1.family p.1.others all;
        earlier = All-tail (IsFamily setting) p.1.family p.1.others all;
        later = All-cons (IsFamily setting) s.present s.later right.present right.later;
      })

  pub redo-keeps : (text : List ℕ) (after : State) → RedoStep s text after → IsState setting after
  redo-keeps text after (inl p) = subst (IsState setting) (sym p.stays) right
  redo-keeps text after (inr p) =
      let all : All (IsFamily setting) (p.1.family ∷ p.1.others) = subst (All (IsFamily setting)) p.1.nearest right.later in
      subst (IsState setting) (sym p.1.after_is) (record {
        present = All-head (IsFamily setting) p.1.family p.1.others all;
        earlier = All-cons (IsFamily setting) s.present s.earlier right.present right.earlier;
        later = All-tail (IsFamily setting) p.1.family p.1.others all;
      })
