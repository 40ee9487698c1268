-- `whole`: its answer is one.
use Rattle.std.proofs.Common.{◌≡◌, ℕ, List, Some, None, refl, sym, ◌∙◌}
use Rattle.whole_embed.specs.Whole.{whole_lists}
use Rattle.spqr_script.specs.Answers.Whole.{whole_text}
use Rattle.spqr_session.specs.Setting.{Setting}
use Rattle.spqr_session.specs.State.{State, IsState, component_at}
use Rattle.spqr_session.specs.Components.{blocks_of}
use Rattle.spqr_session.specs.Commands.Whole.{IsWhole, WholeStep}
use Rattle.spqr_session.specs.Codes.{code_text, first_code}
use Rattle.spqr_session.specs.Components.{component_ladder, ReadsComponent}
use Rattle.spqr_session.specs.Wholes.{IsWholeTold}
use Rattle.spqr_session.specs.declared.code.Code.{Code}
use Rattle.spqr_session.proofs.Ladders.{refused-first, carried-out}
use Rattle.spqr_session.proofs.ComponentCarried.{component-rises, reads-answers, reads-one, reads-keeps}

module _ (setting : Setting) (c : ℕ) (s : State) (right : IsState setting s) where
  pub whole-answers : (text : List ℕ) × (after : State) × WholeStep setting c s text after
  whole-answers = reads-answers setting c (IsWhole setting c s.present) s right.present (λ lists e l t. (whole_text c (whole_lists (component_at setting c) (blocks_of setting s.present) lists), refl))

  pub whole-one : (t u : List ℕ) (after other : State) → WholeStep setting c s t after → WholeStep setting c s u other → (t ≡ u) × (after ≡ other)
  whole-one t u after other p q = reads-one setting c (IsWhole setting c s.present) s (λ lists e x y a b. a ∙ sym b) t u after other p q

  pub whole-keeps : (text : List ℕ) (after : State) → WholeStep setting c s text after → IsState setting after
  whole-keeps text after p = reads-keeps setting c (IsWhole setting c s.present) s right text after p

module _ (setting : Setting) (c : ℕ) (s : State) where
  -- the line of a code is the answer
  pub whole-refused : (code : Code) (text : List ℕ) → first_code (component_ladder setting c) ≡ Some code → text ≡ code_text code → WholeStep setting c s text s
  whole-refused code text e line = refused-first (component_ladder setting c) (component-rises setting c) (ReadsComponent c (IsWhole setting c s.present)) s code text e line

  -- and else that of the rotation system
  pub whole-done : (text : List ℕ) → first_code (component_ladder setting c) ≡ None → IsWholeTold setting c s.present text → WholeStep setting c s text s
  whole-done text e h = carried-out (component_ladder setting c) (component-rises setting c) (ReadsComponent c (IsWhole setting c s.present)) s text s e (record { lists = h.lists; present = h.present; answer = h.answer; stays = refl })
