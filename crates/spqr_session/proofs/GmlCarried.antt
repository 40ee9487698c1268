-- What `gml` answers: there is an answer, and one only.
use Rattle.std.proofs.Common.{◌≡◌, ℕ, List, inl, inr, refl, sym, ◌∙◌}
use Rattle.gml_text.specs.Layout.{written}
use Rattle.gml_graph.specs.Marked.{marked}
use Rattle.spqr_script.specs.Answers.Gml.{document_text}
use Rattle.spqr_session.specs.Setting.{Setting}
use Rattle.spqr_session.specs.State.{State}
use Rattle.spqr_session.specs.Commands.Gml.{marks, GmlApplies, GmlDoes, GmlStep}
use Rattle.spqr_session.proofs.Carried.{TellsOne, DoesOne, carries-one}

module _ (setting : Setting) where
  -- the text of a state
  abbrev pub gml_text : State → List ℕ
  gml_text s = document_text (written (marked (marks setting.named.graph.vertex_count setting.trees s.present) setting.document))

  -- it is the answer
  pub gml-done : (s : State) (text : List ℕ) → text ≡ gml_text s → GmlStep setting s text s
  gml-done s text e = inr (λ code a. a, record { answer = e; stays = refl })

  -- there is no other
  gml-tells : TellsOne GmlApplies
  gml-tells k l a b e = absurd a

  gml-does : (before : State) → DoesOne (GmlDoes setting) before
  gml-does before s t after other p q = (p.answer ∙ sym q.answer, p.stays ∙ sym q.stays)

  pub gml-one : (before : State) (s t : List ℕ) (after other : State) → GmlStep setting before s after → GmlStep setting before t other → (s ≡ t) × (after ≡ other)
  gml-one before s t after other p q = carries-one GmlApplies (GmlDoes setting) before s t after other gml-tells (gml-does before) p q

  -- the state stays
  pub gml-stays : (before : State) (text : List ℕ) (after : State) → GmlStep setting before text after → after ≡ before
  gml-stays before text after (inl p) = p.stays
  gml-stays before text after (inr p) = p.1.stays
