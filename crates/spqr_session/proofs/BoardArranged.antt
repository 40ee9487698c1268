-- The step that keeps a list at a vertex, and a board at its start.
use Rattle.std.proofs.Common.{◌≡◌, ℕ, List, [], ◌∷◌, length, map, slice_index_or, replicate, Option, None, Some, refl, sym, ap, ◌∙◌, subst, arith}
use Rattle.std.proofs.lemmas.List.{set-set, set-get_or, length-replicate}
use Rattle.std.proofs.lemmas.List.Elements.{All-nil}
use Rattle.undo_log.specs.History.{History as UndoHistory}
use Rattle.undo_log.specs.declared.step.BlockMove.{BlockMove}
use Rattle.undo_log.specs.declared.step.CutChange.{CutChange}
use Rattle.undo_log.specs.declared.step.Step.TheVariants.{Moves}
use Rattle.spqr_session.specs.Embedded.{BlockView, view_tree}
use Rattle.spqr_session.specs.History.{IsMoveOf, IsStepOf, IsHistory}
use Rattle.spqr_session.specs.Board.{HavePlaces, IsBoard, kept_on, LeadsTo}
use Rattle.spqr_session.specs.Wholes.{kept_arranged}

-- it leads from what is kept to what is kept with the list
pub arranged-leads : (views : List BlockView) (lists : List (Option (List ℕ))) (v : ℕ) (l : List ℕ) (forth back : List BlockMove) (cuts : List CutChange) → forth ≡ [] → back ≡ []
    → cuts ≡ record { vertex = v; before = slice_index_or lists v None; after = Some l } ∷ [] → LeadsTo views lists (kept_arranged views lists v l) (Moves forth back cuts)
arranged-leads views lists v l forth back cuts ef eb ec =
    subst (λ (c : List CutChange). LeadsTo views lists (kept_arranged views lists v l) (Moves forth back c)) (sym ec)
    (subst (λ (b : List BlockMove). LeadsTo views lists (kept_arranged views lists v l) (Moves forth b change)) (sym eb)
    (subst (λ (f : List BlockMove). LeadsTo views lists (kept_arranged views lists v l) (Moves f [] change)) (sym ef)
    (record { is_step = (All-nil (IsMoveOf (map view_tree views)), All-nil (IsMoveOf (map view_tree views))); forth = refl; back = ap (kept_on views) (set-set lists v (Some l) (slice_index_or lists v None) ∙ set-get_or lists v None) })))
  where
    change : List CutChange
    change = record { vertex = v; before = slice_index_or lists v None; after = Some l } ∷ []

-- a board without changes
pub board-start : (views : List BlockView) (n : ℕ) (lists : List (Option (List ℕ))) (log : UndoHistory) → log.steps ≡ [] → log.cursor ≡ 0 → lists ≡ replicate n None → HavePlaces (map view_tree views) n → IsBoard views lists log
board-start views n lists log es ec el places = (
  subst (IsHistory (map view_tree views) (kept_on views lists)) (sym same) (record { cursor = omega arith; steps = All-nil (IsStepOf (map view_tree views)); between = record { before_returns = tt; after_returns = tt } }),
  subst (HavePlaces (map view_tree views)) (sym (ap (λ (l : List (Option (List ℕ))). length l) el ∙ length-replicate n None)) places,
)
  where
    same : log ≡ record { steps = []; cursor = 0; room = log.room }
    same = λ i. record { steps = es i; cursor = ec i; room = log.room }
