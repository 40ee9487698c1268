-- The history on a board: a step back, a step forth, and a step more.
use Rattle.std.proofs.Common.{◌≡◌, ℕ, suc, ◌+◌, ◌≤◌, List, Option, [], ◌∷◌, ◌++◌, length, map, take, drop, reverse, sym, ap, ap₂, ◌∙◌, subst, arith, add-one, All}
use Rattle.std.proofs.lemmas.List.{take_all, drop_all, reverse-append, length-append, length-take-le}
use Rattle.std.proofs.lemmas.List.Elements.{All-nil, All-cons, All-take, All-append}
use Rattle.std.proofs.Math.Seq.{take-suc, drop-cons}
use Rattle.undo_log.specs.History.{History as UndoHistory, Noted, IsStepAt, WentBack, WentOn}
use Rattle.undo_log.specs.declared.step.Step.{Step}
use Rattle.spqr_session.specs.Trees.{BlockTree}
use Rattle.spqr_session.specs.Kept.{Kept}
use Rattle.spqr_session.specs.Embedded.{BlockView, view_tree}
use Rattle.spqr_session.specs.History.{walk, IsBetween, redone, undone, lists_before, lists_after, steps_before, steps_after, IsStepOf, IsHistory}
use Rattle.spqr_session.specs.Board.{kept_on, board_view, HavePlaces, IsBoard, IsCarried, GoesTo, LeadsTo}
use Rattle.spqr_session.proofs.ListsSet.{set-length}
use Rattle.spqr_session.proofs.Walks.{step-back, step-forth, step-new, walk-new}

-- a step was added behind those before the cursor, which is behind it
pub record IsAdded (old new : UndoHistory) (s : Step) : Type 0 where
  pub steps : new.steps ≡ take old.cursor old.steps ++ s ∷ []
  pub cursor : new.cursor ≡ old.cursor + 1

-- so it is where first room was made
pub noted-added : (old room new : UndoHistory) (s : Step) → room.steps ≡ old.steps → room.cursor ≡ old.cursor → Noted room s new → IsAdded old new s
noted-added old room new s e c w = record { steps = w.steps ∙ ap₂ (λ (n : ℕ) (l : List Step). take n l ++ s ∷ []) c e; cursor = w.cursor ∙ ap (λ (n : ℕ). n + 1) c }

-- the step at a place, on both sides of it
taken-to : (steps : List Step) (c : ℕ) (s : Step) → IsStepAt steps c s → reverse (take (c + 1) steps) ≡ s ∷ reverse (take c steps)
taken-to steps c s h =
    let more : take (c + 1) steps ≡ take c steps ++ s ∷ [] = rw add-one (take-suc steps c s h.within ∙ ap (λ (x : Step). take c steps ++ x ∷ []) h.is) in
    ap reverse more ∙ reverse-append (take c steps) (s ∷ [])

dropped-to : (steps : List Step) (c : ℕ) (s : Step) → IsStepAt steps c s → drop c steps ≡ s ∷ drop (c + 1) steps
dropped-to steps c s h = rw add-one (drop-cons steps c s h.within ∙ ap (λ (x : Step). x ∷ drop (suc c) steps) h.is)

module _ (trees : List BlockTree) where
  -- the steps before and behind a cursor that went back
  back-before : (old new : UndoHistory) (s : Step) → WentBack old s new → steps_before old ≡ s ∷ steps_before new
  back-before old new s w = ap (λ (c : ℕ). reverse (take c old.steps)) (sym w.cursor) ∙ taken-to old.steps new.cursor s w.passed ∙ ap (λ (l : List Step). s ∷ reverse (take new.cursor l)) (sym w.steps)

  back-after : (old new : UndoHistory) (s : Step) → WentBack old s new → steps_after new ≡ s ∷ steps_after old
  back-after old new s w = ap (drop new.cursor) w.steps ∙ dropped-to old.steps new.cursor s w.passed ∙ ap (λ (c : ℕ). s ∷ drop c old.steps) w.cursor

  -- and of one that went on
  on-before : (old new : UndoHistory) (s : Step) → WentOn old s new → steps_before new ≡ s ∷ steps_before old
  on-before old new s w = ap₂ (λ (c : ℕ) (l : List Step). reverse (take c l)) w.cursor w.steps ∙ taken-to old.steps old.cursor s w.passed

  on-after : (old new : UndoHistory) (s : Step) → WentOn old s new → steps_after old ≡ s ∷ steps_after new
  on-after old new s w = dropped-to old.steps old.cursor s w.passed ∙ ap₂ (λ (c : ℕ) (l : List Step). s ∷ drop c l) (sym w.cursor) (sym w.steps)

  module _ (kept : Kept) (old new : UndoHistory) (s : Step) (h : IsHistory trees kept old) where
    -- the cursor goes back
    pub history-back : WentBack old s new → IsHistory trees (undone trees s kept) new
    history-back w = record {
      cursor = omega (arith, h.cursor, w.cursor, ap (λ (l : List Step). length l) w.steps);
      steps = subst (All (IsStepOf trees)) (sym w.steps) h.steps;
      between = subst (λ (l : List Step). IsBetween (redone trees) (undone trees) (steps_before new) (undone trees s kept) l) (sym (back-after old new s w))
          (step-back (redone trees) (undone trees) kept s (steps_before new) (steps_after old)
          (subst (λ (l : List Step). IsBetween (redone trees) (undone trees) l kept (steps_after old)) (back-before old new s w) h.between));
    }

    -- the cursor goes on
    pub history-on : WentOn old s new → IsHistory trees (redone trees s kept) new
    history-on w = record {
      cursor = omega (arith, w.passed.within, w.cursor, ap (λ (l : List Step). length l) w.steps);
      steps = subst (All (IsStepOf trees)) (sym w.steps) h.steps;
      between = subst (λ (l : List Step). IsBetween (redone trees) (undone trees) l (redone trees s kept) (steps_after new)) (sym (on-before old new s w))
          (step-forth (redone trees) (undone trees) kept s (steps_before old) (steps_after new)
          (subst (λ (l : List Step). IsBetween (redone trees) (undone trees) (steps_before old) kept l) (on-after old new s w) h.between));
    }

    -- a step is noted
    noted-long : IsAdded old new s → length (take old.cursor old.steps ++ s ∷ []) ≤ old.cursor + 1
    noted-long w = omega (arith, length-append (take old.cursor old.steps) (s ∷ []), length-take-le old.cursor old.steps h.cursor)

    noted-before : IsAdded old new s → steps_before new ≡ s ∷ steps_before old
    noted-before w =
        ap₂ (λ (c : ℕ) (l : List Step). reverse (take c l)) w.cursor w.steps ∙ ap reverse (take_all (old.cursor + 1) (take old.cursor old.steps ++ s ∷ []) (noted-long w)) ∙ reverse-append (take old.cursor old.steps) (s ∷ [])

    noted-after : IsAdded old new s → steps_after new ≡ []
    noted-after w = ap₂ (λ (c : ℕ) (l : List Step). drop c l) w.cursor w.steps ∙ drop_all (old.cursor + 1) (take old.cursor old.steps ++ s ∷ []) (noted-long w)

    pub history-noted : (other : Kept) → IsAdded old new s → IsStepOf trees s → undone trees s other ≡ kept → redone trees s kept ≡ other → IsHistory trees other new
    history-noted other w is b f = record {
      cursor = omega (arith, ap (λ (l : List Step). length l) w.steps, length-append (take old.cursor old.steps) (s ∷ []), length-take-le old.cursor old.steps h.cursor, w.cursor);
      steps = subst (All (IsStepOf trees)) (sym w.steps) (All-append (IsStepOf trees) (take old.cursor old.steps) (s ∷ []) (All-take (IsStepOf trees) old.cursor old.steps h.steps)
          (All-cons (IsStepOf trees) s [] is (All-nil (IsStepOf trees))));
      between = subst (λ (l : List Step). IsBetween (redone trees) (undone trees) (steps_before new) other l) (sym (noted-after w))
          (subst (λ (l : List Step). IsBetween (redone trees) (undone trees) l other []) (sym (noted-before w))
          (step-new (redone trees) (undone trees) kept other s (steps_before old) (steps_after old) h.between b f));
    }

    pub noted-earlier : (other : Kept) → IsAdded old new s → undone trees s other ≡ kept → walk (undone trees) other (steps_before new) ≡ kept ∷ walk (undone trees) kept (steps_before old)
    noted-earlier other w b = ap (walk (undone trees) other) (noted-before w) ∙ walk-new (redone trees) (undone trees) kept other s (steps_before old) b

    pub noted-later : (other : Kept) → IsAdded old new s → walk (redone trees) other (steps_after new) ≡ []
    noted-later other w = ap (walk (redone trees) other) (noted-after w)

-- what becomes of a board
module _ (views other : List BlockView) (lists new_lists : List (Option (List ℕ))) (old new : UndoHistory) (s : Step) (c : IsCarried views other) (h : IsBoard views lists old) where
  rights : IsHistory (map view_tree views) (kept_on other new_lists) new → length new_lists ≡ length lists → IsBoard other new_lists new
  rights i n = (
    subst (λ (l : List BlockTree). IsHistory l (kept_on other new_lists) new) (sym c.trees) i,
    subst (λ (l : List BlockTree). HavePlaces l (length new_lists)) (sym c.trees) (subst (HavePlaces (map view_tree views)) (sym n) h.1),
  )

  module _ (w : WentBack old s new) (e : kept_on other new_lists ≡ undone (map view_tree views) s (kept_on views lists)) where
    pub board-back : IsBoard other new_lists new
    board-back = rights (subst (λ (k : Kept). IsHistory (map view_tree views) k new) (sym e) (history-back (map view_tree views) (kept_on views lists) old new s h.0 w)) (ap (λ (k : Kept). length k.lists) e ∙ set-length (lists_before s) lists)

  module _ (w : WentOn old s new) (e : kept_on other new_lists ≡ redone (map view_tree views) s (kept_on views lists)) where
    pub board-on : IsBoard other new_lists new
    board-on = rights (subst (λ (k : Kept). IsHistory (map view_tree views) k new) (sym e) (history-on (map view_tree views) (kept_on views lists) old new s h.0 w)) (ap (λ (k : Kept). length k.lists) e ∙ set-length (lists_after s) lists)

  module _ (kept : Kept) (w : IsAdded old new s) (leads : LeadsTo views lists kept s) (e : kept_on other new_lists ≡ kept) where
    back : undone (map view_tree views) s (kept_on other new_lists) ≡ kept_on views lists
    back = ap (undone (map view_tree views) s) e ∙ leads.back

    pub board-noted : IsBoard other new_lists new
    board-noted = rights (history-noted (map view_tree views) (kept_on views lists) old new s h.0 (kept_on other new_lists) w leads.is_step back (leads.forth ∙ sym e)) (ap (λ (k : Kept). length k.lists) (e ∙ sym leads.forth) ∙ set-length (lists_after s) lists)

    pub board-goes : GoesTo (board_view views lists old) kept (board_view other new_lists new)
    board-goes = record {
      present = e;
      earlier = ap (λ (l : List BlockTree). walk (undone l) (kept_on other new_lists) (steps_before new)) c.trees ∙ noted-earlier (map view_tree views) (kept_on views lists) old new s h.0 (kept_on other new_lists) w back;
      later = ap (λ (l : List BlockTree). walk (redone l) (kept_on other new_lists) (steps_after new)) c.trees ∙ noted-later (map view_tree views) (kept_on views lists) old new s h.0 (kept_on other new_lists) w;
      carried = c;
    }
