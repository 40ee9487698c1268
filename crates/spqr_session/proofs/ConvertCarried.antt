-- `convert`: there is an answer, and one only, and it leads from a state to a state; what it changes is as with `goto` and `take`.
use Rattle.std.proofs.Common.{◌≡◌, ℕ, List, Some, inl, inr, refl, sym, ap, ◌∙◌}
use Rattle.spqr_script.specs.Answers.Change.{ok_text}
use Rattle.spqr_session.specs.Trees.{BlockTree, tree_at}
use Rattle.spqr_session.specs.Setting.{Setting, IsSetting}
use Rattle.spqr_session.specs.State.{Embedding, State, entry_at, IsState}
use Rattle.spqr_session.specs.Codes.{Applies, Carries}
use Rattle.spqr_session.specs.BlockCodes.{read_ladder, ChangesBlock, Silently}
use Rattle.spqr_session.specs.Members.{StandsAt}
use Rattle.spqr_session.specs.Products.{product_rank_codes, ConvertByProduct}
use Rattle.spqr_session.specs.Commands.Take.{TakeApplies, IsTaken}
use Rattle.spqr_session.specs.Commands.Convert.{conversion_text, WithMoves, ConvertToStep}
use Rattle.spqr_session.specs.declared.code.Code.{Code}
use Rattle.spqr_session.proofs.SettingTrees.{setting-tree}
use Rattle.spqr_session.proofs.Carried.{carries-one}
use Rattle.spqr_session.proofs.Ladders.{ladder-one}
use Rattle.spqr_session.proofs.Changes.{change-does, entry-right, entry-block, embedding-same}
use Rattle.spqr_session.proofs.MembersCarried.{listed, rank-rises, goto-answers, goto-keeps}
use Rattle.spqr_session.proofs.TakeCarried.{take-tells, take-new, take-answers, take-keeps}

-- ---- steps with `ok` and with the moves told

module _ (applies : Code → Type 0) (IsChange : BlockTree → Embedding → Embedding → Type 0) (setting : Setting) (b : ℕ) (s : State) where
  pub with-moves : (text : List ℕ) (after : State) → Carries applies (ChangesBlock setting b (Silently IsChange)) s text after → (told : List ℕ) × Carries applies (ChangesBlock setting b (WithMoves IsChange)) s told after
  with-moves text after (inl p) = (text, inl p)
  with-moves text after (inr p) =
      let c = p.1 in (
        conversion_text (tree_at setting.trees b) c.old c.new,
        inr (p.0, record { old = c.old; present = c.present; new = c.new; change = (c.change.0, refl); after_is = c.after_is }),
      )

  pub without-moves : (text : List ℕ) (after : State) → Carries applies (ChangesBlock setting b (WithMoves IsChange)) s text after → (told : List ℕ) × Carries applies (ChangesBlock setting b (Silently IsChange)) s told after
  without-moves text after (inl p) = (text, inl p)
  without-moves text after (inr p) =
      let c = p.1 in
      (ok_text, inr (p.0, record { old = c.old; present = c.present; new = c.new; change = (c.change.0, refl); after_is = c.after_is }))

-- where the change is one, so is what is told
moves-one : (IsChange : BlockTree → Embedding → Embedding → Type 0) (tree : BlockTree) (old new other : Embedding) (t u : List ℕ) → (IsChange tree old new → IsChange tree old other → new ≡ other)
    → WithMoves IsChange tree old new t → WithMoves IsChange tree old other u → (new ≡ other) × (t ≡ u)
moves-one IsChange tree old new other t u one p q = let e = one p.0 q.0 in (e, p.1 ∙ ap (conversion_text tree old) e ∙ sym q.1)

-- ---- to a rank

module _ (setting : Setting) (b r : ℕ) (s : State) (is : IsSetting setting) (right : IsState setting s) where
  -- one embedding stands at a rank
  rank-new : (old new other : Embedding) → entry_at s.present b ≡ Some old → StandsAt r (tree_at setting.trees b) old new → StandsAt r (tree_at setting.trees b) old other → new ≡ other
  rank-new old new other at p q =
      let l = entry-block setting s b old right at in
      let m = listed (tree_at setting.trees b) old (setting-tree setting is b l) (entry-right setting s b old right l at) in
      embedding-same new other (sym (p.rank m.list m.are).is_there ∙ (q.rank m.list m.are).is_there) (p.locks ∙ sym q.locks)

  pub convert_rank-answers : (text : List ℕ) × (after : State) × ConvertByProduct setting b r s text after
  convert_rank-answers =
      let a = goto-answers setting b s is right r in
      let w = with-moves (Applies (read_ladder (product_rank_codes r) setting.trees b s)) (StandsAt r) setting b s a.0 a.1 a.2 in
      (w.0, a.1, w.1)

  pub convert_rank-one : (t u : List ℕ) (after other : State) → ConvertByProduct setting b r s t after → ConvertByProduct setting b r s u other → (t ≡ u) × (after ≡ other)
  convert_rank-one t u after other p q = ladder-one (read_ladder (product_rank_codes r) setting.trees b s) (rank-rises setting b s is right r) (ChangesBlock setting b (WithMoves (StandsAt r))) s
      (change-does (WithMoves (StandsAt r)) setting b s (λ old new next x y at c d. moves-one (StandsAt r) (tree_at setting.trees b) old new next x y (λ m n. rank-new old new next at m n) c d)) t u after other p q

  pub convert_rank-keeps : (text : List ℕ) (after : State) → ConvertByProduct setting b r s text after → IsState setting after
  convert_rank-keeps text after p =
      let w = without-moves (Applies (read_ladder (product_rank_codes r) setting.trees b s)) (StandsAt r) setting b s text after p in
      goto-keeps setting b s is right r w.0 after w.1

-- ---- to lists

module _ (setting : Setting) (b : ℕ) (entries : List (ℕ × List ℕ)) (s : State) (is : IsSetting setting) (right : IsState setting s) where
  pub convert_to-answers : (text : List ℕ) × (after : State) × ConvertToStep setting b entries s text after
  convert_to-answers =
      let a = take-answers setting b entries s is right in
      let w = with-moves (TakeApplies setting.trees b entries s) (IsTaken entries) setting b s a.0 a.1 a.2 in
      (w.0, a.1, w.1)

  pub convert_to-one : (t u : List ℕ) (after other : State) → ConvertToStep setting b entries s t after → ConvertToStep setting b entries s u other → (t ≡ u) × (after ≡ other)
  convert_to-one t u after other p q = carries-one (TakeApplies setting.trees b entries s) (ChangesBlock setting b (WithMoves (IsTaken entries))) s t u after other (take-tells setting b entries s is right)
      (change-does (WithMoves (IsTaken entries)) setting b s (λ old new next x y at c d.
      moves-one (IsTaken entries) (tree_at setting.trees b) old new next x y (λ m n. take-new setting b entries s is right old new next at m n) c d)) p q

  pub convert_to-keeps : (text : List ℕ) (after : State) → ConvertToStep setting b entries s text after → IsState setting after
  convert_to-keeps text after p =
      let w = without-moves (TakeApplies setting.trees b entries s) (IsTaken entries) setting b s text after p in
      take-keeps setting b entries s is right w.0 after w.1
