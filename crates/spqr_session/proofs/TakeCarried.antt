-- `take`: there is an answer, and one only, and it leads from a state to a state.
use Rattle.std.proofs.Common.{◌≡◌, ℕ, ◌<◌, ◌≤◌, ◌⊎◌, List, length, Option, None, Some, inl, inr, refl, sym, ap, ◌∙◌, subst, arith}
use Rattle.std.proofs.lemmas.Bool.{cases_lt}
use Rattle.multigraph.specs.Part.{IsNumbered}
use Rattle.skeletons.specs.Items as items
use Rattle.spqr_script.specs.Answers.Change.{ok_text}
use Rattle.spqr_session.specs.Trees.{BlockTree, tree_at}
use Rattle.spqr_session.specs.Setting.{Setting, IsSetting}
use Rattle.spqr_session.specs.State.{Embedding, State, entry_at, IsState}
use Rattle.spqr_session.specs.Codes.{code_numbers, code_text, IsLowest, NoneApplies}
use Rattle.spqr_session.specs.BlockCodes.{ChangesBlock, changed, Silently}
use Rattle.spqr_session.specs.Commands.Take.{TakeApplies, IsTaken, TakeStep}
use Rattle.spqr_session.specs.Planned.{TakenCodes}
use Rattle.spqr_session.proofs.BlockPlans.{EntryTakenCodes}
use Rattle.spqr_session.specs.declared.code.Code.{Code}
use Rattle.spqr_session.specs.declared.code.Code.TheVariants.{NoBlock, NonPlanar}
use Rattle.spqr_session.proofs.SettingTrees.{setting-tree}
use Rattle.spqr_session.proofs.Carried.{TellsOne, carries-one}
use Rattle.spqr_session.proofs.Changes.{change-does, change-keeps, entry-block, silently-one}
use Rattle.spqr_session.proofs.Takings.{taken-alone, entry-alone, taken-none, taken-one, taken-found, taken-right, entry-down, entry-lowest, outside-alone, alone-lowest, outside-lowest}

module _ (setting : Setting) (b : ℕ) (entries : List (ℕ × List ℕ)) (s : State) (is : IsSetting setting) (right : IsState setting s) where
  abbrev tree : BlockTree
  tree = tree_at setting.trees b

  abbrev applies : Code → Type 0
  applies = TakeApplies setting.trees b entries s

  tree-of : b < length setting.trees → items.IsBlockTree tree.part.graph tree.nodes
  tree-of l = setting-tree setting is b l

  numbered-of : b < length setting.trees → IsNumbered tree.part
  numbered-of l = let t = is.trees.each b (subst (λ (n : ℕ). b < n) is.trees.one_each l) in t.part.numbered

  -- ---- the codes

  -- at most one applies
  take-alone : (code other : Code) → applies code → applies other → other ≡ code
  take-alone code other p q = elim (cases_lt b (length setting.trees)) [
    | inl l ↦ entry-alone entries tree (numbered-of l) (tree-of l) (entry_at s.present b) code other
        (entry-down entries setting.trees b s tree refl (entry_at s.present b) refl l code p) (entry-down entries setting.trees b s tree refl (entry_at s.present b) refl l other q)
    | inr n ↦
        let out : length setting.trees ≤ b = omega (arith, n) in
        outside-alone entries setting.trees b s out other q ∙ sym (outside-alone entries setting.trees b s out code p)
  ]

  pub take-tells : TellsOne applies
  take-tells k l p q e = ap code_numbers (take-alone l k q p)

  -- a lowest one applies, or the block has an embedding and another is taken
  pub record TakeDue : Type 0 where
    pub old : Embedding
    pub present : entry_at s.present b ≡ Some old
    pub new : Embedding
    pub taken : IsTaken entries tree old new

  take-due : b < length setting.trees → (o : Option Embedding) → entry_at s.present b ≡ o → ((code : Code) × IsLowest applies code) ⊎ (NoneApplies applies × TakeDue)
  take-due l None p =
      inl (NonPlanar, entry-lowest entries setting.trees b s tree refl None p l NonPlanar (alone-lowest (EntryTakenCodes entries tree None) NonPlanar refl (λ other a. a)))
  take-due l (Some e) p = elim (taken-found entries tree (numbered-of l) (tree-of l) e) [
    | inl found ↦ inl (
      found.0,
      entry-lowest entries setting.trees b s tree refl (Some e) p l found.0
          (alone-lowest (TakenCodes entries tree e) found.0 found.1 (λ other a. taken-alone entries tree (numbered-of l) (tree-of l) e found.0 other found.1 a)),
    )
    | inr found ↦ inr (
      λ code a. taken-none entries tree (numbered-of l) (tree-of l) e found.0 found.1 code (entry-down entries setting.trees b s tree refl (Some e) p l code a),
      record { old = e; present = p; new = found.0; taken = found.1 },
    )
  ]

  pub take-cases : ((code : Code) × IsLowest applies code) ⊎ (NoneApplies applies × TakeDue)
  take-cases = elim (cases_lt b (length setting.trees)) [
    | inl l ↦ take-due l (entry_at s.present b) refl
    | inr n ↦ (let out : length setting.trees ≤ b = omega (arith, n) in inl (NoBlock, outside-lowest entries setting.trees b s out))
  ]

  -- one embedding is taken
  pub take-new : (old new other : Embedding) → entry_at s.present b ≡ Some old → IsTaken entries tree old new → IsTaken entries tree old other → new ≡ other
  take-new old new other p c d =
      let l = entry-block setting s b old right p in
      taken-one entries tree (numbered-of l) (tree-of l) old new other c d

  -- ---- the step

  pub take-answers : (text : List ℕ) × (after : State) × TakeStep setting b entries s text after
  take-answers = elim take-cases [
    | inl found ↦ (code_text found.0, s, inl (record { code = found.0; lowest = found.1; line = refl; stays = refl }))
    | inr found ↦ (
        let due = found.1 in
        (ok_text, changed setting s b due.new, inr (found.0, record { old = due.old; present = due.present; new = due.new; change = (due.taken, refl); after_is = refl }))
        )
  ]

  pub take-one : (t u : List ℕ) (after other : State) → TakeStep setting b entries s t after → TakeStep setting b entries s u other → (t ≡ u) × (after ≡ other)
  take-one t u after other p q = carries-one applies (ChangesBlock setting b (Silently (IsTaken entries))) s t u after other take-tells
      (change-does (Silently (IsTaken entries)) setting b s (λ old new next x y at c d. silently-one (IsTaken entries) tree old new next x y (λ m n. take-new old new next at m n) c d)) p q

  pub take-keeps : (text : List ℕ) (after : State) → TakeStep setting b entries s text after → IsState setting after
  take-keeps text after (inl p) = subst (IsState setting) (sym p.stays) right
  take-keeps text after (inr p) = change-keeps (Silently (IsTaken entries)) setting b s text after is right p.1 (λ old new t l at e c. taken-right entries tree old new e c.0)
