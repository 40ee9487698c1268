-- Codes 10 and 11 are those of the length of the list: the product over the nodes that are not locked is that length.
use Rattle.std.proofs.Common.{◌≡◌, ℕ, List, ◌++◌, ◌∷◌, not, length, Option, None, Some, refl, sym, ap, ◌∙◌, subst}
use Rattle.spqr_session.specs.Trees.{BlockTree, tree_at}
use Rattle.spqr_session.specs.Setting.{Setting, IsSetting}
use Rattle.spqr_session.specs.State.{Embedding, State, entry_at, IsState}
use Rattle.spqr_session.specs.Codes.{Ladder, Applies, Carries}
use Rattle.spqr_session.specs.declared.code.Code.TheVariants.{NoBlock}
use Rattle.spqr_session.specs.BlockCodes.{is_block, planar_codes, entry_codes, read_ladder, ReadsBlock, ChangesBlock, Silently}
use Rattle.spqr_session.specs.Members.{AreMembers, AreSoMany, WithCount, count_codes, rank_codes, StandsAt}
use Rattle.spqr_session.specs.Products.{member_count, CountByProduct, RankByProduct, GotoByProduct, ConvertByProduct}
use Rattle.spqr_session.specs.Commands.Count.{IsCounted, IsRanked, CountStep, RankStep}
use Rattle.spqr_session.specs.Commands.Walk.{GotoStep}
use Rattle.spqr_session.specs.Commands.Convert.{WithMoves, ConvertRankStep}
use Rattle.spqr_session.proofs.SettingTrees.{setting-tree}
use Rattle.spqr_session.proofs.Changes.{entry-right, entry-block}
use Rattle.spqr_session.proofs.MembersCarried.{Listed, listed, lists-one, count-answers, count-one, count-keeps, rank-answers, rank-one, rank-keeps, goto-answers, goto-one, goto-keeps}
use Rattle.spqr_session.proofs.ConvertCarried.{convert_rank-answers, convert_rank-one, convert_rank-keeps}

-- the product for an entry; 0 where there is none
abbrev product_of : BlockTree → Option Embedding → ℕ
product_of tree None = 0
product_of tree (Some e) = member_count tree e

module _ (setting : Setting) (b : ℕ) (s : State) (is : IsSetting setting) (right : IsState setting s) where
  abbrev here : BlockTree
  here = tree_at setting.trees b

  its-list : (e : Embedding) → entry_at s.present b ≡ Some e → Listed here e
  its-list e at =
      let l = entry-block setting s b e right at in
      listed here e (setting-tree setting is b l) (entry-right setting s b e right l at)

  -- the product is how many members there are
  so-many : (o : Option Embedding) → entry_at s.present b ≡ o → AreSoMany here o (product_of here o)
  so-many None at = tt
  so-many (Some e) at = λ l a.
      let m = its-list e at in
      ap (λ (x : List (List (List ℕ))). length x) (lists-one here e l m.list a m.are) ∙ m.counted

  -- the codes are the same by the one number and by the other
  same-codes : (more : ℕ → BlockTree → Embedding → Ladder) (n : ℕ) (o : Option Embedding) → entry_at s.present b ≡ o → AreSoMany here o n
      → entry_codes (more n) here o ≡ entry_codes (λ tree e. more (member_count tree e) tree e) here o
  same-codes more n None at a = refl
  same-codes more n (Some e) at a =
      let m = its-list e at in
      ap (λ (k : ℕ). planar_codes (Some e) ++ more k here e) (sym (a m.list m.are) ∙ m.counted)

  same-ladder : (more : ℕ → BlockTree → Embedding → Ladder) (n : ℕ) → AreSoMany here (entry_at s.present b) n
      → read_ladder (more n) setting.trees b s ≡ read_ladder (λ tree e. more (member_count tree e) tree e) setting.trees b s
  same-ladder more n a = ap (λ (l : Ladder). (NoBlock, not (is_block setting.trees b)) ∷ l) (same-codes more n (entry_at s.present b) refl a)

  -- what holds of the codes by the product holds of those by the length, and the other way around
  with-count : (more : ℕ → BlockTree → Embedding → Ladder) (Holds : Ladder → Type 0) → Holds (read_ladder (λ tree e. more (member_count tree e) tree e) setting.trees b s)
      → WithCount setting.trees b s (λ n. Holds (read_ladder (more n) setting.trees b s))
  with-count more Holds h =
      let n = product_of here (entry_at s.present b) in
      let a = so-many (entry_at s.present b) refl in
      (n, a, subst Holds (sym (same-ladder more n a)) h)

  from-count : (more : ℕ → BlockTree → Embedding → Ladder) (Holds : Ladder → Type 0) → WithCount setting.trees b s (λ n. Holds (read_ladder (more n) setting.trees b s))
      → Holds (read_ladder (λ tree e. more (member_count tree e) tree e) setting.trees b s)
  from-count more Holds p = subst Holds (same-ladder more p.0 p.1) p.2

  -- ---- count

  pub count-is_step : (text : List ℕ) (after : State) → CountByProduct setting.trees b s text after → CountStep setting b s text after
  count-is_step text after p = with-count count_codes (λ ladder. Carries (Applies ladder) (ReadsBlock setting.trees b IsCounted) s text after) p

  count-is_product : (text : List ℕ) (after : State) → CountStep setting b s text after → CountByProduct setting.trees b s text after
  count-is_product text after p = from-count count_codes (λ ladder. Carries (Applies ladder) (ReadsBlock setting.trees b IsCounted) s text after) p

  pub count_step-answers : (text : List ℕ) × (after : State) × CountStep setting b s text after
  count_step-answers = let a = count-answers setting b s is right in (a.0, a.1, count-is_step a.0 a.1 a.2)

  pub count_step-one : (t u : List ℕ) (after other : State) → CountStep setting b s t after → CountStep setting b s u other → (t ≡ u) × (after ≡ other)
  count_step-one t u after other p q = count-one setting b s is right t u after other (count-is_product t after p) (count-is_product u other q)

  pub count_step-keeps : (text : List ℕ) (after : State) → CountStep setting b s text after → IsState setting after
  count_step-keeps text after p = count-keeps setting b s is right text after (count-is_product text after p)

  -- ---- rank

  pub rank-is_step : (text : List ℕ) (after : State) → RankByProduct setting.trees b s text after → RankStep setting b s text after
  rank-is_step text after p = with-count count_codes (λ ladder. Carries (Applies ladder) (ReadsBlock setting.trees b IsRanked) s text after) p

  rank-is_product : (text : List ℕ) (after : State) → RankStep setting b s text after → RankByProduct setting.trees b s text after
  rank-is_product text after p = from-count count_codes (λ ladder. Carries (Applies ladder) (ReadsBlock setting.trees b IsRanked) s text after) p

  pub rank_step-answers : (text : List ℕ) × (after : State) × RankStep setting b s text after
  rank_step-answers = let a = rank-answers setting b s is right in (a.0, a.1, rank-is_step a.0 a.1 a.2)

  pub rank_step-one : (t u : List ℕ) (after other : State) → RankStep setting b s t after → RankStep setting b s u other → (t ≡ u) × (after ≡ other)
  rank_step-one t u after other p q = rank-one setting b s is right t u after other (rank-is_product t after p) (rank-is_product u other q)

  pub rank_step-keeps : (text : List ℕ) (after : State) → RankStep setting b s text after → IsState setting after
  rank_step-keeps text after p = rank-keeps setting b s is right text after (rank-is_product text after p)

  -- ---- goto

  pub goto-is_step : (r : ℕ) (text : List ℕ) (after : State) → GotoByProduct setting b r s text after → GotoStep setting b r s text after
  goto-is_step r text after p = with-count (rank_codes r) (λ ladder. Carries (Applies ladder) (ChangesBlock setting b (Silently (StandsAt r))) s text after) p

  goto-is_product : (r : ℕ) (text : List ℕ) (after : State) → GotoStep setting b r s text after → GotoByProduct setting b r s text after
  goto-is_product r text after p = from-count (rank_codes r) (λ ladder. Carries (Applies ladder) (ChangesBlock setting b (Silently (StandsAt r))) s text after) p

  pub goto_step-answers : (r : ℕ) → (text : List ℕ) × (after : State) × GotoStep setting b r s text after
  goto_step-answers r = let a = goto-answers setting b s is right r in (a.0, a.1, goto-is_step r a.0 a.1 a.2)

  pub goto_step-one : (r : ℕ) (t u : List ℕ) (after other : State) → GotoStep setting b r s t after → GotoStep setting b r s u other → (t ≡ u) × (after ≡ other)
  goto_step-one r t u after other p q = goto-one setting b s is right r t u after other (goto-is_product r t after p) (goto-is_product r u other q)

  pub goto_step-keeps : (r : ℕ) (text : List ℕ) (after : State) → GotoStep setting b r s text after → IsState setting after
  goto_step-keeps r text after p = goto-keeps setting b s is right r text after (goto-is_product r text after p)

  -- ---- convert to a rank

  pub convert-is_step : (r : ℕ) (text : List ℕ) (after : State) → ConvertByProduct setting b r s text after → ConvertRankStep setting b r s text after
  convert-is_step r text after p = with-count (rank_codes r) (λ ladder. Carries (Applies ladder) (ChangesBlock setting b (WithMoves (StandsAt r))) s text after) p

  convert-is_product : (r : ℕ) (text : List ℕ) (after : State) → ConvertRankStep setting b r s text after → ConvertByProduct setting b r s text after
  convert-is_product r text after p = from-count (rank_codes r) (λ ladder. Carries (Applies ladder) (ChangesBlock setting b (WithMoves (StandsAt r))) s text after) p

  pub convert_step-answers : (r : ℕ) → (text : List ℕ) × (after : State) × ConvertRankStep setting b r s text after
  convert_step-answers r = let a = convert_rank-answers setting b r s is right in (a.0, a.1, convert-is_step r a.0 a.1 a.2)

  pub convert_step-one : (r : ℕ) (t u : List ℕ) (after other : State) → ConvertRankStep setting b r s t after → ConvertRankStep setting b r s u other → (t ≡ u) × (after ≡ other)
  convert_step-one r t u after other p q = convert_rank-one setting b r s is right t u after other (convert-is_product r t after p) (convert-is_product r u other q)

  pub convert_step-keeps : (r : ℕ) (text : List ℕ) (after : State) → ConvertRankStep setting b r s text after → IsState setting after
  convert_step-keeps r text after p = convert_rank-keeps setting b r s is right text after (convert-is_product r text after p)

-- the law
pub members-counted : (setting : Setting) (s : State) (b : ℕ) (e : Embedding) (l : List (List (List ℕ))) → IsSetting setting → IsState setting s
    → entry_at s.present b ≡ Some e → AreMembers (tree_at setting.trees b) e l → length l ≡ member_count (tree_at setting.trees b) e
members-counted setting s b e l is right at a = so-many setting b s is right (Some e) at l a
