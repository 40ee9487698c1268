-- `count B` and `rank B`: how many members the list of a block has, and the place of the present one in it.
use Rattle.std.specs.Prelude.{◌≡◌, ℕ, List, length}
use Rattle.skeletons.specs.Lists.{IsRank}
use Rattle.spqr_script.specs.Answers.Count.{count_text}
use Rattle.spqr_script.specs.Answers.Rank.{rank_text}
use Rattle.spqr_session.specs.Trees.{BlockTree}
use Rattle.spqr_session.specs.Setting.{Setting}
use Rattle.spqr_session.specs.State.{Embedding, State}
use Rattle.spqr_session.specs.Members.{AreMembers, WithCount, count_codes}
use Rattle.spqr_session.specs.BlockCodes.{ReadStep}

-- the answer is the length of the list
abbrev pub IsCounted : BlockTree → Embedding → List ℕ → Type 0
IsCounted tree e text = (l : List (List (List ℕ))) → AreMembers tree e l → text ≡ count_text (length l)

-- the answer is the rank of the present rotation system
abbrev pub IsRanked : BlockTree → Embedding → List ℕ → Type 0
IsRanked tree e text = (l : List (List (List ℕ))) (k : ℕ) → AreMembers tree e l → IsRank l e.rotation k → text ≡ rank_text k

-- one step each: refused by codes 1, 5 and 10
abbrev pub CountStep : Setting → ℕ → State → List ℕ → State → Type 0
CountStep setting b before text after = WithCount setting.trees b before (λ n. ReadStep (count_codes n) IsCounted setting.trees b before text after)

abbrev pub RankStep : Setting → ℕ → State → List ℕ → State → Type 0
RankStep setting b before text after = WithCount setting.trees b before (λ n. ReadStep (count_codes n) IsRanked setting.trees b before text after)
