-- `first B`, `next B` and `goto B R`: to the first member of a block's list, to the one after the present one, to the one at a
-- rank.
use Rattle.std.specs.Prelude.{◌≡◌, ◌⊎◌, ℕ, List}
use Rattle.spqr_script.specs.Answers.Change.{end_text}
use Rattle.spqr_session.specs.Trees.{BlockTree}
use Rattle.spqr_session.specs.Setting.{Setting}
use Rattle.spqr_session.specs.State.{Embedding, State}
use Rattle.spqr_session.specs.Members.{WithCount, rank_codes, StandsAt, StandsBehind, StandsLast}
use Rattle.spqr_session.specs.Codes.{Applies, Carries}
use Rattle.spqr_session.specs.BlockCodes.{block_ladder, read_ladder, ReadsBlock, ChangesBlock, Silently, ChangeStep}

-- one step of `first`: refused by codes 1 and 5
abbrev pub FirstStep : Setting → ℕ → State → List ℕ → State → Type 0
FirstStep setting b before text after = ChangeStep (block_ladder setting.trees b before) (Silently (StandsAt 0)) setting b before text after

-- one step of `goto`: refused by codes 1, 5, 10 and 11
abbrev pub GotoStep : Setting → ℕ → ℕ → State → List ℕ → State → Type 0
GotoStep setting b r before text after = WithCount setting.trees b before (λ n. ChangeStep (read_ladder (rank_codes r n) setting.trees b before) (Silently (StandsAt r)) setting b before text after)

-- at the last member the answer is `end`
abbrev pub IsEnd : BlockTree → Embedding → List ℕ → Type 0
IsEnd tree e text = StandsLast tree e × (text ≡ end_text)

-- `next` answers `end` at the last member, where the state stays, and else goes to the member after the present one
abbrev pub NextDoes : Setting → ℕ → State → List ℕ → State → Type 0
NextDoes setting b before text after = ReadsBlock setting.trees b IsEnd before text after ⊎ ChangesBlock setting b (Silently StandsBehind) before text after

-- one step of `next`: refused by codes 1 and 5
abbrev pub NextStep : Setting → ℕ → State → List ℕ → State → Type 0
NextStep setting b before text after = Carries (Applies (block_ladder setting.trees b before)) (NextDoes setting b) before text after
