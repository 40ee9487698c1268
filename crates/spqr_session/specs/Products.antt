-- What the functions of commands say of the number of members: it is a product there, and no list is needed.
use Rattle.std.specs.Prelude.{ℕ, List}
use Rattle.skeletons.specs.Lists.{list_count}
use Rattle.skel_embed.specs.Block.{lock_at}
use Rattle.spqr_session.specs.Trees.{BlockTree}
use Rattle.spqr_session.specs.Setting.{Setting}
use Rattle.spqr_session.specs.State.{Embedding, State}
use Rattle.spqr_session.specs.Codes.{Ladder}
use Rattle.spqr_session.specs.BlockCodes.{read_ladder, Silently, ReadStep, ChangeStep}
use Rattle.spqr_session.specs.Members.{count_codes, rank_codes, StandsAt}
use Rattle.spqr_session.specs.Commands.Count.{IsCounted, IsRanked}
use Rattle.spqr_session.specs.Commands.Convert.{WithMoves}

-- the product over the nodes that are not locked
abbrev pub member_count : BlockTree → Embedding → ℕ
member_count tree e = list_count tree.nodes (lock_at e.locks)

-- codes 10 and 11
abbrev pub product_count_codes : BlockTree → Embedding → Ladder
product_count_codes tree e = count_codes (member_count tree e) tree e

abbrev pub product_rank_codes : ℕ → BlockTree → Embedding → Ladder
product_rank_codes r tree e = rank_codes r (member_count tree e) tree e

-- one step each
abbrev pub CountByProduct : List BlockTree → ℕ → State → List ℕ → State → Type 0
CountByProduct trees b before text after = ReadStep product_count_codes IsCounted trees b before text after

abbrev pub RankByProduct : List BlockTree → ℕ → State → List ℕ → State → Type 0
RankByProduct trees b before text after = ReadStep product_count_codes IsRanked trees b before text after

abbrev pub GotoByProduct : Setting → ℕ → ℕ → State → List ℕ → State → Type 0
GotoByProduct setting b r before text after = ChangeStep (read_ladder (product_rank_codes r) setting.trees b before) (Silently (StandsAt r)) setting b before text after

abbrev pub ConvertByProduct : Setting → ℕ → ℕ → State → List ℕ → State → Type 0
ConvertByProduct setting b r before text after = ChangeStep (read_ladder (product_rank_codes r) setting.trees b before) (WithMoves (StandsAt r)) setting b before text after
