-- `lock B K` and `unlock B K`: a node of a block is locked, or its lock is taken away.
use Rattle.std.specs.Prelude.{◌≡◌, ℕ, Bool, List, slice_set, Some}
use Rattle.pair_split.specs.Kinds.{has_choices}
use Rattle.spqr_script.specs.Answers.Change.{ok_text}
use Rattle.spqr_session.specs.Setting.{Setting}
use Rattle.spqr_session.specs.State.{Embedding, State, entry_at}
use Rattle.spqr_session.specs.Codes.{Applies, Carries}
use Rattle.spqr_session.specs.BlockCodes.{node_ladder, with_entry}

-- an embedding with the lock of node k set so; the rotation system stays
abbrev pub with_lock : ℕ → Bool → Embedding → Embedding
with_lock k on e = record { rotation = e.rotation; locks = slice_set e.locks k on }

-- the lock of node k of block b is set so and all else stays, and the answer is `ok`
pub record LocksNode (on : Bool) (b k : ℕ) (before : State) (text : List ℕ) (after : State) : Type 0 where
  pub old : Embedding
  pub present : entry_at before.present b ≡ Some old
  pub after_is : after ≡ with_entry before b (with_lock k on old)
  pub answer : text ≡ ok_text

-- one step: refused by codes 1, 2, 3 and 5
abbrev pub LockStep : Bool → Setting → ℕ → ℕ → State → List ℕ → State → Type 0
LockStep on setting b k before text after = Carries (Applies (node_ladder has_choices setting.trees b k before)) (LocksNode on b k) before text after
