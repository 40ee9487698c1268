-- `list B N`: the members that follow the present one in a block's list.
use Rattle.std.specs.Prelude.{◌≡◌, ℕ, ◌+◌, nat_lt, if◌then◌else◌, List, ◌++◌, length, take, drop, map}
use Rattle.std.specs.List.{concat}
use Rattle.skeletons.specs.Lists.{IsRank}
use Rattle.spqr_script.specs.Answers.Change.{end_text}
use Rattle.spqr_script.specs.Answers.List.{list_text, more_text}
use Rattle.spqr_script.specs.Answers.Rotation.{rotation_text}
use Rattle.spqr_session.specs.Trees.{BlockTree}
use Rattle.spqr_session.specs.Setting.{Setting}
use Rattle.spqr_session.specs.State.{Embedding, State}
use Rattle.spqr_session.specs.Members.{AreMembers}
use Rattle.spqr_session.specs.BlockCodes.{no_more, ReadStep}

-- the first n of some members, and whether there are more
abbrev pub members_text : ℕ → ℕ → BlockTree → List (List (List ℕ)) → List ℕ
members_text b n tree members =
    list_text b (length (take n members)) ++ concat (map (rotation_text tree.part b) (take n members)) ++ (if nat_lt n (length members) then more_text else end_text)

-- the answer is this, of the members after the present one
abbrev pub IsListing : ℕ → ℕ → BlockTree → Embedding → List ℕ → Type 0
IsListing b n tree e text = (l : List (List (List ℕ))) (k : ℕ) → AreMembers tree e l → IsRank l e.rotation k → text ≡ members_text b n tree (drop (k + 1) l)

-- one step: refused by codes 1 and 5
abbrev pub ListStep : Setting → ℕ → ℕ → State → List ℕ → State → Type 0
ListStep setting b n before text after = ReadStep no_more (IsListing b n) setting.trees b before text after
