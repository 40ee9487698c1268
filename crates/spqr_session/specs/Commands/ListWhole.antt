-- `listwhole C N`: the members that follow the present one in a component's list.
use Rattle.std.specs.Prelude.{◌≡◌, ℕ, ◌+◌, nat_lt, if◌then◌else◌, List, ◌++◌, length, take, drop, map}
use Rattle.std.specs.List.{concat}
use Rattle.skeletons.specs.Lists.{IsRank}
use Rattle.whole_embed.specs.Component.{Component}
use Rattle.whole_embed.specs.Walk.{system_lists}
use Rattle.spqr_script.specs.Answers.Change.{end_text}
use Rattle.spqr_script.specs.Answers.List.{more_text}
use Rattle.spqr_script.specs.Answers.Whole.{whole_text, list_whole_text}
use Rattle.spqr_session.specs.Setting.{Setting}
use Rattle.spqr_session.specs.State.{Family, State, component_at}
use Rattle.spqr_session.specs.Codes.{Applies, Carries}
use Rattle.spqr_session.specs.Components.{component_ladder, ReadsComponent}
use Rattle.spqr_session.specs.Commands.NextWhole.{AreWholeMembers, present_system}

-- the first n of some members, and whether there are more
abbrev pub whole_members_text : ℕ → ℕ → Component → List (List (List ℕ)) → List ℕ
whole_members_text c n k members =
    list_whole_text c (length (take n members)) ++ concat (map (λ q. whole_text c (system_lists k q)) (take n members)) ++ (if nat_lt n (length members) then more_text else end_text)

-- the answer is this, of the members after the present one
abbrev pub IsWholeListing : Setting → ℕ → ℕ → Family → List (List ℕ) → List ℕ → Type 0
IsWholeListing setting c n family lists text =
    (l : List (List (List ℕ))) (i : ℕ) → AreWholeMembers setting c family l → IsRank l (present_system setting c family lists) i
    → text ≡ whole_members_text c n (component_at setting c) (drop (i + 1) l)

-- one step: refused by codes 5 and 14
abbrev pub ListWholeStep : Setting → ℕ → ℕ → State → List ℕ → State → Type 0
ListWholeStep setting c n before text after = Carries (Applies (component_ladder setting c)) (ReadsComponent c (IsWholeListing setting c n before.present)) before text after
