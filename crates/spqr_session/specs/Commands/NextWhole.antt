-- `nextwhole C`: to the next plane rotation system of a component.
use Rattle.std.specs.Prelude.{◌≡◌, ◌⊎◌, ℕ, ◌+◌, List, length}
use Rattle.skeletons.specs.Lists.{IsRank}
use Rattle.whole_embed.specs.Whole.{whole_system, IsWholeList}
use Rattle.spqr_script.specs.Answers.Change.{ok_text, end_text}
use Rattle.spqr_session.specs.Setting.{Setting}
use Rattle.spqr_session.specs.State.{Family, State, component_at}
use Rattle.spqr_session.specs.Codes.{Applies, Carries}
use Rattle.spqr_session.specs.Components.{component_ladder, blocks_of, ReadsComponent, ChangesComponent}

-- the list of a component: all its plane rotation systems that keep the present choices at the locked nodes of its blocks, in order
abbrev pub AreWholeMembers : Setting → ℕ → Family → List (List (List ℕ)) → Type 0
AreWholeMembers setting c family l = IsWholeList (component_at setting c) (blocks_of setting family) l

-- the present rotation system of a component with these lists at its cut vertices
abbrev pub present_system : Setting → ℕ → Family → List (List ℕ) → List (List ℕ)
present_system setting c family lists = whole_system (component_at setting c) (blocks_of setting family) lists

-- the present rotation system is the last member, and the answer is `end`
abbrev pub IsWholeEnd : Setting → ℕ → Family → List (List ℕ) → List ℕ → Type 0
IsWholeEnd setting c family lists text =
    ((l : List (List (List ℕ))) (i : ℕ) → AreWholeMembers setting c family l → IsRank l (present_system setting c family lists) i → length l ≡ i + 1) × (text ≡ end_text)

-- q is the member after the present one, and the answer is `ok`
abbrev pub IsWholeNext : Setting → ℕ → Family → List (List ℕ) → List (List ℕ) → List ℕ → Type 0
IsWholeNext setting c family lists q text =
    ((l : List (List (List ℕ))) (i : ℕ) → AreWholeMembers setting c family l → IsRank l (present_system setting c family lists) i → IsRank l q (i + 1)) × (text ≡ ok_text)

-- at the last member the answer is `end` and the state stays; else the component goes to the member after the present one
abbrev pub NextWholeDoes : Setting → ℕ → State → List ℕ → State → Type 0
NextWholeDoes setting c before text after = ReadsComponent c (IsWholeEnd setting c before.present) before text after ⊎ ChangesComponent setting c (IsWholeNext setting c before.present) before text after

-- one step: refused by codes 5 and 14
abbrev pub NextWholeStep : Setting → ℕ → State → List ℕ → State → Type 0
NextWholeStep setting c before text after = Carries (Applies (component_ladder setting c)) (NextWholeDoes setting c) before text after
