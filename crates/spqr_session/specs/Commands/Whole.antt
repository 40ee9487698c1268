-- `whole C`: the present rotation system of a component.
use Rattle.std.specs.Prelude.{◌≡◌, ℕ, List}
use Rattle.whole_embed.specs.Whole.{whole_lists}
use Rattle.spqr_script.specs.Answers.Whole.{whole_text}
use Rattle.spqr_session.specs.Setting.{Setting}
use Rattle.spqr_session.specs.State.{Family, State, component_at}
use Rattle.spqr_session.specs.Codes.{Applies, Carries}
use Rattle.spqr_session.specs.Components.{component_ladder, blocks_of, ReadsComponent}

-- the answer is the line of the vertices of the component, each with the edges around it from the least on
abbrev pub IsWhole : Setting → ℕ → Family → List (List ℕ) → List ℕ → Type 0
IsWhole setting c family lists text = text ≡ whole_text c (whole_lists (component_at setting c) (blocks_of setting family) lists)

-- one step: refused by codes 5 and 14
abbrev pub WholeStep : Setting → ℕ → State → List ℕ → State → Type 0
WholeStep setting c before text after = Carries (Applies (component_ladder setting c)) (ReadsComponent c (IsWhole setting c before.present)) before text after
