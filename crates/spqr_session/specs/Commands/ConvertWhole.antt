-- `convertwhole C ROT`: the moves that lead a component to another plane rotation system, printed and made.
use Rattle.std.specs.Prelude.{◌≡◌, ℕ, ◌<◌, ◌≤◌, true, false, List, ◌++◌, length, map}
use Rattle.std.specs.List.{concat}
use Rattle.rotations.specs.PartLists.{IsFirstBadInPart}
use Rattle.skel_embed.specs.Taken.{IsGiven, IsNotPlane}
use Rattle.whole_embed.specs.Whole.{IsWholeMember}
use Rattle.whole_convert.specs.Between.{WholeStep, move_block, arrange, whole_moves_between}
use Rattle.whole_convert.specs.Target.{IsLockedAt}
use Rattle.spqr_script.specs.Answers.Moves.{move_count_text}
use Rattle.spqr_script.specs.Answers.Whole.{block_move_text, regroup_text}
use Rattle.spqr_session.specs.Trees.{tree_at}
use Rattle.spqr_session.specs.Setting.{Setting}
use Rattle.spqr_session.specs.State.{Family, State, component_at, is_planar_component}
use Rattle.spqr_session.specs.Codes.{Carries}
use Rattle.spqr_session.specs.Components.{blocks_of, ChangesComponent}
use Rattle.spqr_session.specs.Commands.Convert.{value_of}
use Rattle.spqr_session.specs.declared.code.Code.{Code}
use Rattle.spqr_session.specs.declared.code.Code.TheVariants.{NonPlanar, BadRotation, NotGenusZero, LockedIn, NoComponent}

-- the line of a step
abbrev pub step_text : Setting → WholeStep → List ℕ
step_text setting (move_block b move) = block_move_text (tree_at setting.trees b).part b (value_of move)
step_text setting (arrange v edges) = regroup_text v edges

-- the line of their number, and the lines of the steps
abbrev pub steps_text : Setting → List WholeStep → List ℕ
steps_text setting steps = move_count_text (length steps) ++ concat (map (step_text setting) steps)

-- code 5: a block of the component is not planar; 6 and 7, of a component: the lists are not a rotation system, and the number is the least
-- at which this shows, or they are one with these numbers, which is not plane; 12: at a locked node there is another choice; 14: there is no
-- such component
abbrev pub ConvertWholeApplies : Setting → ℕ → List (ℕ × List ℕ) → State → Code → Type 0
ConvertWholeApplies setting c entries s NonPlanar = (c < setting.structure.component_count) × (is_planar_component setting c ≡ false)
ConvertWholeApplies setting c entries s (BadRotation v) = (c < setting.structure.component_count) × IsFirstBadInPart (component_at setting c).part entries v
ConvertWholeApplies setting c entries s (NotGenusZero v e f) = (c < setting.structure.component_count) × IsNotPlane (component_at setting c).part entries v e f
ConvertWholeApplies setting c entries s (LockedIn b k) = (c < setting.structure.component_count) × (is_planar_component setting c ≡ true)
    × IsLockedAt (component_at setting c) (blocks_of setting s.present) entries b k
ConvertWholeApplies setting c entries s NoComponent = setting.structure.component_count ≤ c
ConvertWholeApplies setting c entries s code = ⊥

-- q is the rotation system that the lists are, it is plane and keeps the choices at locked nodes, and the answer is the lines of the steps
-- to it
pub record IsWholeConverted (setting : Setting) (c : ℕ) (entries : List (ℕ × List ℕ)) (family : Family) (lists q : List (List ℕ)) (text : List ℕ) : Type 0 where
  pub given : IsGiven (component_at setting c).part entries q
  pub member : IsWholeMember (component_at setting c) (blocks_of setting family) q
  pub answer : text ≡ steps_text setting (whole_moves_between (component_at setting c) (blocks_of setting family) lists q)

-- one step: refused by codes 5, 6, 7, 12 and 14
abbrev pub ConvertWholeStep : Setting → ℕ → List (ℕ × List ℕ) → State → List ℕ → State → Type 0
ConvertWholeStep setting c entries before text after = Carries (ConvertWholeApplies setting c entries before) (ChangesComponent setting c (IsWholeConverted setting c entries before.present)) before text after
