-- A component led to another rotation system, and why it is not.
use Rattle.std.proofs.Common.{◌≡◌, ℕ, ◌⊎◌, ◌&&◌, Bool, true, false, not, List, [], ◌∷◌, ◌++◌, map, None, Some, All, inl, inr, refl, sym, ap, ◌∙◌, subst}
use Rattle.std.specs.List.{concat}
use Rattle.std.proofs.lemmas.Bool.{ltb-true, ltb-false}
use Rattle.std.proofs.lemmas.List.{length-map}
use Rattle.moves.specs.declared.values.Move.{Move}
use Rattle.moves.specs.declared.values.Move.TheVariants.{Flip, Permute}
use Rattle.skel_embed.specs.Values.{as_move}
use Rattle.whole_embed.specs.declared.members.Member.{Member}
use Rattle.whole_embed.specs.Component.{Component, BlockInPlane, IsComponentInPlane}
use Rattle.whole_embed.specs.Cuts.{CutState, blocks_in}
use Rattle.whole_convert.specs.Between.{WholeStep, as_step, as_steps, blocks_to}
use Rattle.whole_convert.specs.Target.{IsWholeRefusal, IsLedWhole}
use Rattle.whole_convert.specs.declared.steps.WholeMove.{WholeMove}
use Rattle.whole_convert.specs.declared.steps.WholeMove.TheVariants.{Block, Regroup}
use Rattle.whole_convert.specs.declared.faults.WholeFault.{WholeFault}
use Rattle.whole_convert.specs.declared.faults.WholeFault.TheVariants as fault
use Rattle.spqr_script.specs.Answers.Moves.{move_count_text}
use Rattle.spqr_script.specs.Answers.Whole.{block_move_text}
use Rattle.spqr_session.specs.Trees.{BlockTree, tree_at}
use Rattle.spqr_session.specs.Setting.{Setting, IsSetting}
use Rattle.spqr_session.specs.State.{State, component_at, is_planar_component, IsState}
use Rattle.spqr_session.specs.Embedded.{BlockView, view_tree}
use Rattle.spqr_session.specs.Codes.{code_text, first_code, IsLowest}
use Rattle.spqr_session.specs.BlockCodes.{with_family}
use Rattle.spqr_session.specs.Components.{is_component, component_ladder, blocks_of, family_with}
use Rattle.spqr_session.specs.Commands.Convert.{value_of}
use Rattle.spqr_session.specs.Commands.ConvertWhole.{step_text, steps_text, ConvertWholeApplies, ConvertWholeStep}
use Rattle.spqr_session.specs.WholeSteps.{IsStepIn, line_in, lines_in, IsCodeOf, IsWholeTarget}
use Rattle.spqr_session.specs.declared.code.Code.{Code}
use Rattle.spqr_session.specs.declared.code.Code.TheVariants.{NonPlanar, NoComponent}
use Rattle.spqr_session.proofs.Views.{trees-at}
use Rattle.spqr_session.proofs.WholeWalks.{IsThere}
use Rattle.spqr_session.proofs.WholeTakings.{outside-lowest, nonplanar-lowest, bad-lowest, genus-lowest, locked-lowest, member-none}
use Rattle.spqr_session.proofs.WholesWalked.{IsPresent}
use Rattle.spqr_session.proofs.WholesWithin.{steps-within}

-- ---- the component

is-none : (code : Code) → first_code ((NonPlanar, false) ∷ (NoComponent, false) ∷ []) ≡ Some code → ⊥
is-none code e = absurd (let both : None ≡ Some code = e in cc)

some-code : (a b : Code) → Some a ≡ Some b → a ≡ b
some-code a b both = cc

-- what the first code is, by what holds
ladder-case : (there planar : Bool) (code : Code) → first_code ((NonPlanar, there && not planar) ∷ (NoComponent, not there) ∷ []) ≡ Some code
    → ((there ≡ true) × (planar ≡ false) × (NonPlanar ≡ code)) ⊎ ((there ≡ false) × (NoComponent ≡ code))
ladder-case true true code e = absurd (is-none code e)
ladder-case true false code e = inl (refl, refl, some-code NonPlanar code e)
ladder-case false planar code e = inr (refl, some-code NoComponent code e)

-- there is no such component, or a block of it is not planar
pub component-refused : (setting : Setting) (c : ℕ) (entries : List (ℕ × List ℕ)) (s : State) → IsSetting setting → (code : Code) (text : List ℕ) → first_code (component_ladder setting c) ≡ Some code → text ≡ code_text code
    → ConvertWholeStep setting c entries s text s
component-refused setting c entries s is code text e line = elim (ladder-case (is_component setting c) (is_planar_component setting c) code e) [
  | inl w ↦ inl (record { code = code; lowest = subst (IsLowest (ConvertWholeApplies setting c entries s)) w.2 (nonplanar-lowest setting c entries s is (ltb-true c setting.structure.component_count w.0) w.1); line = line; stays = refl })
  | inr w ↦ inl (record { code = code; lowest = subst (IsLowest (ConvertWholeApplies setting c entries s)) w.1 (outside-lowest setting c entries s is (ltb-false c setting.structure.component_count w.0)); line = line; stays = refl })
]

-- ---- the lines

value-back : (move : Move) → value_of (as_move move) ≡ move
value-back (Flip k) = refl
value-back (Permute k keys) = refl

line-is : (setting : Setting) (views : List BlockView) → setting.trees ≡ map view_tree views → (step : WholeMove) → line_in views step ≡ step_text setting (as_step step)
line-is setting views seen (Block b move) =
    (λ i. block_move_text (sym (ap (λ (t : List BlockTree). tree_at t b) seen ∙ trees-at views b) i).part b (sym (value-back move) i))
line-is setting views seen (Regroup v edges) = refl

lines-are : (setting : Setting) (views : List BlockView) → setting.trees ≡ map view_tree views → (steps : List WholeMove) → concat (map (line_in views) steps) ≡ concat (map (step_text setting) (as_steps steps))
lines-are setting views seen [] = refl
lines-are setting views seen (step ∷ steps) = λ i. line-is setting views seen step i ++ lines-are setting views seen steps i

pub lines-whole : (setting : Setting) (views : List BlockView) → setting.trees ≡ map view_tree views → (steps : List WholeMove) → lines_in views steps ≡ steps_text setting (as_steps steps)
lines-whole setting views seen steps = λ i. move_count_text (sym (length-map steps as_step) i) ++ lines-are setting views seen steps i

module _ (setting : Setting) (c : ℕ) (entries : List (ℕ × List ℕ)) (s : State) (is : IsSetting setting) (there : IsThere setting c) (right : IsState setting s) (cuts : CutState) (all : List Member) (at : IsPresent setting c s.present cuts all) where
  abbrev k : Component
  k = component_at setting c

  -- what holds of the component as calls have it
  pub along : (P : Component → (ℕ → BlockInPlane) → Type 0) → P cuts.component (blocks_in all) → P k (blocks_of setting s.present)
  along P p = subst (P k) at.blocks (subst (λ (z : Component). P z (blocks_in all)) at.component p)

  -- ---- refused

  refused-by : (fault : WholeFault) (code : Code) → IsWholeRefusal k (blocks_of setting s.present) entries fault → IsCodeOf fault code → IsLowest (ConvertWholeApplies setting c entries s) code
  refused-by (fault.BadRotation v) code r e = subst (IsLowest (ConvertWholeApplies setting c entries s)) (sym e) (bad-lowest setting c entries s is there v r)
  refused-by (fault.NotGenusZero v x f) code r e = subst (IsLowest (ConvertWholeApplies setting c entries s)) (sym e) (genus-lowest setting c entries s is there v x f r)
  refused-by (fault.Locked b j) code r e = subst (IsLowest (ConvertWholeApplies setting c entries s)) (sym e) (locked-lowest setting c entries s is there right b j r)
  refused-by fault.Memory code r e = absurd e

  pub convert-refused : (f : WholeFault) (code : Code) (text : List ℕ) → IsWholeRefusal cuts.component (blocks_in all) entries f → IsCodeOf f code → text ≡ code_text code → ConvertWholeStep setting c entries s text s
  convert-refused f code text r e line = inl (record { code = code; lowest = refused-by f code (along (λ z b. IsWholeRefusal z b entries f) r) e; line = line; stays = refl })

  -- ---- led

  module _ (steps : List WholeStep) (new : List Member) (new_cuts : CutState) (led : IsLedWhole cuts.component (blocks_in all) cuts.lists entries steps new new_cuts) where
    abbrev there-led : IsLedWhole k (blocks_of setting s.present) cuts.lists entries steps new new_cuts
    there-led = along (λ z b. IsLedWhole z b cuts.lists entries steps new new_cuts) led

    abbrev pub led-system : List (List ℕ)
    led-system = there-led.moved.system

    pub led-target : IsWholeTarget setting c s.present led-system new_cuts new
    led-target = record {
      member = there-led.moved.member;
      component = there-led.component;
      blocks = there-led.blocks;
      lists = there-led.set;
      in_plane = there-led.in_plane;
      planes = there-led.planes;
    }

    -- the steps are those of blocks that are seen
    pub led-steps : (views : List BlockView) (moves : List WholeMove) → setting.trees ≡ map view_tree views → steps ≡ as_steps moves → All (IsStepIn views) moves
    led-steps views moves seen same = steps-within setting is s.present views seen c (along IsComponentInPlane at.together.in_plane) cuts.lists led-system
        (subst (λ (z : Component). IsComponentInPlane z (blocks_to (component_at setting c) (blocks_of setting s.present) led-system)) there-led.component (subst (IsComponentInPlane new_cuts.component) there-led.blocks there-led.in_plane))
        moves (sym same ∙ there-led.moved.moves)

    pub convert-made : (views : List BlockView) (moves : List WholeMove) (after : State) (text : List ℕ) → setting.trees ≡ map view_tree views → steps ≡ as_steps moves → text ≡ lines_in views moves
        → after ≡ with_family s (family_with setting c led-system s.present) → ConvertWholeStep setting c entries s text after
    convert-made views moves after text seen same line a = inr (
      member-none setting c entries s is there right led-system there-led.moved.given there-led.moved.member,
      record {
        lists = cuts.lists;
        present = at.present;
        system = led-system;
        change = record {
          given = there-led.moved.given;
          member = there-led.moved.member;
          answer = line ∙ lines-whole setting views seen moves ∙ ap (steps_text setting) (sym same ∙ there-led.moved.moves);
        };
        after_is = a;
      },
    )
