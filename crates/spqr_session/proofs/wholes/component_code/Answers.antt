use Rattle.std.proofs.Common.{sym, ◌∙◌, arith}
use Rattle.spqr_session.specs.Scene.{setting_on}
use Rattle.spqr_session.proofs.ComponentCarried.{no-component, not-planar, planar-there}
use Rattle.spqr_session.proofs.wholes.component_code.Goals as goal

pub returns-then-c-component_count : goal.returns-then-c-component_count
returns-then-c-component_count c = no-component (setting_on c.args.scene.now c.args.blocks.now) c.args.c (omega (arith, c.if-c-component_count.true, c.component_count.ensures))

pub returns-then-is_planar_component : goal.returns-then-is_planar_component
returns-then-is_planar_component c = planar-there (setting_on c.args.scene.now c.args.blocks.now) c.args.c (omega (arith, c.if-c-component_count.false, c.component_count.ensures)) (sym c.is_planar_component.ensures ∙ c.if-is_planar_component.true)

pub returns : goal.returns
returns c = not-planar (setting_on c.args.scene.now c.args.blocks.now) c.args.c (omega (arith, c.if-c-component_count.false, c.component_count.ensures)) (sym c.is_planar_component.ensures ∙ c.if-is_planar_component.false)
