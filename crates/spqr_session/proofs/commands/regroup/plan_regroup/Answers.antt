use Rattle.std.proofs.Common.{◌≡◌, true, sym, ap, ◌∙◌, subst, arith}
use Rattle.multigraph.specs.Graph.{Multigraph}
use Rattle.spqr_session.specs.Scene.{setting_on}
use Rattle.spqr_session.specs.State.{is_planar_component}
use Rattle.spqr_session.specs.Wholes.{IsElsewhere}
use Rattle.spqr_session.proofs.RegroupCodes.{lowest-not_planar}
use Rattle.spqr_session.proofs.RegroupMade.{elsewhere-lowest, outside-lowest}
use Rattle.spqr_session.proofs.commands.regroup.plan_regroup.Goals as goal

pub returns-then-v-vertex_count : goal.returns-then-v-vertex_count
returns-then-v-vertex_count c = λ s e. outside-lowest (setting_on c.args.scene.now c.args.blocks.now) c.args.v c.args.edges.now s c.requires.setting
    (omega (arith, c.if-v-vertex_count.true, c.vertex_count.ensures, ap (λ (g : Multigraph). g.vertex_count) c.graph-graph.ensures.value))

pub returns-then-not-is_planar_component : goal.returns-then-not-is_planar_component
returns-then-not-is_planar_component c = λ s e.
    let setting = setting_on c.args.scene.now c.args.blocks.now in
    lowest-not_planar setting c.args.v c.args.edges.now s
    (omega (arith, c.if-v-vertex_count.false, c.vertex_count.ensures, ap (λ (g : Multigraph). g.vertex_count) c.graph-graph.ensures.value))
    (ap (is_planar_component setting) (sym c.component_of-c.ensures) ∙ sym c.is_planar_component.ensures ∙ c.if-not-is_planar_component.true)

pub is_cut-requires : goal.is_cut-requires
is_cut-requires c = let cuts = c.requires.setting.structure.cut_vertices in cuts.rising

pub code_elsewhere-requires : goal.code_elsewhere-requires
code_elsewhere-requires c = omega (arith, c.if-v-vertex_count.false, c.vertex_count.ensures)

pub returns : goal.returns
returns c = λ s e.
    let setting = setting_on c.args.scene.now c.args.blocks.now in
    let planar : c.is_planar_component.result ≡ true = grind (arith, c.if-not-is_planar_component.false) in
    elsewhere-lowest setting c.args.v c.args.edges.now s c.in_ok-code.code
    (omega (arith, c.if-v-vertex_count.false, c.vertex_count.ensures, ap (λ (g : Multigraph). g.vertex_count) c.graph-graph.ensures.value))
    (ap (is_planar_component setting) (sym c.component_of-c.ensures) ∙ sym c.is_planar_component.ensures ∙ planar)
    (sym c.is_cut.ensures ∙ c.if-is_cut.false)
    (subst (λ (g : Multigraph). IsElsewhere g c.args.v c.args.edges.now c.in_ok-code.code) c.graph-graph.ensures.value (c.in_ok-code.ensures {u = tt}))
