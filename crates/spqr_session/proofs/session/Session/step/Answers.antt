use Rattle.std.proofs.Common.{ap, ◌∙◌}
use Rattle.spqr_session.specs.Machine.{Machine}
use Rattle.spqr_session.proofs.Sessions.{setting-kept, stepped-machine, memory-machine, step-seen}
use Rattle.spqr_session.proofs.session.Session.step.Goals as goal

pub carry_out-requires-clause-setting : goal.carry_out-requires-clause-setting
carry_out-requires-clause-setting c = c.self.invariant.setting

pub carry_out-requires-clause-state : goal.carry_out-requires-clause-state
carry_out-requires-clause-state c = c.self.invariant.state

pub invariant_of-self : goal.invariant_of-self
invariant_of-self c =
    let s = c.self.inside in
    stepped-machine s.scene.doc s.scene.named s.scene.blocks c.args.command.now s.board c.carry_out.new.board c.carry_out.result c.self.invariant c.carry_out.ensures.setting c.carry_out.ensures.step c.carry_out.ensures.memory

pub returns-clause-step : goal.returns-clause-step
returns-clause-step c =
    let s = c.self.inside in
    step-seen s.scene.doc s.scene.named s.scene.blocks c.args.command.now s.board c.carry_out.new.board c.carry_out.result c.args.self.now c.self.view_is c.carry_out.ensures.setting c.carry_out.ensures.step

pub returns-clause-setting : goal.returns-clause-setting
returns-clause-setting c =
    let s = c.self.inside in
    setting-kept s.scene.doc s.scene.named s.scene.blocks s.board.views c.carry_out.new.board.views c.carry_out.ensures.setting ∙ ap (λ (m : Machine). m.setting) c.self.view_is

pub returns-clause-memory : goal.returns-clause-memory
returns-clause-memory c =
    let s = c.self.inside in
    memory-machine s.scene.doc s.scene.named s.scene.blocks s.board c.carry_out.new.board c.carry_out.result c.args.self.now c.self.view_is c.carry_out.ensures.memory
