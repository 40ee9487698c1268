use Rattle.std.proofs.Common.{◌+◌, ◌≤◌, ap, ◌∙◌, arith}
use Rattle.std.proofs.lemmas.Result.{IfOk-weaker}
use Rattle.split_comp.specs.Palm.{tree_parent}
use Rattle.split_comp.specs.Pass.{IsGoing, IsTurned, weight}
use Rattle.split_comp.proofs.WentBack.{both-ok, back-fits, home-going, back-going}
use Rattle.split_comp.proofs.pass.Pass.go_back.Goals as goal

pub returns-then-v-eq0-clause-going : goal.returns-then-v-eq0-clause-going
returns-then-v-eq0-clause-going g c = both-ok c.come_home.result _ _ (λ x. IsGoing c.args.g.now c.args.tree.now c.come_home.new.self × IsTurned c.args.g.now c.args.tree.now c.args.self.now c.come_home.new.self)
    (λ x over come. home-going c.args.g.now c.args.tree.now c.requires.numbered c.args.self.now c.requires.pass c.requires.all c.requires.not_root c.parent-v.result (c.parent-v.ensures ∙ ap (tree_parent c.args.tree.now.palm c.args.tree.now.vertex) c.here.ensures) c.come_home.new.self over come)
    c.come_home.ensures.home c.come_home.ensures.come

pub come_back-requires-clause-fits : goal.come_back-requires-clause-fits
come_back-requires-clause-fits g c = back-fits c.args.g.now c.args.tree.now c.requires.numbered c.args.self.now c.requires.pass c.requires.all c.requires.not_root c.parent-v.result (c.parent-v.ensures ∙ ap (tree_parent c.args.tree.now.palm c.args.tree.now.vertex) c.here.ensures)

pub returns-clause-going : goal.returns-clause-going
returns-clause-going g c = IfOk-weaker c.leave_child.result _ (λ x. IsGoing c.args.g.now c.args.tree.now c.leave_child.new.self × IsTurned c.args.g.now c.args.tree.now c.args.self.now c.leave_child.new.self)
    (λ x a. back-going c.args.g.now c.args.tree.now c.requires.numbered c.args.self.now c.requires.pass c.requires.all c.requires.not_root c.parent-v.result (c.parent-v.ensures ∙ ap (tree_parent c.args.tree.now.palm c.args.tree.now.vertex) c.here.ensures) c.come_back.new.self c.reduce_all.new.self c.leave_child.new.self
    c.in_ok-come_back.ensures.come c.in_ok-reduce_all.ensures.reduced.1 a)
    c.leave_child.ensures.left

pub returns-clause-cost : goal.returns-clause-cost
returns-clause-cost g c = IfOk-weaker c.leave_child.result _ (λ x. c.leave_child.new.steps + weight c.leave_child.new.self ≤ c.args.steps.now + weight c.args.self.now + 18)
    (λ x a. omega (arith, a, c.in_ok-reduce_all.ensures.cost, c.in_ok-come_back.ensures.cost))
    c.leave_child.ensures.cost
