use Rattle.split_comp.proofs.Added.{frond-whole}
use Rattle.split_comp.proofs.pass.Pass.add_frond.Goals as goal

pub returns-else-not-branch-clause-added : goal.returns-else-not-branch-clause-added
returns-else-not-branch-clause-added g c = frond-whole c.args.g.now c.args.tree.now.vertex c.args.name c.args.v c.args.up c.height-start.result c.args.self.now c.push.new.self c.join_parallel.new.self c.in_ok-join_parallel.field-0 c.height-start.ensures (c.in_ok-push.ensures.now)
    (c.in_ok-join_parallel.ensures.joined) c.if-not-branch.false
