use Rattle.std.proofs.Common.{List, sym, ap, ◌∙◌}
use Rattle.pair_split.specs.Tutte.{Node, node_at}
use Rattle.embed_enum.proofs.Nodes.{bond-ends}
use Rattle.embed_enum.proofs.stepping.step.Goals as goal

pub returns-in-P-clause-last : goal.returns-in-P-clause-last
returns-in-P-clause-last c = λ f.
    let w = c.step_bond.ensures.last f in
    (w.0, bond-ends c.args.p.now c.belongs.ensures c.args.k (c.requires, sym (c.in-P.ensures {u = tt} ∙ ap (λ (z : List Node). (node_at z c.args.k).kind) c.tree.ensures.value)) w.1)
