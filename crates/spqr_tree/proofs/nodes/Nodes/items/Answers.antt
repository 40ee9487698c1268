use Rattle.std.proofs.Common.{◌<◌, List, length, sym, ap, ◌∙◌, arith}
use Rattle.pair_split.specs.Tutte.{Node, node_at}
use Rattle.pair_split.specs.declared.components.Kind.TheVariants.{S}
use Rattle.spqr_tree.proofs.NodeLists.{length-nodes, nodes-at}
use Rattle.spqr_tree.proofs.nodes.Nodes.items.Goals as goal

pub at-requires : goal.at-requires
at-requires c = omega (arith, c.requires, c.self.invariant.0, c.self.invariant.1, length-nodes c.self.inside.kinds.items c.self.inside.vertices c.self.inside.items, ap length c.self.view_is)

pub returns : goal.returns
returns c =
    let kinds = c.self.inside.kinds.items in
    let within : c.args.k < length kinds = omega (arith, c.requires, length-nodes kinds c.self.inside.vertices c.self.inside.items, ap length c.self.view_is) in
    c.at.ensures ∙ sym (ap (λ (n : Node). n.items) (nodes-at kinds c.self.inside.vertices c.self.inside.items c.args.k S within)) ∙ ap (λ (nodes : List Node). (node_at nodes c.args.k).items) c.self.view_is
