use Rattle.std.proofs.Common.{◌<◌, List, length, sym, ap, ◌∙◌, arith}
use Rattle.pair_split.specs.Tutte.{Node, node_at}
use Rattle.spqr_tree.proofs.NodeLists.{length-nodes, nodes-at}
use Rattle.spqr_tree.proofs.nodes.Nodes.kind.Goals as goal

pub index-requires : goal.index-requires
index-requires c = omega (arith, c.requires, c.self.inside.kinds.ok.0, length-nodes c.self.inside.kinds.items c.self.inside.vertices c.self.inside.items, ap length c.self.view_is)

pub returns : goal.returns
returns c =
    let kinds = c.self.inside.kinds.items in
    let within : c.args.k < length kinds = omega (arith, c.requires, length-nodes kinds c.self.inside.vertices c.self.inside.items, ap length c.self.view_is) in
    c.index.ensures ∙ sym (ap (λ (n : Node). n.kind) (nodes-at kinds c.self.inside.vertices c.self.inside.items c.args.k c.index.result.now within)) ∙ ap (λ (nodes : List Node). (node_at nodes c.args.k).kind) c.self.view_is
