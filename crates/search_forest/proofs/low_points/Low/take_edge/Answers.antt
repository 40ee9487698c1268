use Rattle.std.proofs.Common.{sym, ◌∙◌}
use Rattle.search_forest.proofs.HandedOn.{edge-can, edge-returns}
use Rattle.search_forest.proofs.Lows.{edge-passed}
use Rattle.search_forest.proofs.low_points.Low.take_edge.Goals as goal

pub returns-then-is_tree_edge : goal.returns-then-is_tree_edge
returns-then-is_tree_edge c = edge-passed c.args.graph.now c.requires.graph c.args.search.now c.requires.over c.args.self.now c.args.edge c.requires.low (sym c.is_tree_edge.ensures ∙ c.if-is_tree_edge.true)

pub take-requires : goal.take-requires
take-requires c =
    edge-can c.args.graph.now c.requires.graph c.args.search.now c.requires.over c.args.self.now c.args.edge c.lower_end-lower.result c.upper_end-upper.result c.depths.result.now c.requires.low c.requires.edge_in
    c.lower_end-lower.ensures c.upper_end-upper.ensures c.depths.ensures

pub returns : goal.returns
returns c =
    edge-returns c.args.graph.now c.requires.graph c.args.search.now c.requires.over c.args.self.now c.take.new.self c.args.edge c.lower_end-lower.result c.upper_end-upper.result c.depths.result.now c.requires.low c.requires.edge_in
    (sym c.is_tree_edge.ensures ∙ c.if-is_tree_edge.false) c.lower_end-lower.ensures c.upper_end-upper.ensures c.depths.ensures c.take.ensures
