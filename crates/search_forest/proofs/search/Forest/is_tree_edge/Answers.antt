use Rattle.std.proofs.Common.{◌==◌, ℕ, get_or, ap, ◌∙◌, arith}
use Rattle.search_forest.proofs.Grown.{lower-in}
use Rattle.search_forest.proofs.search.Forest.is_tree_edge.Goals as goal

pub parent_edge_of-requires : goal.parent_edge_of-requires
parent_edge_of-requires c = omega (arith, c.lower_end-lower.ensures, lower-in c.args.graph.now c.requires.graph c.args.self.now c.requires.over c.args.edge c.requires.edge_in, c.requires.over.forest.places.parent_edge)

pub returns : goal.returns
returns c = ap (λ (z : ℕ). z == c.args.edge) (c.parent_edge_of.ensures ∙ ap (λ (z : ℕ). get_or c.args.self.now.parent_edge z 0) c.lower_end-lower.ensures)
