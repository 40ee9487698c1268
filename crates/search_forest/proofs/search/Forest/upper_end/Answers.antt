use Rattle.std.proofs.Common.{◌≡◌, ℕ, true, sym, subst}
use Rattle.multigraph.specs.Graph.{is_end}
use Rattle.search_forest.proofs.Grown.{lower-end}
use Rattle.search_forest.proofs.search.Forest.upper_end.Goals as goal

pub other_end-requires-clause-end : goal.other_end-requires-clause-end
other_end-requires-clause-end c = subst (λ (z : ℕ). is_end c.args.graph.now z c.args.edge ≡ true) (sym c.lower_end-lower.ensures) (lower-end c.args.graph.now c.requires.graph c.args.self.now c.requires.over c.args.edge c.requires.edge_in)
