use Rattle.multigraph.proofs.Ends.{ends-sorted, once-rises, ends-few}
use Rattle.multigraph.proofs.parts.end_vertices.Goals as goal

-- sorted and each once, they rise
pub returns-clause-rising : goal.returns-clause-rising
returns-clause-rising c = once-rises c.sort_unstable.new.self.items c.dedup.new.self.items c.sort_unstable.ensures.sorted c.dedup.ensures.filtered

-- they are the ends still
pub returns-clause-ends : goal.returns-clause-ends
returns-clause-ends c = ends-sorted c.args.graph.now c.args.edges.now c.in_ok-vertices.vertices.items c.sort_unstable.new.self.items c.dedup.new.self.items c.in_ok-vertices.ensures c.sort_unstable.ensures.permutation c.dedup.ensures.filtered

-- and few, as vertices
pub returns-clause-few : goal.returns-clause-few
returns-clause-few c =
    ends-few c.args.graph.now c.args.edges.now c.dedup.new.self.items c.keeps_limits.ensures.graph c.keeps_limits.ensures.limits
    (once-rises c.sort_unstable.new.self.items c.dedup.new.self.items c.sort_unstable.ensures.sorted c.dedup.ensures.filtered)
    (ends-sorted c.args.graph.now c.args.edges.now c.in_ok-vertices.vertices.items c.sort_unstable.new.self.items c.dedup.new.self.items c.in_ok-vertices.ensures c.sort_unstable.ensures.permutation c.dedup.ensures.filtered)
