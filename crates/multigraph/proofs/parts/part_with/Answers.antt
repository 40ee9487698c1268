use Rattle.std.proofs.Common.{ℕ, List, ◌∙◌, sym, subst, arith}
use Rattle.multigraph.specs.Part.{HoldEnds}
use Rattle.multigraph.proofs.Ends.{inner-graph-by, inner-limits-by}
use Rattle.multigraph.proofs.parts.part_with.Goals as goal

pub inner_ends-requires-clause-held : goal.inner_ends-requires-clause-held
inner_ends-requires-clause-held c = subst (λ (l : List ℕ). HoldEnds c.args.graph.now c.args.edges.now l) (sym c.deref.ensures.value) c.requires.ends

-- the part is a graph
pub of_ends-requires-clause-graph : goal.of_ends-requires-clause-graph
of_ends-requires-clause-graph c =
    inner-graph-by c.args.graph.now c.args.edges.now c.args.vertices.items c.deref.result.now c.in_ok-ends.ends.items c.len.result
    c.keeps_limits.ensures.graph c.requires.edges_within c.deref.ensures.value c.in_ok-ends.ensures (c.len.ensures ∙ c.args.vertices.ok.0)

-- within the limits, as the whole is
pub of_ends-requires-clause-limits : goal.of_ends-requires-clause-limits
of_ends-requires-clause-limits c =
    inner-limits-by c.args.graph.now c.args.edges.now c.deref.result.now c.in_ok-ends.ends.items c.len.result
    c.keeps_limits.ensures.limits c.requires.increasing_edges c.requires.edges_within c.in_ok-ends.ensures (omega (arith, c.len.ensures, c.args.vertices.ok.0, c.requires.few))
