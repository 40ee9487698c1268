use Rattle.std.proofs.Common.{ℕ, ap, ◌∙◌, sym, subst}
use Rattle.std.specs.List.{Contains}
use Rattle.multigraph.proofs.Ends.{ends-first, ends-second, inner-more-by}
use Rattle.multigraph.proofs.parts.inner_ends.Goals as goal

-- both ends have a place
pub place_of-requires-clause-held : goal.place_of-requires-clause-held
place_of-requires-clause-held c =
    subst (λ (x : ℕ × ℕ). Contains c.args.vertices.now x.0) (sym c.ends-first.ensures.value)
    (ends-first c.args.graph.now c.args.edges.now c.args.vertices.now c.loop-edge.edge-index c.requires.held c.loop-edge-test.true (c.requires.within c.loop-edge.edge-index c.loop-edge-test.true))

pub place_of-requires-in-loop-edge-clause-held : goal.place_of-requires-in-loop-edge-clause-held
place_of-requires-in-loop-edge-clause-held c =
    subst (λ (x : ℕ × ℕ). Contains c.args.vertices.now x.1) (sym c.ends-first.ensures.value)
    (ends-second c.args.graph.now c.args.edges.now c.args.vertices.now c.loop-edge.edge-index c.requires.held c.loop-edge-test.true (c.requires.within c.loop-edge.edge-index c.loop-edge-test.true))

-- the places of the ends of this edge stand behind the others
pub loop-edge-preserved : goal.loop-edge-preserved
loop-edge-preserved c =
    inner-more-by c.args.graph.now c.args.edges.now c.args.vertices.now c.loop-edge.edge-index c.loop-edge.ends.items c.push.new.self.items c.place_of.result c.place_of-in-loop-edge.result
    c.loop-edge-test.true c.loop-edge.invariant c.place_of.ensures.within (c.place_of.ensures.is ∙ ap (λ (x : ℕ × ℕ). x.0) c.ends-first.ensures.value)
    c.place_of-in-loop-edge.ensures.within (c.place_of-in-loop-edge.ensures.is ∙ ap (λ (x : ℕ × ℕ). x.1) c.ends-first.ensures.value) c.in_ok-push.ensures.items
