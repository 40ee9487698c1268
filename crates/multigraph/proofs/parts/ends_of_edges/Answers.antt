use Rattle.std.proofs.Common.{ℕ, List, ◌∷◌, ◌++◌, [], ap, ◌∙◌, subst}
use Rattle.std.proofs.lemmas.List.{take_all}
use Rattle.multigraph.specs.Part.{AreEnds}
use Rattle.multigraph.proofs.Ends.{ends-more-by}
use Rattle.multigraph.proofs.parts.ends_of_edges.Goals as goal

-- the two ends of the edge of this turn stand behind the others
pub loop-edge-preserved : goal.loop-edge-preserved
loop-edge-preserved c =
    ends-more-by c.args.graph.now c.args.edges.now c.loop-edge.edge-index c.loop-edge.ends.items c.push-in-loop-edge.new.self.items c.ends-first.result
    c.loop-edge-test.true (c.requires c.loop-edge.edge-index c.loop-edge-test.true) c.ends-first.ensures.value (c.in_ok-push-2.ensures.items ∙ ap (λ (l : List ℕ). l ++ c.ends-first.result.1 ∷ []) c.in_ok-push.ensures.items) c.loop-edge.invariant

-- all edges were met
pub returns : goal.returns
returns c = subst (λ (l : List ℕ). AreEnds c.args.graph.now l c.loop-edge.ends.items) (take_all c.loop-edge.edge-index c.args.edges.now c.loop-edge-test.false) c.loop-edge.invariant
