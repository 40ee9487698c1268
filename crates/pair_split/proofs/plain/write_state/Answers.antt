use Rattle.std.proofs.Common.{ℕ, IfOk, sym, subst}
use Rattle.multigraph.specs.Graph.{edge_count}
use Rattle.pair_split.specs.State.{SplitState, AreSplitComponents}
use Rattle.pair_split.specs.Splitting.{state_of}
use Rattle.pair_split.specs.Writing.{IsListed}
use Rattle.pair_split.proofs.WritingSteps.{state-listed}
use Rattle.pair_split.proofs.plain.write_state.Goals as goal

pub write_components-requires-clause-listed : goal.write_components-requires-clause-listed
write_components-requires-clause-listed g c = subst (λ (m : ℕ). IsListed m (state_of c.deref.result.now c.deref-2.result.now)) (sym c.edge_count.ensures.value)
    (subst (λ (state : SplitState). IsListed (edge_count c.args.g.now) state) (sym (λ i. state_of (c.deref.ensures.value i) (c.deref-2.ensures.value i)))
    (state-listed c.args.g.now (state_of c.args.splitting.now.parts.items c.args.splitting.now.current.items) c.requires.state))

pub returns : goal.returns
returns g c = subst (λ (state : SplitState). IfOk c.write_components.result (λ comps. AreSplitComponents (edge_count c.args.g.now) state c.args.kind comps.list)) (λ i. state_of (c.deref.ensures.value i) (c.deref-2.ensures.value i))
    (subst (λ (m : ℕ). IfOk c.write_components.result (λ comps. AreSplitComponents m (state_of c.deref.result.now c.deref-2.result.now) c.args.kind comps.list)) c.edge_count.ensures.value c.write_components.ensures.components)
