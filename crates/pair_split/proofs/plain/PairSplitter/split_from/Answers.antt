use Rattle.std.proofs.Common.{arith}
use Rattle.std.proofs.lemmas.Result.{IfOk-weaker}
use Rattle.multigraph.specs.Graph.{edge_count}
use Rattle.pair_split.specs.Split.{IsSplit}
use Rattle.pair_split.specs.State.{AreSplitComponents}
use Rattle.pair_split.specs.Splitting.{state_of}
use Rattle.pair_split.specs.declared.components.Comps.{Comps}
use Rattle.pair_split.specs.declared.components.Kind.TheVariants.{B}
use Rattle.pair_split.proofs.SplitSteps.{start-split}
use Rattle.pair_split.proofs.plain.PairSplitter.split_from.Goals as goal

pub returns-then-edge_count-lt3 : goal.returns-then-edge_count-lt3
returns-then-edge_count-lt3 g c = IfOk-weaker c.write_state.result
    (λ (comps : Comps). AreSplitComponents (edge_count c.args.g.now) (state_of c.in_ok-start.start.parts.items c.in_ok-start.start.current.items) B comps.list)
    (λ (comps : Comps). IsSplit c.args.g.now comps.list)
    (λ comps w. start-split c.args.g.now c.edge_count.ensures.graph c.requires.block (omega (arith, c.edge_count.ensures.value, c.if-edge_count-lt3.true)) c.in_ok-start.start.parts.items c.in_ok-start.start.current.items c.in_ok-start.ensures.parts c.in_ok-start.ensures.current comps.list w)
    c.write_state.ensures
