use Rattle.std.proofs.Common.{List, subst}
use Rattle.std.proofs.lemmas.Result.{IfOk-weaker}
use Rattle.multigraph.specs.Graph.{edge_count}
use Rattle.pair_split.specs.Edges.{family_skeleton}
use Rattle.pair_split.specs.Skeleton.{IsSkeleton}
use Rattle.pair_split.specs.Split.{IsSplit}
use Rattle.pair_split.specs.Bridges.{family_of}
use Rattle.pair_split.specs.State.{AreSplitComponents}
use Rattle.pair_split.specs.Splitting.{state_of}
use Rattle.pair_split.specs.declared.components.Comps.{Comps}
use Rattle.pair_split.specs.declared.family.NamedEdge.{NamedEdge}
use Rattle.pair_split.proofs.Finish.{state-end}
use Rattle.pair_split.proofs.plain.write_end.Goals as goal

pub returns : goal.returns
returns g c = IfOk-weaker c.write_state.result
    (λ (comps : Comps). AreSplitComponents (edge_count c.args.g.now) (state_of c.args.end.now.parts.items c.args.end.now.current.items) c.kind_of_all-kind.result comps.list)
    (λ (comps : Comps). IsSplit c.args.g.now comps.list)
    (λ comps w. state-end c.args.g.now (state_of c.args.end.now.parts.items c.args.end.now.current.items) c.requires.state.state c.kind_of_all-kind.result comps.list w c.requires.block.at_edge
    (subst (λ (edges : List NamedEdge). IsSkeleton c.kind_of_all-kind.result (family_skeleton (family_of edges))) c.deref.ensures.value c.kind_of_all-kind.ensures.skeleton)
    (λ e. absurd (c.kind_of_all-kind.ensures.large e)))
    c.write_state.ensures
