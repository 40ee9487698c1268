use Rattle.std.proofs.Common.{All, ◌<◌, sym, subst}
use Rattle.multigraph.specs.Graph.{edge_count}
use Rattle.spqr_script.proofs.Within.{round-within}
use Rattle.spqr_script.proofs.answers.rotation.push_entry.Goals as goal

pub push_edges-requires : goal.push_edges-requires
push_edges-requires c =
    let g = c.args.part.now.graph in
    subst (All (λ e. e < edge_count g)) (sym c.at.ensures) (round-within g c.args.lists.now c.args.v c.requires.system c.requires.vertex)
