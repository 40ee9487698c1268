use Rattle.std.proofs.Common.{◌<◌, All, sym, subst}
use Rattle.multigraph.specs.Graph.{edge_count}
use Rattle.spqr_script.proofs.Within.{round-within}
use Rattle.spqr_session.proofs.commands.kept_line.KeptLine.renew_entry.Goals as goal

-- the edges around a vertex are those of the part
pub set_numbers-requires : goal.set_numbers-requires
set_numbers-requires c =
    let g = c.args.part.now.graph in
    subst (All (λ e. e < edge_count g)) (sym c.list.ensures) (round-within g c.args.r.now c.args.v c.requires.system c.requires.vertex)
