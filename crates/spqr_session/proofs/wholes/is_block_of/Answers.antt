use Rattle.std.proofs.Common.{◌<◌, List, ℕ, get_or, sym, subst}
use Rattle.permutations.proofs.Arrangements.{member-at}
use Rattle.multigraph.specs.Graph.{edge_count}
use Rattle.blocks.specs.Blocks.{block_at}
use Rattle.spqr_session.proofs.wholes.is_block_of.Goals as goal

pub is_edge_of-requires-clause-edge : goal.is_edge_of-requires-clause-edge
is_edge_of-requires-clause-edge c =
    let blocks = c.requires.structure.blocks in
    let own = block_at c.args.scene.now.blocks.blocks c.args.b in
    subst (λ (l : List ℕ). get_or l 0 0 < edge_count c.args.scene.now.named.graph) (sym c.edges.ensures)
    (blocks.edges c.args.b (get_or own 0 0) c.requires.block (member-at own 0 0 (blocks.not_empty c.args.b c.requires.block)))
