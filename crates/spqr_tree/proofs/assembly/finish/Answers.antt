use Rattle.std.proofs.Common.{sym, ◌∙◌}
use Rattle.pair_split.proofs.GraphFamily.{one_block-tight}
use Rattle.std.proofs.lemmas.List.{length-map}
use Rattle.spqr_tree.specs.Ranking.{rank_of, ranks_of}
use Rattle.spqr_tree.proofs.KeysRooted.{rooted-within, rooted-apart}
use Rattle.spqr_tree.proofs.NodesMade.{tutte-made}
use Rattle.spqr_tree.proofs.assembly.finish.Goals as goal

pub nodes_of-requires-clause-number : goal.nodes_of-requires-clause-number
nodes_of-requires-clause-number c = sym (length-map c.args.ranks.now rank_of) ∙ c.requires.arranged.number

pub nodes_of-requires-clause-within : goal.nodes_of-requires-clause-within
nodes_of-requires-clause-within c = λ k l. rooted-within c.args.g.now c.args.comps.now c.requires.arranged.split (one_block-tight c.args.g.now c.requires.block) c.args.parents.now c.args.least.now c.requires.rooted k

pub nodes_of-requires-clause-apart : goal.nodes_of-requires-clause-apart
nodes_of-requires-clause-apart c = λ k l. rooted-apart c.args.g.now c.args.comps.now c.requires.arranged.split (one_block-tight c.args.g.now c.requires.block) c.args.parents.now c.args.least.now c.requires.rooted k

-- the nodes are the tree
pub tour_of-requires-clause-tree : goal.tour_of-requires-clause-tree
tour_of-requires-clause-tree c = (
  c.args.g.now,
  (tutte-made c.args.g.now c.args.comps.now (ranks_of c.args.ranks.now) c.args.parents.now c.args.least.now c.in_ok-nodes.nodes c.requires.block c.requires.arranged c.requires.rooted c.in_ok-nodes.ensures.nodes c.in_ok-nodes.ensures.keys),
  c.requires.block.has_edge,
  c.edge_count.ensures.value,
)

pub returns : goal.returns
returns c = tutte-made c.args.g.now c.args.comps.now (ranks_of c.args.ranks.now) c.args.parents.now c.args.least.now c.in_ok-nodes.nodes c.requires.block c.requires.arranged c.requires.rooted c.in_ok-nodes.ensures.nodes c.in_ok-nodes.ensures.keys
