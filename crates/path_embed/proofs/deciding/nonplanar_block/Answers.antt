use Rattle.std.proofs.Common.{◌<◌, ℕ, List, length, slice_index, sym, subst}
use Rattle.multigraph.specs.Graph.{edge_count}
use Rattle.multigraph.specs.Part.{IsPart}
use Rattle.blocks.specs.Blocks.{block_at}
use Rattle.blocks.proofs.BlockParts.{block-edges_in, part-one_block}
use Rattle.path_embed.proofs.OneEdge.{part-of, part-answer}
use Rattle.path_embed.proofs.deciding.nonplanar_block.Goals as goal

pub part-requires-clause-within : goal.part-requires-clause-within
part-requires-clause-within c =
    subst (λ (edges : List ℕ). (i : ℕ) → i < length edges → slice_index edges i < edge_count c.args.g.now) (sym c.edges.ensures) (block-edges_in c.args.g.now c.args.blocks.now.blocks c.args.b c.requires.structure.blocks c.requires.block)

pub obstacle_in-requires-clause-part : goal.obstacle_in-requires-clause-part
obstacle_in-requires-clause-part c =
    let is : IsPart c.args.g.now (block_at c.args.blocks.now.blocks c.args.b) c.in_ok-block.block = subst (λ (edges : List ℕ). IsPart c.args.g.now edges c.in_ok-block.block) c.edges.ensures c.in_ok-block.ensures in
    part-of c.args.g.now (block_at c.args.blocks.now.blocks c.args.b) c.in_ok-block.block is (block-edges_in c.args.g.now c.args.blocks.now.blocks c.args.b c.requires.structure.blocks c.requires.block)

pub obstacle_in-requires-clause-one : goal.obstacle_in-requires-clause-one
obstacle_in-requires-clause-one c =
    let is : IsPart c.args.g.now (block_at c.args.blocks.now.blocks c.args.b) c.in_ok-block.block = subst (λ (edges : List ℕ). IsPart c.args.g.now edges c.in_ok-block.block) c.edges.ensures c.in_ok-block.ensures in
    part-one_block c.args.g.now c.args.blocks.now.blocks c.args.b c.in_ok-block.block c.requires.structure.blocks c.requires.block is

pub returns : goal.returns
returns c =
    let is : IsPart c.args.g.now (block_at c.args.blocks.now.blocks c.args.b) c.in_ok-block.block = subst (λ (edges : List ℕ). IsPart c.args.g.now edges c.in_ok-block.block) c.edges.ensures c.in_ok-block.ensures in
    part-answer c.args.g.now (block_at c.args.blocks.now.blocks c.args.b) c.in_ok-block.block is c.in_ok-answer.answer c.in_ok-answer.ensures
