use Rattle.std.proofs.Common.{sym, ◌∙◌, arith}
use Rattle.std.proofs.lemmas.Bool.{false≢true, eqb-true, eq-eqb}
use Rattle.blocks.proofs.OneBlock.{one_block-from, one_block-edges, one_block-count}
use Rattle.blocks.proofs.one_block.is_one_block.Goals as goal
use Rattle.blocks.proofs.one_block.is_one_block.Goals.{then-edge_count-eq0-via-then-edge_count-eq0, then-edge_count-eq0-via-else-edge_count-eq0+then-has_lone_vertex}

pub returns-then-edge_count-eq0 : goal.returns-then-edge_count-eq0
returns-then-edge_count-eq0 c = (
  λ f. absurd (false≢true f),
  λ block. elim c.then-edge_count-eq0.branch [
    | then-edge_count-eq0-via-then-edge_count-eq0 w ↦ absurd (omega (arith, c.edge_count.ensures.value, w.if-edge_count-eq0.true, block.has_edge))
    | then-edge_count-eq0-via-else-edge_count-eq0+then-has_lone_vertex w ↦ let v = w.has_lone_vertex.ensures.lone w.if-has_lone_vertex.true in absurd (one_block-edges c.args.g.now block v.0 v.1 v.2)
  ],
)

pub returns : goal.returns
returns c = (
  λ t. one_block-from c.args.g.now c.in_ok-found.found.blocks c.in_ok-found.ensures.blocks (omega (arith, c.edge_count.ensures.value, c.if-edge_count-eq0.false)) (c.has_lone_vertex.ensures.none c.if-has_lone_vertex.false) (sym c.block_count.ensures ∙ eqb-true c.block_count.result 1 t),
  λ block. eq-eqb c.block_count.result 1 (c.block_count.ensures ∙ one_block-count c.args.g.now c.in_ok-found.found.blocks c.in_ok-found.ensures.blocks block),
)
