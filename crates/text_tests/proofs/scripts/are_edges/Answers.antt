use Rattle.std.proofs.Common.{◌<◌, arith}
use Rattle.std.proofs.lemmas.List.Elements.{All-from_get_or}
use Rattle.multigraph.specs.Graph.{edge_count}
use Rattle.text_tests.proofs.scripts.are_edges.Goals as goal

pub returns : goal.returns
returns c e =
    let numbers = c.args.numbers.now in
    All-from_get_or (λ n. n < edge_count c.args.g.now) numbers 0 (λ k l. c.loop-number.invariant k (omega (arith, l, c.loop-number-test.false)))
