use Rattle.std.proofs.Common.{◌≡◌, ◌≤◌, ◌∙◌, ap, subst, sym, arith}
use Rattle.multigraph.specs.Graph.{Multigraph, max_vertices}
use Rattle.faces.specs.Euler.{dart_count}
use Rattle.triangulations.specs.Pairs.{KnowsPairs}
use Rattle.triangulations.proofs.FillLoop.{AreFilled, filled-start, filled-more, filled-end}
use Rattle.triangulations.proofs.filling.fill_faces.Goals as goal

pub loop-dart-init : goal.loop-dart-init
loop-dart-init c = record {
  filled = filled-start c.args.g.now c.args.map.now c.requires.map;
  pairs = subst (λ h. KnowsPairs h c.in_ok-pairs.pairs.held) (sym c.requires.graph) c.in_ok-pairs.ensures;
}

pub fill-requires-clause-few : goal.fill-requires-clause-few
fill-requires-clause-few c = subst (λ n. n ≤ max_vertices) (sym (c.loop-dart.invariant.filled.vertices ∙ ap (λ (h : Multigraph). h.vertex_count) c.requires.graph)) c.requires.few

pub fill-requires-clause-dart : goal.fill-requires-clause-dart
fill-requires-clause-dart c =
    let e : dart_count c.args.map.now.graph ≡ dart_count c.args.g.now = ap dart_count c.requires.graph in
    omega (arith, c.loop-dart-test.true, c.dart_count-dart-end.ensures.value, c.loop-dart.invariant.filled.larger, e)

pub loop-dart-preserved : goal.loop-dart-preserved
loop-dart-preserved c = record {
  filled = filled-more c.args.g.now c.loop-dart.dart c.args.map.now c.loop-dart.map c.fill.new.map c.loop-dart.invariant.filled c.in_ok-fill.ensures.filled;
  pairs = c.in_ok-fill.ensures.pairs;
}

pub returns : goal.returns
returns c = filled-end c.args.g.now c.args.map.now c.loop-dart.map (subst (λ k. AreFilled c.args.g.now k c.args.map.now c.loop-dart.map) e c.loop-dart.invariant.filled)
  where
    e : c.loop-dart.dart ≡ dart_count c.args.g.now
    e = omega (arith, c.loop-dart-test.false, c.loop-dart.auto.dart-end, c.dart_count-dart-end.ensures.value)
