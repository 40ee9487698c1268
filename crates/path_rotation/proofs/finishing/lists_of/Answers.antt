use Rattle.std.proofs.Common.{ℕ, ◌+◌, ◌<◌, sym, subst, arith}
use Rattle.permutations.specs.Cyclic.{first_or}
use Rattle.multigraph.specs.Graph.{incident_edges}
use Rattle.faces.specs.Euler.{dart_from, dart_count}
use Rattle.path_rotation.specs.Finish.{ArePassed, AreListed}
use Rattle.path_rotation.proofs.Finished.{passed-any, listed-more, least-below}
use Rattle.path_rotation.proofs.finishing.lists_of.Goals as goal

pub edges_from-requires-clause-first : goal.edges_from-requires-clause-first
edges_from-requires-clause-first c = λ p. subst (λ (d : ℕ). d < dart_count c.args.g.now) (sym (c.least_dart.ensures (omega (arith, p, c.degree.ensures)))) (least-below c.args.g.now c.loop-v.v (omega (arith, p, c.degree.ensures)))

pub loop-v-preserved : goal.loop-v-preserved
loop-v-preserved c =
    let g = c.args.g.now in
    let v = c.loop-v.v in
    subst (AreListed g c.args.next.now (v + 1)) (sym c.in_ok-push.ensures)
    (listed-more g c.args.next.now v c.loop-v.lists c.deref.result.now c.loop-v.invariant
    (subst (ArePassed c.args.next.now (dart_from g v (first_or 0 (incident_edges g v))) _) (sym c.deref.ensures.value)
    (passed-any c.args.next.now c.least_dart.result (dart_from g v (first_or 0 (incident_edges g v))) _ c.edges_from.new.edges.items c.least_dart.ensures
    (subst (λ (k : ℕ). ArePassed c.args.next.now c.least_dart.result k c.edges_from.new.edges.items) c.degree.ensures c.in_ok-edges_from.ensures))))
