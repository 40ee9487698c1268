use Rattle.std.proofs.Common.{◌+◌, ◌≤◌, true, length, slice_index, ap, ◌∙◌, arith}
use Rattle.std.proofs.lemmas.Result.{IfOk-weaker}
use Rattle.split_comp.specs.Pass.{PassState, IsReducedOnce, weight}
use Rattle.split_comp.proofs.SplitOff.{apart-one, end-start, end-can, end-few, end-low, end-low-apart, end-weight, end-joins, end-once}
use Rattle.split_comp.proofs.AsFar.{one-cut, tree-cuts, apart-cuts}
use Rattle.split_comp.proofs.pass.Pass.split_pair.Goals as goal

pub frond_from-frond-requires : goal.frond_from-frond-requires
frond_from-frond-requires g c = end-start c.args.g.now c.args.tree.now c.requires.numbered c.args.self.now c.requires.back c.requires.fresh c.requires.no_triangle c.requires.cut c.here-v.result c.args.last c.drop_cut.new.self c.here-v.ensures c.requires.last c.drop_cut.ensures

pub split_off-requires : goal.split_off-requires
split_off-requires g c = record { can = end-can c.args.g.now c.args.tree.now c.requires.numbered c.args.self.now c.requires.back c.requires.fresh c.requires.no_triangle c.requires.cut c.here-v.result c.args.last c.drop_cut.new.self c.here-v.ensures c.requires.last c.drop_cut.ensures }

pub push_apart-requires-clause-low : goal.push_apart-requires-clause-low
push_apart-requires-clause-low g c = end-low c.args.g.now c.args.tree.now c.requires.numbered c.args.self.now c.requires.back c.requires.fresh c.requires.no_triangle c.requires.cut c.here-v.result c.args.last c.drop_cut.new.self c.here-v.ensures c.requires.last c.drop_cut.ensures c.split_off.new.self c.in_ok-name.ensures.split_off

pub add_tree_edge-requires-clause-can : goal.add_tree_edge-requires-clause-can
add_tree_edge-requires-clause-can g c = end-joins c.args.g.now c.args.tree.now c.requires.numbered c.args.self.now c.requires.back c.requires.fresh c.requires.no_triangle c.requires.cut c.here-v.result c.args.last c.drop_cut.new.self c.here-v.ensures c.requires.last c.drop_cut.ensures c.frond_from-frond.result c.frond_from-frond.ensures.found
    c.split_off.new.self c.in_ok-name.ensures.split_off c.in_ok-name.name c.in_ok-name.ensures.name c.push_apart.new.self c.in_ok-push_apart.ensures.apart c.start_of-start.result (c.start_of-start.ensures ∙ ap (slice_index c.args.self.now.start) c.child.ensures)

pub add_tree_edge-requires-clause-low : goal.add_tree_edge-requires-clause-low
add_tree_edge-requires-clause-low g c = end-low-apart c.args.g.now c.args.tree.now c.requires.numbered c.args.self.now c.requires.back c.requires.fresh c.requires.no_triangle c.requires.cut c.here-v.result c.args.last c.drop_cut.new.self c.here-v.ensures c.requires.last c.drop_cut.ensures c.frond_from-frond.result c.frond_from-frond.ensures.found
    c.split_off.new.self c.in_ok-name.ensures.split_off c.in_ok-name.name c.in_ok-name.ensures.name c.push_apart.new.self c.in_ok-push_apart.ensures.apart c.start_of-start.result (c.start_of-start.ensures ∙ ap (slice_index c.args.self.now.start) c.child.ensures)

pub returns-clause-reduced : goal.returns-clause-reduced
returns-clause-reduced g c = IfOk-weaker c.add_tree_edge.result _ (λ x. IsReducedOnce c.args.g.now c.args.tree.now c.args.self.now c.add_tree_edge.new.self true)
    (λ x a. end-once c.args.g.now c.args.tree.now c.requires.numbered c.args.self.now c.requires.back c.requires.fresh c.requires.no_triangle c.requires.cut c.here-v.result c.args.last c.drop_cut.new.self c.here-v.ensures c.requires.last c.drop_cut.ensures c.frond_from-frond.result c.frond_from-frond.ensures.found
    c.split_off.new.self c.in_ok-name.ensures.split_off c.in_ok-name.name c.in_ok-name.ensures.name c.push_apart.new.self c.in_ok-push_apart.ensures.apart c.start_of-start.result (c.start_of-start.ensures ∙ ap (slice_index c.args.self.now.start) c.child.ensures) c.add_tree_edge.new.self a)
    c.add_tree_edge.ensures.added

pub returns-clause-cost : goal.returns-clause-cost
returns-clause-cost g c = IfOk-weaker c.add_tree_edge.result _ (λ x. c.add_tree_edge.new.steps + weight c.add_tree_edge.new.self + 1 ≤ c.args.steps.now + weight c.args.self.now)
    (λ x a. omega (
      arith,
      a,
      c.frond_from-frond.ensures.at_most,
      c.split_off.ensures.at_most,
      c.in_ok-push_apart.ensures.weight,
      apart-one c.frond_from-frond.result,
      end-few c.args.g.now c.args.tree.now c.requires.numbered c.args.self.now c.requires.back c.requires.fresh c.requires.no_triangle c.requires.cut c.here-v.result c.args.last c.drop_cut.new.self c.here-v.ensures c.requires.last c.drop_cut.ensures c.frond_from-frond.result c.frond_from-frond.ensures.found,
      end-weight c.args.g.now c.args.tree.now c.requires.numbered c.args.self.now c.requires.back c.requires.fresh c.requires.no_triangle c.requires.cut c.here-v.result c.args.last c.drop_cut.new.self c.here-v.ensures c.requires.last c.drop_cut.ensures c.split_off.new.self c.in_ok-name.ensures.split_off,
    ))
    c.add_tree_edge.ensures.cost

pub returns-clause-counted : goal.returns-clause-counted
returns-clause-counted g c = IfOk-weaker c.add_tree_edge.result _ (λ x. length c.args.self.now.cuts ≤ length c.add_tree_edge.new.self.cuts + 1)
    (λ x a. one-cut c.args.self.now.cuts c.drop_cut.new.self.cuts c.add_tree_edge.new.self.cuts (ap (λ (s : PassState). s.cuts) c.drop_cut.ensures)
    (tree-cuts c.args.g.now c.args.tree.now.vertex c.in_ok-name.name c.here-v.result c.args.last.low c.start_of-start.result c.push_apart.new.self c.add_tree_edge.new.self a
    ∙ apart-cuts c.frond_from-frond.result c.here-v.result c.args.last.low c.args.last.start c.split_off.new.self c.push_apart.new.self c.in_ok-push_apart.ensures.apart
    ∙ ap (λ (s : PassState). s.cuts) c.in_ok-name.ensures.split_off.now))
    c.add_tree_edge.ensures.added
