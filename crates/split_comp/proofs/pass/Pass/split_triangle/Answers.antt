use Rattle.std.proofs.Common.{◌+◌, ◌-◌, ◌≤◌, ℕ, true, length, ap, arith}
use Rattle.std.proofs.lemmas.Result.{IfOk-weaker}
use Rattle.split_comp.specs.Pass.{PassState, IsReducedOnce, weight}
use Rattle.split_comp.proofs.SplitOff.{corner-can, corner-joins, corner-low, corner-weight, corner-once, two-items}
use Rattle.split_comp.proofs.AsFar.{tree-cuts}
use Rattle.split_comp.proofs.pass.Pass.split_triangle.Goals as goal

pub split_off-requires : goal.split_off-requires
split_off-requires g c = record { can = corner-can c.args.g.now c.args.tree.now c.requires.numbered c.args.self.now c.requires.back c.requires.fresh c.requires.triangle c.here-v.result (c.height-place.result - 2) c.item_at-below.result c.here-v.ensures (ap (λ (k : ℕ). k - 2) c.height-place.ensures) c.item_at-below.ensures }

pub add_tree_edge-requires-clause-can : goal.add_tree_edge-requires-clause-can
add_tree_edge-requires-clause-can g c = corner-joins c.args.g.now c.args.tree.now c.requires.numbered c.args.self.now c.requires.back c.requires.fresh c.requires.triangle c.here-v.result (c.height-place.result - 2) c.item_at-below.result c.here-v.ensures (ap (λ (k : ℕ). k - 2) c.height-place.ensures) c.item_at-below.ensures
    c.split_off.new.self c.in_ok-name.ensures.split_off c.in_ok-name.name c.in_ok-name.ensures.name

pub add_tree_edge-requires-clause-low : goal.add_tree_edge-requires-clause-low
add_tree_edge-requires-clause-low g c = corner-low c.args.g.now c.args.tree.now c.requires.numbered c.args.self.now c.requires.back c.requires.fresh c.requires.triangle c.here-v.result (c.height-place.result - 2) c.item_at-below.result c.here-v.ensures (ap (λ (k : ℕ). k - 2) c.height-place.ensures) c.item_at-below.ensures
    c.split_off.new.self c.in_ok-name.ensures.split_off c.in_ok-name.name c.in_ok-name.ensures.name

pub returns-clause-reduced : goal.returns-clause-reduced
returns-clause-reduced g c = IfOk-weaker c.add_tree_edge.result _ (λ x. IsReducedOnce c.args.g.now c.args.tree.now c.args.self.now c.add_tree_edge.new.self true)
    (λ x a. corner-once c.args.g.now c.args.tree.now c.requires.numbered c.args.self.now c.requires.back c.requires.fresh c.requires.triangle c.here-v.result (c.height-place.result - 2) c.item_at-below.result c.here-v.ensures (ap (λ (k : ℕ). k - 2) c.height-place.ensures) c.item_at-below.ensures
    c.split_off.new.self c.in_ok-name.ensures.split_off c.in_ok-name.name c.in_ok-name.ensures.name c.add_tree_edge.new.self a)
    c.add_tree_edge.ensures.added

pub returns-clause-cost : goal.returns-clause-cost
returns-clause-cost g c = IfOk-weaker c.add_tree_edge.result _ (λ x. c.add_tree_edge.new.steps + weight c.add_tree_edge.new.self + 1 ≤ c.args.steps.now + weight c.args.self.now)
    (λ x a. omega (
      arith,
      a,
      c.split_off.ensures.at_most,
      c.height-place.ensures,
      two-items c.args.g.now c.args.tree.now c.requires.numbered c.args.self.now c.requires.back,
      corner-weight c.args.g.now c.args.tree.now c.requires.numbered c.args.self.now c.requires.back c.requires.fresh c.requires.triangle c.here-v.result (c.height-place.result - 2) c.item_at-below.result c.here-v.ensures (ap (λ (k : ℕ). k - 2) c.height-place.ensures) c.item_at-below.ensures
          c.split_off.new.self c.in_ok-name.ensures.split_off c.in_ok-name.name c.in_ok-name.ensures.name,
    ))
    c.add_tree_edge.ensures.cost

pub returns-clause-counted : goal.returns-clause-counted
returns-clause-counted g c = IfOk-weaker c.add_tree_edge.result _ (λ x. length c.args.self.now.cuts ≤ length c.add_tree_edge.new.self.cuts)
    (λ x a. omega (arith, ap length (tree-cuts c.args.g.now c.args.tree.now.vertex c.in_ok-name.name c.here-v.result c.item_at-below.result.low c.item_at-below.result.start c.split_off.new.self c.add_tree_edge.new.self a), ap (λ (s : PassState). length s.cuts) c.in_ok-name.ensures.split_off.now))
    c.add_tree_edge.ensures.added
