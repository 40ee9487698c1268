use Rattle.std.proofs.Common.{◌+◌, ◌∙◌, List, length, sym, ap, subst, arith}
use Rattle.pair_split.specs.declared.components.Item.{Item}
use Rattle.skeletons.proofs.NodeItems.{nth_item}
use Rattle.skel_compose.specs.Homes.{HasHomes}
use Rattle.skel_compose.proofs.Found.{items-few, home-below, is-home, homes-more, homes-pass}
use Rattle.skel_compose.proofs.homes.put_homes.Goals.{in-Real, in_default}
use Rattle.skel_compose.proofs.homes.put_homes.Goals as goal

pub overflow_cast-i-end : goal.overflow_cast-i-end
overflow_cast-i-end c = omega (arith, ap length c.items-items.ensures, items-few c.args.g.now c.args.tree.now c.requires.block c.args.k c.requires.node c.requires.limits)

pub bounds-homes-e : goal.bounds-homes-e
bounds-homes-e c = home-below c.args.g.now c.args.tree.now c.requires.block.tree c.args.k c.loop-i.i c.in-Real.e (length c.loop-i.homes) c.loop-i.invariant.each
    (is-home c.args.tree.now c.args.k c.loop-i.i c.in-Real.e c.items-items.result.now c.items-items.ensures c.loop-i-test.true c.in-Real.is)

-- one item more
pub loop-i-preserved : goal.loop-i-preserved
loop-i-preserved c = elim c.match-items-i.branch [
  | in-Real w ↦ subst (HasHomes c.args.g.now c.args.tree.now c.args.k (c.loop-i.i + 1)) (sym w.homes-is) (homes-more c.args.g.now c.args.tree.now c.requires.block.tree c.args.k c.loop-i.i w.in-Real.e c.loop-i.homes c.loop-i.invariant
      (is-home c.args.tree.now c.args.k c.loop-i.i w.in-Real.e c.items-items.result.now c.items-items.ensures c.loop-i-test.true w.in-Real.is))
  | in_default w ↦ subst (HasHomes c.args.g.now c.args.tree.now c.args.k (c.loop-i.i + 1)) (sym w.homes-is) (homes-pass c.args.g.now c.args.tree.now c.requires.block.tree c.args.k c.loop-i.i c.loop-i.homes c.loop-i.invariant
      (λ e q. w.in_default.not-Real e (ap (λ (z : List Item). (nth_item z c.loop-i.i).what) c.items-items.ensures ∙ q)))
]
