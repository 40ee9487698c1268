use Rattle.std.proofs.Common.{◌≢◌, ℕ, ◌<◌}
use Rattle.pair_split.specs.declared.components.What.TheVariants.{Link}
use Rattle.skeletons.specs.Items.{nth_item}
use Rattle.long_face.proofs.links.link_to.Given as goal

abbrev pub invariant-loop-i : goal.invariant-loop-i
invariant-loop-i l = (h : ℕ) → h < l.i → (nth_item l.items h).what ≢ Link l.j
