use Rattle.pair_split.proofs.TreeSides.{all-linked, beyond-other, beyond-some, beyond-apart}
use Rattle.pair_split.proofs.Rerooted.{rerooted, rerooted-root}
use Rattle.pair_split.proofs.laws.links_are_a_tree.Goals as goal

pub returns : goal.returns
returns c = record {
  connect = all-linked;
  sides = beyond-other;
  beyond = beyond-some;
  once = beyond-apart;
  root = λ comps a r l. (rerooted comps a r l, rerooted-root comps a r l);
}
