use Rattle.graph_theory.proofs.Counting.{Two}
use Rattle.pair_split.proofs.GraphFamily.{one_block-tight}
use Rattle.pair_split.proofs.LargeSides.{side-two, node-touch}
use Rattle.pair_split.proofs.Separations.{link-separation, link-other}
use Rattle.pair_split.proofs.laws.links_are_separations.Goals as goal

pub returns : goal.returns
returns c = record {
  separation = λ g comps b s. link-separation g b comps s;
  opposite = link-other;
  large = λ g comps b s k j l.
      let w : Two (_) (_) = side-two g comps s (one_block-tight g b) k j l in
      (w.first, w.second, w.differ, w.first_in, w.second_in, w.first_on, w.second_on);
  touched = λ g comps b s. node-touch g comps s (one_block-tight g b);
}
