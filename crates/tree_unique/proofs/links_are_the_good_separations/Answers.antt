use Rattle.tree_unique.proofs.SameTrees.{links-good, good-links, sides-tell}
use Rattle.tree_unique.proofs.links_are_the_good_separations.Goals as goal

pub returns : goal.returns
returns c = record { good = links-good; all = good-links; once = sides-tell }
